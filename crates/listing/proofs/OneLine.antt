-- A listing that is one line: what its parts are. Assumes nothing.
use mathlib.Core.Path.{◌≡◌, refl, ◌∙◌}
use mathlib.Core.List.{List, [], ◌∷◌, ◌++◌, append-nil}
use Prim.Native.Nat.{ℕ, zero, suc, ◌+◌, ◌≤◌, ◌<◌}
use native.Mathlib.Omega.{arith}
use borrow.Author.Tests.{lt-ltb, le-ltb}
use lib.ListN.{length, take, drop}
use lib.Seq.{drop-nil}
use native.Mathlib.Nat.{zero-add}
use Rattle.listing.specs.declared.Part.{Part}
use Rattle.listing.specs.Parts.{fitting, part_answer, part_held}

-- an answer, and what the room holds
abbrev pub Answered : List (List ℕ) → ℕ → List ℕ → Part → List ℕ → Type 0
Answered lines from room r room' = (r ≡ part_answer lines from (length room)) × (room' ≡ part_held lines from room)

module _ (line room : List ℕ) where
  pub past : (from : ℕ) → 0 < from → Answered (line ∷ []) from room (record { lines = 0; bytes = 0 }) room
  unfolding fitting
  past zero h = absurd (omega arith)
  past (suc n) h = rw (drop-nil n) (refl, refl)

  pub no_room : (from : ℕ) → from ≤ 0 → length room < length line → Answered (line ∷ []) from room (record { lines = 0; bytes = 0 }) room
  unfolding fitting
  no_room zero z h = rw (lt-ltb (length room) (length line) h) (refl, refl)
  no_room (suc n) z h = absurd (omega arith)

  pub all_put : (from : ℕ) → from ≤ 0 → length line ≤ length room → (room' : List ℕ) → room' ≡ take 0 room ++ line ++ drop (0 + length line) room → Answered (line ∷ []) from room (record { lines = 1; bytes = length line }) room'
  unfolding fitting
  all_put zero z h room' e = rw (le-ltb (length room) (length line) h) (rw append-nil (refl, e ∙ rw zero-add))
  all_put (suc n) z h room' e = absurd (omega arith)
