-- A loop that prints lines into a room: what the room holds when it has come to line i, and what the answer is when it stops. Assumes nothing.
use mathlib.Core.Path.{◌≡◌, sym, ap, ap₂, ◌∙◌}
use mathlib.Core.List.{List, [], ◌∷◌, ◌++◌, append-nil}
use Prim.Native.Nat.{ℕ, suc, ◌+◌, ◌-◌, ◌≤◌, ◌<◌}
use native.Mathlib.Omega.{arith}
use lib.ListN.{length, take, drop, get_or, length-append, length-drop}
use lib.Seq.{take_at, drop_at, drop-drop, take-suc, get_or-drop}
use Rattle.listing.specs.declared.Part.{Part}
use Rattle.listing.specs.Parts.{concat, concat_append, fitting, lines_in, part_of, part_answer, part_held, fitting_next, fitting_full, fitting_end}

abbrev the : ℕ → ℕ → Part
the n b = record { lines = n; bytes = b }

-- the bytes of the lines from `from` up to, not including, i
abbrev pub up_to : List (List ℕ) → ℕ → ℕ → List ℕ
up_to lines from i = concat (take (i - from) (drop from lines))

pub record Printed (lines : List (List ℕ)) (from : ℕ) (room₀ room : List ℕ) (i at : ℕ) : Type 0 where
  pub forward : from ≤ i
  pub inside : at ≤ length room₀
  pub so_far : at ≡ length (up_to lines from i)
  pub held : room ≡ up_to lines from i ++ drop at room₀
  pub left : lines_in lines from (length room₀) ≡ (i - from) + fitting (length room₀ - at) (drop i lines)

module _ (lines : List (List ℕ)) (from : ℕ) (room₀ : List ℕ) where
  none_yet : up_to lines from from ≡ []
  none_yet = let none : from - from ≡ 0 = omega arith in rw none

  pub start : Printed lines from room₀ room₀ from 0
  start = record {
    forward = omega arith;
    inside = omega arith;
    so_far = rw none_yet;
    held = rw none_yet;
    left = let all : length room₀ - 0 ≡ length room₀ = omega arith in let none : from - from ≡ 0 = omega arith in rw (all, none) (omega arith);
  }

  module _ {room : List ℕ} {i at : ℕ} (p : Printed lines from room₀ room i at) where
    pub room_length : length room ≡ length room₀
    room_length = ap length p.held ∙ rw length-append (rw length-drop (omega (arith, p.inside, p.so_far)))

    -- one line more
    module _ (more : i < length lines) where
      one_more : up_to lines from (i + 1) ≡ up_to lines from i ++ get_or lines i []
      one_more =
          ap (λ (n : ℕ). concat (take n (drop from lines))) next_count
          ∙ ap concat (take-suc (drop from lines) (i - from) [] (rw length-drop (omega (arith, p.forward))))
          ∙ concat_append (take (i - from) (drop from lines)) (get_or (drop from lines) (i - from) [] ∷ [])
          ∙ ap (λ (r : List ℕ). up_to lines from i ++ r) (append-nil (get_or (drop from lines) (i - from) []) ∙ get_or-drop from lines (i - from) [] ∙ ap (λ (n : ℕ). get_or lines n []) here)
        where
          next_count : (i + 1) - from ≡ suc (i - from)
          next_count = omega (arith, p.forward)

          here : from + (i - from) ≡ i
          here = omega (arith, p.forward)

      pub next : (room' : List ℕ) → length (get_or lines i []) ≤ length room₀ - at → room' ≡ take at room ++ get_or lines i [] ++ drop (at + length (get_or lines i [])) room → Printed lines from room₀ room' (i + 1) (at + length (get_or lines i []))
      next room' fits e = record {
        forward = omega (arith, p.forward);
        inside = omega (arith, p.inside);
        so_far = rw one_more (rw length-append (omega (arith, p.so_far)));
        held = e ∙ rw p.held (ap₂ (λ (a b : List ℕ). a ++ get_or lines i [] ++ b) (take_at (up_to lines from i) (drop at room₀) at (sym p.so_far)) behind) ∙ ap (λ (a : List ℕ). a ++ drop (at + length (get_or lines i [])) room₀) (sym one_more);
        left = p.left ∙ rw (fitting_next lines i (length room₀ - at) more fits) (rw less (omega (arith, p.forward)));
      }
        where
          behind : drop (at + length (get_or lines i [])) (up_to lines from i ++ drop at room₀) ≡ drop (at + length (get_or lines i [])) room₀
          behind =
              sym (drop-drop (length (get_or lines i [])) at (up_to lines from i ++ drop at room₀))
              ∙ ap (drop (length (get_or lines i []))) (drop_at (up_to lines from i) (drop at room₀) at (sym p.so_far))
              ∙ drop-drop (length (get_or lines i [])) at room₀

          less : length room₀ - (at + length (get_or lines i [])) ≡ length room₀ - at - length (get_or lines i [])
          less = omega arith

    -- no line more
    stop : fitting (length room₀ - at) (drop i lines) ≡ 0 → (◌≡◌ {A = Part} (record { lines = i - from; bytes = at }) (part_answer lines from (length room₀))) × (room ≡ part_held lines from room₀)
    stop none = (ap₂ (λ (n b : ℕ). the n b) (sym count) (p.so_far ∙ ap length (sym whole)), p.held ∙ ap₂ (λ (a : List ℕ) (n : ℕ). a ++ drop n room₀) (sym whole) (p.so_far ∙ ap length (sym whole)))
      where
        count : lines_in lines from (length room₀) ≡ i - from
        count = p.left ∙ rw none (omega arith)

        whole : part_of lines from (length room₀) ≡ up_to lines from i
        whole = ap (λ (n : ℕ). concat (take n (drop from lines))) count

    pub stop_full : i < length lines → length room₀ - at < length (get_or lines i []) → (◌≡◌ {A = Part} (record { lines = i - from; bytes = at }) (part_answer lines from (length room₀))) × (room ≡ part_held lines from room₀)
    stop_full more full = stop (fitting_full lines i (length room₀ - at) more full)

    pub stop_end : length lines ≤ i → (◌≡◌ {A = Part} (record { lines = i - from; bytes = at }) (part_answer lines from (length room₀))) × (room ≡ part_held lines from room₀)
    stop_end end = stop (fitting_end lines i (length room₀ - at) end)
