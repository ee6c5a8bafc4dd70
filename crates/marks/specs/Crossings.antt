-- What the list of marks is measured by (document 01, "Marks"): the crossings of a value, time order, and marks by their indices. Assumes nothing: these are definitions.
use mathlib.Core.List.{List, [], ◌∷◌, Memᴰ}
use Rattle.std.specs.Prelude.{ℕ, zero, suc, ℤ, pos, ◌+ℤ◌, ◌-ℤ◌, ◌*ℤ◌, ◌≤ℤ◌, ◌<ℤ◌}
use Rattle.marks.specs.Marks.{Mark}

-- "Mark j is at second s when the value at s is at least j marks and the value at s - 1 is less; s - 1 must be in the span"
pub record Crossing (v : ℤ → ℤ) (size : ℕ) (first last : ℤ) (m : Mark) : Type 0 where
  pub after_first : first <ℤ m.second
  pub by_last : m.second ≤ℤ last
  pub less_before : v (m.second -ℤ pos 1) <ℤ (m.index *ℤ pos size)
  pub reached_here : (m.index *ℤ pos size) ≤ℤ v m.second

-- mark j at second s
abbrev pub marked : ℤ → ℤ → Mark
marked j s = record { index = j; second = s }

infix 4 ◌∈◌
abbrev pub ◌∈◌ : Mark → List Mark → Type 0
m ∈ l = Memᴰ m l

-- each mark of a list comes before all that follow it, by second and by index
abbrev pub InTimeOrder : List Mark → Type 0
InTimeOrder [] = Unit
InTimeOrder (m ∷ l) = ((n : Mark) → n ∈ l → (m.second <ℤ n.second) × (m.index <ℤ n.index)) × InTimeOrder l

-- the n marks from index j on, each at the second that `at` gives
unfoldable pub numbered : (ℤ → ℤ) → ℤ → ℕ → List Mark
numbered at j zero = []
numbered at j (suc n) = marked j (at j) ∷ numbered at (j +ℤ pos 1) n
