-- The marks that a value passes, second by second (document 01, "Marks"), over any value `v` of seconds and any size of a mark.
-- Assumes nothing: these are definitions.
use Rattle.std.specs.Prelude.{ℕ, zero, suc, cond, List, [], ◌∷◌, ◌++◌, ℤ, pos, ◌+ℤ◌, ◌-ℤ◌}
use Rattle.std.specs.Int.Signed.{lt_z, le_z}
use Rattle.whole.specs.Floor.{floor_div}
use Rattle.whole.specs.Distance.{distance_from}

-- "A listed mark is its index and its second."
pub record Mark : Type 0 where
  pub index : ℤ
  pub second : ℤ

-- how many marks the value at a second has reached: the greatest j of which j marks are at most the value
unfoldable pub index_at : (ℤ → ℤ) → ℕ → ℤ → ℤ
index_at v size s = floor_div (v s) size

-- what a second lists. "Mark j is at second s when the value at s is at least j marks and the value at s - 1 is less": a value that rises by less than a
-- mark from a second to the next reaches at most one mark there.
unfoldable pub mark_at : (ℤ → ℤ) → ℕ → ℤ → List Mark
mark_at v size s =
    cond (lt_z (index_at v size (s -ℤ pos 1)) (index_at v size s))
    (record { index = index_at v size s; second = s } ∷ [])
    []

-- what the n seconds after s list, in turn. Second s itself lists nothing: "s - 1 must be in the span, so a mark at the first second is not listed".
unfoldable pub marks_after : (ℤ → ℤ) → ℕ → ℤ → ℕ → List Mark
marks_after v size s zero = []
marks_after v size s (suc n) = mark_at v size (s +ℤ pos 1) ++ marks_after v size (s +ℤ pos 1) n

-- the marks of a stretch, by stepping every second of it
unfoldable pub marks : (ℤ → ℤ) → ℕ → ℤ → ℤ → List Mark
marks v size first last = marks_after v size first (distance_from first last)

-- the first of the n seconds after s at which j marks are reached, by stepping; the last of them where none has reached so many
unfoldable pub second_after : (ℤ → ℤ) → ℕ → ℤ → ℤ → ℕ → ℤ
second_after v size j s zero = s
second_after v size j s (suc n) =
    cond (le_z j (index_at v size (s +ℤ pos 1)))
    (s +ℤ pos 1)
    (second_after v size j (s +ℤ pos 1) n)

-- the second of mark j in a stretch
unfoldable pub second_of : (ℤ → ℤ) → ℕ → ℤ → ℤ → ℤ → ℤ
second_of v size first last j = second_after v size j first (distance_from first last)
