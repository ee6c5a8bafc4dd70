-- Months over in a year: a day of the year lies in one month, for any list of lengths. Assumes nothing.
use Rattle.std.specs.Prelude.{ℕ, zero, suc, ◌+◌, ◌-◌, ◌<◌, ◌≤◌, ◌≡◌, refl, Bool, true, false, cond, List, [], ◌∷◌, length, get_or, take, drop, ltb}
use Rattle.std.proofs.Common.{ap, ◌∙◌, drop_of_length-le, drop-cons, arith}
use borrow.Author.Tests.{ltb-true, ltb-false, lt-ltb, le-ltb}
use Rattle.dates.specs.Calendar.{total, months_over}

-- day k lies in month `months_over ls k`: it is one of the months, and k lies between its first day and its last
pub record InMonth (ls : List ℕ) (k m : ℕ) : Type 0 where
  pub month : m < length ls
  pub begun : total (take m ls) ≤ k
  pub not_over : k < total (take m ls) + get_or ls m 0

pub month_found : (ls : List ℕ) (k : ℕ) → k < total ls → InMonth ls k (months_over ls k)
unfolding months_over
month_found [] k h = absurd (omega arith)
month_found (l ∷ ls) k h = go (month_found ls (k - l)) (ltb k l) refl
  where
    go : (k - l < total ls → InMonth ls (k - l) (months_over ls (k - l))) → (b : Bool) → ltb k l ≡ b → InMonth (l ∷ ls) k (cond b 0 (suc (months_over ls (k - l))))
    go behind true e = record { month = omega arith; begun = omega arith; not_over = omega (arith, ltb-true k l e) }
    go behind false e =
        let o = ltb-false k l e in
        let r = behind (omega arith) in
        record { month = omega arith; begun = omega arith; not_over = omega arith }

-- and in no other
pub month_unique : (ls : List ℕ) (m d : ℕ) → m < length ls → d < get_or ls m 0 → months_over ls (total (take m ls) + d) ≡ m
unfolding months_over
month_unique [] m d h k = absurd (omega arith)
month_unique (l ∷ ls) zero d h k = rw (lt-ltb (0 + d) l (omega arith))
month_unique (l ∷ ls) (suc m) d h k = rw (le-ltb (l + total (take m ls) + d) l (omega arith)) (ap suc (ap (months_over ls) (omega arith) ∙ month_unique ls m d (omega arith) k))

-- all the months before one, and it, are all the months up to the next
pub take_next : (ls : List ℕ) (m : ℕ) → m < length ls → total (take (suc m) ls) ≡ total (take m ls) + get_or ls m 0
take_next [] m h = absurd (omega arith)
take_next (l ∷ ls) zero h = omega arith
take_next (l ∷ ls) (suc m) h = omega (arith, take_next ls m (omega arith))

pub within_all : (ls : List ℕ) (m d : ℕ) → m < length ls → d < get_or ls m 0 → total (take m ls) + d < total ls
within_all [] m d h k = absurd (omega arith)
within_all (l ∷ ls) zero d h k = omega arith
within_all (l ∷ ls) (suc m) d h k = omega (arith, within_all ls m d (omega arith) k)

pub take_all : (ls : List ℕ) → total (take (length ls) ls) ≡ total ls
take_all [] = refl
take_all (l ∷ ls) = omega (arith, take_all ls)

pub take_below : (ls : List ℕ) (m : ℕ) → total (take m ls) ≤ total ls
take_below [] zero = omega arith
take_below [] (suc m) = omega arith
take_below (l ∷ ls) zero = omega arith
take_below (l ∷ ls) (suc m) = omega (arith, take_below ls m)

-- for a loop over the months
module _ (ls : List ℕ) (over left : ℕ) where
  pub over_stops : over < length ls → left < get_or ls over 0 → months_over (drop over ls) left ≡ 0
  unfolding months_over
  over_stops h k = rw (drop-cons ls over 0, lt-ltb left (get_or ls over 0) k)

  pub over_goes_on : over < length ls → get_or ls over 0 ≤ left → months_over (drop over ls) left ≡ suc (months_over (drop (suc over) ls) (left - get_or ls over 0))
  unfolding months_over
  over_goes_on h k = rw (drop-cons ls over 0, le-ltb left (get_or ls over 0) k)

  pub over_ends : length ls ≤ over → months_over (drop over ls) left ≡ 0
  unfolding months_over
  over_ends h = rw (drop_of_length-le ls h)
