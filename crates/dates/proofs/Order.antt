-- One date before another, by year, month and day: a later day has a later date (`later_day_later_date`). Assumes nothing.
use Prim.Native.Nat.{ℕ, zero, suc, ◌+◌, ◌-◌, ◌<◌, ◌≤◌}
use Rattle.std.specs.Prelude.{◌≡◌, Bool, true, false, List, [], ◌∷◌, ℤ, pos, length, take, ◌≤ℤ◌, ◌<ℤ◌}
use Rattle.std.proofs.Math.Path.{refl}
use Rattle.std.proofs.Common.{ap, ⊎_elim, arith}
use Rattle.std.proofs.Math.Decide.{dec_lt}
use Rattle.whole.specs.Parts.{◌≺◌, ℤ_rules}
use Rattle.whole.specs.Laws.{≤_total, ≤_antisymm, <-≤_trans, <→≤}
use Rattle.whole.specs.Solver.{⇓, ring}
use Rattle.whole.specs.Order.{first_by, less_first, same_then, same_not, not_both_first}
use Rattle.dates.specs.declared.Date.{Date}
use Rattle.dates.specs.Calendar.{new_year, lengths_in, total, year_length, year_of, months_over, date_in_year, date_for}
use Rattle.dates.proofs.theory.Years.{year_found, one_year}
use Rattle.dates.proofs.theory.Months.{InMonth, month_found, take_next}
use Rattle.dates.proofs.theory.Days.{days_over, day_is_lem, day_within, date_is}

-- where the dates are the same, what comes behind them decides
unfoldable pub date_first : Date → Date → Bool → Bool
date_first d e behind = first_by d.year e.year (first_by d.month e.month (first_by d.day e.day behind))

module _ (d e : Date) (behind : Bool) where
  pub same_date_then : d ≡ e → behind ≡ true → date_first d e behind ≡ true
  unfolding date_first
  same_date_then q h = same_then _ _ _ (ap (λ (x : Date). x.year) q) (same_then _ _ _ (ap (λ (x : Date). x.month) q) (same_then _ _ _ (ap (λ (x : Date). x.day) q) h))

  pub same_date_not : d ≡ e → behind ≡ false → date_first d e behind ≡ false
  unfolding date_first
  same_date_not q h = same_not _ _ _ (ap (λ (x : Date). x.year) q) (same_not _ _ _ (ap (λ (x : Date). x.month) q) (same_not _ _ _ (ap (λ (x : Date). x.day) q) h))

pub not_both_dates_first : (d e : Date) (behind ahead : Bool) → (behind ≡ true → ahead ≡ false) → date_first d e behind ≡ true → date_first e d ahead ≡ false
unfolding date_first
not_both_dates_first d e behind ahead h = not_both_first _ _ _ _ (not_both_first _ _ _ _ (not_both_first _ _ _ _ h))

-- ---- months over, in order
taken_in_order : (ls : List ℕ) (m k : ℕ) → m + k ≤ length ls → total (take m ls) ≤ total (take (m + k) ls)
taken_in_order ls m zero h = let e : m + 0 ≡ m = omega arith in rw e (omega arith)
taken_in_order ls m (suc k) h =
    let e : m + suc k ≡ suc (m + k) = omega arith in
    rw e (omega (arith, taken_in_order ls m k (omega arith), take_next ls (m + k) (omega arith)))

module _ {ls : List ℕ} {k k' m m' : ℕ} (here : InMonth ls k m) (there : InMonth ls k' m') (h : k < k') where
  months_in_order : m ≤ m'
  months_in_order = go (dec_lt m' m)
    where
      go : Dec (m' < m) → m ≤ m'
      go (no n) = omega arith
      go (yes n) =
          let e : suc m' + (m - suc m') ≡ m = omega arith in
          let upto : total (take (suc m') ls) ≤ total (take m ls) = rw e at (taken_in_order ls (suc m') (m - suc m') (omega (arith, here.month))) in
          absurd (omega (arith, upto, take_next ls m' there.month, here.begun, there.not_over))

-- ---- two days of one year
module _ (y : ℤ) (k k' : ℕ) (h : k < k') (h' : k' < year_length y) (behind : Bool) where
  in-one-year : date_first (date_in_year y k) (date_in_year y k') behind ≡ true
  unfolding date_first date_in_year
  in-one-year = same_then y y _ refl (go (dec_lt m m'))
    where
      m : ℕ
      m = months_over (lengths_in y) k

      m' : ℕ
      m' = months_over (lengths_in y) k'

      here : InMonth (lengths_in y) k m
      here = month_found (lengths_in y) k (omega arith)

      there : InMonth (lengths_in y) k' m'
      there = month_found (lengths_in y) k' h'

      go : Dec (m < m') → first_by (pos (suc m)) (pos (suc m')) (first_by (pos (suc (k - total (take m (lengths_in y))))) (pos (suc (k' - total (take m' (lengths_in y))))) behind) ≡ true
      go (yes l) = less_first (pos (suc m)) (pos (suc m')) _ (omega ℤ_rules)
      go (no l) =
          let same : m ≡ m' = omega (arith, months_in_order here there h) in
          let taken : total (take m (lengths_in y)) ≡ total (take m' (lengths_in y)) = ap (λ (x : ℕ). total (take x (lengths_in y))) same in
          same_then (pos (suc m)) (pos (suc m')) _ (ap (λ (x : ℕ). pos (suc x)) same)
          (less_first (pos (suc (k - total (take m (lengths_in y))))) (pos (suc (k' - total (take m' (lengths_in y))))) behind (omega (ℤ_rules, taken, here.begun, there.begun)))

-- ---- two days of two years
in-two-years : (y y' : ℤ) (k k' : ℕ) → y ≺ y' → (behind : Bool) → date_first (date_in_year y k) (date_in_year y' k') behind ≡ true
unfolding date_first date_in_year
in-two-years y y' k k' h behind = less_first y y' _ h

-- ---- any two days
pub later_day_later_date : (n n' : ℤ) → n ≺ n' → (behind : Bool) → date_first (date_for n) (date_for n') behind ≡ true
later_day_later_date n n' h behind =
    rw (date_is n, date_is n') (⊎_elim same_year (λ (l : year_of n <ℤ year_of n'). in-two-years (year_of n) (year_of n') (days_over n) (days_over n') l behind) (≤_total (year_of n') (year_of n)))
  where
    same_year : year_of n' ≤ℤ year_of n → date_first (date_in_year (year_of n) (days_over n)) (date_in_year (year_of n') (days_over n')) behind ≡ true
    same_year l =
        let e : year_of n ≡ year_of n' = ≤_antisymm (one_year {n = n} (year_found n).0 (<-≤_trans h (<→≤ (year_found n').1))) l in
        let ρ = n ∷ n' ∷ new_year (year_of n') ∷ pos (days_over n) ∷ pos (days_over n') ∷ [] in
        let k : days_over n < days_over n' = omega (arith, ⇓ ρ h (search ring), ⇓ ρ (rw e at (day_is_lem n)) (search ring), ⇓ ρ (day_is_lem n') (search ring)) in
        rw e (in-one-year (year_of n') (days_over n) (days_over n') k (day_within n') behind)
