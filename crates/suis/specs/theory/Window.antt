-- The month rule by a part of the new-moon days: from month 11 on, a part that reaches past the second solstice or to the last new moon finds the same days as all
-- of them; and where fifteen in turn are not after the second solstice, there are more than thirteen months. Assumes nothing.
use Rattle.std.specs.Prelude.{◌≡◌, Bool, cond, not, ◌⊎◌, List, ◌++◌, ℕ, ◌+◌, ◌-◌, ◌≤◌, ◌<◌, ℤ, pos, drop, ◌≤ℤ◌}
use Rattle.std.proofs.Math.Path.{refl, sym, ap}
use Rattle.std.proofs.Common.{◌∙◌, zero-add}
use Rattle.std.proofs.Math.Bool.{true, false}
use Rattle.std.proofs.Math.Logic.{⊎_elim}
use native.Mathlib.Omega.{arith}
use borrow.Author.Tests.{leb-true, leb-false, le-leb, lt-leb, ne_eqb}
use Rattle.std.proofs.Math.Dec.{leb}
use Rattle.std.proofs.Math.ListN.{take, replicate}
use Rattle.whole.specs.Tabulated.{tabulate, length_tabulate}
use Rattle.whole.specs.Selected.{tabulate_same, tabulate_part}
use Rattle.refusals.specs.Verdict.{Verdict, answered, refused, refuse_when, ◌before◌}
use Rattle.months.specs.declared.SuiDays.{SuiDays}
use Rattle.months.specs.Months.{first_solstice, second_solstice, by_first, by_second, is_missing, moon_missing, month_count, twelve_or_thirteen, days_found, days_of}
use Rattle.turns.specs.theory.Counting.{Rises, by, by_small, by_later}
use Rattle.suis.specs.Ahead.{crowded}
use Rattle.suis.specs.theory.Counted.{from_place, by_part}

module _ {A : Type 0} (listed by : ℕ) where
  pub crowded_eight : listed ≤ by → ◌≡◌ {A = Verdict A} (refused 8 0) (crowded listed by)
  unfolding crowded
  crowded_eight h = rw (le-leb listed by h)

  pub crowded_nine : by < listed → ◌≡◌ {A = Verdict A} (refused 9 0) (crowded listed by)
  unfolding crowded
  crowded_nine h = rw (lt-leb listed by h)

module _ (f : ℕ → ℤ) (n : ℕ) (r : Rises f n) (zhongqi : List ℤ) (ordered : first_solstice zhongqi ≤ℤ second_solstice zhongqi) where
  -- all of the days, and how many are not after each solstice
  abbrev all : List ℤ
  all = tabulate f n

  abbrev first : ℕ
  first = by f (first_solstice zhongqi) n

  abbrev second : ℕ
  second = by f (second_solstice zhongqi) n

  no_fewer : first ≤ second
  no_fewer = by_later f n r (first_solstice zhongqi) (second_solstice zhongqi) ordered

  module _ (some : 0 < first) (w : ℕ) (inside : first - 1 + w ≤ n) where
    -- from month 11's new moon on
    abbrev m : ℕ
    m = first - 1

    abbrev part : List ℤ
    part = tabulate (from_place f m) w

    -- the part reaches past the second solstice, or to the last
    module _ (reaches : second ≤ m + w) (past : (second < m + w) ⊎ (m + w ≡ n)) where
      first_in_part : by_first part zhongqi ≡ 1
      unfolding by_first
      first_in_part = by_part f n r m w inside (first_solstice zhongqi) (omega arith) (omega (arith, no_fewer)) ∙ one
        where
          one : first - m ≡ 1
          one = omega arith

      second_in_part : by_second part zhongqi ≡ second - m
      unfolding by_second
      second_in_part = by_part f n r m w inside (second_solstice zhongqi) (omega (arith, no_fewer)) reaches

      same_missing : moon_missing part zhongqi ≡ moon_missing all zhongqi
      unfolding moon_missing is_missing by_first by_second
      same_missing =
          rw (first_in_part, second_in_part, length_tabulate (from_place f m) w, length_tabulate f n, ne_eqb first 0 (λ e. omega arith)) tests
        where
          tests : leb w (second - m) ≡ leb n second
          tests = ⊎_elim
              (λ (l : second < m + w). lt-leb w (second - m) (omega (arith, no_fewer)) ∙ sym (lt-leb n second (omega arith)))
              (λ (e : m + w ≡ n). go (leb n second) refl e)
              past
            where
              go : (b : Bool) → leb n second ≡ b → m + w ≡ n → leb w (second - m) ≡ b
              go true q e = le-leb w (second - m) (omega (arith, leb-true n second q))
              go false q e = lt-leb w (second - m) (omega (arith, leb-false n second q, no_fewer))

      same_count : month_count part zhongqi ≡ month_count all zhongqi
      unfolding month_count by_first by_second
      same_count = rw (first_in_part, second_in_part) (omega arith)

      -- the new moons of the sui stand in the part as they do among all
      same_moons : (c : ℕ) → m + c ≡ second → take c (drop (1 - 1) part) ≡ take c (drop m all)
      same_moons c e =
          tabulate_part (from_place f m) w 0 c (omega arith)
          ∙ tabulate_same c (λ k h. ap (λ (j : ℕ). f (m + j)) (zero-add k))
          ∙ sym (tabulate_part f n m c (omega (arith, by_small f (second_solstice zhongqi) n)))

      same_days_lem : days_found part zhongqi ≡ days_found all zhongqi
      unfolding days_found month_count by_first by_second
      same_days_lem =
          let count = same_count in
          let moons : take (month_count part zhongqi + 1) (drop (by_first part zhongqi - 1) part) ≡ take (month_count all zhongqi + 1) (drop (by_first all zhongqi - 1) all) = rw (count, first_in_part) (same_moons (second - first + 1) (omega (arith, no_fewer))) in
          λ t. record {
            months = count t;
            moons = moons t ++ replicate (14 - (count t + 1)) (pos 0);
            zhongqi = zhongqi;
          }

      pub window_same : days_of part zhongqi ≡ days_of all zhongqi
      unfolding days_of
      window_same = rw (same_missing, same_count) (go (moon_missing all zhongqi) refl (twelve_or_thirteen (month_count all zhongqi)) refl)
        where
          go : (p : Bool) → moon_missing all zhongqi ≡ p → (q : Bool) → twelve_or_thirteen (month_count all zhongqi) ≡ q → refuse_when p 8 before refuse_when (not q) 9 before answered (days_found part zhongqi) ≡ refuse_when p 8 before refuse_when (not q) 9 before answered (days_found all zhongqi)
          go true p q e = refl
          go false p false e = refl
          go false p true e = ap answered same_days_lem

  -- more than thirteen months
  module _ (some : 0 < first) (more : first + 14 ≤ second) where
    pub crowded_is : crowded n second ≡ days_of all zhongqi
    unfolding crowded days_of moon_missing is_missing by_first by_second month_count twelve_or_thirteen
    crowded_is = rw (length_tabulate f n, ne_eqb first 0 (λ e. omega arith), ne_eqb (second - first) 12 (λ e. omega arith), ne_eqb (second - first) 13 (λ e. omega arith)) (go (leb n second))
      where
        nine : Verdict SuiDays
        nine = refused 9 0

        go : (b : Bool) → cond b (refused 8 0) nine ≡ refuse_when b 8 before nine
        go true = refl
        go false = refl
