-- The solstices of a year and the zhongqi between two of them, by index: how many solstices fall before each first of January tells the one of a year, and the
-- zhongqi from one solstice to the next are every second mark, 13 of them. Assumes nothing.
use Rattle.std.specs.Prelude.{◌≡◌, Bool, ◌&&◌, ℕ, zero, suc, ◌+◌, ◌*◌, ◌-◌, ◌/◌, ◌≤◌, ◌<◌, eqb, ℤ, ◌+ℤ◌, ◌-ℤ◌, ◌*ℤ◌, ◌≤ℤ◌, ◌<ℤ◌}
use Rattle.std.proofs.Math.Path.{refl, ap}
use Rattle.std.proofs.Common.{sym, ◌∙◌, eqb-true, eq-eqb}
use Rattle.std.proofs.Math.Bool.{true}
use mathlib.Core.List.{List, [], ◌∷◌, ◌++◌, map}
use native.Mathlib.Omega.{arith}
use Rattle.std.proofs.Math.IntN.{pos}
use Rattle.whole.specs.Booleans.{both, both_hold}
use Rattle.whole.specs.Floor.{floor_mod, floor_div}
use Rattle.whole.proofs.Floor.{floor_div_floor_mod, floor_mod_unique}
use Rattle.whole.specs.Parts.{◌⩽◌}
use Rattle.whole.specs.Laws.{≤_trans}
use Rattle.whole.specs.Solver.{⇑, ⇓, ring}
use Rattle.whole.specs.Tabulated.{tabulate}
use Rattle.whole.specs.Tests.{in_range, is_exactly, exactly_says, says_exactly, in_range_says, says_in_range}
use Rattle.refusals.specs.Verdict.{answered, refused, answers_apart, answer_or_refusal}
use Rattle.dates.specs.Calendar.{new_year, year_of}
use Rattle.dates.proofs.theory.Years.{year_found, year_unique}
use Rattle.series.specs.declared.Body.TheVariants.{Sun}
use Rattle.series.specs.Series.{series}
use Rattle.marks.specs.Marks.{Mark}
use Rattle.marks.specs.Listed.{listed_marks, first_reached}
use Rattle.inputs.specs.Inputs.{Inputs, sun, moon, day_of_mark}
use Rattle.inputs.specs.Known.{Known}
use Rattle.whole.specs.Selected.{select, select_both, map_tabulate, tabulate_same, Passing, selected}
use Rattle.sui.specs.Sui.{is_solstice, is_zhongqi, is_new_moon, day_is, new_moon_days, solstices_in, zhongqi_days, one_solstice, solstices_of, zhongqi_days_of, new_moon_days_of}
use Rattle.turns.specs.theory.Counting.{Rises, by, by_small, split, is_by, is_after}
use Rattle.turns.specs.Turns.{is_turn, gap, at_place, is_turn_lem}
use Rattle.turns.specs.Listed.{mark_of, turn_index_of, turns_of, place_in, turn_by_last, listed, nth, listed_is, place_listed, turns_listed, turn_day, turn_days, turn_days_rise}
use Rattle.sui.specs.theory.Solstices.{eve}

-- a day lies in a year exactly if it is after the eve of that year and not after the eve of the next
pub in_year_lem : (year day : ℤ) → eve year <ℤ day → day ≤ℤ eve (year +ℤ pos 1) → is_exactly year (year_of day) ≡ true
in_year_lem year day h k =
    let ρ = new_year year ∷ new_year (year +ℤ pos 1) ∷ day ∷ [] in
    says_exactly year (year_of day)
    (year_unique {n = day} {y = year}
    (⇑ ρ (search ring depth 9) (omega (arith, ⇓ ρ h (search ring depth 9))))
    (⇑ ρ (search ring depth 9) (omega (arith, ⇓ ρ k (search ring depth 9)))))

pub year_in : (year day : ℤ) → is_exactly year (year_of day) ≡ true → (eve year <ℤ day) × (day ≤ℤ eve (year +ℤ pos 1))
year_in year day e =
    let is = exactly_says year (year_of day) e in
    let lies = rw is at (year_found day) in
    let ρ = new_year year ∷ new_year (year +ℤ pos 1) ∷ day ∷ [] in (
      ⇑ ρ (search ring depth 9) (omega (arith, ⇓ ρ lies.0 (search ring depth 9))),
      ⇑ ρ (search ring depth 9) (omega (arith, ⇓ ρ lies.1 (search ring depth 9))),
    )

-- ---- the one of a list
two_or_more : (l : List Mark) (a b : Mark) → one_solstice ((l ++ (a ∷ [])) ++ (b ∷ [])) ≡ refused 8 0
unfolding one_solstice
two_or_more [] a b = refl
two_or_more (x ∷ []) a b = refl
two_or_more (x ∷ y ∷ l) a b = refl

pub one_of : (f : ℕ → Mark) (n : ℕ) → n ≡ 1 → one_solstice (tabulate f n) ≡ answered (f 0)
unfolding one_solstice
one_of f n e = rw e

pub none_of_them : (f : ℕ → Mark) (n : ℕ) → (n ≡ 1 → ⊥) → one_solstice (tabulate f n) ≡ refused 8 0
none_of_them f zero other = unfold one_solstice in refl
none_of_them f (suc zero) other = absurd (other refl)
none_of_them f (suc (suc n)) other = two_or_more (tabulate f n) (f n) (f (suc n))

-- ---- the next solstice is 24 marks on
pub one_circle_on : (start : ℤ) (coefs : List ℤ) (n : ℕ) → turn_index_of (series Sun start coefs) (suc n) ≡ turn_index_of (series Sun start coefs) n +ℤ pos 24
one_circle_on start coefs n =
    let lowest = first_reached (series Sun start coefs) in
    let ρ = lowest ∷ pos (gap Sun lowest) ∷ pos n ∷ [] in
    let more : 24 * suc n ≡ 24 * n + 24 = omega arith in
    rw more (⇑ ρ (search ring depth 9) refl)

-- and where there is one, it is the only one
one_means : (f : ℕ → Mark) (n : ℕ) {m : Mark} → one_solstice (tabulate f n) ≡ answered m → (n ≡ 1) × (f 0 ≡ m)
unfolding one_solstice
one_means f zero e = answer_or_refusal (sym e)
one_means f (suc zero) e = (refl, answers_apart e)
one_means f (suc (suc n)) e = answer_or_refusal (sym e ∙ two_or_more (tabulate f n) (f n) (f (suc n)))

module _ (i : Inputs) (zone : ℤ) (k : Known i) where
  -- the days of the solstices, how many there are, and how many are not after a day
  abbrev pub solstice_day : ℕ → ℤ
  solstice_day = turn_day i.leap (sun i) zone

  abbrev pub solstice : ℕ → Mark
  solstice n = mark_of (sun i) (turn_index_of (sun i) n)

  abbrev pub solstices : ℕ
  solstices = turns_of (sun i)

  abbrev pub solstices_by : ℤ → ℕ
  solstices_by day = by solstice_day day solstices

  rises : Rises solstice_day solstices
  rises = turn_days_rise i.leap (sun i) zone k.sun_ready

  -- ---- those of a year: they stand between the eve of the year and the next
  module _ (year : ℤ) where
    abbrev of_year : Mark → Bool
    of_year m = is_exactly year (year_of (day_is i zone m))

    abbrev before : ℕ
    before = solstices_by (eve year)

    abbrev up_to : ℕ
    up_to = solstices_by (eve (year +ℤ pos 1))

    of_year_lem : Passing of_year solstice (λ n. before + n) solstices (up_to - before)
    unfolding day_of_mark
    of_year_lem =
        record {
          inside = λ n h. omega (arith, by_small solstice_day (eve (year +ℤ pos 1)) solstices);
          pass = λ n h. in_year_lem year (solstice_day (before + n))
              ((split solstice_day (eve year) solstices rises).later (before + n) (omega arith) (omega (arith, by_small solstice_day (eve (year +ℤ pos 1)) solstices)))
              ((split solstice_day (eve (year +ℤ pos 1)) solstices rises).first (before + n) (omega arith));
          no_others = found;
        }
      where
        found : (n : ℕ) → n < solstices → of_year (solstice n) ≡ true → (m : ℕ) × (m < up_to - before) × (before + m ≡ n)
        found n h e =
            let lies = year_in year (solstice_day n) e in
            let low = is_after solstice_day solstices rises (eve year) n h lies.0 in
            let high = is_by solstice_day solstices rises (eve (year +ℤ pos 1)) n h lies.1 in
            (n - before, omega arith, omega arith)

    pub solstices_are : solstices_in i zone year ≡ tabulate (λ n. solstice (before + n)) (up_to - before)
    unfolding solstices_of is_turn is_solstice
    solstices_are =
        select_both is_solstice of_year (listed_marks (sun i)) ∙ ap (select of_year) (turns_listed (sun i) k.sun_ready.is_accepted)
        ∙ selected of_year solstice (λ n. before + n) (λ a b h. omega arith) solstices (up_to - before) of_year_lem

    pub one_in_year : up_to ≡ before + 1 → one_solstice (solstices_in i zone year) ≡ answered (solstice before)
    one_in_year e =
        let first : before + 0 ≡ before = omega arith in
        rw solstices_are (one_of (λ n. solstice (before + n)) (up_to - before) (omega arith) ∙ ap (λ (n : ℕ). answered (solstice n)) first)

    pub in_year_means : {m : Mark} → one_solstice (solstices_in i zone year) ≡ answered m → (up_to ≡ before + 1) × (solstice before ≡ m)
    in_year_means {m} e =
        let first : before + 0 ≡ before = omega arith in
        let means = one_means (λ n. solstice (before + n)) (up_to - before) (rw solstices_are at e) in
        (omega (arith, means.0), ap solstice (sym first) ∙ means.1)

    pub not_one_in_year : before ≤ up_to → (up_to ≡ before + 1 → ⊥) → one_solstice (solstices_in i zone year) ≡ refused 8 0
    not_one_in_year h other = rw solstices_are (none_of_them (λ n. solstice (before + n)) (up_to - before) (λ e. other (omega arith)))

  -- ---- the zhongqi from a solstice to the next
  module _ (n : ℕ) (h : suc n < solstices) where
    abbrev first : ℤ
    first = turn_index_of (sun i) n

    abbrev last : ℤ
    last = turn_index_of (sun i) (suc n)

    pub next_solstice : last ≡ first +ℤ pos 24
    next_solstice = one_circle_on i.sun_start i.sun_coefs n

    -- a solstice has an even index
    even : (half : ℤ) × (first ≡ pos 2 *ℤ half)
    even =
        let ρ = first ∷ floor_div first 24 ∷ [] in
        let whole : first ≡ floor_div first 24 *ℤ pos 24 +ℤ pos 18 = rw (is_turn_lem Sun (first_reached (sun i)) n) at (floor_div_floor_mod first 24 (omega arith)) in
        (pos 12 *ℤ floor_div first 24 +ℤ pos 9, ⇑ ρ (search ring depth 9) (omega (arith, ⇓ ρ whole (search ring depth 9))))

    abbrev between : Mark → Bool
    between m = is_zhongqi m && in_range first last m.index

    -- its place among the listed marks
    abbrev from : ℕ
    from = place_in (sun i) n

    abbrev place : ℕ → ℕ
    place m = from + 2 * m

    abbrev zhongqi : ℕ → ℤ
    zhongqi m = first +ℤ pos (2 * m)

    at_zhongqi : (m : ℕ) → first_reached (sun i) +ℤ pos 1 +ℤ pos (place m) ≡ zhongqi m
    at_zhongqi m = let ρ = first_reached (sun i) ∷ pos (gap Sun (first_reached (sun i))) ∷ pos n ∷ pos m ∷ [] in ⇑ ρ (search ring depth 9) refl

    by_last : (m : ℕ) → m < 13 → (first ⩽ zhongqi m) × (zhongqi m ⩽ last)
    by_last m l =
        let ρ = first ∷ last ∷ pos m ∷ [] in (
          ⇑ ρ (search ring depth 9) (omega arith),
          ⇑ ρ (search ring depth 9) (omega (arith, ⇓ ρ next_solstice (search ring depth 9))),
        )

    thirteen_pass : Passing between (nth (sun i) k.sun_ready.is_accepted) place (listed (sun i) k.sun_ready.is_accepted) 13
    unfolding is_zhongqi
    thirteen_pass =
        record {
          inside = λ m l. place_listed (sun i) k.sun_ready.is_accepted (place m) (rw (at_zhongqi m) (≤_trans (by_last m l).1 (turn_by_last (sun i) (suc n) h)));
          pass = λ m l. rw (at_zhongqi m)
              (both_hold (eqb (floor_mod (zhongqi m) 2) 0) (in_range first last (zhongqi m))
              (eq-eqb (floor_mod (zhongqi m) 2) 0 (is_even m))
              (says_in_range first last (zhongqi m) (by_last m l).0 (by_last m l).1));
          no_others = λ p l e. found p (both (eqb (floor_mod (first_reached (sun i) +ℤ pos 1 +ℤ pos p) 2) 0) (in_range first last (first_reached (sun i) +ℤ pos 1 +ℤ pos p)) e);
        }
      where
        is_even : (m : ℕ) → floor_mod (zhongqi m) 2 ≡ 0
        is_even m = let ρ = first ∷ even.0 ∷ pos m ∷ [] in floor_mod_unique (zhongqi m) (even.0 +ℤ pos m) 2 0 (omega arith) (⇑ ρ (search ring depth 9) (omega (arith, ⇓ ρ even.1 (search ring depth 9))))

        found : (p : ℕ) → (eqb (floor_mod (first_reached (sun i) +ℤ pos 1 +ℤ pos p) 2) 0 ≡ true) × (in_range first last (first_reached (sun i) +ℤ pos 1 +ℤ pos p) ≡ true) → (m : ℕ) × (m < 13) × (place m ≡ p)
        found p tests =
            let z = first_reached (sun i) +ℤ pos 1 +ℤ pos p in
            let lies = in_range_says first last z tests.1 in
            let whole : z ≡ floor_div z 2 *ℤ pos 2 +ℤ pos 0 = rw (eqb-true (floor_mod z 2) 0 tests.0) at (floor_div_floor_mod z 2 (omega arith)) in
            let ρ = first_reached (sun i) ∷ first ∷ last ∷ even.0 ∷ pos p ∷ pos from ∷ floor_div z 2 ∷ [] in
            let begins : first_reached (sun i) +ℤ pos 1 +ℤ pos from ≡ first = at_place Sun (first_reached (sun i)) n in
            let at = ⇓ ρ begins (search ring depth 9) in
            let low = ⇓ ρ lies.0 (search ring depth 9) in
            let high = ⇓ ρ lies.1 (search ring depth 9) in
            let apart = ⇓ ρ next_solstice (search ring depth 9) in
            let later : from ≤ p = omega (arith, at, low) in
            let few : p ≤ from + 24 = omega (arith, at, high, apart) in
            let steps : from + 2 * ((p - from) / 2) ≡ p = omega (arith, at, ⇓ ρ whole (search ring depth 9), ⇓ ρ even.1 (search ring depth 9)) in
            ((p - from) / 2, omega arith, steps)

    -- they are the thirteen marks of every second index
    pub zhongqi_are : zhongqi_days i zone (solstice n) (solstice (suc n)) ≡ tabulate (λ m. (day_of_mark i.leap (sun i) zone (zhongqi m)).0) 13
    unfolding zhongqi_days_of day_of_mark
    zhongqi_are =
        ap (λ (l : List Mark). map (day_is i zone) (select between l)) (listed_is (sun i) k.sun_ready.is_accepted)
        ∙ ap (map (day_is i zone)) (selected between (nth (sun i) k.sun_ready.is_accepted) place (λ a b l. omega arith) (listed (sun i) k.sun_ready.is_accepted) 13 thirteen_pass)
        ∙ map_tabulate (day_is i zone) (λ m. nth (sun i) k.sun_ready.is_accepted (place m)) 13
        ∙ tabulate_same 13 (λ m l. ap (λ (j : ℤ). day_is i zone (mark_of (sun i) j)) (at_zhongqi m))

-- ---- new moons
module _ (i : Inputs) (zone : ℤ) (k : Known i) where
  pub new_moons_are : new_moon_days i zone ≡ turn_days i.leap (moon i) zone
  unfolding new_moon_days_of is_new_moon is_turn day_of_mark
  new_moons_are = ap (map (day_is i zone)) (turns_listed (moon i) k.moon_ready.is_accepted) ∙ map_tabulate (day_is i zone) (λ n. mark_of (moon i) (turn_index_of (moon i) n)) (turns_of (moon i))
