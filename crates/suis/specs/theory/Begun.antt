-- Where the first sui begins: what each outcome of the three tests says, and what that tells of the sui. Where it cannot begin, its year is refused by 8. Assumes
-- nothing.
use Rattle.std.specs.Prelude.{◌≡◌, Bool, true, false, not, List, ℕ, zero, suc, ◌+◌, ◌-◌, ◌≤◌, ◌<◌, eqb, leb, ℤ, pos, ◌+ℤ◌}
use Rattle.std.proofs.Math.Path.{refl}
use Rattle.std.proofs.Common.{sym, ap, ap₂, ◌∙◌, arith}
use borrow.Author.Tests.{leb-true, leb-false, le-leb, lt-leb, eqb-true, eqb-false, eq-eqb, ne_eqb, not-false}
use Rattle.whole.specs.Booleans.{first_fails}
use Rattle.refusals.specs.Verdict.{Verdict, answered, refused, refuse_when, ◌before◌, ◌then◌, test_answered, answers_apart, answer_or_refusal, refused_then}
use Rattle.series.specs.Series.{Series}
use Rattle.inputs.specs.Inputs.{Inputs, sun, moon}
use Rattle.inputs.specs.Known.{Known}
use Rattle.months.specs.declared.SuiDays.{SuiDays}
use Rattle.months.specs.declared.Sui.{Sui}
use Rattle.months.specs.Limits.{year_in_range}
use Rattle.months.specs.Months.{first_solstice, by_first, is_missing, moon_missing, days_of}
use Rattle.months.proofs.theory.Days.{days_missing}
use Rattle.turns.specs.theory.Counting.{by_small}
use Rattle.turns.specs.Listed.{turn_index_of, turn_day, turn_days, turns_by, turns_of}
use Rattle.sui.specs.Sui.{sui_days, sui_of_year}
use Rattle.sui.specs.theory.Found.{one_in_each, zhongqi_from}
use Rattle.sui.proofs.theory.Found.{sui_days_are, out_of_range, missing_when, found_when}
use Rattle.sui.specs.theory.Solstices.{eve}
use Rattle.suis.specs.declared.inner.Places.{Places}
use Rattle.suis.specs.Ahead.{begun, solstices_before, new_moons_by}
use Rattle.suis.specs.theory.Next.{first_is_turn}

-- ---- the outcomes
module _ (leap : List ℤ) (sun moon : Series) (zone year : ℤ) where
  pub begun_out : year_in_range year ≡ false → refused 8 0 ≡ begun leap sun moon zone year
  unfolding begun
  begun_out e = rw e

  module _ (in_range_lem : year_in_range year ≡ true) where
    pub begun_no_solstice : turns_of sun ≤ solstices_before leap sun moon zone year → refused 8 0 ≡ begun leap sun moon zone year
    unfolding begun
    begun_no_solstice h = rw (in_range_lem, le-leb (turns_of sun) (solstices_before leap sun moon zone year) h)

    module _ (listed : solstices_before leap sun moon zone year < turns_of sun) where
      pub begun_no_moon : new_moons_by leap sun moon zone year ≡ 0 → refused 8 0 ≡ begun leap sun moon zone year
      unfolding begun
      begun_no_moon e = rw (in_range_lem, lt-leb (turns_of sun) (solstices_before leap sun moon zone year) listed, eq-eqb (new_moons_by leap sun moon zone year) 0 e)

      pub begun_at : (new_moons_by leap sun moon zone year ≡ 0 → ⊥) → answered (record { solstice = solstices_before leap sun moon zone year; newmoon = new_moons_by leap sun moon zone year - 1 }) ≡ begun leap sun moon zone year
      unfolding begun
      begun_at e = rw (in_range_lem, lt-leb (turns_of sun) (solstices_before leap sun moon zone year) listed, ne_eqb (new_moons_by leap sun moon zone year) 0 e)

-- ---- what an answer tells
pub record BegunAt (leap : List ℤ) (sun moon : Series) (zone year : ℤ) (places : Places) : Type 0 where
  pub year_in_range : year_in_range year ≡ true
  pub is_place : places.solstice ≡ solstices_before leap sun moon zone year
  pub is_listed : solstices_before leap sun moon zone year < turns_of sun
  pub some_moons : 0 < new_moons_by leap sun moon zone year
  pub is_moon : places.newmoon ≡ new_moons_by leap sun moon zone year - 1

pub begun_answered : (leap : List ℤ) (sun moon : Series) (zone year : ℤ) {places : Places} → begun leap sun moon zone year ≡ answered places → BegunAt leap sun moon zone year places
unfolding begun
begun_answered leap sun moon zone year {places} e =
    let k = solstices_before leap sun moon zone year in
    let m = new_moons_by leap sun moon zone year in
    let at : Verdict Places = answered (record { solstice = k; newmoon = m - 1 }) in
    let one = test_answered (not (year_in_range year)) 8 (refuse_when (leb (turns_of sun) k) 8 before refuse_when (eqb m 0) 8 before at) places e in
    let two = test_answered (leb (turns_of sun) k) 8 (refuse_when (eqb m 0) 8 before at) places one.1 in
    let three = test_answered (eqb m 0) 8 at places two.1 in
    let is = answers_apart three.1 in
    let some = eqb-false m 0 three.0 in
    record {
      year_in_range = not-false (year_in_range year) one.0;
      is_place = ap (λ (p : Places). p.solstice) (sym is);
      is_listed = leb-false (turns_of sun) k two.0;
      some_moons = positive m some;
      is_moon = ap (λ (p : Places). p.newmoon) (sym is);
    }
  where
    positive : (n : ℕ) → (n ≡ 0 → ⊥) → 0 < n
    positive zero h = absurd (h refl)
    positive (suc n) h = omega arith

-- one refusal is the other, whatever is not answered
same : {number segment : ℕ} → ◌≡◌ {A = Verdict Places} (refused 8 0) (refused number segment) → ◌≡◌ {A = Verdict Sui} (refused 8 0) (refused number segment)
same {number} {segment} e = ap₂ (λ (a b : ℕ). refused a b) (let p : 8 ≡ number = cc in p) (let q : 0 ≡ segment = cc in q)

-- ---- where it cannot begin, the sui is refused by 8
module _ (i : Inputs) (zone : ℤ) (known : Known i) (year : ℤ) where
  abbrev k : ℕ
  k = solstices_before i.leap (sun i) (moon i) zone year

  abbrev m : ℕ
  m = new_moons_by i.leap (sun i) (moon i) zone year

  abbrev rest : ℤ → Verdict SuiDays
  rest j = days_of (turn_days i.leap (moon i) zone) (zhongqi_from i.leap (sun i) zone j)

  sui_refused : sui_days i zone year ≡ refused 8 0 → sui_of_year i zone year ≡ refused 8 0
  sui_refused e = rw e

  no_solstice : year_in_range year ≡ true → one_in_each i.leap (sun i) zone year ≡ false → sui_days i zone year ≡ refused 8 0
  no_solstice in_range_lem e = sui_days_are i zone known year in_range_lem ∙ sym (refused_then rest (missing_when i.leap (sun i) zone year e))

  none_left : turns_of (sun i) ≤ k → one_in_each i.leap (sun i) zone year ≡ false
  none_left h =
      first_fails (eqb (turns_by i.leap (sun i) zone (eve year)) (k + 1)) (eqb (turns_by i.leap (sun i) zone (eve (year +ℤ pos 1))) (k + 1 + 1))
      (ne_eqb (turns_by i.leap (sun i) zone (eve year)) (k + 1) (λ e. omega (arith, by_small (turn_day i.leap (sun i) zone) (eve year) (turns_of (sun i)))))

  abbrev zhongqi : List ℤ
  zhongqi = zhongqi_from i.leap (sun i) zone (turn_index_of (sun i) k)

  missing : m ≡ 0 → moon_missing (turn_days i.leap (moon i) zone) zhongqi ≡ true
  unfolding moon_missing is_missing by_first
  missing e = rw (eq-eqb (turns_by i.leap (moon i) zone (first_solstice zhongqi)) 0 (ap (turns_by i.leap (moon i) zone) (first_is_turn i zone k) ∙ e))

  no_moon : year_in_range year ≡ true → m ≡ 0 → (b : Bool) → one_in_each i.leap (sun i) zone year ≡ b → sui_days i zone year ≡ refused 8 0
  no_moon in_range_lem e false p = no_solstice in_range_lem p
  no_moon in_range_lem e true p =
      sui_days_are i zone known year in_range_lem
      ∙ ap (λ (v : Verdict ℤ). v then rest) (sym (found_when i.leap (sun i) zone year p))
      ∙ sym (days_missing (turn_days i.leap (moon i) zone) zhongqi (missing e))

  pub begun_refused : {number segment : ℕ} → begun i.leap (sun i) (moon i) zone year ≡ refused number segment → sui_of_year i zone year ≡ refused number segment
  unfolding begun
  begun_refused {number} {segment} e = go (year_in_range year) refl (leb (turns_of (sun i)) k) refl (eqb m 0) refl e
    where
      at : Verdict Places
      at = answered (record { solstice = k; newmoon = m - 1 })

      go : (p : Bool) → year_in_range year ≡ p → (q : Bool) → leb (turns_of (sun i)) k ≡ q → (r : Bool) → eqb m 0 ≡ r → refuse_when (not p) 8 before refuse_when q 8 before refuse_when r 8 before at ≡ refused number segment → sui_of_year i zone year ≡ refused number segment
      go false p q b r d v = sui_refused (sym (out_of_range i zone known year p)) ∙ same v
      go true p true b r d v = sui_refused (no_solstice p (none_left (leb-true (turns_of (sun i)) k b))) ∙ same v
      go true p false b true d v = sui_refused (no_moon p (eqb-true m 0 d) (one_in_each i.leap (sun i) zone year) refl) ∙ same v
      go true p false b false d v = answer_or_refusal v
