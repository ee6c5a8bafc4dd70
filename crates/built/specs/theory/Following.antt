-- The sui of the next year begins where a sui ends: both days are the last new-moon day not after one solstice, which is the second of the one and the first of
-- the other. Assumes nothing.
use Rattle.std.specs.Prelude.{◌≡◌, ℕ, ◌-◌, ◌*◌, ◌<◌, ◌+ℤ◌, ◌-ℤ◌}
use Rattle.std.proofs.Common.{sym, ◌∙◌, arith}
use Rattle.std.proofs.Math.Path.{ap}
use mathlib.Core.List.{List, [], append-nil}
use Rattle.std.proofs.Math.IntN.{ℤ, pos, +ℤ_idr}
use Rattle.std.proofs.Math.ListN.{get_or}
use Rattle.whole.specs.Tabulated.{tabulate, get_d_tabulate}
use Rattle.refusals.specs.Verdict.{answered, then_answered, answers_apart}
use Rattle.marks.specs.Marks.{Mark}
use Rattle.inputs.specs.Inputs.{Inputs, sun, day_of_mark}
use Rattle.inputs.specs.Known.{Known}
use Rattle.months.specs.declared.Sui.{Sui}
use Rattle.months.specs.Months.{last_not_after, sui_of, sui_in}
use Rattle.months.proofs.Theorems.{Meet, months_meet}
use Rattle.months.proofs.theory.Suis.{month}
use Rattle.sui.specs.Sui.{new_moon_days, solstices_in, zhongqi_days, one_solstice, sui_days, sui_of_year}
use Rattle.sui.proofs.Theorems.{solstices_24_apart, zhongqi_every_second_mark}
use Rattle.sui.proofs.theory.Answered.{days_found_lem}

module _ (i : Inputs) (zone : ℤ) (known : Known i) where
  -- the last new-moon day not after a mark of the Sun
  abbrev moon_by : Mark → ℤ
  moon_by m = last_not_after (day_of_mark i.leap (sun i) zone m.index).0 (new_moon_days i zone)

  record Ends (year : ℤ) (sui : Sui) : Type 0 where
    first : Mark
    last : Mark
    is_first : one_solstice (solstices_in i zone (year -ℤ pos 1)) ≡ answered first
    is_last : one_solstice (solstices_in i zone year) ≡ answered last
    begins : (month sui 0).first ≡ moon_by first
    ends : (month sui (sui.count - 1)).first +ℤ (month sui (sui.count - 1)).length ≡ moon_by last

  -- place m of the zhongqi
  zhongqi_at : (f : ℕ → ℤ) (m : ℕ) → m < 13 → get_or (tabulate f 13) m (pos 0) ≡ f m
  zhongqi_at f m h = ap (λ (l : List ℤ). get_or l m (pos 0)) (sym (append-nil (tabulate f 13))) ∙ get_d_tabulate f 13 m (pos 0) [] h

  ends_of : (year : ℤ) {sui : Sui} → sui_of_year i zone year ≡ answered sui → Ends year sui
  unfolding sui_in
  ends_of year {sui} e =
      let made = then_answered (sui_days i zone year) (sui_of year) sui e in
      let found = days_found_lem i zone year made.1 in
      let moons = new_moon_days i zone in
      let zhongqi = zhongqi_days i zone found.first found.last in
      let meet : Meet moons zhongqi sui = months_meet year moons zhongqi (rw found.by_rule made.2) in
      let day : ℤ → ℤ = λ j. (day_of_mark i.leap (sun i) zone j).0 in
      let every-second = zhongqi_every_second_mark i zone known year found.is_first found.is_last in
      let at : (m : ℕ) → m < 13 → get_or zhongqi m (pos 0) ≡ day (found.first.index +ℤ pos (2 * m)) =
      λ m h. ap (λ (l : List ℤ). get_or l m (pos 0)) every-second ∙ zhongqi_at (λ n. day (found.first.index +ℤ pos (2 * n))) m h in
      record {
        first = found.first;
        last = found.last;
        is_first = found.is_first;
        is_last = found.is_last;
        begins = meet.begins ∙ ap (λ (d : ℤ). last_not_after d moons) (at 0 (omega arith) ∙ ap day (+ℤ_idr found.first.index));
        ends = meet.ends ∙ ap (λ (d : ℤ). last_not_after d moons) (at 12 (omega arith) ∙ ap day (sym (solstices_24_apart i zone known year found.is_first found.is_last)));
      }

  pub next_follows : (year other : ℤ) → other -ℤ pos 1 ≡ year → {sui next : Sui} → sui_of_year i zone year ≡ answered sui → sui_of_year i zone other ≡ answered next → (month sui (sui.count - 1)).first +ℤ (month sui (sui.count - 1)).length ≡ (month next 0).first
  next_follows year other q e f =
      let a = ends_of year e in
      let b = ends_of other f in
      let same : a.last ≡ b.first = answers_apart (sym a.is_last ∙ ap (λ (y : ℤ). one_solstice (solstices_in i zone y)) (sym q) ∙ b.is_first) in
      a.ends ∙ ap moon_by same ∙ sym b.begins
