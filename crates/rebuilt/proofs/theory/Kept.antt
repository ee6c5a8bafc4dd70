-- Which suis are kept: the words of its days tell a sui's days apart, so that a kept sui was found by both with the same days. Assumes nothing.
use Rattle.std.specs.Prelude.{◌≡◌, refl, true, List, ◌++◌, ℕ, ◌+◌, ◌-◌, ℤ, pos, length, take, drop, replicate}
use Rattle.std.proofs.Common.{sym, ap, ◌∙◌, arith, length-append, length-drop, length-take-le, take_at, drop_at}
use Rattle.std.proofs.lemmas.List.{length-replicate}
use Rattle.refusals.specs.Verdict.{Verdict, answered, refused}
use Rattle.inputs.specs.Inputs.{Inputs}
use Rattle.months.specs.declared.SuiDays.{SuiDays}
use Rattle.months.specs.Months.{by_first, month_count, days_found, days_of}
use Rattle.months.proofs.theory.Days.{found_listed, found_count, found_is}
use Rattle.months.proofs.theory.Listed.{at_most_thirteen}
use Rattle.sui.specs.Sui.{new_moon_days, zhongqi_days, sui_days}
use Rattle.sui.proofs.theory.Answered.{days_found_lem}
use Rattle.rebuilt.specs.Rebuild.{days_words, same_days, is_kept}
use Rattle.alike.specs.Alike.{words_are, words_alike}

-- ---- the days of a sui have fourteen places for new moons ..
fourteen_found : (moons zhongqi : List ℤ) {days : SuiDays} → days_of moons zhongqi ≡ answered days → length days.moons ≡ 14
unfolding days_found month_count
fourteen_found moons zhongqi e =
    let n = month_count moons zhongqi in
    let from = by_first moons zhongqi - 1 in
    let listed = found_listed moons zhongqi e in
    let few = at_most_thirteen n (found_count moons zhongqi e) in
    let long : length (take (n + 1) (drop from moons)) ≡ n + 1 = length-take-le (n + 1) (drop from moons) (rw (length-drop from moons) (omega arith)) in
    rw (← found_is moons zhongqi e)
    (length-append (take (n + 1) (drop from moons)) (replicate (14 - (n + 1)) (pos 0)) ∙ omega (arith, long, length-replicate (14 - (n + 1)) (pos 0)))

pub fourteen_moons : (i : Inputs) (zone year : ℤ) {days : SuiDays} → sui_days i zone year ≡ answered days → length days.moons ≡ 14
fourteen_moons i zone year e = let found = days_found_lem i zone year e in fourteen_found (new_moon_days i zone) (zhongqi_days i zone found.first found.last) found.by_rule

-- .. so that days whose words are the same are the same days
days_apart : (a b : SuiDays) → length a.moons ≡ 14 → length b.moons ≡ 14 → days_words a ≡ days_words b → a ≡ b
unfolding days_words
days_apart a b long-a long-b e = λ t. record { months = months t; moons = moons t; zhongqi = zhongqi t }
  where
    months : a.months ≡ b.months
    months = cc

    behind : a.moons ++ a.zhongqi ≡ b.moons ++ b.zhongqi
    behind = ap (drop 1) e

    moons : a.moons ≡ b.moons
    moons = sym (take_at a.moons a.zhongqi 14 long-a) ∙ ap (take 14) behind ∙ take_at b.moons b.zhongqi 14 long-b

    zhongqi : a.zhongqi ≡ b.zhongqi
    zhongqi = sym (drop_at a.moons a.zhongqi 14 long-a) ∙ ap (drop 14) behind ∙ drop_at b.moons b.zhongqi 14 long-b

pub same_days_lem : (a b : SuiDays) → length a.moons ≡ 14 → length b.moons ≡ 14 → same_days a b ≡ true → a ≡ b
unfolding same_days
same_days_lem a b long-a long-b e = days_apart a b long-a long-b (words_are (days_words a) (days_words b) e)

-- ---- a sui that is kept was found by both
pub record BothFound (u v : Verdict SuiDays) : Type 0 where
  pub one : SuiDays
  pub other : SuiDays
  pub is_one : u ≡ answered one
  pub is_other : v ≡ answered other
  pub alike : same_days one other ≡ true

pub both_found : (u v : Verdict SuiDays) → is_kept u v ≡ true → BothFound u v
both_found (answered a) (answered b) e = record { one = a; other = b; is_one = refl; is_other = refl; alike = e }
both_found (answered a) (refused number segment) e = let z : ◌≡◌ {A = ℕ} 0 1 = cc in absurd (omega arith)
both_found (refused number segment) v e = let z : ◌≡◌ {A = ℕ} 0 1 = cc in absurd (omega arith)

pub kept_when : {u v : Verdict SuiDays} {days : SuiDays} → u ≡ answered days → v ≡ answered days → is_kept u v ≡ true
unfolding same_days
kept_when {days = days} p q = rw (p, q) (sym (words_alike {a = days_words days} {b = days_words days} refl))
