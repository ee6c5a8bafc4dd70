-- `one_sui::finding::days_from` meets its contract. In the needs, `start` is the function's entry. Assumes nothing.
use Rattle.refusals.specs.Verdict.{answered}
use mathlib.Core.Path.{◌≡◌, sym, ap, ap₂, ◌∙◌}
use mathlib.Core.Bool.{true, false}
use mathlib.Core.List.{List, ◌++◌}
use Prim.Native.Nat.{ℕ, ◌+◌, ◌-◌, ◌≤◌, ◌<◌}
use native.Mathlib.Omega.{arith}
use borrow.Author.Rules.{rules}
use lib.IntN.{ℤ, pos}
use lib.ListN.{length, get_or, replicate}
use mir.Syntax.{w64}
use mir.Val.{SFits}
use mir.Facts.{to_z-of_z}
use Rattle.whole.specs.Tabulated.{tabulate, length_tabulate}
use Rattle.series.specs.declared.Body.TheVariants.{Moon}
use Rattle.series.specs.Series.{Series, series}
use Rattle.months.specs.Months.{by_first, by_second, moon_missing, month_count, twelve_or_thirteen, days_found}
use Rattle.months.proofs.theory.Days.{days_missing, days_other_count, days_are_found, some_listed}
use Rattle.months.proofs.theory.Listed.{at_most_thirteen}
use Rattle.turns.specs.declared.inner.TurnList.{TurnList}
use Rattle.whole.specs.Selected.{tabulate_part}
use Rattle.turns.specs.Listed.{turns_of, turn_day, turn_days}
use Rattle.turns.specs.Searched.{Searched}
use Rattle.one_sui.proofs.finding.days_from.Goals as goal
use Rattle.one_sui.proofs.finding.days_from.Goals.{After-month_count-n, After-moon_missing, After-turns_by-by_first, After-turns_by-by_second, After-turns_of-turns, After-twelve_or_thirteen, Else-not-twelve_or_thirteen, Start}

abbrev series_of : Start → Series
series_of start = series Moon start.args.start.0 start.args.coefs.now

abbrev moons_of : Start → List ℤ
moons_of start = turn_days start.args.leap.now (series_of start) start.args.zone

abbrev zhongqi_of : Start → List ℤ
zhongqi_of start = start.args.zhongqi

-- the days from the one before `first` on, of so many months, and zeros
abbrev day_part : Start → ℕ → ℕ → List ℤ
day_part start first months = tabulate (λ k. turn_day start.args.leap.now (series_of start) start.args.zone (first - 1 + k)) (months + 1) ++ replicate (14 - (months + 1)) (pos 0)

-- the turns may be searched
at_turns : (c : After-turns_of-turns) → Searched c.args.leap.now (series_of c.before) c.args.zone c.turns_of-turns.result
at_turns c = record { ready = c.requires.ready; zone_small = c.requires.within; are_turns = c.turns_of-turns.ensures }

at_length : (c : After-turns_of-turns) → c.turns_of-turns.result.count ≡ length (moons_of c.before)
at_length c =
    ap (λ (t : TurnList). t.count) c.turns_of-turns.ensures ∙ sym (length_tabulate (turn_day c.args.leap.now (series_of c.before) c.args.zone) (turns_of (series_of c.before)))

-- how many new moons are not after the first solstice, and not after the second
at_first : (c : After-turns_by-by_first) → (c.turns_by-by_first.result ≡ by_first (moons_of c.before.before.before) (zhongqi_of c.before.before.before))
unfolding by_first
at_first c =
    let f : SFits w64 (get_or (zhongqi_of c.before.before.before) 0 (pos 0)) = search rules in
    rw (to_z-of_z c.ranges.zone, to_z-of_z f) at c.turns_by-by_first.ensures

at_second : (c : After-turns_by-by_second) → (c.turns_by-by_second.result ≡ by_second (moons_of c.before.before.before.before.before) (zhongqi_of c.before.before.before.before.before))
unfolding by_second
at_second c =
    let f : SFits w64 (get_or (zhongqi_of c.before.before.before.before.before) 12 (pos 0)) = search rules in
    rw (to_z-of_z c.ranges.zone, to_z-of_z f) at c.turns_by-by_second.ensures

at_missing : (c : After-moon_missing) → (c.moon_missing.result ≡ moon_missing (moons_of c.before.before.before.before.before.before) (zhongqi_of c.before.before.before.before.before.before))
unfolding moon_missing
at_missing c = rw (at_first c.before.before.before, at_second c.before, at_length c.before.before.before.before.before) at c.moon_missing.ensures

at_months : (c : After-month_count-n) → (c.month_count-n.result ≡ month_count (moons_of c.before.before.before.before.before.before.before.before) (zhongqi_of c.before.before.before.before.before.before.before.before))
unfolding month_count
at_months c = rw (at_first c.before.before.before.before.before, at_second c.before.before.before) at c.month_count-n.ensures

at_judged : (c : After-twelve_or_thirteen) →
    ((moon_missing (moons_of c.before.before.before.before.before.before.before.before.before) (zhongqi_of c.before.before.before.before.before.before.before.before.before) ≡ false) × (c.twelve_or_thirteen.result ≡ twelve_or_thirteen (month_count (moons_of c.before.before.before.before.before.before.before.before.before) (zhongqi_of c.before.before.before.before.before.before.before.before.before))))
at_judged c =
    (sym (at_missing c.before.before.before) ∙ c.if-moon_missing.false, c.twelve_or_thirteen.ensures ∙ ap twelve_or_thirteen (at_months c.before))

-- the sui has 12 or 13 months, and their new moons are listed
abbrev Found : Type 0
Found = Else-not-twelve_or_thirteen

abbrev turns_at : Found → After-turns_of-turns
turns_at c = c.before.before.before.before.before.before.before.before.before

abbrev start_of : Found → Start
start_of c = (turns_at c).before

at_twelve : (c : Found) → twelve_or_thirteen (month_count (moons_of (start_of c)) (zhongqi_of (start_of c))) ≡ true
at_twelve c = sym (at_judged c.before).1 ∙ c.if-not-twelve_or_thirteen.false

at_sizes : (c : Found) → (let moons = moons_of (start_of c) in let zhongqi = zhongqi_of (start_of c) in (0 < by_first moons zhongqi) × (month_count moons zhongqi ≤ 13) × (by_first moons zhongqi - 1 + (month_count moons zhongqi + 1) ≤ length moons))
unfolding month_count
at_sizes c =
    let moons = moons_of (start_of c) in
    let zhongqi = zhongqi_of (start_of c) in
    let some = some_listed moons zhongqi (at_judged c.before).0 in
    let few = at_most_thirteen (month_count moons zhongqi) (at_twelve c) in
    omega (arith, some, few)

at_by : (c : Found) → (c.turns_by-by_first.result ≡ by_first (moons_of (start_of c)) (zhongqi_of (start_of c))) × (c.month_count-n.result ≡ month_count (moons_of (start_of c)) (zhongqi_of (start_of c)))
at_by c = (at_first c.before.before.before.before.before.before.before, at_months c.before.before)

pub turns_by-by_first-requires : goal.turns_by-by_first-requires
turns_by-by_first-requires c = rw (to_z-of_z c.ranges.zone) (at_turns c.before)

pub turns_by-by_second-requires : goal.turns_by-by_second-requires
turns_by-by_second-requires c = rw (to_z-of_z c.ranges.zone) (at_turns c.before.before.before)

pub returns-then-moon_missing : goal.returns-then-moon_missing
returns-then-moon_missing c =
    let missing = sym (at_missing (goal.at.returns-then-moon_missing c).After-moon_missing) ∙ c.if-moon_missing.true in
    (days_missing (moons_of (goal.at.returns-then-moon_missing c).Start) (zhongqi_of (goal.at.returns-then-moon_missing c).Start) missing)

pub returns-then-not-twelve_or_thirteen : goal.returns-then-not-twelve_or_thirteen
returns-then-not-twelve_or_thirteen c =
    let judged = at_judged (goal.at.returns-then-not-twelve_or_thirteen c).After-twelve_or_thirteen in
    let not_twelve = sym judged.1 ∙ c.if-not-twelve_or_thirteen.true in
    (days_other_count (moons_of (goal.at.returns-then-not-twelve_or_thirteen c).Start) (zhongqi_of (goal.at.returns-then-not-twelve_or_thirteen c).Start) judged.0 not_twelve)

pub overflow_sub-by_first : goal.overflow_sub-by_first
overflow_sub-by_first c = omega (arith, at_by c, at_sizes c)

pub overflow_add-n : goal.overflow_add-n
overflow_add-n c = record { fits = omega (arith, at_by c, at_sizes c) }

pub moon_days-requires : goal.moon_days-requires
moon_days-requires c =
    let start = start_of c in
    rw (to_z-of_z start.ranges.zone) (record { searched = at_turns (turns_at c); n_bound = omega (arith, at_by c, at_sizes c, at_length (turns_at c)); n_bound_2 = omega (arith, at_by c, at_sizes c) })

pub returns : goal.returns
unfolding days_found
returns c =
    let start = start_of c.before in
    let by = at_by c.before in
    let moons = moons_of start in
    let zhongqi = zhongqi_of start in
    let n = month_count moons zhongqi + 1 in
    let made : c.moon_days.result ≡ day_part start c.turns_by-by_first.result c.month_count-n.result = rw (to_z-of_z start.ranges.zone) at c.moon_days.ensures in
    let part = tabulate_part (turn_day start.args.leap.now (series_of start) start.args.zone) (turns_of (series_of start)) (by_first moons zhongqi - 1) n
    (rw (length_tabulate (turn_day start.args.leap.now (series_of start) start.args.zone) (turns_of (series_of start))) at (at_sizes c.before).2) in
    let days = made ∙ ap₂ (day_part start) by.0 by.1 ∙ ap (λ (l : List ℤ). l ++ replicate (14 - n) (pos 0)) (sym part) in
    ap answered (λ t. record { months = by.1 t; moons = days t; zhongqi = zhongqi })
    ∙ (days_are_found moons zhongqi (at_judged c.before.before).0 (at_twelve c.before))
