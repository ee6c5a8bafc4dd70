-- `month_rule::inner::days_of` meets its contract. In the needs, `start` is the function's entry. Assumes nothing.
use mathlib.Core.Path.{◌≡◌, sym, ap, ◌∙◌}
use mathlib.Core.Bool.{false}
use Prim.Native.Nat.{◌+◌, ◌-◌, ◌≤◌, ◌<◌}
use native.Mathlib.Omega.{arith}
use borrow.Author.Rules.{rules}
use lib.IntN.{pos}
use lib.ListN.{length, get_or}
use mir.Syntax.{w64}
use mir.Val.{SFits}
use mir.Facts.{to_z-of_z}
use Rattle.months.specs.Months.{by_first, by_second, moon_missing, month_count, twelve_or_thirteen, days_found}
use Rattle.months.proofs.theory.Listed.{at_most_thirteen}
use Rattle.months.proofs.theory.Days.{days_missing, days_other_count, days_are_found, some_listed}
use Rattle.month_rule.proofs.inner.days_of.Goals as goal
use Rattle.month_rule.proofs.inner.days_of.Goals.{After-month_count-n, After-moon_missing, After-not_after-by_second, After-twelve_or_thirteen, Else-not-twelve_or_thirteen}

-- how many new moons are not after the first solstice, and not after the second
at_counted : (c : After-not_after-by_second) →
    ((c.not_after-by_first.result ≡ by_first c.args.moons.now c.args.zhongqi.now) × (c.not_after-by_second.result ≡ by_second c.args.moons.now c.args.zhongqi.now))
unfolding by_first by_second
at_counted c =
    let zhongqi = c.args.zhongqi.now in
    let first : SFits w64 (get_or zhongqi 0 (pos 0)) = search rules in
    let second : SFits w64 (get_or zhongqi 12 (pos 0)) = search rules in
    (rw (to_z-of_z first) at c.not_after-by_first.ensures, rw (to_z-of_z second) at c.not_after-by_second.ensures)

at_missing : (c : After-moon_missing) → (c.moon_missing.result ≡ moon_missing c.args.moons.now c.args.zhongqi.now)
unfolding moon_missing
at_missing c = let n = at_counted c.before in rw (n.0, n.1) at c.moon_missing.ensures

at_months : (c : After-month_count-n) → (c.month_count-n.result ≡ month_count c.args.moons.now c.args.zhongqi.now)
unfolding month_count
at_months c = let n = at_counted c.before.before.before in rw (n.0, n.1) at c.month_count-n.ensures

at_judged : (c : After-twelve_or_thirteen) →
    ((moon_missing c.args.moons.now c.args.zhongqi.now ≡ false) × (c.twelve_or_thirteen.result ≡ twelve_or_thirteen (month_count c.args.moons.now c.args.zhongqi.now)))
at_judged c =
    (sym (at_missing c.before.before.before) ∙ c.if-moon_missing.false, c.twelve_or_thirteen.ensures ∙ ap twelve_or_thirteen (at_months c.before))

-- the sui has 12 or 13 months, and their new moons are listed
at_sizes : (c : Else-not-twelve_or_thirteen) →
    (let months = c.month_count-n.result in
    let first = c.not_after-by_first.result in
    let listed = length c.args.moons.now in
    (0 < first) × (months ≤ 13) × (first - 1 + (months + 1) ≤ listed))
unfolding month_count
at_sizes c =
    let judged = at_judged c.before in
    let moons = c.args.moons.now in
    let zhongqi = c.args.zhongqi.now in
    let n = at_counted c.before.before.before.before.before in
    let some = some_listed moons zhongqi judged.0 in
    let few = at_most_thirteen (month_count moons zhongqi) (sym judged.1 ∙ c.if-not-twelve_or_thirteen.false) in
    omega (arith, n.0, n.1, some, few, at_months c.before.before)

pub returns-then-moon_missing : goal.returns-then-moon_missing
returns-then-moon_missing c =
    let missing = sym (at_missing (goal.at.returns-then-moon_missing c).After-moon_missing) ∙ c.if-moon_missing.true in
    days_missing c.args.moons.now c.args.zhongqi.now missing

pub returns-then-not-twelve_or_thirteen : goal.returns-then-not-twelve_or_thirteen
returns-then-not-twelve_or_thirteen c =
    let judged = at_judged (goal.at.returns-then-not-twelve_or_thirteen c).After-twelve_or_thirteen in
    let not_twelve = sym judged.1 ∙ c.if-not-twelve_or_thirteen.true in
    days_other_count c.args.moons.now c.args.zhongqi.now judged.0 not_twelve

pub overflow_sub-by_first : goal.overflow_sub-by_first
overflow_sub-by_first c = omega (arith, at_sizes (goal.at.overflow_sub-by_first c).Else-not-twelve_or_thirteen)

pub overflow_add-n : goal.overflow_add-n
overflow_add-n c = record { fits = omega (arith, at_sizes (goal.at.overflow_add-n c).Else-not-twelve_or_thirteen) }

pub fourteen-requires : goal.fourteen-requires
fourteen-requires c = omega (arith, at_sizes (goal.at.fourteen-requires c).Else-not-twelve_or_thirteen)

pub returns : goal.returns
unfolding days_found
returns c =
    let judged = at_judged (goal.at.returns c).After-twelve_or_thirteen in
    let twelve = sym judged.1 ∙ c.if-not-twelve_or_thirteen.false in
    let n = at_counted (goal.at.returns c).After-not_after-by_second in
    rw (c.fourteen.ensures, c.thirteen.ensures, n.0, at_months (goal.at.returns c).After-month_count-n)
    (days_are_found c.args.moons.now c.args.zhongqi.now judged.0 twelve)
