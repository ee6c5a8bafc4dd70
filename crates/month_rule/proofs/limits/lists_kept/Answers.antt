-- `month_rule::limits::lists_kept` meets its contract. In the needs, `start` is the function's entry. Assumes nothing.
use mathlib.Core.Path.{◌≡◌, sym, ◌∙◌}
use mathlib.Core.Bool.{true}
use mir.Facts.{to_z-of_z}
use Rattle.months.specs.Limits.{year_in_range, days_kept}
use Rattle.months.proofs.theory.Kept.{bad_year, too_many, bad_moons, by_zhongqi, not_thirteen}
use Rattle.month_rule.proofs.limits.lists_kept.Goals as goal
use Rattle.month_rule.proofs.limits.lists_kept.Goals.{After-year_in_range, Else-not-days_kept, Else-not-year_in_range}

at_year : (c : After-year_in_range) → c.year_in_range.result ≡ year_in_range c.args.year
at_year c = rw (to_z-of_z c.ranges.year) at c.year_in_range.ensures

at_good_year : (c : Else-not-year_in_range) → year_in_range c.args.year ≡ true
at_good_year c = sym (at_year c.before) ∙ c.if-not-year_in_range.false

-- the new moons are kept
at_moons : (c : Else-not-days_kept) → days_kept c.args.moons.now ≡ true
at_moons c = sym c.days_kept.ensures ∙ c.if-not-days_kept.false

pub returns-then-not-year_in_range : goal.returns-then-not-year_in_range
returns-then-not-year_in_range c =
    bad_year c.args.year c.args.moons.now c.args.zhongqi.now (sym (at_year (goal.at.returns-then-not-year_in_range c).After-year_in_range) ∙ c.if-not-year_in_range.true)

pub returns-then-moons-gt3000 : goal.returns-then-moons-gt3000
returns-then-moons-gt3000 c =
    too_many c.args.year c.args.moons.now c.args.zhongqi.now (at_good_year (goal.at.returns-then-moons-gt3000 c).Else-not-year_in_range) c.if-moons-gt3000.true

pub returns-then-not-days_kept : goal.returns-then-not-days_kept
returns-then-not-days_kept c =
    bad_moons c.args.year c.args.moons.now c.args.zhongqi.now (at_good_year (goal.at.returns-then-not-days_kept c).Else-not-year_in_range) c.if-moons-gt3000.false (sym c.days_kept.ensures ∙ c.if-not-days_kept.true)

pub returns-then-zhongqi-eq13 : goal.returns-then-zhongqi-eq13
returns-then-zhongqi-eq13 c =
    c.days_kept-then-zhongqi-eq13.ensures ∙ by_zhongqi c.args.year c.args.moons.now c.args.zhongqi.now (at_good_year (goal.at.returns-then-zhongqi-eq13 c).Else-not-year_in_range) c.if-moons-gt3000.false (at_moons (goal.at.returns-then-zhongqi-eq13 c).Else-not-days_kept) c.if-zhongqi-eq13.true

pub returns : goal.returns
returns c =
    not_thirteen c.args.year c.args.moons.now c.args.zhongqi.now (at_good_year (goal.at.returns c).Else-not-year_in_range) c.if-moons-gt3000.false (at_moons (goal.at.returns c).Else-not-days_kept) c.if-zhongqi-eq13.false
