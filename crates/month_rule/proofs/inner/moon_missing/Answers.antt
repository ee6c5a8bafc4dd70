-- `month_rule::inner::moon_missing` meets its contract. Assumes nothing.
use Rattle.months.proofs.theory.Listed.{none_first, some_first}
use Rattle.month_rule.proofs.inner.moon_missing.Goals as goal

pub returns-then-first-eq0 : goal.returns-then-first-eq0
returns-then-first-eq0 c = let a = c.args in none_first a.first a.second a.listed c.if-first-eq0.true

pub returns : goal.returns
returns c = let a = c.args in some_first a.first a.second a.listed c.if-first-eq0.false
