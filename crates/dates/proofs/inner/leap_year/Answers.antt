-- `dates::inner::leap_year` meets its contract. Assumes nothing.
use mathlib.Core.Path.{◌≡◌, sym, ◌∙◌}
use mir.Facts.{to_z-of_z}
use Rattle.dates.specs.Calendar.{divides, leap_year}
use Rattle.dates.proofs.inner.leap_year.Goals as goal
use Rattle.dates.proofs.inner.leap_year.Goals.{After-divides, After-divides-2}

at_4 : (c : After-divides) → divides 4 c.before.args.y ≡ c.divides.result
at_4 c = sym (rw (to_z-of_z c.before.ranges.y) at c.divides.ensures)

at_100 : (c : After-divides-2) → (let start = c.before.before.before in divides 100 start.args.y ≡ c.divides-2.result)
at_100 c =
    let start = c.before.before.before in
    sym (rw (to_z-of_z start.ranges.y) at c.divides-2.ensures)

pub returns-then-not-divides : goal.returns-then-not-divides
unfolding leap_year
returns-then-not-divides c = rw (at_4 c.before ∙ c.if-not-divides.true)

pub returns-then-not-divides-2 : goal.returns-then-not-divides-2
unfolding leap_year
returns-then-not-divides-2 c =
    let century = c.before in
    let fourth = century.before.before in
    rw (at_4 fourth ∙ century.before.if-not-divides.false, at_100 century ∙ c.if-not-divides-2.true)

pub returns : goal.returns
unfolding leap_year
returns c =
    let century = c.before.before in
    let fourth = century.before.before in
    rw (at_4 fourth ∙ century.before.if-not-divides.false, at_100 century ∙ c.before.if-not-divides-2.false)
    (rw (to_z-of_z fourth.before.ranges.y) at c.divides-3.ensures)
