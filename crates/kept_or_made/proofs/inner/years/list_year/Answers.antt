-- `kept_or_made::inner::years::list_year` meets its contract. Assumes nothing.
use mir.Facts.{to_z-of_z}
use Rattle.kept_or_made.specs.theory.Putting.{listed_when, not_listed_when}
use Rattle.kept_or_made.proofs.inner.years.list_year.Goals as goal

pub returns-then-same : goal.returns-then-same
returns-then-same c =
    let a = c.args in
    let all = listed_when a.year a.kept.now a.years c.if-same.true c.requires in
    rw (to_z-of_z c.ranges.year) (record { value = all.0; kept_after = all.1 })

pub returns : goal.returns
returns c = let a = c.args in
    let all = not_listed_when a.year a.kept.now a.years c.if-same.false in
    record { value = all.0; kept_after = all.1 }
