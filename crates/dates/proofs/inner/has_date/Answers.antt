-- `dates::inner::has_date` meets its contract. Assumes nothing.
use Rattle.whole.specs.Ranges.{back}
use Rattle.dates.specs.Answers.{has_date}
use Rattle.dates.proofs.inner.has_date.Goals as goal

pub returns : goal.returns
unfolding has_date
returns c =
    let told = c.before in
    rw (back told.before.args.day.0 told.struct_told-1.given.0.1) at c.in_range.ensures
