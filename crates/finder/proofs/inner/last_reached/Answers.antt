-- `finder::inner::last_reached` meets its contract. Assumes nothing.
use mathlib.Core.Path.{◌∙◌}
use Rattle.whole.specs.Ranges.{back}
use Rattle.series.specs.Series.{series}
use Rattle.series.proofs.theory.Span.{last_in_span}
use Rattle.finder.proofs.inner.last_reached.Goals as goal

pub index_at-requires : goal.index_at-requires
index_at-requires c =
    rw c.last_second-last.ensures (record { accepted = c.requires; in_span = last_in_span (series c.args.body c.args.start.0 c.args.coefs.now) c.requires })

pub returns : goal.returns
returns c = back c.index_at.result c.index_at.type_inv ∙ (rw c.last_second-last.ensures at c.index_at.ensures)
