-- `reader::reading::read_all` meets its contract. Assumes nothing.
use Rattle.almanac.specs.Layout.{content_at}
use Rattle.reader.proofs.reading.read_all.Goals as goal

pub returns : goal.returns
unfolding content_at
returns c = record { leap_after = c.read_entries.ensures; suis_after = c.read_suis.ensures; months_after = c.read_months.ensures }
