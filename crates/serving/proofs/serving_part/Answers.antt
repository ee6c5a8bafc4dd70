-- `serving::serving_part` meets its contract: the segment that serves stands in the series of its side. Assumes nothing.
use Rattle.std.proofs.Common.{◌<◌, sym, subst}
use Rattle.series.specs.Series.{series, segments}
use Rattle.served.specs.declared.Side.{Side}
use Rattle.served.specs.Served.{chosen}
use Rattle.served.proofs.Theorems.{segment_there}
use Rattle.serving.proofs.serving_part.Goals as goal

pub segment_of-requires : goal.segment_of-requires
segment_of-requires c =
    let a = c.args in
    let near = series a.body a.nearstart.0 a.near.now in
    let long = series a.body a.longstart.0 a.long.now in
    subst (λ (side : Side). c.in-Ok.served.segment < segments (chosen side near long).coefs) c.in-Near.is (segment_there near long a.second.0 (sym c.in-Ok.ensures))

pub segment_of-requires-in-Long : goal.segment_of-requires-in-Long
segment_of-requires-in-Long c =
    let a = c.args in
    let near = series a.body a.nearstart.0 a.near.now in
    let long = series a.body a.longstart.0 a.long.now in
    subst (λ (side : Side). c.in-Ok.served.segment < segments (chosen side near long).coefs) c.in-Long.is (segment_there near long a.second.0 (sym c.in-Ok.ensures))
