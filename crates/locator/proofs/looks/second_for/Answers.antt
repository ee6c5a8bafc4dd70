-- `locator::looks::second_for` meets its contract. Assumes nothing.
use mathlib.Core.Path.{◌≡◌, ◌∙◌}
use native.Mathlib.Omega.{arith}
use lib.Signed.{lt_z_yes}
use mir.Syntax.{w64}
use mir.Val.{of_z, to_z}
use Rattle.whole.specs.Laws.{<-≤_trans, →abs}
use Rattle.whole.specs.Ranges.{within, back, bounds}
use Rattle.series.specs.Bodies.{body_laws}
use Rattle.series.specs.Series.{Series, series, last_second}
use Rattle.series.specs.Facts.{Facts}
use Rattle.series.proofs.theory.Known.{facts}
use Rattle.series.proofs.theory.Span.{span_ordered}
use Rattle.marks.specs.Stretch.{Searched}
use Rattle.locator.proofs.Around.{searched}
use Rattle.locator.proofs.looks.second_for.Goals as goal
use Rattle.locator.proofs.looks.second_for.Goals.{After-last_second-last}

abbrev series_of : After-last_second-last → Series
series_of c = series c.args.body c.args.start.0 c.args.coefs.now

at_facts : (c : After-last_second-last) → Facts (series_of c)
at_facts c = facts (series_of c) c.requires.accepted

at_segments : (c : After-last_second-last) → Searched c.args.coefs.now
at_segments c = searched (series_of c) c.requires.accepted

at_first : (c : After-last_second-last) → to_z w64 (of_z w64 c.args.start.0) ≡ c.args.start.0
at_first c = back c.args.start.0 (omega arith)

at_last : (c : After-last_second-last) → to_z w64 (of_z w64 c.last_second-last.result.0) ≡ last_second (series_of c)
at_last c = back c.last_second-last.result.0 (omega arith) ∙ c.last_second-last.ensures

pub segment_for-k-requires : goal.segment_for-k-requires
segment_for-k-requires c = record { searched = at_segments c.before; within = within (search bounds) tt }

pub place_for-aimed-requires : goal.place_for-aimed-requires
place_for-aimed-requires c = record { searched = at_segments c.before.before; k_bound = c.segment_for-k.ensures; within = within (search bounds) tt }

pub second-requires : goal.second-requires
second-requires c =
    let f = at_facts c.before.before.before.before.before.before in
    let few = (at_segments c.before.before.before.before.before.before).few in
    let here = c.segment_for-k.ensures in
    let short = (body_laws c.args.body).short in
    let half = c.half_length-half.ensures in
    let small = c.place_for-aimed.ensures.near in
    rw (at_first c.before.before.before.before.before.before, at_last c.before.before.before.before.before.before) (record { within = record { within = →abs {z = c.args.start.0} 10000000000 f.not_too_early f.not_too_late }; first_le_last = span_ordered (series_of c.before.before.before.before.before.before) c.requires.accepted; k_bound = omega arith; half_bound = omega arith; within_2 = within (search bounds) tt })

pub returns : goal.returns
returns c =
    let second = c.second in
    let place = c.place_for-aimed in
    let b = rw (at_first c.before.before.before.before.before.before.before, at_last c.before.before.before.before.before.before.before) at second.ensures in
    rw (back second.result second.type_inv, back place.result.slope (omega arith))
    (record { from_start = b.not_before; to_last = b.not_after }, <-≤_trans (lt_z_yes tt) place.ensures.steep)
