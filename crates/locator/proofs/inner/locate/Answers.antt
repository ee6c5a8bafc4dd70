-- `locator::inner::locate` meets its contract. Assumes nothing.
use mathlib.Core.Path.{refl}
use mir.Facts.{to_z-of_z}
use Rattle.whole.specs.Ranges.{within, back, fit_hyp, bounds}
use Rattle.series.specs.Series.{Series, series, last_second}
use Rattle.series.proofs.Theorems.{accepted_rises}
use Rattle.series.proofs.theory.Span.{span_ordered}
use Rattle.marks.specs.Stretch.{Around}
use Rattle.locator.proofs.Bracket.{whole_span}
use Rattle.locator.proofs.Around.{second_small, mark_small}
use Rattle.locator.proofs.inner.locate.Goals as goal
use Rattle.locator.proofs.inner.locate.Goals.{Start}

abbrev series_of : Start → Series
series_of c = series c.args.body c.args.start.0 c.args.coefs.now

-- the whole span is around a listed mark
at_span : (c : Start) → Around (series_of c) c.args.index c.args.start.0 (last_second (series_of c))
at_span c = whole_span (accepted_rises (series_of c) c.requires.accepted) (span_ordered (series_of c) c.requires.accepted) c.requires.coefs_bound c.requires.index_bound refl refl

pub mark_value-target-requires : goal.mark_value-target-requires
mark_value-target-requires c = rw (to_z-of_z c.ranges.index) (fit_hyp (mark_small (series_of c) c.requires.accepted (at_span c)) tt)

pub second_for-near-requires : goal.second_for-near-requires
second_for-near-requires c =
    let small = mark_small (series_of c.before) c.requires.accepted (at_span c.before) in record { accepted = c.requires.accepted; within = rw (back c.mark_value-target.result c.mark_value-target.type_inv) (rw (c.mark_value-target.ensures, to_z-of_z c.ranges.index) (within (search bounds) tt)) }

pub look-there-requires : goal.look-there-requires
look-there-requires c =
    rw (to_z-of_z c.ranges.index, c.span-span.ensures.0, c.span-span.ensures.1) (record { accepted = c.requires.accepted; around = at_span c.before.before.before.before.before })

pub thought-mark-requires : goal.thought-mark-requires
thought-mark-requires c = record { within = second_small (series_of c.before.before.before.before.before.before) c.requires.accepted c.second_for-near.ensures.0; pos_bound = c.second_for-near.ensures.1 }

pub returns : goal.returns
returns c =
    rw (to_z-of_z c.ranges.index) at c.confirm.ensures
