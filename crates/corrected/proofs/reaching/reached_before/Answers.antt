-- `corrected::reaching::reached_before` meets its contract. Assumes nothing.
use mathlib.Core.Path.{◌≡◌, sym, ap, ◌∙◌}
use native.Mathlib.Omega.{arith}
use lib.IntN.{pos, ◌-ℤ◌}
use mir.Syntax.{w64}
use mir.Val.{of_z, to_z}
use Rattle.whole.specs.Ranges.{back}
use Rattle.series.specs.Series.{Series, series, segment_start, InSpan}
use Rattle.series.proofs.theory.Span.{second_fits}
use Rattle.corrected.specs.theory.Values.{last_in_span}
use Rattle.corrected.specs.theory.Kept.{reached_before, reached_before_some}
use Rattle.corrected.proofs.reaching.reached_before.Goals as goal
use Rattle.corrected.proofs.reaching.reached_before.Lts as lts
use Rattle.corrected.proofs.reaching.reached_before.Reads as reads
use Rattle.corrected.proofs.reaching.reached_before.Tie as tie

module _ (c : lts.After-segment_start tie.the-claims reads.Pre reads.Post tie.handed_clauses) where
  abbrev start_of : lts.Start tie.the-claims reads.Pre reads.Post tie.handed_clauses
  start_of = c.before.before

  abbrev series_of : Series
  series_of = series start_of.args.body start_of.args.start.0 start_of.args.coefs.now

  at_begin : to_z w64 (of_z w64 c.segment_start-begin.result.0) ≡ segment_start series_of start_of.args.k
  at_begin = back c.segment_start-begin.result.0 (omega arith) ∙ c.segment_start-begin.ensures

  in_span : InSpan series_of (segment_start series_of start_of.args.k -ℤ pos 1)
  in_span = last_in_span series_of start_of.requires.accepted start_of.requires.k_bound (omega (arith, c.if-k-eq0.false))

at_last : (c : lts.After-subtract tie.the-claims reads.Pre reads.Post tie.handed_clauses) → to_z w64 (of_z w64 c.subtract.result) ≡ segment_start (series_of c.before.before) (start_of c.before.before).args.k -ℤ pos 1
at_last c = back c.subtract.result c.subtract.type_inv ∙ (rw (at_begin c.before.before) at c.subtract.ensures)

pub returns-then-k-eq0 : goal.returns-then-k-eq0
returns-then-k-eq0 c =
    back c.first_reached.result c.first_reached.type_inv
    ∙ c.first_reached.ensures
    ∙ sym (ap (reached_before (series c.args.body c.args.start.0 c.args.coefs.now)) c.if-k-eq0.true)

pub subtract-requires : goal.subtract-requires
subtract-requires c = rw (at_begin c.before.before) (second_fits (series_of c.before.before) (start_of c.before.before).requires.accepted (in_span c.before.before))

pub index_at-requires : goal.index_at-requires
index_at-requires c = rw (at_last c) (record { accepted = (start_of c.before.before).requires.accepted; in_span = in_span c.before.before })

pub returns : goal.returns
returns c =
    back c.index_at.result c.index_at.type_inv
    ∙ (rw (at_last c.before) at c.index_at.ensures)
    ∙ reached_before_some (series_of c.before.before.before) (start_of c.before.before.before).args.k c.if-k-eq0.false
