-- `acceptance::inner::last_second` meets its contract. In the needs, `start` is the function's entry. Assumes nothing.
use mathlib.Core.Path.{◌≡◌, ◌∙◌}
use Prim.Native.Nat.{◌*◌}
use native.Mathlib.Omega.{arith}
use lib.IntN.{pos}
use mir.Syntax.{w64}
use mir.Val.{of_z, to_z}
use Rattle.whole.specs.Ranges.{back}
use Rattle.series.specs.Bodies.{body_laws}
use Rattle.series.specs.Series.{series, segments, segment_length, segment_start}
use Rattle.series.proofs.theory.Span.{span_short, end_fits, last_fits}
use Rattle.acceptance.proofs.inner.last_second.Goals as goal
use Rattle.acceptance.proofs.inner.last_second.Goals.{After-add-end, After-signed}

at_start : (c : After-signed) → (to_z w64 (of_z w64 c.args.start.0) ≡ c.args.start.0)
at_start c = back c.args.start.0 (omega arith)

at_seconds : (c : After-signed) → (to_z w64 (of_z w64 c.signed.result) ≡ pos (segment_length c.args.body * segments c.args.coefs.now))
at_seconds c = back c.signed.result c.signed.type_inv ∙ (rw c.half_length.ensures at c.signed.ensures)

at_end : (c : After-add-end) → (to_z w64 (of_z w64 c.add-end.result) ≡ segment_start (series c.args.body c.args.start.0 c.args.coefs.now) (segments c.args.coefs.now))
at_end c = back c.add-end.result c.add-end.type_inv ∙ (rw (at_start c.before, at_seconds c.before) at c.add-end.ensures)

pub overflow_mul-seconds : goal.overflow_mul-seconds
overflow_mul-seconds c = record { fits = omega (arith, c.half_length.ensures, (body_laws c.args.body).short) }

pub overflow_mul-seconds-2 : goal.overflow_mul-seconds-2
overflow_mul-seconds-2 c =
    rw c.half_length.ensures (record { fits = omega (arith, span_short (series c.args.body c.args.start.0 c.args.coefs.now) c.requires) })

pub signed-requires : goal.signed-requires
signed-requires c =
    rw c.half_length.ensures (omega (arith, span_short (series c.args.body c.args.start.0 c.args.coefs.now) c.requires))

pub add-end-requires : goal.add-end-requires
add-end-requires c =
    rw (at_start c, at_seconds c) (end_fits (series c.args.body c.args.start.0 c.args.coefs.now) c.requires)

pub subtract-requires : goal.subtract-requires
subtract-requires c =
    rw (at_end c) (last_fits (series c.args.body c.args.start.0 c.args.coefs.now) c.requires)

pub returns : goal.returns
returns c = back c.subtract.result c.subtract.type_inv ∙ (rw (at_end c.before) at c.subtract.ensures)
