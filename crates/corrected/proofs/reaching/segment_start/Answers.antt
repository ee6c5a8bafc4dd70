-- `corrected::reaching::segment_start` meets its contract. In the needs, `start` is the function's entry. Assumes nothing.
use mathlib.Core.Path.{◌≡◌, ◌∙◌}
use Prim.Native.Nat.{◌*◌}
use native.Mathlib.Omega.{arith}
use lib.IntN.{pos}
use mir.Syntax.{w64}
use mir.Val.{of_z, to_z}
use Rattle.whole.specs.Ranges.{back}
use Rattle.series.specs.Bodies.{body_laws}
use Rattle.series.specs.Series.{series, segment_length}
use Rattle.corrected.specs.theory.Values.{seconds_before, start_fits}
use Rattle.corrected.proofs.reaching.segment_start.Goals as goal
use Rattle.corrected.proofs.reaching.segment_start.Goals.{After-signed}

at_start : (c : After-signed) → (to_z w64 (of_z w64 c.args.start.0) ≡ c.args.start.0)
at_start c = back c.args.start.0 (omega arith)

at_seconds : (c : After-signed) → (to_z w64 (of_z w64 c.signed.result) ≡ pos (segment_length c.args.body * c.args.k))
at_seconds c = back c.signed.result c.signed.type_inv ∙ (rw c.half_length.ensures at c.signed.ensures)

pub overflow_mul-seconds : goal.overflow_mul-seconds
overflow_mul-seconds c = record { fits = omega (arith, c.half_length.ensures, (body_laws c.args.body).short) }

pub overflow_mul-seconds-2 : goal.overflow_mul-seconds-2
overflow_mul-seconds-2 c =
    rw c.half_length.ensures (record { fits = omega (arith, seconds_before (series c.args.body c.args.start.0 c.args.coefs.now) c.requires.accepted c.requires.k_bound) })

pub signed-requires : goal.signed-requires
signed-requires c =
    rw c.half_length.ensures (omega (arith, seconds_before (series c.args.body c.args.start.0 c.args.coefs.now) c.requires.accepted c.requires.k_bound))

pub add-requires : goal.add-requires
add-requires c =
    rw (at_start c, at_seconds c) (start_fits (series c.args.body c.args.start.0 c.args.coefs.now) c.requires.accepted c.requires.k_bound)

pub returns : goal.returns
returns c = back c.add.result c.add.type_inv ∙ (rw (at_start c.before, at_seconds c.before) at c.add.ensures)
