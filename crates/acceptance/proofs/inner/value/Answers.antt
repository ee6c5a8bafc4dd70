-- `acceptance::inner::value` meets its contract: an accepted series has the second's segment, in range, and its place. In the needs, `start` is the function's
-- entry, and `told` the place where both seconds are read. Assumes nothing.
use mathlib.Core.Path.{◌≡◌, sym, ap, ◌∙◌}
use Prim.Native.Nat.{ℕ, ◌/◌}
use native.Mathlib.Omega.{arith}
use mir.Syntax.{w64}
use mir.Val.{of_z, to_z}
use Rattle.whole.specs.Ranges.{back}
use Rattle.whole.specs.Distance.{distance_from}
use Rattle.series.specs.Series.{series, segment_length, segment_at, place_at, value_at}
use Rattle.series.proofs.theory.Known.{facts, segment_length_lem}
use Rattle.series.specs.theory.Place.{place_after, place_by_remainder}
use Rattle.series.proofs.theory.Span.{span_short, distance_in_span, segment_in_span, place_in_span}
use Rattle.acceptance.proofs.inner.value.Goals as goal
use Rattle.acceptance.proofs.inner.value.Goals.{After-distance-seconds, After-place_after, After-segment_after, Start}

at_start : (c : Start) → (to_z w64 (of_z w64 c.args.start.0) ≡ c.args.start.0)
at_start c = back c.args.start.0 (omega arith)

at_second : (c : Start) → (to_z w64 (of_z w64 c.args.second.0) ≡ c.args.second.0)
at_second c = back c.args.second.0 (omega arith)

at_distance : (c : After-distance-seconds) → (c.distance-seconds.result ≡ distance_from c.args.start.0 c.args.second.0)
at_distance c = rw (at_start c.before.before.before, at_second c.before.before.before) at c.distance-seconds.ensures

at_segment : (c : After-segment_after) → (c.segment_after.result ≡ segment_at (series c.args.body c.args.start.0 c.args.coefs.now) c.args.second.0)
at_segment c =
    c.segment_after.ensures ∙ ap (λ (n : ℕ). n / segment_length c.args.body) (at_distance c.before)

at_place : (c : After-place_after) →
    (to_z w64 (of_z w64 c.place_after.result) ≡ place_at (series c.args.body c.args.start.0 c.args.coefs.now) c.args.second.0)
at_place c =
    back c.place_after.result c.place_after.type_inv
    ∙ c.place_after.ensures
    ∙ ap (place_after c.args.body) (at_distance c.before.before.before)
    ∙ sym (place_by_remainder (series c.args.body c.args.start.0 c.args.coefs.now) c.requires.in_span.from_start)

pub distance-seconds-requires : goal.distance-seconds-requires
distance-seconds-requires c =
    let s = series c.args.body c.args.start.0 c.args.coefs.now in
    rw (at_start c.before.before, at_second c.before.before) (record { a_le_b = c.requires.in_span.from_start; b_bound = omega (arith, distance_in_span s c.requires.accepted c.requires.in_span, span_short s c.requires.accepted) })

pub segment_of-part-requires : goal.segment_of-part-requires
segment_of-part-requires c =
    rw (at_segment c) (segment_in_span (series c.args.body c.args.start.0 c.args.coefs.now) c.requires.accepted c.requires.in_span)

pub value-requires : goal.value-requires
value-requires c =
    let s = series c.args.body c.args.start.0 c.args.coefs.now in
    let k_in = segment_in_span s c.requires.accepted c.requires.in_span in
    rw (c.segment_of-part.ensures.words, at_segment c.before.before, at_place c)
    (record { coefs_len = segment_length_lem c.args.coefs.now _ k_in; in_range = (facts s c.requires.accepted).ranged.in_range _ k_in; within = place_in_span s c.requires.accepted c.requires.in_span })

pub returns : goal.returns
unfolding value_at
returns c =
    back c.value.result c.value.type_inv ∙ (rw (c.segment_of-part.ensures.words, at_segment c.before.before.before, at_place c.before) at c.value.ensures)
