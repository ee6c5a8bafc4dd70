-- `locator::inner::nth_after` meets its contract. In the needs, `start` is the function's entry. Assumes nothing.
use mathlib.Core.Path.{◌≡◌, sym, ap₂, ◌∙◌}
use native.Mathlib.Omega.{arith}
use lib.IntN.{pos, ◌+ℤ◌}
use mir.Syntax.{w64}
use mir.Val.{of_z, to_z}
use mir.Facts.{to_z-of_z}
use Rattle.whole.specs.Ranges.{back}
use Rattle.series.specs.Series.{Series, series}
use Rattle.marks.specs.Crossings.{marked}
use Rattle.marks.specs.Listed.{first_reached}
use Rattle.marks.proofs.theory.Nth.{marks_few, nth_index, index_low, index_high, next_fits, index_fits, nth_is}
use Rattle.locator.proofs.inner.nth_after.Goals as goal
use Rattle.locator.proofs.inner.nth_after.Goals.{After-add-index, After-add-next, After-signed, Start}

abbrev series_of : Start → Series
series_of c = series c.args.body c.args.start.0 c.args.coefs.now

at_first : (c : Start) → to_z w64 (of_z w64 c.args.lowest) ≡ first_reached (series_of c)
at_first c = to_z-of_z c.ranges.lowest ∙ c.requires.lowest_value

at_next : (c : After-add-next) → to_z w64 (of_z w64 c.add-next.result) ≡ first_reached (series_of c.before) +ℤ pos 1
at_next c = back c.add-next.result c.add-next.type_inv ∙ (rw (at_first c.before) at c.add-next.ensures)

at_k : (c : After-signed) → to_z w64 (of_z w64 c.signed.result) ≡ pos c.args.k
at_k c = back c.signed.result c.signed.type_inv ∙ c.signed.ensures

at_index : (c : After-add-index) →
    (to_z w64 (of_z w64 c.add-index.result) ≡ nth_index (series_of c.before.before.before) c.requires.accepted c.args.k c.requires.k_in_bounds)
at_index c = back c.add-index.result c.add-index.type_inv ∙ (rw (at_next c.before.before, at_k c.before) at c.add-index.ensures)

pub add-next-requires : goal.add-next-requires
add-next-requires c = rw (at_first c) (next_fits (series_of c) c.requires.accepted c.args.k c.requires.k_in_bounds)

pub signed-requires : goal.signed-requires
signed-requires c = omega (arith, c.requires.k_in_bounds, marks_few (series_of c.before) c.requires.accepted)

pub add-index-requires : goal.add-index-requires
add-index-requires c =
    rw (at_next c.before, at_k c) (index_fits (series_of c.before.before) c.requires.accepted c.args.k c.requires.k_in_bounds)

pub locate-second-requires : goal.locate-second-requires
locate-second-requires c =
    rw (at_index c) (record { accepted = c.requires.accepted; coefs_bound = index_low (series_of c.before.before.before) c.requires.accepted c.args.k c.requires.k_in_bounds; index_bound = index_high (series_of c.before.before.before) c.requires.accepted c.args.k c.requires.k_in_bounds })

pub returns : goal.returns
returns c =
    let at = at_index c.before in
    ap₂ marked at (rw at at c.locate-second.ensures) ∙ sym (nth_is (series_of c.before.before.before.before) c.requires.accepted c.args.k c.requires.k_in_bounds)
