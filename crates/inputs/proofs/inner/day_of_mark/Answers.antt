-- `inputs::inner::day_of_mark` meets its contract. Assumes nothing.
use mathlib.Core.Path.{◌≡◌, refl, sym, ap, ap₂, ◌∙◌}
use mathlib.Core.Bool.{◌&&◌}
use mathlib.Core.List.{List, [], ◌∷◌}
use native.Mathlib.Omega.{arith}
use lib.IntN.{ℤ, pos, ◌-ℤ◌, ◌*ℤ◌}
use lib.Signed.{le_z}
use mir.Syntax.{w64}
use mir.Val.{to_z, of_z}
use mir.Facts.{to_z-of_z}
use Rattle.whole.specs.Parts.{◌⩽◌}
use Rattle.whole.specs.Floor.{floor_mod}
use Rattle.whole.specs.Ranges.{fits, bounds, back}
use Rattle.whole.specs.Booleans.{both}
use Rattle.whole.specs.Solver.{⇑, ⇓, ring, le_yes}
use Rattle.times.specs.declared.Second.{Second}
use Rattle.times.specs.declared.Milli.{Milli}
use Rattle.clock.specs.Clock.{Readable, count_in, day_of_milli, day_in}
use Rattle.clock.proofs.Theorems.{goes_on_holding}
use Rattle.clock.proofs.theory.Sizes.{second_small}
use Rattle.series.specs.Series.{Series, series}
use Rattle.marks.specs.Stretch.{Enclosed}
use Rattle.marks.specs.Listed.{second_of_mark}
use Rattle.inputs.specs.Inputs.{day_of_mark}
use Rattle.inputs.specs.theory.Converted.{mark_readable, span_converts}
use Rattle.inputs.specs.theory.OneDay.{of_one_day}
use Rattle.inputs.proofs.inner.day_of_mark.Goals as goal
use Rattle.inputs.proofs.inner.day_of_mark.Lts as lts
use Rattle.inputs.proofs.inner.day_of_mark.Reads as reads
use Rattle.inputs.proofs.inner.day_of_mark.Tie as tie

abbrev series-of : lts.Start tie.the-claims reads.Pre reads.Post tie.handed_clauses → Series
series-of c = series c.args.body c.args.start.0 c.args.coefs.now

abbrev mark_of : lts.Start tie.the-claims reads.Pre reads.Post tie.handed_clauses → Second
mark_of c = record { 0 = second_of_mark (series-of c) c.args.index }

readable : (c : lts.Start tie.the-claims reads.Pre reads.Post tie.handed_clauses) → Readable c.args.leap.now (mark_of c) c.args.zone
readable c = mark_readable c.args.leap.now (series-of c) c.requires.ready c.args.index c.requires.coefs_bound c.requires.index_bound c.args.zone c.requires.within

abbrev Near : Type 0
Near = lts.After-enclose tie.the-claims reads.Pre reads.Post tie.handed_clauses

enclosed : (c : Near) → Enclosed (series-of c.before) c.args.index c.enclose-near.result.after c.enclose-near.result.by
enclosed c = let fi = c.ranges.index in rw (to_z-of_z fi) at c.enclose-near.ensures

abbrev by_of : Near → Second
by_of c = record { 0 = c.enclose-near.result.by }

by_readable : (c : Near) → Readable c.args.leap.now (by_of c) c.args.zone
by_readable c =
    let r = readable c.before in
    record {
      lawful_table = r.lawful_table;
      in_range = span_converts (series-of c.before) c.requires.ready.is_accepted (by_of c) (enclosed c).in_span;
      not_early = goes_on_holding c.args.leap.now (mark_of c.before) (by_of c) (enclosed c).comes_by r.not_early;
      zone_small = r.zone_small;
    }

abbrev Read : Type 0
Read = lts.After-count_in tie.the-claims reads.Pre reads.Post tie.handed_clauses

abbrev near_of : Read → Near
near_of c = c.before.before

at_by : (c : lts.After-enclose tie.the-claims reads.Pre reads.Post tie.handed_clauses) → to_z w64 (of_z w64 c.enclose-near.result.by) ≡ c.enclose-near.result.by
at_by c = back c.enclose-near.result.by (omega arith)

count_is : (c : Read) → (let near = near_of c in c.count_in-count.result ≡ count_in near.before.args.leap.now (by_of near) near.before.args.zone)
count_is c = let fz = (near_of c).before.ranges.zone in rw (at_by c.before.before, to_z-of_z fz) at c.count_in-count.ensures

day_read : (leap : List ℤ) (s : Second) (zone : ℤ) → day_of_milli (count_in leap s zone) ≡ day_in leap s zone
unfolding day_in
day_read leap s zone = refl

-- the seconds between the two
gap : (c : lts.After-count_in tie.the-claims reads.Pre reads.Post tie.handed_clauses) (d : ℤ) → (d ≡ to_z w64 (of_z w64 c.enclose-near.result.by) -ℤ to_z w64 (of_z w64 c.enclose-near.result.after) → d ≡ c.enclose-near.result.by -ℤ c.enclose-near.result.after)
gap c d e = rw (at_by c.before.before, back c.enclose-near.result.after (omega arith)) at e

pub count_in-count-requires : goal.count_in-count-requires
count_in-count-requires c = let fz = c.ranges.zone in rw (at_by c.before.before, to_z-of_z fz) (by_readable c.before.before)

pub subtract-requires : goal.subtract-requires
subtract-requires c =
    let by = second_small (by_of c.before.before.before.before.before) (by_readable c.before.before.before.before.before).in_range in
    let after = (enclosed c.before.before.before.before.before).small in
    rw (at_by c.before.before.before.before.before, back c.enclose-near.result.after (omega arith)) (fits (search bounds) tt)

pub have_passed-requires : goal.have_passed-requires
have_passed-requires c =
    let ρ = c.enclose-near.result.by ∷ c.enclose-near.result.after ∷ second_of_mark (series-of c.before.before.before.before.before.before) c.args.index ∷ [] in
    rw (back c.subtract.result c.subtract.type_inv, gap c.before.before.before c.subtract.result c.subtract.ensures)
    (⇑ ρ (search ring depth 9) (omega (arith, ⇓ ρ (enclosed c.before.before.before.before.before).comes_after (search ring depth 9), ⇓ ρ (enclosed c.before.before.before.before.before).comes_by (search ring depth 9))))

pub returns-then-have_passed : goal.returns-then-have_passed
unfolding day_of_mark
returns-then-have_passed c =
    let near = near_of c.before.before.before.before.before.before in
    let start = near.before in
    let leap = start.args.leap.now in
    let zone = start.args.zone in
    let after = near.enclose-near.result.after in
    let by = near.enclose-near.result.by in
    let k : c.subtract.result ≡ by -ℤ after = gap c.before.before.before.before.before.before c.subtract.result c.subtract.ensures in
    let rest = floor_mod (count_in leap (by_of near) zone).0 86400000 in
    let test : c.have_passed.result ≡ (le_z (by -ℤ after) (pos 86400) && le_z (pos 1000 *ℤ (by -ℤ after)) (pos rest)) =
    (rw (back c.subtract.result c.subtract.type_inv) at c.have_passed.ensures) ∙ ap₂ (λ (z : ℤ) (m : Milli). le_z z (pos 86400) && le_z (pos 1000 *ℤ z) (pos (floor_mod m.0 86400000))) k (count_is c.before.before.before.before.before.before) in
    let passed : pos 1000 *ℤ (by -ℤ after) ⩽ pos rest = le_yes (both (le_z (by -ℤ after) (pos 86400)) (le_z (pos 1000 *ℤ (by -ℤ after)) (pos rest)) (sym test ∙ c.if-have_passed.true)).1 in
    let ρ = by ∷ after ∷ second_of_mark (series-of start) start.args.index ∷ [] in
    let close : by -ℤ second_of_mark (series-of start) start.args.index ⩽ by -ℤ after = ⇑ ρ (search ring depth 9) (omega (arith, ⇓ ρ (enclosed near).comes_after (search ring depth 9))) in
    c.day_of_milli.ensures ∙ ap day_of_milli (count_is c.before.before.before.before.before.before) ∙ day_read leap (by_of near) zone
    ∙ of_one_day leap start.requires.ready.lawful_table (mark_of start) (by_of near) (enclosed near).comes_by zone (by -ℤ after) close passed

located : (c : lts.After-locate tie.the-claims reads.Pre reads.Post tie.handed_clauses) → c.locate-second.result ≡ mark_of c.before.before.before.before.before.before.before.before.before
located c = let fi = c.ranges.index in λ t. record { 0 = (rw (to_z-of_z fi) at c.locate-second.ensures) t }

pub day_in-requires : goal.day_in-requires
day_in-requires c =
    let fz = c.ranges.zone in
    rw (located c, to_z-of_z fz) (readable c.before.before.before.before.before.before.before.before.before)

pub returns : goal.returns
unfolding day_of_mark
returns c =
    let fz = c.ranges.zone in
    (rw (to_z-of_z fz) at c.day_in.ensures) ∙ ap (λ (s : Second). day_in c.args.leap.now s c.args.zone) (located c.before)
