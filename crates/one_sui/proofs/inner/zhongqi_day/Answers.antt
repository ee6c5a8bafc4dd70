-- `one_sui::inner::zhongqi_day` meets its contract. In the needs, `start` is the function's entry. Assumes nothing.
use mathlib.Core.Path.{◌≡◌, ap, ◌∙◌}
use mathlib.Core.List.{[], ◌∷◌}
use Prim.Native.Nat.{◌*◌}
use native.Mathlib.Omega.{arith}
use lib.IntN.{ℤ, pos, ◌+ℤ◌}
use lib.Signed.{◌≤ℤ◌, ◌<ℤ◌}
use mir.Syntax.{w64}
use mir.Val.{SFits, of_z, to_z}
use mir.Facts.{to_z-of_z}
use Rattle.whole.specs.Distance.{between_fits}
use Rattle.whole.specs.Laws.{<→≤}
use Rattle.whole.specs.Ranges.{back, fit_hyp}
use Rattle.whole.specs.Solver.{⇑, ⇓, ring}
use Rattle.times.specs.declared.Day.{Day}
use Rattle.series.specs.declared.Body.TheVariants.{Sun}
use Rattle.series.specs.Series.{Series, series}
use Rattle.marks.specs.Listed.{first_reached, last_reached}
use Rattle.turns.specs.Searched.{first_small, last_small}
use Rattle.one_sui.proofs.inner.zhongqi_day.Goals as goal
use Rattle.one_sui.proofs.inner.zhongqi_day.Goals.{After-add-mark, After-signed, Start}

abbrev series_of : Start → Series
series_of start = series Sun start.args.start.0 start.args.coefs.now

abbrev mark_index : Start → ℤ
mark_index start = start.args.index +ℤ pos (2 * start.args.i)

after_first : (start : Start) → first_reached (series_of start) <ℤ mark_index start
after_first start =
    let ρ = first_reached (series_of start) ∷ start.args.index ∷ pos start.args.i ∷ [] in
    ⇑ ρ (search ring depth 9) (omega (arith, ⇓ ρ start.requires.coefs_bound (search ring depth 9)))

by_last : (start : Start) → mark_index start ≤ℤ last_reached (series_of start)
by_last start =
    let ρ = last_reached (series_of start) ∷ start.args.index ∷ pos start.args.i ∷ [] in
    ⇑ ρ (search ring depth 9) (omega (arith, ⇓ ρ start.requires.pos_bound (search ring depth 9), start.requires.i_bound))

index_fits : (start : Start) → SFits w64 (mark_index start)
index_fits start =
    let s = series_of start in
    let e = start.requires.ready.is_accepted in
    between_fits (fit_hyp {w = w64} (first_small s e) tt) (fit_hyp {w = w64} (last_small s e) tt) (<→≤ (after_first start)) (by_last start)

at_steps : (c : After-signed) → to_z w64 (of_z w64 c.signed.result) ≡ pos (2 * c.args.i)
at_steps c = back c.signed.result c.signed.type_inv ∙ c.signed.ensures

at_mark : (c : After-add-mark) → to_z w64 (of_z w64 c.add-mark.result) ≡ mark_index c.before.before
at_mark c = back c.add-mark.result c.add-mark.type_inv ∙ (rw (to_z-of_z c.ranges.index, at_steps c.before) at c.add-mark.ensures)

pub add-mark-requires : goal.add-mark-requires
add-mark-requires c = rw (to_z-of_z c.ranges.index, at_steps c) (index_fits c.before)

pub day_of_mark-requires : goal.day_of_mark-requires
day_of_mark-requires c =
    rw (at_mark c, to_z-of_z c.ranges.zone) (record { ready = c.requires.ready; coefs_bound = after_first c.before.before; index_bound = by_last c.before.before; within = c.requires.within })

pub returns : goal.returns
returns c =
    back c.number_of.result c.number_of.type_inv ∙ c.number_of.ensures ∙ ap (λ (d : Day). d.0) (rw (at_mark c.before.before, to_z-of_z c.ranges.zone) at c.day_of_mark.ensures)
