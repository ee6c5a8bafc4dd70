-- `suis::finding::days_within` meets its contract. In the needs, `start` is the function's entry. Assumes nothing.
use mathlib.Core.Path.{sym, ◌∙◌}
use mathlib.Core.List.{List}
use borrow.Author.Rules.{rules}
use lib.IntN.{ℤ, pos}
use lib.ListN.{get_or}
use lib.Seq.{length-take-le}
use lib.Signed.{◌≤ℤ◌, ◌<ℤ◌}
use mir.Syntax.{w64}
use mir.Val.{SFits}
use mir.Facts.{to_z-of_z}
use Rattle.whole.specs.Solver.{le_yes, le_no}
use Rattle.series.specs.declared.Body.TheVariants.{Moon}
use Rattle.series.specs.Series.{Series, series}
use Rattle.suis.specs.theory.Within.{short_part, long_part, crowded_part}
use Rattle.suis.proofs.finding.days_within.Goals as goal
use Rattle.suis.proofs.finding.days_within.Goals.{Else-newmoons-last, Start, Then-newmoons-last}

abbrev series_of : Start → Series
series_of start = series Moon start.args.start.0 start.args.coefs.now

abbrev zhongqi_of : Start → List ℤ
zhongqi_of start = start.args.zhongqi.now

-- the fifteenth new moon's day, compared with the second solstice's
by_last : (c : Then-newmoons-last) → (get_or c.args.newmoons.now 14 (pos 0) ≤ℤ get_or (zhongqi_of c.before.before.before.before) 12 (pos 0))
by_last c =
    let f : SFits w64 (get_or c.args.newmoons.now 14 (pos 0)) = search rules in
    let g : SFits w64 (get_or (zhongqi_of c.before.before.before.before) 12 (pos 0)) = search rules in
    le_yes (rw (to_z-of_z f, to_z-of_z g) at c.if-newmoons-last.true)

behind_last : (c : Else-newmoons-last) → (get_or (zhongqi_of c.before.before.before.before) 12 (pos 0) <ℤ get_or c.args.newmoons.now 14 (pos 0))
behind_last c =
    let f : SFits w64 (get_or c.args.newmoons.now 14 (pos 0)) = search rules in
    let g : SFits w64 (get_or (zhongqi_of c.before.before.before.before) 12 (pos 0)) = search rules in
    le_no (rw (to_z-of_z f, to_z-of_z g) at c.if-newmoons-last.false)

pub returns-then-newmoons-lt15 : goal.returns-then-newmoons-lt15
returns-then-newmoons-lt15 c =
    let a = c.args in
    c.days_of.ensures ∙ (short_part a.leap.now (series_of c.before.before) a.zone c.requires.searched.ready (zhongqi_of c.before.before) c.requires.pos_bound c.requires.nonzero c.requires.ahead c.if-newmoons-lt15.true)

pub returns-then-newmoons-last : goal.returns-then-newmoons-last
returns-then-newmoons-last c =
    let a = c.args in
    let g : SFits w64 (get_or (zhongqi_of c.before.before.before.before.before) 12 (pos 0)) = search rules in
    (rw (to_z-of_z c.ranges.zone, to_z-of_z g) at c.too_many.ensures)
    ∙ (crowded_part a.leap.now (series_of c.before.before.before.before.before) a.zone c.requires.searched.ready (zhongqi_of c.before.before.before.before.before) c.requires.pos_bound c.requires.nonzero c.requires.ahead c.if-newmoons-lt15.false (by_last c.before))

pub slice_bounds-days_of-end : goal.slice_bounds-days_of-end
slice_bounds-days_of-end c = sym (length-take-le 15 c.args.newmoons.now c.if-newmoons-lt15.false)

pub returns : goal.returns
returns c =
    let a = c.args in
    c.days_of-2.ensures
    ∙ (long_part a.leap.now (series_of c.before.before.before.before.before) a.zone c.requires.searched.ready (zhongqi_of c.before.before.before.before.before) c.requires.pos_bound c.requires.nonzero c.requires.ahead c.if-newmoons-lt15.false (behind_last c.before))
