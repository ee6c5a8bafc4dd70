-- `writer::writing::put_months` meets its contract. Assumes nothing.
use mathlib.Core.Path.{◌≡◌, refl, ◌∙◌}
use Prim.Native.Nat.{◌+◌, ◌*◌, ◌<◌}
use native.Mathlib.Omega.{arith}
use borrow.Author.Rules.{rules}
use lib.IntN.{pos}
use lib.ListN.{length, get_or}
use mir.Facts.{to_z-of_z}
use mir.Syntax.{w64}
use mir.Val.{SFits}
use Rattle.almanac.specs.Fields.{one_byte, unsigned, signed, times, widths}
use Rattle.almanac.specs.Layout.{month_fields}
use Rattle.almanac.specs.theory.FieldLaws.{fit_length, length_times}
use Rattle.almanac.specs.theory.Sections.{write_turn, write_none, write_all, three_of, three_fit}
use Rattle.writer.proofs.writing.put_months.Goals as goal
use Rattle.writer.proofs.writing.put_months.Goals.{Start}

-- as many words as n records have
words_of : (start : Start) → length start.args.months.now ≡ 3 * start.args.n
words_of start = fit_length (times start.args.n month_fields) start.args.months.now start.requires.fit ∙ length_times start.args.n month_fields

pub loop-i-init : goal.loop-i-init
loop-i-init c = write_none month_fields 3 refl c.args.months.now c.args.at c.args.out.now

pub offset_bounds-months-i : goal.offset_bounds-months-i
offset_bounds-months-i c =
    let inside : 3 * c.loop-i.i < length c.args.months.now = omega (arith, c.loop-i-test.true, words_of (goal.at.offset_bounds-months-i c).Start) in
    search rules

pub bounds-months-i : goal.bounds-months-i
bounds-months-i c = omega (arith, c.loop-i-test.true, words_of (goal.at.bounds-months-i c).Start)

pub offset_bounds-months-i-in-loop-i : goal.offset_bounds-months-i-in-loop-i
offset_bounds-months-i-in-loop-i c =
    let inside : 3 * c.loop-i.i + 1 < length c.args.months.now = omega (arith, c.loop-i-test.true, words_of (goal.at.offset_bounds-months-i-in-loop-i c).Start) in
    search rules

pub bounds-months-i-in-loop-i : goal.bounds-months-i-in-loop-i
bounds-months-i-in-loop-i c = omega (arith, c.loop-i-test.true, words_of (goal.at.bounds-months-i-in-loop-i c).Start)

pub offset_bounds-months-i-in-loop-i-2 : goal.offset_bounds-months-i-in-loop-i-2
offset_bounds-months-i-in-loop-i-2 c =
    let inside : 3 * c.loop-i.i + 2 < length c.args.months.now = omega (arith, c.loop-i-test.true, words_of (goal.at.offset_bounds-months-i-in-loop-i-2 c).Start) in
    search rules

pub bounds-months-i-in-loop-i-2 : goal.bounds-months-i-in-loop-i-2
bounds-months-i-in-loop-i-2 c = omega (arith, c.loop-i-test.true, words_of (goal.at.bounds-months-i-in-loop-i-2 c).Start)

pub put_month-requires : goal.put_month-requires
put_month-requires c =
    let i = c.loop-i.i in
    let f0 : SFits w64 (get_or c.args.months.now (3 * i) (pos 0)) = search rules in
    let f1 : SFits w64 (get_or c.args.months.now (3 * i + 1) (pos 0)) = search rules in
    let f2 : SFits w64 (get_or c.args.months.now (3 * i + 2) (pos 0)) = search rules in
    let fit = three_fit unsigned signed one_byte c.args.n c.args.months.now c.requires.fit i c.loop-i-test.true in
    rw (to_z-of_z f0, to_z-of_z f1, to_z-of_z f2) (record { at_in_bounds = omega (arith, c.loop-i-test.true, c.requires.n_in_bounds); fits_field = fit.0; fits_field_2 = fit.1.0; fits_field_3 = fit.1.1 })

pub loop-i-preserved : goal.loop-i-preserved
unfolding widths
loop-i-preserved c =
    let i = c.loop-i.i in
    let f0 : SFits w64 (get_or c.args.months.now (3 * i) (pos 0)) = search rules in
    let f1 : SFits w64 (get_or c.args.months.now (3 * i + 1) (pos 0)) = search rules in
    let f2 : SFits w64 (get_or c.args.months.now (3 * i + 2) (pos 0)) = search rules in
    let part = three_of c.args.months.now (3 * i) (omega (arith, c.loop-i-test.true, words_of (goal.at.loop-i-preserved c).Start)) in
    let put = rw (to_z-of_z f0, to_z-of_z f1, to_z-of_z f2) at c.put_month.ensures in
    put ∙ write_turn month_fields 3 refl c.args.months.now c.args.at c.args.out.now i (omega (arith, c.loop-i-test.true, words_of (goal.at.loop-i-preserved c).Start)) (omega (arith, c.loop-i-test.true, c.requires.n_in_bounds)) c.loop-i.invariant _ part

pub returns : goal.returns
returns c =
    let all : c.loop-i.i ≡ c.args.n = omega (arith, c.loop-i-test.false) in
    rw (all, write_all month_fields 3 refl c.args.months.now c.args.at c.args.out.now c.args.n c.requires.fit) at c.loop-i.invariant
