-- `writer::writing::put_entries` meets its contract. Assumes nothing.
use mathlib.Core.Path.{◌≡◌, refl, ◌∙◌}
use Prim.Native.Nat.{◌+◌, ◌*◌}
use native.Mathlib.Omega.{arith}
use borrow.Author.Rules.{rules}
use lib.IntN.{pos}
use lib.ListN.{length, get_or}
use mir.Facts.{to_z-of_z}
use mir.Syntax.{w64}
use mir.Val.{SFits}
use Rattle.almanac.specs.Fields.{unsigned, signed, times, widths}
use Rattle.almanac.specs.Layout.{entry_fields}
use Rattle.almanac.specs.theory.FieldLaws.{fit_length, length_times}
use Rattle.almanac.specs.theory.Sections.{write_turn, write_none, write_all, two_of, two_fit}
use Rattle.writer.proofs.writing.put_entries.Goals as goal
use Rattle.writer.proofs.writing.put_entries.Goals.{Start}

-- as many words as n records have
words_of : (start : Start) → length start.args.leap.now ≡ 2 * start.args.n
words_of start = fit_length (times start.args.n entry_fields) start.args.leap.now start.requires.fit ∙ length_times start.args.n entry_fields

pub loop-i-init : goal.loop-i-init
loop-i-init c = write_none entry_fields 2 refl c.args.leap.now c.args.at c.args.out.now

pub bounds-leap-i : goal.bounds-leap-i
bounds-leap-i c = omega (arith, c.loop-i-test.true, words_of (goal.at.bounds-leap-i c).Start)

pub bounds-leap-i-in-loop-i : goal.bounds-leap-i-in-loop-i
bounds-leap-i-in-loop-i c = omega (arith, c.loop-i-test.true, words_of (goal.at.bounds-leap-i-in-loop-i c).Start)

pub put_entry-requires : goal.put_entry-requires
put_entry-requires c =
    let i = c.loop-i.i in
    let f0 : SFits w64 (get_or c.args.leap.now (2 * i) (pos 0)) = search rules in
    let f1 : SFits w64 (get_or c.args.leap.now (2 * i + 1) (pos 0)) = search rules in
    let fit = two_fit signed unsigned c.args.n c.args.leap.now c.requires.fit i c.loop-i-test.true in
    rw (to_z-of_z f0, to_z-of_z f1) (record { at_in_bounds = omega (arith, c.loop-i-test.true, c.requires.n_in_bounds); fits_field = fit.0; fits_field_2 = fit.1 })

pub loop-i-preserved : goal.loop-i-preserved
unfolding widths
loop-i-preserved c =
    let i = c.loop-i.i in
    let f0 : SFits w64 (get_or c.args.leap.now (2 * i) (pos 0)) = search rules in
    let f1 : SFits w64 (get_or c.args.leap.now (2 * i + 1) (pos 0)) = search rules in
    let part = two_of c.args.leap.now (2 * i) (omega (arith, c.loop-i-test.true, words_of (goal.at.loop-i-preserved c).Start)) in
    let put = rw (to_z-of_z f0, to_z-of_z f1) at c.put_entry.ensures in
    put ∙ write_turn entry_fields 2 refl c.args.leap.now c.args.at c.args.out.now i (omega (arith, c.loop-i-test.true, words_of (goal.at.loop-i-preserved c).Start)) (omega (arith, c.loop-i-test.true, c.requires.n_in_bounds)) c.loop-i.invariant _ part

pub returns : goal.returns
returns c =
    let all : c.loop-i.i ≡ c.args.n = omega (arith, c.loop-i-test.false) in
    rw (all, write_all entry_fields 2 refl c.args.leap.now c.args.at c.args.out.now c.args.n c.requires.fit) at c.loop-i.invariant
