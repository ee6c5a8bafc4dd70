-- `writer::writing::entry_section` meets its contract. Assumes nothing.
use mathlib.Core.Path.{◌≡◌}
use Prim.Native.Nat.{◌*◌}
use native.Mathlib.Omega.{arith}
use borrow.Author.Rules.{rules}
use lib.ListN.{length}
use Rattle.whole.specs.Ranges.{back}
use Rattle.almanac.specs.Fields.{times, widths, bytes_for}
use Rattle.almanac.specs.Layout.{entry_fields}
use Rattle.almanac.specs.theory.Whole.{section_length}
use Rattle.almanac.specs.theory.Writer.{section_placed}
use Rattle.writer.proofs.writing.entry_section.Goals as goal

pub put4-requires : goal.put4-requires
put4-requires c = record { at_in_bounds = search rules; z_bound = rw (back c.signed.result c.signed.type_inv, c.signed.ensures) c.requires.n_bound }

pub returns : goal.returns
unfolding widths
returns c =
    let a = c.args in
    let number = c.signed in
    let counted = rw (back number.result number.type_inv, number.ensures) at c.put4.ensures in
    let size : length (bytes_for (times a.n entry_fields) a.leap.now) ≡ 8 * a.n = section_length a.n entry_fields a.leap.now c.requires.fit in
    section_placed a.out.now a.at a.n _ (omega (arith, size, c.requires.n_in_bounds)) counted c.put_entries.ensures
