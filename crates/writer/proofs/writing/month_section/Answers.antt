-- `writer::writing::month_section` meets its contract. Assumes nothing.
use mathlib.Core.Path.{◌≡◌}
use Prim.Native.Nat.{◌*◌}
use native.Mathlib.Omega.{arith}
use borrow.Author.Rules.{rules}
use lib.ListN.{length}
use Rattle.whole.specs.Ranges.{back}
use Rattle.almanac.specs.Fields.{times, widths, bytes_for}
use Rattle.almanac.specs.Layout.{month_fields}
use Rattle.almanac.specs.theory.Whole.{section_length}
use Rattle.almanac.specs.theory.Writer.{section_placed}
use Rattle.writer.proofs.writing.month_section.Goals as goal

pub put4-requires : goal.put4-requires
put4-requires c = record { at_in_bounds = search rules; z_bound = rw (back c.signed.result c.signed.type_inv, c.signed.ensures) c.requires.n_bound }

pub returns : goal.returns
unfolding widths
returns c =
    let a = c.args in
    let number = c.signed in
    let counted = rw (back number.result number.type_inv, number.ensures) at c.put4.ensures in
    let size : length (bytes_for (times a.n month_fields) a.months.now) ≡ 9 * a.n = section_length a.n month_fields a.months.now c.requires.fit in
    section_placed a.out.now a.at a.n _ (omega (arith, size, c.requires.n_in_bounds)) counted c.put_months.ensures
