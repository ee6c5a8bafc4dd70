-- `writer::writing::put_month` meets its contract. Assumes nothing.
use mathlib.Core.Path.{ap, ◌∙◌}
use mathlib.Core.List.{List}
use Prim.Native.Nat.{ℕ, ◌+◌}
use borrow.Author.Rules.{rules}
use mir.Facts.{to_z-of_z}
use Rattle.whole.specs.Lists.{placed}
use Rattle.almanac.specs.Fields.{one_byte, unsigned, signed, written}
use Rattle.almanac.specs.theory.Sections.{signed_fits, counted_fits, three_placed}
use Rattle.writer.proofs.writing.put_month.Goals as goal

pub put4-requires : goal.put4-requires
put4-requires c = record { at_in_bounds = search rules; z_bound = rw (to_z-of_z c.ranges.handle) (counted_fits 4294967296 c.args.handle c.requires.fits_field) }

pub put4-requires-2 : goal.put4-requires-2
put4-requires-2 c = record { at_in_bounds = search rules; z_bound = rw (to_z-of_z c.ranges.first) (signed_fits c.args.first c.requires.fits_field_2) }

pub put_byte-requires : goal.put_byte-requires
put_byte-requires c = record { at_in_bounds = search rules; z_bound = rw (to_z-of_z c.ranges.size) (counted_fits 256 c.args.size c.requires.fits_field_3) }

pub returns : goal.returns
returns c =
    let a = c.args in
    let first = rw (to_z-of_z c.ranges.handle) at c.put4.ensures in
    let second = rw (to_z-of_z c.ranges.first) at c.put4-2.ensures in
    let third = rw (to_z-of_z c.ranges.size) at c.put_byte.ensures in
    third
    ∙ ap (λ (l : List ℕ). placed (a.at + 8) (written one_byte a.size) l) (second ∙ ap (λ (l : List ℕ). placed (a.at + 4) (written signed a.first) l) first)
    ∙ three_placed a.out.now a.at unsigned signed one_byte a.handle a.first a.size c.requires.at_in_bounds
