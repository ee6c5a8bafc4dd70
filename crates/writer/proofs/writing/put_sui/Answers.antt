-- `writer::writing::put_sui` meets its contract. Assumes nothing.
use mathlib.Core.Path.{ap, ◌∙◌}
use mathlib.Core.List.{List}
use Prim.Native.Nat.{ℕ, ◌+◌}
use borrow.Author.Rules.{rules}
use mir.Facts.{to_z-of_z}
use Rattle.whole.specs.Lists.{placed}
use Rattle.almanac.specs.Fields.{one_byte, signed, written}
use Rattle.almanac.specs.theory.Sections.{signed_fits, counted_fits, two_placed}
use Rattle.writer.proofs.writing.put_sui.Goals as goal

pub put4-requires : goal.put4-requires
put4-requires c = record { at_in_bounds = search rules; z_bound = rw (to_z-of_z c.ranges.year) (signed_fits c.args.year c.requires.fits_field) }

pub put_byte-requires : goal.put_byte-requires
put_byte-requires c = record { at_in_bounds = search rules; z_bound = rw (to_z-of_z c.ranges.months) (counted_fits 256 c.args.months c.requires.fits_field_2) }

pub returns : goal.returns
returns c =
    let a = c.args in
    let first = rw (to_z-of_z c.ranges.year) at c.put4.ensures in
    let second = rw (to_z-of_z c.ranges.months) at c.put_byte.ensures in
    second ∙ ap (λ (l : List ℕ). placed (a.at + 4) (written one_byte a.months) l) first ∙ two_placed a.out.now a.at signed one_byte a.year a.months c.requires.at_in_bounds
