-- `writer::writing::put_entry` meets its contract. Assumes nothing.
use mathlib.Core.Path.{ap, ◌∙◌}
use mathlib.Core.List.{List}
use Prim.Native.Nat.{ℕ, ◌+◌}
use borrow.Author.Rules.{rules}
use mir.Facts.{to_z-of_z}
use Rattle.whole.specs.Lists.{placed}
use Rattle.almanac.specs.Fields.{unsigned, signed, written}
use Rattle.almanac.specs.theory.Sections.{signed_fits, counted_fits, two_placed}
use Rattle.writer.proofs.writing.put_entry.Goals as goal

pub put4-requires : goal.put4-requires
put4-requires c = record { at_in_bounds = search rules; z_bound = rw (to_z-of_z c.ranges.day) (signed_fits c.args.day c.requires.fits_field) }

pub put4-requires-2 : goal.put4-requires-2
put4-requires-2 c = record { at_in_bounds = search rules; z_bound = rw (to_z-of_z c.ranges.offset) (counted_fits 4294967296 c.args.offset c.requires.fits_field_2) }

pub returns : goal.returns
returns c =
    let a = c.args in
    let first = rw (to_z-of_z c.ranges.day) at c.put4.ensures in
    let second = rw (to_z-of_z c.ranges.offset) at c.put4-2.ensures in
    second ∙ ap (λ (l : List ℕ). placed (a.at + 4) (written unsigned a.offset) l) first ∙ two_placed a.out.now a.at signed unsigned a.day a.offset c.requires.at_in_bounds
