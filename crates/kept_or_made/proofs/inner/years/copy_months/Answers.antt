-- `kept_or_made::inner::years::copy_months` meets its contract. Assumes nothing.
use mathlib.Core.Path.{ap, ◌∙◌}
use Prim.Native.Nat.{◌-◌, ◌*◌, ◌≤◌}
use native.Mathlib.Omega.{arith}
use lib.ListN.{length}
use borrow.Rule.Slice.PartMut.{mid_of, put_mid, mid_len}
use Rattle.almanac.specs.Fields.{times}
use Rattle.almanac.specs.Layout.{month_fields}
use Rattle.almanac.specs.theory.FieldLaws.{numbers_length, length_times}
use Rattle.kept_or_made.specs.Again.{months_at_place}
use Rattle.whole.specs.Lists.{put_back}
use Rattle.kept_or_made.proofs.inner.years.copy_months.Goals as goal

pub returns : goal.returns
returns c =
    let a = c.args in
    let ws = a.out.now in
    let words = months_at_place a.file.now a.at a.n in
    let size = numbers_length (times a.n month_fields) a.file.now a.at ∙ length_times a.n month_fields in
    let fits : 3 * a.n ≤ length (mid_of a.to (length ws - a.to) ws) = omega (arith, mid_len a.to (length ws) ws (omega (arith, c.requires)), c.requires) in
    ap (put_mid a.to (length ws - a.to) ws) c.read_months.ensures ∙ put_back ws words a.to (length ws - a.to) (3 * a.n) size fits
