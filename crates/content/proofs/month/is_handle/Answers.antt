-- `content::month::is_handle` meets its contract. Assumes nothing.
use native.Mathlib.Omega.{arith}
use mathlib.Core.Path.{◌≡◌, ap, ◌∙◌}
use lib.IntN.{ℤ}
use mir.Facts.{to_z-of_z}
use Rattle.whole.specs.Tests.{is_exactly}
use Rattle.months.specs.declared.Month.{Month}
use Rattle.months.specs.Handles.{handle_at, month_of}
use Rattle.content.proofs.theory.Judged.{by_bits}
use Rattle.content.proofs.month.is_handle.Goals as goal

pub returns : goal.returns
unfolding month_of
returns c =
    let fy = c.ranges.year in
    let fh = c.ranges.h in
    let is : c.month_of-month.result.handle ≡ handle_at c.args.year c.args.leap c.args.place = ap (λ (m : Month). m.handle) (rw (to_z-of_z fy) at c.month_of-month.ensures) in
    by_bits c.month_of-month.result.handle c.args.h (record { sfits = omega arith }) fh ∙ ap (λ (handle : ℤ). is_exactly handle c.args.h) is
