-- `content::inner::first_handle` meets its contract. Assumes nothing.
use mathlib.Core.Path.{◌≡◌, ap, ◌∙◌}
use native.Mathlib.Omega.{arith}
use mir.Facts.{to_z-of_z}
use Rattle.whole.specs.Ranges.{back}
use Rattle.months.specs.declared.Month.{Month}
use Rattle.months.specs.Handles.{handle_at, month_of}
use Rattle.content.proofs.theory.Judged.{ordinary_at}
use Rattle.content.proofs.inner.first_handle.Goals as goal

pub returns : goal.returns
unfolding month_of
returns c =
    let fy = c.ranges.year in
    let is : c.month_of-month.result.handle ≡ handle_at c.args.year 13 0 = ap (λ (m : Month). m.handle) (rw (to_z-of_z fy) at c.month_of-month.ensures) in
    back c.month_of-month.result.handle (omega arith) ∙ is ∙ ordinary_at c.args.year 0 (omega arith)
