-- `showing::lines::line_bytes` meets its contract. Assumes nothing.
use Prim.Native.Nat.{ℕ, ◌/◌, ◌%◌}
use lib.Dec.{eqb}
use lib.IntN.{nat_abs}
use mathlib.Core.Path.{◌≡◌, ◌∙◌}
use Rattle.dates.specs.Calendar.{date_for}
use Rattle.dates.specs.declared.Date.{Date}
use Rattle.months.specs.declared.Month.{Month}
use Rattle.showing.specs.Shown.{date_text, columns, line}
use Rattle.whole.specs.Ranges.{back}
use Rattle.showing.proofs.lines.line_bytes.Goals as goal
use native.Mathlib.Omega.{arith}

line_is : (m : Month) {handle days : ℕ} {date : Date} → handle ≡ nat_abs m.handle → date ≡ date_for m.first → days ≡ nat_abs m.length → columns (handle / 32) (handle % 32 / 2) (eqb (handle % 2) 1) handle (date_text date) days ≡ line m
unfolding line
line_is m e f g = rw (e, f, g)

pub returns : goal.returns
returns c =
    let m = c.args.month in
    let eh : c.absolute-handle.result ≡ nat_abs m.handle = rw (back m.handle (omega arith)) at c.absolute-handle.ensures in
    let ef : c.date_for-date.result ≡ date_for m.first = rw (back m.first (omega arith)) at c.date_for-date.ensures in
    let ed : c.absolute-days.result ≡ nat_abs m.length = rw (back m.length (omega arith)) at c.absolute-days.ensures in
    c.row_bytes.ensures ∙ c.row_of.ensures ∙ line_is m eh ef ed
