-- `showing::putting::line_at` meets its contract. Assumes nothing.
use Prim.Native.Nat.{◌+◌, ◌*◌}
use lib.IntN.{pos}
use lib.ListN.{get_or}
use mir.Facts.{to_z-of_z}
use mir.Syntax.{w64}
use mir.Val.{SFits}
use Rattle.showing.proofs.putting.line_at.Goals as goal
use native.Mathlib.Omega.{arith}

pub returns : goal.returns
returns c =
    let ms = c.args.months.now in
    let i = c.args.i in
    let f0 : SFits w64 (get_or ms (3 * i) (pos 0)) = record { sfits = (omega arith) } in
    let f1 : SFits w64 (get_or ms (3 * i + 1) (pos 0)) = record { sfits = (omega arith) } in
    let f2 : SFits w64 (get_or ms (3 * i + 2) (pos 0)) = record { sfits = (omega arith) } in
    rw (to_z-of_z f0, to_z-of_z f1, to_z-of_z f2) at c.line_bytes.ensures
