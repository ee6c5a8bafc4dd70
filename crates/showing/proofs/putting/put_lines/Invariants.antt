-- `showing::putting::put_lines` meets its contract. Assumes nothing.
use mathlib.Core.Path.{◌≡◌}
use Rattle.showing.specs.Shown.{lines}
use Rattle.whole.specs.Lists.{placed}
use Rattle.showing.proofs.putting.put_lines.Given as goal

abbrev pub invariant-loop-i : goal.invariant-loop-i
invariant-loop-i l = l.out ≡ placed 44 (lines l.months l.i) l.initial.out
