-- `kept_years::putting::put_lines` meets its contract: the lines of the first i suis are put. Assumes nothing.
use mathlib.Core.Path.{◌≡◌}
use Rattle.whole.specs.Lists.{placed}
use Rattle.almanac.specs.Layout.{content_at}
use Rattle.kept_years.specs.KeptYears.{lines}
use Rattle.kept_years.proofs.putting.put_lines.Given as goal

abbrev pub invariant-loop-i : goal.invariant-loop-i
invariant-loop-i l = l.out ≡ placed 0 (lines (content_at l.file l.n).suis l.years l.i) l.initial.out
