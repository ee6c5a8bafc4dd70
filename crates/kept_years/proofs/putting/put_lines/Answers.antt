-- `kept_years::putting::put_lines` meets its contract: the lines of the first i suis are put. Assumes nothing.
use mathlib.Core.Path.{◌≡◌, ap, ◌∙◌}
use Prim.Native.Nat.{ℕ}
use native.Mathlib.Omega.{arith}
use lib.IntN.{ℤ}
use Rattle.whole.specs.Ranges.{back}
use Rattle.whole.specs.Lists.{placed}
use Rattle.almanac.specs.Layout.{content_at}
use Rattle.kept_years.specs.KeptYears.{line, lines}
use Rattle.kept_years.specs.theory.Putting.{no_lines, lines_turn}
use Rattle.kept_years.proofs.putting.put_lines.Goals as goal

pub loop-i-init : goal.loop-i-init
loop-i-init c =
    let a = c.args in
    no_lines (content_at a.file.now a.n).suis a.years.now a.out.now

pub loop-i-preserved : goal.loop-i-preserved
loop-i-preserved c =
    let a = c.args in
    let is = c.line_bytes-line.ensures ∙ ap (λ (z : ℤ). line z a.years.now) (back c.year_at.result c.year_at.type_inv ∙ c.year_at.ensures) in
    lines_turn (content_at a.file.now a.n).suis a.years.now a.out.now c.loop-i.i _ (omega (arith, c.loop-i-test.true, c.requires.suis_in_bounds)) c.loop-i.invariant c.put.ensures is

pub returns : goal.returns
returns c =
    let a = c.args in
    let all : c.loop-i.i ≡ a.n.suis = omega (arith, c.loop-i-test.false) in
    c.loop-i.invariant ∙ ap (λ (k : ℕ). placed 0 (lines (content_at a.file.now a.n).suis a.years.now k) a.out.now) all
