-- `showing::putting::put_lines` meets its contract. Assumes nothing.
use mathlib.Core.Path.{◌≡◌}
use native.Mathlib.Omega.{arith}
use Rattle.showing.specs.theory.Putting.{no_lines, lines_turn}
use Rattle.showing.proofs.putting.put_lines.Goals as goal

pub loop-i-init : goal.loop-i-init
loop-i-init c =
    let a = c.args in
    no_lines a.months.now a.out.now

pub line_at-line-requires : goal.line_at-line-requires
line_at-line-requires c = record { i_in_bounds = omega (arith, c.loop-i-test.true, c.requires.n_in_bounds); i_value = c.requires.dated.each c.loop-i.i c.loop-i-test.true }

pub loop-i-preserved : goal.loop-i-preserved
loop-i-preserved c = lines_turn c.args.months.now c.args.out.now c.loop-i.i _ (omega (arith, c.loop-i-test.true, c.requires.n_in_bounds_2)) c.loop-i.invariant c.put.ensures c.line_at-line.ensures

pub returns : goal.returns
returns c =
    let all : c.loop-i.i ≡ c.args.n = omega (arith, c.loop-i-test.false) in
    rw all at c.loop-i.invariant
