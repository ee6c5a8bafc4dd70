-- `conversion::inner::inserted` meets its contract. Assumes nothing.
use mathlib.Core.Path.{sym, ◌∙◌, subst}
use native.Mathlib.Omega.{arith}
use native.Mathlib.Numerals.{add-one}
use Prim.Native.Nat.{ℕ}
use mir.Facts.{to_z-of_z}
use Rattle.whole.specs.Ranges.{fits, bounds, back}
use Rattle.clock.proofs.theory.Used.{Used, used}
use Rattle.clock.proofs.theory.Inserted.{last_inserts_nothing, next_decides}
use Rattle.conversion.proofs.inner.inserted.Goals as goal
use Rattle.conversion.proofs.inner.inserted.Goals.{Start}

-- entry i is used
here : (c : Start) → Used c.args.leap.now c.args.t.0 c.args.i
here c = subst (λ (i : ℕ). Used c.args.leap.now c.args.t.0 i) (sym c.requires.i_value) (used c.args.leap.now c.args.t.0 c.requires.leap_value)

pub overflow_add-i : goal.overflow_add-i
overflow_add-i c = record { fits = omega (arith, (here (goal.at.overflow_add-i c).Start).below, c.well_formed) }

pub returns-then-leap-i : goal.returns-then-leap-i
returns-then-leap-i c =
    sym (last_inserts_nothing c.args.leap.now c.requires.leap_value c.args.t.0 c.args.i (here (goal.at.returns-then-leap-i c).Start) (omega (arith, c.if-leap-i.true)))

pub overflow_add-millis : goal.overflow_add-millis
overflow_add-millis c = fits (search bounds) tt

pub returns : goal.returns
returns c =
    let ft = back c.args.t.0 (omega arith) in
    let l = c.requires.leap_value in
    (rw (to_z-of_z (overflow_add-millis c.before), ft, add-one c.args.i) at c.holds.ensures)
    ∙ next_decides c.args.leap.now l c.args.t.0 c.args.i (here (goal.at.returns c).Start) (omega (arith, c.if-leap-i.false))
