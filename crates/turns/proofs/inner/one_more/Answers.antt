-- `turns::inner::one_more` meets its contract. In the needs, `start` is the function's entry. Assumes nothing.
use mathlib.Core.Path.{◌≡◌, refl, sym, ap, ◌∙◌}
use mathlib.Core.Bool.{Bool, true, false}
use Prim.Native.Nat.{ℕ, ◌+◌}
use native.Mathlib.Omega.{arith}
use borrow.Author.Tests.{eq-eqb, ne_eqb}
use lib.IntN.{ℤ}
use lib.Dec.{eqb}
use lib.Signed.{lt_z}
use mir.Facts.{to_z-of_z}
use Rattle.series.specs.Series.{series}
use Rattle.times.specs.declared.Day.{Day}
use Rattle.turns.specs.Listed.{turn_day}
use Rattle.turns.specs.Listed.{turns_by}
use Rattle.turns.specs.Searched.{by_small, turn_counts, turn_is_behind}
use Rattle.turns.proofs.inner.one_more.Goals as goal
use Rattle.turns.proofs.inner.one_more.Goals.{After-comes_before, After-comes_before-2, Start}

abbrev counted : Start → ℕ
counted start = turns_by start.args.leap.now (series start.args.body start.args.start.0 start.args.coefs.now) start.args.zone start.args.day.0

abbrev day_of : Start → ℕ → ℤ
day_of start = turn_day start.args.leap.now (series start.args.body start.args.start.0 start.args.coefs.now) start.args.zone

at_here : (c : After-comes_before) → (c.comes_before.result ≡ lt_z c.args.day.0 (day_of c.before.before.before c.args.k))
at_here c =
    c.comes_before.ensures ∙ ap (λ (d : Day). lt_z c.args.day.0 d.0) (rw (to_z-of_z c.ranges.zone) at c.day_of_turn-here.ensures)

at_next : (c : After-comes_before-2) → (c.comes_before-2.result ≡ lt_z c.args.day.0 (day_of c.before.before.before.before.before.before.before (c.args.k + 1)))
at_next c =
    c.comes_before-2.ensures ∙ ap (λ (d : Day). lt_z c.args.day.0 d.0) (rw (to_z-of_z c.ranges.zone) at c.day_of_turn-next.ensures)

pub returns-then-count-k : goal.returns-then-count-k
returns-then-count-k c =
    sym (ne_eqb (counted c.before) (c.args.k + 1) (λ e. omega (arith, by_small c.requires c.args.day.0)))

pub returns-then-comes_before : goal.returns-then-comes_before
returns-then-comes_before c =
    let behind = turn_is_behind c.requires c.args.day.0 c.args.k (omega arith) (sym (at_here c.before) ∙ c.if-comes_before.true) in
    sym (ne_eqb (counted c.before.before.before.before) (c.args.k + 1) (λ e. omega arith))

pub returns-then-count-k-2 : goal.returns-then-count-k-2
returns-then-count-k-2 c =
    let counts = turn_counts c.requires c.args.day.0 c.args.k (omega arith) (sym (at_here c.before.before) ∙ c.if-comes_before.false) in
    sym (eq-eqb (counted c.before.before.before.before.before) (c.args.k + 1) (omega (arith, by_small c.requires c.args.day.0)))

pub returns : goal.returns
returns c = at_next c ∙ decides (lt_z start.args.day.0 (day_of start (start.args.k + 1))) refl
  where
    start : Start
    start = c.before.before.before.before.before.before.before

    decides : (b : Bool) → lt_z start.args.day.0 (day_of start (start.args.k + 1)) ≡ b → b ≡ eqb (counted start) (start.args.k + 1)
    decides true e =
        let counts = turn_counts start.requires start.args.day.0 start.args.k (omega arith) (sym (at_here c.before.before.before.before) ∙ c.if-comes_before.false) in
        let behind = turn_is_behind start.requires start.args.day.0 (start.args.k + 1) (omega arith) e in
        sym (eq-eqb (counted start) (start.args.k + 1) (omega arith))
    decides false e =
        let counts = turn_counts start.requires start.args.day.0 (start.args.k + 1) (omega arith) e in
        sym (ne_eqb (counted start) (start.args.k + 1) (λ q. omega arith))
