-- `one_sui::finding::moon_days` meets its contract. The loop's invariant: the first i days stand in the array's front. Assumes nothing.
use mathlib.Core.Path.{◌≡◌, refl, ap, ap₂, ◌∙◌}
use mathlib.Core.List.{List, ◌++◌, append-nil}
use Prim.Native.Nat.{ℕ, ◌+◌}
use native.Mathlib.Omega.{arith}
use lib.IntN.{ℤ, pos}
use lib.ListN.{length, drop, take, replicate}
use mir.Facts.{to_z-of_z}
use Rattle.std.proofs.Common.{drop_of_length-le, length-take-le}
use Rattle.whole.specs.Ranges.{back}
use Rattle.whole.specs.Tabulated.{tabulate, tabulate_turn, drop_replicate}
use Rattle.times.specs.declared.Day.{Day}
use Rattle.series.specs.declared.Body.TheVariants.{Moon}
use Rattle.series.specs.Series.{series}
use Rattle.turns.specs.Listed.{turn_day}
use Rattle.turns.specs.Searched.{count_small}
use Rattle.one_sui.proofs.finding.moon_days.Goals as goal
use Rattle.one_sui.proofs.finding.moon_days.Goals.{Start}

abbrev days_of : Start → ℕ → ℤ
days_of start k = turn_day start.args.leap.now (series Moon start.args.start.0 start.args.coefs.now) start.args.zone (start.args.from + k)

-- the array's front, as long as there are days to find
abbrev front : ℕ → List ℤ
front n = take n (replicate 14 (pos 0))

front_length : (start : Start) → length (front start.args.n) ≡ start.args.n
front_length start = length-take-le start.args.n (replicate 14 (pos 0)) start.requires.n_bound_2

pub loop-i-init : goal.loop-i-init
loop-i-init c = refl

pub overflow_add-from : goal.overflow_add-from
overflow_add-from c = record { fits = omega (arith, count_small c.requires.searched, c.requires.n_bound, c.loop-i-test.true, front_length (goal.at.overflow_add-from c).Start) }

pub day_of_turn-requires : goal.day_of_turn-requires
day_of_turn-requires c = rw (to_z-of_z c.ranges.zone) (record { searched = c.requires.searched; k_lt_count = omega (arith, c.requires.n_bound, c.loop-i-test.true, front_length (goal.at.day_of_turn-requires c).Start) })

pub loop-i-preserved : goal.loop-i-preserved
loop-i-preserved c =
    let days = days_of (goal.at.loop-i-preserved c).Start in
    let day : c.number_of.result ≡ days c.loop-i.i = c.number_of.ensures ∙ ap (λ (d : Day). d.0) (rw (to_z-of_z c.ranges.zone) at c.day_of_turn.ensures) in
    let head : c.loop-i.day-items ≡ tabulate days c.loop-i.i ++ drop c.loop-i.i (front c.args.n) = rw (to_z-of_z c.ranges.zone) at c.loop-i.invariant in
    rw (to_z-of_z c.ranges.zone, back c.number_of.result c.number_of.type_inv, day, head) (tabulate_turn days (front c.args.n) c.loop-i.i c.loop-i-test.true)

pub returns : goal.returns
returns c =
    let start = (goal.at.returns c).Start in
    let n = c.args.n in
    let i = c.loop-i.i in
    let days = days_of start in
    let head : c.loop-i.day-items ≡ tabulate days i ++ drop i (front n) = rw (to_z-of_z c.ranges.zone) at c.loop-i.invariant in
    let all : i ≡ n = omega (arith, c.loop-i-test.false, front_length start) in
    let found = head ∙ ap (λ (rest : List ℤ). tabulate days i ++ rest) (drop_of_length-le (front n) c.loop-i-test.false) ∙ append-nil (tabulate days i) ∙ ap (tabulate days) all in
    ap₂ (λ (a b : List ℤ). a ++ b) found (drop_replicate n 14 (pos 0))
