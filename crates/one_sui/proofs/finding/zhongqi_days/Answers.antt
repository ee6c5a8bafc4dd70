-- `one_sui::finding::zhongqi_days` meets its contract. The loop's invariant: the first i days stand in the array. Assumes nothing.
use mathlib.Core.Path.{◌≡◌, refl, ◌∙◌}
use mathlib.Core.List.{◌++◌, append-nil}
use Prim.Native.Nat.{ℕ}
use native.Mathlib.Omega.{arith}
use lib.IntN.{ℤ, pos}
use lib.ListN.{drop, replicate}
use mir.Facts.{to_z-of_z}
use Rattle.whole.specs.Ranges.{back}
use Rattle.whole.specs.Tabulated.{tabulate, tabulate_turn}
use Rattle.series.specs.declared.Body.TheVariants.{Sun}
use Rattle.series.specs.Series.{series}
use Rattle.one_sui.proofs.finding.zhongqi_days.Goals as goal
use Rattle.one_sui.proofs.finding.zhongqi_days.Invariants.{day_at}
use Rattle.one_sui.proofs.finding.zhongqi_days.Goals.{Start}

abbrev days_of : Start → ℕ → ℤ
days_of start = day_at start.args.leap.now (series Sun start.args.start.0 start.args.coefs.now) start.args.zone start.args.index

pub loop-i-init : goal.loop-i-init
loop-i-init c = refl

pub zhongqi_day-requires : goal.zhongqi_day-requires
zhongqi_day-requires c =
    rw (to_z-of_z c.ranges.zone, to_z-of_z c.ranges.index) (record { ready = c.requires.ready; within = c.requires.within; coefs_bound = c.requires.coefs_bound; pos_bound = c.requires.pos_bound; i_bound = omega arith })

pub loop-i-preserved : goal.loop-i-preserved
loop-i-preserved c =
    let days = days_of (goal.at.loop-i-preserved c).Start in
    let zeros = replicate 13 (pos 0) in
    let day : c.zhongqi_day.result ≡ days c.loop-i.i = rw (to_z-of_z c.ranges.zone, to_z-of_z c.ranges.index) at c.zhongqi_day.ensures in
    let head : c.loop-i.day-items ≡ tabulate days c.loop-i.i ++ drop c.loop-i.i zeros = rw (to_z-of_z c.ranges.zone, to_z-of_z c.ranges.index) at c.loop-i.invariant in
    rw (to_z-of_z c.ranges.zone, to_z-of_z c.ranges.index, back c.zhongqi_day.result c.zhongqi_day.type_inv, day, head) (tabulate_turn days zeros c.loop-i.i (omega arith))

pub returns : goal.returns
returns c =
    let days = days_of (goal.at.returns c).Start in
    let head : c.loop-i.day-items ≡ tabulate days c.loop-i.i ++ drop c.loop-i.i (replicate 13 (pos 0)) = rw (to_z-of_z c.ranges.zone, to_z-of_z c.ranges.index) at c.loop-i.invariant in
    let all : c.loop-i.i ≡ 13 = omega arith in
    head ∙ rw all (append-nil (tabulate days 13))
