-- `month_rule::numbering::numbered` meets its contract. The loop's invariant: the first months stand in the array, and none behind them.
-- Assumes nothing.
use mathlib.Core.Path.{◌≡◌, ap, ◌∙◌}
use mathlib.Core.List.{List, ◌++◌, append-nil}
use native.Mathlib.Omega.{arith}
use lib.ListN.{length, take, replicate}
use Rattle.std.proofs.Common.{drop_of_length-le, length-take-le}
use mir.Facts.{to_z-of_z}
use Rattle.whole.specs.Tabulated.{tabulate, tabulate_turn, drop_replicate}
use Rattle.months.specs.declared.Month.{Month}
use Rattle.months.specs.Handles.{no_month}
use Rattle.months.specs.Months.{month_at, numbered}
use Rattle.month_rule.proofs.numbering.numbered.Goals as goal
use Rattle.month_rule.proofs.numbering.numbered.Goals.{After-month_at}

-- the month that is stored
at_month : (c : After-month_at) → (c.month_at.result ≡ month_at c.args.year c.args.days c.loop-place.place)
unfolding month_at
at_month c = rw (to_z-of_z c.ranges.year, c.requires.leap_value) at c.month_at.ensures

pub loop-place-preserved : goal.loop-place-preserved
loop-place-preserved c =
    let fills = tabulate_turn (month_at c.args.year c.args.days) (take c.args.days.months (replicate 13 no_month)) c.loop-place.place (omega arith) in
    rw (at_month (goal.at.loop-place-preserved c).After-month_at, to_z-of_z c.ranges.year, rw (to_z-of_z c.ranges.year) at c.loop-place.invariant) fills

pub returns : goal.returns
unfolding numbered
returns c =
    let days = c.args.days in
    let made = month_at c.args.year days in
    let room : length (take days.months (replicate 13 no_month)) ≡ days.months = length-take-le days.months (replicate 13 no_month) c.requires.months_bound in
    let all : c.loop-place.place ≡ days.months = omega arith in
    let full : c.loop-place.month-items ≡ tabulate made days.months =
    (rw (to_z-of_z c.ranges.year, all) at c.loop-place.invariant)
    ∙ ap (λ (rest : List Month). tabulate made days.months ++ rest) (drop_of_length-le (take days.months (replicate 13 no_month)) (omega arith))
    ∙ append-nil (tabulate made days.months) in
    rw (full, drop_replicate days.months 13 no_month)
