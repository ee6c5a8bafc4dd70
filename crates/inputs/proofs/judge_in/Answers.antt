-- `inputs::judge_in` meets its contract. Assumes nothing.
use mathlib.Core.Path.{◌≡◌, sym, ap, ◌∙◌}
use mir.Facts.{to_z-of_z}
use Rattle.clock.specs.Clock.{is_zone}
use Rattle.clock.specs.Answers.{zone_judged}
use Rattle.inputs.specs.Inputs.{judged_in}
use Rattle.inputs.proofs.judge_in.Goals as goal
use Rattle.inputs.proofs.judge_in.Goals.{After-is_zone}

-- what is said of this function's own zone
zone_told : (c : After-is_zone) → c.is_zone.result ≡ is_zone c.args.zone
zone_told c = c.is_zone.ensures ∙ ap is_zone (to_z-of_z c.ranges.zone)

pub returns-then-not-is_zone : goal.returns-then-not-is_zone
unfolding judged_in zone_judged
returns-then-not-is_zone c =
    rw (sym (zone_told c.before) ∙ c.if-not-is_zone.true)

pub returns : goal.returns
unfolding judged_in zone_judged
returns c =
    rw (sym (zone_told c.before.before) ∙ c.if-not-is_zone.false) c.judge.ensures
