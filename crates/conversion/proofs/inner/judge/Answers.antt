-- `conversion::inner::judge` meets its contract. Assumes nothing.
use mathlib.Core.Path.{◌≡◌, sym, ap, ◌∙◌}
use mathlib.Core.Bool.{true}
use mir.Facts.{to_z-of_z}
use Rattle.clock.specs.Leap.{leap_lawful}
use Rattle.clock.specs.Clock.{is_zone, convertible}
use Rattle.clock.specs.Answers.{zone_judged, leap_judged, clock_judged}
use Rattle.conversion.proofs.inner.judge.Goals as goal
use Rattle.conversion.proofs.inner.judge.Goals.{After-convertible, After-early, After-is_zone, After-leap_lawful}

-- what is said of this function's own zone
zone_told : (c : After-is_zone) → c.is_zone.result ≡ is_zone c.args.zone
zone_told c = c.is_zone.ensures ∙ ap is_zone (to_z-of_z c.ranges.zone)

pub returns-then-not-is_zone : goal.returns-then-not-is_zone
unfolding zone_judged clock_judged
returns-then-not-is_zone c =
    rw (sym (zone_told (goal.at.returns-then-not-is_zone c).After-is_zone) ∙ c.if-not-is_zone.true)

-- once the zone is c.before, then the table, and then the second
zone_then : (c : After-leap_lawful) → is_zone c.args.zone ≡ true
zone_then c =
    sym (zone_told c.before.before) ∙ c.if-not-is_zone.false

lawful_then : (c : After-convertible) → leap_lawful c.args.leap.now ≡ true
lawful_then c =
    sym c.leap_lawful.ensures ∙ c.if-not-leap_lawful.false

convertible_then : (c : After-early) → convertible c.args.second ≡ true
convertible_then c =
    sym c.convertible.ensures ∙ c.if-not-convertible.false

pub returns-then-not-leap_lawful : goal.returns-then-not-leap_lawful
unfolding zone_judged leap_judged clock_judged
returns-then-not-leap_lawful c =
    rw (zone_then (goal.at.returns-then-not-leap_lawful c).After-leap_lawful, sym c.leap_lawful.ensures ∙ c.if-not-leap_lawful.true)

pub returns-then-not-convertible : goal.returns-then-not-convertible
unfolding zone_judged leap_judged clock_judged
returns-then-not-convertible c =
    rw (zone_then (goal.at.returns-then-not-convertible c).After-leap_lawful, lawful_then (goal.at.returns-then-not-convertible c).After-convertible, sym c.convertible.ensures ∙ c.if-not-convertible.true)

pub early-requires : goal.early-requires
early-requires c =
    record { leap_value = lawful_then (goal.at.early-requires c).After-convertible; second_value = sym c.convertible.ensures ∙ c.if-not-convertible.false }

pub returns-then-early : goal.returns-then-early
unfolding zone_judged leap_judged clock_judged
returns-then-early c =
    rw (zone_then (goal.at.returns-then-early c).After-leap_lawful, lawful_then (goal.at.returns-then-early c).After-convertible, convertible_then (goal.at.returns-then-early c).After-early, sym c.early.ensures ∙ c.if-early.true)

pub returns : goal.returns
unfolding zone_judged leap_judged clock_judged
returns c =
    rw (zone_then (goal.at.returns c).After-leap_lawful, lawful_then (goal.at.returns c).After-convertible, convertible_then (goal.at.returns c).After-early, sym c.early.ensures ∙ c.if-early.false)
