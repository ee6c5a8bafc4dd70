-- `content::inner::is_lawful` meets its contract. Assumes nothing.
use mathlib.Core.Path.{◌≡◌, sym, ◌∙◌}
use mathlib.Core.Bool.{true}
use lib.ListN.{length}
use Rattle.clock.specs.Leap.{leap_lawful}
use Rattle.content.specs.Content.{whole_suis}
use Rattle.content.proofs.theory.Walk.{month_cut, whole_some, leap_broken, suis_broken, suis_decide}
use Rattle.content.proofs.inner.is_lawful.Goals as goal
use Rattle.content.proofs.inner.is_lawful.Goals.{After-whole_suis, Else-not-whole_suis}

table : (c : After-whole_suis) → leap_lawful c.args.leap.now ≡ true
table c = sym c.leap_lawful.ensures ∙ c.if-not-leap_lawful.false

whole : (c : Else-not-whole_suis) → whole_suis (length c.args.suis.now) ≡ true
whole c = sym c.whole_suis.ensures ∙ c.if-not-whole_suis.false

pub returns-then-not-leap_lawful : goal.returns-then-not-leap_lawful
returns-then-not-leap_lawful c =
    let a = c.args in
    leap_broken a.leap.now a.suis.now a.months.now (sym c.leap_lawful.ensures ∙ c.if-not-leap_lawful.true)

pub returns-then-not-whole_suis : goal.returns-then-not-whole_suis
returns-then-not-whole_suis c =
    let a = c.args in
    suis_broken a.leap.now a.suis.now a.months.now (table (goal.at.returns-then-not-whole_suis c).After-whole_suis) (sym c.whole_suis.ensures ∙ c.if-not-whole_suis.true)

pub returns-then-months-ne0 : goal.returns-then-months-ne0
returns-then-months-ne0 c =
    let a = c.args in
    let suis = whole (goal.at.returns-then-months-ne0 c).Else-not-whole_suis in
    month_cut a.suis.now a.months.now c.if-months-ne0.true ∙ suis_decide a.leap.now a.suis.now a.months.now (table (goal.at.returns-then-months-ne0 c).After-whole_suis) suis

pub suis_lawful-requires-clause-some : goal.suis_lawful-requires-clause-some
suis_lawful-requires-clause-some c = (whole_some (length c.args.suis.now) (whole (goal.at.suis_lawful-requires-clause-some c).Else-not-whole_suis)).0

pub returns : goal.returns
returns c =
    let a = c.args in
    c.suis_lawful.ensures ∙ suis_decide a.leap.now a.suis.now a.months.now (table (goal.at.returns c).After-whole_suis) (whole (goal.at.returns c).Else-not-whole_suis)
