-- `found_again::inner::find_again` meets its contract. In the needs, `start` is the function's entry. Assumes nothing.
use mathlib.Core.Path.{◌≡◌, refl, sym, subst, ◌∙◌}
use lib.IntN.{ℤ}
use mir.Syntax.{w64}
use mir.Val.{of_z, to_z}
use mir.Facts.{to_z-of_z}
use Rattle.whole.specs.Ranges.{back}
use Rattle.inputs.specs.Inputs.{Inputs, inputs, sun, moon}
use Rattle.turns.specs.Listed.{turn_index_of}
use Rattle.build.specs.theory.Walk.{Begins, Walks}
use Rattle.found_again.specs.theory.Begun.{solstice_listed, moon_listed, index_read, index_asked, Alike, alike_says, walks_so, solstices_so, moons_so}
use Rattle.found_again.proofs.inner.find_again.Goals as goal
use Rattle.found_again.proofs.inner.find_again.Lts as lts
use Rattle.found_again.proofs.inner.find_again.Reads as reads
use Rattle.found_again.proofs.inner.find_again.Tie as tie
use native.Mathlib.Omega.{arith}

abbrev Start : Type 0
Start = lts.Start tie.the-claims reads.Pre reads.Post tie.handed_clauses

abbrev OldSolstice : Type 0
OldSolstice = lts.After-turn_index tie.the-claims reads.Pre reads.Post tie.handed_clauses

abbrev OldNewmoon : Type 0
OldNewmoon = lts.After-turn_index2 tie.the-claims reads.Pre reads.Post tie.handed_clauses

abbrev Solstice : Type 0
Solstice = lts.After-turn_index3 tie.the-claims reads.Pre reads.Post tie.handed_clauses

abbrev Newmoon : Type 0
Newmoon = lts.After-turn_index4 tie.the-claims reads.Pre reads.Post tie.handed_clauses

abbrev Compared : Type 0
Compared = lts.After-begin_alike tie.the-claims reads.Pre reads.Post tie.handed_clauses

abbrev newmoon_of : Compared → Newmoon
newmoon_of c = c.before.before.before.before.before.before.before

abbrev solstice_of : Newmoon → Solstice
solstice_of c = c.before.before

abbrev old_newmoon_of : Solstice → OldNewmoon
old_newmoon_of c = c.before.before

abbrev old_solstice_of : OldNewmoon → OldSolstice
old_solstice_of c = c.before.before

abbrev start_of : Compared → Start
start_of c = (old_solstice_of (old_newmoon_of (solstice_of (newmoon_of c)))).before.before

abbrev old_inputs : Start → Inputs
old_inputs start = let a = start.args in inputs a.oldleap.now a.oldsunstart.0 a.oldsun.now a.oldmoonstart.0 a.oldmoon.now

abbrev new_inputs : Start → Inputs
new_inputs start = let a = start.args in inputs a.leap.now a.sunstart.0 a.sun.now a.moonstart.0 a.moon.now

abbrev bits : ℤ → ℤ
bits z = to_z w64 (of_z w64 z)

-- zone and first year are handed on as bits
read_as : (start : Start) (P : ℤ → ℤ → Type 0) → P start.args.zone start.args.first → P (bits start.args.zone) (bits start.args.first)
read_as start P h =
    let a = start.args in
    subst (λ (zone : ℤ). P zone (bits a.first)) (sym (to_z-of_z start.ranges.zone)) (subst (λ (first : ℤ). P a.zone first) (sym (to_z-of_z start.ranges.first)) h)

at_old_solstice : (c : OldSolstice) → (bits c.turn_index-oldsolstice.result ≡ turn_index_of (sun (old_inputs c.before.before)) c.args.oldplaces.solstice)
at_old_solstice c = back c.turn_index-oldsolstice.result c.turn_index-oldsolstice.type_inv ∙ c.turn_index-oldsolstice.ensures ∙ index_read c.requires.walks.begun.suns_searched (omega arith) c.args.oldplaces.solstice

at_old_newmoon : (c : OldNewmoon) → (let start = (old_solstice_of c).before.before in bits c.turn_index-oldnewmoon.result ≡ turn_index_of (moon (old_inputs start)) start.args.oldplaces.newmoon)
at_old_newmoon c = let start = (old_solstice_of c).before.before in back c.turn_index-oldnewmoon.result c.turn_index-oldnewmoon.type_inv ∙ c.turn_index-oldnewmoon.ensures ∙ index_read start.requires.walks.begun.moons_searched (omega arith) start.args.oldplaces.newmoon

at_solstice : (c : Solstice) → (let start = (old_solstice_of (old_newmoon_of c)).before.before in bits c.turn_index-solstice.result ≡ turn_index_of (sun (new_inputs start)) start.args.places.solstice)
at_solstice c = let start = (old_solstice_of (old_newmoon_of c)).before.before in back c.turn_index-solstice.result c.turn_index-solstice.type_inv ∙ c.turn_index-solstice.ensures ∙ index_read start.requires.begins.suns_searched (omega arith) start.args.places.solstice

at_newmoon : (c : Newmoon) → (let start = (old_solstice_of (old_newmoon_of (solstice_of c))).before.before in bits c.turn_index-newmoon.result ≡ turn_index_of (moon (new_inputs start)) start.args.places.newmoon)
at_newmoon c = let start = (old_solstice_of (old_newmoon_of (solstice_of c))).before.before in back c.turn_index-newmoon.result c.turn_index-newmoon.type_inv ∙ c.turn_index-newmoon.ensures ∙ index_read start.requires.begins.moons_searched (omega arith) start.args.places.newmoon

at_alike : (c : lts.Then1 tie.the-claims reads.Pre reads.Post tie.handed_clauses) → (let start = start_of c.before in let a = start.args in let old = old_inputs start in let new = new_inputs start in Alike a.oldleap.now a.leap.now a.oldsunstart.0 a.oldmoonstart.0 (turn_index_of (sun old) a.oldplaces.solstice) (turn_index_of (moon old) a.oldplaces.newmoon) a.sunstart.0 a.moonstart.0 (turn_index_of (sun new) a.places.solstice) (turn_index_of (moon new) a.places.newmoon))
at_alike c =
    let four = newmoon_of c.before in
    let three = solstice_of four in
    let two = old_newmoon_of three in
    let one = old_solstice_of two in
    let a = (start_of c.before).args in
    let said =
    alike_says a.oldleap.now a.leap.now (bits a.oldsunstart.0) (bits a.oldmoonstart.0) (bits one.turn_index-oldsolstice.result) (bits two.turn_index-oldnewmoon.result) (bits a.sunstart.0) (bits a.moonstart.0) (bits three.turn_index-solstice.result) (bits four.turn_index-newmoon.result)
    (sym c.begin_alike.ensures ∙ c.if-begin_alike.true) in
    record {
      same_leap = said.same_leap;
      same_sun = sym (back a.oldsunstart.0 (omega arith)) ∙ said.same_sun ∙ back a.sunstart.0 (omega arith);
      same_moon = sym (back a.oldmoonstart.0 (omega arith)) ∙ said.same_moon ∙ back a.moonstart.0 (omega arith);
      same_solstice = sym (at_old_solstice one) ∙ said.same_solstice ∙ at_solstice three;
      same_newmoon = sym (at_old_newmoon two) ∙ said.same_newmoon ∙ at_newmoon four;
    }

pub turn_index-oldsolstice-requires : goal.turn_index-oldsolstice-requires
turn_index-oldsolstice-requires c = let begun = c.requires.walks.begun in record { k_bound = (index_asked begun.suns_searched (omega arith) c.args.oldplaces.solstice (solstice_listed begun)).0; sfits = (index_asked begun.suns_searched (omega arith) c.args.oldplaces.solstice (solstice_listed begun)).1 }

pub turn_index-oldnewmoon-requires : goal.turn_index-oldnewmoon-requires
turn_index-oldnewmoon-requires c = let begun = c.requires.walks.begun in record { k_bound = (index_asked begun.moons_searched (omega arith) c.args.oldplaces.newmoon (moon_listed begun)).0; sfits = (index_asked begun.moons_searched (omega arith) c.args.oldplaces.newmoon (moon_listed begun)).1 }

pub turn_index-solstice-requires : goal.turn_index-solstice-requires
turn_index-solstice-requires c = let start = (old_solstice_of c.before.before).before.before in let begun = start.requires.begins in record { k_bound = (index_asked begun.suns_searched (omega arith) start.args.places.solstice (solstice_listed begun)).0; sfits = (index_asked begun.suns_searched (omega arith) start.args.places.solstice (solstice_listed begun)).1 }

pub turn_index-newmoon-requires : goal.turn_index-newmoon-requires
turn_index-newmoon-requires c = let start = (old_solstice_of (old_newmoon_of c.before.before)).before.before in let begun = start.requires.begins in record { k_bound = (index_asked begun.moons_searched (omega arith) start.args.places.newmoon (moon_listed begun)).0; sfits = (index_asked begun.moons_searched (omega arith) start.args.places.newmoon (moon_listed begun)).1 }

pub find_by-requires : goal.find_by-requires
find_by-requires c =
    let start = start_of c.before.before.before.before.before in
    let a = start.args in
    let alike = at_alike c.before.before.before.before in
    let walks = read_as start (λ zone first. Walks (inputs a.leap.now a.sunstart.0 a.oldsun.now a.moonstart.0 a.oldmoon.now) zone a.oldsuns a.oldmoons a.oldplaces first a.n a.oldsolstices.now a.oldnewmoons.now a.oldzhongqi.now) (walks_so alike a.oldsun.now a.oldmoon.now start.requires.walks) in
    let begins = read_as start (λ zone first. Begins (new_inputs start) zone a.suns a.moons a.places first a.n) start.requires.begins in
    record { walks = walks; begins = begins; shared = start.requires.shared; shared_2 = start.requires.shared_2; solstice_value = solstices_so alike a.oldsun.now a.oldmoon.now a.oldplaces.solstice refl; newmoon_after = moons_so alike a.oldsun.now a.oldmoon.now a.oldplaces.newmoon refl; n_in_bounds = start.requires.n_in_bounds; n_in_bounds_2 = start.requires.n_in_bounds_2; n_in_bounds_3 = start.requires.n_in_bounds_3 }

pub returns-then-begin_alike : goal.returns-then-begin_alike
returns-then-begin_alike c =
    let start = start_of c.before.before.before.before.before.before.before.before in
    rw (to_z-of_z start.ranges.zone, to_z-of_z start.ranges.first) at c.find_by.ensures

pub find_ahead-requires : goal.find_ahead-requires
find_ahead-requires c =
    let start = start_of c.before.before.before.before.before in
    rw (to_z-of_z start.ranges.zone, to_z-of_z start.ranges.first) (record { begins = start.requires.begins; n_in_bounds = start.requires.n_in_bounds; n_in_bounds_2 = start.requires.n_in_bounds_2; n_in_bounds_3 = start.requires.n_in_bounds_3 })

pub returns : goal.returns
returns c =
    let start = start_of c.before.before.before.before.before.before.before.before in
    let told = rw (to_z-of_z start.ranges.zone, to_z-of_z start.ranges.first) at c.find_ahead.ensures in
    record { solstices_bound = told.solstices_bound; walks_2 = told.walks }
