-- Where two walks begin: both places are listed, and what is asked of a turn's index. A walk over inputs is one over the same inputs, however they are named. Assumes
-- nothing.
use Rattle.std.specs.Prelude.{◌≡◌, true, List, [], ◌∷◌, ℕ, ◌*◌, ◌^◌, ◌<◌, ℤ, pos, ◌+ℤ◌, get_or}
use Rattle.std.proofs.Common.{ap, subst, ◌∙◌, arith, SFits, of_z, to_z}
use Rattle.std.specs.Int.Signed.{mag}
use Rattle.std.specs.Int.{w64}
use Rattle.whole.specs.Ranges.{back}
use Rattle.whole.specs.Booleans.{both}
use Rattle.whole.specs.Evaluated.{same_words}
use Rattle.series.specs.Series.{Series, series}
use Rattle.series.specs.declared.Body.TheVariants.{Sun, Moon}
use Rattle.inputs.specs.Inputs.{Inputs, inputs, sun, moon}
use Rattle.turns.specs.declared.inner.TurnList.{TurnList}
use Rattle.turns.specs.theory.Counting.{by_small}
use Rattle.turns.specs.Turns.{circle_of}
use Rattle.turns.specs.Listed.{turn_index_of, turn_day, turns_of}
use Rattle.turns.specs.Searched.{Searched, turn_fits, circles_small}
use Rattle.suis.specs.declared.inner.Places.{Places}
use Rattle.suis.specs.Ahead.{solstices_before}
use Rattle.build.specs.theory.Walk.{Begins, Walks}
use Rattle.found_again.specs.Begin.{begin_alike}
use Rattle.alike.specs.Alike.{words_are}

module _ {i : Inputs} {zone : ℤ} {suns moons : TurnList} {places : Places} {first : ℤ} {n : ℕ} (begun : Begins i zone suns moons places first n) where
  pub solstice_listed : places.solstice < turns_of (sun i)
  solstice_listed = omega (arith, begun.begins.is_place, begun.begins.is_listed)

  pub moon_listed : places.newmoon < turns_of (moon i)
  moon_listed =
      let at = begun.begins in
      omega (arith, at.is_moon, at.some_moons, by_small (turn_day i.leap (moon i) zone) (turn_day i.leap (sun i) zone (solstices_before i.leap (sun i) (moon i) zone first)) (turns_of (moon i)))

-- the index of a listed turn, by the first one's, read from its bits
module _ {leap : List ℤ} {s : Series} {zone : ℤ} {turns : TurnList} (searched : Searched leap s zone turns) (in_range_lem : mag turns.first < 2 ^ 63) (k : ℕ) where
  pub index_read : to_z w64 (of_z w64 turns.first) +ℤ pos (circle_of s.body * k) ≡ turn_index_of s k
  index_read = ap (λ (z : ℤ). z +ℤ pos (circle_of s.body * k)) (back turns.first in_range_lem ∙ ap (λ (t : TurnList). t.first) searched.are_turns)

  pub index_asked : k < turns_of s → (circle_of s.body * k < 2 ^ 63) × SFits w64 (to_z w64 (of_z w64 turns.first) +ℤ pos (circle_of s.body * k))
  index_asked listed = (circles_small s searched.ready.is_accepted k listed, rw index_read (turn_fits s searched.ready.is_accepted k listed))

-- ---- two walks that begin alike
pub record Alike (oldleap leap : List ℤ) (oldsunstart oldmoonstart oldsolstice oldnewmoon sunstart moonstart solstice newmoon : ℤ) : Type 0 where
  pub same_leap : oldleap ≡ leap
  pub same_sun : oldsunstart ≡ sunstart
  pub same_moon : oldmoonstart ≡ moonstart
  pub same_solstice : oldsolstice ≡ solstice
  pub same_newmoon : oldnewmoon ≡ newmoon

pub alike_says : (oldleap leap : List ℤ) (a b c d x y z w : ℤ) → begin_alike oldleap leap (a ∷ b ∷ c ∷ d ∷ []) (x ∷ y ∷ z ∷ w ∷ []) ≡ true → Alike oldleap leap a b c d x y z w
unfolding begin_alike
alike_says oldleap leap a b c d x y z w e =
    let old = a ∷ b ∷ c ∷ d ∷ [] in
    let new = x ∷ y ∷ z ∷ w ∷ [] in
    let two = both (same_words oldleap leap) (same_words old new) e in
    let same = words_are old new two.1 in
    record {
      same_leap = words_are oldleap leap two.0;
      same_sun = ap (λ (l : List ℤ). get_or l 0 (pos 0)) same;
      same_moon = ap (λ (l : List ℤ). get_or l 1 (pos 0)) same;
      same_solstice = ap (λ (l : List ℤ). get_or l 2 (pos 0)) same;
      same_newmoon = ap (λ (l : List ℤ). get_or l 3 (pos 0)) same;
    }

module _ {oldleap leap : List ℤ} {oldsunstart oldmoonstart oldsolstice oldnewmoon sunstart moonstart solstice newmoon : ℤ} (alike : Alike oldleap leap oldsunstart oldmoonstart oldsolstice oldnewmoon sunstart moonstart solstice newmoon) (oldsun oldmoon : List ℤ) where
  pub walks_so : {zone : ℤ} {suns moons : TurnList} {places : Places} {first : ℤ} {n : ℕ} {solstices newmoons zhongqi : List ℤ} → Walks (inputs oldleap oldsunstart oldsun oldmoonstart oldmoon) zone suns moons places first n solstices newmoons zhongqi → Walks (inputs leap sunstart oldsun moonstart oldmoon) zone suns moons places first n solstices newmoons zhongqi
  walks_so {zone} {suns} {moons} {places} {first} {n} {solstices} {newmoons} {zhongqi} walks =
      subst (λ (l : List ℤ). Walks (inputs l sunstart oldsun moonstart oldmoon) zone suns moons places first n solstices newmoons zhongqi) alike.same_leap
      (subst (λ (t : ℤ). Walks (inputs oldleap t oldsun moonstart oldmoon) zone suns moons places first n solstices newmoons zhongqi) alike.same_sun
      (subst (λ (t : ℤ). Walks (inputs oldleap oldsunstart oldsun t oldmoon) zone suns moons places first n solstices newmoons zhongqi) alike.same_moon walks))

  pub solstices_so : (oldplace : ℕ) → turn_index_of (series Sun oldsunstart oldsun) oldplace ≡ oldsolstice → turn_index_of (series Sun sunstart oldsun) oldplace ≡ solstice
  solstices_so oldplace e = subst (λ (t : ℤ). turn_index_of (series Sun t oldsun) oldplace ≡ oldsolstice) alike.same_sun e ∙ alike.same_solstice

  pub moons_so : (oldplace : ℕ) → turn_index_of (series Moon oldmoonstart oldmoon) oldplace ≡ oldnewmoon → turn_index_of (series Moon moonstart oldmoon) oldplace ≡ newmoon
  moons_so oldplace e = subst (λ (t : ℤ). turn_index_of (series Moon t oldmoon) oldplace ≡ oldnewmoon) alike.same_moon e ∙ alike.same_newmoon
