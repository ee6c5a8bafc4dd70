-- The series that is named is the one whose refusal the build gives; and where neither is named, a lawful leap table stands before two accepted series. Assumes
-- nothing but what a statement says itself.
use Rattle.std.specs.Prelude.{◌≡◌, refl, not, ◌||◌, List, ℕ, ◌/◌, ltb, ℤ, length, drop, Option, Some, None}
use Rattle.std.proofs.Common.{sym, arith}
use Rattle.refusals.specs.Verdict.{Verdict, answered, refused, accepted, refuse_when, ◌before◌}
use Rattle.words.specs.Words.{words}
use Rattle.clock.specs.Answers.{zone_judged, leap_judged}
use Rattle.series.specs.declared.Body.{Body}
use Rattle.series.specs.declared.Body.TheVariants.{Sun, Moon}
use Rattle.series.specs.Series.{Series}
use Rattle.series.specs.Acceptance.{Accepted, series_judged}
use Rattle.marks.specs.Listed.{listed_marks}
use Rattle.inputs.specs.Inputs.{Inputs, sun, moon, any_early, inputs_judged, judged_in}
use Rattle.layout.specs.declared.inner.Places.{Places}
use Rattle.layout.specs.Layout.{places, inputs_at}
use Rattle.built.specs.Build.{built_by}
use Rattle.building.specs.Building.{built_from_rest, built_from_words, length_kept, built_from}
use Rattle.building.specs.Refused.{◌leads_to◌, blamed, refused_of, refused_in_rest, refused_in_words, refused_series}

-- ---- three answers
not_sun : None ≡ Some Sun → ⊥
not_sun e = let z : ◌≡◌ {A = ℕ} 0 1 = cc in omega arith

not_moon : None ≡ Some Moon → ⊥
not_moon e = let z : ◌≡◌ {A = ℕ} 0 1 = cc in omega arith

sun_or_moon : Some Sun ≡ Some Moon → ⊥
sun_or_moon e = let z : ◌≡◌ {A = ℕ} 0 1 = cc in omega arith

moon_or_sun : Some Moon ≡ Some Sun → ⊥
moon_or_sun e = let z : ◌≡◌ {A = ℕ} 0 1 = cc in omega arith

-- ---- the chain, over any verdicts: leap table, Sun, Moon, and what a build judges behind them
abbrev Both : Verdict (Unit {0}) → Verdict (Unit {0}) → Verdict (Unit {0}) → Type 0
Both first series rest = (number : ℕ) × (segment : ℕ) × (series ≡ refused number segment) × (first before rest ≡ refused number segment)

names_sun : (l s m rest : Verdict (Unit {0})) → l leads_to (λ _. blamed s (Some Sun) (blamed m (Some Moon) None)) ≡ Some Sun → Both l s (s before m before rest)
names_sun (refused n k) s m rest e = absurd (not_sun e)
names_sun (answered a) (refused n k) m rest e = (n, k, refl, refl)
names_sun (answered a) (answered b) (refused n k) rest e = absurd (moon_or_sun e)
names_sun (answered a) (answered b) (answered d) rest e = absurd (not_sun e)

names_moon : (l s m rest : Verdict (Unit {0})) → l leads_to (λ _. blamed s (Some Sun) (blamed m (Some Moon) None)) ≡ Some Moon → Both l m (s before m before rest)
names_moon (refused n k) s m rest e = absurd (not_moon e)
names_moon (answered a) (refused n k) m rest e = absurd (sun_or_moon e)
names_moon (answered a) (answered b) (refused n k) rest e = (n, k, refl, refl)
names_moon (answered a) (answered b) (answered d) rest e = absurd (not_moon e)

-- of inputs: the refusal of the series is that of the judgement
abbrev Judged : Inputs → Series → Type 0
Judged i s = (number : ℕ) × (segment : ℕ) × (series_judged s ≡ refused number segment) × (inputs_judged i ≡ refused number segment)

-- what is judged last
abbrev early : Inputs → Verdict (Unit {0})
early i = refuse_when (any_early i.leap (listed_marks (sun i)) || any_early i.leap (listed_marks (moon i))) 7

sun_judged : (i : Inputs) → refused_of i ≡ Some Sun → Judged i (sun i)
unfolding refused_of inputs_judged
sun_judged i e = names_sun (leap_judged i.leap) (series_judged (sun i)) (series_judged (moon i)) (early i) e

moon_judged : (i : Inputs) → refused_of i ≡ Some Moon → Judged i (moon i)
unfolding refused_of inputs_judged
moon_judged i e = names_moon (leap_judged i.leap) (series_judged (sun i)) (series_judged (moon i)) (early i) e

leads_from : {A : Type 0} (u : Verdict A) (f : A → Option Body) (x : Option Body) → (None ≡ x → ⊥) → u leads_to f ≡ x → (a : A) × (u ≡ answered a) × (f a ≡ x)
leads_from (answered a) f x some e = (a, refl, e)
leads_from (refused number segment) f x some e = absurd (some e)

-- ---- the words of an input behind first Y and count
abbrev pub rest_of : List ℕ → List ℤ
rest_of bytes = drop 2 (words bytes (length bytes / 8))

-- The input keeps its layout, one of its series is refused, and that is the build's refusal, whatever the room.
pub record RefusedBy (body : Inputs → Series) (bytes : List ℕ) (zone : ℤ) (room : ℕ) : Type 0 where
  pub place : Places
  pub is_place : places (rest_of bytes) ≡ answered place
  pub number : ℕ
  pub segment : ℕ
  pub series_refused : series_judged (body (inputs_at (rest_of bytes) place)) ≡ refused number segment
  pub build_refused : built_from bytes zone room ≡ refused number segment

module _ (bytes : List ℕ) (zone : ℤ) (room : ℕ) where
  -- what is named of an input is named of its inputs, and a refusal of these is the build's
  named : (x : Option Body) → (None ≡ x → ⊥) → refused_series bytes zone ≡ x → (p : Places) × (places (rest_of bytes) ≡ answered p) × (refused_of (inputs_at (rest_of bytes) p) ≡ x) × ((number segment : ℕ) → inputs_judged (inputs_at (rest_of bytes) p) ≡ refused number segment → built_from bytes zone room ≡ refused number segment)
  unfolding refused_series refused_in_words refused_in_rest built_from built_from_words built_from_rest built_by judged_in
  named x some e =
      let in_zone = leads_from (zone_judged zone) _ x some e in
      let kept = leads_from (refuse_when (not (length_kept (length bytes))) 13) _ x some in_zone.2 in
      let enough = leads_from (refuse_when (ltb (length (words bytes (length bytes / 8))) 2) 13) _ x some kept.2 in
      let found = leads_from (places (rest_of bytes)) _ x some enough.2 in
      (found.0, found.1, found.2, λ number segment h. rw (in_zone.1, kept.1, enough.1, found.1, h))

  pub sun_is_refused : refused_series bytes zone ≡ Some Sun → RefusedBy sun bytes zone room
  sun_is_refused e =
      let n = named (Some Sun) not_sun e in
      let r = sun_judged (inputs_at (rest_of bytes) n.0) n.2 in
      record { place = n.0; is_place = n.1; number = r.0; segment = r.1; series_refused = r.2; build_refused = n.3 r.0 r.1 r.3 }

  pub moon_is_refused : refused_series bytes zone ≡ Some Moon → RefusedBy moon bytes zone room
  moon_is_refused e =
      let n = named (Some Moon) not_moon e in
      let r = moon_judged (inputs_at (rest_of bytes) n.0) n.2 in
      record { place = n.0; is_place = n.1; number = r.0; segment = r.1; series_refused = r.2; build_refused = n.3 r.0 r.1 r.3 }

-- ---- and where neither is named, behind a lawful leap table, both are accepted
names_neither : (s m : Verdict (Unit {0})) → blamed s (Some Sun) (blamed m (Some Moon) None) ≡ None → (s ≡ accepted) × (m ≡ accepted)
names_neither (refused n k) m e = absurd (not_sun (sym e))
names_neither (answered a) (refused n k) e = absurd (not_moon (sym e))
names_neither (answered a) (answered b) e = (refl, refl)

pub neither_is_accepted : (i : Inputs) → leap_judged i.leap ≡ accepted → refused_of i ≡ None → (Accepted (sun i)) × (Accepted (moon i))
unfolding refused_of
neither_is_accepted i l e = names_neither (series_judged (sun i)) (series_judged (moon i)) (rw l at e)
