-- What is proved of two series, over the definition: who serves, exactly; 18 exactly where neither covers the second; that the value by the part that is given back is
-- the value of the series that serves; and how long that part is. Assumes nothing but what a statement says itself.
use Rattle.std.specs.Prelude.{◌≡◌, ◌↔◌, Bool, List, [], ℕ, ◌<◌, ℤ, length}
use Rattle.std.proofs.Math.Path.{refl, subst}
use Rattle.std.proofs.Common.{sym, ap, ◌∙◌, arith}
use Rattle.std.proofs.Math.Bool.{true, false, cond}
use Rattle.std.specs.Borrow.{Bor}
use Rattle.refusals.specs.Verdict.{Verdict, answered, refused, ◌before◌, before_answered, answers_apart, answer_or_refusal}
use Rattle.chebyshev.specs.Segment.{value}
use Rattle.series.specs.declared.Body.{Body}
use Rattle.series.specs.Series.{Series, series, segment, segments, InSpan, covers, segment_at, place_at, value_at}
use Rattle.series.specs.Acceptance.{Accepted, series_judged, value_of}
use Rattle.series.proofs.theory.Known.{segment_length_lem}
use Rattle.series.proofs.theory.Refused.{refused_by_two_to_five}
use Rattle.series.proofs.theory.Span.{covers_says, says_covers, not_covers_says, says_not_covers, segment_in_span}
use Rattle.served.specs.declared.Served.{Served}
use Rattle.served.specs.declared.Side.{Side}
use Rattle.served.specs.declared.Side.TheVariants.{Near, Long}
use Rattle.served.specs.Served.{chosen, served_by, choice, serves, part_served, IsPart}
use Rattle.served.proofs.theory.Cases.{near_serves, long_serves, none_serves}

-- ---- the statements
-- near serves where it covers the second; long where it does, and near does not
abbrev pub Covering : Series → Series → ℤ → Side → Type 0
Covering n l second Near = InSpan n second
Covering n l second Long = (InSpan n second → ⊥) × InSpan l second

pub record Serves (n l : Series) (second : ℤ) (g : Served) : Type 0 where
  pub near_accepted : Accepted n
  pub long_accepted : Accepted l
  pub covering : Covering n l second g.side
  pub its_segment : g.segment ≡ segment_at (chosen g.side n l) second

pub record Unserved (n l : Series) (second : ℤ) : Type 0 where
  pub near_accepted : Accepted n
  pub long_accepted : Accepted l
  pub not_near : InSpan n second → ⊥
  pub not_long : InSpan l second → ⊥

module _ (n l : Series) (second : ℤ) where
  -- ---- who serves
  served_says : (g : Served) → serves n l second ≡ answered g → Serves n l second g
  unfolding serves
  served_says g e =
      let a = before_answered (series_judged n) (series_judged l before choice n l second) e in
      let b = before_answered (series_judged l) (choice n l second) a.1 in
      go a.0 b.0 (covers n second) refl (covers l second) refl b.1
    where
      go : Accepted n → Accepted l → (x : Bool) → covers n second ≡ x → (y : Bool) → covers l second ≡ y → cond x (answered (served_by Near n second)) (cond y (answered (served_by Long l second)) (refused 18 0)) ≡ answered g → Serves n l second g
      go p q true h y k f = subst (Serves n l second) (answers_apart f) (record { near_accepted = p; long_accepted = q; covering = covers_says n h; its_segment = refl })
      go p q false h true k f = subst (Serves n l second) (answers_apart f) (record { near_accepted = p; long_accepted = q; covering = (not_covers_says n h, covers_says l k); its_segment = refl })
      go p q false h false k f = answer_or_refusal (sym f)

  says_served : (side : Side) (k : ℕ) → Serves n l second (record { side = side; segment = k }) → serves n l second ≡ answered (record { side = side; segment = k })
  says_served Near k s = near_serves n l second s.near_accepted s.long_accepted (says_covers n s.covering) ∙ ap (λ (i : ℕ). answered (record { side = Near; segment = i })) (sym s.its_segment)
  says_served Long k s =
      long_serves n l second s.near_accepted s.long_accepted (says_not_covers n s.covering.0) (says_covers l s.covering.1)
      ∙ ap (λ (i : ℕ). answered (record { side = Long; segment = i })) (sym s.its_segment)

  pub served_exactly_when : (g : Served) → serves n l second ≡ answered g ↔ Serves n l second g
  served_exactly_when g = (served_says g, says_served g.side g.segment)

  -- it has the segment
  by_side : (side : Side) (k : ℕ) → Serves n l second (record { side = side; segment = k }) → k < segments (chosen side n l).coefs
  by_side Near k s = subst (λ (i : ℕ). i < segments n.coefs) (sym s.its_segment) (segment_in_span n s.near_accepted s.covering)
  by_side Long k s = subst (λ (i : ℕ). i < segments l.coefs) (sym s.its_segment) (segment_in_span l s.long_accepted s.covering.1)

  pub segment_there : {g : Served} → serves n l second ≡ answered g → g.segment < segments (chosen g.side n l).coefs
  segment_there {g} e = by_side g.side g.segment (served_says g e)

  -- ---- 18: both are accepted, and neither covers the second
  passed : (s : Series) (v : Verdict Served) → series_judged s before v ≡ refused 18 0 → Accepted s × (v ≡ refused 18 0)
  passed s v = go (series_judged s) refl
    where
      go : (u : Verdict (Unit {0})) → series_judged s ≡ u → u before v ≡ refused 18 0 → Accepted s × (v ≡ refused 18 0)
      go (answered tt) p e = (p, e)
      go (refused number segment) p e = let is : number ≡ 18 = cc in let few = refused_by_two_to_five s p in absurd (omega (arith, few.1))

  unserved_says : serves n l second ≡ refused 18 0 → Unserved n l second
  unfolding serves
  unserved_says e =
      let a = passed n (series_judged l before choice n l second) e in
      let b = passed l (choice n l second) a.1 in
      go a.0 b.0 (covers n second) refl (covers l second) refl b.1
    where
      go : Accepted n → Accepted l → (x : Bool) → covers n second ≡ x → (y : Bool) → covers l second ≡ y → cond x (answered (served_by Near n second)) (cond y (answered (served_by Long l second)) (refused 18 0)) ≡ refused 18 0 → Unserved n l second
      go p q true h y k f = answer_or_refusal f
      go p q false h true k f = answer_or_refusal f
      go p q false h false k f = record { near_accepted = p; long_accepted = q; not_near = not_covers_says n h; not_long = not_covers_says l k }

  pub eighteen_exactly_when : serves n l second ≡ refused 18 0 ↔ Unserved n l second
  eighteen_exactly_when = (unserved_says, λ u. none_serves n l second u.near_accepted u.long_accepted (says_not_covers n u.not_near) (says_not_covers l u.not_long))

  -- ---- the value by the segment that serves is the value of its series
  one_value : (s : Series) → Accepted s → InSpan s second → {k : ℕ} → k ≡ segment_at s second → value_of s second ≡ answered (value (segment s.coefs k) (place_at s second))
  unfolding value_of value_at
  one_value s p i e = rw (p, says_covers s i, e)

  value_by_side : (side : Side) (k : ℕ) → Serves n l second (record { side = side; segment = k }) → value_of (chosen side n l) second ≡ answered (value (segment (chosen side n l).coefs k) (place_at (chosen side n l) second))
  value_by_side Near k s = one_value n s.near_accepted s.covering s.its_segment
  value_by_side Long k s = one_value l s.long_accepted s.covering.1 s.its_segment

  pub value_by_the_segment : {g : Served} → serves n l second ≡ answered g → (let s = chosen g.side n l in value_of s second ≡ answered (value (segment s.coefs g.segment) (place_at s second)))
  value_by_the_segment {g} e = value_by_side g.side g.segment (served_says g e)

-- ---- the part that is given back, of two lent slices
module _ (body : Body) (nearStart longStart : ℤ) (nears longs : Bor (List ℤ)) (second : ℤ) where
  abbrev n : Series
  n = series body nearStart nears.now

  abbrev l : Series
  l = series body longStart longs.now

  same_coefs : (side : Side) → (chosen side nears longs).now ≡ (chosen side n l).coefs
  same_coefs Near = refl
  same_coefs Long = refl

  module _ {part : Bor (List ℤ)} (is_part_lem : IsPart (part_served (serves n l second)) nears longs part) where
    part_is : {v : Verdict Served} → serves n l second ≡ v → IsPart (part_served v) nears longs part
    part_is e = subst (λ (v : Verdict Served). IsPart (part_served v) nears longs part) e is_part_lem

    held : {g : Served} → serves n l second ≡ answered g → part.now ≡ segment (chosen g.side n l).coefs g.segment
    held {g} e = (part_is e).words ∙ ap (λ (coefs : List ℤ). segment coefs g.segment) (same_coefs g.side)

    -- "the value worked out from the returned part at the second's place is `value_at` of the series that serves"
    pub value_by_the_part : {g : Served} → serves n l second ≡ answered g → (let s = chosen g.side n l in value_of s second ≡ answered (value part.now (place_at s second)))
    value_by_the_part {g} e =
        value_by_the_segment n l second e
        ∙ ap (λ (coefs : List ℤ). answered (value coefs (place_at (chosen g.side n l) second))) (sym (held e))

    -- fourteen coefficients, or none
    pub part_has_fourteen : {g : Served} → serves n l second ≡ answered g → length part.now ≡ 14
    part_has_fourteen {g} e = ap length (held e) ∙ segment_length_lem (chosen g.side n l).coefs g.segment (segment_there n l second e)

    pub refused_is_empty : {number segment : ℕ} → serves n l second ≡ refused number segment → part.now ≡ []
    refused_is_empty e = (part_is e).words
