-- The marks that come once a circle, by their indices: of the Sun the winter solstices, of the Moon the new moons. Both are called turns here, so that they are
-- looked for by one function. The k-th turn of a series has the index of the first and k circles. Assumes nothing.
use Rattle.std.specs.Prelude.{◌≡◌, refl, Bool, true, false, cond, [], ◌∷◌, ℕ, ◌+◌, ◌*◌, ◌/◌, ◌%◌, ◌≤◌, ◌<◌, eqb, ℤ, pos, ◌+ℤ◌, ◌-ℤ◌, ◌*ℤ◌, ◌≤ℤ◌}
use Rattle.std.proofs.Common.{sym, ap, arith, div-add-mod', mod-lt, mul_comm, le-div_iff_mul-le, lit<}
use Rattle.std.specs.Int.Signed.{lt_z}
use Rattle.whole.specs.Floor.{floor_mod, floor_div}
use Rattle.whole.proofs.Floor.{floor_div_floor_mod, floor_mod_unique}
use Rattle.whole.specs.Distance.{distance_from, distance_is}
use Rattle.whole.specs.Solver.{⇑, ⇓, ring, lt_yes, lt_no}
use Rattle.series.specs.declared.Body.{Body}
use Rattle.series.specs.declared.Body.TheVariants.{Sun, Moon}
use Rattle.series.specs.Bodies.{numbers}
use Rattle.marks.specs.Marks.{Mark}

-- the remainder of a turn's index: 18 is the winter solstice, 0 the new moon
abbrev pub turn_of : Body → ℕ
turn_of Sun = 18
turn_of Moon = 0

abbrev pub circle_of : Body → ℕ
circle_of body = (numbers body).circle

pub some_circle : (body : Body) → 0 < circle_of body
some_circle Sun = lit< tt
some_circle Moon = lit< tt

pub turn_within : (body : Body) → turn_of body < circle_of body
turn_within Sun = lit< tt
turn_within Moon = lit< tt

pub small_circle : (body : Body) → circle_of body ≤ 24
small_circle Sun = omega arith
small_circle Moon = omega arith

unfoldable pub is_turn : Body → Mark → Bool
is_turn body m = eqb (floor_mod m.index (circle_of body)) (turn_of body)

module _ (body : Body) (lowest : ℤ) where
  -- how many indices after the next one the first turn lies
  abbrev pub gap : ℕ
  gap = floor_mod (pos (turn_of body) -ℤ (lowest +ℤ pos 1)) (circle_of body)

  -- the first turn with an index larger than `lowest`
  abbrev pub first_turn : ℤ
  first_turn = lowest +ℤ pos 1 +ℤ pos gap

  abbrev pub turn_index : ℕ → ℤ
  turn_index k = first_turn +ℤ pos (circle_of body * k)

  -- its place among all indices larger than `lowest`
  abbrev pub place_of : ℕ → ℕ
  place_of k = gap + circle_of body * k

  pub at_place : (k : ℕ) → lowest +ℤ pos 1 +ℤ pos (place_of k) ≡ turn_index k
  at_place k = ⇑ (lowest ∷ pos gap ∷ pos (circle_of body) ∷ pos k ∷ []) (search ring depth 9) refl

  -- each is a turn ..
  pub is_turn_lem : (k : ℕ) → floor_mod (turn_index k) (circle_of body) ≡ turn_of body
  is_turn_lem k =
      let q = circle_of body in
      let d = floor_div (pos (turn_of body) -ℤ (lowest +ℤ pos 1)) q in
      let ρ = lowest ∷ pos (turn_of body) ∷ pos gap ∷ pos q ∷ pos k ∷ d ∷ [] in
      floor_mod_unique (turn_index k) (pos k -ℤ d) q (turn_of body) (turn_within body)
      (⇑ ρ (search ring depth 9) (omega (arith, ⇓ ρ (floor_div_floor_mod (pos (turn_of body) -ℤ (lowest +ℤ pos 1)) q (some_circle body)) (search ring depth 9))))

  -- .. and no other index is
  pub turn_is : (i : ℕ) → floor_mod (lowest +ℤ pos 1 +ℤ pos i) (circle_of body) ≡ turn_of body → place_of (i / circle_of body) ≡ i
  turn_is i e =
      let q = circle_of body in
      let z = lowest +ℤ pos 1 +ℤ pos i in
      let d = floor_div z q in
      let ρ = lowest ∷ pos (turn_of body) ∷ pos (i % q) ∷ pos q ∷ pos (i / q) ∷ pos i ∷ d ∷ [] in
      let whole : pos i ≡ pos (i / q) *ℤ pos q +ℤ pos (i % q) = ap pos (sym (div-add-mod' i q)) in
      let here : z ≡ d *ℤ pos q +ℤ pos (turn_of body) = (rw e at (floor_div_floor_mod z q (some_circle body))) in
      let rest : gap ≡ i % q =
      floor_mod_unique (pos (turn_of body) -ℤ (lowest +ℤ pos 1)) (pos (i / q) -ℤ d) q (i % q) (mod-lt i (some_circle body))
      (⇑ ρ (search ring depth 9) (omega (arith, ⇓ ρ whole (search ring depth 9), ⇓ ρ here (search ring depth 9)))) in
      let σ = pos (i / q) ∷ pos q ∷ pos (i % q) ∷ pos i ∷ [] in
      omega (arith, rest, ⇓ σ whole (search ring depth 9))

-- ---- how many turns have an index larger than `lowest` and not larger than `highest`
abbrev pub turns_up_to : Body → ℤ → ℤ → ℕ
turns_up_to body first highest = cond (lt_z highest first) 0 (distance_from first highest / circle_of body + 1)

-- turn k is one of them exactly if its index is not larger
module _ (body : Body) (first highest : ℤ) (k : ℕ) where
  pub turn_up_to : k < turns_up_to body first highest → (first +ℤ pos (circle_of body * k)) ≤ℤ highest
  turn_up_to h = go (lt_z highest first) refl h
    where
      go : (b : Bool) → lt_z highest first ≡ b → k < cond b 0 (distance_from first highest / circle_of body + 1) → (first +ℤ pos (circle_of body * k)) ≤ℤ highest
      go true e l = absurd (omega arith)
      go false e l =
          let d = distance_from first highest in
          let few : k * circle_of body ≤ d = (le-div_iff_mul-le (some_circle body)).0 (omega arith) in
          let ρ = first ∷ highest ∷ pos d ∷ pos (circle_of body * k) ∷ [] in
          ⇑ ρ (search ring depth 9) (omega (arith, mul_comm k (circle_of body), ⇓ ρ (distance_is (lt_no {a = highest} {b = first} e)) (search ring depth 9)))

  pub up_to_turn : (first +ℤ pos (circle_of body * k)) ≤ℤ highest → k < turns_up_to body first highest
  up_to_turn h = go (lt_z highest first) refl
    where
      go : (b : Bool) → lt_z highest first ≡ b → k < cond b 0 (distance_from first highest / circle_of body + 1)
      go true e =
          let ρ = first ∷ highest ∷ pos (circle_of body * k) ∷ [] in
          absurd (omega (arith, ⇓ ρ h (search ring depth 9), ⇓ ρ (lt_yes {a = highest} {b = first} e) (search ring depth 9)))
      go false e =
          let d = distance_from first highest in
          let ρ = first ∷ highest ∷ pos d ∷ pos (circle_of body * k) ∷ [] in
          let few : circle_of body * k ≤ d = omega (arith, ⇓ ρ (distance_is (lt_no {a = highest} {b = first} e)) (search ring depth 9), ⇓ ρ h (search ring depth 9)) in
          let within : k ≤ d / circle_of body = (le-div_iff_mul-le (some_circle body)).1 (omega (arith, mul_comm k (circle_of body))) in
          omega arith
