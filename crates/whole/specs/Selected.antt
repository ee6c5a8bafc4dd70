-- Those elements of a list that pass a test, in turn; and where a list is the first values of a function, which of them these are. Assumes nothing.
use Rattle.std.specs.Prelude.{◌≡◌, Bool, ◌&&◌, ℕ, zero, suc, ◌+◌, ◌<◌, ◌≤◌, get_or, take, drop}
use Rattle.std.proofs.Math.Path.{refl, ap}
use Rattle.std.proofs.Common.{sym, ◌∙◌, arith, length-drop, take-suc, get_or-drop}
use Rattle.std.proofs.Math.Bool.{true, false, cond}
use mathlib.Core.List.{List, [], ◌∷◌, ◌++◌, map, map-append, append-nil}
use Rattle.std.proofs.Math.Decide.{dec_lt}
use Rattle.whole.specs.Booleans.{not_both}
use Rattle.whole.specs.Tabulated.{tabulate, length_tabulate, get_d_tabulate}

unfoldable pub select : {A : Type 0} → (A → Bool) → List A → List A
select test [] = []
select test (x ∷ xs) = cond (test x) (x ∷ select test xs) (select test xs)

module _ {A : Type 0} (test : A → Bool) where
  pub select_none : select test [] ≡ []
  unfolding select
  select_none = refl

  pub select_one : (x : A) → test x ≡ true → select test (x ∷ []) ≡ x ∷ []
  unfolding select
  select_one x e = rw e

  pub select_not : (x : A) → test x ≡ false → select test (x ∷ []) ≡ []
  unfolding select
  select_not x e = rw e

  pub select_append : (xs ys : List A) → select test (xs ++ ys) ≡ select test xs ++ select test ys
  unfolding select
  select_append [] ys = refl
  select_append (x ∷ xs) ys = go (test x) (select_append xs ys)
    where
      go : (b : Bool) → select test (xs ++ ys) ≡ select test xs ++ select test ys → cond b (x ∷ select test (xs ++ ys)) (select test (xs ++ ys)) ≡ cond b (x ∷ select test xs) (select test xs) ++ select test ys
      go true e = ap (λ (l : List A). x ∷ l) e
      go false e = e

-- of those that pass the first test, those that pass the second
pub select_both : {A : Type 0} (first second : A → Bool) (xs : List A) → select (λ x. first x && second x) xs ≡ select second (select first xs)
unfolding select
select_both first second [] = refl
select_both {A} first second (x ∷ xs) = go (first x) (second x) refl refl (select_both first second xs)
  where
    go : (a b : Bool) → first x ≡ a → second x ≡ b → select (λ x. first x && second x) xs ≡ select second (select first xs)
        → cond (first x && second x) (x ∷ select (λ x. first x && second x) xs) (select (λ x. first x && second x) xs) ≡ select second (cond (first x) (x ∷ select first xs) (select first xs))
    go true true p q e = rw (p, q, e)
    go true false p q e = rw (p, q, e)
    go false true p q e = rw (p, e)
    go false false p q e = rw (p, e)

-- ---- among the first values of a function
pub map_tabulate : {A B : Type 0} (g : A → B) (f : ℕ → A) (n : ℕ) → map g (tabulate f n) ≡ tabulate (λ k. g (f k)) n
map_tabulate g f zero = refl
map_tabulate g f (suc n) = map-append g (tabulate f n) (f n ∷ []) ∙ ap (λ l. l ++ (g (f n) ∷ [])) (map_tabulate g f n)

pub tabulate_same : {A : Type 0} {f g : ℕ → A} (n : ℕ) → ((k : ℕ) → k < n → f k ≡ g k) → tabulate f n ≡ tabulate g n
tabulate_same zero e = refl
tabulate_same {A} {f} {g} (suc n) e = rw (tabulate_same {f = f} {g = g} n (λ k h. e k (omega arith)), e n (omega arith))

pub tabulate_cons : {A : Type 0} (f : ℕ → A) (n : ℕ) → tabulate f (suc n) ≡ f 0 ∷ tabulate (λ k. f (suc k)) n
tabulate_cons f zero = refl
tabulate_cons {A} f (suc n) = ap (λ (l : List A). l ++ (f (suc n) ∷ [])) (tabulate_cons f n)

-- a part of them
pub tabulate_part : {A : Type 0} (f : ℕ → A) (all from n : ℕ) → from + n ≤ all → take n (drop from (tabulate f all)) ≡ tabulate (λ k. f (from + k)) n
tabulate_part f all from zero h = refl
tabulate_part {A} f all from (suc n) h =
    let d = f 0 in
    let here : get_or (drop from (tabulate f all)) n d ≡ f (from + n) =
    get_or-drop from (tabulate f all) n d ∙ ap (λ (l : List A). get_or l (from + n) d) (sym (append-nil (tabulate f all))) ∙ get_d_tabulate f all (from + n) d [] (omega arith) in
    take-suc (drop from (tabulate f all)) n d (rw (length-drop from (tabulate f all), length_tabulate f all) (omega arith)) ∙ rw (here, tabulate_part f all from n (omega arith))

-- the places `place 0`, `place 1`, .. of the first n are those that pass, `count` of them
pub record Passing {A : Type 0} (test : A → Bool) (f : ℕ → A) (place : ℕ → ℕ) (n count : ℕ) : Type 0 where
  pub inside : (k : ℕ) → k < count → place k < n
  pub pass : (k : ℕ) → k < count → test (f (place k)) ≡ true
  pub no_others : (i : ℕ) → i < n → test (f i) ≡ true → (k : ℕ) × (k < count) × (place k ≡ i)

module _ {A : Type 0} (test : A → Bool) (f : ℕ → A) (place : ℕ → ℕ) (rises : (j k : ℕ) → j < k → place j < place k) where
  -- where the last of the first n + 1 passes, it is the last of those places; the others are places of the first n
  last_passes : (n count : ℕ) → Passing test f place (suc n) (suc count) → test (f n) ≡ true → (place count ≡ n) × Passing test f place n count
  last_passes n count p e =
      let at = p.no_others n (omega arith) e in
      let last : place count ≡ n = is_last at.0 at.1 at.2 in (
        last,
        record {
          inside = λ k h. let below = rises k count h in omega arith;
          pass = λ k h. p.pass k (omega arith);
          no_others = λ i h q. other i h (p.no_others i (omega arith) q) last;
        },
      )
    where
      is_last : (k : ℕ) → k < suc count → place k ≡ n → place count ≡ n
      is_last k h q = go (dec_lt k count)
        where
          go : Dec (k < count) → place count ≡ n
          go (yes l) = let up = rises k count l in let by = p.inside count (omega arith) in absurd (omega arith)
          go (no l) = let same : k ≡ count = omega arith in ap place (sym same) ∙ q

      other : (i : ℕ) → i < n → ((k : ℕ) × (k < suc count) × (place k ≡ i)) → place count ≡ n → (k : ℕ) × (k < count) × (place k ≡ i)
      other i h found last = (found.0, go (dec_lt found.0 count), found.2)
        where
          go : Dec (found.0 < count) → found.0 < count
          go (yes l) = l
          go (no l) = let same : found.0 ≡ count = omega (arith, found.1) in let at : place count ≡ i = ap place (sym same) ∙ found.2 in absurd (omega arith)

  -- where it does not pass, they all are places of the first n
  last_fails : (n count : ℕ) → Passing test f place (suc n) count → test (f n) ≡ false → Passing test f place n count
  last_fails n count p e = record { inside = within; pass = p.pass; no_others = λ i h q. p.no_others i (omega arith) q }
    where
      within : (k : ℕ) → k < count → place k < n
      within k h = go (dec_lt (place k) n)
        where
          go : Dec (place k < n) → place k < n
          go (yes l) = l
          go (no l) = let by = p.inside k h in let at : place k ≡ n = omega arith in not_both (p.pass k h) (ap (λ (i : ℕ). test (f i)) at ∙ e)

  pub selected : (n count : ℕ) → Passing test f place n count → select test (tabulate f n) ≡ tabulate (λ k. f (place k)) count
  selected zero zero p = select_none test
  selected zero (suc count) p = let by = p.inside 0 (omega arith) in absurd (omega arith)
  selected (suc n) zero p = select_append test (tabulate f n) (f n ∷ []) ∙ go (test (f n)) refl (selected n zero)
    where
      go : (b : Bool) → test (f n) ≡ b → (Passing test f place n zero → select test (tabulate f n) ≡ []) → select test (tabulate f n) ++ select test (f n ∷ []) ≡ []
      go true e behind = let at = p.no_others n (omega arith) e in let none = at.1 in absurd (omega arith)
      go false e behind = rw (behind (last_fails n zero p e), select_not test (f n) e)
  selected (suc n) (suc count) p = select_append test (tabulate f n) (f n ∷ []) ∙ go (test (f n)) refl (selected n count) (selected n (suc count))
    where
      go : (b : Bool) → test (f n) ≡ b → (Passing test f place n count → select test (tabulate f n) ≡ tabulate (λ k. f (place k)) count)
          → (Passing test f place n (suc count) → select test (tabulate f n) ≡ tabulate (λ k. f (place k)) (suc count))
          → select test (tabulate f n) ++ select test (f n ∷ []) ≡ tabulate (λ k. f (place k)) (suc count)
      go true e behind same = let last = last_passes n count p e in rw (behind last.1, select_one test (f n) e, last.0)
      go false e behind same = let l = last_fails n (suc count) p e in rw (select_not test (f n) e) (append-nil (select test (tabulate f n)) ∙ same l)
