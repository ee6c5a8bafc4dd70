-- The list of the years that are kept, whatever is asked of a year: each of them stands in it, no other does, and they rise. Assumes nothing.
use Rattle.std.specs.Prelude.{◌≡◌, Bool, List, [], ◌∷◌, ◌++◌, ℕ, zero, suc, ◌<◌, ℤ, ◌+ℤ◌, length, get_or, ◌<ℤ◌}
use Rattle.std.proofs.Math.Path.{refl}
use Rattle.std.proofs.Common.{sym, ap, subst, ◌∙◌, append-nil, arith, length-append}
use Rattle.std.proofs.Math.Bool.{true, false}
use Rattle.std.proofs.Math.IntN.{pos}
use Rattle.std.proofs.Math.ListN.{get_or-append}
use Rattle.std.proofs.lemmas.List.{get_or_at}
use Rattle.whole.specs.Below.{below}
use Rattle.whole.specs.Booleans.{not_both}
use Rattle.whole.specs.Parts.{→<, parts_add}
use Rattle.rebuilt.specs.Rebuild.{kept_by}

-- a year stands in a list, at some place
pub record StandsIn (years : List ℤ) (year : ℤ) : Type 0 where
  pub place : ℕ
  pub inside : place < length years
  pub stands : get_or years place (pos 0) ≡ year

-- a year is one of n years from the first on, and it is kept
pub record KeptYear (kept : ℤ → Bool) (first : ℤ) (n : ℕ) (year : ℤ) : Type 0 where
  pub turn : ℕ
  pub in_turn : turn < n
  pub is : first +ℤ pos turn ≡ year
  pub is_kept : kept year ≡ true

later : (first : ℤ) {j n : ℕ} → j < n → (first +ℤ pos j) <ℤ (first +ℤ pos n)
later first {j} {n} h = →< (omega (arith, parts_add first (pos j), parts_add first (pos n)))

module _ (kept : ℤ → Bool) (first : ℤ) where
  -- ---- one more year: it comes behind the others where it is kept, or they stay as they are
  not_more : (n : ℕ) → kept (first +ℤ pos n) ≡ false → kept_by kept first (suc n) ≡ kept_by kept first n
  unfolding kept_by
  not_more n e = rw e (append-nil (kept_by kept first n))

  one_more : (n : ℕ) → kept (first +ℤ pos n) ≡ true → kept_by kept first (suc n) ≡ kept_by kept first n ++ ((first +ℤ pos n) ∷ [])
  unfolding kept_by
  one_more n e = rw e

  -- ---- what the list is
  pub record YearsOf (n : ℕ) (years : List ℤ) : Type 0 where
    pub are_kept : (k : ℕ) → k < length years → KeptYear kept first n (get_or years k (pos 0))
    pub rise : (i k : ℕ) → i < k → k < length years → get_or years i (pos 0) <ℤ get_or years k (pos 0)
    pub all : (j : ℕ) → j < n → kept (first +ℤ pos j) ≡ true → StandsIn years (first +ℤ pos j)

  wider : {n : ℕ} {year : ℤ} → KeptYear kept first n year → KeptYear kept first (suc n) year
  wider {n} k = let less = k.in_turn in record { turn = k.turn; in_turn = omega arith; is = k.is; is_kept = k.is_kept }

  unchanged : (n : ℕ) {years : List ℤ} → kept (first +ℤ pos n) ≡ false → YearsOf n years → YearsOf (suc n) years
  unchanged n e y =
      record {
        are_kept = λ k h. wider (y.are_kept k h);
        rise = y.rise;
        all = λ j h is. below j n h (λ l. y.all j l is) (λ q. not_both (ap (λ (k : ℕ). kept (first +ℤ pos k)) (sym q) ∙ is) e);
      }

  joined : (n : ℕ) (years : List ℤ) → kept (first +ℤ pos n) ≡ true → YearsOf n years → YearsOf (suc n) (years ++ ((first +ℤ pos n) ∷ []))
  joined n years e y =
      record {
        are_kept = λ k h. at k h (λ l q. subst (λ (z : ℤ). KeptYear kept first (suc n) z) (sym q) (wider (y.are_kept k l)))
            (λ m q. subst (λ (z : ℤ). KeptYear kept first (suc n) z) (sym q) (record { turn = n; in_turn = omega arith; is = refl; is_kept = e }));
        rise = λ i k less h. at k h
            (λ l q. subst (λ (z : ℤ). get_or more i (pos 0) <ℤ z) (sym q) (subst (λ (z : ℤ). z <ℤ get_or years k (pos 0)) (sym (front i (omega arith))) (y.rise i k less l)))
            (λ m q. let early = y.are_kept i (omega arith) in subst (λ (z : ℤ). get_or more i (pos 0) <ℤ z) (sym q) (subst (λ (z : ℤ). z <ℤ (first +ℤ pos n)) (early.is ∙ sym (front i (omega arith))) (later first early.in_turn)));
        all = λ j h is. below j n h
            (λ l. let s = y.all j l is in record { place = s.place; inside = omega (arith, long, s.inside); stands = front s.place s.inside ∙ s.stands })
            (λ q. record { place = length years; inside = omega (arith, long); stands = get_or_at years last [] (pos 0) (length years) refl ∙ ap (λ (k : ℕ). first +ℤ pos k) (sym q) });
      }
    where
      last : ℤ
      last = first +ℤ pos n

      more : List ℤ
      more = years ++ (last ∷ [])

      long : length more ≡ suc (length years)
      long = length-append years (last ∷ []) ∙ omega arith

      front : (k : ℕ) → k < length years → get_or more k (pos 0) ≡ get_or years k (pos 0)
      front k h = get_or-append years (last ∷ []) (pos 0) k h

      at : {X : Type 0} (k : ℕ) → k < length more → (k < length years → get_or more k (pos 0) ≡ get_or years k (pos 0) → X) → (k ≡ length years → get_or more k (pos 0) ≡ last → X) → X
      at k h f g = below k (length years) (omega (arith, long)) (λ l. f l (front k l)) (λ q. g q (get_or_at years last [] (pos 0) k (sym q)))

  pub years_of : (n : ℕ) → YearsOf n (kept_by kept first n)
  years_of zero = unfold kept_by in record { are_kept = λ k h. absurd (omega arith); rise = λ i k less h. absurd (omega arith); all = λ j h is. absurd (omega arith) }
  years_of (suc n) = step (years_of n) (kept (first +ℤ pos n)) refl
    where
      step : YearsOf n (kept_by kept first n) → (t : Bool) → kept (first +ℤ pos n) ≡ t → YearsOf (suc n) (kept_by kept first (suc n))
      step y false e = rw (not_more n e) (unchanged n e y)
      step y true e = rw (one_more n e) (joined n (kept_by kept first n) e y)
