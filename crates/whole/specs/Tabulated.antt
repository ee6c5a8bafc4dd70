-- The list of a function's first values, and what a loop that stores them one by one leaves in an array. Assumes nothing.
use Rattle.std.specs.Prelude.{◌≡◌, refl, List, [], ◌∷◌, ◌++◌, ℕ, zero, suc, ◌+◌, ◌-◌, ◌<◌, length, get_or, take, drop, set, replicate}
use Rattle.std.proofs.Common.{sym, ap, ◌∙◌, arith, add-one, length-append, drop-cons, take-suc, length-take-le}
use Rattle.std.proofs.Math.Decide.{dec_lt}
use Rattle.std.proofs.lemmas.List.{set_at, get_or_at}
use Rattle.std.proofs.Math.Seq.{append_snoc}

abbrev pub tabulate : {A : Type 0} → (ℕ → A) → ℕ → List A
tabulate f zero = []
tabulate f (suc n) = tabulate f n ++ (f n ∷ [])

module _ {A : Type 0} (f : ℕ → A) where
  pub length_tabulate : (n : ℕ) → length (tabulate f n) ≡ n
  length_tabulate zero = refl
  length_tabulate (suc n) = length-append (tabulate f n) (f n ∷ []) ∙ omega (arith, length_tabulate n)

  -- a turn of the loop that stores `f i` at i
  pub tabulate_turn : (l : List A) (i : ℕ) → i < length l → set (tabulate f i ++ drop i l) i (f i) ≡ tabulate f (i + 1) ++ drop (i + 1) l
  tabulate_turn l i h =
      rw (drop-cons l i (f i), add-one)
      (set_at (tabulate f i) (get_or l i (f i)) (drop (suc i) l) (f i) i (length_tabulate i) ∙ sym (append_snoc (tabulate f i) (f i) (drop (suc i) l)))

  pub get_d_tabulate : (n i : ℕ) (d : A) (rest : List A) → i < n → get_or (tabulate f n ++ rest) i d ≡ f i
  get_d_tabulate zero i d rest h = absurd (omega arith)
  get_d_tabulate (suc n) i d rest h =
      ap (λ (l : List A). get_or l i d) (append_snoc (tabulate f n) (f n) rest) ∙ go (λ l. get_d_tabulate n i d (f n ∷ rest) l) (dec_lt i n)
    where
      go : (i < n → get_or (tabulate f n ++ f n ∷ rest) i d ≡ f i) → Dec (i < n) → get_or (tabulate f n ++ f n ∷ rest) i d ≡ f i
      go before (yes l) = before l
      go before (no l) = let e : n ≡ i = omega arith in get_or_at (tabulate f n) (f n) rest d i (length_tabulate n ∙ e) ∙ ap f e

pub drop_replicate : {A : Type 0} (i n : ℕ) (a : A) → drop i (replicate n a) ≡ replicate (n - i) a
drop_replicate zero n a = let e : n ≡ n - 0 = omega arith in ap (λ (m : ℕ). replicate m a) e
drop_replicate (suc i) zero a = let e : 0 ≡ 0 - suc i = omega arith in ap (λ (m : ℕ). replicate m a) e
drop_replicate (suc i) (suc n) a = let e : n - i ≡ suc n - suc i = omega arith in drop_replicate i n a ∙ ap (λ (m : ℕ). replicate m a) e

-- a turn of the loop that copies s
pub copy_turn : {A : Type 0} (s l : List A) (i : ℕ) (d : A) → i < length s → i < length l → set (take i s ++ drop i l) i (get_or s i d) ≡ take (i + 1) s ++ drop (i + 1) l
copy_turn s l i d h k =
    rw (drop-cons l i d, add-one, take-suc s i d)
    (set_at (take i s) (get_or l i d) (drop (suc i) l) (get_or s i d) i (length-take-le i s (omega arith)) ∙ sym (append_snoc (take i s) (get_or s i d) (drop (suc i) l)))
