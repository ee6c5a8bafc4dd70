-- Words that are the same in two lists, by their places: one; four and sixteen of which each is the second behind the one before; every second of a run of 896, and
-- all of them. Assumes nothing.
use Rattle.std.specs.Prelude.{◌≡◌, List, ℕ, zero, suc, ◌+◌, ◌-◌, ◌*◌, ◌<◌, ℤ, pos, get_or}
use Rattle.std.proofs.Common.{subst, arith}
use Rattle.std.proofs.Math.Decide.{dec_lt}

module _ (a b : List ℤ) where
  abbrev pub SameAt : ℕ → Type 0
  SameAt i = get_or a i (pos 0) ≡ get_or b i (pos 0)

  abbrev pub FourAt : ℕ → Type 0
  FourAt i = SameAt i × (SameAt (i + 2) × (SameAt (i + 4) × SameAt (i + 6)))

  abbrev pub SixteenAt : ℕ → Type 0
  SixteenAt i = FourAt i × (FourAt (i + 8) × (FourAt (i + 16) × FourAt (i + 24)))

  abbrev pub HalfAt : ℕ → Type 0
  HalfAt k = (j : ℕ) → j < 28 → SixteenAt (k + 32 * j)

  abbrev pub RunAt : ℕ → Type 0
  RunAt k = (w : ℕ) → w < 896 → SameAt (k + w)

  abbrev pub AllBefore : ℕ → Type 0
  AllBefore n = (i : ℕ) → i < n → SameAt i

  -- a run more
  pub run_more : (n : ℕ) → AllBefore n → RunAt n → AllBefore (n + 896)
  run_more n before run i h = here (dec_lt i n)
    where
      here : Dec (i < n) → SameAt i
      here (yes in-front) = before i in-front
      here (no behind) = let e : n + (i - n) ≡ i = omega arith in subst SameAt e (run (i - n) (omega arith))

-- four in turn, each s behind the one before
fourth : (P : ℕ → Type 0) (i s : ℕ) → P i × (P (i + s) × (P (i + 2 * s) × P (i + 3 * s))) → (m : ℕ) → m < 4 → P (i + m * s)
fourth P i s h zero l = let e : i ≡ i + 0 * s = omega arith in subst P e h.0
fourth P i s h (suc zero) l = let e : i + s ≡ i + 1 * s = omega arith in subst P e h.1.0
fourth P i s h (suc (suc zero)) l = h.1.1.0
fourth P i s h (suc (suc (suc zero))) l = h.1.1.1
fourth P i s h (suc (suc (suc (suc m)))) l = absurd (omega arith)

-- stretches of s places, one behind the other
stretches : (P : ℕ → Type 0) (s n : ℕ) → ((m : ℕ) → m < n → (j : ℕ) → j < s → P (j + m * s)) → (w : ℕ) → w < n * s → P w
stretches P s zero h w l = absurd (omega arith)
stretches P s (suc n) h w l = here (stretches P s n (λ m k. h m (omega arith)) w) (dec_lt w (n * s))
  where
    here : (w < n * s → P w) → Dec (w < n * s) → P w
    here before (yes in-front) = before in-front
    here before (no behind) = let e : (w - n * s) + n * s ≡ w = omega arith in subst P e (h n (omega arith) (w - n * s) (omega arith))

-- every second word of a run, by its place among the sixteen of a turn
second : (a b : List ℤ) (k : ℕ) → HalfAt a b k → (j : ℕ) → j < 28 → (m : ℕ) → m < 4 → (n : ℕ) → n < 4 → SameAt a b (k + 32 * j + m * 8 + n * 2)
second a b k half j in-run m in_turn n in_four = fourth (SameAt a b) (k + 32 * j + m * 8) 2 (fourth (FourAt a b) (k + 32 * j) 8 (half j in-run) m in_turn) n in_four

-- both halves are the whole run
pub run_of : (a b : List ℤ) (k : ℕ) → HalfAt a b k → HalfAt a b (k + 1) → RunAt a b k
run_of a b k even odd = stretches (λ w. SameAt a b (k + w)) 32 28 turn
  where
    pair : (j : ℕ) → j < 28 → (m : ℕ) → m < 4 → (n : ℕ) → n < 4 → (c : ℕ) → c < 2 → SameAt a b (k + (c + n * 2 + m * 8 + j * 32))
    pair j t m u n v zero h = let e : k + 32 * j + m * 8 + n * 2 ≡ k + (0 + n * 2 + m * 8 + j * 32) = omega arith in subst (SameAt a b) e (second a b k even j t m u n v)
    pair j t m u n v (suc zero) h = let e : k + 1 + 32 * j + m * 8 + n * 2 ≡ k + (1 + n * 2 + m * 8 + j * 32) = omega arith in subst (SameAt a b) e (second a b (k + 1) odd j t m u n v)
    pair j t m u n v (suc (suc c)) h = absurd (omega arith)

    eight : (j : ℕ) → j < 28 → (m : ℕ) → m < 4 → (w : ℕ) → w < 8 → SameAt a b (k + (w + m * 8 + j * 32))
    eight j t m u = stretches (λ w. SameAt a b (k + (w + m * 8 + j * 32))) 2 4 (pair j t m u)

    turn : (j : ℕ) → j < 28 → (w : ℕ) → w < 32 → SameAt a b (k + (w + j * 32))
    turn j t = stretches (λ w. SameAt a b (k + (w + j * 32))) 8 4 (eight j t)
