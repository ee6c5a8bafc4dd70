-- A search that keeps its first finding while another one goes on: the kept segment is below `count`, or there is none yet. Assumes nothing.
use Rattle.std.specs.Prelude.{◌≡◌, refl, Bool, true, false, cond, ℕ, ◌+◌, ◌-◌, ◌<◌, ◌≤◌, ltb}
use Rattle.std.proofs.Common.{ap, arith, lt-ltb, le-ltb}
use Rattle.refusals.specs.Verdict.{Verdict, refused, accepted, ◌before◌}
use Rattle.refusals.specs.Search.{first_bad, first_bad_good, first_bad_bad, first_bad_end}

-- what is kept after segment k: what was, or k where nothing was and k is bad
abbrev pub first_of : ℕ → ℕ → Bool → ℕ → ℕ
first_of kept count bad k = cond (ltb kept count) kept (cond bad k kept)

-- what a search says that has kept so much: a refusal there, or what the rest says
abbrev pub found : ℕ → ℕ → ℕ → Verdict (Unit {0}) → Verdict (Unit {0})
found number kept count rest = cond (ltb kept count) (refused number kept) rest

pub none_found : (number count : ℕ) (rest : Verdict (Unit {0})) → found number count count rest ≡ rest
none_found number count rest = rw (le-ltb count count (omega arith))

-- where k is not bad, nothing changes
pub found_same : (number kept count k : ℕ) (rest : Verdict (Unit {0})) → found number kept count rest ≡ found number (first_of kept count false k) count rest
found_same number kept count k rest = ap (λ (i : ℕ). found number i count rest) (same (ltb kept count))
  where
    same : (b : Bool) → kept ≡ cond b kept (cond false k kept)
    same true = refl
    same false = refl

-- segment k, looked at
pub found_turn : (number : ℕ) (bad : ℕ → Bool) (kept count k : ℕ) → k < count → found number kept count (first_bad number bad k (count - k)) ≡ found number (first_of kept count (bad k) k) count (first_bad number bad (k + 1) (count - (k + 1)))
found_turn number bad kept count k h = go (ltb kept count) refl (bad k) refl
  where
    go : (a : Bool) → ltb kept count ≡ a → (b : Bool) → bad k ≡ b → cond a (refused number kept) (first_bad number bad k (count - k)) ≡ found number (cond a kept (cond b k kept)) count (first_bad number bad (k + 1) (count - (k + 1)))
    go true p b q = rw p
    go false p true q = rw (lt-ltb k count h) (first_bad_bad number bad k count h q)
    go false p false q = rw p (first_bad_good number bad k count h q)

pub found_end : (number : ℕ) (bad : ℕ → Bool) (kept count k : ℕ) → count ≤ k → found number kept count (first_bad number bad k (count - k)) ≡ found number kept count accepted
found_end number bad kept count k h = ap (found number kept count) (first_bad_end number bad k count h)

pub found_before : (number kept count : ℕ) (v : Verdict (Unit {0})) → found number kept count accepted before v ≡ found number kept count v
found_before number kept count v = go (ltb kept count)
  where
    go : (b : Bool) → cond b (refused number kept) accepted before v ≡ cond b (refused number kept) v
    go true = refl
    go false = refl
