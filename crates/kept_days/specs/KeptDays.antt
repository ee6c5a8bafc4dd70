-- Days that are known from before a correction: of a mark that it has not moved the day is the known one. The marks that it may have moved are those behind index `low` and
-- up to `high`. Assumes nothing: these are definitions, and what the test tells.
use Rattle.std.specs.Prelude.{◌≡◌, refl, Bool, true, false, ◌||◌, List, ◌⊎◌, ℕ, suc, ◌+◌, ◌*◌, ◌<◌, ℤ, pos, ◌+ℤ◌, length, get_or, take, drop, ◌≤ℤ◌, ◌<ℤ◌}
use Rattle.std.proofs.Common.{inl, inr}
use Rattle.std.specs.Int.Signed.{le_z, lt_z}
use Rattle.whole.specs.Solver.{le_yes, lt_yes}
use Rattle.series.specs.Series.{Series}
use Rattle.turns.specs.Listed.{turn_index_of, turn_day, turns_of}
use Rattle.sui.specs.theory.Found.{zhongqi_from}

-- none of the marks from the first to the last of these indices is one that may have moved
unfoldable pub outside : ℤ → ℤ → ℤ → ℤ → Bool
outside low high first last = le_z last low || lt_z high first

pub outside_says : (low high first last : ℤ) → outside low high first last ≡ true → (last ≤ℤ low) ⊎ (high <ℤ first)
unfolding outside
outside_says low high first last e = go (le_z last low) refl e
  where
    go : (b : Bool) → le_z last low ≡ b → (b || lt_z high first) ≡ true → (last ≤ℤ low) ⊎ (high <ℤ first)
    go true p q = inl (le_yes {a = last} {b = low} p)
    go false p q = inr (lt_yes {a = high} {b = first} q)

-- of the turns from a place on, as far as days are known
pub record DaysKept (leap : List ℤ) (s : Series) (zone : ℤ) (from : ℕ) (low high : ℤ) (known : List ℤ) : Type 0 where
  pub each : (k : ℕ) → k < length known → from + k < turns_of s → outside low high (turn_index_of s (from + k)) (turn_index_of s (from + k)) ≡ true → get_or known k (pos 0) ≡ turn_day leap s zone (from + k)

-- of the thirteen zhongqi from a solstice to the next
pub record ThirteenKept (leap : List ℤ) (s : Series) (zone index low high : ℤ) (known : List ℤ) : Type 0 where
  pub are_zhongqi : outside low high index (index +ℤ pos 24) ≡ true → known ≡ zhongqi_from leap s zone index

-- of those of m suis, one behind the other
pub record ZhongqiKept (leap : List ℤ) (s : Series) (zone : ℤ) (place m : ℕ) (low high : ℤ) (known : List ℤ) : Type 0 where
  pub of_sui : (j : ℕ) → j < m → suc (place + j) < turns_of s → ThirteenKept leap s zone (turn_index_of s (place + j)) low high (take 13 (drop (13 * j) known))
