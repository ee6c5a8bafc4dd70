-- What a corrected series shares with the one before it: the segments that are the same words, and the marks that keep their second. Assumes nothing: these are
-- definitions.
use Rattle.std.specs.Prelude.{◌≡◌, List, ◌⊎◌, ℕ, ◌≤◌, ◌<◌, ℤ, ◌≤ℤ◌, ◌<ℤ◌}
use Rattle.series.specs.Series.{Series, segment, segments}
use Rattle.marks.specs.Listed.{first_reached, last_reached, second_of_mark}

-- the segments of two lists of coefficients are the same words, number by number, but for those from `first` on and before `end`
pub record Shared (old new : List ℤ) (first end : ℕ) : Type 0 where
  pub in_order : first ≤ end
  pub inside : end ≤ segments new
  pub before : (k : ℕ) → k < first → (k < segments old) × (segment new k ≡ segment old k)
  pub behind : (k : ℕ) → end ≤ k → k < segments new → (k < segments old) × (segment new k ≡ segment old k)

-- listed marks of the new series keep the second that they have in the old one, but for those behind mark `low` and up to mark `high`
pub record Stays (old new : Series) (low high : ℤ) : Type 0 where
  pub stays : (j : ℤ) → first_reached new <ℤ j → j ≤ℤ last_reached new → (j ≤ℤ low) ⊎ (high <ℤ j) → (first_reached old <ℤ j) × (j ≤ℤ last_reached old) × (second_of_mark new j ≡ second_of_mark old j)
