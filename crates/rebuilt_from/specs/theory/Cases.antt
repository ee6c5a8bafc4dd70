-- The cases of `inputs_taken`, by where its sections stand. Assumes nothing.
use Rattle.std.specs.Prelude.{not, List, ℕ, ◌+◌, ◌/◌, ◌≤◌, ltb, ℤ}
use Rattle.std.proofs.Math.ListN.{length}
use Rattle.refusals.specs.Verdict.{Verdict, refuse_when, ◌before◌}
use Rattle.layout.specs.declared.inner.Places.{Places}
use Rattle.layout.specs.Layout.{places, words_from}
use Rattle.building.specs.Building.{all_taken}

-- sections stand at these places of words, one behind the other, and the words are no more than an input may have
pub record Sections (ws : List ℤ) (p : Places) : Type 0 where
  pub leap_first : 1 ≤ p.sun
  pub sun_next : p.sun + 2 ≤ p.moon
  pub moon_last : p.moon + 2 ≤ length ws
  pub few_words : length ws ≤ 300000

-- the words behind first Y and count
abbrev pub behind_years : List ℤ → ℕ → List ℤ
behind_years ws bytes = words_from ws 2 (bytes / 8)

-- where the sections stand among them
unfoldable pub places_taken : List ℤ → ℕ → Verdict Places
places_taken ws bytes = refuse_when (not (all_taken ws bytes)) 13 before refuse_when (ltb (bytes / 8) 2) 13 before places (behind_years ws bytes)
