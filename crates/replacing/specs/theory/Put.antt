-- A part put over a segment: what the loop that puts it leaves, that the words that stood there bring the coefficients back, and what each segment then is.
-- Assumes nothing but what a statement says itself.
use Rattle.std.specs.Prelude.{◌≡◌, List, ◌++◌, ℕ, ◌+◌, ◌*◌, ◌<◌, ◌≤◌, ℤ, length, take, drop}
use Rattle.std.proofs.Common.{sym, ap, ◌∙◌, arith, take_all}
use Rattle.std.proofs.Math.Decide.{dec_lt}
use Rattle.std.proofs.Math.Seq.{paste}
use Rattle.whole.specs.Lists.{placed_length}
use Rattle.series.specs.Series.{segment, segments}
use Rattle.series.proofs.theory.Known.{segment_length_lem}
use Rattle.replacing.specs.Replaced.{replaced}
use Rattle.replacing.specs.theory.Placed.{placed_itself, placed_over, at_placed, before_placed, behind_placed}

module _ (coefs : List ℤ) (k : ℕ) (part : List ℤ) (fourteen : length part ≡ 14) where
  -- all of its words
  pub all_put : paste coefs (14 * k) part 14 ≡ replaced coefs k part
  all_put =
      ap (λ (x : List ℤ). take (14 * k) coefs ++ x ++ drop (14 * k + 14) coefs) (take_all 14 part (omega (arith, fourteen)))
      ∙ ap (λ (n : ℕ). take (14 * k) coefs ++ part ++ drop (14 * k + n) coefs) (sym fourteen)

  module _ (inside : k < segments coefs) where
    room : 14 * k + 14 ≤ length coefs
    room = omega (arith, inside)

    pub put_back : replaced (replaced coefs k part) k (segment coefs k) ≡ coefs
    put_back =
        placed_over coefs (14 * k) part (segment coefs k) (fourteen ∙ sym (segment_length_lem coefs k inside)) (omega (arith, fourteen, room))
        ∙ placed_itself coefs (14 * k) 14 room

    pub replaced_length : length (replaced coefs k part) ≡ length coefs
    replaced_length = placed_length coefs part (14 * k) (omega (arith, fourteen, room))

    pub segment_replaced_lem : segment (replaced coefs k part) k ≡ part
    segment_replaced_lem = at_placed coefs (14 * k) part 14 fourteen (omega (arith, room))

    pub segment_stays : (j : ℕ) → (j ≡ k → ⊥) → segment (replaced coefs k part) j ≡ segment coefs j
    segment_stays j other = go (dec_lt j k) (dec_lt k j)
      where
        go : Dec (j < k) → Dec (k < j) → segment (replaced coefs k part) j ≡ segment coefs j
        go (yes before) _ = before_placed coefs (14 * k) part (14 * j) 14 (omega arith) (omega (arith, room))
        go (no _) (yes behind) = ap (take 14) (behind_placed coefs (14 * k) part (14 * j) (omega (arith, fourteen)) (omega (arith, room)))
        go (no not_before) (no not_behind) = absurd (other (omega arith))
