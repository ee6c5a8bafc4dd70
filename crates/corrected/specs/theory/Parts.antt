-- A part of the coefficients, from one segment to another: how many segments it has, and which. Assumes nothing.
use Rattle.std.specs.Prelude.{◌≡◌, List, ℕ, ◌+◌, ◌*◌, ◌-◌, ◌≤◌, ◌<◌, ℤ, pos, length, get_or, take, drop}
use Rattle.std.proofs.Common.{sym, ap, ◌∙◌, arith, div-add-mod', length-drop, length-take-le, get_or-take, get_or-drop, ext_get_or}
use Rattle.series.specs.Series.{segment, segments}
use Rattle.series.proofs.theory.Known.{segment_length_lem}

-- the segments from `from` on and before `to`
abbrev pub part_of : List ℤ → ℕ → ℕ → List ℤ
part_of coefs from to = take (14 * to - 14 * from) (drop (14 * from) coefs)

module _ (coefs : List ℤ) (from to : ℕ) (ordered : from ≤ to) (inside : to ≤ segments coefs) where
  part_length : length (part_of coefs from to) ≡ 14 * (to - from)
  part_length = length-take-le (14 * to - 14 * from) (drop (14 * from) coefs) (rw length-drop (omega (arith, div-add-mod' (length coefs) 14))) ∙ omega arith

  pub part_segments : segments (part_of coefs from to) ≡ to - from
  part_segments = rw part_length (omega (arith, div-add-mod' (14 * (to - from)) 14))

  pub part_segment : (k : ℕ) → k < to - from → segment coefs (from + k) ≡ segment (part_of coefs from to) k
  part_segment k h =
      ext_get_or (pos 0) (segment coefs (from + k)) (segment (part_of coefs from to) k) (all ∙ sym some)
      (λ (i : ℕ) (l : i < length (segment coefs (from + k))). word i (omega (arith, all)))
    where
      all : length (segment coefs (from + k)) ≡ 14
      all = segment_length_lem coefs (from + k) (omega arith)

      some : length (segment (part_of coefs from to) k) ≡ 14
      some = segment_length_lem (part_of coefs from to) k (omega (arith, part_segments))

      word : (i : ℕ) → i < 14 → get_or (segment coefs (from + k)) i (pos 0) ≡ get_or (segment (part_of coefs from to) k) i (pos 0)
      word i l =
          let here : 14 * (from + k) + i ≡ 14 * from + (14 * k + i) = omega arith in
          get_or-take 14 (drop (14 * (from + k)) coefs) i (pos 0) l
          ∙ get_or-drop (14 * (from + k)) coefs i (pos 0)
          ∙ ap (λ (n : ℕ). get_or coefs n (pos 0)) here
          ∙ sym (get_or-take 14 (drop (14 * k) (part_of coefs from to)) i (pos 0) l
          ∙ get_or-drop (14 * k) (part_of coefs from to) i (pos 0)
          ∙ get_or-take (14 * to - 14 * from) (drop (14 * from) coefs) (14 * k + i) (pos 0) (omega arith)
          ∙ get_or-drop (14 * from) coefs (14 * k + i) (pos 0))
