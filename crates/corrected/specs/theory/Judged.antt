-- The segments of a corrected series, judged by a part of them: that which changed, with a segment more on each side, since a joint is of two. Those outside were
-- judged in the old series. Assumes nothing.
use Rattle.std.specs.Prelude.{◌≡◌, Bool, false, List, ℕ, ◌+◌, ◌*◌, ◌-◌, ◌≤◌, ◌<◌, ℤ, pos, neg_ℤ, ◌-ℤ◌, length}
use Rattle.std.proofs.Common.{sym, ap, ap₂, ◌∙◌, arith}
use Rattle.std.proofs.Math.Decide.{dec_lt}
use Rattle.std.specs.Int.Signed.{lt_z}
use Rattle.refusals.specs.Verdict.{Verdict, refused, accepted, before_accepted, ◌before◌}
use Rattle.refusals.specs.Search.{first_bad, first_bad_none}
use Rattle.chebyshev.specs.Polynomials.{S}
use Rattle.chebyshev.specs.Segment.{value, slope, out_of_range}
use Rattle.series.specs.declared.Body.{Body}
use Rattle.series.specs.Bodies.{numbers}
use Rattle.series.specs.Series.{Series, segment, segments}
use Rattle.series.specs.Acceptance.{judged_shape, series_judged, Accepted, bad_range, slow, bad_rise, bad_joint, judged_segments}
use Rattle.corrected.specs.Shared.{Shared}
use Rattle.corrected.specs.theory.Compared.{SameAt}
use Rattle.corrected.specs.theory.Parts.{part_of, part_segments, part_segment}
use Rattle.corrected.specs.theory.Shifted.{shifted_by, shifted_before, looked_for_in_part, Below, ◌and◌, first_bad_below, either_refuses, refused_by}

-- a part from `from` on and before `to`, of n segments, that reaches a segment before `first` and one behind `end`, where there are such
pub record Around (n first end from to : ℕ) : Type 0 where
  pub begins : from ≡ first - 1
  pub ordered : from < to
  pub reaches : end ≤ to
  pub goes_behind : end < n → end < to
  pub inside : to ≤ n

pub around_changed : (n first end from to : ℕ) → 1 ≤ n → first ≤ end → end ≤ n → from ≡ first - 1 → to ≤ n → end ≤ to → (end < n → end < to) → Around n first end from to
around_changed n first end from to some ordered l begins inside reaches goes_behind = record { begins = begins; ordered = go (dec_lt end n); reaches = reaches; goes_behind = goes_behind; inside = inside }
  where
    go : Dec (end < n) → from < to
    go (yes h) = omega (arith, goes_behind h)
    go (no h) = omega arith

-- ---- what accepted segments are, judgement by judgement
pub segments_accepted : (s : Series) → Accepted s → judged_segments s.body s.coefs ≡ accepted
unfolding series_judged
segments_accepted s e = (before_accepted (judged_shape s.body s.start (length s.coefs)) (judged_segments s.body s.coefs) e).1

-- each judgement over all segments
module _ (body : Body) (coefs : List ℤ) where
  abbrev ranges_of : Verdict (Unit {0})
  ranges_of = first_bad 3 (bad_range coefs) 0 (segments coefs)

  abbrev slopes_of : Verdict (Unit {0})
  slopes_of = first_bad 4 (slow body coefs) 0 (segments coefs)

  abbrev joints_of : Verdict (Unit {0})
  joints_of = first_bad 5 (bad_joint body coefs) 1 (segments coefs - 1)

  module _ (good : judged_segments body coefs ≡ accepted) where
    range_good : (k : ℕ) → k < segments coefs → bad_range coefs k ≡ false
    range_good k h = first_bad_none 3 (bad_range coefs) 0 (segments coefs) (before_accepted ranges_of (slopes_of before joints_of) good).0 k (omega arith) (omega arith)

    others_good : (slopes_of ≡ accepted) × (joints_of ≡ accepted)
    others_good = before_accepted slopes_of joints_of (before_accepted ranges_of (slopes_of before joints_of) good).1

    slope_good : (k : ℕ) → k < segments coefs → slow body coefs k ≡ false
    slope_good k h = first_bad_none 4 (slow body coefs) 0 (segments coefs) others_good.0 k (omega arith) (omega arith)

    joint_good : (k : ℕ) → 1 ≤ k → k < segments coefs → bad_joint body coefs k ≡ false
    joint_good k l h = first_bad_none 5 (bad_joint body coefs) 1 (segments coefs - 1) others_good.1 k l (omega arith)

-- ---- judgements of the same words are the same
joint_same : (body : Body) (a b : List ℤ) (i j : ℕ) → segment a i ≡ segment b j → segment a (i - 1) ≡ segment b (j - 1) → bad_joint body a i ≡ bad_joint body b j
joint_same body a b i j p q = ap₂ (λ (here last : List ℤ). bad_rise (value here (neg_ℤ (pos S)) -ℤ value last (pos S -ℤ pos (numbers body).step))) p q

module _ (body : Body) (old new : List ℤ) (first end : ℕ) (good : judged_segments body old ≡ accepted) (shared : Shared old new first end) {from to : ℕ} (around : Around (segments new) first end from to) where
  abbrev n : ℕ
  n = segments new

  abbrev part : List ℤ
  part = part_of new from to

  -- how many segments the part has, and how many are behind it
  abbrev m : ℕ
  m = to - from

  ordered : from ≤ to
  ordered = omega (arith, around.ordered)

  same_before : (k : ℕ) → k < from → SameAt old new k
  same_before k h = shared.before k (omega (arith, around.begins))

  same_behind : (k : ℕ) → to ≤ k → k < n → SameAt old new k
  same_behind k h l = shared.behind k (omega (arith, around.reaches)) l

  part_same : (k : ℕ) → k < m → segment new (from + k) ≡ segment part k
  part_same = part_segment new from to ordered around.inside

  all_segments : n ≡ from + (m + (n - to))
  all_segments = omega (arith, around.ordered, around.inside)

  -- 3 and 4 are of one segment
  by_part : (number : ℕ) (bad : List ℤ → Bool) → ((k : ℕ) → k < segments old → bad (segment old k) ≡ false) → first_bad number (λ k. bad (segment new k)) 0 n ≡ shifted_by from (first_bad number (λ k. bad (segment part k)) 0 (segments part))
  by_part number bad fine =
      ap (first_bad number (λ k. bad (segment new k)) 0) all_segments
      ∙ looked_for_in_part number (λ k. bad (segment new k)) (λ k. bad (segment part k)) from 0 m (n - to)
      (λ k l h. let s = same_before k (omega arith) in ap bad s.1 ∙ fine k s.0)
      (λ k l h. let s = same_behind k (omega (arith, around.ordered)) (omega (arith, around.ordered, around.inside)) in ap bad s.1 ∙ fine k s.0)
      (λ k l h. ap bad (part_same k (omega arith)))
      ∙ ap (λ (i : ℕ). shifted_by from (first_bad number (λ k. bad (segment part k)) 0 i)) (sym (part_segments new from to ordered around.inside))

  ranges_by_part : ranges_of body new ≡ shifted_by from (ranges_of body part)
  ranges_by_part = by_part 3 out_of_range (range_good body old good)

  slopes_by_part : slopes_of body new ≡ shifted_by from (slopes_of body part)
  slopes_by_part = by_part 4 (λ (l : List ℤ). lt_z (slope l) (pos (100 * (numbers body).half_length))) (slope_good body old good)

  -- 5 is of a segment and the one before it
  joint_outside : (k : ℕ) → 1 ≤ k → SameAt old new k → SameAt old new (k - 1) → bad_joint body new k ≡ false
  joint_outside k l here last = joint_same body new old k k here.1 last.1 ∙ joint_good body old good k l here.0

  all_joints : n - 1 ≡ from + (m - 1 + (n - to))
  all_joints = omega (arith, around.ordered, around.inside)

  joints_by_part : joints_of body new ≡ shifted_by from (joints_of body part)
  joints_by_part =
      ap (first_bad 5 (bad_joint body new) 1) all_joints
      ∙ looked_for_in_part 5 (bad_joint body new) (bad_joint body part) from 1 (m - 1) (n - to)
      (λ k l h. joint_outside k l (shared.before k (omega (arith, around.begins))) (shared.before (k - 1) (omega (arith, around.begins))))
      (λ k l h.
      let inside : k < n = omega (arith, around.ordered, around.inside) in
      let behind : to ≤ k = omega (arith, around.ordered) in
      let changed = around.goes_behind (omega (arith, around.reaches)) in
      joint_outside k (omega arith) (same_behind k behind inside) (shared.behind (k - 1) (omega arith) (omega arith)))
      (λ k l h.
      let last : from + k - 1 ≡ from + (k - 1) = omega arith in
      joint_same body new part (from + k) k (part_same k (omega (arith, around.ordered))) (ap (segment new) last ∙ part_same (k - 1) (omega (arith, around.ordered))))
      ∙ ap (λ (i : ℕ). shifted_by from (first_bad 5 (bad_joint body part) 1 (i - 1))) (sym (part_segments new from to ordered around.inside))

  -- ---- all three
  pub judged_by_part : judged_segments body new ≡ shifted_by from (judged_segments body part)
  judged_by_part =
      rw (ranges_by_part, slopes_by_part, joints_by_part)
      (sym (shifted_before from (ranges_of body part) (slopes_of body part before joints_of body part)
      ∙ ap (λ (v : Verdict (Unit {0})). shifted_by from (ranges_of body part) before v) (shifted_before from (slopes_of body part) (joints_of body part))))

-- ---- a refusal names one of the segments
pub segments_below : (body : Body) (coefs : List ℤ) → Below (segments coefs + 1) (judged_segments body coefs)
segments_below body coefs =
    first_bad_below 3 (bad_range coefs) (segments coefs + 1) 0 (segments coefs) (omega arith)
    and first_bad_below 4 (slow body coefs) (segments coefs + 1) 0 (segments coefs) (omega arith)
    and first_bad_below 5 (bad_joint body coefs) (segments coefs + 1) 1 (segments coefs - 1) (omega arith)

-- by 3, 4 or 5
pub refused_by_segment : {number segment : ℕ} (body : Body) (coefs : List ℤ) → judged_segments body coefs ≡ refused number segment → (3 ≤ number) × (number ≤ 5)
refused_by_segment body coefs =
    either_refuses (ranges_of body coefs) (slopes_of body coefs before joints_of body coefs)
    (λ e. let by = refused_by 3 (bad_range coefs) 0 (segments coefs) e in (omega (arith, by), omega (arith, by)))
    (either_refuses (slopes_of body coefs) (joints_of body coefs)
    (λ e. let by = refused_by 4 (slow body coefs) 0 (segments coefs) e in (omega (arith, by), omega (arith, by)))
    (λ e. let by = refused_by 5 (bad_joint body coefs) 1 (segments coefs - 1) e in (omega (arith, by), omega (arith, by))))
