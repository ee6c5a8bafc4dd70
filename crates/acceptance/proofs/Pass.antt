-- One turn of the pass over the segments: what is held before segment k, what its judgements make of it, and what it says at the end. Assumes nothing.
use mathlib.Core.Path.{◌≡◌, sym, ap, ◌∙◌}
use mathlib.Core.Bool.{Bool, true, false, cond}
use mathlib.Core.List.{List}
use Prim.Native.Nat.{ℕ, zero, suc, ◌+◌, ◌*◌, ◌-◌, ◌<◌, ◌≤◌}
use native.Mathlib.Omega.{arith}
use borrow.Author.Tests.{ne_eqb}
use lib.Dec.{eqb}
use lib.IntN.{ℤ, pos, neg_ℤ, ◌-ℤ◌}
use lib.Signed.{lt_z}
use Rattle.whole.specs.Ranges.{Within}
use Rattle.chebyshev.specs.Polynomials.{S}
use Rattle.chebyshev.specs.Segment.{value, slope, InRange}
use Rattle.analysis.proofs.Theorems.{value_bound, in_range_exactly}
use Rattle.refusals.specs.Verdict.{refused, accepted}
use Rattle.refusals.specs.Search.{first_bad, first_bad_good, first_bad_bad, first_bad_end}
use Rattle.series.specs.declared.Body.{Body}
use Rattle.series.specs.Bodies.{numbers}
use Rattle.series.specs.Series.{segment, segments}
use Rattle.series.specs.Acceptance.{bad_range, slow, bad_rise, bad_joint, judged_segments}
use Rattle.series.proofs.theory.Known.{segment_length_lem}
use Rattle.series.specs.theory.Kept.{first_of, found, none_found, found_same, found_turn, found_end, found_before}
use Rattle.series.proofs.theory.Span.{last_within}

-- What is held before segment k: each search over all segments is what was kept of it, the first slow segment and the first bad joint, and what it says of the
-- segments from k on (joints begin at 1).
pub record Passed (body : Body) (coefs : List ℤ) (slowAt jointAt : ℕ) (last : ℤ) (k : ℕ) : Type 0 where
  pub ranges : first_bad 3 (bad_range coefs) 0 (segments coefs) ≡ first_bad 3 (bad_range coefs) k (segments coefs - k)
  pub slopes : first_bad 4 (slow body coefs) 0 (segments coefs) ≡ found 4 slowAt (segments coefs) (first_bad 4 (slow body coefs) k (segments coefs - k))
  pub joints : first_bad 5 (bad_joint body coefs) 1 (segments coefs - 1) ≡ found 5 jointAt (segments coefs) (first_bad 5 (bad_joint body coefs) (k - 1 + 1) (segments coefs - (k - 1 + 1)))
  pub last_small : Within 1000100000000000 last
  pub last_is : 1 ≤ k → last ≡ value (segment coefs (k - 1)) (pos S -ℤ pos (numbers body).step)

module _ (body : Body) (coefs : List ℤ) where
  abbrev n : ℕ
  n = segments coefs

  all_left : n ≡ n - 0
  all_left = omega arith

  pub pass_start : Passed body coefs n n (pos 0) 0
  pass_start = record {
    ranges = ap (first_bad 3 (bad_range coefs) 0) all_left;
    slopes = ap (first_bad 4 (slow body coefs) 0) all_left ∙ sym (none_found 4 n (first_bad 4 (slow body coefs) 0 (n - 0)));
    joints = sym (none_found 5 n (first_bad 5 (bad_joint body coefs) 1 (n - 1)));
    last_small = record { within = omega arith };
    last_is = λ l. absurd (omega arith);
  }

  -- the joint before segment k, looked at; there is none before segment 0
  joint_turn : (jointAt : ℕ) (last : ℤ) (k : ℕ) → k < n → (1 ≤ k → last ≡ value (segment coefs (k - 1)) (pos S -ℤ pos (numbers body).step)) → found 5 jointAt n (first_bad 5 (bad_joint body coefs) (k - 1 + 1) (n - (k - 1 + 1))) ≡ found 5 (first_of jointAt n (cond (eqb k 0) false (bad_rise (value (segment coefs k) (neg_ℤ (pos S)) -ℤ last))) k) n (first_bad 5 (bad_joint body coefs) (k + 1 - 1 + 1) (n - (k + 1 - 1 + 1)))
  joint_turn jointAt last zero l is = found_same 5 jointAt n 0 (first_bad 5 (bad_joint body coefs) 1 (n - 1))
  joint_turn jointAt last (suc k) l is =
      let here : suc k - 1 + 1 ≡ suc k = omega arith in
      let next : suc k + 1 - 1 + 1 ≡ suc k + 1 = omega arith in
      let not_first : eqb (suc k) 0 ≡ false = ne_eqb (suc k) 0 (λ e. omega arith) in
      rw (here, next, not_first, is (omega arith)) (found_turn 5 (bad_joint body coefs) jointAt n (suc k) l)

  module _ {slowAt jointAt : ℕ} {last : ℤ} {k : ℕ} (h : Passed body coefs slowAt jointAt last k) where
    -- 3 refuses at once
    pub pass_refused : k < n → bad_range coefs k ≡ true → judged_segments body coefs ≡ refused 3 k
    pass_refused l bad = rw (h.ranges ∙ first_bad_bad 3 (bad_range coefs) k n l bad)

    -- at the end, what was kept decides
    pub pass_end : n ≤ k → judged_segments body coefs ≡ found 4 slowAt n (found 5 jointAt n accepted)
    pass_end l =
        let ranges : first_bad 3 (bad_range coefs) 0 n ≡ accepted = h.ranges ∙ first_bad_end 3 (bad_range coefs) k n l in
        let slopes = h.slopes ∙ found_end 4 (slow body coefs) slowAt n k l in
        let joints = h.joints ∙ found_end 5 (bad_joint body coefs) jointAt n (k - 1 + 1) (omega arith) in
        rw (ranges, slopes, joints) (found_before 4 slowAt n (found 5 jointAt n accepted))

    module _ (l : k < n) (good : bad_range coefs k ≡ false) where
      abbrev part : List ℤ
      part = segment coefs k

      pub part_in_range : InRange part
      part_in_range = (in_range_exactly part (segment_length_lem coefs k l)).0 good

      -- whether segment k joins badly, as the pass tests it
      abbrev tested : Bool
      tested = cond (eqb k 0) false (bad_rise (value part (neg_ℤ (pos S)) -ℤ last))

      same : k ≡ k + 1 - 1
      same = omega arith

      pub pass_turn : Passed body coefs (first_of slowAt n (lt_z (slope part) (pos (100 * (numbers body).half_length))) k) (first_of jointAt n tested k) (value part (pos S -ℤ pos (numbers body).step)) (k + 1)
      pass_turn = record {
        ranges = h.ranges ∙ first_bad_good 3 (bad_range coefs) k n l good;
        slopes = h.slopes ∙ found_turn 4 (slow body coefs) slowAt n k l;
        joints = h.joints ∙ joint_turn jointAt last k l h.last_is;
        last_small = value_bound part_in_range (last_within body);
        last_is = λ i. ap (λ (m : ℕ). value (segment coefs m) (pos S -ℤ pos (numbers body).step)) same;
      }
