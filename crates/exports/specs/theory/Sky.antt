-- Series and marks, and the inputs of a build: the numbers of their answers and refusals fit a word. Assumes nothing but what a statement says itself.
use Rattle.std.proofs.Common.{ap, length-append, length-drop, take-append-drop}
use Rattle.std.specs.Prelude.{Bool, true, false, cond, not, ◌||◌, List, ◌++◌, ℕ, zero, suc, ◌+◌, ◌-◌, ◌*◌, ◌%◌, ◌^◌, ◌<◌, ◌≤◌, T, ltb, leb, eqb, ℤ, pos, neg_ℤ, take, drop}
use native.Mathlib.Omega.{arith}
use Rattle.std.proofs.Math.ListN.{length}
use Rattle.std.specs.Int.Signed.{lt_z}
use Rattle.refusals.specs.Verdict.{answered, refused, answered_says}
use Rattle.refusals.specs.Search.{first_bad}
use Rattle.series.specs.Bodies.{numbers}
use Rattle.series.specs.Series.{Series, segments, value_at, last_second, covers}
use Rattle.series.specs.Acceptance.{Accepted, bad_range, slow, bad_joint, series_judged, value_of}
use Rattle.series.proofs.theory.Span.{span_few}
use Rattle.served.specs.declared.Served.{Served}
use Rattle.served.specs.declared.Side.{Side}
use Rattle.served.specs.declared.Side.TheVariants.{Near, Long}
use Rattle.served.specs.Served.{chosen, served_by, serves}
use Rattle.served.proofs.Theorems.{segment_there}
use Rattle.replacing.specs.Replaced.{replaced, series_with, segment_replaced, segment_checked}
use Rattle.marks.specs.Words.{mark_words}
use Rattle.marks.specs.Listed.{listed_marks}
use Rattle.marks.specs.Answers.{counted_marks, listed_into}
use Rattle.marks.proofs.Theorems.{listed_only_when}
use Rattle.marks.proofs.theory.StretchLaws.{few}
use Rattle.inputs.specs.Inputs.{Inputs, sun, moon, any_early, inputs_judged, judged_in}
use Rattle.answers.specs.Fits.{Fits, in_table, none, itself, served_size, answer, test, ◌and◌, and_then, with_answer}
use Rattle.exports.specs.theory.Time.{zone_fits, leap_fits}

-- ---- series: a segment that is named is one of the series'
first_bad_fits : (number : ℕ) → T (in_table number) → (bad : ℕ → Bool) (k m : ℕ) → k + m < 2 ^ 63 → Fits none (first_bad number bad k m)
unfolding first_bad
first_bad_fits number t bad k zero h = answer (omega arith)
first_bad_fits number t bad k (suc m) h = here (bad k) (first_bad_fits number t bad (suc k) m (omega arith))
  where
    here : (b : Bool) → Fits none (first_bad number bad (suc k) m) → Fits none (cond b (refused number k) (first_bad number bad (suc k) m))
    here true behind = record { small = omega arith; numbered = t }
    here false behind = behind

module _ (s : Series) (few_words : length s.coefs < 2 ^ 63) where
  pub series_fits : Fits none (series_judged s)
  unfolding series_judged
  series_fits =
      let n = length s.coefs in
      let coefs = s.coefs in
      let few : segments coefs ≤ n = omega arith in
      (test (not (eqb (n % 14) 0)) 2 tt and test (eqb n 0) 2 tt and test (ltb (14 * (numbers s.body).most_segments) n) 2 tt and test (lt_z s.start (neg_ℤ (pos 10000000000))) 2 tt and test (lt_z (pos 10000000000) s.start) 2 tt)
      and first_bad_fits 3 tt (bad_range coefs) 0 (segments coefs) (omega arith)
      and first_bad_fits 4 tt (slow s.body coefs) 0 (segments coefs) (omega arith)
      and first_bad_fits 5 tt (bad_joint s.body coefs) 1 (segments coefs - 1) (omega arith)

  pub value_fits : (second : ℤ) → Fits none (value_of s second)
  unfolding value_of
  value_fits second = series_fits and test (not (covers s second)) 6 tt and answer (omega arith)

  -- there are no more marks than seconds
  few_marks : Accepted s → length (listed_marks s) < 2 ^ 63
  few_marks e = omega (arith, few (value_at s) (numbers s.body).mark_size s.start (last_second s), span_few s e)

  pub count_fits : Fits itself (counted_marks s)
  count_fits = with_answer (series_fits and answer (omega arith)) (λ n e. let a = answered_says (series_judged s) e in let many = few_marks a.0 in omega (arith, a.1))

  pub list_fits : (room : ℕ) → Fits itself (listed_into s room)
  list_fits room =
      with_answer (series_fits and test (ltb room (length (mark_words (listed_marks s)))) 12 tt and answer (omega arith))
      (λ n e. let a = listed_only_when s room n e in let many = few_marks a.is_accepted in omega (arith, a.is_count))

-- ---- two series: the segment that serves is one of its series'
module _ (n l : Series) (second : ℤ) (Near-fits : length n.coefs < 2 ^ 63) (long-fits : length l.coefs < 2 ^ 63) where
  choice_fits : (x y : Bool) (g h : Served) → Fits none (cond x (answered g) (cond y (answered h) (refused 18 0)))
  choice_fits true y g h = answer (omega arith)
  choice_fits false true g h = answer (omega arith)
  choice_fits false false g h = record { small = omega arith; numbered = tt }

  few_segments : (side : Side) → segments (chosen side n l).coefs < 2 ^ 63
  few_segments Near = omega arith
  few_segments Long = omega arith

  all_fit : Fits none (serves n l second)
  unfolding serves
  all_fit = series_fits n Near-fits and series_fits l long-fits and choice_fits (covers n second) (covers l second) (served_by Near n second) (served_by Long l second)

  pub serves_fits : Fits served_size (serves n l second)
  serves_fits = with_answer all_fit (λ g e. let few = few_segments g.side in omega (arith, segment_there n l second e))

-- ---- a segment replaced: however it is put, no more words are added than it has
module _ (s : Series) (k : ℕ) (part : List ℤ) where
  few_more : length (replaced s.coefs k part) ≤ length s.coefs + length part
  few_more =
      let at = 14 * k in
      let front = length-append (take at s.coefs) part in
      let whole = length-append (take at s.coefs ++ part) (drop (at + length part) s.coefs) in
      omega (arith, front, whole, length-drop (at + length part) s.coefs, length-drop at s.coefs, ap length (take-append-drop at s.coefs), length-append (take at s.coefs) (drop at s.coefs))

  pub replaced_fits : length s.coefs + length part < 2 ^ 63 → Fits none (segment_checked s k part)
  unfolding segment_replaced
  replaced_fits h =
      and_then
      (test (leb (segments s.coefs) k) 6 tt and series_fits (series_with s k part) (omega (arith, few_more)) and answer (omega arith))
      (λ coefs. answer (omega arith))

-- ---- the inputs of a build
pub inputs_fit : (i : Inputs) → length i.sun_coefs < 2 ^ 63 → length i.moon_coefs < 2 ^ 63 → Fits none (inputs_judged i)
unfolding inputs_judged
inputs_fit i h k =
    leap_fits i.leap
    and series_fits (sun i) h
    and series_fits (moon i) k
    and test (any_early i.leap (listed_marks (sun i)) || any_early i.leap (listed_marks (moon i))) 7 tt

pub inputs_fit_in : (i : Inputs) (zone : ℤ) → length i.sun_coefs < 2 ^ 63 → length i.moon_coefs < 2 ^ 63 → Fits none (judged_in i zone)
unfolding judged_in
inputs_fit_in i zone h k = zone_fits zone and inputs_fit i h k
