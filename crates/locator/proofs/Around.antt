-- What two seconds around a mark tell: both lie in the span, and so does what lies inside; the mark's value is small. Then what is looked through for its
-- segment. Assumes nothing.
use Prim.Native.Nat.{◌≤◌}
use lib.IntN.{ℤ, pos, nat_abs, ◌*ℤ◌}
use Rattle.whole.specs.Parts.{ℤ_rules, parts_add}
use Rattle.whole.specs.Laws.{<→≤, ≤_trans, abs→, →abs}
use Rattle.whole.specs.Ranges.{Within}
use Rattle.whole.specs.Distance.{distance_from, lies_after}
use native.Mathlib.Omega.{arith}
use lib.Dec.{lit≤}
use Rattle.series.specs.declared.Body.{Body}
use Rattle.series.specs.declared.Body.TheVariants.{Sun, Moon}
use Rattle.series.specs.Bodies.{numbers}
use Rattle.series.specs.Series.{Series, InSpan, last_second}
use Rattle.series.specs.Acceptance.{Accepted}
use Rattle.series.proofs.theory.Known.{facts}
use Rattle.series.proofs.theory.Span.{span_few, span_ordered, value_in_span}
use Rattle.marks.specs.Stretch.{BracketOf, Searched}
use Rattle.finder.proofs.Halves.{Inside}

module _ (s : Series) (e : Accepted s) where
  -- a second of the span is small
  pub second_small : {second : ℤ} → InSpan s second → Within 20000000000 second
  second_small {second} i =
      let f = facts s e in
      let early = f.not_too_early in
      let late = f.not_too_late in
      let low = i.from_start in
      let high = i.to_last in
      let few = span_few s e in
      let after = lies_after (span_ordered s e) in
      let p = parts_add s.start (pos (distance_from s.start (last_second s))) in
      record { within = →abs {z = second} 20000000000 (omega ℤ_rules) (omega ℤ_rules) }

  module _ {j lo hi below above : ℤ} (a : BracketOf s j lo hi below above) where
    pub lo_in_span : InSpan s lo
    lo_in_span = record { from_start = a.from_first; to_last = ≤_trans (<→≤ a.ordered) a.by_last }

    pub hi_in_span : InSpan s hi
    hi_in_span = record { from_start = ≤_trans a.from_first (<→≤ a.ordered); to_last = a.by_last }

    pub inside_in_span : {middle : ℤ} → Inside lo hi middle → InSpan s middle
    inside_in_span i = record { from_start = ≤_trans a.from_first (<→≤ i.after_lo); to_last = ≤_trans (<→≤ i.before_hi) a.by_last }

    pub mark_small : Within 1000100000000000 (j *ℤ pos (numbers s.body).mark_size)
    mark_small =
        let low : nat_abs below ≤ 1000100000000000 = rw a.at_lo (value_in_span s e lo_in_span).within in
        let high : nat_abs above ≤ 1000100000000000 = rw a.at_hi (value_in_span s e hi_in_span).within in
        record { within = →abs {z = j *ℤ pos (numbers s.body).mark_size} 1000100000000000 (≤_trans (abs→ 1000100000000000 low).0 (<→≤ a.under)) (≤_trans a.reaching (abs→ 1000100000000000 high).1) }

few_segments : (body : Body) → (numbers body).most_segments ≤ 16000
few_segments Sun = lit≤ tt
few_segments Moon = lit≤ tt

-- a segment can be looked for
pub searched : (s : Series) → Accepted s → Searched s.coefs
searched s e =
    let f = facts s e in
    let most = few_segments s.body in
    let many = f.not_too_many in
    record { ranged = f.ranged; some = f.some_segment; few = omega arith }
