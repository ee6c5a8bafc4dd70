-- The marks of a ready series, by index: each is a place of the list, its second can be converted, and it is not early. Assumes nothing.
use Rattle.std.specs.Prelude.{◌≡◌, true, List, [], ◌∷◌, ℕ, ◌+◌, ◌*◌, ◌-◌, ◌<◌, ℤ, pos, negsuc, ◌≤ℤ◌, ◌<ℤ◌, length, get_or}
use Rattle.std.proofs.Common.{sym, ap, ◌∙◌, arith}
use Rattle.whole.specs.Laws.{<→≤}
use Rattle.whole.specs.Distance.{distance_from, distance_is, distance_positive}
use Rattle.whole.specs.Ranges.{Within}
use Rattle.whole.specs.Solver.{⇑, ⇓, ring}
use Rattle.whole.specs.Tests.{says_in_range}
use Rattle.times.specs.declared.Second.{Second}
use Rattle.clock.specs.Clock.{convertible, early, Readable}
use Rattle.series.specs.Series.{Series, InSpan, segment_length, segments}
use Rattle.series.specs.Acceptance.{Accepted}
use Rattle.series.proofs.theory.Known.{facts}
use Rattle.series.proofs.theory.Span.{span_short}
use Rattle.marks.specs.Marks.{Mark}
use Rattle.marks.specs.Crossings.{marked}
use Rattle.marks.specs.Answers.{no_mark}
use Rattle.marks.specs.Listed.{listed_marks, first_reached, last_reached, second_of_mark}
use Rattle.marks.proofs.Theorems.{located_crossing}
use Rattle.marks.proofs.theory.Nth.{nth_index, nth_is, index_low, index_high, marks_length, indices_ordered}
use Rattle.inputs.specs.Inputs.{second}
use Rattle.inputs.specs.Known.{Ready}
use Rattle.inputs.specs.theory.Early.{each_not_early}

-- a second of an accepted series' span is in the conversion range, which covers every series
pub span_converts : (s : Series) → Accepted s → (t : Second) → InSpan s t.0 → convertible t ≡ true
unfolding convertible
span_converts s e t i =
    let f = facts s e in
    let span = pos (segment_length s.body * segments s.coefs) in
    let ρ = s.start ∷ t.0 ∷ span ∷ [] in
    let short = span_short s e in
    says_in_range (negsuc 9999999999) (pos 16000000000) t.0
    (⇑ ρ (search ring depth 9) (omega (arith, ⇓ ρ f.not_too_early (search ring depth 9), ⇓ ρ i.from_start (search ring depth 9))))
    (⇑ ρ (search ring depth 9) (omega (arith, ⇓ ρ f.not_too_late (search ring depth 9), ⇓ ρ i.to_last (search ring depth 9))))

module _ (s : Series) (e : Accepted s) (j : ℤ) (low : first_reached s <ℤ j) (high : j ≤ℤ last_reached s) where
  pub mark_in_span : InSpan s (second_of_mark s j)
  mark_in_span = let c = located_crossing s e j low high in record { from_start = <→≤ c.after_first; to_last = c.by_last }

  pub mark_converts : convertible (record { 0 = second_of_mark s j }) ≡ true
  mark_converts = span_converts s e (record { 0 = second_of_mark s j }) mark_in_span

  -- mark j is a place of the list
  pub mark_listed : (k : ℕ) × (k < length (listed_marks s)) × (get_or (listed_marks s) k no_mark ≡ marked j (second_of_mark s j))
  mark_listed =
      let a = first_reached s in
      let b = last_reached s in
      let d = distance_from a j in
      let ρ = a ∷ b ∷ j ∷ pos d ∷ pos (distance_from a b) ∷ [] in
      let is = ⇓ ρ (distance_is (<→≤ low)) (search ring depth 9) in
      let all = ⇓ ρ (distance_is (indices_ordered s e)) (search ring depth 9) in
      let inside : d - 1 < length (listed_marks s) = omega (arith, is, all, ⇓ ρ low (search ring depth 9), ⇓ ρ high (search ring depth 9), marks_length s e) in
      let some : 0 < d = distance_positive low in
      let less : d - 1 + 1 ≡ d = omega arith in
      let σ = a ∷ j ∷ pos (d - 1) ∷ pos d ∷ [] in
      let index : nth_index s e (d - 1) inside ≡ j = ⇑ σ (search ring depth 9) (omega (arith, less, ⇓ σ (distance_is (<→≤ low)) (search ring depth 9))) in
      (d - 1, inside, nth_is s e (d - 1) inside ∙ ap (λ (x : ℤ). marked x (second_of_mark s x)) index)

-- what the clock asks of each mark of a ready series
pub mark_readable : (leap : List ℤ) (s : Series) → Ready leap s → (j : ℤ) → first_reached s <ℤ j → j ≤ℤ last_reached s → (zone : ℤ) → Within 1000 zone → Readable leap (record { 0 = second_of_mark s j }) zone
mark_readable leap s r j low high zone z =
    let place = mark_listed s r.is_accepted j low high in
    record {
      lawful_table = r.lawful_table;
      in_range = mark_converts s r.is_accepted j low high;
      not_early = ap (λ (m : Mark). early leap (second m)) (sym place.2) ∙ each_not_early leap (listed_marks s) r.none_early place.0 place.1;
      zone_small = z;
    }

-- the same by the place in the list
pub nth_readable : (leap : List ℤ) (s : Series) → Ready leap s → (k : ℕ) → k < length (listed_marks s) → (zone : ℤ) → Within 1000 zone → Readable leap (second (get_or (listed_marks s) k no_mark)) zone
nth_readable leap s r k h zone z =
    let e = r.is_accepted in
    rw (nth_is s e k h) (mark_readable leap s r (nth_index s e k h) (index_low s e k h) (index_high s e k h) zone z)
