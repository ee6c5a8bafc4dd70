-- `finder::list_marks` meets its contract: what was planned is what the finder fills. In the needs, `known` is the place where the planned number of marks is known.
-- Assumes nothing.
use native.Mathlib.Omega.{arith}
use mathlib.Core.Path.{◌≡◌, refl, sym, ap, subst, ◌∙◌}
use mathlib.Core.List.{List, ◌++◌}
use Prim.Native.Nat.{ℕ, ◌*◌}
use lib.ListN.{length, take, drop}
use lib.Seq.{length-take-le}
use lib.IntN.{ℤ}
use Rattle.refusals.specs.Verdict.{Verdict, answered, paper, refused_is, passed_on}
use Rattle.whole.specs.Ranges.{back}
use Rattle.whole.specs.Distance.{distance_from}
use Rattle.series.specs.Series.{Series, series, last_second}
use Rattle.marks.specs.Words.{mark_words}
use Rattle.marks.specs.Stretch.{StretchOf}
use Rattle.marks.specs.Listed.{marks_between, listed_marks}
use Rattle.refusals.specs.Lent.{written_into, nothing_written}
use Rattle.marks.specs.Answers.{listed_into, words_listed, Answered}
use Rattle.marks.proofs.theory.Words.{words_length}
use Rattle.marks.proofs.theory.Answered.{answered_means}
use Rattle.finder.proofs.Halves.{span, marks_of}
use Rattle.finder.proofs.list_marks.Goals as goal
use Rattle.finder.proofs.list_marks.Goals.{After-last_reached-highest, In_ok-count}

settled_listed : {answer : Verdict ℕ} (n k : ℕ) (written out : List ℤ) {filled : List ℤ} → answer ≡ answered n → length written ≡ k → filled ≡ written → (answered n ≡ answer) × (filled ++ drop k out ≡ written_into answer (λ k. written) out)
settled_listed n k written out e size p = rw (e, size, p) (refl, refl)

abbrev series_of : In_ok-count → Series
series_of c = series c.args.body c.args.start.0 c.args.coefs.now

abbrev out_of : In_ok-count → List ℤ
out_of c = c.args.out.now

abbrev count_of : In_ok-count → ℕ
count_of c = c.in_ok-count.count

at_answer : (c : In_ok-count) → listed_into (series_of c) (length (out_of c)) ≡ answered (count_of c)
at_answer c = sym c.plan.ensures ∙ ap paper c.in_ok-count.was

at_answered : (c : In_ok-count) → Answered (series_of c) (length (out_of c)) (count_of c)
at_answered c = answered_means (series_of c) (length (out_of c)) (count_of c) (at_answer c)

-- the whole span, with the indices at its ends
at_span : (c : After-last_reached-highest) →
    (let s = series_of c.before.before.before in
    let lowest = c.first_reached-lowest.result in
    let highest = c.last_reached-highest.result in
    StretchOf s s.start (last_second s) lowest highest (2 * distance_from lowest highest))
at_span c =
    span (series_of c.before.before.before) (at_answered c.before.before.before).is_accepted c.first_reached-lowest.ensures c.last_reached-highest.ensures

at_count : (c : After-last_reached-highest) → count_of c.before.before.before ≡ distance_from c.first_reached-lowest.result c.last_reached-highest.result
at_count c = (at_answered c.before.before.before).is_count ∙ marks_of (at_span c)

-- what is lent to the finder
at_lent : (c : In_ok-count) → length (take (2 * count_of c) (out_of c)) ≡ 2 * count_of c
at_lent c = length-take-le (2 * count_of c) (out_of c) (at_answered c).has_room

pub last_second-last-requires : goal.last_second-last-requires
last_second-last-requires c = (at_answered c).is_accepted

pub first_reached-lowest-requires : goal.first_reached-lowest-requires
first_reached-lowest-requires c = (at_answered c.before).is_accepted

pub last_reached-highest-requires : goal.last_reached-highest-requires
last_reached-highest-requires c = (at_answered c.before.before).is_accepted

pub slice_bounds-find-end : goal.slice_bounds-find-end
slice_bounds-find-end c = (at_answered c.before.before.before).has_room

pub slice_bounds-find-end-2 : goal.slice_bounds-find-end-2
slice_bounds-find-end-2 c = sym (at_lent c.before.before.before.before)

pub find-requires : goal.find-requires
find-requires c =
    let s = series_of c.before.before.before.before in
    let lowest = c.first_reached-lowest.result in
    let highest = c.last_reached-highest.result in
    rw (back lowest c.first_reached-lowest.type_inv, back highest c.last_reached-highest.type_inv, at_lent c.before.before.before.before, at_count c.before)
    (record { accepted = (at_answered c.before.before.before.before).is_accepted; stretch_of = subst (λ (to : ℤ). StretchOf s s.start to lowest highest (2 * distance_from lowest highest)) (sym c.last_second-last.ensures) (at_span c.before) })

pub returns-in_err-count : goal.returns-in_err-count
returns-in_err-count c =
    let s = series c.args.body c.args.start.0 c.args.coefs.now in
    let refused = refused_is {u = listed_into s (length c.args.out.now)} c.plan.ensures c.in_err-count.was in
    record { result_value = passed_on c.from_residual.result c.in_err-count.field-0.0 c.from_residual.ensures.1 (sym refused); out_after = nothing_written _ _ (words_listed s) c.args.out.now refused }

pub returns : goal.returns
returns c =
    let s = series_of c.before.before.before.before.before.before in
    let size = words_length (listed_marks s) ∙ ap (◌*◌ 2) (sym (at_answered c.before.before.before.before.before.before).is_count) in
    let wrote = c.find.ensures ∙ ap (λ (to : ℤ). mark_words (marks_between s s.start to)) c.last_second-last.ensures in record { result_value = (settled_listed (count_of c.before.before.before.before.before.before) (2 * count_of c.before.before.before.before.before.before) (mark_words (listed_marks s)) (out_of c.before.before.before.before.before.before) (at_answer c.before.before.before.before.before.before) size wrote).0; out_after = (settled_listed (count_of c.before.before.before.before.before.before) (2 * count_of c.before.before.before.before.before.before) (mark_words (listed_marks s)) (out_of c.before.before.before.before.before.before) (at_answer c.before.before.before.before.before.before) size wrote).1 }

pub overflow_mul-needed : goal.overflow_mul-needed
overflow_mul-needed c = let room = (at_answered c.before.before.before).has_room in omega arith
