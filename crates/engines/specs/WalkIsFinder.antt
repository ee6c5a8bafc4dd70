-- Document 02, order 7: the plain walk gives "the same list, the same refusals and the same written places as the finder". Spoken of are the contracts of the two functions
-- themselves, what each is proved to show when it returns: `Reads` has them, made from the sources alone, so no proof is brought in here. Assumes nothing.
use Rattle.refusals.specs.Verdict.{paper}
use Rattle.std.specs.Prelude.{◌≡◌, refl, List, ℤ, length, Result, ℕ}
use Rattle.std.proofs.Common.{subst}
use contract.Lifetimes.{Lfts}
use Rattle.std.specs.Borrow.{Bor}
use denote.MutBor.{MutBor}
use Rattle.refusals.specs.Lent.{written_into}
use Rattle.times.specs.declared.Second.{Second}
use Rattle.series.specs.declared.Body.{Body}
use Rattle.series.specs.Series.{Series, series}
use Rattle.marks.specs.Answers.{listed_into, words_listed}
use Rattle.marks.specs.OneResult.{list_marks_one_result, list_marks_one_content}
use Rattle.walk.proofs.list_marks.Reads as walk
use Rattle.finder.proofs.list_marks.Reads as finder
use Rattle.refusals.specs.declared.Refusal.{Refusal}

-- what an engine is handed, and what it hands back at its end: a body, a start, the lent coefficients and the lent words
abbrev Handed : Type 0
Handed = Body × (Second × (Bor (List ℤ) × (MutBor (List ℤ) × Unit {0})))

abbrev pub series_of : Handed → Series
series_of given = series given.0 given.1.0.0 given.1.1.0.now

abbrev pub words_of : Handed → List ℤ
words_of given = given.1.1.1.0.now

-- what may be answered, and left in the lent words
abbrev pub MayList : Series → List ℤ → Result ℕ Refusal → List ℤ → Type 0
MayList s out answer left = (paper answer ≡ listed_into s (length out)) × (left ≡ written_into (listed_into s (length out)) (words_listed s) out)

-- both promise that, and nothing else
pub walk_promises : (κs : Lfts 2) (given left : Handed) (answer : Result ℕ Refusal) → walk.Post κs given answer left ≡ MayList (series_of given) (words_of given) answer (words_of left)
walk_promises κs given left answer = refl

pub finder_promises : (κs : Lfts 2) (given left : Handed) (answer : Result ℕ Refusal) → finder.Post κs given answer left ≡ MayList (series_of given) (words_of given) answer (words_of left)
finder_promises κs given left answer = refl

-- so what the one may answer and leave is what the other may: the two contracts are one
pub one_promise : walk.Post ≡ finder.Post
one_promise = refl

-- and given the same series and the same words, they do: whatever the walk answered and left, the finder answered and left, wherever the lent places lie
pub walk_is_finder : (κs λs : Lfts 2) (given walked lent found : Handed) (by-walk by-finder : Result ℕ Refusal) → series_of given ≡ series_of lent → words_of given ≡ words_of lent →
    walk.Post κs given by-walk walked → finder.Post λs lent by-finder found →
    (by-walk ≡ by-finder) × (words_of walked ≡ words_of found)
walk_is_finder κs λs given walked lent found by-walk by-finder same-series same-words w f =
    let of-the-series = subst (λ (s : Series). MayList s (words_of given) by-walk (words_of walked)) same-series w in
    let of-both = subst (λ (out : List ℤ). MayList (series_of lent) out by-walk (words_of walked)) same-words of-the-series in (
      list_marks_one_result (series_of lent) (length (words_of lent)) by-walk by-finder of-both.0 f.0,
      list_marks_one_content (series_of lent) (words_of lent) (words_of walked) (words_of found) of-both.1 f.1,
    )
