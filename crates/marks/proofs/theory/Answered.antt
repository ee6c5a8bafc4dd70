-- What an answer to a listing tells: the series is accepted, the number is that of the listed marks, and there is room for them. Assumes nothing.
use Rattle.std.specs.Prelude.{◌≡◌, refl, Bool, true, false, ℕ, ◌*◌, ◌≤◌, ltb, length}
use Rattle.std.proofs.Common.{sym, arith, ltb-false}
use Rattle.refusals.specs.Verdict.{Verdict, answered, refused, accepted, refuse_when, ◌before◌, answers_apart, answer_or_refusal}
use Rattle.series.specs.Series.{Series}
use Rattle.series.specs.Acceptance.{series_judged}
use Rattle.marks.specs.Listed.{listed_marks}
use Rattle.marks.specs.Words.{mark_words}
use Rattle.marks.specs.Answers.{listed_into, Answered}
use Rattle.marks.proofs.theory.Words.{words_length}

told : (judgement : Verdict (Unit {0})) (room filled count n : ℕ) → filled ≡ 2 * count → judgement before refuse_when (ltb room filled) 12 before answered count ≡ answered n → (judgement ≡ accepted) × ((n ≡ count) × (2 * n ≤ room))
told (answered tt) room filled count n two e = go (ltb room filled) (ltb-false room filled) e
  where
    go : (short : Bool) → (short ≡ false → filled ≤ room) → refuse_when short 12 before answered count ≡ answered n → (accepted ≡ accepted) × ((n ≡ count) × (2 * n ≤ room))
    go true f e = answer_or_refusal (sym e)
    go false f e = let z : count ≡ n = answers_apart e in let l = f refl in (refl, (sym z, omega arith))
told (refused number segment) room filled count n two e = answer_or_refusal (sym e)

pub answered_means : (s : Series) (room n : ℕ) → listed_into s room ≡ answered n → Answered s room n
answered_means s room n e =
    let listed = listed_marks s in
    let t = told (series_judged s) room (length (mark_words listed)) (length listed) n (words_length listed) e in
    record { is_accepted = t.0; is_count = t.1.0; has_room = t.1.1 }
