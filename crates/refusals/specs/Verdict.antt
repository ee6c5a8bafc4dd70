-- What an entry point says on paper: an answer, or a refusal by number and segment; and "the first refusal wins", as one combinator. Assumes nothing.
use Rattle.std.specs.Prelude.{◌≡◌, refl, Bool, true, false, cond, ℕ, eqb, if◌then◌else◌, Result, Ok, Err, IsErrAnd}
use Rattle.std.proofs.Common.{sym, ap, ◌∙◌, arith}
use Rattle.std.proofs.lemmas.Result.{err_from_is_err_and}
use Rattle.refusals.specs.declared.Refusal.{Refusal}
use Rattle.refusals.specs.declared.Refusal.TheVariants.{LeapTable, Shape, Coefficient, TooSlow, Joint, Outside, TooEarly, NoSui, MonthCount, MonthLength, Room, Layout, Zone, NotCovered}

pub data Verdict (A : Type 0) : Type 0 where
  answered : A → Verdict A
  refused : (number segment : ℕ) → Verdict A

-- A promise says on paper what is answered. Where the paper tells any two answers apart, two results that a promise allows are the same result.
abbrev pub OneToOne : {X Paper : Type 0} → (X → Paper) → Type 0
OneToOne {X} paper = (a b : X) → paper a ≡ paper b → a ≡ b

pub one_result : {X Paper : Type 0} (paper : X → Paper) → OneToOne paper → {definition : Paper} (a b : X) → paper a ≡ definition → paper b ≡ definition → a ≡ b
one_result paper apart a b p q = apart a b (p ∙ sym q)

-- and so is what a lent place holds, which a promise says by itself
pub one_content : {A : Type 0} {definition : A} (a b : A) → a ≡ definition → b ≡ definition → a ≡ b
one_content a b p q = p ∙ sym q

-- what the second says, unless the first refuses
infixr 5 ◌before◌
abbrev pub ◌before◌ : {A B : Type 0} → Verdict A → Verdict B → Verdict B
answered a before w = w
refused number segment before w = refused number segment

-- the same where what follows needs the first one's answer
infixl 5 ◌then◌
abbrev pub ◌then◌ : {A B : Type 0} → Verdict A → (A → Verdict B) → Verdict B
answered a then f = f a
refused number segment then f = refused number segment

pub before_assoc : {A B C : Type 0} (u : Verdict A) (v : Verdict B) (w : Verdict C) → (u before v) before w ≡ u before v before w
before_assoc (answered a) v w = refl
before_assoc (refused number segment) v w = refl

pub then_assoc : {A B C : Type 0} (u : Verdict A) (f : A → Verdict B) (g : B → Verdict C) → u then f then g ≡ u then (λ a. f a then g)
then_assoc (answered a) f g = refl
then_assoc (refused number segment) f g = refl

-- ---- judges: nothing is answered but that there is no refusal
abbrev pub accepted : Verdict (Unit {0})
accepted = answered tt

-- refused by this number (and no segment) when the test is true
abbrev pub refuse_when : Bool → ℕ → Verdict (Unit {0})
refuse_when test number = cond test (refused number 0) accepted

-- the number of a refusal, and the segment that it names, or zero
abbrev pub refusal_number : Refusal → ℕ
refusal_number LeapTable = 1
refusal_number Shape = 2
refusal_number (Coefficient k) = 3
refusal_number (TooSlow k) = 4
refusal_number (Joint k) = 5
refusal_number Outside = 6
refusal_number TooEarly = 7
refusal_number NoSui = 8
refusal_number MonthCount = 9
refusal_number MonthLength = 10
refusal_number Room = 12
refusal_number Layout = 13
refusal_number Zone = 15
refusal_number NotCovered = 18

abbrev pub refusal_segment : Refusal → ℕ
refusal_segment LeapTable = 0
refusal_segment Shape = 0
refusal_segment (Coefficient k) = k
refusal_segment (TooSlow k) = k
refusal_segment (Joint k) = k
refusal_segment Outside = 0
refusal_segment TooEarly = 0
refusal_segment NoSui = 0
refusal_segment MonthCount = 0
refusal_segment MonthLength = 0
refusal_segment Room = 0
refusal_segment Layout = 0
refusal_segment Zone = 0
refusal_segment NotCovered = 0

-- what a refusal and an answer say on paper
abbrev pub refusal : {A : Type 0} → Refusal → Verdict A
refusal r = refused (refusal_number r) (refusal_segment r)

abbrev pub paper : {A : Type 0} → Result A Refusal → Verdict A
paper (Ok a) = answered a
paper (Err r) = refusal r

-- ---- the paper tells answers apart
pub answers_apart : {A : Type 0} {a b : A} → answered a ≡ answered b → a ≡ b
answers_apart e = cc

-- the refusal of a number and a segment
abbrev refusal_by : ℕ → ℕ → Refusal
refusal_by n k =
    if eqb n 1 then LeapTable else if eqb n 2 then Shape else if eqb n 3 then Coefficient k else if eqb n 4 then TooSlow k else if eqb n 5 then Joint k
    else if eqb n 6 then Outside else if eqb n 7 then TooEarly else if eqb n 8 then NoSui else if eqb n 9 then MonthCount else if eqb n 10 then MonthLength
    else if eqb n 12 then Room else if eqb n 13 then Layout else if eqb n 15 then Zone else NotCovered

is_by_its_number : (r : Refusal) → refusal_by (refusal_number r) (refusal_segment r) ≡ r
is_by_its_number LeapTable = refl
is_by_its_number Shape = refl
is_by_its_number (Coefficient k) = refl
is_by_its_number (TooSlow k) = refl
is_by_its_number (Joint k) = refl
is_by_its_number Outside = refl
is_by_its_number TooEarly = refl
is_by_its_number NoSui = refl
is_by_its_number MonthCount = refl
is_by_its_number MonthLength = refl
is_by_its_number Room = refl
is_by_its_number Layout = refl
is_by_its_number Zone = refl
is_by_its_number NotCovered = refl

pub refusals_apart : {A : Type 0} (r s : Refusal) → refusal {A = A} r ≡ refusal {A = A} s → r ≡ s
refusals_apart {A} r s e = sym (is_by_its_number r) ∙ ap (λ (n : ℕ). refusal_by n (refusal_segment r)) number_same ∙ ap (refusal_by (refusal_number s)) segment_same ∙ is_by_its_number s
  where
    number_same : refusal_number r ≡ refusal_number s
    number_same = cc

    segment_same : refusal_segment r ≡ refusal_segment s
    segment_same = cc

-- an answer is no refusal
pub answer_or_refusal : {A : Type 0} {X : Type 0} {a : A} {number segment : ℕ} → answered a ≡ refused number segment → X
answer_or_refusal e = let z : ◌≡◌ {A = ℕ} 0 1 = cc in absurd (omega arith)

pub results_apart : {A : Type 0} → OneToOne (paper {A = A})
results_apart (Ok a) (Ok b) e = ap Ok (answers_apart e)
results_apart (Ok a) (Err s) e = answer_or_refusal e
results_apart (Err r) (Ok b) e = answer_or_refusal (sym e)
results_apart (Err r) (Err s) e = ap Err (refusals_apart r s e)

pub checks_apart : OneToOne (paper {A = Unit {0}})
checks_apart = results_apart

-- ---- what is accepted was refused by none
pub before_accepted : (u v : Verdict (Unit {0})) → u before v ≡ accepted → (u ≡ accepted) × (v ≡ accepted)
before_accepted (answered tt) v e = (refl, e)
before_accepted (refused number segment) v e = let z : ◌≡◌ {A = ℕ} 0 1 = cc in absurd (omega arith)

-- and an answer that stands behind a judge is that answer
pub answered_says : {A : Type 0} {a b : A} (u : Verdict (Unit {0})) → u before answered a ≡ answered b → (u ≡ accepted) × (a ≡ b)
answered_says (answered tt) e = (refl, answers_apart e)
answered_says (refused number segment) e = answer_or_refusal (sym e)

-- what answers behind a judge tells that the judge accepts
pub before_answered : {A : Type 0} (u : Verdict (Unit {0})) (v : Verdict A) {a : A} → u before v ≡ answered a → (u ≡ accepted) × (v ≡ answered a)
before_answered (answered tt) v e = (refl, e)
before_answered (refused number segment) v e = answer_or_refusal (sym e)

pub both_accepted : (u v : Verdict (Unit {0})) → u ≡ accepted → v ≡ accepted → u before v ≡ accepted
both_accepted u v p q = rw p q

pub refuse_when_accepted : (test : Bool) (number : ℕ) → refuse_when test number ≡ accepted → test ≡ false
refuse_when_accepted true number e = let z : ◌≡◌ {A = ℕ} 0 1 = cc in absurd (omega arith)
refuse_when_accepted false number e = refl

pub accepted_when : (test : Bool) (number : ℕ) → test ≡ false → refuse_when test number ≡ accepted
accepted_when test number e = rw e

-- ---- a result in a chain: the chain is refused with it, or goes on behind it
pub refused_first : {A B : Type 0} {q : Result B Refusal} {r : Refusal} {u : Verdict B} (v : Verdict A) → paper q ≡ u → q ≡ Err r → refusal r ≡ u before v
refused_first v p e = rw (← p, e)

pub accepted_first : {A B : Type 0} {q : Result B Refusal} {b : B} {u : Verdict B} (v : Verdict A) → paper q ≡ u → q ≡ Ok b → v ≡ u before v
accepted_first v p e = rw (← p, e)

pub answered_is : {A : Type 0} {q : Result A Refusal} {a : A} {u : Verdict A} → paper q ≡ u → q ≡ Ok a → u ≡ answered a
answered_is p e = rw (← p, e)

pub refused_is : {A : Type 0} {q : Result A Refusal} {r : Refusal} {u : Verdict A} → paper q ≡ u → q ≡ Err r → u ≡ refusal r
refused_is p e = rw (← p, e)

pub accepted_is : {q : Result (Unit {0}) Refusal} {u : Verdict (Unit {0})} {a : Unit {0}} → paper q ≡ u → q ≡ Ok a → u ≡ accepted
accepted_is p e = answered_is p e

-- what a `?` returns says what the refusal says that it was given
pub passed_on : {A : Type 0} (out : Result A Refusal) (r : Refusal) {v : Verdict A} → IsErrAnd out (λ (e : Refusal). e ≡ r) → refusal r ≡ v → paper out ≡ v
passed_on out r e q = let p = err_from_is_err_and out e in rw (p.1, p.2) q

-- ---- the same for a test in a chain
pub test_refuses : {A : Type 0} {test : Bool} (number : ℕ) (v : Verdict A) → test ≡ true → refused number 0 ≡ refuse_when test number before v
test_refuses number v e = rw e

pub test_passes : {A : Type 0} {test : Bool} (number : ℕ) (v : Verdict A) → test ≡ false → v ≡ refuse_when test number before v
test_passes number v e = rw e

-- ---- and for an answer that goes on
pub refused_then : {A B : Type 0} {u : Verdict A} {number segment : ℕ} (f : A → Verdict B) → refused number segment ≡ u → refused number segment ≡ u then f
refused_then f e = rw (← e)

pub answered_then : {A B : Type 0} {u : Verdict A} {a : A} (f : A → Verdict B) → answered a ≡ u → f a ≡ u then f
answered_then f e = rw (← e)

-- ---- what an answer tells of the chain that gave it
pub test_answered : {A : Type 0} (test : Bool) (number : ℕ) (v : Verdict A) (a : A) → refuse_when test number before v ≡ answered a → (test ≡ false) × (v ≡ answered a)
test_answered true number v a e = let z : ◌≡◌ {A = ℕ} 0 1 = cc in absurd (omega arith)
test_answered false number v a e = (refl, e)

pub then_answered : {A B : Type 0} (u : Verdict A) (f : A → Verdict B) (b : B) → u then f ≡ answered b → (a : A) × (u ≡ answered a) × (f a ≡ answered b)
then_answered (answered a) f b e = (a, refl, e)
then_answered (refused number segment) f b e = let z : ◌≡◌ {A = ℕ} 0 1 = cc in absurd (omega arith)
