-- The numbers that an answer and a refusal carry fit a signed word, and a refusal's number is one of the rules' table, 1 to 10, 12, 13, 15 or 18: what the functions that
-- make a record ask, and how it is shown of a chain of refusals. (`theory` shows it of each entry point.) Assumes nothing but what a statement says itself.
use Rattle.std.specs.Prelude.{◌≡◌, refl, Bool, true, false, not, ◌&&◌, ℕ, ◌+◌, ◌^◌, ◌<◌, T, eqb, ltb, leb}
use Rattle.std.proofs.Common.{arith}
use Rattle.refusals.specs.Verdict.{Verdict, answered, refused, refuse_when, ◌before◌, ◌then◌}
use Rattle.clock.specs.declared.ShownTime.{ShownTime}
use Rattle.months.specs.declared.Sui.{Sui}
use Rattle.served.specs.declared.Served.{Served}
use Rattle.almanac.specs.declared.Counts.{Counts}
use Rattle.rebuilt.specs.declared.Rebuilt.{Rebuilt}

-- the segment of a refusal, and the size of an answer
abbrev pub Small : {A : Type 0} → (A → ℕ) → Verdict A → Type 0
Small size (answered a) = size a < 2 ^ 63
Small size (refused number segment) = segment < 2 ^ 63

-- 1 to 18, but for 11, which is withdrawn, and 14, 16 and 17, which nothing here is refused by
abbrev pub in_table : ℕ → Bool
in_table number = (ltb 0 number && leb number 18) && ((not (eqb number 11) && not (eqb number 14)) && (not (eqb number 16) && not (eqb number 17)))

abbrev pub Numbered : {A : Type 0} → Verdict A → Type 0
Numbered (answered a) = Unit {0}
Numbered (refused number segment) = T (in_table number)

pub record Fits {A : Type 0} (size : A → ℕ) (v : Verdict A) : Type 0 where
  pub small : Small size v
  pub numbered : Numbered v

-- an answer that has no count
abbrev pub none : {A : Type 0} → A → ℕ
none a = 0

-- an answer that is a count
abbrev pub itself : ℕ → ℕ
itself n = n

-- the counts of a shown time
abbrev pub shown_size : ShownTime → ℕ
shown_size t = t.hour + (t.minute + (t.second + t.millisecond))

-- of a sui
abbrev pub sui_size : Sui → ℕ
sui_size sui = sui.count

-- of a file
abbrev pub file_size : Counts → ℕ
file_size n = n.entries + (n.suis + n.months)

-- of two series: the segment that serves
abbrev pub served_size : Served → ℕ
served_size g = g.segment

-- of a rebuild
abbrev pub rebuilt_size : Rebuilt → ℕ
rebuilt_size n = n.bytes + n.years

-- ---- in a chain
pub answer : {A : Type 0} {size : A → ℕ} {a : A} → size a < 2 ^ 63 → Fits size (answered a)
answer h = record { small = h; numbered = tt }

pub test : (bad : Bool) (number : ℕ) → T (in_table number) → Fits none (refuse_when bad number)
test true number h = record { small = omega arith; numbered = h }
test false number h = record { small = omega arith; numbered = tt }

infixr 5 ◌and◌
pub ◌and◌ : {A B : Type 0} {size : B → ℕ} {u : Verdict A} {v : Verdict B} → Fits none u → Fits size v → Fits size (u before v)
◌and◌ {u = answered a} h k = k
◌and◌ {u = refused number segment} h k = record { small = h.small; numbered = h.numbered }

pub and_then : {A B : Type 0} {size : B → ℕ} {u : Verdict A} {f : A → Verdict B} → Fits none u → ((a : A) → Fits size (f a)) → Fits size (u then f)
and_then {u = answered a} h k = k a
and_then {u = refused number segment} h k = record { small = h.small; numbered = h.numbered }

-- and what is known of the answer alone
pub with_answer : {A : Type 0} {size : A → ℕ} {v : Verdict A} → Fits none v → ((a : A) → v ≡ answered a → size a < 2 ^ 63) → Fits size v
with_answer {v = answered a} h k = record { small = k a refl; numbered = tt }
with_answer {v = refused number segment} h k = record { small = h.small; numbered = h.numbered }
