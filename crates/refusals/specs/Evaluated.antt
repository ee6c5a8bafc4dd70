-- Tests of verdicts, for worked examples that are evaluated inside a proof. Assumes nothing.
use Rattle.std.specs.Prelude.{Bool, true, false, ◌&&◌, ℕ, eqb}
use Rattle.refusals.specs.Verdict.{Verdict, answered, refused}

abbrev pub is_accepted : {A : Type 0} → Verdict A → Bool
is_accepted (answered a) = true
is_accepted (refused number segment) = false

-- refused by this number, at this segment
abbrev pub is_refused_at : {A : Type 0} → Verdict A → ℕ → ℕ → Bool
is_refused_at (answered a) n k = false
is_refused_at (refused number segment) n k = eqb number n && eqb segment k

abbrev pub is_refused : {A : Type 0} → Verdict A → ℕ → Bool
is_refused v n = is_refused_at v n 0
