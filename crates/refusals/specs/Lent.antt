-- What a lent place holds after an entry point has ended: the words of the answer at the front, and everything behind them as before; after a refusal, what it held.
-- Assumes nothing: these are definitions.
use Rattle.std.specs.Prelude.{◌≡◌, List, ◌++◌, ℕ, length, drop}
use Rattle.refusals.specs.Verdict.{Verdict, answered, refused}

abbrev pub written_into : {A B : Type 0} → Verdict A → (A → List B) → List B → List B
written_into (answered a) words out = words a ++ drop (length (words a)) out
written_into (refused number segment) words out = out

pub nothing_written : {A B : Type 0} {v : Verdict A} (number segment : ℕ) (words : A → List B) (out : List B) → v ≡ refused number segment → out ≡ written_into v words out
nothing_written number segment words out e = rw e
