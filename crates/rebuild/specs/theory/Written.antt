-- What the fresh build gives, by the suis that were found. Assumes nothing.
use Rattle.std.specs.Prelude.{◌≡◌, List, ℕ, ℤ}
use Rattle.refusals.specs.Verdict.{refused, answered}
use Rattle.inputs.specs.Inputs.{Inputs}
use Rattle.months.specs.declared.Sui.{Sui}
use Rattle.content.specs.Content.{content}
use Rattle.almanac.specs.Answers.{bytes_into}
use Rattle.built.specs.Build.{suis_from, sui_words, month_words, bytes_of_years, bytes_by, content_by}

pub fresh_refused : (i : Inputs) (zone first : ℤ) (n room : ℕ) {number segment : ℕ} → suis_from i zone first n ≡ refused number segment → bytes_of_years i zone first n room ≡ refused number segment
unfolding bytes_by content_by
fresh_refused i zone first n room e = rw e

pub fresh_bytes_lem : (i : Inputs) (zone first : ℤ) (n room : ℕ) {suis : List Sui} → suis_from i zone first n ≡ answered suis → {s m : List ℤ} → s ≡ sui_words first suis → m ≡ month_words suis → bytes_of_years i zone first n room ≡ bytes_into (content i.leap s m) room
unfolding bytes_by content_by
fresh_bytes_lem i zone first n room e p q = rw (e, ← p, ← q)
