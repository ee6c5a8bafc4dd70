-- `new_file::inner::write_both` meets its contract. In the needs, `start` is the function's entry. Assumes nothing.
use mathlib.Core.Path.{refl, sym, ap, ◌∙◌}
use mathlib.Core.List.{List, ◌++◌}
use Prim.Native.Nat.{ℕ, ◌≤◌}
use native.Mathlib.Omega.{arith}
use native.Mathlib.Nat.{zero-add}
use lib.ListN.{length, drop}
use Rattle.refusals.specs.Verdict.{passed_on, Verdict, paper}
use Rattle.content.specs.Content.{Content, content}
use Rattle.almanac.specs.Answers.{bytes_into}
use Rattle.new_file.specs.NewFile.{counted_refused, counted_answered, not_built, no_places, all_written}
use Rattle.new_file.proofs.inner.write_both.Goals as goal
use Rattle.new_file.proofs.inner.write_both.Goals.{Start}

abbrev content_of : Start → Content
content_of start = let a = start.args in content a.leap.now a.suis.now a.months.now

abbrev bytes_of : Start → Verdict (List ℕ)
bytes_of start = bytes_into (content_of start) (length start.args.file.now)

pub returns-then-years-n : goal.returns-then-years-n
returns-then-years-n c =
    let start = (goal.at.returns-then-years-n c).Start in
    let a = start.args in
    let all = no_places (content_of start) a.listed.now a.file.now a.years.now (omega (arith, c.if-years-n.true)) in
    record { result_value = all.0; file_after = all.1.0; years_after = all.1.1 }

pub returns-in_err-bytes : goal.returns-in_err-bytes
returns-in_err-bytes c =
    let start = (goal.at.returns-in_err-bytes c).Start in
    let a = start.args in
    let said = c.write_lawful.ensures in
    let none = counted_refused (bytes_of start) (sym (ap paper c.in_err-bytes.was) ∙ said.result_value) in
    let all = not_built (bytes_of start) a.listed.now a.file.now a.years.now none (rw none at said.file_after) refl in
    record { result_value = passed_on c.from_residual.result c.in_err-bytes.field-0.0 c.from_residual.ensures.1 all.0; file_after = all.1.0; years_after = all.1.1 }

pub returns : goal.returns
returns c =
    let start = (goal.at.returns c).Start in
    let a = start.args in
    let listed = a.listed.now in
    let said = c.write_lawful.ensures in
    let bytes = counted_answered (bytes_of start) (sym (ap paper c.in_ok-bytes.was) ∙ said.result_value) in
    let roomy : length listed ≤ length a.years.now = omega (arith, c.if-years-n.false) in
    let all = all_written (bytes_of start) listed a.file.now a.years.now roomy bytes.1.0 bytes.1.1 refl (rw bytes.1.0 at said.file_after) (c.put_words.ensures ∙ ap (λ (k : ℕ). listed ++ drop k a.years.now) (zero-add (length listed))) in
    record { result_value = all.0; file_after = all.1.0; years_after = all.1.1 }
