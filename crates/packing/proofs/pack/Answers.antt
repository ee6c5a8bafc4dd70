-- `packing::pack` meets its contract. Assumes nothing.
use Rattle.std.specs.Prelude.{◌≡◌, ℕ, Result, Err, IsErrAnd}
use Rattle.std.proofs.Common.{sym, ap, ◌∙◌, arith}
use Rattle.std.proofs.lemmas.Result.{err_from_is_err_and}
use Rattle.packing.specs.declared.BadWord.{BadWord}
use Rattle.packing.specs.declared.PackError.{PackError}
use Rattle.packing.specs.declared.PackError.TheVariants as error
use Rattle.packing.specs.Packing.{scan, start}
use Rattle.packing.specs.theory.Packed.{Counted, words_counted, not_packed, no_room, size, fits, all_packed}
use Rattle.packing.proofs.pack.Goals as goal
use Rattle.packing.proofs.pack.Goals.{In_ok-n}

-- what is known of the text once its words are counted
counted : (c : In_ok-n) → Counted (scan start c.args.text.now) c.in_ok-n.n
counted c = words_counted (scan start c.args.text.now) _ (sym c.in_ok-n.was ∙ c.judge.ensures)

-- what the `?` returns
passed_on : (out : Result ℕ PackError) (at : BadWord) → IsErrAnd out (λ (e : PackError). e ≡ error.BadWord at) → out ≡ Err (error.BadWord at)
passed_on out at e = let p = err_from_is_err_and out e in p.1 ∙ ap Err p.2

pub returns-then-out-n-clause-value : goal.returns-then-out-n-clause-value
returns-then-out-n-clause-value c =
    let a = c.args in
    (no_room a.text.now a.out.now _ (counted (goal.at.returns-then-out-n-clause-value c).In_ok-n) c.if-out-n.true).0

pub returns-then-out-n-clause-out_after : goal.returns-then-out-n-clause-out_after
returns-then-out-n-clause-out_after c =
    let a = c.args in
    (no_room a.text.now a.out.now _ (counted (goal.at.returns-then-out-n-clause-out_after c).In_ok-n) c.if-out-n.true).1

pub fill-requires-clause-text_value : goal.fill-requires-clause-text_value
fill-requires-clause-text_value c = (counted (goal.at.fill-requires-clause-text_value c).In_ok-n).good

pub fill-requires-clause-text_in_bounds : goal.fill-requires-clause-text_in_bounds
fill-requires-clause-text_in_bounds c =
    let a = c.args in
    let k = counted (goal.at.fill-requires-clause-text_in_bounds c).In_ok-n in
    omega (arith, size a.text.now a.out.now _ k, fits a.text.now a.out.now _ k c.if-out-n.false)

pub returns-in_err-n-clause-value : goal.returns-in_err-n-clause-value
returns-in_err-n-clause-value c =
    let at = c.in_err-n.field-0.0 in
    passed_on c.from_residual.result at c.from_residual.ensures.1 ∙ (not_packed c.args.text.now c.args.out.now at (sym c.in_err-n.was ∙ c.judge.ensures)).0

pub returns-in_err-n-clause-out_after : goal.returns-in_err-n-clause-out_after
returns-in_err-n-clause-out_after c =
    (not_packed c.args.text.now c.args.out.now c.in_err-n.field-0.0 (sym c.in_err-n.was ∙ c.judge.ensures)).1

pub returns-clause-value : goal.returns-clause-value
returns-clause-value c =
    let a = c.args in
    (all_packed a.text.now a.out.now _ (counted (goal.at.returns-clause-value c).In_ok-n) c.if-out-n.false c.fill.ensures).0

pub returns-clause-out_after : goal.returns-clause-out_after
returns-clause-out_after c =
    let a = c.args in
    (all_packed a.text.now a.out.now _ (counted (goal.at.returns-clause-out_after c).In_ok-n) c.if-out-n.false c.fill.ensures).1
