-- `show_run::print_text` meets its contract: the text that was shown is in the room. Assumes nothing.
use Rattle.std.proofs.Common.{◌≡◌, ℕ, ◌≤◌, List, length, sym, arith, length-append, length-take-le}
use Rattle.refusals.specs.Lent.{written_into}
use Rattle.refusals.specs.Verdict.{Verdict, answered, refused, answers_apart, answer_or_refusal}
use Rattle.showing.specs.Answers.{text_shown, all_bytes, counted, shown}
use Rattle.show_run.proofs.print_text.Goals as goal

inside : (file room : List ℕ) {bytes : ℕ} {last : List ℕ} → answered bytes ≡ shown file (length room) → last ≡ written_into (text_shown file (length room)) all_bytes room → bytes ≤ length last
unfolding shown
inside file room {bytes} {last} = go (text_shown file (length room))
  where
    go : (v : Verdict (List ℕ)) → answered bytes ≡ counted v → last ≡ written_into v all_bytes room → bytes ≤ length last
    go (answered t) p q = rw (answers_apart p, q, length-append) (omega arith)
    go (refused number segment) p q = answer_or_refusal p

pub slice_bounds-out-end : goal.slice_bounds-out-end
slice_bounds-out-end g c = inside c.args.file.now c.text_room-out.result c.in-Ok.ensures.result_value c.in-Ok.ensures.out_after

pub slice_bounds-write_all-end : goal.slice_bounds-write_all-end
slice_bounds-write_all-end g c = sym (length-take-le _ _ (inside c.args.file.now c.text_room-out.result c.in-Ok.ensures.result_value c.in-Ok.ensures.out_after))
