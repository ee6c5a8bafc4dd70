-- `showing::show` meets its contract. Assumes nothing.
use borrow.Author.Rules.{rules}
use lib.ListN.{length}
use mathlib.Core.Path.{sym, ap, ◌∙◌}
use native.Mathlib.Omega.{arith}
use Rattle.refusals.specs.Verdict.{answered_is, refused_is, passed_on}
use Rattle.showing.specs.Shown.{text_of}
use Rattle.showing.specs.theory.Reading.{Shows, shows, refused_read, not_shown, is_shown_lem}
use Rattle.showing.proofs.show.Goals as goal
use Rattle.showing.proofs.show.Goals.{In_ok-n}

-- what is known of the file once its counts are told
known : (told : In_ok-n) → Shows told.args.file.now told.in_ok-n.n told.read_file.new.months
known told =
    let file = told.args.file.now in
    shows file told.entry_words-leap.ensures told.sui_words-suis.ensures told.month_words-words.ensures _ _ _ (sym (answered_is told.read_file.ensures.result_value told.in_ok-n.was)) told.read_file.ensures.months_after

pub overflow_mul-words : goal.overflow_mul-words
overflow_mul-words c =
    let few = (known (goal.at.overflow_mul-words c).In_ok-n).few_months in
    search rules

pub slice_bounds-words-end : goal.slice_bounds-words-end
slice_bounds-words-end c =
    omega (arith, (known (goal.at.slice_bounds-words-end c).In_ok-n).few_months)

pub slice_bounds-show_months-end : goal.slice_bounds-show_months-end
slice_bounds-show_months-end c =
    let k = known (goal.at.slice_bounds-show_months-end c).In_ok-n in
    sym (ap length k.months_read ∙ k.size)

pub show_months-requires : goal.show_months-requires
show_months-requires c =
    let k = known (goal.at.show_months-requires c).In_ok-n in
    rw k.months_read (record { dated = k.first_days; months_len_bound = omega (arith, k.size, k.few_months) })

pub returns-in_err-n : goal.returns-in_err-n
returns-in_err-n c =
    let a = c.args in
    let promised = not_shown a.file.now a.out.now (refused_read a.file.now c.entry_words-leap.ensures c.sui_words-suis.ensures c.month_words-words.ensures (sym (refused_is c.read_file.ensures.result_value c.in_err-n.was))) in
    record { result_value = passed_on c.from_residual.result c.in_err-n.field-0.0 c.from_residual.ensures.1 promised.0; out_after = promised.1 }

pub returns : goal.returns
unfolding text_of
returns c =
    let k = known (goal.at.returns c).In_ok-n in
    let a = c.args in
    let put = rw k.months_read at c.show_months.ensures in
    let shown = is_shown_lem a.file.now a.out.now k.content k.is (put.result_value, put.out_after) in
    record { result_value = shown.0; out_after = shown.1 }
