-- `reader::layout::counts_of` meets its contract. Assumes nothing.
use Rattle.almanac.specs.theory.Counting.{no_entry_count, no_sui_count, no_month_count, not_at_end, all_counted}
use Rattle.reader.proofs.layout.counts_of.Goals as goal

pub returns-then-end-lt4 : goal.returns-then-end-lt4
returns-then-end-lt4 c = no_entry_count c.args.file.now c.if-end-lt4.true

pub returns-then-end-second : goal.returns-then-end-second
returns-then-end-second c =
    no_sui_count c.args.file.now c.if-end-lt4.false c.count_at-entries.result c.count_at-entries.ensures.0 c.if-end-second.true

pub returns-then-end-third : goal.returns-then-end-third
returns-then-end-third c =
    no_month_count c.args.file.now c.if-end-lt4.false c.count_at-entries.result c.count_at-entries.ensures.0 c.if-end-second.false c.count_at-suis.result c.count_at-suis.ensures.0 c.if-end-third.true

pub returns-then-end-third-2 : goal.returns-then-end-third-2
returns-then-end-third-2 c =
    not_at_end c.args.file.now c.if-end-lt4.false c.count_at-entries.result c.count_at-entries.ensures.0 c.if-end-second.false c.count_at-suis.result c.count_at-suis.ensures.0 c.if-end-third.false c.count_at-months.result c.count_at-months.ensures.0 c.if-end-third-2.true

pub returns : goal.returns
returns c =
    all_counted c.args.file.now c.if-end-lt4.false c.count_at-entries.result c.count_at-entries.ensures.0 c.if-end-second.false c.count_at-suis.result c.count_at-suis.ensures.0 c.if-end-third.false c.count_at-months.result c.count_at-months.ensures.0 c.if-end-third-2.false
