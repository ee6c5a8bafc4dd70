-- `records::store` meets its contract: a refusal is passed on, or 12, or the records are copied. Assumes nothing.
use Rattle.std.proofs.Common.{◌≡◌, ℕ, true, false, List, ◌++◌, length, take, drop, ap, ◌∙◌, lt-ltb, le-ltb}
use lib.Dec.{ltb}
use Rattle.refusals.specs.Verdict.{answered, passed_on}
use Rattle.records.specs.Records.{records_of, records_into}
use Rattle.records.proofs.Stored.{records_are}
use Rattle.records.proofs.store.Goals as goal

pub returns-in_err-sui-clause-result_value : goal.returns-in_err-sui-clause-result_value
unfolding records_into
returns-in_err-sui-clause-result_value c =
    passed_on c.from_residual.result c.in_err-sui.field-0.0 c.from_residual.ensures.1 (rw c.in_err-sui.was)

pub returns-in_err-sui-clause-out_after : goal.returns-in_err-sui-clause-out_after
unfolding records_into
returns-in_err-sui-clause-out_after c = rw c.in_err-sui.was

pub returns-then-out-count-clause-result_value : goal.returns-then-out-count-clause-result_value
unfolding records_into
returns-then-out-count-clause-result_value c =
    let short : ltb (length c.args.out.now) (length (records_of c.in_ok-sui.sui)) ≡ true = rw (← c.record_count-count.ensures) (lt-ltb _ _ c.if-out-count.true) in
    rw (c.in_ok-sui.was, short)

pub returns-then-out-count-clause-out_after : goal.returns-then-out-count-clause-out_after
unfolding records_into
returns-then-out-count-clause-out_after c =
    let short : ltb (length c.args.out.now) (length (records_of c.in_ok-sui.sui)) ≡ true = rw (← c.record_count-count.ensures) (lt-ltb _ _ c.if-out-count.true) in
    rw (c.in_ok-sui.was, short)

pub returns-clause-result_value : goal.returns-clause-result_value
unfolding records_into
returns-clause-result_value c =
    let fits : ltb (length c.args.out.now) (length (records_of c.in_ok-sui.sui)) ≡ false = rw (← c.record_count-count.ensures) (le-ltb _ _ c.if-out-count.false) in
    rw (c.in_ok-sui.was, fits) (ap answered c.record_count-count.ensures)

pub returns-clause-out_after : goal.returns-clause-out_after
unfolding records_into
returns-clause-out_after c =
    let fits : ltb (length c.args.out.now) (length (records_of c.in_ok-sui.sui)) ≡ false = rw (← c.record_count-count.ensures) (le-ltb _ _ c.if-out-count.false) in
    let copied = c.copy_from_slice.ensures.after ∙ ap (λ (n : ℕ). take n c.in_ok-sui.sui.months) c.record_count-count.ensures ∙ records_are c.in_ok-sui.sui in
    rw (c.in_ok-sui.was, fits, copied) (ap (λ (n : ℕ). records_of c.in_ok-sui.sui ++ drop n c.args.out.now) c.record_count-count.ensures)
