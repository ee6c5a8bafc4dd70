-- `exports::lunar::store` meets its contract. Assumes nothing.
use Rattle.refusals.specs.Verdict.{passed_on}
use Rattle.exports.specs.theory.Suis.{store_refused, store_short, store_all}
use Rattle.exports.proofs.lunar.store.Goals as goal

pub returns-in_err-sui-clause-value : goal.returns-in_err-sui-clause-value
returns-in_err-sui-clause-value c =
    passed_on c.from_residual.result c.in_err-sui.field-0.0 c.from_residual.ensures.1 (store_refused c.args.found c.args.out.now c.in_err-sui.field-0.0 c.in_err-sui.was).0

pub returns-in_err-sui-clause-out_after : goal.returns-in_err-sui-clause-out_after
returns-in_err-sui-clause-out_after c = (store_refused c.args.found c.args.out.now c.in_err-sui.field-0.0 c.in_err-sui.was).1

pub returns-then-out-sui-clause-value : goal.returns-then-out-sui-clause-value
returns-then-out-sui-clause-value c = (store_short c.args.found c.args.out.now c.in_ok-sui.sui c.in_ok-sui.was c.requires c.if-out-sui.true).0

pub returns-then-out-sui-clause-out_after : goal.returns-then-out-sui-clause-out_after
returns-then-out-sui-clause-out_after c = (store_short c.args.found c.args.out.now c.in_ok-sui.sui c.in_ok-sui.was c.requires c.if-out-sui.true).1

pub returns-clause-value : goal.returns-clause-value
returns-clause-value c = (store_all c.args.found c.args.out.now c.in_ok-sui.sui c.in_ok-sui.was c.requires c.if-out-sui.false c.put_months.ensures).0

pub returns-clause-out_after : goal.returns-clause-out_after
returns-clause-out_after c = (store_all c.args.found c.args.out.now c.in_ok-sui.sui c.in_ok-sui.was c.requires c.if-out-sui.false c.put_months.ensures).1
