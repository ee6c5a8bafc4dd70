-- `walk::list_marks` meets its contract: each return is one of the three theorems on what a listing answers and leaves. Assumes nothing.
use mathlib.Core.Path.{sym, ap, ◌∙◌}
use Prim.Native.Nat.{◌*◌, ◌≤◌}
use native.Mathlib.Omega.{arith}
use lib.ListN.{length}
use Rattle.refusals.specs.Verdict.{answered, accepted_is, refused_is, passed_on}
use Rattle.series.specs.Series.{Series, series}
use Rattle.series.specs.Acceptance.{Accepted, series_judged}
use Rattle.marks.specs.Listed.{listed_marks}
use Rattle.marks.proofs.Theorems.{accepted_is_listed, without_room_is_12, refused_is_not_listed}
use Rattle.walk.proofs.list_marks.Goals as goal
use Rattle.walk.proofs.list_marks.Goals.{Else-out-marks, In_ok-accept, Start}

abbrev series-of : Start → Series
series-of start = series start.args.body start.args.start.0 start.args.coefs.now

at_accepted : (c : In_ok-accept) → Accepted (series c.args.body c.args.start.0 c.args.coefs.now)
at_accepted c = accepted_is c.accept.ensures c.in_ok-accept.was

-- there is room for as many marks as were counted
at_room : (c : Else-out-marks) → (2 * length (listed_marks (series c.args.body c.args.start.0 c.args.coefs.now)) ≤ length c.args.out.now)
at_room c =
    let marks = c.count-marks.ensures in
    let enough = c.if-out-marks.false in
    omega arith

pub returns-in_err-accept : goal.returns-in_err-accept
returns-in_err-accept c =
    let s = series c.args.body c.args.start.0 c.args.coefs.now in
    let refused = refused_is {u = series_judged s} c.accept.ensures c.in_err-accept.was in
    let said = refused_is_not_listed s _ _ c.args.out.now refused in
    record { result_value = passed_on c.from_residual.result c.in_err-accept.field-0.0 c.from_residual.ensures.1 (sym said.0); out_after = sym said.1 }

pub count-marks-requires : goal.count-marks-requires
count-marks-requires c = at_accepted c

pub returns-then-out-marks : goal.returns-then-out-marks
returns-then-out-marks c =
    let marks = c.count-marks.ensures in
    let short = c.if-out-marks.true in
    let said = without_room_is_12 (series c.args.body c.args.start.0 c.args.coefs.now) (at_accepted c.before.before) c.args.out.now (omega arith) in record { result_value = sym said.0; out_after = sym said.1 }

pub write-requires : goal.write-requires
write-requires c = record { accepted = at_accepted c.before.before.before; coefs_in_bounds = at_room c.before }

pub returns : goal.returns
returns c =
    let said = accepted_is_listed (series c.args.body c.args.start.0 c.args.coefs.now) (at_accepted c.before.before.before.before.before) c.args.out.now (at_room c.before.before.before) in record { result_value = ap answered c.count-marks.ensures ∙ sym said.0; out_after = c.write.ensures ∙ sym said.1 }
