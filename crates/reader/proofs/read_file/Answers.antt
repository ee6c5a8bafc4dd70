-- `reader::read_file` meets its contract. Assumes nothing.
use mathlib.Core.Path.{sym, ◌∙◌}
use native.Mathlib.Omega.{arith}
use Rattle.refusals.specs.Verdict.{answered_is, refused_is, passed_on}
use Rattle.almanac.proofs.theory.Reader.{checked, file_refused, no_room, all_read, room_is}
use Rattle.reader.proofs.read_file.Goals as goal

pub too_short-requires : goal.too_short-requires
too_short-requires c =
    let k = checked _ _ (sym (answered_is c.check_file.ensures c.in_ok-n.was)) in
    (k.entries_few, (k.suis_few, k.months_few))

pub returns-then-too_short : goal.returns-then-too_short
returns-then-too_short c =
    let a = c.args in
    let k = checked _ _ (sym (answered_is c.check_file.ensures c.in_ok-n.was)) in
    let promised = no_room a.file.now a.leap.now a.suis.now a.months.now _ k (sym c.too_short.ensures ∙ c.if-too_short.true) in
    record { result_value = promised.0; leap_after = promised.1.0; suis_after = promised.1.1.0; months_after = promised.1.1.1 }

pub read_all-requires : goal.read_all-requires
read_all-requires c =
    let a = c.args in
    let k = checked _ _ (sym (answered_is c.check_file.ensures c.in_ok-n.was)) in
    (let room = room_is _ _ _ _ (sym c.too_short.ensures ∙ c.if-too_short.false) in record { months_in_bounds = omega (arith, k.ends); entries_in_bounds = room.0; suis_in_bounds = room.1.0; months_in_bounds_2 = room.1.1 })

pub returns-in_err-n : goal.returns-in_err-n
returns-in_err-n c =
    let a = c.args in
    let promised = file_refused a.file.now a.leap.now a.suis.now a.months.now _ _ (sym (refused_is c.check_file.ensures c.in_err-n.was)) in
    record { result_value = passed_on c.from_residual.result c.in_err-n.field-0.0 c.from_residual.ensures.1 promised.0; leap_after = promised.1.0; suis_after = promised.1.1.0; months_after = promised.1.1.1 }

pub returns : goal.returns
returns c =
    let a = c.args in
    let k = checked _ _ (sym (answered_is c.check_file.ensures c.in_ok-n.was)) in
    let promised = all_read a.file.now a.leap.now a.suis.now a.months.now _ k (sym c.too_short.ensures ∙ c.if-too_short.false) in
    let held = c.read_all.ensures in record { result_value = promised.0; leap_after = held.leap_after ∙ promised.1.0; suis_after = held.suis_after ∙ promised.1.1.0; months_after = held.months_after ∙ promised.1.1.1 }
