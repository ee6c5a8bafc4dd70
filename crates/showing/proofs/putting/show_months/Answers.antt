-- `showing::putting::show_months` meets its contract. Assumes nothing.
use Prim.Native.Nat.{◌/◌}
use lib.ListN.{length}
use Rattle.showing.specs.theory.Putting.{no_room, text_put, all_put}
use Rattle.showing.proofs.putting.show_months.Goals as goal

pub returns-then-out-bytes : goal.returns-then-out-bytes
returns-then-out-bytes c =
    let a = c.args in record { result_value = (no_room a.months.now a.out.now (length a.months.now / 3) c.if-out-bytes.true).0; out_after = (no_room a.months.now a.out.now (length a.months.now / 3) c.if-out-bytes.true).1 }

pub returns : goal.returns
returns c =
    let a = c.args in
    let n = length a.months.now / 3 in record { result_value = (all_put a.months.now a.out.now n c.if-out-bytes.false (text_put a.months.now a.out.now n _ c.if-out-bytes.false c.put.ensures c.header_bytes-header.ensures c.put_lines.ensures)).0; out_after = (all_put a.months.now a.out.now n c.if-out-bytes.false (text_put a.months.now a.out.now n _ c.if-out-bytes.false c.put.ensures c.header_bytes-header.ensures c.put_lines.ensures)).1 }
