-- `packing::passes::fill` meets its contract. Assumes nothing.
use Rattle.std.proofs.Common.{◌≡◌, ◌+◌, [], length, get_or, drop, arith, rules}
use Rattle.packing.specs.Packing.{numbers, scan}
use Rattle.packing.specs.Reading.{step}
use Rattle.packing.specs.theory.Filling.{has_room, fill_turn, fill_end}
use Rattle.packing.specs.theory.Judging.{read_next, scan_next, scan_end}
use Rattle.packing.proofs.passes.fill.Goals as goal

pub put_ended-end-requires : goal.put_ended-end-requires
put_ended-end-requires c =
    let text = c.args.text.now in
    let s = c.loop-byte.state in
    let i = c.loop-byte.byte-index in
    has_room c.loop-byte.end s (scan (step s (get_or text i 0)) (drop (i + 1) text)) c.loop-byte.out _ (scan_next text s i c.loop-byte-test.true) c.ended_by-ended.ensures c.loop-byte.invariant.filled

pub loop-byte-preserved : goal.loop-byte-preserved
loop-byte-preserved c =
    let text = c.args.text.now in
    let s = c.loop-byte.state in
    let i = c.loop-byte.byte-index in
    let put = c.put_ended-end in
    let size : length put.new.out ≡ length c.loop-byte.out = search rules in
    record {
      read = read_next text s i (get_or text i 0) c.loop-byte-test.true c.loop-byte.invariant.read c.step-state.ensures;
      filled = rw c.step-state.ensures (fill_turn c.loop-byte.end s (scan (step s (get_or text i 0)) (drop (i + 1) text)) c.loop-byte.out _ (scan_next text s i c.loop-byte-test.true) c.ended_by-ended.ensures c.loop-byte.invariant.filled size put.ensures.value put.ensures.out_after);
    }

pub put_ended-requires : goal.put_ended-requires
put_ended-requires c =
    let text = c.args.text.now in
    let i = c.loop-byte.byte-index in
    let all : i ≡ length text = omega (arith, c.loop-byte-test.false, c.loop-byte.invariant.read.inside) in
    has_room c.loop-byte.end c.loop-byte.state (numbers []) c.loop-byte.out _ (scan_end text c.loop-byte.state i all) c.end_of-last.ensures c.loop-byte.invariant.filled

pub returns : goal.returns
returns c =
    let text = c.args.text.now in
    let i = c.loop-byte.byte-index in
    let put = c.put_ended in
    let all : i ≡ length text = omega (arith, c.loop-byte-test.false, c.loop-byte.invariant.read.inside) in
    let size : length put.new.out ≡ length c.loop-byte.out = search rules in
    fill_end (fill_turn c.loop-byte.end c.loop-byte.state (numbers []) c.loop-byte.out _ (scan_end text c.loop-byte.state i all) c.end_of-last.ensures c.loop-byte.invariant.filled size put.ensures.value put.ensures.out_after)
