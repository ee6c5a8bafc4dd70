-- `packing::passes::judge` meets its contract. Assumes nothing.
use Rattle.std.specs.Prelude.{Ok}
use Rattle.std.proofs.Common.{◌≡◌, ◌+◌, [], length, get_or, drop, sym, ap, ◌∙◌, arith}
use Rattle.packing.specs.Packing.{numbers, scan}
use Rattle.packing.specs.Passes.{judged}
use Rattle.packing.specs.Reading.{step}
use Rattle.packing.specs.declared.reading.State.{State}
use Rattle.packing.specs.theory.Judging.{read_next, scan_next, scan_end, count_turn, bad_turn}
use Rattle.packing.proofs.passes.judge.Goals as goal

pub returns-then-is_bad : goal.returns-then-is_bad
returns-then-is_bad c =
    let text = c.args.text.now in
    let s = c.loop-byte.state in
    let i = c.loop-byte.byte-index in
    bad_turn s (scan (step s (get_or text i 0)) (drop (i + 1) text)) c.loop-byte.words (scan_next text s i c.loop-byte-test.true) c.loop-byte.invariant.rest c.ended_by-ended.ensures (sym c.is_bad.ensures ∙ c.if-is_bad.true)

pub loop-byte-preserved : goal.loop-byte-preserved
loop-byte-preserved c =
    let text = c.args.text.now in
    let s = c.loop-byte.state in
    let i = c.loop-byte.byte-index in
    record {
      read = read_next text s i (get_or text i 0) c.loop-byte-test.true c.loop-byte.invariant.read c.step-state.ensures;
      few = omega (arith, c.count-words.ensures.1, c.loop-byte.invariant.few);
      rest =
          ap (λ (x : State). judged (c.loop-byte.words + c.count-words.result) (scan x (drop (i + 1) text))) c.step-state.ensures
          ∙ count_turn s (scan (step s (get_or text i 0)) (drop (i + 1) text)) c.loop-byte.words c.count-words.result (scan_next text s i c.loop-byte-test.true) c.loop-byte.invariant.rest c.ended_by-ended.ensures (sym c.is_bad.ensures ∙ c.if-is_bad.false) c.count-words.ensures.0;
    }

pub returns-then-is_bad-2 : goal.returns-then-is_bad-2
returns-then-is_bad-2 c =
    let text = c.args.text.now in
    let s = c.loop-byte.state in
    let i = c.loop-byte.byte-index in
    let all : i ≡ length text = omega (arith, c.loop-byte-test.false, c.loop-byte.invariant.read.inside) in
    bad_turn s (numbers []) c.loop-byte.words (scan_end text s i all) c.loop-byte.invariant.rest c.end_of-last.ensures (sym c.is_bad-2.ensures ∙ c.if-is_bad-2.true)

pub returns : goal.returns
returns c =
    let text = c.args.text.now in
    let s = c.loop-byte.state in
    let i = c.loop-byte.byte-index in
    let all : i ≡ length text = omega (arith, c.loop-byte-test.false, c.loop-byte.invariant.read.inside) in
    let n = c.loop-byte.words + c.count.result in
    let none : n ≡ n + 0 = omega arith in
    ap Ok none ∙ count_turn s (numbers []) c.loop-byte.words c.count.result (scan_end text s i all) c.loop-byte.invariant.rest c.end_of-last.ensures (sym c.is_bad-2.ensures ∙ c.if-is_bad-2.false) c.count.ensures.0
