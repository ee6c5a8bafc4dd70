-- `alike::inner::same_bytes` meets its contract: the bits in which the bytes so far differ are gathered. Assumes nothing.
use mathlib.Core.Path.{◌≡◌, ap}
use mathlib.Core.List.{◌++◌, ◌∷◌, []}
use Prim.Native.Nat.{◌+◌}
use native.Mathlib.Omega.{arith}
use borrow.Author.Rules.{rules}
use lib.ListN.{length, length-append}
use Rattle.std.proofs.lemmas.Slice.Zip.{zip_turn, zip_end}
use Rattle.alike.specs.Alike.{bytes_alike, bytes_unlike}
use Rattle.alike.specs.theory.Bits.{one_more, all_tell}
use Rattle.alike.proofs.inner.same_bytes.Goals as goal

pub returns-then-a-b : goal.returns-then-a-b
returns-then-a-b c = bytes_unlike {a = c.args.a.now} {b = c.args.b.now} (λ e. c.if-a-b.true (ap length e))

pub loop-x-preserved : goal.loop-x-preserved
loop-x-preserved c =
    let turn = zip_turn c.args.a.now c.args.b.now c.loop-x.yielded c.into_iter-x-iterator.result c.loop-x.x-iterator c.next.new.self c.next.result (search rules) (search rules) c.loop-x.yielded_by (c.in-Some.x, c.in-Some.y) c.in-Some.is c.next.ensures.steps in
    let more : length (c.loop-x.yielded ++ (c.in-Some.x, c.in-Some.y) ∷ []) ≡ length c.loop-x.yielded + 1 = length-append c.loop-x.yielded _ in
    rw (more, turn.2 0, turn.3 0) (one_more (λ x. x) 0 c.args.a.now c.args.b.now c.loop-x.invariant (λ e. e))

pub returns : goal.returns
returns c =
    let all = zip_end c.args.a.now c.args.b.now c.loop-x.yielded c.into_iter-x-iterator.result c.loop-x.x-iterator c.next.new.self c.next.result (search rules) (search rules) c.loop-x.yielded_by c.in-None.is c.next.ensures.steps in
    let long = c.if-a-b.false in
    all_tell (λ x. x) 0 c.args.a.now c.args.b.now c.loop-x.invariant long (omega arith) bytes_alike bytes_unlike
