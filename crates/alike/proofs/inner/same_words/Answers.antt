-- `alike::inner::same_words` meets its contract: first the runs that are the same, then the bits in which the first k words differ are gathered. Assumes nothing.
use mathlib.Core.Path.{◌≡◌, sym, ap, ◌∙◌}
use mathlib.Core.List.{List}
use Prim.Native.Nat.{ℕ, ◌<◌}
use native.Mathlib.Omega.{arith}
use borrow.Author.Rules.{rules}
use lib.IntN.{ℤ, pos}
use lib.ListN.{length, get_or}
use mir.Syntax.{w64}
use mir.Val.{SFits, of_z, to_z}
use Rattle.whole.specs.Ranges.{of_z_inj}
use Rattle.alike.specs.Alike.{words_alike, words_unlike}
use Rattle.alike.specs.Runs.{run_more}
use Rattle.alike.specs.theory.Bits.{Gathered, one_more, all_tell, bits_of_zero}
use Rattle.alike.proofs.inner.same_words.Goals as goal

-- what the loop knows, of the bits
gathered : (a b : List ℤ) (i n : ℕ) → (to_z w64 n ≡ pos 0 → (k : ℕ) → k < i → get_or a k (pos 0) ≡ get_or b k (pos 0)) → (a ≡ b → to_z w64 n ≡ pos 0) → Gathered (of_z w64) (pos 0) a b i n
gathered a b i n tells told = record { tells = λ e. tells (ap (to_z w64) e); told = λ e. bits_of_zero n (told e) }

pub returns-then-b-n : goal.returns-then-b-n
returns-then-b-n c = words_unlike {a = c.args.a.now} {b = c.args.b.now} (λ e. c.if-b-n.true (ap length (sym e)))

pub loop-i-preserved : goal.loop-i-preserved
loop-i-preserved c =
    let t = c.loop-i.invariant in
    (t.0, (t.1.0, (omega arith, run_more c.args.a.now c.args.b.now c.loop-i.i t.1.1.1 (c.same_run.ensures c.if-same_run.true))))

pub loop-k-preserved : goal.loop-k-preserved
loop-k-preserved c =
    let t = c.loop-k.invariant in
    let fa : SFits w64 (get_or c.args.a.now c.loop-k.k (pos 0)) = search rules in
    let fb : SFits w64 (get_or c.args.b.now c.loop-k.k (pos 0)) = search rules in
    let g = one_more (of_z w64) (pos 0) c.args.a.now c.args.b.now (gathered c.args.a.now c.args.b.now c.loop-k.k c.loop-k.differing-bits t.1.1.1.0 t.1.1.1.1) (of_z_inj fa fb) in
    (t.0, (t.1.0, (omega arith, (λ e. g.tells (bits_of_zero _ e), λ e. ap (to_z w64) (g.told e)))))

pub returns : goal.returns
returns c =
    let t = c.loop-k.invariant in
    all_tell (of_z w64) (pos 0) c.args.a.now c.args.b.now (gathered c.args.a.now c.args.b.now c.loop-k.k c.loop-k.differing-bits t.1.1.1.0 t.1.1.1.1) (sym t.0 ∙ t.1.0) (omega (arith, c.loop-k-test.false, t.1.1.0)) words_alike words_unlike
