-- `words::inner::read_words` meets its contract: the loop's invariant is that the first i words stand in front of what the room held. Assumes nothing.
use Prim.Native.Nat.{ℕ, suc, ◌+◌, ◌*◌, ◌<◌}
use borrow.Author.Rules.{rules}
use lib.IntN.{ℤ, pos}
use lib.ListN.{length, take, drop, set}
use lib.Seq.{set_at, drop-cons, append_snoc}
use mathlib.Core.List.{List, ◌++◌}
use mathlib.Core.Path.{◌≡◌, refl, sym, ap, ◌∙◌}
use mir.Facts.{to_z-of_z}
use mir.Syntax.{w64}
use mir.Val.{SFits}
use native.Mathlib.Numerals.{add-one}
use Rattle.words.specs.Words.{word8, words, words_length}
use Rattle.words.proofs.inner.read_words.Goals as goal

-- one word more
more : (s : List ℕ) (d : List ℤ) (i : ℕ) → i < length d → set (words s i ++ drop i d) i (word8 s (8 * i)) ≡ words s (i + 1) ++ drop (i + 1) d
unfolding words
more s d i h =
    ap (λ (r : List ℤ). set (words s i ++ r) i (word8 s (8 * i))) (drop-cons d i (pos 0) h)
    ∙ set_at (words s i) _ (drop (suc i) d) (word8 s (8 * i)) i (words_length s i)
    ∙ sym (append_snoc (words s i) (word8 s (8 * i)) (drop (suc i) d))
    ∙ ap (λ (k : ℕ). words s k ++ drop k d) (sym (add-one i))

pub loop-i-init : goal.loop-i-init
unfolding words
loop-i-init c = refl

pub loop-i-preserved : goal.loop-i-preserved
loop-i-preserved c =
    let fr : SFits w64 c.word_at.result = search rules in
    rw (to_z-of_z fr, c.word_at.ensures, c.loop-i.invariant) (more c.args.src.now (take c.args.n c.args.dst.now) c.loop-i.i c.loop-i-test.true)
