-- `content::inner::whole_suis` meets its contract. Assumes nothing.
use Prim.Native.Nat.{◌%◌}
use mathlib.Core.Path.{◌≡◌, sym}
use mathlib.Core.Bool.{true, ◌&&◌}
use native.Mathlib.Omega.{arith}
use borrow.Author.Tests.{eq-eqb, ne_eqb, le-leb, lt-leb}
use lib.Dec.{eqb, leb}
use Rattle.whole.specs.Booleans.{first_fails, second_fails}
use Rattle.content.specs.Content.{whole_suis}
use Rattle.content.proofs.inner.whole_suis.Goals as goal

pub returns-then-words-ne0 : goal.returns-then-words-ne0
unfolding whole_suis
returns-then-words-ne0 c =
    let n = c.args.words in
    sym (first_fails (eqb (n % 2) 0) (leb 2 n && leb n 256) (ne_eqb (n % 2) 0 c.if-words-ne0.true))

pub returns-then-words-lt2 : goal.returns-then-words-lt2
unfolding whole_suis
returns-then-words-lt2 c =
    let n = c.args.words in
    sym (second_fails (eqb (n % 2) 0) (leb 2 n && leb n 256) (first_fails (leb 2 n) (leb n 256) (lt-leb 2 n (omega arith))))

pub returns : goal.returns
unfolding whole_suis
returns c =
    let n = c.args.words in
    let even : eqb (n % 2) 0 ≡ true = eq-eqb (n % 2) 0 (omega arith) in
    let some : leb 2 n ≡ true = le-leb 2 n (omega arith) in
    rw (even, some)
