-- `corrected::comparing::same_run` meets its contract: the two parts are the same words. Assumes nothing.
use mathlib.Core.Path.{sym, ◌∙◌}
use Prim.Native.Nat.{◌+◌}
use native.Mathlib.Omega.{arith}
use Rattle.alike.specs.Alike.{words_are}
use Rattle.corrected.specs.theory.Compared.{same_parts}
use Rattle.corrected.proofs.comparing.same_run.Goals as goal

pub returns : goal.returns
returns c e =
    let a = c.args in
    same_parts a.old.now a.coefs.now a.k (a.k + a.n) (omega arith) c.requires.n_bound c.requires.n_bound_2
    (sym c.part_of.ensures ∙ words_are _ _ (sym c.same_words.ensures ∙ e) ∙ c.part_of-2.ensures)
