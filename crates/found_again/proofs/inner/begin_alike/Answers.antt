-- `found_again::inner::begin_alike` meets its contract. Assumes nothing.
use mathlib.Core.Path.{sym, ap, ◌∙◌}
use mathlib.Core.Bool.{Bool, ◌&&◌}
use Rattle.whole.specs.Booleans.{first_fails}
use Rattle.whole.specs.Evaluated.{same_words}
use Rattle.found_again.specs.Begin.{begin_alike}
use Rattle.found_again.proofs.inner.begin_alike.Goals as goal

pub returns-then-not-same_words : goal.returns-then-not-same_words
unfolding begin_alike
returns-then-not-same_words c = sym (first_fails _ _ (sym c.same_words.ensures ∙ c.if-not-same_words.true))

pub returns : goal.returns
unfolding begin_alike
returns c =
    let a = c.args in
    c.same_words-2.ensures ∙ ap (λ (b : Bool). b && same_words a.old.now a.new.now) (sym (sym c.same_words.ensures ∙ c.if-not-same_words.false))
