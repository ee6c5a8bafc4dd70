-- `kept_or_made::inner::days::days_words` meets its contract. Assumes nothing.
use mathlib.Core.Path.{refl, ap, ◌∙◌}
use mathlib.Core.List.{List, ◌∷◌, ◌++◌}
use lib.IntN.{ℤ, pos}
use lib.ListN.{replicate}
use mir.Syntax.{w64}
use mir.Val.{of_z, to_z}
use Rattle.whole.specs.Lists.{placed}
use Rattle.whole.specs.Ranges.{back}
use Rattle.rebuilt.specs.Rebuild.{days_words}
use Rattle.kept_or_made.specs.OldDays.{three_parts}
use Rattle.kept_or_made.proofs.inner.days.days_words.Goals as goal

pub returns : goal.returns
unfolding days_words
returns c =
    let days = c.args.days in
    c.put_words-2.ensures ∙ ap (λ (l : List ℤ). placed 15 days.zhongqi l) c.put_words.ensures ∙ three_parts (to_z w64 (of_z w64 c.signed.result)) (replicate 27 (pos 0)) days.moons days.zhongqi refl c.requires.moons_len c.requires.zhongqi_len ∙ ap (λ (z : ℤ). z ∷ days.moons ++ days.zhongqi) (back c.signed.result c.signed.type_inv ∙ c.signed.ensures)
