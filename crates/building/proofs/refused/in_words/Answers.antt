-- `building::refused::in_words` meets its contract. Assumes nothing.
use mathlib.Core.Path.{sym, ap, ◌∙◌}
use Prim.Native.Nat.{◌-◌}
use native.Mathlib.Omega.{arith}
use lib.ListN.{length, drop, length-drop}
use lib.Seq.{take_all}
use Rattle.building.specs.Refused.{refused_in_rest}
use Rattle.building.specs.theory.Blamed.{too_few, enough}
use Rattle.building.proofs.refused.in_words.Goals as goal

pub returns-then-words-lt2 : goal.returns-then-words-lt2
returns-then-words-lt2 c = too_few c.args.words.now c.if-words-lt2.true

pub returns : goal.returns
returns c =
    let ws = c.args.words.now in
    c.in_rest.ensures
    ∙ ap refused_in_rest (take_all (length ws - 2) (drop 2 ws) (omega (arith, length-drop 2 ws)))
    ∙ sym (enough ws c.if-words-lt2.false)
