-- `kept_years::putting::year_at` meets its contract. Assumes nothing.
use mathlib.Core.Path.{sym, ◌∙◌}
use Rattle.whole.specs.Ranges.{back}
use Rattle.almanac.specs.theory.Records.{sui_stands}
use Rattle.kept_years.proofs.putting.year_at.Goals as goal

pub returns : goal.returns
returns c =
    back c.signed4_at.result c.signed4_at.type_inv ∙ c.signed4_at.ensures ∙ sym (sui_stands c.args.file.now c.args.n c.args.i c.requires.i_lt_suis).0
