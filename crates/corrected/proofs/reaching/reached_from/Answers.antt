-- `corrected::reaching::reached_from` meets its contract. In the needs, `start` is the function's entry. Assumes nothing.
use mathlib.Core.Path.{◌∙◌}
use borrow.Author.Tests.{lt-ltb, le-ltb}
use Rattle.whole.specs.Ranges.{back}
use Rattle.series.specs.Series.{series}
use Rattle.corrected.specs.theory.Values.{first_in_span}
use Rattle.corrected.proofs.reaching.reached_from.Goals as goal

pub returns-then-coefs-k : goal.returns-then-coefs-k
returns-then-coefs-k c =
    let none = c.if-coefs-k.true in
    rw (le-ltb _ _ none) (back c.last_reached.result c.last_reached.type_inv ∙ c.last_reached.ensures)

pub index_at-requires : goal.index_at-requires
index_at-requires c =
    let s = series c.args.body c.args.start.0 c.args.coefs.now in
    rw c.segment_start.ensures (record { accepted = c.requires.accepted; in_span = first_in_span s c.requires.accepted c.requires.k_bound c.if-coefs-k.false })

pub returns : goal.returns
returns c =
    rw (lt-ltb _ _ c.if-coefs-k.false) (back c.index_at.result c.index_at.type_inv ∙ (rw c.segment_start.ensures at c.index_at.ensures))
