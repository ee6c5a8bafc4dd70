-- `finder::inner::count` meets its contract. Assumes nothing.
use mathlib.Core.Path.{sym, ◌∙◌}
use native.Mathlib.Omega.{arith}
use Rattle.whole.specs.Ranges.{back}
use Rattle.series.specs.Series.{series}
use Rattle.finder.proofs.Halves.{span, indices_rise, few_marks, marks_of}
use Rattle.finder.proofs.inner.count.Goals as goal

pub distance-requires : goal.distance-requires
distance-requires c =
    let s = span (series c.args.body c.args.start.0 c.args.coefs.now) c.requires c.first_reached-lowest.ensures c.last_reached-highest.ensures in
    let few = few_marks s in
    rw (back c.first_reached-lowest.result c.first_reached-lowest.type_inv, back c.last_reached-highest.result c.last_reached-highest.type_inv) (record { a_le_b = indices_rise s; b_bound = omega arith })

pub returns : goal.returns
returns c =
    (rw (back c.first_reached-lowest.result c.first_reached-lowest.type_inv, back c.last_reached-highest.result c.last_reached-highest.type_inv) at c.distance.ensures)
    ∙ sym (marks_of (span (series c.args.body c.args.start.0 c.args.coefs.now) c.requires c.first_reached-lowest.ensures c.last_reached-highest.ensures))
