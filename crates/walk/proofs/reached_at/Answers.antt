-- `walk::reached_at` meets its contract. Assumes nothing.
use mathlib.Core.Path.{◌≡◌, ap₂, ◌∙◌}
use native.Mathlib.Omega.{arith}
use lib.IntN.{ℤ, pos, nat_abs}
use lib.Signed.{◌<ℤ◌}
use mir.Facts.{to_z-of_z}
use Rattle.whole.specs.Floor.{floor_div}
use Rattle.whole.specs.Parts.{→<}
use Rattle.whole.specs.Ranges.{back}
use Rattle.series.specs.declared.Body.{Body}
use Rattle.series.specs.Bodies.{numbers, body_laws}
use Rattle.series.specs.Series.{Series, series, value_at}
use Rattle.marks.specs.Marks.{index_at}
use Rattle.marks.specs.Listed.{reached_at}
use Rattle.walk.proofs.reached_at.Goals as goal

-- a mark has units
some_units : (body : Body) → pos 0 <ℤ pos (numbers body).mark_size
some_units body = →< (omega (arith, (body_laws body).large_mark))

-- the value over the size of a mark
divided : (s : Series) (second : ℤ) {value size index : ℤ} → value ≡ value_at s second → size ≡ pos (numbers s.body).mark_size → index ≡ floor_div value (nat_abs size) → index ≡ reached_at s second
unfolding index_at
divided s second p q e = e ∙ ap₂ (λ (v z : ℤ). floor_div v (nat_abs z)) p q

pub floor_div-requires : goal.floor_div-requires
floor_div-requires c =
    rw (back c.mark_size.result c.mark_size.type_inv, c.mark_size.ensures) (some_units c.args.body)

pub returns : goal.returns
returns c =
    let s = series c.args.body c.args.start.0 c.args.coefs.now in
    divided s c.args.second
    (back c.value-value.result c.value-value.type_inv ∙ (rw (to_z-of_z c.ranges.second) at c.value-value.ensures))
    (back c.mark_size.result c.mark_size.type_inv ∙ c.mark_size.ensures)
    (back c.floor_div.result c.floor_div.type_inv ∙ c.floor_div.ensures)
