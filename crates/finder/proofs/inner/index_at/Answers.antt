-- `finder::inner::index_at` meets its contract. Assumes nothing.
use mathlib.Core.Path.{◌≡◌, sym, ap₂, ◌∙◌}
use lib.IntN.{ℤ}
use borrow.Author.Rules.{rules}
use Rattle.whole.specs.Floor.{floor_div}
use Rattle.series.specs.declared.Body.{Body}
use Rattle.series.specs.Bodies.{numbers}
use Rattle.series.specs.Series.{Series, series, value_at}
use Rattle.marks.specs.Marks.{index_at}
use Rattle.marks.specs.Listed.{reached_at}
use Rattle.whole.specs.Ranges.{back}
use Rattle.finder.proofs.inner.index_at.Goals as goal

-- each arm of the match, by the body that it is for
of_body : (s : Series) (second : ℤ) {b : Body} {value x : ℤ} → s.body ≡ b → value ≡ value_at s second → x ≡ floor_div value (numbers b).mark_size → x ≡ reached_at s second
unfolding index_at
of_body s second p q e = e ∙ ap₂ (λ (v : ℤ) (b : Body). floor_div v (numbers b).mark_size) q (sym p)

pub enum_told-1 : goal.enum_told-1
enum_told-1 c = search rules

pub returns-in-Sun : goal.returns-in-Sun
returns-in-Sun c =
    of_body (series c.args.body c.args.start.0 c.args.coefs.now) c.args.second.0 c.in-Sun.is (back c.value-value.result c.value-value.type_inv ∙ c.value-value.ensures) (back c.floor_div.result c.floor_div.type_inv ∙ c.floor_div.ensures)

pub returns-in-Moon : goal.returns-in-Moon
returns-in-Moon c =
    of_body (series c.args.body c.args.start.0 c.args.coefs.now) c.args.second.0 c.in-Moon.is (back c.value-value.result c.value-value.type_inv ∙ c.value-value.ensures) (back c.floor_div-in-Moon.result c.floor_div-in-Moon.type_inv ∙ c.floor_div-in-Moon.ensures)
