-- `kept_years::lines::is_among` meets its contract: what the library says of `contains` is the definition. Assumes nothing.
use Rattle.std.proofs.Common.{◌≡◌, refl, ◌∙◌, Bool, true, false, ℤ, List, [], ◌∷◌, ◌||◌, ap, ap₂}
use Rattle.std.specs.Ordering.{int_eq}
use Rattle.std.specs.List.{list_any}
use Rattle.std.proofs.lemmas.Bool.Decides.{Decides-int_eq}
use Rattle.std.specs.Bool.{Decides}
use mir.Facts.{to_z-of_z}
use mir.Syntax.{w64}
use mir.Val.{to_z, of_z}
use Rattle.whole.specs.Booleans.{not_both}
use Rattle.whole.specs.Tests.{is_exactly, exactly_says, says_exactly}
use Rattle.kept_years.specs.KeptYears.{is_among}
use Rattle.kept_years.proofs.lines.is_among.Goals as goal

-- `==` is the test for exactly a number
exactly : (year y : ℤ) → int_eq y year ≡ is_exactly year y
exactly year y = go (int_eq y year) (is_exactly year y) (Decides-int_eq y year) refl
  where
    go : (a b : Bool) → Decides a (y ≡ year) → is_exactly year y ≡ b → a ≡ b
    go true true same e = refl
    go true false same e = not_both (says_exactly year y (same.0 refl)) e
    go false true other e = other.1 (exactly_says year y e)
    go false false other e = refl

any_is : (year : ℤ) (years : List ℤ) → list_any (λ y. int_eq y year) years ≡ is_among year years
unfolding is_among
any_is year [] = refl
any_is year (y ∷ years) = ap₂ ◌||◌ (exactly year y) (any_is year years)

pub returns : goal.returns
returns c =
    let a = c.args in
    c.contains.ensures.value ∙ any_is (to_z w64 (of_z w64 a.year)) a.years.now ∙ ap (λ (z : ℤ). is_among z a.years.now) (to_z-of_z c.ranges.year)
