-- A sui's line says `kept` exactly where its year stands among those that were kept (`kept_says`, `says_kept`); every year of a lawful file has the four digits that its
-- line shows (`four_digits`), and the lines of no lawful file are longer than 1,280 bytes (`lines_size`). Assumes nothing but what a statement says itself.
use Rattle.std.specs.Prelude.{◌≡◌, refl, Bool, true, false, ◌||◌, List, [], ◌∷◌, ℕ, zero, suc, ◌≤◌, ◌<◌, ℤ, pos, nat_abs, length, get_or}
use Rattle.std.proofs.Common.{sym, arith}
use Rattle.whole.specs.Parts.{◌⩽◌, ℤ_rules}
use Rattle.whole.specs.Laws.{abs_of_nonneg}
use Rattle.whole.specs.Tests.{is_exactly, exactly_says, says_exactly}
use Rattle.refusals.specs.Verdict.{answered}
use Rattle.content.specs.Content.{Content, year_at, sui_count}
use Rattle.almanac.specs.Layout.{file_of}
use Rattle.almanac.specs.Theorems.{read_is_lawful}
use Rattle.almanac.specs.theory.Rules.{Rules, rules, few_suis, year_range}
use Rattle.kept_years.specs.KeptYears.{is_among, lines_of}
use Rattle.kept_years.specs.theory.Among.{lines_length}

-- a year stands at a place of a list
pub record Stands (year : ℤ) (years : List ℤ) : Type 0 where
  pub place : ℕ
  pub inside : place < length years
  pub here : get_or years place (pos 0) ≡ year

pub kept_says : (year : ℤ) (years : List ℤ) → is_among year years ≡ true → Stands year years
unfolding is_among
kept_says year [] e = let z : ◌≡◌ {A = ℕ} 0 1 = cc in absurd (omega arith)
kept_says year (y ∷ years) e = go (is_exactly year y) refl e (λ f. kept_says year years f)
  where
    go : (b : Bool) → is_exactly year y ≡ b → (b || is_among year years) ≡ true → (is_among year years ≡ true → Stands year years) → Stands year (y ∷ years)
    go true p q behind = record { place = 0; inside = omega arith; here = exactly_says year y p }
    go false p q behind = let s = behind q in record { place = suc s.place; inside = omega (arith, s.inside); here = s.here }

pub says_kept : (year : ℤ) (years : List ℤ) (i : ℕ) → i < length years → get_or years i (pos 0) ≡ year → is_among year years ≡ true
unfolding is_among
says_kept year [] i h e = absurd (omega arith)
says_kept year (y ∷ years) zero h e = rw (says_exactly year y e)
says_kept year (y ∷ years) (suc i) h e = go (is_exactly year y) (says_kept year years i (omega arith) e)
  where
    go : (b : Bool) → is_among year years ≡ true → (b || is_among year years) ≡ true
    go true p = refl
    go false p = p

module _ (file : List ℕ) (c : Content) (e : file_of file ≡ answered c) where
  kept_rules : Rules c
  kept_rules = rules c (read_is_lawful file c e)

  pub four_digits : (i : ℕ) → i < sui_count c → (year_at c.suis i ≡ pos (nat_abs (year_at c.suis i))) × ((1000 ≤ nat_abs (year_at c.suis i)) × (nat_abs (year_at c.suis i) < 10000))
  four_digits i h =
      let r = year_range c kept_rules i h in
      let is : pos (nat_abs (year_at c.suis i)) ≡ year_at c.suis i = abs_of_nonneg (omega (ℤ_rules, r.0)) in
      let low : pos 1700 ⩽ pos (nat_abs (year_at c.suis i)) = rw is r.0 in
      let high : pos (nat_abs (year_at c.suis i)) ⩽ pos 2500 = rw is r.1 in
      (sym is, (omega (ℤ_rules, low), omega (ℤ_rules, high)))

  pub lines_size : (years : List ℤ) → length (lines_of c years) ≤ 1280
  unfolding lines_of
  lines_size years = omega (arith, lines_length c.suis years (sui_count c), few_suis c kept_rules)
