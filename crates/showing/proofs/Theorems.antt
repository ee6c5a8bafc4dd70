-- What is shown is what the almanac says: a line's year, number and leap mark are those its handle was made of (`handle_shown`), and the year is that of the month's
-- sui (`sui_shown`). `Columns` says that no number is cut. Assumes nothing.
use Rattle.std.specs.Prelude.{◌≡◌, refl, true, [], ◌∷◌, ℕ, ◌+◌, ◌*◌, ◌/◌, ◌%◌, ◌≤◌, ◌<◌, eqb, ℤ, pos, negsuc, nat_abs, ◌+ℤ◌, ◌*ℤ◌}
use Rattle.std.proofs.Common.{ap, ◌∙◌, ⊎_elim, arith, div-add-mod', mod-lt}
use Rattle.whole.specs.Parts.{◌⩽◌, ℤ_rules}
use Rattle.whole.specs.Solver.{⇑, ⇓, ring}
use Rattle.months.specs.declared.Month.{Month}
use Rattle.months.specs.Handles.{number_at, leap_mark, handle, handle_at}
use Rattle.months.proofs.theory.Numbering.{number_small, mark_small}
use Rattle.content.specs.Content.{Content, sui_count, year_at, count_at, month_at, months_before, lawful}
use Rattle.almanac.specs.theory.Rules.{Rules, rules, year_range, handle_is}
use Rattle.showing.specs.Shown.{sui_of, number_of, is_leap}

-- a handle as a count
parts : (year : ℤ) (n : ℕ) → pos 0 ⩽ year → nat_abs (pos 32 *ℤ year +ℤ pos n) ≡ 32 * nat_abs year + n
parts (pos y) n h = refl
parts (negsuc y) n h = absurd (omega ℤ_rules)

-- what a line says of a handle made of these
pub record Says (m : Month) (year : ℤ) (number mark : ℕ) : Type 0 where
  pub sui : sui_of m ≡ nat_abs year
  pub number_is : number_of m ≡ number
  pub leap_is : is_leap m ≡ eqb mark 1

pub handle_shown : (m : Month) (year : ℤ) (number mark : ℕ) → pos 0 ⩽ year → number ≤ 12 → mark ≤ 1 → m.handle ≡ handle year number mark → Says m year number mark
unfolding handle
handle_shown m year number mark h small bit e =
    let y = nat_abs year in
    let is : nat_abs m.handle ≡ 32 * y + (2 * number + mark) = ap nat_abs e ∙ parts year (2 * number + mark) h in
    let x = 32 * y + (2 * number + mark) in
    let w = x % 32 in
    let sui : x / 32 ≡ y = omega (arith, div-add-mod' x 32, mod-lt x {m = 32} (omega arith)) in
    let rest : w ≡ 2 * number + mark = omega (arith, div-add-mod' x 32) in
    let half : w / 2 ≡ number = omega (arith, div-add-mod' w 2, mod-lt w {m = 2} (omega arith)) in
    let odd : x % 2 ≡ mark = omega (arith, div-add-mod' x 2, mod-lt x {m = 2} (omega arith)) in
    record {
      sui = ap (λ (k : ℕ). k / 32) is ∙ sui;
      number_is = ap (λ (k : ℕ). k % 32 / 2) is ∙ half;
      leap_is = ap (λ (k : ℕ). eqb (k % 2) 1) is ∙ ap (λ (k : ℕ). eqb k 1) odd;
    }

-- the month at a place of sui i shows that sui's year
pub sui_shown : (c : Content) → lawful c ≡ true → (i : ℕ) → i < sui_count c → (place : ℕ) → place < nat_abs (count_at c.suis i) → sui_of (month_at c.months (months_before c.suis i + place)) ≡ nat_abs (year_at c.suis i)
unfolding handle_at
sui_shown c l i h place k = ⊎_elim (λ e. at _ _ e) (λ e. at _ _ e) (handle_is c r i h place k)
  where
    r : Rules c
    r = rules c l

    year : ℤ
    year = year_at c.suis i

    m : Month
    m = month_at c.months (months_before c.suis i + place)

    positive : pos 0 ⩽ year
    positive = let ρ = year ∷ [] in ⇑ ρ (search ring) (omega (arith, ⇓ ρ (year_range c r i h).0 (search ring)))

    at : (leap p : ℕ) → m.handle ≡ handle_at year leap p → sui_of m ≡ nat_abs year
    at leap p e = (handle_shown m year (number_at leap p) (leap_mark leap p) positive (number_small leap p) (mark_small leap p) e).sui
