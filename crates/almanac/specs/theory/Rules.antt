-- What a lawful content is known to be, rule by rule, and how large its numbers are: they fit the fields of the layout (`lawful_fits`). Assumes nothing.
use Rattle.std.specs.Prelude.{◌≡◌, refl, Bool, true, false, ◌&&◌, ◌||◌, List, [], ◌∷◌, ◌⊎◌, eqb, leb, ℤ, negsuc, nat_abs, ◌+ℤ◌, ◌-ℤ◌, ◌*ℤ◌, length, get_or}
use Rattle.std.proofs.Common.{sym, ap, ◌∙◌}
use Rattle.std.proofs.Math.Logic.{inl, inr, ⊎_elim}
use Prim.Native.Nat.{ℕ, zero, suc, ◌+◌, ◌-◌, ◌*◌, ◌/◌, ◌%◌, ◌<◌, ◌≤◌}
use native.Mathlib.Omega.{arith}
use Rattle.std.proofs.Math.Nat.{div-add-mod', mul-div_cancel_left}
use Rattle.std.proofs.Math.Decide.{dec_lt}
use borrow.Author.Tests.{eqb-true, leb-true}
use Rattle.std.proofs.Math.IntN.{pos}
use Rattle.std.specs.Int.Signed.{mag}
use Rattle.whole.specs.Parts.{◌⩽◌, ◌≺◌, ℤ_rules}
use Rattle.whole.specs.Laws.{abs_of_nonneg}
use Rattle.whole.specs.Solver.{⇑, ⇓, ring}
use Rattle.whole.specs.Booleans.{both}
use Rattle.whole.specs.Tests.{in_range, is_exactly, in_range_says, exactly_says}
use Rattle.whole.specs.Below.{every, every_at}
use Rattle.words.specs.Words.{half4}
use Rattle.dates.specs.Answers.{has_date}
use Rattle.clock.specs.Leap.{leap_lawful, whole_pairs, good_entry, entries, day, offset}
use Rattle.clock.proofs.theory.Table.{few, day_small, offset_is, offset_first}
use Rattle.months.specs.Handles.{number_at, leap_mark, handle, handle_at}
use Rattle.months.proofs.theory.Numbering.{number_small, mark_small}
use Rattle.content.specs.Content.{Content, entry_count, sui_count, month_count, year_at, count_at, month_at, months_before, follows_year, good_sui, leaps_before, good_handle, good_start, good_days, good_month, good_months, good_sui_months, whole_suis, lawful}
use Rattle.almanac.specs.Fields.{Field, one_byte, unsigned, signed, times}
use Rattle.almanac.specs.theory.FieldLaws.{Counted, FitsField, Fit}
use Rattle.almanac.specs.theory.Whole.{FitsLayout}

-- one of two tests holds
one_of : (a b : Bool) → (a || b) ≡ true → (a ≡ true) ⊎ (b ≡ true)
one_of true b e = inl refl
one_of false b e = inr e

-- a number that is not negative and below a limit
pub counted_in : (limit : ℕ) (z : ℤ) → pos 0 ⩽ z → z ≺ pos limit → Counted limit z
counted_in limit z l u = let k : pos (nat_abs z) ≺ pos limit = rw (abs_of_nonneg l) u in record { number = nat_abs z; is = sym (abs_of_nonneg l); small = omega ℤ_rules }

-- a number far inside 32 bits
signed_in : (z : ℤ) → negsuc 999999 ⩽ z → z ⩽ pos 1000000 → mag z < half4
signed_in (pos n) l u = omega ℤ_rules
signed_in (negsuc n) l u = omega ℤ_rules

-- ---- the rules
pub record Rules (c : Content) : Type 0 where
  pub table : leap_lawful c.leap ≡ true
  pub suis_whole : whole_suis (length c.suis) ≡ true
  pub sui : (i : ℕ) → i < sui_count c → good_sui c.suis i ≡ true
  pub months_whole : length c.months ≡ 3 * months_before c.suis (sui_count c)
  pub months : (i : ℕ) → i < sui_count c → good_sui_months c.suis c.months i ≡ true

pub rules : (c : Content) → lawful c ≡ true → Rules c
unfolding lawful
rules c e =
    let r₁ = both (leap_lawful c.leap) _ e in
    let r₂ = both (whole_suis (length c.suis)) _ r₁.1 in
    let r₃ = both (every (good_sui c.suis) (sui_count c)) _ r₂.1 in
    let r₄ = both (eqb (length c.months) (3 * months_before c.suis (sui_count c))) (every (good_sui_months c.suis c.months) (sui_count c)) r₃.1 in
    record {
      table = r₁.0;
      suis_whole = r₂.0;
      sui = every_at (good_sui c.suis) (sui_count c) r₃.0;
      months_whole = eqb-true _ _ r₄.0;
      months = every_at (good_sui_months c.suis c.months) (sui_count c) r₄.1;
    }

-- ---- what they say of each record
module _ (c : Content) (r : Rules c) where
  pub entries_whole : length c.leap ≡ 2 * entry_count c
  unfolding leap_lawful whole_pairs
  entries_whole =
      let pairs = (both (whole_pairs (length c.leap)) (every (good_entry c.leap) (entries c.leap)) r.table).0 in
      let even = (both (eqb (length c.leap % 2) 0) _ pairs).0 in
      omega (arith, eqb-true (length c.leap % 2) 0 even, div-add-mod' (length c.leap) 2)

  suis_parts : (length c.suis % 2 ≡ 0) × ((2 ≤ length c.suis) × (length c.suis ≤ 256))
  unfolding whole_suis
  suis_parts =
      let a = both (eqb (length c.suis % 2) 0) _ r.suis_whole in
      let b = both (leb 2 (length c.suis)) (leb (length c.suis) 256) a.1 in
      (eqb-true _ _ a.0, (leb-true _ _ b.0, leb-true _ _ b.1))

  pub words_of_suis : length c.suis ≡ 2 * sui_count c
  words_of_suis = omega (arith, suis_parts.0, div-add-mod' (length c.suis) 2)

  pub some_sui : 1 ≤ sui_count c
  some_sui = omega (arith, suis_parts.1.0, div-add-mod' (length c.suis) 2)

  pub few_suis : sui_count c ≤ 128
  few_suis = omega (arith, suis_parts.1.1, div-add-mod' (length c.suis) 2)

  pub months_counted : month_count c ≡ months_before c.suis (sui_count c)
  months_counted = ap (λ (n : ℕ). n / 3) r.months_whole ∙ mul-div_cancel_left (months_before c.suis (sui_count c)) (omega arith)

  module _ (i : ℕ) (h : i < sui_count c) where
    sui_parts : (in_range (pos 1700) (pos 2500) (year_at c.suis i) ≡ true) × ((follows_year c.suis i ≡ true) × (in_range (pos 12) (pos 13) (count_at c.suis i) ≡ true))
    unfolding good_sui
    sui_parts =
        let a = both (in_range (pos 1700) (pos 2500) (year_at c.suis i)) (follows_year c.suis i && in_range (pos 12) (pos 13) (count_at c.suis i)) (r.sui i h) in
        let b = both (follows_year c.suis i) (in_range (pos 12) (pos 13) (count_at c.suis i)) a.1 in
        (a.0, (b.0, b.1))

    pub year_range : (pos 1700 ⩽ year_at c.suis i) × (year_at c.suis i ⩽ pos 2500)
    year_range = in_range_says (pos 1700) (pos 2500) (year_at c.suis i) sui_parts.0

    pub count_range : (pos 12 ⩽ count_at c.suis i) × (count_at c.suis i ⩽ pos 13)
    count_range = in_range_says (pos 12) (pos 13) (count_at c.suis i) sui_parts.1.1

    pub count_small : nat_abs (count_at c.suis i) ≤ 13
    count_small = let ρ = count_at c.suis i ∷ [] in ⇑ ρ {A = nat_abs (count_at c.suis i) ≤ 13} (search ring) (omega (arith, ⇓ ρ count_range.0 (search ring), ⇓ ρ count_range.1 (search ring)))

    months_parts : (every (good_month c.months (year_at c.suis i) (count_at c.suis i) (months_before c.suis i)) (nat_abs (count_at c.suis i)) ≡ true) × (is_exactly (pos (12 + leaps_before c.months (months_before c.suis i) (nat_abs (count_at c.suis i)))) (count_at c.suis i) ≡ true)
    unfolding good_sui_months good_months
    months_parts = both (every (good_month c.months (year_at c.suis i) (count_at c.suis i) (months_before c.suis i)) (nat_abs (count_at c.suis i))) _ (r.months i h)

    module _ (place : ℕ) (k : place < nat_abs (count_at c.suis i)) where
      month_parts : (good_handle (year_at c.suis i) (count_at c.suis i) (leaps_before c.months (months_before c.suis i) place) place (month_at c.months (months_before c.suis i + place)).handle ≡ true) × (good_days c.months (months_before c.suis i + place) ≡ true)
      unfolding good_month
      month_parts = both _ _ (every_at (good_month c.months (year_at c.suis i) (count_at c.suis i) (months_before c.suis i)) (nat_abs (count_at c.suis i)) months_parts.0 place k)

      pub handle_is : ((month_at c.months (months_before c.suis i + place)).handle ≡ handle_at (year_at c.suis i) 13 (place - leaps_before c.months (months_before c.suis i) place)) ⊎ ((month_at c.months (months_before c.suis i + place)).handle ≡ handle_at (year_at c.suis i) place place)
      unfolding good_handle
      handle_is =
          let h = (month_at c.months (months_before c.suis i + place)).handle in
          let leaps = leaps_before c.months (months_before c.suis i) place in
          let ordinary = handle_at (year_at c.suis i) 13 (place - leaps) in
          let leap = handle_at (year_at c.suis i) place place in
          ⊎_elim
          (λ (e : is_exactly ordinary h ≡ true). inl (exactly_says ordinary h e))
          (λ (e : (is_exactly (pos 13) (count_at c.suis i) && (eqb leaps 0 && (leb 1 place && is_exactly leap h))) ≡ true).
          let a = both (is_exactly (pos 13) (count_at c.suis i)) _ e in
          let b = both (eqb leaps 0) _ a.1 in
          let d = both (leb 1 place) (is_exactly leap h) b.1 in
          inr (exactly_says leap h d.1))
          (one_of (is_exactly ordinary h) _ month_parts.0)

      pub handle_small : Counted 4294967296 (month_at c.months (months_before c.suis i + place)).handle
      handle_small = ⊎_elim (λ e. small 13 (place - leaps_before c.months (months_before c.suis i) place) _ e) (λ e. small place place _ e) handle_is
        where
          small : (leap p : ℕ) (h : ℤ) → h ≡ handle_at (year_at c.suis i) leap p → Counted 4294967296 h
          small leap p h e =
              let y = year_at c.suis i in
              let n = 2 * number_at leap p + leap_mark leap p in
              let ρ = y ∷ pos n ∷ h ∷ [] in
              let low = ⇓ ρ year_range.0 (search ring) in
              let high = ⇓ ρ year_range.1 (search ring) in
              let number = number_small leap p in
              let mark = mark_small leap p in
              let is : h ≡ pos 32 *ℤ y +ℤ pos n = e ∙ (unfold handle_at handle in refl) in
              counted_in 4294967296 h (⇑ ρ (search ring depth 9) (omega (arith, ⇓ ρ is (search ring depth 9)))) (⇑ ρ (search ring depth 9) (omega (arith, ⇓ ρ is (search ring depth 9))))

      pub days_parts : (good_start c.months (months_before c.suis i + place) ≡ true) × ((in_range (pos 29) (pos 30) (month_at c.months (months_before c.suis i + place)).length ≡ true) × (has_date ((month_at c.months (months_before c.suis i + place)).first +ℤ (month_at c.months (months_before c.suis i + place)).length -ℤ pos 1) ≡ true))
      unfolding good_days
      days_parts =
          let a = both (good_start c.months (months_before c.suis i + place)) _ month_parts.1 in
          let b = both (in_range (pos 29) (pos 30) (month_at c.months (months_before c.suis i + place)).length) (has_date ((month_at c.months (months_before c.suis i + place)).first +ℤ (month_at c.months (months_before c.suis i + place)).length -ℤ pos 1)) a.1 in
          (a.0, (b.0, b.1))

      pub length_range : (pos 29 ⩽ (month_at c.months (months_before c.suis i + place)).length) × ((month_at c.months (months_before c.suis i + place)).length ⩽ pos 30)
      length_range = in_range_says (pos 29) (pos 30) (month_at c.months (months_before c.suis i + place)).length days_parts.1.0

      pub last_day_range : (negsuc 149999 ⩽ (month_at c.months (months_before c.suis i + place)).first +ℤ (month_at c.months (months_before c.suis i + place)).length -ℤ pos 1) × ((month_at c.months (months_before c.suis i + place)).first +ℤ (month_at c.months (months_before c.suis i + place)).length -ℤ pos 1 ⩽ pos 200000)
      unfolding has_date
      last_day_range = in_range_says (negsuc 149999) (pos 200000) ((month_at c.months (months_before c.suis i + place)).first +ℤ (month_at c.months (months_before c.suis i + place)).length -ℤ pos 1) days_parts.1.1

      first_small : mag (month_at c.months (months_before c.suis i + place)).first < half4
      first_small =
          let z = (month_at c.months (months_before c.suis i + place)).first in
          let n = (month_at c.months (months_before c.suis i + place)).length in
          let ρ = z ∷ n ∷ [] in
          let l₁ = ⇓ ρ length_range.0 (search ring) in
          let l₂ = ⇓ ρ length_range.1 (search ring) in
          signed_in z (⇑ ρ (search ring depth 9) (omega (arith, ⇓ ρ last_day_range.0 (search ring depth 9)))) (⇑ ρ (search ring depth 9) (omega (arith, ⇓ ρ last_day_range.1 (search ring depth 9))))

      length_small : Counted 256 (month_at c.months (months_before c.suis i + place)).length
      length_small =
          let n = (month_at c.months (months_before c.suis i + place)).length in
          let ρ = n ∷ [] in
          counted_in 256 n (⇑ ρ (search ring) (omega (arith, ⇓ ρ length_range.0 (search ring)))) (⇑ ρ (search ring) (omega (arith, ⇓ ρ length_range.1 (search ring))))

  -- each month of the file is at a place of a sui
  pub record Placed (k : ℕ) : Type 0 where
    pub i : ℕ
    pub place : ℕ
    pub sui_in_lem : i < sui_count c
    pub place_in : place < nat_abs (count_at c.suis i)
    pub is : k ≡ months_before c.suis i + place

  pub placed : (k : ℕ) → k < month_count c → Placed k
  unfolding months_before
  placed k h = up_to (sui_count c) (omega arith) (omega (arith, months_counted))
    where
      up_to : (n : ℕ) → n ≤ sui_count c → k < months_before c.suis n → Placed k
      up_to zero l u = absurd (omega arith)
      up_to (suc n) l u = go (λ v. up_to n (omega arith) v) (dec_lt k (months_before c.suis n))
        where
          go : (k < months_before c.suis n → Placed k) → Dec (k < months_before c.suis n) → Placed k
          go before (yes v) = before v
          go before (no v) = record { i = n; place = k - months_before c.suis n; sui_in_lem = omega arith; place_in = omega arith; is = omega arith }

  months_up_to : (n : ℕ) → n ≤ sui_count c → months_before c.suis n ≤ 13 * n
  unfolding months_before
  months_up_to zero l = omega arith
  months_up_to (suc n) l =
      let before = months_up_to n (omega arith) in
      omega (arith, count_small n (omega arith))

  pub months_few : month_count c ≤ 1664
  months_few = omega (arith, months_counted, months_up_to (sui_count c) (omega arith), few_suis)

-- ---- records of two and of three numbers, each fitting its field
pairs_fit : (f g : Field) (n : ℕ) (words : List ℤ) → length words ≡ 2 * n → ((i : ℕ) → i < n → FitsField f (get_or words (2 * i) (pos 0)) × FitsField g (get_or words (2 * i + 1) (pos 0))) → Fit (times n (f ∷ g ∷ [])) words
unfolding times
pairs_fit f g zero [] e h = refl
pairs_fit f g zero (x ∷ words) e h = absurd (omega arith)
pairs_fit f g (suc n) [] e h = absurd (omega arith)
pairs_fit f g (suc n) (x ∷ []) e h = absurd (omega arith)
pairs_fit f g (suc n) (x ∷ y ∷ words) e h =
    ((h 0 (omega arith)).0, ((h 0 (omega arith)).1, pairs_fit f g n words (omega arith) (λ i l. later i (h (suc i) (omega arith)))))
  where
    later : (i : ℕ) → FitsField f (get_or (x ∷ y ∷ words) (2 * suc i) (pos 0)) × FitsField g (get_or (x ∷ y ∷ words) (2 * suc i + 1) (pos 0)) → FitsField f (get_or words (2 * i) (pos 0)) × FitsField g (get_or words (2 * i + 1) (pos 0))
    later i p = let a : 2 * suc i ≡ suc (suc (2 * i)) = omega arith in let b : 2 * suc i + 1 ≡ suc (suc (2 * i + 1)) = omega arith in rw (b, a) at p

triples_fit : (f g k : Field) (n : ℕ) (words : List ℤ) → length words ≡ 3 * n → ((i : ℕ) → i < n → FitsField f (get_or words (3 * i) (pos 0)) × (FitsField g (get_or words (3 * i + 1) (pos 0)) × FitsField k (get_or words (3 * i + 2) (pos 0)))) → Fit (times n (f ∷ g ∷ k ∷ [])) words
unfolding times
triples_fit f g k zero [] e h = refl
triples_fit f g k zero (x ∷ words) e h = absurd (omega arith)
triples_fit f g k (suc n) [] e h = absurd (omega arith)
triples_fit f g k (suc n) (x ∷ []) e h = absurd (omega arith)
triples_fit f g k (suc n) (x ∷ y ∷ []) e h = absurd (omega arith)
triples_fit f g k (suc n) (x ∷ y ∷ z ∷ words) e h =
    ((h 0 (omega arith)).0, ((h 0 (omega arith)).1.0, ((h 0 (omega arith)).1.1, triples_fit f g k n words (omega arith) (λ i l. later i (h (suc i) (omega arith))))))
  where
    later : (i : ℕ) → FitsField f (get_or (x ∷ y ∷ z ∷ words) (3 * suc i) (pos 0)) × (FitsField g (get_or (x ∷ y ∷ z ∷ words) (3 * suc i + 1) (pos 0)) × FitsField k (get_or (x ∷ y ∷ z ∷ words) (3 * suc i + 2) (pos 0)))
        → FitsField f (get_or words (3 * i) (pos 0)) × (FitsField g (get_or words (3 * i + 1) (pos 0)) × FitsField k (get_or words (3 * i + 2) (pos 0)))
    later i p =
        let a : 3 * suc i ≡ suc (suc (suc (3 * i))) = omega arith in
        let b : 3 * suc i + 1 ≡ suc (suc (suc (3 * i + 1))) = omega arith in
        let d : 3 * suc i + 2 ≡ suc (suc (suc (3 * i + 2))) = omega arith in
        rw (d, b, a) at p

-- ---- the numbers of a lawful content fit the layout
pub lawful_fits : (c : Content) → lawful c ≡ true → FitsLayout c
lawful_fits c e = record {
  entries_fit = pairs_fit signed unsigned (entry_count c) c.leap (entries_whole c r) entry;
  suis_fit = pairs_fit signed one_byte (sui_count c) c.suis (words_of_suis c r) sui;
  months_fit = triples_fit unsigned signed one_byte (month_count c) c.months (omega (arith, r.months_whole, months_counted c r)) month;
  few_entries = omega (arith, few c.leap r.table);
  few_suis = omega (arith, few_suis c r);
  few_months = omega (arith, months_few c r);
}
  where
    r : Rules c
    r = rules c e

    entry : (i : ℕ) → i < entry_count c → FitsField signed (get_or c.leap (2 * i) (pos 0)) × FitsField unsigned (get_or c.leap (2 * i + 1) (pos 0))
    entry i h =
        let d = day c.leap i in
        let o = offset c.leap i in
        let ρ = d ∷ [] in
        let σ = o ∷ offset c.leap 0 ∷ pos i ∷ [] in
        let small = day_small c.leap r.table i h in
        let is = ⇓ σ (offset_is c.leap r.table i h) (search ring) in
        let first = offset_first c.leap r.table in (
          signed_in d (⇑ ρ (search ring) (omega (arith, ⇓ ρ small.within (search ring)))) (⇑ ρ (search ring) (omega (arith, ⇓ ρ small.within (search ring)))),
          counted_in 4294967296 o (⇑ σ (search ring) (omega (arith, ⇓ σ first.0 (search ring)))) (⇑ σ (search ring) (omega (arith, ⇓ σ first.1 (search ring), few c.leap r.table))),
        )

    sui : (i : ℕ) → i < sui_count c → FitsField signed (get_or c.suis (2 * i) (pos 0)) × FitsField one_byte (get_or c.suis (2 * i + 1) (pos 0))
    sui i h =
        let y = year_at c.suis i in
        let ρ = y ∷ [] in
        let range = year_range c r i h in
        let σ = count_at c.suis i ∷ [] in
        let months = count_range c r i h in (
          signed_in y (⇑ ρ (search ring) (omega (arith, ⇓ ρ range.0 (search ring)))) (⇑ ρ (search ring) (omega (arith, ⇓ ρ range.1 (search ring)))),
          counted_in 256 (count_at c.suis i) (⇑ σ (search ring) (omega (arith, ⇓ σ months.0 (search ring)))) (⇑ σ (search ring) (omega (arith, ⇓ σ months.1 (search ring)))),
        )

    month : (k : ℕ) → k < month_count c → FitsField unsigned (get_or c.months (3 * k) (pos 0)) × (FitsField signed (get_or c.months (3 * k + 1) (pos 0)) × FitsField one_byte (get_or c.months (3 * k + 2) (pos 0)))
    month k h =
        let p = placed c r k h in
        rw p.is (handle_small c r p.i p.sui_in_lem p.place p.place_in, (first_small c r p.i p.sui_in_lem p.place p.place_in, length_small c r p.i p.sui_in_lem p.place p.place_in))
