-- What the locator keeps, a bracket: any second strictly inside gives a shorter one, and where nothing lies inside the mark is found. Assumes nothing.
use mathlib.Core.Path.{◌≡◌, sym, ap, ◌∙◌, subst}
use mathlib.Core.Logic.{⊎_elim}
use Prim.Native.Nat.{ℕ, ◌^◌, ◌≤◌, ◌<◌}
use native.Mathlib.Omega.{arith}
use lib.IntN.{ℤ, pos, ◌+ℤ◌, ◌-ℤ◌, ◌*ℤ◌}
use lib.Signed.{◌≤ℤ◌, ◌<ℤ◌}
use Rattle.whole.specs.Parts.{ℤ_rules, →≤, parts_add}
use Rattle.whole.specs.Laws.{<→≤, ≤_trans, ≤_antisymm, ≤_total}
use Rattle.whole.specs.Ranges.{Within, within→}
use Rattle.whole.specs.Distance.{distance_from, clash, back_one, lies_after, distances_add, distance_positive}
use Rattle.series.specs.Rising.{Rising}
use Rattle.marks.specs.Marks.{index_at, second_of}
use Rattle.marks.specs.Stretch.{Bracket}
use Rattle.marks.proofs.theory.Indices.{reached, ahead}
use Rattle.marks.proofs.theory.Located.{located_only}
use Rattle.finder.proofs.Halves.{Inside}

module _ {v : ℤ → ℤ} {size : ℕ} {first last j lo hi below above : ℤ} (b : Bracket v size first last j lo hi below above) where
  -- ---- a second strictly inside
  pub inside_at : {middle : ℤ} (step : ℕ) → middle ≡ lo +ℤ pos step → 0 < step → step < distance_from lo hi → Inside lo hi middle
  inside_at {middle} step e some few =
      let p = parts_add lo (pos step) in
      let q = parts_add lo (pos (distance_from lo hi)) in
      let r = lies_after (<→≤ b.ordered) in
      record { after_lo = omega ℤ_rules; before_hi = omega ℤ_rules }

  module _ {middle value : ℤ} (i : Inside lo hi middle) (at : value ≡ v middle) where
    pub upper : value <ℤ (j *ℤ pos size) → Bracket v size first last j middle hi value above
    upper h =
        let x = b.from_first in
        let y = i.after_lo in
        record { from_first = omega ℤ_rules; ordered = i.before_hi; by_last = b.by_last; at_lo = at; at_hi = b.at_hi; under = h; reaching = b.reaching }

    pub lower : (j *ℤ pos size) ≤ℤ value → Bracket v size first last j lo middle below value
    lower h =
        let x = b.by_last in
        let y = i.before_hi in
        record { from_first = b.from_first; ordered = i.after_lo; by_last = omega ℤ_rules; at_lo = b.at_lo; at_hi = at; under = b.under; reaching = h }

    pub upper_falls : distance_from middle hi < distance_from lo hi
    upper_falls = let s = distances_add (<→≤ i.after_lo) (<→≤ i.before_hi) in let p = distance_positive i.after_lo in omega arith

    pub lower_falls : distance_from lo middle < distance_from lo hi
    lower_falls = let s = distances_add (<→≤ i.after_lo) (<→≤ i.before_hi) in let p = distance_positive i.before_hi in omega arith

  -- ---- where nothing lies inside
  pub found : Rising v first last size → distance_from lo hi ≤ 1 → hi ≡ second_of v size first last j
  found rising few =
      let p = distance_positive b.ordered in
      let one : distance_from lo hi ≡ 1 = omega arith in
      let next : hi ≡ lo +ℤ pos 1 = lies_after (<→≤ b.ordered) ∙ rw one in
      let before : hi -ℤ pos 1 ≡ lo = ap (λ (s : ℤ). s -ℤ pos 1) next ∙ back_one lo in
      let x = b.from_first in
      let y = b.ordered in
      located_only rising j hi (record {
        after_first = omega ℤ_rules;
        by_last = b.by_last;
        less_before = rw before (subst (λ (z : ℤ). z <ℤ (j *ℤ pos size)) b.at_lo b.under);
        reached_here = subst (λ (z : ℤ). (j *ℤ pos size) ≤ℤ z) b.at_hi b.reaching;
      })

  -- ---- what the guess asks
  pub part_of_lem : distance_from below (j *ℤ pos size) ≤ distance_from below above
  part_of_lem = let s = distances_add (<→≤ b.under) b.reaching in omega arith

  pub values_near : ((s : ℤ) → first ≤ℤ s → s ≤ℤ last → Within 1000100000000000 (v s)) → distance_from below above < 2 ^ 63
  values_near small =
      let x = b.from_first in
      let y = b.ordered in
      let z = b.by_last in
      let u = within→ (small lo x (omega ℤ_rules)) in
      let w = within→ (small hi (omega ℤ_rules) z) in
      let o : below ≤ℤ above = ≤_trans (<→≤ b.under) b.reaching in
      let e = b.at_lo in
      let f = b.at_hi in
      omega (ℤ_rules, lies_after o, parts_add below (pos (distance_from below above)))

  pub seconds_few : distance_from first last < 2 ^ 33 → distance_from lo hi < 2 ^ 33
  seconds_few h =
      let x = b.from_first in
      let y = b.ordered in
      let z = b.by_last in
      let o : first ≤ℤ last = omega ℤ_rules in
      omega (ℤ_rules, lies_after (<→≤ y), lies_after o, parts_add lo (pos (distance_from lo hi)), parts_add first (pos (distance_from first last)))

-- ---- the whole span, where j is listed
pub whole_span : {v : ℤ → ℤ} {size : ℕ} {first last j below above : ℤ} → Rising v first last size → first ≤ℤ last → index_at v size first <ℤ j → j ≤ℤ index_at v size last → below ≡ v first → above ≡ v last →
    Bracket v size first last j first last below above
whole_span {v} {size} {first} {last} {j} {below} {above} rising o low high e f =
    let under : v first <ℤ (j *ℤ pos size) = ahead v size rising.some_mark j first low in
    let reaching : (j *ℤ pos size) ≤ℤ v last = reached v size rising.some_mark j last high in
    let apart : first <ℤ last =
    ⊎_elim
    (λ (h : last ≤ℤ first). absurd (clash low (subst (λ (s : ℤ). j ≤ℤ index_at v size s) (≤_antisymm h o) high)))
    (λ (h : first <ℤ last). h)
    (≤_total last first)
    in
    record {
      from_first = →≤ (omega arith);
      ordered = apart;
      by_last = →≤ (omega arith);
      at_lo = e;
      at_hi = f;
      under = subst (λ (z : ℤ). z <ℤ (j *ℤ pos size)) (sym e) under;
      reaching = subst (λ (z : ℤ). (j *ℤ pos size) ≤ℤ z) (sym f) reaching;
    }
