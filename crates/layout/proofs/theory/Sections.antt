-- The sections that were found stand one behind the other. Assumes nothing.
use Rattle.std.specs.Prelude.{◌≡◌, List, ℕ, ◌+◌, ◌*◌, ◌≤◌, ◌<◌, ltb, leb, ℤ, pos, nat_abs, length, get_or}
use Rattle.std.proofs.Common.{ap, arith, leb-false, ltb-false}
use Rattle.std.specs.Int.Signed.{lt_z}
use Rattle.refusals.specs.Verdict.{answered, answers_apart, test_answered, then_answered}
use Rattle.layout.specs.declared.inner.Places.{Places}
use Rattle.layout.specs.Layout.{section_end, places}

section_inside : (ws : List ℤ) (at extra width e : ℕ) → section_end ws at extra width ≡ answered e → (at < length ws) × ((at + 1 + extra ≤ e) × (e ≤ length ws))
unfolding section_end
section_inside ws at extra width e p =
    let a = test_answered (leb (length ws) at) 13 _ e p in
    let b = test_answered (lt_z (get_or ws at (pos 0)) (pos 0)) 13 _ e a.1 in
    let c = test_answered (ltb (length ws) (at + 1 + extra + width * nat_abs (get_or ws at (pos 0)))) 13 _ e b.1 in
    let is : at + 1 + extra + width * nat_abs (get_or ws at (pos 0)) ≡ e = answers_apart c.1 in
    (leb-false (length ws) at a.0, (omega arith, omega (arith, ltb-false (length ws) _ c.0)))

pub places_inside : (ws : List ℤ) (p : Places) → places ws ≡ answered p → (1 ≤ p.sun) × ((p.sun + 2 ≤ p.moon) × (p.moon + 2 ≤ length ws))
unfolding places
places_inside ws p e =
    let a = then_answered (section_end ws 0 0 2) _ p e in
    let b = then_answered (section_end ws a.0 1 14) _ p a.2 in
    let c = then_answered (section_end ws b.0 1 14) _ p b.2 in
    let d = test_answered (ltb c.0 (length ws)) 13 _ p c.2 in
    let sun : a.0 ≡ p.sun = ap (λ (q : Places). q.sun) (answers_apart d.1) in
    let moon : b.0 ≡ p.moon = ap (λ (q : Places). q.moon) (answers_apart d.1) in
    let x = section_inside ws 0 0 2 a.0 a.1 in
    let y = section_inside ws a.0 1 14 b.0 b.1 in
    let z = section_inside ws b.0 1 14 c.0 c.1 in
    (omega arith, (omega arith, omega arith))
