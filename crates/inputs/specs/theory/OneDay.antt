-- Where more of a day has passed than lies between two seconds, both are of that day. Assumes nothing.
use Rattle.std.specs.Prelude.{◌≡◌, true, ℤ, ◌-ℤ◌, ◌*ℤ◌}
use Rattle.std.proofs.Math.Path.{sym}
use mathlib.Core.List.{List, [], ◌∷◌}
use Rattle.std.proofs.Common.{arith}
use Rattle.std.proofs.Math.IntN.{pos}
use Rattle.whole.specs.Parts.{◌⩽◌}
use Rattle.whole.specs.Laws.{≤_antisymm}
use Rattle.whole.specs.Floor.{floor_div, floor_mod}
use Rattle.whole.proofs.Floor.{floor_div_ge, floor_div_floor_mod}
use Rattle.whole.specs.Solver.{⇑, ⇓, ring}
use Rattle.times.specs.declared.Second.{Second}
use Rattle.clock.specs.Leap.{leap_lawful}
use Rattle.clock.specs.Clock.{count_in, day_of_milli, day_in}
use Rattle.clock.proofs.Theorems.{days_never_go_back}
use Rattle.clock.proofs.theory.Counts.{count_no_faster}

module _ (w : List ℤ) (l : leap_lawful w ≡ true) (m s : Second) (order : m.0 ⩽ s.0) where
  pub of_one_day : (zone k : ℤ) → s.0 -ℤ m.0 ⩽ k → pos 1000 *ℤ k ⩽ pos (floor_mod (count_in w s zone).0 86400000) → day_in w s zone ≡ day_in w m zone
  unfolding day_in day_of_milli
  of_one_day zone k near passed = λ t. record { 0 = sym days t }
    where
      days : floor_div (count_in w m zone).0 86400000 ≡ floor_div (count_in w s zone).0 86400000
      days =
          let q = floor_div (count_in w s zone).0 86400000 in
          let r = floor_mod (count_in w s zone).0 86400000 in
          let ρ = (count_in w s zone).0 ∷ (count_in w m zone).0 ∷ s.0 ∷ m.0 ∷ k ∷ q ∷ pos r ∷ [] in
          let is = floor_div_floor_mod (count_in w s zone).0 86400000 (omega arith) in
          let from : q *ℤ pos 86400000 ⩽ (count_in w m zone).0 = ⇑ ρ (search ring depth 9) (omega (arith, ⇓ ρ is (search ring depth 9), ⇓ ρ near (search ring depth 9), ⇓ ρ passed (search ring depth 9), ⇓ ρ (count_no_faster w l m s order zone) (search ring depth 9))) in
          ≤_antisymm (days_never_go_back w l m s order zone) (floor_div_ge {z = (count_in w m zone).0} {q = q} 86400000 (omega arith) from)
