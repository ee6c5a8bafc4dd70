-- Days that have a date: every new-moon day of accepted inputs, and the day before a day that has one and lies after one that has. Assumes nothing.
use Rattle.std.specs.Prelude.{◌≡◌, true, List, [], ◌∷◌, ℕ, ◌<◌, ℤ, pos, negsuc, ◌+ℤ◌, ◌-ℤ◌, length, get_or}
use Rattle.std.proofs.Common.{sym, ap, ◌∙◌, append-nil, arith}
use Rattle.whole.specs.Parts.{◌⩽◌}
use Rattle.whole.specs.Ranges.{Within}
use Rattle.whole.specs.Solver.{⇑, ⇓, ring}
use Rattle.whole.specs.Tabulated.{tabulate, length_tabulate, get_d_tabulate}
use Rattle.whole.specs.Tests.{in_range_says, says_in_range}
use Rattle.dates.specs.Answers.{has_date}
use Rattle.inputs.specs.Inputs.{Inputs, moon}
use Rattle.inputs.specs.Known.{Known}
use Rattle.turns.specs.Listed.{turns_of, turn_day}
use Rattle.sui.specs.Sui.{new_moon_days}
use Rattle.sui.proofs.theory.Answered.{turn_day_has_date}
use Rattle.sui.proofs.theory.Solstices.{new_moons_are}

pub new_moons_dated : (i : Inputs) (zone : ℤ) → Known i → Within 1000 zone → (k : ℕ) → k < length (new_moon_days i zone) → has_date (get_or (new_moon_days i zone) k (pos 0)) ≡ true
new_moons_dated i zone known z k h =
    let day = turn_day i.leap (moon i) zone in
    let all = turns_of (moon i) in
    let is = new_moons_are i zone known in
    let listed : k < all = omega (arith, ap length is, length_tabulate day all) in
    let here : get_or (new_moon_days i zone) k (pos 0) ≡ day k =
    ap (λ (l : List ℤ). get_or l k (pos 0)) (is ∙ sym (append-nil (tabulate day all))) ∙ get_d_tabulate day all k (pos 0) [] listed in
    rw here (turn_day_has_date i.leap (moon i) known.moon_ready zone z k listed)

-- the last day of a month: its first day has a date, and so has the first day of the next
pub last_day_dated : (first length : ℤ) → pos 1 ⩽ length → has_date first ≡ true → has_date (first +ℤ length) ≡ true → has_date (first +ℤ length -ℤ pos 1) ≡ true
unfolding has_date
last_day_dated first length some e f =
    let a = in_range_says (negsuc 149999) (pos 200000) first e in
    let b = in_range_says (negsuc 149999) (pos 200000) (first +ℤ length) f in
    let ρ = first ∷ length ∷ [] in
    says_in_range (negsuc 149999) (pos 200000) (first +ℤ length -ℤ pos 1)
    (⇑ ρ (search ring depth 9) (omega (arith, ⇓ ρ a.0 (search ring depth 9), ⇓ ρ some (search ring depth 9))))
    (⇑ ρ (search ring depth 9) (omega (arith, ⇓ ρ b.1 (search ring depth 9))))
