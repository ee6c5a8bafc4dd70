-- What a result says on paper tells the result: the verdicts that a result can say, and the one result that says such a verdict. So a promise `paper r ≡ v` is the
-- equation `r ≡ result_of v` of the whole result. Assumes nothing.
use Rattle.std.specs.Prelude.{◌≡◌, refl, ℕ, eqb, ℤ, List, if◌then◌else◌, Result, Ok, Err}
use Rattle.std.proofs.Common.{sym, ap, ◌∙◌}
use Rattle.refusals.specs.declared.Refusal.{Refusal}
use Rattle.refusals.specs.declared.Refusal.TheVariants.{LeapTable, Shape, Coefficient, TooSlow, Joint, Outside, TooEarly, NoSui, MonthCount, MonthLength, Room, Layout, Zone, NotCovered}
use Rattle.refusals.specs.Verdict.{Verdict, answered, refused, paper, refusal_number, refusal_segment}
use Rattle.inputs.specs.Inputs.{Inputs}
use Rattle.months.specs.declared.Sui.{Sui}
use Rattle.months.specs.Limits.{months_of}
use Rattle.sui.specs.Sui.{sui_for}

-- the refusal of a number and a segment
abbrev pub refusal_by : ℕ → ℕ → Refusal
refusal_by n k =
    if eqb n 1 then LeapTable else if eqb n 2 then Shape else if eqb n 3 then Coefficient k else if eqb n 4 then TooSlow k else if eqb n 5 then Joint k
    else if eqb n 6 then Outside else if eqb n 7 then TooEarly else if eqb n 8 then NoSui else if eqb n 9 then MonthCount else if eqb n 10 then MonthLength
    else if eqb n 12 then Room else if eqb n 13 then Layout else if eqb n 15 then Zone else NotCovered

-- the result of a verdict
abbrev pub result_of : {A : Type 0} → Verdict A → Result A Refusal
result_of (answered a) = Ok a
result_of (refused number segment) = Err (refusal_by number segment)

by_its_number : (r : Refusal) → refusal_by (refusal_number r) (refusal_segment r) ≡ r
by_its_number LeapTable = refl
by_its_number Shape = refl
by_its_number (Coefficient k) = refl
by_its_number (TooSlow k) = refl
by_its_number (Joint k) = refl
by_its_number Outside = refl
by_its_number TooEarly = refl
by_its_number NoSui = refl
by_its_number MonthCount = refl
by_its_number MonthLength = refl
by_its_number Room = refl
by_its_number Layout = refl
by_its_number Zone = refl
by_its_number NotCovered = refl

pub result_of_paper : {A : Type 0} (r : Result A Refusal) → result_of (paper r) ≡ r
result_of_paper (Ok a) = refl
result_of_paper (Err r) = ap Err (by_its_number r)

-- what a result says, the result of what it says says too
pub paper_result_lem : {A : Type 0} {v : Verdict A} (r : Result A Refusal) → paper r ≡ v → paper (result_of v) ≡ v
paper_result_lem {v = v} r e = ap paper (ap result_of (sym e) ∙ result_of_paper r) ∙ e

-- a promise is an equation of the whole result
pub promised_whole : {A : Type 0} {v : Verdict A} (r : Result A Refusal) → paper r ≡ v → r ≡ result_of v
promised_whole r e = sym (result_of_paper r) ∙ ap result_of e

-- of the two entry points that answer a sui
pub months_of_whole : (year : ℤ) (moons zhongqi : List ℤ) (r : Result Sui Refusal) → paper r ≡ months_of year moons zhongqi → r ≡ result_of (months_of year moons zhongqi)
months_of_whole year moons zhongqi = promised_whole

pub sui_for_whole : (i : Inputs) (zone year : ℤ) (r : Result Sui Refusal) → paper r ≡ sui_for i zone year → r ≡ result_of (sui_for i zone year)
sui_for_whole i zone year = promised_whole
