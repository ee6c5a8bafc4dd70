-- A sui of the month rule has all the months it counts, 12 or 13, so that `months_into` and `sui_into` answer its count and store each of its months. Assumes nothing.
use Rattle.std.specs.Prelude.{◌≡◌, List, ℤ, length}
use Rattle.std.proofs.Common.{arith, length-take, length-append}
use Rattle.whole.specs.Tabulated.{length_tabulate}
use Rattle.refusals.specs.Verdict.{answered}
use Rattle.months.specs.declared.Sui.{Sui}
use Rattle.months.specs.Months.{numbered}
use Rattle.months.specs.Limits.{months_of}
use Rattle.months.proofs.Theorems.{accepted_is_sui}
use Rattle.months.proofs.theory.Suis as suis
use Rattle.months.proofs.theory.Suis.{IsSui, days_of_sui}
use Rattle.inputs.specs.Inputs.{Inputs}
use Rattle.sui.specs.Sui.{sui_for}
use Rattle.sui.proofs.Theorems.{answered_is_sui}
use Rattle.records.specs.Records.{records_of}

has_its_months : {year : ℤ} {moons zhongqi : List ℤ} {sui : Sui} → IsSui year moons zhongqi sui → length (records_of sui) ≡ sui.count
unfolding numbered
has_its_months {year} {moons} {zhongqi} {sui} s =
    let found = days_of_sui year moons zhongqi s.rule in
    let days = found.0 in
    rw (← suis.sui_is year days found.2) (simp (length-take, length-append, length_tabulate) (omega arith))

pub months_into_counts : (year : ℤ) (moons zhongqi : List ℤ) {sui : Sui} → months_of year moons zhongqi ≡ answered sui → length (records_of sui) ≡ sui.count
months_into_counts year moons zhongqi e = has_its_months (accepted_is_sui year moons zhongqi e)

pub sui_into_counts : (i : Inputs) (zone year : ℤ) {sui : Sui} → sui_for i zone year ≡ answered sui → length (records_of sui) ≡ sui.count
sui_into_counts i zone year e = has_its_months (answered_is_sui i zone year e).is_sui
