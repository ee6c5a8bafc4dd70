-- A sui has 13 places, and its records are as many as their number says. Assumes nothing.
use mathlib.Core.Path.{◌≡◌, refl, ap}
use mathlib.Core.List.{List, [], ◌∷◌}
use Prim.Native.Nat.{ℕ, zero, suc, ◌≤◌, ◌<◌}
use native.Mathlib.Omega.{arith}
use lib.ListN.{length, take, length-take}
use Rattle.months.specs.declared.Month.{Month}
use Rattle.months.specs.declared.Sui.{Sui}
use Rattle.records.specs.Records.{records_of}

pub count_over : (sui : Sui) → length sui.months ≡ 13 → 13 < sui.count → 13 ≡ length (records_of sui)
count_over sui places h = simp length-take (omega (arith, places, h))

pub count_within : (sui : Sui) → length sui.months ≡ 13 → sui.count ≤ 13 → sui.count ≡ length (records_of sui)
count_within sui places h = simp length-take (omega (arith, places, h))

-- so many places of the sui are its records
take_length : (ms : List Month) (c : ℕ) → take (length (take c ms)) ms ≡ take c ms
take_length [] zero = refl
take_length [] (suc c) = refl
take_length (m ∷ ms) zero = refl
take_length (m ∷ ms) (suc c) = ap (λ (x : List Month). m ∷ x) (take_length ms c)

pub records_are : (sui : Sui) → take (length (records_of sui)) sui.months ≡ records_of sui
records_are sui = take_length sui.months sui.count
