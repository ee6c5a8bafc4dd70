-- "any two results allowed are shown to be the same result": for both entry points of `serving`. Of a returned part that is where it begins, and what it holds.
-- Assumes nothing.
use Rattle.std.specs.Prelude.{◌≡◌, List, ℤ, Result}
use Rattle.std.specs.Borrow.{Bor}
use Rattle.whole.specs.PartOf.{one_part}
use Rattle.refusals.specs.Verdict.{OneToOne, one_result, paper, results_apart}
use Rattle.series.specs.Series.{Series}
use Rattle.served.specs.declared.Served.{Served}
use Rattle.served.specs.declared.Side.TheVariants.{Near, Long}
use Rattle.served.specs.Served.{serves, part_served, IsPart}
use Rattle.refusals.specs.declared.Refusal.{Refusal}

pub serves_apart : OneToOne (paper {A = Served})
serves_apart = results_apart

module _ (n l : Series) (second : ℤ) where
  pub serves_one_result : (a b : Result Served Refusal) → paper a ≡ serves n l second → paper b ≡ serves n l second → a ≡ b
  serves_one_result = one_result paper serves_apart

  pub serving_part_one_result : (nears longs a b : Bor (List ℤ)) → IsPart (part_served (serves n l second)) nears longs a → IsPart (part_served (serves n l second)) nears longs b → (a.ref_ptr ≡ b.ref_ptr) × (a.now ≡ b.now)
  serving_part_one_result nears longs a b p q = one_part a b p q
