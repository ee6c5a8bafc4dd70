-- What a test that is a conjunction or a disjunction tells. Assumes nothing.
use Rattle.std.specs.Prelude.{◌≡◌, refl, Bool, true, false, ◌&&◌, ◌||◌, ℕ}
use Rattle.std.proofs.Common.{arith}

pub both : (a b : Bool) → (a && b) ≡ true → (a ≡ true) × (b ≡ true)
both true b e = (refl, e)
both false b e = let z : ◌≡◌ {A = ℕ} 0 1 = cc in absurd (omega arith)

pub second_fails : (a b : Bool) → b ≡ false → (a && b) ≡ false
second_fails true b e = e
second_fails false b e = refl

pub first_fails : (a b : Bool) → a ≡ false → (a && b) ≡ false
first_fails a b e = rw e

pub both_hold : (a b : Bool) → a ≡ true → b ≡ true → (a && b) ≡ true
both_hold a b e f = rw (e, f)

-- no test is both
pub not_both : {X : Type 0} {b : Bool} → b ≡ true → b ≡ false → X
not_both p q = let z : ◌≡◌ {A = ℕ} 0 1 = cc in absurd (omega arith)

pub neither : (a b : Bool) → (a || b) ≡ false → (a ≡ false) × (b ≡ false)
neither false b e = (refl, e)
neither true b e = let z : ◌≡◌ {A = ℕ} 0 1 = cc in absurd (omega arith)

pub second_holds : (a b : Bool) → b ≡ true → (a || b) ≡ true
second_holds true b e = refl
second_holds false b e = e

pub none_of : (a b : Bool) → a ≡ false → b ≡ false → (a || b) ≡ false
none_of a b p q = rw (p, q)

-- as a program tests it: the second only where the first is false
pub first_holds : (a b : Bool) → a ≡ true → a ≡ (a || b)
first_holds a b e = rw e

pub second_decides : (a b : Bool) → a ≡ false → b ≡ (a || b)
second_decides a b e = rw e
