-- `conversion::inner::leap_lawful` meets its contract: the library's answer about all entries is that of the definition. Assumes nothing.
use Prim.Native.Nat.{ℕ, ◌<◌}
use mathlib.Core.Bool.{Bool, true, false}
use mathlib.Core.Path.{◌≡◌, sym, ap, ◌∙◌}
use native.Mathlib.Omega.{arith}
use borrow.Author.Rules.{rules}
use lib.ListN.{length, get_or}
use Rattle.std.specs.Bool.{MatchBool}
use Rattle.std.specs.List.{AllWithin, HoldsAt, range_with_len}
use Rattle.std.proofs.lemmas.List.FromFn.{length-range_with_len, get_or-range_with_len}
use Rattle.std.proofs.lemmas.Iterator.{YieldsList-from_range, cases_from_all}
use Rattle.whole.specs.Below.{every, every_true, every_false}
use Rattle.clock.specs.Leap.{entries, good_entry, leap_lawful}
use Rattle.conversion.proofs.inner.leap_lawful.Goals as goal

-- what the library answers about the numbers below n
module _ (test : ℕ → Bool) (n : ℕ) where
  at_place : (i : ℕ) → i < n → i ≡ get_or (range_with_len 0 n) i 0
  at_place i h = omega (arith, get_or-range_with_len 0 n i 0 h)

  answered : (r : Bool) → MatchBool r (AllWithin (λ i. test i ≡ true) (range_with_len 0 n) 0 (length (range_with_len 0 n))) ((k : ℕ) × (k < length (range_with_len 0 n)) × HoldsAt (λ i. test i ≡ false) (range_with_len 0 n) k) → r ≡ every test n
  answered true all = sym (every_true test n (λ i h. ap test (at_place i h) ∙ all i 0 (omega arith) (omega (arith, length-range_with_len 0 n))))
  answered false (i, less, one) = let few : i < n = omega (arith, length-range_with_len 0 n) in sym (every_false test n i few (ap test (at_place i few) ∙ one 0))

pub returns-then-not-whole_pairs : goal.returns-then-not-whole_pairs
unfolding leap_lawful
returns-then-not-whole_pairs c = rw (sym c.whole_pairs.ensures ∙ c.if-not-whole_pairs.true)

pub returns : goal.returns
unfolding leap_lawful
returns c =
    let w = c.args.leap.now in
    let test = good_entry w in
    rw (sym c.whole_pairs.ensures ∙ c.if-not-whole_pairs.false)
    (answered test (entries w) c.all.result (cases_from_all _ _ c.all.result (λ i. test i ≡ true) (λ i. test i ≡ false) c.all.ensures.ran (YieldsList-from_range 0 (entries w) (entries w) (search rules) (omega arith)) (λ i q k. search rules) (λ i q k. search rules)))
