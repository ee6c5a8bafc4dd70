-- `dates::inner::days_of` meets its contract: the library's sum is that of the definition. Assumes nothing.
use Prim.Native.Nat.{ℕ, ◌<◌}
use mathlib.Core.Path.{◌≡◌, refl, sym, ◌∙◌}
use mathlib.Core.List.{List}
use native.Mathlib.Omega.{arith}
use borrow.Author.Rules.{rules}
use lib.ListN.{take}
use Rattle.std.specs.List.{sum}
use Rattle.std.proofs.lemmas.List.Recursion.{is_sum_by}
use Rattle.dates.specs.Calendar.{total}
use Rattle.dates.proofs.theory.Months.{take_below}
use Rattle.dates.proofs.inner.days_of.Goals as goal

summed : (ls : List ℕ) → total ls ≡ sum ls
summed ls = is_sum_by total (λ (n : ℕ). n) refl (λ n ns. refl) ls

pub sum-requires : goal.sum-requires
sum-requires c =
    let first = take c.args.months c.args.lengths.now in
    let small : sum first < 18446744073709551616 = omega (arith, summed first, take_below c.args.lengths.now c.args.months) in
    search rules

pub returns : goal.returns
returns c =
    let first = take c.args.months c.args.lengths.now in
    let by_library : c.sum.result ≡ sum first = search rules in
    by_library ∙ sym (summed first)
