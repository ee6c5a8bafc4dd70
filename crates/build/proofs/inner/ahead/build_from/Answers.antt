-- `build::inner::ahead::build_from` meets its contract. In the needs, `start` is the function's entry. Assumes nothing.
use Rattle.std.specs.Prelude.{Ok}
use mathlib.Core.Path.{◌≡◌, refl, sym, ap, ◌∙◌}
use mathlib.Core.List.{List}
use Prim.Native.Nat.{ℕ, ◌*◌, ◌/◌, ◌≤◌}
use native.Mathlib.Omega.{arith}
use lib.ListN.{length, length-replicate}
use lib.Seq.{length-take-le}
use mir.Syntax.{w64}
use mir.Val.{to_z, of_z}
use mir.Facts.{to_z-of_z}
use Rattle.refusals.specs.Verdict.{passed_on, Verdict, answered, paper}
use Rattle.inputs.specs.Inputs.{Inputs, inputs}
use Rattle.months.specs.declared.Sui.{Sui}
use Rattle.built.specs.Build.{suis_from, month_words}
use Rattle.build.specs.theory.Put.{months_in}
use Rattle.build.specs.theory.File.{months_few, years_refused, years_found, years_stop, front_suis, sui_length, month_length_lem, front_months, words_lawful, words_written}
use Rattle.build.proofs.inner.ahead.build_from.Goals as goal
use Rattle.build.proofs.inner.ahead.build_from.Goals.{After-put_years}

abbrev Put : Type 0
Put = After-put_years

abbrev inputs_of : Put → Inputs
inputs_of c = let a = c.args in inputs a.leap.now a.sunstart.0 a.sun.now a.moonstart.0 a.moon.now

-- the suis of the years
abbrev suis_of : Put → Verdict (List Sui)
suis_of c = suis_from (inputs_of c) c.args.zone c.args.first c.args.n

at_years : (c : Put) → paper c.put_years.result ≡ months_in (suis_of c)
at_years c = (rw (to_z-of_z c.ranges.zone, to_z-of_z c.ranges.first) at c.put_years.ensures).result_value

found_with : (c : Put) {m : ℕ} → c.put_years.result ≡ Ok m → (suis : List Sui) × (suis_of c ≡ answered suis) × (length (month_words suis) / 3 ≡ m)
found_with c e = years_found (suis_of c) (sym (ap paper e) ∙ at_years c)

-- their months have room
few_months : (c : Put) {m : ℕ} → c.put_years.result ≡ Ok m → 3 * m ≤ 4992
few_months c e =
    let start = c in
    let a = start.args in
    let found = found_with c e in
    omega (arith, start.requires.begun.few_years, month_length_lem (inputs_of start) a.zone a.first a.n a.file.now found.1 found.2, months_few (inputs_of start) a.zone a.first start.requires.begun.is_known a.n found.1)

pub slice_bounds-put_years-end-2 : goal.slice_bounds-put_years-end-2
slice_bounds-put_years-end-2 c = refl

pub put_years-requires : goal.put_years-requires
put_years-requires c =
    let few = c.requires.begun.few_years in
    rw (to_z-of_z c.ranges.zone, to_z-of_z c.ranges.first) (record { walks = c.requires; n_in_bounds = omega (arith, c.sui_words-suis.ensures); n_in_bounds_2 = rw (length-replicate 4992 (to_z w64 (of_z w64 c.args.first))) (omega arith) })

pub slice_bounds-write_lawful-end : goal.slice_bounds-write_lawful-end
slice_bounds-write_lawful-end c =
    let start = (goal.at.slice_bounds-write_lawful-end c).After-put_years in
    let a = start.args in
    let found = found_with (goal.at.slice_bounds-write_lawful-end c).After-put_years c.in_ok-count.was in
    let words = (rw (to_z-of_z start.ranges.zone, to_z-of_z start.ranges.first) at c.put_years.ensures).suis_after found.0 found.1 in
    sym (ap length (front_suis (inputs_of start) a.zone a.first a.n a.file.now found.1 _ words) ∙ sui_length (inputs_of start) a.zone a.first a.n a.file.now found.1)

pub overflow_mul-months : goal.overflow_mul-months
overflow_mul-months c = record { fits = omega (arith, few_months (goal.at.overflow_mul-months c).After-put_years c.in_ok-count.was) }

pub slice_bounds-months-end : goal.slice_bounds-months-end
slice_bounds-months-end c = let few = few_months (goal.at.slice_bounds-months-end c).After-put_years c.in_ok-count.was in omega (arith, few)

pub slice_bounds-write_lawful-end-2 : goal.slice_bounds-write_lawful-end-2
slice_bounds-write_lawful-end-2 c = sym (length-take-le _ _ (omega (arith, few_months (goal.at.slice_bounds-write_lawful-end-2 c).After-put_years c.in_ok-count.was)))

pub write_lawful-requires : goal.write_lawful-requires
write_lawful-requires c =
    let start = (goal.at.write_lawful-requires c).After-put_years in
    let a = start.args in
    let b = start.requires.begun in
    let found = found_with (goal.at.write_lawful-requires c).After-put_years c.in_ok-count.was in
    let told = rw (to_z-of_z start.ranges.zone, to_z-of_z start.ranges.first) at c.put_years.ensures in
    words_lawful (inputs_of start) a.zone a.first a.n a.file.now found.1
    (front_suis (inputs_of start) a.zone a.first a.n a.file.now found.1 _ (told.suis_after found.0 found.1))
    (front_months (inputs_of start) a.zone a.first a.n a.file.now found.1 _ found.2 (told.months_after found.0 found.1))
    b.is_known b.suns_searched.zone_small b.some_years b.few_years

pub returns-in_err-count : goal.returns-in_err-count
returns-in_err-count c =
    let put = (goal.at.returns-in_err-count c).After-put_years in
    let start = put in
    let a = start.args in
    let stop = years_stop (inputs_of start) a.zone a.first a.n a.file.now (years_refused (suis_of start) (sym (ap paper c.in_err-count.was) ∙ at_years put)) in
    record { result_value = passed_on c.from_residual.result c.in_err-count.field-0.0 c.from_residual.ensures.1 stop.0; file_after = stop.1 }

pub returns : goal.returns
returns c =
    let put = (goal.at.returns c).After-put_years in
    let start = put in
    let a = start.args in
    let found = found_with put c.in_ok-count.was in
    let told = rw (to_z-of_z start.ranges.zone, to_z-of_z start.ranges.first) at c.put_years.ensures in
    let written = words_written (inputs_of start) a.zone a.first a.n a.file.now found.1
    (front_suis (inputs_of start) a.zone a.first a.n a.file.now found.1 _ (told.suis_after found.0 found.1))
    (front_months (inputs_of start) a.zone a.first a.n a.file.now found.1 _ found.2 (told.months_after found.0 found.1))
    (c.write_lawful.ensures.result_value, c.write_lawful.ensures.file_after) in
    record { result_value = written.0; file_after = written.1 }
