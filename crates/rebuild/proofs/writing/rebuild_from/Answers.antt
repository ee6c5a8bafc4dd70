-- `rebuild::writing::rebuild_from` meets its contract. In the needs, `start` is the function's entry. Assumes nothing.
use Rattle.std.specs.Prelude.{Ok}
use Rattle.refusals.specs.Verdict.{passed_on, paper}
use mathlib.Core.Path.{◌≡◌, refl, sym, ap, ◌∙◌}
use Prim.Native.Nat.{ℕ, ◌*◌, ◌≤◌}
use native.Mathlib.Omega.{arith}
use lib.ListN.{length, take, length-replicate}
use lib.Seq.{take_at}
use mir.Syntax.{w64}
use mir.Val.{to_z, of_z}
use mir.Facts.{to_z-of_z}
use Rattle.inputs.specs.Inputs.{inputs}
use Rattle.content.specs.Content.{Content, content}
use Rattle.almanac.specs.Answers.{bytes_into}
use Rattle.built.specs.Build.{sui_words, month_words, bytes_of_years}
use Rattle.build.specs.theory.File.{months_few, front_suis, sui_length, month_length_lem, front_months, words_lawful}
use Rattle.kept_or_made.specs.Again.{years_again, listed_again}
use Rattle.kept_or_made.specs.theory.Walking.{YearsFound, years_refused, years_found, listed_few}
use Rattle.new_file.specs.NewFile.{not_built, same_promises}
use Rattle.rebuild.specs.theory.Written.{fresh_refused, fresh_bytes_lem}
use Rattle.kept_or_made.specs.declared.inner.years.Again.{Again}
use Rattle.rebuild.proofs.writing.rebuild_from.Goals as goal
use Rattle.rebuild.proofs.writing.rebuild_from.Goals.{After-put_years_again}

at_years : (c : After-put_years_again) → (let a = c.args in paper c.put_years_again.result ≡ years_again (inputs c.args.leap.now c.args.sunstart.0 c.args.sun.now c.args.moonstart.0 c.args.moon.now) a.zone a.first a.before.now a.n)
at_years c = rw (to_z-of_z c.ranges.zone, to_z-of_z c.ranges.first) at c.put_years_again.ensures.result_value

found_with : (c : After-put_years_again) {r : Again} → c.put_years_again.result ≡ Ok r → (let a = c.args in YearsFound (inputs c.args.leap.now c.args.sunstart.0 c.args.sun.now c.args.moonstart.0 c.args.moon.now) a.zone a.first a.before.now a.n r)
found_with c e = let a = c.args in years_found (inputs c.args.leap.now c.args.sunstart.0 c.args.sun.now c.args.moonstart.0 c.args.moon.now) a.zone a.first a.before.now a.n (sym (ap paper e) ∙ at_years c)

-- their months have room, and their years
few_months : (c : After-put_years_again) {r : Again} → c.put_years_again.result ≡ Ok r → 3 * r.months ≤ 4992
few_months c e =
    let a = c.args in
    let b = c.requires.walks.begun in
    let found = found_with c e in
    omega (arith, b.few_years, month_length_lem (inputs c.args.leap.now c.args.sunstart.0 c.args.sun.now c.args.moonstart.0 c.args.moon.now) a.zone a.first a.n a.file.now found.found found.so_many_months, months_few (inputs c.args.leap.now c.args.sunstart.0 c.args.sun.now c.args.moonstart.0 c.args.moon.now) a.zone a.first b.is_known a.n found.found)

few_years : (c : After-put_years_again) {r : Again} → c.put_years_again.result ≡ Ok r → r.years ≤ 128
few_years c e =
    let a = c.args in
    omega (arith, c.requires.walks.begun.few_years, (found_with c e).so_many_years, listed_few (inputs c.args.leap.now c.args.sunstart.0 c.args.sun.now c.args.moonstart.0 c.args.moon.now) a.zone a.first a.before.now a.n)

-- the words that were put stand in front
suis_in_front : (c : After-put_years_again) {r : Again} (e : c.put_years_again.result ≡ Ok r) → take (2 * c.args.n) c.put_years_again.new.suis ≡ sui_words c.args.first (found_with c e).suis
suis_in_front c e =
    let a = c.args in
    let found = found_with c e in
    front_suis (inputs c.args.leap.now c.args.sunstart.0 c.args.sun.now c.args.moonstart.0 c.args.moon.now) a.zone a.first a.n a.file.now found.found _ ((rw (to_z-of_z c.ranges.zone, to_z-of_z c.ranges.first) at c.put_years_again.ensures.suis_after) found.suis found.found)

months_in_front : (c : After-put_years_again) {r : Again} (e : c.put_years_again.result ≡ Ok r) → take (3 * r.months) c.put_years_again.new.months ≡ month_words (found_with c e).suis
months_in_front c e =
    let a = c.args in
    let found = found_with c e in
    front_months (inputs c.args.leap.now c.args.sunstart.0 c.args.sun.now c.args.moonstart.0 c.args.moon.now) a.zone a.first a.n a.file.now found.found _ found.so_many_months ((rw (to_z-of_z c.ranges.zone, to_z-of_z c.ranges.first) at c.put_years_again.ensures.months_after) found.suis found.found)

years_in_front : (c : After-put_years_again) {r : Again} (e : c.put_years_again.result ≡ Ok r) → take r.years c.put_years_again.new.kept ≡ (listed_again (inputs c.args.leap.now c.args.sunstart.0 c.args.sun.now c.args.moonstart.0 c.args.moon.now) c.args.zone c.args.first c.args.before.now c.args.n)
years_in_front c {r} e =
    let found = found_with c e in
    ap (take r.years) ((rw (to_z-of_z c.ranges.zone, to_z-of_z c.ranges.first) at c.put_years_again.ensures.kept_after) found.suis found.found) ∙ take_at (listed_again (inputs c.args.leap.now c.args.sunstart.0 c.args.sun.now c.args.moonstart.0 c.args.moon.now) c.args.zone c.args.first c.args.before.now c.args.n) _ r.years found.so_many_years

-- the fresh build's bytes are those of these words
abbrev content_of : (c : After-put_years_again) → ℕ → Content
content_of c m = content c.args.leap.now (take (2 * c.args.n) c.put_years_again.new.suis) (take (3 * m) c.put_years_again.new.months)

fresh : (c : After-put_years_again) {r : Again} (e : c.put_years_again.result ≡ Ok r) → (bytes_of_years (inputs c.args.leap.now c.args.sunstart.0 c.args.sun.now c.args.moonstart.0 c.args.moon.now) c.args.zone c.args.first c.args.n (length c.args.file.now)) ≡ bytes_into (content_of c r.months) (length c.args.file.now)
fresh c e = let a = c.args in fresh_bytes_lem (inputs c.args.leap.now c.args.sunstart.0 c.args.sun.now c.args.moonstart.0 c.args.moon.now) a.zone a.first a.n (length a.file.now) (found_with c e).found (suis_in_front c e) (months_in_front c e)

pub put_years_again-requires : goal.put_years_again-requires
put_years_again-requires c =
    let few = c.requires.walks.begun.few_years in
    rw (to_z-of_z c.ranges.zone, to_z-of_z c.ranges.first) (record { walks = c.requires.walks; copies = c.requires.copies; n_in_bounds = omega (arith, c.sui_words-suis.ensures); n_in_bounds_2 = rw (length-replicate 4992 (to_z w64 (of_z w64 c.args.first))) (omega arith); n_in_bounds_3 = omega (arith, c.year_words-kept.ensures) })

pub slice_bounds-write_both-end : goal.slice_bounds-write_both-end
slice_bounds-write_both-end c =
    let a = c.args in
    sym (ap length (suis_in_front (goal.at.slice_bounds-write_both-end c).After-put_years_again c.in_ok-put.was) ∙ sui_length (inputs c.args.leap.now c.args.sunstart.0 c.args.sun.now c.args.moonstart.0 c.args.moon.now) a.zone a.first a.n a.file.now (found_with (goal.at.slice_bounds-write_both-end c).After-put_years_again c.in_ok-put.was).found)

pub overflow_mul-months : goal.overflow_mul-months
overflow_mul-months c = record { fits = omega (arith, few_months (goal.at.overflow_mul-months c).After-put_years_again c.in_ok-put.was) }

pub slice_bounds-months-end : goal.slice_bounds-months-end
slice_bounds-months-end c = let few = few_months (goal.at.slice_bounds-months-end c).After-put_years_again c.in_ok-put.was in omega (arith, few)

pub slice_bounds-write_both-end-2 : goal.slice_bounds-write_both-end-2
slice_bounds-write_both-end-2 c =
    let a = c.args in
    let found = found_with (goal.at.slice_bounds-write_both-end-2 c).After-put_years_again c.in_ok-put.was in
    sym (ap length (months_in_front (goal.at.slice_bounds-write_both-end-2 c).After-put_years_again c.in_ok-put.was) ∙ month_length_lem (inputs c.args.leap.now c.args.sunstart.0 c.args.sun.now c.args.moonstart.0 c.args.moon.now) a.zone a.first a.n a.file.now found.found found.so_many_months)

pub slice_bounds-kept-end : goal.slice_bounds-kept-end
slice_bounds-kept-end c = let few = few_years (goal.at.slice_bounds-kept-end c).After-put_years_again c.in_ok-put.was in omega (arith, few)

pub slice_bounds-write_both-end-3 : goal.slice_bounds-write_both-end-3
slice_bounds-write_both-end-3 c = sym (ap length (years_in_front (goal.at.slice_bounds-write_both-end-3 c).After-put_years_again c.in_ok-put.was) ∙ (found_with (goal.at.slice_bounds-write_both-end-3 c).After-put_years_again c.in_ok-put.was).so_many_years)

pub write_both-requires : goal.write_both-requires
write_both-requires c =
    let a = c.args in
    let b = c.requires.walks.begun in
    words_lawful (inputs c.args.leap.now c.args.sunstart.0 c.args.sun.now c.args.moonstart.0 c.args.moon.now) a.zone a.first a.n a.file.now (found_with (goal.at.write_both-requires c).After-put_years_again c.in_ok-put.was).found (suis_in_front (goal.at.write_both-requires c).After-put_years_again c.in_ok-put.was) (months_in_front (goal.at.write_both-requires c).After-put_years_again c.in_ok-put.was) b.is_known b.suns_searched.zone_small b.some_years b.few_years

pub returns-in_err-put : goal.returns-in_err-put
returns-in_err-put c =
    let a = c.args in
    let none = years_refused (inputs c.args.leap.now c.args.sunstart.0 c.args.sun.now c.args.moonstart.0 c.args.moon.now) a.zone a.first a.before.now a.n (sym (ap paper c.in_err-put.was) ∙ at_years (goal.at.returns-in_err-put c).After-put_years_again) in
    let all = not_built (bytes_of_years (inputs c.args.leap.now c.args.sunstart.0 c.args.sun.now c.args.moonstart.0 c.args.moon.now) c.args.zone c.args.first c.args.n (length c.args.file.now)) (listed_again (inputs c.args.leap.now c.args.sunstart.0 c.args.sun.now c.args.moonstart.0 c.args.moon.now) c.args.zone c.args.first c.args.before.now c.args.n) a.file.now a.years.now (fresh_refused (inputs c.args.leap.now c.args.sunstart.0 c.args.sun.now c.args.moonstart.0 c.args.moon.now) a.zone a.first a.n (length a.file.now) none) refl refl in
    record { result_value = passed_on c.from_residual.result c.in_err-put.field-0.0 c.from_residual.ensures.1 all.0; file_after = all.1.0; years_after = all.1.1 }

pub returns : goal.returns
returns c =
    let a = c.args in
    let all = same_promises (fresh (goal.at.returns c).After-put_years_again c.in_ok-put.was) (sym (years_in_front (goal.at.returns c).After-put_years_again c.in_ok-put.was)) a.file.now a.years.now (c.write_both.ensures.result_value, (c.write_both.ensures.file_after, c.write_both.ensures.years_after)) in
    record { result_value = all.0; file_after = all.1.0; years_after = all.1.1 }
