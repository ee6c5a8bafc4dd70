-- `reader::checking::lawful_at` meets its contract. Assumes nothing.
use mathlib.Core.Path.{◌≡◌, sym, ap, ◌∙◌}
use native.Mathlib.Omega.{arith}
use lib.ListN.{length}
use Rattle.clock.specs.Leap.{leap_lawful}
use Rattle.almanac.specs.Layout.{content_at}
use Rattle.almanac.specs.theory.Checked.{entries_of, sui_count_lem, months_of_lem, leap_read, too_many_entries, too_many_suis, no_suis, table_broken, suis_decide_file}
use Rattle.reader.proofs.checking.lawful_at.Goals as goal
use Rattle.reader.proofs.checking.lawful_at.Goals.{After-leap_lawful}

-- the leap table that was read is the file's
judged : (c : After-leap_lawful) → (let a = c.args in c.leap_lawful.result ≡ leap_lawful (content_at a.file.now a.n).leap)
judged c = let a = c.args in c.leap_lawful.ensures ∙ ap leap_lawful (leap_read a.file.now a.n _ _ c.read_entries.ensures)

pub returns-then-n-gt64 : goal.returns-then-n-gt64
returns-then-n-gt64 c = let a = c.args in too_many_entries a.file.now a.n c.if-n-gt64.true

pub returns-then-n-gt128 : goal.returns-then-n-gt128
returns-then-n-gt128 c = let a = c.args in too_many_suis a.file.now a.n c.if-n-gt128.true

pub returns-then-n-lt1 : goal.returns-then-n-lt1
returns-then-n-lt1 c = let a = c.args in no_suis a.file.now a.n c.if-n-lt1.true

pub slice_bounds-leap_lawful-end : goal.slice_bounds-leap_lawful-end
slice_bounds-leap_lawful-end c =
    let a = c.args in
    sym (ap length (leap_read a.file.now a.n _ _ c.read_entries.ensures) ∙ entries_of a.file.now a.n)

pub returns-then-not-leap_lawful : goal.returns-then-not-leap_lawful
returns-then-not-leap_lawful c =
    let a = c.args in
    table_broken a.file.now a.n (sym (judged (goal.at.returns-then-not-leap_lawful c).After-leap_lawful) ∙ c.if-not-leap_lawful.true)

pub suis_lawful-requires-clause-some : goal.suis_lawful-requires-clause-some
suis_lawful-requires-clause-some c = omega (arith, sui_count_lem c.args.file.now c.args.n, c.if-n-lt1.false)

pub suis_lawful-requires-clause-whole : goal.suis_lawful-requires-clause-whole
suis_lawful-requires-clause-whole c = omega (arith, months_of_lem c.args.file.now c.args.n)

pub returns : goal.returns
returns c =
    let a = c.args in
    c.suis_lawful.ensures ∙ suis_decide_file a.file.now a.n c.if-n-lt1.false c.if-n-gt128.false (sym (judged (goal.at.returns c).After-leap_lawful) ∙ c.if-not-leap_lawful.false)
