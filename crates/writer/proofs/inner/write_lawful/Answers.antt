-- `writer::inner::write_lawful` meets its contract. Assumes nothing.
use mathlib.Core.Path.{◌≡◌, ap, ◌∙◌}
use Prim.Native.Nat.{◌+◌, ◌*◌}
use native.Mathlib.Omega.{arith}
use Rattle.refusals.specs.Verdict.{answered}
use Rattle.content.specs.Content.{Content, content, entry_count, sui_count, month_count}
use Rattle.almanac.specs.Layout.{end_at}
use Rattle.almanac.specs.theory.Rules.{lawful_fits}
use Rattle.almanac.specs.theory.Writer.{no_room, all_written}
use Rattle.writer.proofs.inner.write_lawful.Goals as goal
use Rattle.writer.proofs.inner.write_lawful.Goals.{Start}

-- the content to be written
abbrev content-of : Start → Content
content-of start = let a = start.args in content a.leap.now a.suis.now a.months.now

pub returns-then-file-end : goal.returns-then-file-end
returns-then-file-end c = record { result_value = (no_room (content-of c.before.before.before) c.args.file.now c.requires (omega (arith, c.if-file-end.true))).0; file_after = (no_room (content-of c.before.before.before) c.args.file.now c.requires (omega (arith, c.if-file-end.true))).1 }

pub put_content-requires : goal.put_content-requires
put_content-requires c = record { fits_layout = lawful_fits (content-of c.before.before.before) c.requires; months_in_bounds = omega (arith, c.if-file-end.false) }

pub returns : goal.returns
returns c =
    let n = content-of c.before.before.before.before.before.before.before in
    let written = all_written n c.args.file.now c.requires (omega (arith, c.if-file-end.false)) in
    let ends : 8 + 8 * entry_count n + 5 * sui_count n + 4 + 9 * month_count n ≡ end_at (entry_count n) (sui_count n) (month_count n) = omega arith in record { result_value = ap answered ends ∙ written.0; file_after = c.put_content.ensures ∙ written.1 }
