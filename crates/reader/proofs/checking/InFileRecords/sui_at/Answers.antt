-- `reader::checking::InFile::sui_at` meets its contract. Assumes nothing.
use mathlib.Core.Path.{sym, ◌∙◌}
use native.Mathlib.Omega.{arith}
use Prim.Native.Nat.{◌<◌}
use Rattle.whole.specs.Ranges.{back}
use Rattle.almanac.specs.theory.Records.{sui_stands}
use Rattle.almanac.specs.theory.Checked.{sui_count_lem}
use Rattle.reader.proofs.checking.InFileRecords.sui_at.Goals as goal

pub returns : goal.returns
returns c =
    let records = c.args.self.now in
    let inside : c.args.i < records.counts.suis = omega (arith, sui_count_lem records.file.now records.counts, c.requires) in
    let stands = sui_stands records.file.now records.counts c.args.i inside in
    record { year_value = back c.signed4_at.result c.signed4_at.type_inv ∙ c.signed4_at.ensures ∙ sym stands.0; months_value = back c.byte_at.result c.byte_at.type_inv ∙ c.byte_at.ensures ∙ sym stands.1 }
