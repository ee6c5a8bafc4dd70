-- `reader::checking::InFile::month_at` meets its contract. Assumes nothing.
use mathlib.Core.Path.{sym, ◌∙◌}
use native.Mathlib.Omega.{arith}
use Prim.Native.Nat.{◌<◌}
use Rattle.whole.specs.Ranges.{back}
use Rattle.almanac.specs.theory.Records.{month_stands}
use Rattle.almanac.specs.theory.Checked.{month_count_lem}
use Rattle.reader.proofs.checking.InFileRecords.month_at.Goals as goal

pub returns : goal.returns
returns c =
    let records = c.args.self.now in
    let inside : c.args.k < records.counts.months = omega (arith, month_count_lem records.file.now records.counts, c.requires) in
    let stands = month_stands records.file.now records.counts c.args.k inside in
    λ t. record {
      handle = (back c.unsigned4_at.result c.unsigned4_at.type_inv ∙ c.unsigned4_at.ensures ∙ sym stands.0) t;
      first = (back c.signed4_at.result c.signed4_at.type_inv ∙ c.signed4_at.ensures ∙ sym stands.1.0) t;
      length = (back c.byte_at.result c.byte_at.type_inv ∙ c.byte_at.ensures ∙ sym stands.1.1) t;
    }
