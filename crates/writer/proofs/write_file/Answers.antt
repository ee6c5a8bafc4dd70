-- `writer::write_file` meets its contract. Assumes nothing.
use mathlib.Core.Path.{◌≡◌, sym, ◌∙◌}
use mathlib.Core.Bool.{true}
use Rattle.content.specs.Content.{content, lawful}
use Rattle.almanac.specs.theory.Writer.{not_lawful, is_lawful}
use Rattle.writer.proofs.write_file.Goals as goal
use Rattle.writer.proofs.write_file.Goals.{Else-not-is_lawful}

-- it is judged lawful
judged_lawful : (judged : Else-not-is_lawful) → lawful (content judged.args.leap.now judged.args.suis.now judged.args.months.now) ≡ true
judged_lawful judged = sym judged.is_lawful.ensures ∙ judged.if-not-is_lawful.false

pub returns-then-not-is_lawful : goal.returns-then-not-is_lawful
returns-then-not-is_lawful c = record { result_value = (not_lawful (content c.args.leap.now c.args.suis.now c.args.months.now) c.args.file.now (sym c.is_lawful.ensures ∙ c.if-not-is_lawful.true)).0; file_after = (not_lawful (content c.args.leap.now c.args.suis.now c.args.months.now) c.args.file.now (sym c.is_lawful.ensures ∙ c.if-not-is_lawful.true)).1 }

pub write_lawful-requires : goal.write_lawful-requires
write_lawful-requires c = judged_lawful (goal.at.write_lawful-requires c).Else-not-is_lawful

pub returns : goal.returns
returns c = record { result_value = (is_lawful (content c.args.leap.now c.args.suis.now c.args.months.now) c.args.file.now (judged_lawful (goal.at.returns c).Else-not-is_lawful) (c.write_lawful.ensures.result_value, c.write_lawful.ensures.file_after)).0; file_after = (is_lawful (content c.args.leap.now c.args.suis.now c.args.months.now) c.args.file.now (judged_lawful (goal.at.returns c).Else-not-is_lawful) (c.write_lawful.ensures.result_value, c.write_lawful.ensures.file_after)).1 }
