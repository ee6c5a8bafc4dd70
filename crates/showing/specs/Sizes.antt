-- How much room a program needs: no lawful file is longer than 16,140 bytes, and no text of one longer than 73,260. Assumes nothing.
use Rattle.std.specs.Prelude.{◌≡◌, List, ℕ, ◌≤◌, length}
use Rattle.std.proofs.Common.{arith}
use Rattle.refusals.specs.Verdict.{answered}
use Rattle.content.specs.Content.{Content, month_count}
use Rattle.almanac.specs.Layout.{file_of}
use Rattle.almanac.specs.Answers.{counts_in, checked_file}
use Rattle.almanac.specs.Theorems.{read_is_lawful}
use Rattle.almanac.proofs.theory.Reader.{Checked, checked}
use Rattle.almanac.specs.theory.Rules.{rules, months_few}
use Rattle.showing.specs.Shown.{text_of}
use Rattle.showing.specs.theory.Widths.{text_length}

module _ (file : List ℕ) (c : Content) (e : file_of file ≡ answered c) where
  is_checked : Checked file (counts_in c)
  unfolding checked_file
  is_checked = checked file (counts_in c) (rw e)

  pub file_size_lem : length file ≤ 16140
  file_size_lem = omega (arith, is_checked.ends, is_checked.entries_few, is_checked.suis_few, is_checked.months_few)

  pub text_size : length (text_of c) ≤ 73260
  unfolding text_of
  text_size = omega (arith, text_length c.months (month_count c), months_few c (rules c (read_is_lawful file c e)))
