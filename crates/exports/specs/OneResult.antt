-- Any two results that the promise of an export allows are the same result: the number returned, the record, and each lent place. One law serves all; for each export
-- it is named with what the export answers. Assumes nothing.
use Rattle.std.specs.Prelude.{◌≡◌, List, ℕ, ℤ, length}
use Rattle.std.proofs.Common.{sym, ◌∙◌}
use Rattle.refusals.specs.Verdict.{Verdict, answered, one_content}
use Rattle.refusals.specs.Lent.{written_into}
use Rattle.dates.specs.Answers.{date_of, day_of}
use Rattle.clock.specs.Clock.{day_of_milli}
use Rattle.clock.specs.Answers.{leap_judged, milli_of, day_of_second, shown_of}
use Rattle.series.specs.Series.{Series}
use Rattle.series.specs.Acceptance.{series_judged, value_of}
use Rattle.served.specs.Served.{serves}
use Rattle.replacing.specs.Replaced.{segment_replaced, segment_checked, held_after}
use Rattle.marks.specs.Answers.{counted_marks, listed_into, words_listed}
use Rattle.inputs.specs.Inputs.{Inputs, inputs_judged}
use Rattle.times.specs.declared.Day.{Day}
use Rattle.times.specs.declared.Milli.{Milli}
use Rattle.times.specs.declared.Second.{Second}
use Rattle.dates.specs.declared.Date.{Date}
use Rattle.months.specs.Limits.{months_of}
use Rattle.sui.specs.Sui.{sui_for}
use Rattle.content.specs.Content.{Content}
use Rattle.almanac.specs.Answers.{checked_file, content_read, read_file, bytes_to_write, all_bytes, written_file}
use Rattle.built.specs.Build.{bytes_built, file_built}
use Rattle.rebuilt.specs.Rebuild.{rebuilt, counted, new_bytes, kept_years}
use Rattle.answers.specs.Record.{number_of, record_of, no_numbers, date_numbers, day_numbers, milli_numbers, shown_numbers, value_numbers, served_numbers, count_numbers, file_numbers, rebuilt_numbers}
use Rattle.answers.specs.Months.{sui_into, sui_words, sui_numbers}

-- ---- the law
-- a number returned and a record that the promise allows, where this is answered
abbrev pub Allowed : {A : Type 0} → Verdict A → (A → List ℤ) → ℤ → List ℤ → Type 0
Allowed v numbers number words = (number ≡ number_of v) × (words ≡ record_of v numbers)

abbrev pub OneResult : {A : Type 0} → Verdict A → (A → List ℤ) → Type 0
OneResult v numbers = (m n : ℤ) (a b : List ℤ) → Allowed v numbers m a → Allowed v numbers n b → (m ≡ n) × (a ≡ b)

pub one_result : {A : Type 0} (v : Verdict A) (numbers : A → List ℤ) → OneResult v numbers
one_result v numbers m n a b p q = (p.0 ∙ sym q.0, p.1 ∙ sym q.1)

-- a lent place
abbrev pub OneContent : {A B : Type 0} → Verdict A → (A → List B) → List B → Type 0
OneContent {B = B} v words lent = (a b : List B) → a ≡ written_into v words lent → b ≡ written_into v words lent → a ≡ b

-- ---- days, dates and the clock
pub hzk_date_of_one_result : (n : Day) → OneResult (date_of n) date_numbers
hzk_date_of_one_result n = one_result (date_of n) date_numbers

pub hzk_day_of_one_result : (d : Date) → OneResult (day_of d) day_numbers
hzk_day_of_one_result d = one_result (day_of d) day_numbers

pub hzk_day_of_milli_one_result : (m : Milli) → OneResult (answered (day_of_milli m)) day_numbers
hzk_day_of_milli_one_result m = one_result (answered (day_of_milli m)) day_numbers

module _ (leap : List ℤ) where
  pub hzk_judge_leap_table_one_result : OneResult (leap_judged leap) no_numbers
  hzk_judge_leap_table_one_result = one_result (leap_judged leap) no_numbers

  pub hzk_milli_of_one_result : (s : Second) (zone : ℤ) → OneResult (milli_of leap s zone) milli_numbers
  hzk_milli_of_one_result s zone = one_result (milli_of leap s zone) milli_numbers

  pub hzk_day_of_second_one_result : (s : Second) (zone : ℤ) → OneResult (day_of_second leap s zone) day_numbers
  hzk_day_of_second_one_result s zone = one_result (day_of_second leap s zone) day_numbers

  pub hzk_shown_one_result : (s : Second) (zone : ℤ) → OneResult (shown_of leap s zone) shown_numbers
  hzk_shown_one_result s zone = one_result (shown_of leap s zone) shown_numbers

-- ---- series and marks
module _ (s : Series) where
  pub hzk_accept_one_result : OneResult (series_judged s) no_numbers
  hzk_accept_one_result = one_result (series_judged s) no_numbers

  pub hzk_value_at_one_result : (second : ℤ) → OneResult (value_of s second) value_numbers
  hzk_value_at_one_result second = one_result (value_of s second) value_numbers

  pub hzk_serves_one_result : (l : Series) (second : ℤ) → OneResult (serves s l second) served_numbers
  hzk_serves_one_result l second = one_result (serves s l second) served_numbers

  module _ (number : ℕ) (part : List ℤ) where
    pub hzk_replace_segment_one_result : OneResult (segment_checked s number part) no_numbers
    hzk_replace_segment_one_result = one_result (segment_checked s number part) no_numbers

    -- an answer replaces the lent coefficients whole
    pub hzk_replace_segment_one_content : (a b : List ℤ) → a ≡ held_after (segment_replaced s number part) s.coefs → b ≡ held_after (segment_replaced s number part) s.coefs → a ≡ b
    hzk_replace_segment_one_content = one_content

  pub hzk_count_marks_one_result : OneResult (counted_marks s) count_numbers
  hzk_count_marks_one_result = one_result (counted_marks s) count_numbers

  module _ (marks : List ℤ) where
    pub hzk_list_marks_one_result : OneResult (listed_into s (length marks)) count_numbers
    hzk_list_marks_one_result = one_result (listed_into s (length marks)) count_numbers

    pub hzk_list_marks_one_content : OneContent (listed_into s (length marks)) (words_listed s) marks
    hzk_list_marks_one_content = one_content

-- ---- inputs, months and the build
module _ (year : ℤ) (moons zhongqi months : List ℤ) where
  pub hzk_months_of_one_result : OneResult (sui_into (months_of year moons zhongqi) (length months)) sui_numbers
  hzk_months_of_one_result = one_result (sui_into (months_of year moons zhongqi) (length months)) sui_numbers

  pub hzk_months_of_one_content : OneContent (sui_into (months_of year moons zhongqi) (length months)) sui_words months
  hzk_months_of_one_content = one_content

module _ (i : Inputs) where
  pub hzk_judge_inputs_one_result : OneResult (inputs_judged i) no_numbers
  hzk_judge_inputs_one_result = one_result (inputs_judged i) no_numbers

  pub hzk_sui_one_result : (zone year : ℤ) (months : List ℤ) → OneResult (sui_into (sui_for i zone year) (length months)) sui_numbers
  hzk_sui_one_result zone year months = one_result (sui_into (sui_for i zone year) (length months)) sui_numbers

  pub hzk_sui_one_content : (zone year : ℤ) (months : List ℤ) → OneContent (sui_into (sui_for i zone year) (length months)) sui_words months
  hzk_sui_one_content zone year months = one_content

  module _ (zone first count : ℤ) (file : List ℕ) where
    pub hzk_build_one_result : OneResult (file_built i zone first count (length file)) count_numbers
    hzk_build_one_result = one_result (file_built i zone first count (length file)) count_numbers

    pub hzk_build_one_content : OneContent (bytes_built i zone first count (length file)) all_bytes file
    hzk_build_one_content = one_content

-- ---- the almanac file
pub hzk_check_file_one_result : (file : List ℕ) → OneResult (checked_file file) file_numbers
hzk_check_file_one_result file = one_result (checked_file file) file_numbers

module _ (file : List ℕ) (leap suis months : ℕ) where
  pub hzk_read_file_one_result : OneResult (read_file file leap suis months) file_numbers
  hzk_read_file_one_result = one_result (read_file file leap suis months) file_numbers

  -- whichever of the three lent places it is
  pub hzk_read_file_one_content : (words : Content → List ℤ) (lent : List ℤ) → OneContent (content_read file leap suis months) words lent
  hzk_read_file_one_content words lent = one_content

module _ (c : Content) (file : List ℕ) where
  pub hzk_write_file_one_result : OneResult (written_file c (length file)) count_numbers
  hzk_write_file_one_result = one_result (written_file c (length file)) count_numbers

  pub hzk_write_file_one_content : OneContent (bytes_to_write c (length file)) all_bytes file
  hzk_write_file_one_content = one_content

-- ---- the rebuild
module _ (old new : Inputs) (zone : ℤ) (oldFile file : List ℕ) (years : List ℤ) where
  pub hzk_rebuild_one_result : OneResult (counted (rebuilt old new zone oldFile (length file) (length years))) rebuilt_numbers
  hzk_rebuild_one_result = one_result (counted (rebuilt old new zone oldFile (length file) (length years))) rebuilt_numbers

  pub hzk_rebuild_one_content : OneContent (rebuilt old new zone oldFile (length file) (length years)) new_bytes file
  hzk_rebuild_one_content = one_content

  pub hzk_rebuild_one_list : OneContent (rebuilt old new zone oldFile (length file) (length years)) kept_years years
  hzk_rebuild_one_list = one_content
