-- The counts of a file, test after test. Assumes nothing.
use Rattle.std.specs.Prelude.{◌≡◌, List, ℕ, ◌+◌, ◌≤◌, ◌<◌, length}
use borrow.Author.Tests.{lt-ltb, le-ltb, eq-eqb, ne_eqb}
use Rattle.refusals.specs.Verdict.{answered, refused}
use Rattle.words.specs.Words.{pattern4}
use Rattle.almanac.specs.Layout.{suis_at, months_at, end_at, counts_of}

module _ (file : List ℕ) where
  pub no_entry_count : length file < 4 → refused 13 0 ≡ counts_of file
  unfolding counts_of
  no_entry_count h = rw (lt-ltb (length file) 4 h)

  module _ (first : 4 ≤ length file) (entries : ℕ) (is-entries : entries ≡ pattern4 file 0) where
    pub no_sui_count : length file < suis_at entries + 4 → refused 13 0 ≡ counts_of file
    unfolding counts_of
    no_sui_count h = rw (le-ltb (length file) 4 first, ← is-entries, lt-ltb (length file) (suis_at entries + 4) h)

    module _ (second : suis_at entries + 4 ≤ length file) (suis : ℕ) (is-suis : suis ≡ pattern4 file (suis_at entries)) where
      pub no_month_count : length file < months_at entries suis + 4 → refused 13 0 ≡ counts_of file
      unfolding counts_of
      no_month_count h = rw (le-ltb (length file) 4 first, ← is-entries, le-ltb (length file) (suis_at entries + 4) second, ← is-suis, lt-ltb (length file) (months_at entries suis + 4) h)

      module _ (third : months_at entries suis + 4 ≤ length file) (months : ℕ) (is-months : months ≡ pattern4 file (months_at entries suis)) where
        pub not_at_end : (length file ≡ end_at entries suis months → ⊥) → refused 13 0 ≡ counts_of file
        unfolding counts_of
        not_at_end h = rw (le-ltb (length file) 4 first, ← is-entries, le-ltb (length file) (suis_at entries + 4) second, ← is-suis, le-ltb (length file) (months_at entries suis + 4) third, ← is-months, ne_eqb (length file) (end_at entries suis months) h)

        pub all_counted : length file ≡ end_at entries suis months → answered (record { entries = entries; suis = suis; months = months }) ≡ counts_of file
        unfolding counts_of
        all_counted h = rw (le-ltb (length file) 4 first, ← is-entries, le-ltb (length file) (suis_at entries + 4) second, ← is-suis, le-ltb (length file) (months_at entries suis + 4) third, ← is-months, eq-eqb (length file) (end_at entries suis months) h)
