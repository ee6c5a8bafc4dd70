-- The almanac file, its build and its rebuild: the numbers of their answers and refusals fit a word. Assumes nothing but what a statement says itself.
use Rattle.std.specs.Prelude.{◌≡◌, Bool, true, false, cond, ltb, eqb, ℤ, nat_abs, ◌+ℤ◌}
use Rattle.std.proofs.Common.{sym, ap, ◌∙◌, arith, ltb-false, length-append}
use Rattle.std.proofs.Math.Bool.{not}
use mathlib.Core.List.{List, [], ◌∷◌}
use Prim.Native.Nat.{ℕ, zero, suc, ◌+◌, ◌^◌, ◌<◌, ◌≤◌}
use Rattle.std.proofs.Math.IntN.{pos}
use Rattle.std.proofs.Math.ListN.{length}
use Rattle.whole.specs.Tests.{in_range}
use Rattle.words.specs.Words.{pattern4}
use Rattle.refusals.specs.Verdict.{answered, refuse_when, ◌before◌, answers_apart, test_answered, then_answered}
use Rattle.inputs.specs.Inputs.{Inputs}
use Rattle.content.specs.Content.{Content, lawful}
use Rattle.almanac.specs.declared.Counts.{Counts}
use Rattle.almanac.specs.Layout.{suis_at, months_at, end_at, counts_of, content_of, bytes_of, file_of}
use Rattle.almanac.specs.Answers.{counts_in, checked_file, too_short, content_read, read_file, bytes_into, bytes_to_write, written_file}
use Rattle.almanac.proofs.theory.Reader.{checked}
use Rattle.built.specs.Build.{suis_by, content_by, bytes_by, built_by, content_built, bytes_of_years, bytes_built, file_built}
use Rattle.sui.specs.Sui.{sui_of_year}
use Rattle.sui.proofs.theory.Answered.{inputs_answered}
use Rattle.rebuilt.specs.declared.Rebuilt.{Rebuilt}
use Rattle.rebuilt.specs.Rebuild.{NewFile, years_in, is_file, most_bytes, given_by, new_file_by, rebuilt_by, kept_by, kept, rebuilt, counted}
use Rattle.rebuilt.proofs.Theorems.{rebuilt_is_fresh, given_means, most_bytes_are_enough}
use Rattle.rebuild.specs.theory.Judging.{years_few}
use Rattle.answers.specs.Fits.{Fits, none, itself, file_size, rebuilt_size, answer, test, ◌and◌, and_then, with_answer}
use Rattle.exports.specs.theory.Time.{zone_fits}
use Rattle.exports.specs.theory.Sky.{inputs_fit_in}
use Rattle.exports.specs.theory.Suis.{sui_of_year_fits}

-- ---- a file that is checked or read has at most 64 leap entries, 128 suis and 1,664 months
module _ (file : List ℕ) where
  file_of_fits : Fits none (file_of file)
  unfolding file_of content_of counts_of
  file_of_fits =
      let entries = pattern4 file 0 in
      let suis = pattern4 file (suis_at entries) in
      let months = pattern4 file (months_at entries suis) in
      and_then
      (and_then
      (test (ltb (length file) 4) 13 tt
      and test (ltb (length file) (suis_at entries + 4)) 13 tt
      and test (ltb (length file) (months_at entries suis + 4)) 13 tt
      and test (not (eqb (length file) (end_at entries suis months))) 13 tt
      and answer (omega arith))
      (λ n. answer (omega arith)))
      (λ c. test (not (lawful c)) 13 tt and answer (omega arith))

  counts_small : (n : Counts) → checked_file file ≡ answered n → file_size n < 2 ^ 63
  counts_small n e = let k = checked file n (sym e) in omega (arith, k.entries_few, k.suis_few, k.months_few)

  pub check_fits : Fits file_size (checked_file file)
  unfolding checked_file
  check_fits = with_answer (and_then file_of_fits (λ c. answer (omega arith))) counts_small

  module _ (leap suis months : ℕ) where
    -- what is read was checked
    read_is_checked : (n : Counts) → read_file file leap suis months ≡ answered n → checked_file file ≡ answered n
    unfolding read_file content_read checked_file
    read_is_checked n e =
        let all = then_answered (content_read file leap suis months) (λ c. answered (counts_in c)) n e in
        let found = then_answered (file_of file) (λ c. refuse_when (too_short c leap suis months) 12 before answered c) all.0 all.1 in
        let same = answers_apart (test_answered (too_short found.0 leap suis months) 12 (answered found.0) all.0 found.2).1 in
        rw found.1 (ap (λ (c : Content). answered (counts_in c)) same ∙ all.2)

    pub read_fits : Fits file_size (read_file file leap suis months)
    unfolding read_file content_read
    read_fits =
        with_answer (and_then (and_then file_of_fits (λ c. test (too_short c leap suis months) 12 tt and answer (omega arith))) (λ c. answer (omega arith)))
        (λ n e. counts_small n (read_is_checked n e))

-- ---- no more bytes are written than there is room for
bytes_into_fits : (c : Content) (room : ℕ) → Fits none (bytes_into c room)
bytes_into_fits c room = test (ltb room (length (bytes_of c))) 12 tt and answer (omega arith)

within_room : (c : Content) (room : ℕ) (bytes : List ℕ) → bytes_into c room ≡ answered bytes → length bytes ≤ room
within_room c room bytes e =
    let fits = test_answered (ltb room (length (bytes_of c))) 12 (answered (bytes_of c)) bytes e in
    let same = ap length (answers_apart fits.1) in
    let enough = ltb-false room (length (bytes_of c)) fits.0 in
    omega arith

pub write_fits : (c : Content) (room : ℕ) → room < 2 ^ 63 → Fits itself (written_file c room)
unfolding written_file bytes_to_write
write_fits c room h =
    with_answer (and_then (test (not (lawful c)) 13 tt and bytes_into_fits c room) (λ bytes. answer (omega arith)))
    (λ n e.
    let all = then_answered (bytes_to_write c room) (λ (bytes : List ℕ). answered (length bytes)) n e in
    let few = within_room c room all.0 (test_answered (not (lawful c)) 13 (bytes_into c room) all.0 all.1).1 in
    let same : length all.0 ≡ n = answers_apart all.2 in
    omega arith)

-- ---- and so is a build
module _ (i : Inputs) (zone : ℤ) where
  suis_fit : (first : ℤ) (n : ℕ) → Fits none (suis_by (sui_of_year i zone) first n)
  unfolding suis_by
  suis_fit first zero = answer (omega arith)
  suis_fit first (suc n) = and_then (suis_fit first n) (λ suis. and_then (sui_of_year_fits i zone (first +ℤ pos n)) (λ sui. answer (omega arith)))

  bytes_fit : (first : ℤ) (n room : ℕ) → Fits none (bytes_of_years i zone first n room)
  unfolding bytes_by content_by
  bytes_fit first n room = and_then (and_then (suis_fit first n) (λ suis. answer (omega arith))) (λ c. bytes_into_fits c room)

  years_within_room : (first : ℤ) (n room : ℕ) (bytes : List ℕ) → bytes_of_years i zone first n room ≡ answered bytes → length bytes ≤ room
  unfolding bytes_by
  years_within_room first n room bytes e = let made = then_answered (content_built i zone first n) (λ c. bytes_into c room) bytes e in within_room made.0 room bytes made.2

  module _ (first count : ℤ) (room : ℕ) where
    built_within_room : (bytes : List ℕ) → bytes_built i zone first count room ≡ answered bytes → length bytes ≤ room
    unfolding built_by
    built_within_room bytes e =
        let bad = not (in_range (pos 1) (pos 128) count) in
        let judged = inputs_answered i zone (refuse_when bad 8 before bytes_of_years i zone first (nat_abs count) room) e in
        let built = test_answered bad 8 (bytes_of_years i zone first (nat_abs count) room) bytes judged.1 in
        years_within_room first (nat_abs count) room bytes built.1

    bytes_built_fit : length i.sun_coefs < 2 ^ 63 → length i.moon_coefs < 2 ^ 63 → Fits none (bytes_built i zone first count room)
    unfolding built_by
    bytes_built_fit h k = inputs_fit_in i zone h k and test (not (in_range (pos 1) (pos 128) count)) 8 tt and bytes_fit first (nat_abs count) room

    pub build_fits : length i.sun_coefs < 2 ^ 63 → length i.moon_coefs < 2 ^ 63 → room < 2 ^ 63 → Fits itself (file_built i zone first count room)
    unfolding file_built
    build_fits h k r =
        with_answer (and_then (bytes_built_fit h k) (λ bytes. answer (omega arith)))
        (λ n e.
        let all = then_answered (bytes_built i zone first count room) (λ (bytes : List ℕ). answered (length bytes)) n e in
        let few = built_within_room all.0 all.1 in
        let same : length all.0 ≡ n = answers_apart all.2 in
        omega arith)

-- ---- a rebuild gives as many bytes as a file has, at most, and a year for each sui of the old file, at most
few_years : (kept : ℤ → Bool) (first : ℤ) (n : ℕ) → length (kept_by kept first n) ≤ n
unfolding kept_by
few_years kept first zero = omega arith
few_years kept first (suc n) =
    let one = at_most_one (kept (first +ℤ pos n)) in
    omega (arith, few_years kept first n, length-append (kept_by kept first n) (cond (kept (first +ℤ pos n)) ((first +ℤ pos n) ∷ []) []), one)
  where
    at_most_one : (b : Bool) → length (cond b ((first +ℤ pos n) ∷ []) []) ≤ 1
    at_most_one true = omega arith
    at_most_one false = omega arith

module _ (old new : Inputs) (zone : ℤ) (file : List ℕ) (room places : ℕ) where
  rebuilt_fits : length new.sun_coefs < 2 ^ 63 → length new.moon_coefs < 2 ^ 63 → Fits none (rebuilt old new zone file room places)
  unfolding rebuilt_by new_file_by given_by
  rebuilt_fits h k =
      zone_fits zone
      and and_then
      (and_then (file_of_fits file) (λ c. test (not (is_file (bytes_built old zone (years_in c).first (pos (years_in c).count) most_bytes) file)) 13 tt and answer (omega arith)))
      (λ y. and_then (bytes_built_fit new zone y.first (pos y.count) room h k) (λ bytes. test (ltb places (length (kept_by (kept old new zone) y.first y.count))) 12 tt and answer (omega arith)))

  pub rebuild_fits : length new.sun_coefs < 2 ^ 63 → length new.moon_coefs < 2 ^ 63 → Fits rebuilt_size (counted (rebuilt old new zone file room places))
  rebuild_fits h k =
      with_answer (and_then (rebuilt_fits h k) (λ n. answer (omega arith)))
      (λ r e.
      let all = then_answered (rebuilt old new zone file room places) (λ (n : NewFile). answered (record { bytes = length n.bytes; years = length n.years })) r e in
      let fresh = rebuilt_is_fresh old new zone file room places all.1 in
      let y = fresh.years in
      let few = built_within_room new zone y.first (pos y.count) most_bytes all.0.bytes (most_bytes_are_enough new zone y.first (pos y.count) room fresh.is_fresh) in
      let listed = few_years (kept old new zone) y.first y.count in
      let is_given = (given_means old zone file y).0 fresh.is_given in
      let many = (years_few file {y = y} (rw is_given.is_read (ap answered is_given.years_are))).1 in
      let same : record { bytes = length all.0.bytes; years = length all.0.years } ≡ r = answers_apart all.2 in
      omega (arith, few, listed, many, ap length fresh.are_kept, ap (λ (r : Rebuilt). r.bytes) same, ap (λ (r : Rebuilt). r.years) same))
