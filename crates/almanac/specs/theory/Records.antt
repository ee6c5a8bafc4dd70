-- The records of a file, each at its place: sui i and month k of a content stand where the layout puts them. Assumes nothing.
use Rattle.std.specs.Prelude.{◌≡◌, refl, List, ℕ, zero, suc, ◌+◌, ◌*◌, ◌<◌, pos, get_or}
use Rattle.std.proofs.Common.{arith}
use Rattle.words.specs.Words.{byte, unsigned4, signed4}
use Rattle.content.specs.Content.{year_at, count_at, month_at}
use Rattle.almanac.specs.declared.Counts.{Counts}
use Rattle.almanac.specs.Fields.{times, numbers_in}
use Rattle.almanac.specs.Layout.{sui_fields, month_fields, suis_at, months_at, content_at}

suis_stand : (n : ℕ) (file : List ℕ) (at i : ℕ) → i < n → (get_or (numbers_in (times n sui_fields) file at) (2 * i) (pos 0) ≡ signed4 file (at + 5 * i)) × (get_or (numbers_in (times n sui_fields) file at) (2 * i + 1) (pos 0) ≡ byte file (at + 5 * i + 4))
unfolding times numbers_in
suis_stand zero file at i h = absurd (omega arith)
suis_stand (suc n) file at zero h = let e : at + 5 * 0 ≡ at = omega arith in rw e (refl, refl)
suis_stand (suc n) file at (suc i) h =
    let a : 2 * suc i ≡ suc (suc (2 * i)) = omega arith in
    let b : 2 * suc i + 1 ≡ suc (suc (2 * i + 1)) = omega arith in
    let e : at + 5 * suc i ≡ at + 4 + 1 + 5 * i = omega arith in
    rw (b, a, e) (suis_stand n file (at + 4 + 1) i (omega arith))

months_stand : (n : ℕ) (file : List ℕ) (at k : ℕ) → k < n → (get_or (numbers_in (times n month_fields) file at) (3 * k) (pos 0) ≡ unsigned4 file (at + 9 * k)) × ((get_or (numbers_in (times n month_fields) file at) (3 * k + 1) (pos 0) ≡ signed4 file (at + 9 * k + 4)) × (get_or (numbers_in (times n month_fields) file at) (3 * k + 2) (pos 0) ≡ byte file (at + 9 * k + 8)))
unfolding times numbers_in
months_stand zero file at k h = absurd (omega arith)
months_stand (suc n) file at zero h = let e : at + 9 * 0 ≡ at = omega arith in let f : at + 4 + 4 ≡ at + 8 = omega arith in rw (e, f) (refl, (refl, refl))
months_stand (suc n) file at (suc k) h =
    let a : 3 * suc k ≡ suc (suc (suc (3 * k))) = omega arith in
    let b : 3 * suc k + 1 ≡ suc (suc (suc (3 * k + 1))) = omega arith in
    let d : 3 * suc k + 2 ≡ suc (suc (suc (3 * k + 2))) = omega arith in
    let e : at + 9 * suc k ≡ at + 4 + 4 + 1 + 9 * k = omega arith in
    rw (d, b, a, e) (months_stand n file (at + 4 + 4 + 1) k (omega arith))

module _ (file : List ℕ) (n : Counts) where
  pub sui_stands : (i : ℕ) → i < n.suis → (year_at (content_at file n).suis i ≡ signed4 file (suis_at n.entries + 4 + 5 * i)) × (count_at (content_at file n).suis i ≡ byte file (suis_at n.entries + 4 + 5 * i + 4))
  unfolding content_at
  sui_stands i h = suis_stand n.suis file (suis_at n.entries + 4) i h

  pub month_stands : (k : ℕ) → k < n.months → ((month_at (content_at file n).months k).handle ≡ unsigned4 file (months_at n.entries n.suis + 4 + 9 * k)) × (((month_at (content_at file n).months k).first ≡ signed4 file (months_at n.entries n.suis + 4 + 9 * k + 4)) × ((month_at (content_at file n).months k).length ≡ byte file (months_at n.entries n.suis + 4 + 9 * k + 8)))
  unfolding content_at
  month_stands k h = months_stand n.months file (months_at n.entries n.suis + 4) k h
