-- `listing::list_part` meets its contract. Assumes nothing.
use Prim.Native.Nat.{ℕ, ◌/◌, ◌%◌, ◌≤◌, ◌<◌}
use borrow.Author.Tests.{lt-ltb, le-ltb, eq-eqb, ne_eqb}
use lib.IntN.{ℤ}
use lib.ListN.{length, take, drop}
use lib.Seq.{take_at}
use mir.Facts.{to_z-of_z}
use mathlib.Core.Bool.{true, false}
use mathlib.Core.List.{List, ◌++◌}
use mathlib.Core.Path.{◌≡◌, sym, ap, ◌∙◌}
use native.Mathlib.Omega.{arith}
use Rattle.clock.specs.Clock.{is_zone}
use Rattle.clock.specs.Answers.{zone_judged}
use Rattle.clock.proofs.theory.Judged.{zone_is_small}
use Rattle.listed.specs.Listing.{listed_bytes, listed_words, printed}
use Rattle.refusals.specs.Verdict.{refused}
use Rattle.words.specs.Words.{words, words_length}
use Rattle.listing.proofs.list_part.Goals as goal
use Rattle.listing.proofs.list_part.Goals.{After-is_zone}

-- the words that were read
read : (input : List ℕ) (n : ℕ) (rest last : List ℤ) → last ≡ words input n ++ drop n rest → take n last ≡ words input n
read input n rest last e = rw e (take_at (words input n) (drop n rest) n (words_length input n))

-- the four cases of the definition
no_zone : (input : List ℕ) (zone : ℤ) → is_zone zone ≡ false → listed_bytes input zone ≡ refused 15 0
unfolding listed_bytes zone_judged
no_zone input zone z = rw z

module _ (input : List ℕ) (zone : ℤ) (z : is_zone zone ≡ true) where
  too_long : 65536 < length input → listed_bytes input zone ≡ refused 13 0
  unfolding listed_bytes zone_judged
  too_long h = rw (z, lt-ltb 65536 (length input) h)

  not_in_words : length input ≤ 65536 → (length input % 8 ≡ 0 → ⊥) → listed_bytes input zone ≡ refused 13 0
  unfolding listed_bytes zone_judged
  not_in_words h e = rw (z, le-ltb 65536 (length input) h, ne_eqb (length input % 8) 0 e)

  in_words : length input ≤ 65536 → length input % 8 ≡ 0 → listed_bytes input zone ≡ listed_words (words input (length input / 8)) zone
  unfolding listed_bytes zone_judged
  in_words h e = rw (z, le-ltb 65536 (length input) h, eq-eqb (length input % 8) 0 e)

zone_told : (c : After-is_zone) → c.is_zone.result ≡ is_zone c.args.zone
zone_told c = c.is_zone.ensures ∙ ap is_zone (to_z-of_z c.ranges.zone)

pub returns-then-not-is_zone : goal.returns-then-not-is_zone
returns-then-not-is_zone c =
    rw (ap printed (no_zone c.args.input.now c.args.zone (sym (zone_told (goal.at.returns-then-not-is_zone c).After-is_zone) ∙ c.if-not-is_zone.true))) c.put_refusal.ensures

pub returns-then-input-gt65536 : goal.returns-then-input-gt65536
returns-then-input-gt65536 c =
    rw (ap printed (too_long c.args.input.now c.args.zone (sym (zone_told (goal.at.returns-then-input-gt65536 c).After-is_zone) ∙ c.if-not-is_zone.false) c.if-input-gt65536.true)) c.put_refusal-then-input-gt65536.ensures

pub returns-then-input-ne0 : goal.returns-then-input-ne0
returns-then-input-ne0 c =
    rw (ap printed (not_in_words c.args.input.now c.args.zone (sym (zone_told (goal.at.returns-then-input-ne0 c).After-is_zone) ∙ c.if-not-is_zone.false) c.if-input-gt65536.false c.if-input-ne0.true)) c.put_refusal-then-input-ne0.ensures

pub slice_bounds-put_words-end : goal.slice_bounds-put_words-end
slice_bounds-put_words-end c =
    let input = c.args.input.now in
    sym (ap length (read input (length input / 8) _ _ c.read_words.ensures) ∙ words_length input (length input / 8))

pub put_words-requires : goal.put_words-requires
put_words-requires c =
    let input = c.args.input.now in
    rw (to_z-of_z c.ranges.zone, read input (length input / 8) _ _ c.read_words.ensures, words_length input (length input / 8)) (record { words_len_bound = omega (arith, c.if-input-gt65536.false); within = zone_is_small c.args.zone (sym (zone_told (goal.at.put_words-requires c).After-is_zone) ∙ c.if-not-is_zone.false) })

pub returns : goal.returns
returns c =
    let input = c.args.input.now in
    rw (ap printed (in_words input c.args.zone (sym (zone_told (goal.at.returns c).After-is_zone) ∙ c.if-not-is_zone.false) c.if-input-gt65536.false c.if-input-ne0.false))
    (rw (to_z-of_z c.ranges.zone, read input (length input / 8) _ _ c.read_words.ensures) at c.put_words.ensures)
