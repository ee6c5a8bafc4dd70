-- A text is read word by word: bytes of a word with a byte behind them that is none's end what `word_says` says of them, in their line and at their place in it
-- (`word_read`), and so do those at the end of the text (`last_word_read`); a comment is passed over up to its line feed (`comment_read`). Assumes nothing.
use Rattle.std.specs.Prelude.{◌≡◌, refl, Bool, true, false, cond, not, ◌&&◌, ◌||◌, List, [], ◌∷◌, ◌++◌, ℕ, ◌+◌, ◌-◌, ◌*◌, ◌≤◌, ◌<◌, eqb, leb}
use Rattle.std.proofs.Common.{sym, ap, ◌∙◌, append-nil, leb-false, eqb-true}
use native.Mathlib.Omega.{arith}
use Rattle.std.proofs.lemmas.Bool.{lt-leb, not-true}
use Rattle.whole.specs.Booleans.{both, second_fails, not_both, neither}
use Rattle.packing.specs.declared.reading.At.{At}
use Rattle.packing.specs.declared.reading.At.TheVariants.{Between, Comment, Sign, Number, Broken}
use Rattle.packing.specs.declared.reading.State.{State}
use Rattle.packing.specs.declared.reading.Ended.{Ended}
use Rattle.packing.specs.declared.reading.Ended.TheVariants.{Nothing, Word, Bad}
use Rattle.packing.specs.Reading.{is_white, is_word_byte, is_digit, is_between, is_comment, after_digit, beginning, in_word, at_next, began_at, step, limit, signed_of, end_of, ended_by}
use Rattle.packing.specs.Packing.{Scanned, numbers, joined, scan}
use Rattle.packing.specs.Decimal.{each_byte, decimal, digits_say, word_says}

-- where the bytes of a word leave the reader
abbrev pub behind : At → List ℕ → At
behind at [] = at
behind at (byte ∷ bytes) = behind (in_word at byte) bytes

-- ---- what is broken stays so
broken : (bytes : List ℕ) → behind Broken bytes ≡ Broken
unfolding in_word
broken [] = refl
broken (byte ∷ bytes) = broken bytes

-- ---- digits
-- more digits never make less
grows : (n : ℕ) (bytes : List ℕ) → n ≤ decimal n bytes
grows n [] = omega arith
grows n (byte ∷ bytes) = omega (arith, grows (10 * n + (byte - 48)) bytes)

-- a number that has no room for a digit more has none for digits
too_large : (below : Bool) (n : ℕ) → 922337203685477580 < n → (byte : ℕ) (bytes : List ℕ) → leb (decimal (10 * n + (byte - 48)) bytes) (limit below) ≡ false
too_large below n h byte bytes = lt-leb (decimal (10 * n + (byte - 48)) bytes) (limit below) (go below)
  where
    go : (b : Bool) → limit b < decimal (10 * n + (byte - 48)) bytes
    go true = omega (arith, grows (10 * n + (byte - 48)) bytes)
    go false = omega (arith, grows (10 * n + (byte - 48)) bytes)

-- digits behind a number
more_digits : (below : Bool) (n : ℕ) (bytes : List ℕ) → end_of (behind (Number below n) bytes) ≡ cond (each_byte is_digit bytes && leb (decimal n bytes) (limit below)) (Word (signed_of below (decimal n bytes))) Bad
unfolding end_of in_word after_digit
more_digits below n [] = refl
more_digits below n (byte ∷ bytes) = go (more_digits below (10 * n + (byte - 48)) bytes) (is_digit byte) (leb n 922337203685477580) refl refl
  where
    next : ℕ
    next = 10 * n + (byte - 48)

    says : Bool → Ended
    says passes = cond (passes && leb (decimal next bytes) (limit below)) (Word (signed_of below (decimal next bytes))) Bad

    go : end_of (behind (Number below next) bytes) ≡ says (each_byte is_digit bytes) → (d r : Bool) → is_digit byte ≡ d → leb n 922337203685477580 ≡ r → end_of (behind (cond (is_digit byte && leb n 922337203685477580) (Number below next) Broken) bytes) ≡ says (is_digit byte && each_byte is_digit bytes)
    go rest true true p q = rw (p, q) rest
    go rest true false p q =
        let large = too_large below n (leb-false n 922337203685477580 q) byte bytes in
        rw (p, q, broken bytes, second_fails (each_byte is_digit bytes) (leb (decimal next bytes) (limit below)) large)
    go rest false r p q = rw (p, broken bytes)

-- behind a sign, and from the first byte on
sign_read : (below : Bool) (bytes : List ℕ) → end_of (behind (Sign below) bytes) ≡ digits_say below bytes
unfolding end_of in_word digits_say
sign_read below [] = refl
sign_read below (byte ∷ bytes) = more_digits below 0 (byte ∷ bytes)

pub word_ends : (byte : ℕ) (bytes : List ℕ) → end_of (behind Between (byte ∷ bytes)) ≡ word_says (byte ∷ bytes)
unfolding in_word beginning word_says digits_say
word_ends byte bytes = go (eqb byte 45) (eqb byte 43)
  where
    go : (minus plus : Bool) → end_of (behind (cond minus (Sign true) (cond plus (Sign false) (after_digit false 0 byte))) bytes) ≡ cond minus (digits_say true bytes) (cond plus (digits_say false bytes) (digits_say false (byte ∷ bytes)))
    go true plus = sign_read true bytes
    go false true = sign_read false bytes
    go false false = more_digits false 0 (byte ∷ bytes)

-- ---- the bytes of a word leave line and place as they are
abbrev state : ℕ → ℕ → At → State
state line word at = record { line = line; word = word; at = at }

abbrev is_inside : At → Bool
is_inside Between = false
is_inside Comment = false
is_inside (Sign below) = true
is_inside (Number below n) = true
is_inside Broken = true

not_elsewhere : (at : At) → is_inside at ≡ true → (is_between at ≡ false) × (is_comment at ≡ false)
not_elsewhere Between h = not_both h refl
not_elsewhere Comment h = not_both h refl
not_elsewhere (Sign below) h = (refl, refl)
not_elsewhere (Number below n) h = (refl, refl)
not_elsewhere Broken h = (refl, refl)

after_inside : (below : Bool) (n byte : ℕ) → is_inside (after_digit below n byte) ≡ true
unfolding after_digit
after_inside below n byte = go (is_digit byte && leb n 922337203685477580)
  where
    go : (b : Bool) → is_inside (cond b (Number below (10 * n + (byte - 48))) Broken) ≡ true
    go true = refl
    go false = refl

first_inside : (byte : ℕ) → is_inside (beginning byte) ≡ true
unfolding beginning
first_inside byte = go (eqb byte 45) (eqb byte 43)
  where
    go : (minus plus : Bool) → is_inside (cond minus (Sign true) (cond plus (Sign false) (after_digit false 0 byte))) ≡ true
    go true plus = refl
    go false true = refl
    go false false = after_inside false 0 byte

stays_inside : (at : At) (byte : ℕ) → is_inside at ≡ true → is_inside (in_word at byte) ≡ true
unfolding in_word
stays_inside Between byte h = not_both h refl
stays_inside Comment byte h = not_both h refl
stays_inside (Sign below) byte h = after_inside below 0 byte
stays_inside (Number below n) byte h = after_inside below n byte
stays_inside Broken byte h = refl

within : (at : At) (bytes : List ℕ) → is_inside at ≡ true → is_inside (behind at bytes) ≡ true
within at [] h = h
within at (byte ∷ bytes) h = within (in_word at byte) bytes (stays_inside at byte h)

-- a word's byte is no line feed, no # and no white space
plain : (byte : ℕ) → is_word_byte byte ≡ true → (eqb byte 10 ≡ false) × ((eqb byte 35 ≡ false) × (is_white byte ≡ false))
plain byte h =
    let f = neither (eqb byte 35) (is_white byte) (not-true (eqb byte 35 || is_white byte) h) in
    (go (eqb byte 10) refl f.1, (f.0, f.1))
  where
    go : (b : Bool) → eqb byte 10 ≡ b → is_white byte ≡ false → b ≡ false
    go true e w = not_both (ap is_white (eqb-true byte 10 e)) w
    go false e w = refl

module _ (line word byte : ℕ) (is : is_word_byte byte ≡ true) where
  step_inside : (at : At) → is_inside at ≡ true → step (state line word at) byte ≡ state line word (in_word at byte)
  unfolding step began_at at_next
  step_inside at h =
      let p = plain byte is in
      let e = not_elsewhere at h in
      let none : word + 0 ≡ word = omega arith in
      rw (p.0, e.0, e.1, p.1.0, p.1.1, none)

  step_first : step (state line word Between) byte ≡ state line (word + 1) (beginning byte)
  unfolding step began_at at_next in_word
  step_first = let p = plain byte is in rw (p.0, p.1.0, p.1.1)

-- a byte ends nothing where it is a word's own
goes_on : (at : At) (byte : ℕ) → is_word_byte byte ≡ true → ended_by at byte ≡ Nothing
unfolding ended_by
goes_on at byte h = rw h

scan_inside : (line word : ℕ) (at : At) (bytes rest : List ℕ) → is_inside at ≡ true → each_byte is_word_byte bytes ≡ true → scan (state line word at) (bytes ++ rest) ≡ scan (state line word (behind at bytes)) rest
unfolding scan
scan_inside line word at [] rest h w = refl
scan_inside line word at (byte ∷ bytes) rest h w =
    let b = both (is_word_byte byte) (each_byte is_word_byte bytes) w in
    rw (goes_on at byte b.0, step_inside line word byte b.0 at h) (scan_inside line word (in_word at byte) bytes rest (stays_inside at byte h) b.1)

-- ---- a byte that is no word's leaves the reader where it would from between words
step_behind : (line word : ℕ) (at : At) (byte : ℕ) → is_inside at ≡ true → is_word_byte byte ≡ false → step (state line word at) byte ≡ step (state line word Between) byte
unfolding step began_at at_next
step_behind line word at byte h w = let e = not_elsewhere at h in rw (e.0, e.1) (go (eqb byte 10) (eqb byte 35) (is_white byte) w)
  where
    left : Bool → Bool → Bool → Bool → At → State
    left feed between hash white inner = cond feed (state (line + 1) 0 Between) (state line (word + cond (between && not (hash || white)) 1 0) (cond hash Comment (cond white Between inner)))

    go : (feed hash white : Bool) → not (hash || white) ≡ false → left feed false hash white (in_word at byte) ≡ left feed true hash white (in_word Between byte)
    go true hash white k = refl
    go false true white k = refl
    go false false true k = refl
    go false false false k = not_both refl k

same_place : (e : Ended) (line word : ℕ) (at : At) (rest : Scanned) → joined e (state line word at) rest ≡ joined e (state line word Between) rest
same_place Nothing line word at rest = refl
same_place (Word z) line word at rest = refl
same_place Bad line word at rest = refl

inside_word : (byte : ℕ) (bytes : List ℕ) → is_inside (behind Between (byte ∷ bytes)) ≡ true
unfolding in_word
inside_word byte bytes = within (beginning byte) bytes (first_inside byte)

-- ---- a word with a byte behind it that is none's, and a word at the end of the text
module _ (line word byte : ℕ) (bytes : List ℕ) (w : each_byte is_word_byte (byte ∷ bytes) ≡ true) where
  own : is_word_byte byte ≡ true
  own = (both (is_word_byte byte) (each_byte is_word_byte bytes) w).0

  -- where its bytes leave the reader
  leaves : (rest : List ℕ) → scan (state line word Between) (byte ∷ (bytes ++ rest)) ≡ scan (state line (word + 1) (behind Between (byte ∷ bytes))) rest
  unfolding scan in_word
  leaves rest = rw (goes_on Between byte own, step_first line word byte own) (scan_inside line (word + 1) (beginning byte) bytes rest (first_inside byte) (both (is_word_byte byte) (each_byte is_word_byte bytes) w).1)

  pub word_read : (end : ℕ) → is_word_byte end ≡ false → (rest : List ℕ) → scan (state line word Between) (byte ∷ (bytes ++ end ∷ rest)) ≡ joined (word_says (byte ∷ bytes)) (state line (word + 1) Between) (scan (step (state line (word + 1) Between) end) rest)
  word_read end h rest =
      leaves (end ∷ rest)
      ∙ (unfold scan ended_by in rw (h, word_ends byte bytes, step_behind line (word + 1) (behind Between (byte ∷ bytes)) end (inside_word byte bytes) h) (same_place (word_says (byte ∷ bytes)) line (word + 1) (behind Between (byte ∷ bytes)) (scan (step (state line (word + 1) Between) end) rest)))

  pub last_word_read : scan (state line word Between) (byte ∷ bytes) ≡ joined (word_says (byte ∷ bytes)) (state line (word + 1) Between) (numbers [])
  last_word_read =
      ap (λ (l : List ℕ). scan (state line word Between) (byte ∷ l)) (sym (append-nil bytes))
      ∙ leaves []
      ∙ (unfold scan in rw (word_ends byte bytes) (same_place (word_says (byte ∷ bytes)) line (word + 1) (behind Between (byte ∷ bytes)) (numbers [])))

-- ---- a comment: nothing ends and nothing begins before the line feed, 10
nothing_ends : (byte : ℕ) → ended_by Comment byte ≡ Nothing
unfolding ended_by end_of
nothing_ends byte = go (is_word_byte byte)
  where
    go : (b : Bool) → cond b Nothing Nothing ≡ Nothing
    go true = refl
    go false = refl

step_comment : (line word byte : ℕ) → eqb byte 10 ≡ false → step (state line word Comment) byte ≡ state line word Comment
unfolding step began_at at_next
step_comment line word byte e = let none : word + 0 ≡ word = omega arith in rw (e, none)

pub comment_read : (line word : ℕ) (bytes rest : List ℕ) → each_byte (λ (byte : ℕ). not (eqb byte 10)) bytes ≡ true → scan (state line word Comment) (bytes ++ rest) ≡ scan (state line word Comment) rest
unfolding scan
comment_read line word [] rest h = refl
comment_read line word (byte ∷ bytes) rest h =
    let b = both (not (eqb byte 10)) (each_byte (λ (x : ℕ). not (eqb x 10)) bytes) h in
    rw (nothing_ends byte, step_comment line word byte (not-true (eqb byte 10) b.0)) (comment_read line word bytes rest b.1)
