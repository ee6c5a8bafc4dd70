-- The promises of `pack`, by what the first pass answered. Assumes nothing.
use Rattle.std.specs.Prelude.{◌≡◌, refl, true, List, ◌++◌, ℕ, ◌+◌, ◌*◌, ◌/◌, ◌≤◌, ◌<◌, length, drop, Result, Ok, Err}
use Rattle.std.proofs.Common.{sym, ap, ◌∙◌, arith, zero-add, div-add-mod', mod-lt, lt-ltb, le-ltb}
use Rattle.whole.specs.Lists.{placed}
use Rattle.packing.specs.declared.BadWord.{BadWord}
use Rattle.packing.specs.declared.PackError.{PackError}
use Rattle.packing.specs.declared.PackError.TheVariants as error
use Rattle.packing.specs.Packing.{Scanned, numbers, bad, scan, start, bytes_of, answer_for, held_after, packed, held}
use Rattle.packing.specs.Passes.{judged, is_good, found}
use Rattle.packing.specs.theory.Filling.{bytes_length}

words_or_bad : {X : Type 0} {n : ℕ} {at : BadWord} → Ok n ≡ Err at → X
words_or_bad e = let z : ◌≡◌ {A = ℕ} 0 1 = cc in absurd (omega arith)

-- what was counted
pub record Counted (s : Scanned) (n : ℕ) : Type 0 where
  pub good : is_good s ≡ true
  pub is : s ≡ numbers (found s)
  pub many : n ≡ length (found s)

pub words_counted : (s : Scanned) (n : ℕ) → Ok n ≡ judged 0 s → Counted s n
words_counted (numbers zs) n e = let k : n ≡ 0 + length zs = cc in record { good = refl; is = refl; many = omega arith }
words_counted (bad line word) n e = words_or_bad e

module _ (text out : List ℕ) where
  abbrev pub Promises : Result ℕ PackError → List ℕ → Type 0
  Promises a last = (a ≡ packed text (length out)) × (last ≡ held text out)

  promises : (s : Scanned) → scan start text ≡ s → Promises (answer_for s (length out)) (held_after s out)
  unfolding packed held
  promises s e = rw e (refl, refl)

  pub not_packed : (at : BadWord) → Err at ≡ judged 0 (scan start text) → Promises (Err (error.BadWord at)) out
  not_packed at e = go (scan start text) refl e
    where
      go : (s : Scanned) → scan start text ≡ s → Err at ≡ judged 0 s → Promises (Err (error.BadWord at)) out
      go (numbers zs) is p = words_or_bad (sym p)
      go (bad line word) is p = let found_at : ◌≡◌ {A = BadWord} (record { line = line; word = word }) at = cc in rw found_at at (promises (bad line word) is)

  module _ (n : ℕ) (k : Counted (scan start text) n) where
    pub no_room : length out / 8 < n → Promises (Err error.Room) out
    no_room h =
        let zs = found (scan start text) in
        let short : length out < 8 * length zs = omega (arith, div-add-mod' (length out) 8, mod-lt (length out) {m = 8} (omega arith), k.many) in
        rw (lt-ltb (length out) (8 * length zs) short) at (promises (numbers zs) k.is)

    pub size : length (bytes_of (found (scan start text))) ≡ 8 * n
    size = bytes_length (found (scan start text)) ∙ ap (λ (m : ℕ). 8 * m) (sym k.many)

    pub fits : n ≤ length out / 8 → 8 * n ≤ length out
    fits h = omega (arith, div-add-mod' (length out) 8)

    pub all_packed : n ≤ length out / 8 → {last : List ℕ} → last ≡ placed 0 (bytes_of (found (scan start text))) out → Promises (Ok (8 * n)) last
    all_packed h e =
        let zs = found (scan start text) in
        let long : 8 * length zs ≤ length out = omega (arith, fits h, k.many) in
        let p = rw (le-ltb (length out) (8 * length zs) long) at (promises (numbers zs) k.is) in
        let ends : 0 + length (bytes_of zs) ≡ 8 * length zs = zero-add (length (bytes_of zs)) ∙ bytes_length zs in
        (ap (λ (m : ℕ). Ok (8 * m)) k.many ∙ p.0, e ∙ ap (λ (m : ℕ). bytes_of zs ++ drop m out) ends ∙ p.1)
