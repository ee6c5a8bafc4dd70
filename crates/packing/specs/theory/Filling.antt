-- The second pass: what is written, with the rest put behind it, is what is wanted. One turn of its loop. Assumes nothing.
use Rattle.std.specs.Prelude.{◌≡◌, refl, true, List, [], ◌∷◌, ◌++◌, ℕ, ◌+◌, ◌*◌, ◌≤◌, ℤ, length}
use Rattle.std.proofs.Common.{sym, ap, ap₂, ◌∙◌, arith, length-append}
use Rattle.whole.specs.Booleans.{not_both}
use Rattle.whole.specs.Lists.{placed, placed_none, placed_both}
use Rattle.words.specs.Words.{bytes8}
use Rattle.packing.specs.declared.reading.State.{State}
use Rattle.packing.specs.declared.reading.Ended.{Ended}
use Rattle.packing.specs.declared.reading.Ended.TheVariants.{Nothing, Word, Bad}
use Rattle.packing.specs.Packing.{Scanned, numbers, bad, joined, scan, start, bytes_of}
use Rattle.packing.specs.Passes.{is_good, found, ended_bytes}

pub bytes_length : (zs : List ℤ) → length (bytes_of zs) ≡ 8 * length zs
unfolding bytes_of
bytes_length [] = omega arith
bytes_length (z ∷ zs) = length-append (bytes8 z) (bytes_of zs) ∙ omega (arith, bytes_length zs)

-- what ended, and the rest
both_good : (e : Ended) (s : State) (rest : Scanned) → is_good (joined e s rest) ≡ true → (is_good rest ≡ true) × (bytes_of (found (joined e s rest)) ≡ ended_bytes e ++ bytes_of (found rest))
unfolding bytes_of
both_good Nothing s rest h = (h, refl)
both_good (Word z) s (numbers zs) h = (refl, refl)
both_good (Word z) s (bad line word) h = not_both h refl
both_good Bad s rest h = not_both h refl

-- where the words end that are written, and what is left of the text; with what was lent, and what is wanted of it
pub record Filled (end : ℕ) (left : Scanned) (out wanted : List ℕ) : Type 0 where
  pub good : is_good left ≡ true
  pub room : end + length (bytes_of (found left)) ≤ length out
  pub rest : placed end (bytes_of (found left)) out ≡ wanted

module _ (end : ℕ) (s : State) (rest : Scanned) (out wanted : List ℕ) where
  -- there is room for what ended
  pub has_room : {whole : Scanned} {e f : Ended} → whole ≡ joined f s rest → e ≡ f → Filled end whole out wanted → end + length (ended_bytes e) ≤ length out
  has_room {whole} {e} {f} w is fill =
      let b = both_good f s rest (ap is_good (sym w) ∙ fill.good) in
      let size : length (bytes_of (found whole)) ≡ length (ended_bytes f) + length (bytes_of (found rest)) = ap (λ (x : Scanned). length (bytes_of (found x))) w ∙ ap length b.1 ∙ length-append (ended_bytes f) (bytes_of (found rest)) in
      let same : length (ended_bytes e) ≡ length (ended_bytes f) = ap (λ (x : Ended). length (ended_bytes x)) is in
      omega (arith, fill.room)

  pub fill_turn : {whole : Scanned} {e f : Ended} {next : ℕ} {last : List ℕ} → whole ≡ joined f s rest → e ≡ f → Filled end whole out wanted → length last ≡ length out → next ≡ end + length (ended_bytes e) → last ≡ placed end (ended_bytes e) out → Filled next rest last wanted
  fill_turn {whole} {e} {f} {next} {last} w is fill same_size at put =
      let part = ended_bytes e in
      let behind = bytes_of (found rest) in
      let b = both_good f s rest (ap is_good (sym w) ∙ fill.good) in
      let bytes : bytes_of (found whole) ≡ part ++ behind = ap (λ (x : Scanned). bytes_of (found x)) w ∙ b.1 ∙ ap (λ (x : Ended). ended_bytes x ++ behind) (sym is) in
      let size : length (bytes_of (found whole)) ≡ length part + length behind = ap length bytes ∙ length-append part behind in
      record {
        good = b.0;
        room = omega (arith, fill.room);
        rest =
            ap₂ (λ (n : ℕ) (l : List ℕ). placed n behind l) at put
            ∙ placed_both out part end behind (omega (arith, fill.room))
            ∙ ap (λ (x : List ℕ). placed end x out) (sym bytes)
            ∙ fill.rest;
      }

-- ---- before the first byte, and behind the last
pub fill_none : (text out : List ℕ) {s : State} → s ≡ start → is_good (scan start text) ≡ true → length (bytes_of (found (scan start text))) ≤ length out → Filled 0 (scan s text) out (placed 0 (bytes_of (found (scan start text))) out)
fill_none text out e good room = rw e (record { good = good; room = omega arith; rest = refl })

pub fill_end : {end : ℕ} {out wanted : List ℕ} → Filled end (numbers []) out wanted → out ≡ wanted
unfolding bytes_of
fill_end {end} {out} f = placed_none out end ∙ f.rest
