-- The words of suis and of months: how many there are, and what one more sui, or one more month, adds behind them. Assumes nothing.
use Rattle.std.specs.Prelude.{◌≡◌, refl, List, [], ◌∷◌, ◌++◌, ◌*◌, ℤ, pos, ◌+ℤ◌, length}
use Rattle.std.proofs.Common.{sym, ap, ◌∙◌, append_assoc, append-nil, arith}
use Rattle.whole.specs.Distance.{next}
use Rattle.whole.specs.Solver.{⇑, ring}
use Rattle.months.specs.declared.Month.{Month}
use Rattle.months.specs.declared.Sui.{Sui}
use Rattle.built.specs.Build.{months_in, words_of, sui_words, month_words}

-- ---- suis
pub length_sui_words : (first : ℤ) (suis : List Sui) → length (sui_words first suis) ≡ 2 * length suis
unfolding sui_words
length_sui_words first [] = refl
length_sui_words first (sui ∷ suis) = omega (arith, length_sui_words (first +ℤ pos 1) suis)

pub sui_words_snoc : (first : ℤ) (suis : List Sui) (sui : Sui) → sui_words first (suis ++ (sui ∷ [])) ≡ sui_words first suis ++ ((first +ℤ pos (length suis)) ∷ pos sui.count ∷ [])
unfolding sui_words
sui_words_snoc first [] sui = let here : first ≡ first +ℤ pos 0 = ⇑ (first ∷ []) (search ring depth 9) refl in ap (λ (z : ℤ). z ∷ pos sui.count ∷ []) here
sui_words_snoc first (s ∷ suis) sui =
    ap (λ (l : List ℤ). first ∷ pos s.count ∷ l)
    (sui_words_snoc (first +ℤ pos 1) suis sui ∙ ap (λ (z : ℤ). sui_words (first +ℤ pos 1) suis ++ (z ∷ pos sui.count ∷ [])) (sym (next first (length suis))))

-- ---- months
pub length_words_of : (months : List Month) → length (words_of months) ≡ 3 * length months
unfolding words_of
length_words_of [] = refl
length_words_of (m ∷ months) = omega (arith, length_words_of months)

pub words_of_snoc : (months : List Month) (m : Month) → words_of (months ++ (m ∷ [])) ≡ words_of months ++ (m.handle ∷ m.first ∷ m.length ∷ [])
unfolding words_of
words_of_snoc [] m = refl
words_of_snoc (n ∷ months) m = ap (λ (l : List ℤ). n.handle ∷ n.first ∷ n.length ∷ l) (words_of_snoc months m)

pub month_words_snoc : (suis : List Sui) (sui : Sui) → month_words (suis ++ (sui ∷ [])) ≡ month_words suis ++ words_of (months_in sui)
unfolding month_words
month_words_snoc [] sui = append-nil (words_of (months_in sui))
month_words_snoc (s ∷ suis) sui = ap (λ (l : List ℤ). words_of (months_in s) ++ l) (month_words_snoc suis sui) ∙ sym (append_assoc (words_of (months_in s)) (month_words suis) (words_of (months_in sui)))
