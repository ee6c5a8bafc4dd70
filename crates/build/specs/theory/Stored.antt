-- Words put one behind the other, and what a part of a list that was filled from the front holds. Assumes nothing.
use Rattle.std.specs.Prelude.{◌≡◌, List, [], ◌∷◌, ◌++◌, ℕ, suc, ◌+◌, ◌*◌, ◌≤◌, ◌<◌, ℤ, length, get_or, take, drop}
use Rattle.std.proofs.Common.{sym, ap, ap₂, ◌∙◌, append-nil, arith, take-append-drop, take-suc, length-take-le}
use Rattle.whole.specs.Lists.{placed, placed_both}
use Rattle.months.specs.declared.Month.{Month}
use Rattle.built.specs.Build.{words_of}
use Rattle.built.specs.theory.Words.{length_words_of, words_of_snoc}

-- nothing put
pub nothing_put : (at : ℕ) (l : List ℤ) → l ≡ placed at (words_of []) l
unfolding words_of
nothing_put at l = let here : at ≡ at + 0 = omega arith in sym (take-append-drop at l) ∙ ap₂ (λ (a b : List ℤ). a ++ b) (sym (append-nil (take at l))) (ap (λ (n : ℕ). drop n l) here)

-- one month more
pub month_put : (l : List ℤ) (months : List Month) (at i : ℕ) (m d : Month) {now last : List ℤ} → i < length months → at + 3 * (i + 1) ≤ length l → get_or months i d ≡ m → now ≡ placed at (words_of (take i months)) l → last ≡ placed (at + 3 * i) (m.handle ∷ m.first ∷ m.length ∷ []) now → last ≡ placed at (words_of (take (i + 1) months)) l
month_put l months at i m d {now} {last} h room e₁ e₂ e₃ =
    let long : length (words_of (take i months)) ≡ 3 * i = length_words_of (take i months) ∙ ap (λ (n : ℕ). 3 * n) (length-take-le i months (omega arith)) in
    let next : i + 1 ≡ suc i = omega arith in
    let words = m.handle ∷ m.first ∷ m.length ∷ [] in
    e₃
    ∙ ap₂ (λ (n : ℕ) (x : List ℤ). placed (at + n) words x) (sym long) e₂
    ∙ placed_both l (words_of (take i months)) at words (omega (arith, long))
    ∙ ap (λ (x : List ℤ). placed at x l) (sym (words_of_snoc (take i months) m) ∙ ap words_of (sym (ap (λ (n : ℕ). take n months) next ∙ take-suc months i d h ∙ ap (λ (x : Month). take i months ++ (x ∷ [])) e₁)))
