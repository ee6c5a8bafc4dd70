-- Which series a build refuses by 2 to 5 (document 01, "Refusal numbers"): the number and the segment do not say whether they are the Sun's or the Moon's. The Sun
-- where the zone is one, the input keeps its layout, the leap table is lawful and the Sun's series is refused; the Moon where the Sun's is accepted and the Moon's is
-- refused; else neither. Assumes nothing: these are definitions.
use Rattle.std.specs.Prelude.{not, List, ℕ, ◌/◌, ltb, ℤ, length, take, drop, Option, Some, None}
use Rattle.refusals.specs.Verdict.{Verdict, answered, refused, refuse_when}
use Rattle.words.specs.Words.{words}
use Rattle.clock.specs.Answers.{zone_judged, leap_judged}
use Rattle.series.specs.declared.Body.{Body}
use Rattle.series.specs.declared.Body.TheVariants.{Sun, Moon}
use Rattle.series.specs.Acceptance.{series_judged}
use Rattle.inputs.specs.Inputs.{Inputs, sun, moon}
use Rattle.layout.specs.Layout.{places, inputs_at}
use Rattle.building.specs.Building.{length_kept, all_taken}

-- neither, unless the first is answered
infixr 5 ◌leads_to◌
abbrev pub ◌leads_to◌ : {A : Type 0} → Verdict A → (A → Option Body) → Option Body
answered a leads_to f = f a
refused number segment leads_to f = None

-- this series where its verdict is a refusal, else what the rest says
abbrev pub blamed : Verdict (Unit {0}) → Option Body → Option Body → Option Body
blamed (answered a) series rest = rest
blamed (refused number segment) series rest = series

unfoldable pub refused_of : Inputs → Option Body
refused_of i = leap_judged i.leap leads_to (λ _. blamed (series_judged (sun i)) (Some Sun) (blamed (series_judged (moon i)) (Some Moon) None))

unfoldable pub refused_in_rest : List ℤ → Option Body
refused_in_rest ws = places ws leads_to (λ p. refused_of (inputs_at ws p))

unfoldable pub refused_in_words : List ℤ → Option Body
refused_in_words ws = refuse_when (ltb (length ws) 2) 13 leads_to (λ _. refused_in_rest (drop 2 ws))

unfoldable pub refused_series : List ℕ → ℤ → Option Body
refused_series bytes zone = zone_judged zone leads_to (λ _. refuse_when (not (length_kept (length bytes))) 13 leads_to (λ _. refused_in_words (words bytes (length bytes / 8))))

-- the same once so many bytes were taken in pieces
unfoldable pub refused_in_taken : List ℤ → ℕ → ℤ → Option Body
refused_in_taken ws bytes zone = zone_judged zone leads_to (λ _. refuse_when (not (all_taken ws bytes)) 13 leads_to (λ _. refused_in_words (take (bytes / 8) ws)))
