-- The whole listing (document 01, "The listing program"; its zone, document 02, order 5): the zone is judged first of all (15), then the layout (13), then the inputs in
-- a build's order (1; Sun 2 to 5; Moon 2 to 5; 7). Per mark S or M, index modulo 24 or 4, date, time to the millisecond; Sun first. A refusal prints only R, a space and
-- its number. Assumes nothing: these are definitions.
use Rattle.std.specs.Prelude.{not, List, [], ◌∷◌, ◌++◌, map, ℕ, ◌/◌, ◌%◌, ltb, eqb, ℤ, nat_abs, length}
use Rattle.whole.specs.Floor.{floor_mod}
use Rattle.refusals.specs.Verdict.{Verdict, answered, refused, refuse_when, ◌before◌, ◌then◌}
use Rattle.words.specs.Words.{words}
use Rattle.text.specs.Text.{line, date, time, refusal_line}
use Rattle.clock.specs.declared.ShownTime.{ShownTime}
use Rattle.clock.specs.Clock.{shown_in}
use Rattle.clock.specs.Answers.{zone_judged}
use Rattle.series.specs.declared.Body.{Body}
use Rattle.series.specs.declared.Body.TheVariants.{Sun, Moon}
use Rattle.series.specs.Bodies.{numbers}
use Rattle.marks.specs.Marks.{Mark}
use Rattle.marks.specs.Listed.{listed_marks}
use Rattle.inputs.specs.Inputs.{Inputs, sun, moon, second, inputs_judged}
use Rattle.layout.specs.Layout.{places, inputs_at}

abbrev pub letter : Body → ℕ
letter Sun = 83
letter Moon = 77

-- the text of a time
abbrev pub shown_line : Body → ℤ → ShownTime → List ℕ
shown_line body index t =
    line (letter body) (floor_mod index (numbers body).circle)
    (date (nat_abs t.date.year) (nat_abs t.date.month) (nat_abs t.date.day))
    (time t.hour t.minute t.second t.millisecond)

-- the line of a mark, in a zone
unfoldable pub line_of : Body → List ℤ → ℤ → Mark → List ℕ
line_of body leap zone m = shown_line body m.index (shown_in leap (second m) zone)

-- the lines of given marks: the Sun's, then the Moon's
abbrev pub lines_by : List ℤ → ℤ → List Mark → List Mark → List (List ℕ)
lines_by leap zone suns moons = map (line_of Sun leap zone) suns ++ map (line_of Moon leap zone) moons

-- the lines of inputs
abbrev pub lines_of : Inputs → ℤ → List (List ℕ)
lines_of i zone = lines_by i.leap zone (listed_marks (sun i)) (listed_marks (moon i))

unfoldable pub listed : Inputs → ℤ → Verdict (List (List ℕ))
listed i zone = inputs_judged i before answered (lines_of i zone)

unfoldable pub listed_words : List ℤ → ℤ → Verdict (List (List ℕ))
listed_words ws zone = places ws then (λ p. listed (inputs_at ws p) zone)

unfoldable pub listed_bytes : List ℕ → ℤ → Verdict (List (List ℕ))
listed_bytes bytes zone =
    zone_judged zone
    before refuse_when (ltb 65536 (length bytes)) 13
    before refuse_when (not (eqb (length bytes % 8) 0)) 13
    before listed_words (words bytes (length bytes / 8)) zone

-- what is printed: the lines, or one line that says R and the number
abbrev pub printed : Verdict (List (List ℕ)) → List (List ℕ)
printed (answered lines) = lines
printed (refused number segment) = refusal_line number ∷ []

abbrev pub listing : List ℕ → ℤ → List (List ℕ)
listing bytes zone = printed (listed_bytes bytes zone)
