-- The input (document 01, "The listing program"): leap count and (day, offset) pairs; then Sun: segment count, start, coefficients; then Moon
-- likewise. Input too long, not in whole words, too short, with words left over or with a negative count is 13. Assumes nothing: these are definitions.
use Rattle.std.specs.Prelude.{List, ℕ, ◌+◌, ◌*◌, ◌-◌, ltb, leb, ℤ, pos, nat_abs, length, get_or, take, drop}
use Rattle.std.specs.Int.Signed.{lt_z}
use Rattle.refusals.specs.Verdict.{Verdict, answered, refuse_when, ◌before◌, ◌then◌}
use Rattle.inputs.specs.Inputs.{Inputs}
use Rattle.layout.specs.declared.inner.Places.{Places}

-- A section at `at` is a count, `extra` words, and `width` words for each one counted. Where it ends, if it is all there:
unfoldable pub section_end : List ℤ → ℕ → ℕ → ℕ → Verdict ℕ
section_end ws at extra width =
    refuse_when (leb (length ws) at) 13
    before refuse_when (lt_z (get_or ws at (pos 0)) (pos 0)) 13
    before refuse_when (ltb (length ws) (at + 1 + extra + width * nat_abs (get_or ws at (pos 0)))) 13
    before answered (at + 1 + extra + width * nat_abs (get_or ws at (pos 0)))

-- where the Sun's section and the Moon's begin
unfoldable pub places : List ℤ → Verdict Places
places ws =
    section_end ws 0 0 2 then λ sun.
    section_end ws sun 1 14 then λ moon.
    section_end ws moon 1 14 then λ end.
    refuse_when (ltb end (length ws)) 13 before answered (record { sun = sun; moon = moon })

-- what the words between two places are
abbrev pub words_from : List ℤ → ℕ → ℕ → List ℤ
words_from ws from end = take (end - from) (drop from ws)

abbrev pub inputs_at : List ℤ → Places → Inputs
inputs_at ws p = record {
  leap = words_from ws 1 p.sun;
  sun_start = get_or ws (p.sun + 1) (pos 0);
  sun_coefs = words_from ws (p.sun + 2) p.moon;
  moon_start = get_or ws (p.moon + 1) (pos 0);
  moon_coefs = words_from ws (p.moon + 2) (length ws);
}
