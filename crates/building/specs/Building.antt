-- The input of the build program: signed 64-bit little-endian words, first Y, count of suis, then leap table, Sun and Moon as in the listing's layout. The zone is no
-- part of it, and is judged first of all (15). Longer than the longest series allow, not in whole words, too short, with words left over or with a negative count of a
-- section is 13, judged next; then the file build's own refusals. Assumes nothing: these are definitions.
use Rattle.std.specs.Prelude.{Bool, not, ◌&&◌, List, ℕ, ◌/◌, ◌%◌, ltb, leb, eqb, ℤ, pos, length, get_or, take, drop}
use Rattle.refusals.specs.Verdict.{Verdict, refuse_when, ◌before◌, ◌then◌}
use Rattle.words.specs.Words.{words}
use Rattle.clock.specs.Answers.{zone_judged}
use Rattle.layout.specs.Layout.{places, inputs_at}
use Rattle.built.specs.Build.{bytes_built}

unfoldable pub built_from_rest : List ℤ → ℤ → ℤ → ℤ → ℕ → Verdict (List ℕ)
built_from_rest ws zone first count room = places ws then (λ p. bytes_built (inputs_at ws p) zone first count room)

unfoldable pub built_from_words : List ℤ → ℤ → ℕ → Verdict (List ℕ)
built_from_words ws zone room = refuse_when (ltb (length ws) 2) 13 before built_from_rest (drop 2 ws) zone (get_or ws 0 (pos 0)) (get_or ws 1 (pos 0)) room

-- how many bytes an input may have: whole words, and at most 252,135 of them: first Y, count, 64 leap entries, 2,000 segments of the Sun and 16,000 of the Moon
unfoldable pub length_kept : ℕ → Bool
length_kept bytes = leb bytes 2017080 && eqb (bytes % 8) 0

unfoldable pub built_from : List ℕ → ℤ → ℕ → Verdict (List ℕ)
built_from bytes zone room = zone_judged zone before refuse_when (not (length_kept (length bytes))) 13 before built_from_words (words bytes (length bytes / 8)) zone room

-- ---- an input that came in pieces, of which only the words were kept (`pieces`)
-- whether an input may have so many bytes, and their words were all taken
unfoldable pub all_taken : List ℤ → ℕ → Bool
all_taken ws bytes = length_kept bytes && leb (bytes / 8) (length ws)

-- what is built once so many bytes were taken: `Pieces` says that it is what is built from these bytes
unfoldable pub built_from_taken : List ℤ → ℕ → ℤ → ℕ → Verdict (List ℕ)
built_from_taken ws bytes zone room = zone_judged zone before refuse_when (not (all_taken ws bytes)) 13 before built_from_words (take (bytes / 8) ws) zone room
