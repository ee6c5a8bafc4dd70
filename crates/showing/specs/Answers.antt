-- What `show` answers, on paper, and what the lent room holds afterwards: 13 for bytes that are no lawful file, then 12 where the room has fewer places than the whole
-- text. Assumes nothing: these are definitions.
use Rattle.std.specs.Prelude.{List, ℕ, ltb, length}
use Rattle.refusals.specs.Verdict.{Verdict, answered, refuse_when, ◌before◌, ◌then◌}
use Rattle.almanac.specs.Layout.{file_of}
use Rattle.showing.specs.Shown.{text_of}

-- a text put into so much room
abbrev pub text_into : List ℕ → ℕ → Verdict (List ℕ)
text_into bytes room = refuse_when (ltb room (length bytes)) 12 before answered bytes

unfoldable pub text_shown : List ℕ → ℕ → Verdict (List ℕ)
text_shown file room = file_of file then (λ c. text_into (text_of c) room)

abbrev pub all_bytes : List ℕ → List ℕ
all_bytes bytes = bytes

-- how many bytes are shown
abbrev pub counted : Verdict (List ℕ) → Verdict ℕ
counted v = v then (λ bytes. answered (length bytes))

unfoldable pub shown : List ℕ → ℕ → Verdict ℕ
shown file room = counted (text_shown file room)
