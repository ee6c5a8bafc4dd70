-- Two series of one kind, a near and a long one: which of them serves a second, by which segment, and which part of the lent coefficients that is (document 02,
-- order 13). Assumes nothing: these are definitions.
use Rattle.std.specs.Prelude.{cond, List, ℕ, ◌*◌, ℤ}
use Rattle.std.specs.Borrow.{Bor}
use Rattle.whole.specs.PartOf.{PartOf}
use Rattle.refusals.specs.Verdict.{Verdict, answered, refused, ◌before◌}
use Rattle.series.specs.Series.{Series, covers, segment_at}
use Rattle.series.specs.Acceptance.{series_judged}
use Rattle.served.specs.declared.Side.{Side}
use Rattle.served.specs.declared.Side.TheVariants.{Near, Long}
use Rattle.served.specs.declared.Served.{Served}

-- of a near thing and a long one, the one of this side
abbrev pub chosen : {A : Type 0} → Side → A → A → A
chosen Near n l = n
chosen Long n l = l

abbrev pub served_by : Side → Series → ℤ → Served
served_by side s second = record { side = side; segment = segment_at s second }

-- "out of the near series if that covers it and otherwise out of the long one"; "18, in place of 6, neither covers the second"
abbrev pub choice : Series → Series → ℤ → Verdict Served
choice n l second =
    cond (covers n second) (answered (served_by Near n second))
    (cond (covers l second) (answered (served_by Long l second))
    (refused 18 0))

-- "2 to 5 for the near series, then for the long one", and 18 behind both
unfoldable pub serves : Series → Series → ℤ → Verdict Served
serves n l second =
    series_judged n
    before series_judged l
    before choice n l second

-- ---- the part that is given back
-- "that part of the caller's own series": of which of the two, from which coefficient on, and how many
pub record Part : Type 0 where
  pub side : Side
  pub from : ℕ
  pub count : ℕ

-- the fourteen of the segment; "each refusal gives back an empty part", the one before the near series' first coefficient
abbrev pub part_served : Verdict Served → Part
part_served (answered g) = record { side = g.side; from = 14 * g.segment; count = 14 }
part_served (refused number segment) = record { side = Near; from = 0; count = 0 }

-- "and no copy": what is returned lies in the lent slice of that side, from there on, and is so long
abbrev pub IsPart : Part → Bor (List ℤ) → Bor (List ℤ) → Bor (List ℤ) → Type 0
IsPart p n l part = PartOf (chosen p.side n l) p.from p.count part
