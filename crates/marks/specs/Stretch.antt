-- What the finder is handed: a stretch of a rising value, the indices at its two ends, and room for exactly its marks. What the locator is handed: two seconds
-- with their values, the first under a mark and the second at it or over; the segments in which it looks for a mark's; and what one
-- look tells. Assumes nothing: these are definitions.
use Rattle.std.specs.Prelude.{◌≡◌, List, ℕ, ◌*◌, ◌^◌, ◌≤◌, ◌<◌, ℤ, pos, ◌*ℤ◌, ◌≤ℤ◌, ◌<ℤ◌}
use Rattle.whole.specs.Distance.{distance_from}
use Rattle.whole.specs.Ranges.{Within}
use Rattle.series.specs.Bodies.{numbers}
use Rattle.series.specs.Series.{Series, InSpan, value_at, last_second, segments}
use Rattle.series.specs.Facts.{Ranged}
use Rattle.series.specs.Rising.{Rising}
use Rattle.marks.specs.Marks.{index_at}
use Rattle.marks.specs.Listed.{second_of_mark}

pub record Stretch (v : ℤ → ℤ) (size : ℕ) (first last lo hi low-index high-index : ℤ) (room : ℕ) : Type 0 where
  pub rising : Rising v first last size
  pub short : distance_from first last < 2 ^ 62
  pub from_first : first ≤ℤ lo
  pub ordered : lo ≤ℤ hi
  pub by_last : hi ≤ℤ last
  pub at_lo : low-index ≡ index_at v size lo
  pub at_hi : high-index ≡ index_at v size hi
  pub room_is : room ≡ 2 * distance_from low-index high-index

pub record Bracket (v : ℤ → ℤ) (size : ℕ) (first last j lo hi below above : ℤ) : Type 0 where
  pub from_first : first ≤ℤ lo
  pub ordered : lo <ℤ hi
  pub by_last : hi ≤ℤ last
  pub at_lo : below ≡ v lo
  pub at_hi : above ≡ v hi
  pub under : below <ℤ (j *ℤ pos size)
  pub reaching : (j *ℤ pos size) ≤ℤ above

-- both of a series
module _ (s : Series) where
  abbrev pub StretchOf : (lo hi low-index high-index : ℤ) (room : ℕ) → Type 0
  StretchOf = Stretch (value_at s) (numbers s.body).mark_size s.start (last_second s)

  abbrev pub BracketOf : (j lo hi below above : ℤ) → Type 0
  BracketOf = Bracket (value_at s) (numbers s.body).mark_size s.start (last_second s)

  -- the same, at the values themselves
  abbrev pub Around : (j lo hi : ℤ) → Type 0
  Around j lo hi = BracketOf j lo hi (value_at s lo) (value_at s hi)

-- two seconds that enclose a mark's: it comes after the first and by the second, which lies in the span
pub record Enclosed (s : Series) (j after by : ℤ) : Type 0 where
  pub comes_after : after <ℤ second_of_mark s j
  pub comes_by : second_of_mark s j ≤ℤ by
  pub in_span : InSpan s by
  pub small : Within 10000000000000000 after

-- whole segments in range, some and not too many
pub record Searched (coefs : List ℤ) : Type 0 where
  pub ranged : Ranged coefs
  pub some : 0 < segments coefs
  pub few : segments coefs ≤ 16000
