-- The cases of a replacement: no such segment, the new series refused, the new series accepted. What is promised in each. Assumes nothing but what a statement says
-- itself.
use Rattle.std.specs.Prelude.{◌≡◌, refl, List, ℕ, ◌≤◌, ◌<◌, ℤ}
use Rattle.std.proofs.Common.{le-leb}
use Rattle.std.proofs.lemmas.Bool.{lt-leb}
use Rattle.refusals.specs.Verdict.{Verdict, answered, refused, accepted}
use Rattle.series.specs.Series.{Series, segments}
use Rattle.series.specs.Acceptance.{Accepted, series_judged}
use Rattle.replacing.specs.Replaced.{replaced, series_with, segment_replaced, segment_checked, held_after}

module _ (s : Series) (k : ℕ) (part : List ℤ) where
  pub no_segment : segments s.coefs ≤ k → segment_replaced s k part ≡ refused 6 0
  unfolding segment_replaced
  no_segment h = rw (le-leb (segments s.coefs) k h)

  pub new_refused : {number segment : ℕ} → k < segments s.coefs → series_judged (series_with s k part) ≡ refused number segment → segment_replaced s k part ≡ refused number segment
  unfolding segment_replaced
  new_refused h e = rw (lt-leb (segments s.coefs) k h, e)

  pub new_accepted : k < segments s.coefs → Accepted (series_with s k part) → segment_replaced s k part ≡ answered (replaced s.coefs k part)
  unfolding segment_replaced
  new_accepted h e = rw (lt-leb (segments s.coefs) k h, e)

  -- what is returned, and what the lent coefficients are
  abbrev pub Promises : Verdict (Unit {0}) → List ℤ → Type 0
  Promises said held = (said ≡ segment_checked s k part) × (held ≡ held_after (segment_replaced s k part) s.coefs)

  pub where_refused : {number segment : ℕ} {held : List ℤ} → segment_replaced s k part ≡ refused number segment → held ≡ s.coefs → Promises (refused number segment) held
  where_refused e h = rw e (refl, h)

  pub where_answered : {new held : List ℤ} → segment_replaced s k part ≡ answered new → held ≡ new → Promises accepted held
  where_answered e h = rw e (refl, h)
