-- Who serves, case by case: both series are accepted, and near covers the second; or long does and near does not; or neither does. Assumes nothing.
use Rattle.std.specs.Prelude.{◌≡◌, true, false, ℤ}
use Rattle.refusals.specs.Verdict.{answered, refused}
use Rattle.series.specs.Series.{Series, covers}
use Rattle.series.specs.Acceptance.{Accepted}
use Rattle.served.specs.declared.Side.TheVariants.{Near, Long}
use Rattle.served.specs.Served.{served_by, serves}

module _ (n l : Series) (second : ℤ) (p : Accepted n) (q : Accepted l) where
  pub near_serves : covers n second ≡ true → serves n l second ≡ answered (served_by Near n second)
  unfolding serves
  near_serves h = rw (p, q, h)

  pub long_serves : covers n second ≡ false → covers l second ≡ true → serves n l second ≡ answered (served_by Long l second)
  unfolding serves
  long_serves h k = rw (p, q, h, k)

  pub none_serves : covers n second ≡ false → covers l second ≡ false → serves n l second ≡ refused 18 0
  unfolding serves
  none_serves h k = rw (p, q, h, k)
