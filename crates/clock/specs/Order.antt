-- One shown time before another: by date, hour, minute, second and millisecond. Assumes nothing: this is a definition.
use Rattle.std.specs.Prelude.{Bool, false, pos}
use Rattle.whole.specs.Order.{first_by}
use Rattle.dates.proofs.Order.{date_first}
use Rattle.clock.specs.declared.ShownTime.{ShownTime}

unfoldable pub shown_first : ShownTime → ShownTime → Bool
shown_first t u =
    date_first t.date u.date
    (first_by (pos t.hour) (pos u.hour)
    (first_by (pos t.minute) (pos u.minute)
    (first_by (pos t.second) (pos u.second)
    (first_by (pos t.millisecond) (pos u.millisecond) false))))
