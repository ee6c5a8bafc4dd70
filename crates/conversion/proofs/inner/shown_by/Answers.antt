-- `conversion::inner::shown_by` meets its contract. Assumes nothing.
use native.Mathlib.Omega.{arith}
use Prim.Native.Nat.{◌/◌, ◌%◌}
use mathlib.Core.Path.{◌≡◌, ap, ◌∙◌}
use lib.IntN.{nat_abs}
use Rattle.whole.specs.Ranges.{back}
use Rattle.whole.specs.Floor.{floor_mod}
use Rattle.times.specs.declared.Day.{Day}
use Rattle.times.specs.declared.Milli.{Milli}
use Rattle.dates.specs.Answers.{has_date}
use Rattle.dates.specs.Calendar.{date_for}
use Rattle.clock.specs.Clock.{read_off, day_of_milli, second_said, shown_by}
use Rattle.conversion.proofs.inner.shown_by.Goals as goal

pub date_for-date-requires : goal.date_for-date-requires
date_for-date-requires c =
    ap (λ (d : Day). has_date d.0) (c.day_of_milli.ensures ∙ ap day_of_milli c.read_off-count.ensures) ∙ c.requires.read_value

pub returns : goal.returns
unfolding shown_by
returns c =
    let read = c.args.read in
    let count : c.read_off-count.result ≡ read_off read = c.read_off-count.ensures in
    let r = back c.floor_mod.result c.floor_mod.type_inv ∙ (rw (back c.read_off-count.result.0 (omega arith)) at c.floor_mod.ensures) in
    let rest : c.absolute-rest.result ≡ floor_mod (read_off read).0 86400000 = c.absolute-rest.ensures ∙ ap nat_abs r ∙ ap (λ (m : Milli). floor_mod m.0 86400000) count in
    let date = c.date_for-date.ensures ∙ ap (λ (d : Day). date_for d.0) (c.day_of_milli.ensures ∙ ap day_of_milli count) in
    let second = c.second_said-second.ensures ∙ ap (second_said read.inserted) rest in
    λ t. record { date = date t; hour = rest t / 3600000; minute = rest t / 60000 % 60; second = second t; millisecond = rest t % 1000 }
