-- `content::inner::judge_month` meets its contract. Assumes nothing.
use mathlib.Core.Path.{◌≡◌, sym, ◌∙◌}
use mathlib.Core.Bool.{true, false}
use Prim.Native.Nat.{◌-◌}
use lib.IntN.{◌+ℤ◌}
use mir.Facts.{to_z-of_z}
use Rattle.whole.specs.Ranges.{fits, bounds, back}
use Rattle.whole.specs.Tests.{is_exactly}
use Rattle.content.specs.Steps.{days_after, ordinary, leap_handle, handle_after}
use Rattle.content.proofs.theory.Judged.{same_bits, other_bits, ordinary_small, days_say, days_stop, ordinary_on, handle_stops, leap_on}
use Rattle.content.proofs.inner.judge_month.Goals as goal
use Rattle.content.proofs.inner.judge_month.Goals.{After-add-behind, After-good_days, Then-handle-next, Else-handle-next, After-leap_handle, Else-not-good_days}

good_days_say : (c : After-good_days) → (let a = c.args in c.good_days.result ≡ days_after a.due a.first a.size)
good_days_say c =
    let fd = c.ranges.due in
    let ff = c.ranges.first in
    let fs = c.ranges.size in
    rw (to_z-of_z fd, to_z-of_z ff, to_z-of_z fs) at c.good_days.ensures

days_passed : (c : Else-not-good_days) → (let a = c.args in days_after a.due a.first a.size ≡ true)
days_passed c = sym (good_days_say c.before) ∙ c.if-not-good_days.false

behind : (c : After-add-behind) → (let a = c.args in c.add-behind.result ≡ a.first +ℤ a.size)
behind c =
    let ff = c.ranges.first in
    let fs = c.ranges.size in
    rw (to_z-of_z ff, to_z-of_z fs) at c.add-behind.ensures

is_ordinary : (c : Then-handle-next) → (let a = c.args in is_exactly (ordinary a.year (a.place - a.leaps)) a.handle ≡ true)
is_ordinary c = rw c.requires.next_value at (same_bits c.args.next c.args.handle c.ranges.next c.ranges.handle c.if-handle-next.true)

not_ordinary : (c : Else-handle-next) → (let a = c.args in is_exactly (ordinary a.year (a.place - a.leaps)) a.handle ≡ false)
not_ordinary c = rw c.requires.next_value at (other_bits c.args.next c.args.handle c.if-handle-next.false)

is_leap : (c : After-leap_handle) → (let a = c.args in c.leap_handle.result ≡ leap_handle a.year a.months a.leaps a.place a.handle)
is_leap c =
    let fy = c.ranges.year in
    let fm = c.ranges.months in
    let fh = c.ranges.handle in
    rw (to_z-of_z fy, to_z-of_z fm, to_z-of_z fh) at c.leap_handle.ensures

pub returns-then-not-good_days : goal.returns-then-not-good_days
returns-then-not-good_days c =
    let a = c.args in
    days_stop a.year a.months a.leaps a.place a.due a.handle a.first a.size (sym (good_days_say (goal.at.returns-then-not-good_days c).After-good_days) ∙ c.if-not-good_days.true)

pub add-behind-requires : goal.add-behind-requires
add-behind-requires c =
    let a = c.args in
    let ff = c.ranges.first in
    let fs = c.ranges.size in
    let small = days_say a.due a.first a.size c.requires.within_2 (days_passed (goal.at.add-behind-requires c).Else-not-good_days) in
    let first = small.0 in
    let size = small.1 in
    rw (to_z-of_z ff, to_z-of_z fs) (fits (search bounds) tt)

pub handle_after-requires : goal.handle_after-requires
handle_after-requires c =
    let fy = c.ranges.year in
    let fn = c.ranges.next in
    rw (to_z-of_z fy, to_z-of_z fn) (record { within = c.requires.within; within_2 = rw c.requires.next_value (ordinary_small c.args.year (c.args.place - c.args.leaps) c.requires.within) })

pub returns-then-handle-next : goal.returns-then-handle-next
returns-then-handle-next c =
    let a = c.args in
    let fy = c.ranges.year in
    let fn = c.ranges.next in
    let next : c.handle_after.result ≡ handle_after a.year (ordinary a.year (a.place - a.leaps)) = rw (to_z-of_z fy, to_z-of_z fn, c.requires.next_value) at c.handle_after.ensures in
    rw (back c.handle_after.result c.handle_after.type_inv, next, back c.add-behind.result c.add-behind.type_inv, behind (goal.at.returns-then-handle-next c).After-add-behind)
    (ordinary_on a.year a.months a.leaps a.place a.due a.handle a.first a.size (days_passed (goal.at.returns-then-handle-next c).Else-not-good_days) c.requires.place_bound c.requires.leaps_le_place (is_ordinary (goal.at.returns-then-handle-next c).Then-handle-next))

pub returns-then-not-leap_handle : goal.returns-then-not-leap_handle
returns-then-not-leap_handle c =
    let a = c.args in
    handle_stops a.year a.months a.leaps a.place a.due a.handle a.first a.size (days_passed (goal.at.returns-then-not-leap_handle c).Else-not-good_days) c.requires.place_bound c.requires.leaps_le_place (not_ordinary (goal.at.returns-then-not-leap_handle c).Else-handle-next)
    (sym (is_leap (goal.at.returns-then-not-leap_handle c).After-leap_handle) ∙ c.if-not-leap_handle.true)

pub returns : goal.returns
returns c =
    let a = c.args in
    let fn = c.ranges.next in
    rw (to_z-of_z fn, c.requires.next_value, back c.add-behind.result c.add-behind.type_inv, behind (goal.at.returns c).After-add-behind)
    (leap_on a.year a.months a.leaps a.place a.due a.handle a.first a.size (days_passed (goal.at.returns c).Else-not-good_days) c.requires.place_bound c.requires.leaps_le_place (not_ordinary (goal.at.returns c).Else-handle-next)
    (sym (is_leap (goal.at.returns c).After-leap_handle) ∙ c.if-not-leap_handle.false))
