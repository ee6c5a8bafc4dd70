-- `conversion::inner::reading` meets its contract. Assumes nothing.
use mathlib.Core.Path.{◌≡◌, ◌∙◌}
use mir.Syntax.{w64}
use mir.Val.{to_z, of_z}
use mir.Facts.{to_z-of_z}
use Rattle.whole.specs.Ranges.{back}
use Rattle.clock.specs.Leap.{offset, entry_used}
use Rattle.clock.specs.Clock.{tai, reading}
use Rattle.clock.proofs.theory.Used.{used}
use Rattle.clock.proofs.theory.Sizes.{tai_small, offset_used_small}
use Rattle.clock.proofs.theory.Judged.{first_holds}
use Rattle.conversion.proofs.inner.reading.Goals as goal
use Rattle.conversion.proofs.inner.reading.Goals.{After-entry_used-i, After-offset_at-offset}

at_entry : (c : After-entry_used-i) → (c.entry_used-i.result ≡ entry_used c.args.leap.now (tai c.args.second))
at_entry c = rw c.tai_of-t.ensures at c.entry_used-i.ensures

at_offset : (c : After-offset_at-offset) → (to_z w64 (of_z w64 c.offset_at-offset.result) ≡ offset c.args.leap.now (entry_used c.args.leap.now (tai c.args.second)))
at_offset c = back c.offset_at-offset.result c.offset_at-offset.type_inv ∙ (rw (at_entry c.before) at c.offset_at-offset.ensures)

pub entry_used-i-requires : goal.entry_used-i-requires
entry_used-i-requires c =
    rw c.tai_of-t.ensures (record { leap_value = c.requires.lawful_table; t_value = first_holds c.args.leap.now c.args.second c.requires.not_early })

pub offset_at-offset-requires : goal.offset_at-offset-requires
offset_at-offset-requires c =
    rw (at_entry (goal.at.offset_at-offset-requires c).After-entry_used-i) (used c.args.leap.now (tai c.args.second) c.requires.lawful_table).below

pub local_milli-requires : goal.local_milli-requires
local_milli-requires c =
    rw (c.tai_of-t.ensures, at_offset (goal.at.local_milli-requires c).After-offset_at-offset, to_z-of_z c.ranges.zone) (record { within = tai_small c.args.second c.requires.in_range; within_2 = offset_used_small c.args.leap.now (tai c.args.second) c.requires.lawful_table; within_3 = c.requires.zone_small })

pub inserted-requires : goal.inserted-requires
inserted-requires c =
    rw c.tai_of-t.ensures (record { leap_value = c.requires.lawful_table; within = tai_small c.args.second c.requires.in_range; i_value = at_entry (goal.at.inserted-requires c).After-entry_used-i })

pub returns : goal.returns
unfolding reading
returns c =
    let milli = rw (c.tai_of-t.ensures, at_offset (goal.at.returns c).After-offset_at-offset, to_z-of_z c.ranges.zone) at c.local_milli.ensures in
    let inside = rw c.tai_of-t.ensures at c.inserted.ensures in
    λ t. record { milli = milli t; inserted = inside t }
