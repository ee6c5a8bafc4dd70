-- `listing::parts::put_lines` meets its contract: the loop's invariant is `Printed`, and that no line past the last is counted. In the needs, `loop` is the place
-- where a turn begins. Assumes nothing.
use Prim.Native.Nat.{ℕ, ◌+◌, ◌-◌, ◌≤◌, ◌<◌}
use lib.ListN.{length, get_or, take, drop}
use mir.Facts.{to_z-of_z}
use mir.Syntax.{w64}
use mir.Val.{to_z, of_z}
use mathlib.Core.List.{List, [], ◌++◌}
use mathlib.Core.Path.{◌≡◌, sym, ap, ap₂, subst, ◌∙◌}
use native.Mathlib.Omega.{arith}
use Rattle.whole.specs.Ranges.{back}
use Rattle.text.specs.Text.{line_length, line_length_lem}
use Rattle.marks.specs.Listed.{first_reached}
use Rattle.marks.proofs.theory.Nth.{marks_few}
use Rattle.inputs.specs.Inputs.{Inputs, inputs, sun, moon}
use Rattle.listing.specs.declared.lines.Line.{Line}
use Rattle.listing.specs.Lines.{line_text}
use Rattle.listed.specs.Listing.{lines_of}
use Rattle.listing.specs.theory.Numbered.{lines_count}
use Rattle.listing.proofs.Printed.{Printed, start, next, room_length, stop_full, stop_end}
use Rattle.listing.proofs.parts.put_lines.Goals as goal
use Rattle.listing.proofs.parts.put_lines.Goals.{Start, After-count-moons, At-loop-i}

abbrev inputs_of : Start → Inputs
inputs_of c = let a = c.args in inputs a.leap.now a.sunstart.0 a.sun.now a.moonstart.0 a.moon.now

abbrev all_lines : Start → List (List ℕ)
all_lines c = lines_of (inputs_of c) (to_z w64 (of_z w64 c.args.zone))

counted : (c : After-count-moons) → c.count-suns.result + c.count-moons.result ≡ length (lines_of (inputs c.args.leap.now c.args.sunstart.0 c.args.sun.now c.args.moonstart.0 c.args.moon.now) (to_z w64 (of_z w64 c.args.zone)))
counted c =
    let a = c.args in
    let i = inputs a.leap.now a.sunstart.0 a.sun.now a.moonstart.0 a.moon.now in
    omega (arith, c.count-suns.ensures, c.count-moons.ensures, lines_count i (to_z w64 (of_z w64 a.zone)))

few : (c : Start) → length (all_lines c) ≤ 4000400000000000
few c =
    let known = c.requires.known in
    omega (arith, lines_count (inputs_of c) (to_z w64 (of_z w64 c.args.zone)), marks_few (sun (inputs_of c)) known.sun_ready.is_accepted, marks_few (moon (inputs_of c)) known.moon_ready.is_accepted)

whole_room : (c : At-loop-i) → (length c.loop-i.room ≡ length c.args.room.now)
whole_room c =
    let a = c.args in
    room_length (lines_of (inputs a.leap.now a.sunstart.0 a.sun.now a.moonstart.0 a.moon.now) (to_z w64 (of_z w64 a.zone))) a.from a.room.now c.loop-i.invariant.printed

size_of : (r : Line) → length (line_text r) ≡ line_length r.index
size_of r = line_length_lem r.letter r.index r.moment.year r.moment.month r.moment.day r.moment.hour r.moment.minute r.moment.second r.moment.millisecond

pub count-suns-requires : goal.count-suns-requires
count-suns-requires c = c.requires.known.sun_ready.is_accepted

pub count-moons-requires : goal.count-moons-requires
count-moons-requires c = c.requires.known.moon_ready.is_accepted

pub first_reached-sunlowest-requires : goal.first_reached-sunlowest-requires
first_reached-sunlowest-requires c = c.requires.known.sun_ready.is_accepted

pub first_reached-moonlowest-requires : goal.first_reached-moonlowest-requires
first_reached-moonlowest-requires c = c.requires.known.moon_ready.is_accepted

pub overflow_add-total : goal.overflow_add-total
overflow_add-total c = record { fits = omega (arith, counted (goal.at.overflow_add-total c).After-count-moons, few (goal.at.overflow_add-total c).Start) }

pub loop-i-init : goal.loop-i-init
loop-i-init c = record { printed = start (all_lines (goal.at.loop-i-init c).Start) c.args.from c.args.room.now; counted = omega arith }

pub line_at-line-requires : goal.line_at-line-requires
line_at-line-requires c =
    let sun-lowest : to_z w64 (of_z w64 c.first_reached-sunlowest.result) ≡ first_reached (sun (inputs_of (goal.at.line_at-line-requires c).Start)) = rw (back c.first_reached-sunlowest.result c.first_reached-sunlowest.type_inv) c.first_reached-sunlowest.ensures in
    let moon-lowest : to_z w64 (of_z w64 c.first_reached-moonlowest.result) ≡ first_reached (moon (inputs_of (goal.at.line_at-line-requires c).Start)) = rw (back c.first_reached-moonlowest.result c.first_reached-moonlowest.type_inv) c.first_reached-moonlowest.ensures in record { known = c.requires.known; sunlowest_value = sun-lowest; moonlowest_value = moon-lowest; suns_value = c.count-suns.ensures; i_in_bounds = omega (arith, c.loop-i-test.true, counted (goal.at.line_at-line-requires c).After-count-moons); within = rw (to_z-of_z c.ranges.zone) c.requires.within }

pub overflow_sub-room : goal.overflow_sub-room
overflow_sub-room c = omega (arith, c.loop-i.invariant.printed.inside, whole_room (goal.at.overflow_sub-room c).At-loop-i)

pub overflow_sub-result : goal.overflow_sub-result
overflow_sub-result c = c.loop-i.invariant.printed.forward

pub shape_of-room-then-room-at : goal.shape_of-room-then-room-at
shape_of-room-then-room-at c = whole_room (goal.at.shape_of-room-then-room-at c).At-loop-i

pub returns-then-room-at : goal.returns-then-room-at
returns-then-room-at c =
    let lines = all_lines (goal.at.returns-then-room-at c).Start in
    let size : length (get_or lines c.loop-i.i []) ≡ line_length c.line_at-line.result.index = ap length (sym c.line_at-line.ensures) ∙ size_of c.line_at-line.result in
    let all = rw (to_z-of_z c.ranges.zone) at (stop_full lines c.args.from c.args.room.now c.loop-i.invariant.printed (omega (arith, c.loop-i-test.true, counted (goal.at.returns-then-room-at c).After-count-moons)) (omega (arith, c.if-room-at.true, c.line_length.ensures, whole_room (goal.at.returns-then-room-at c).At-loop-i))) in
    record { value = all.0; room_after = all.1 }

pub put_line-at-requires : goal.put_line-at-requires
put_line-at-requires c =
    omega (arith, c.if-room-at.false, c.line_length.ensures, c.loop-i.invariant.printed.inside, whole_room (goal.at.put_line-at-requires c).At-loop-i)

pub loop-i-preserved : goal.loop-i-preserved
loop-i-preserved c =
    let put = c.put_line-at in
    let lines = all_lines (goal.at.loop-i-preserved c).Start in
    let l = c.loop-i in
    let text : line_text c.line_at-line.result ≡ get_or lines l.i [] = c.line_at-line.ensures in
    let size : length (get_or lines l.i []) ≡ line_length c.line_at-line.result.index = ap length (sym text) ∙ size_of c.line_at-line.result in
    let more : l.i < length lines = omega (arith, c.loop-i-test.true, counted (goal.at.loop-i-preserved c).After-count-moons) in
    let fits : length (get_or lines l.i []) ≤ length c.args.room.now - l.at = omega (arith, c.if-room-at.false, c.line_length.ensures, whole_room (goal.at.loop-i-preserved c).At-loop-i) in
    let held = put.ensures.room_after ∙ ap₂ (λ (x : List ℕ) (n : ℕ). take l.at l.room ++ x ++ drop (l.at + n) l.room) text (sym size) in
    record { printed = subst (λ (n : ℕ). Printed lines c.args.from c.args.room.now put.new.room (l.i + 1) n) (sym (put.ensures.value ∙ ap (λ (n : ℕ). l.at + n) (sym size))) (next lines c.args.from c.args.room.now l.invariant.printed more put.new.room fits held); counted = omega (arith, c.loop-i-test.true) }

pub shape_of-room : goal.shape_of-room
shape_of-room c = whole_room (goal.at.shape_of-room c).At-loop-i

pub returns : goal.returns
returns c =
    let lines = all_lines (goal.at.returns c).Start in
    let all = rw (to_z-of_z c.ranges.zone) at (stop_end lines c.args.from c.args.room.now c.loop-i.invariant.printed (omega (arith, c.loop-i-test.false, counted (goal.at.returns c).After-count-moons))) in
    let lines_put : c.saturating_sub.result ≡ c.loop-i.i - c.args.from = omega (arith, c.saturating_sub.ensures, c.loop-i.invariant.counted, c.loop-i-test.false) in
    record { value = rw lines_put all.0; room_after = all.1 }
