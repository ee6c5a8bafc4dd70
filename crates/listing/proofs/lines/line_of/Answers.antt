-- `listing::lines::line_of` meets its contract. Assumes nothing.
use Prim.Native.Nat.{ℕ}
use lib.IntN.{ℤ, pos}
use lib.ListN.{get_or}
use lib.Signed.{◌<ℤ◌}
use mir.Facts.{to_z-of_z}
use mathlib.Core.List.{List}
use mathlib.Core.Path.{◌≡◌, ap, ◌∙◌}
use Rattle.whole.specs.Floor.{floor_mod}
use Rattle.whole.specs.Ranges.{back}
use Rattle.text.specs.declared.Moment.{Moment}
use Rattle.clock.specs.Clock.{shown_in}
use Rattle.series.specs.declared.Body.{Body}
use Rattle.series.specs.declared.Body.TheVariants.{Sun, Moon}
use Rattle.series.specs.Bodies.{numbers}
use Rattle.series.specs.Series.{series}
use Rattle.marks.specs.Listed.{listed_marks}
use Rattle.marks.specs.Marks.{Mark}
use Rattle.marks.specs.Answers.{no_mark}
use Rattle.inputs.specs.Inputs.{second}
use Rattle.inputs.specs.theory.Converted.{nth_readable}
use Rattle.listing.specs.Lines.{moment_of, moment_line}
use Rattle.listed.specs.Listing.{letter, line_of}
use Rattle.listing.proofs.lines.line_of.Goals as goal
use native.Mathlib.Omega.{arith}

line : (body : Body) (leap : List ℤ) (zone : ℤ) (m : Mark) {l i : ℕ} {moment : Moment} → l ≡ letter body → i ≡ floor_mod m.index (numbers body).circle → moment ≡ moment_of (shown_in leap (second m) zone) → moment_line l i moment ≡ line_of body leap zone m
unfolding line_of
line body leap zone m q r u = rw (q, r, u)

some_circle : (body : Body) → pos 0 <ℤ pos (numbers body).circle
some_circle Sun = record { lt = tt }
some_circle Moon = record { lt = tt }

pub nth_after-mark-requires : goal.nth_after-mark-requires
nth_after-mark-requires c = record { accepted = c.requires.ready.is_accepted; lowest_value = rw (to_z-of_z c.ranges.lowest) c.requires.lowest_value; k_in_bounds = c.requires.k_in_bounds }

pub shown_in-shown-requires : goal.shown_in-shown-requires
shown_in-shown-requires c =
    let s = series c.args.body c.args.start.0 c.args.coefs.now in
    rw (ap second c.nth_after-mark.ensures, to_z-of_z c.ranges.zone) (nth_readable c.args.leap.now s c.requires.ready c.args.k c.requires.k_in_bounds c.args.zone c.requires.within)

pub floor_mod-turn-requires : goal.floor_mod-turn-requires
floor_mod-turn-requires c =
    rw (back c.circle_of.result c.circle_of.type_inv, c.circle_of.ensures) (some_circle c.args.body)

pub returns : goal.returns
returns c =
    let body = c.args.body in
    let s = series body c.args.start.0 c.args.coefs.now in
    let m = get_or (listed_marks s) c.args.k no_mark in
    let there = ap second c.nth_after-mark.ensures in
    let index : c.nth_after-mark.result.index ≡ m.index = ap (λ (x : Mark). x.index) c.nth_after-mark.ensures in
    let is : c.absolute.result ≡ floor_mod m.index (numbers body).circle =
    rw (back c.floor_mod-turn.result c.floor_mod-turn.type_inv, c.floor_mod-turn.ensures, back c.circle_of.result c.circle_of.type_inv, back c.nth_after-mark.result.index (omega arith), c.circle_of.ensures, index) at c.absolute.ensures
    in
    line body c.args.leap.now c.args.zone m c.letter_of.ensures is (c.moment_of.ensures ∙ ap moment_of (rw (there, to_z-of_z c.ranges.zone) at c.shown_in-shown.ensures))
