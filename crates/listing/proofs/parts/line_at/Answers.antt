-- `listing::parts::line_at` meets its contract. Assumes nothing.
use Prim.Native.Nat.{ℕ, ◌+◌, ◌-◌, ◌<◌}
use lib.ListN.{length, get_or}
use mir.Facts.{to_z-of_z}
use mathlib.Core.List.{[]}
use mathlib.Core.Path.{◌≡◌, sym, ap, ◌∙◌}
use native.Mathlib.Omega.{arith}
use Rattle.marks.specs.Listed.{listed_marks}
use Rattle.inputs.specs.Inputs.{Inputs, inputs, sun, moon}
use Rattle.listed.specs.Listing.{lines_of}
use Rattle.listing.specs.theory.Numbered.{lines_count, sun_line, moon_line}
use Rattle.listing.proofs.parts.line_at.Goals as goal
use Rattle.listing.proofs.parts.line_at.Goals.{Else-i-suns, Start}

abbrev inputs-of : Start → Inputs
inputs-of c = inputs c.args.leap.now c.args.sunstart.0 c.args.sun.now c.args.moonstart.0 c.args.moon.now

-- behind the Sun's lines
moon_place : (c : Else-i-suns) → c.args.i - c.args.suns < length (listed_marks (moon (inputs-of c.before)))
moon_place c = omega (arith, c.requires.suns_value, c.requires.i_in_bounds, lines_count (inputs-of c.before) c.args.zone, c.if-i-suns.false)

pub line_of-requires : goal.line_of-requires
line_of-requires c = record { ready = c.requires.known.sun_ready; lowest_value = rw (to_z-of_z c.ranges.sunlowest) c.requires.sunlowest_value; k_in_bounds = omega (arith, c.requires.suns_value, c.if-i-suns.true); within = rw (to_z-of_z c.ranges.zone) c.requires.within }

pub returns-then-i-suns : goal.returns-then-i-suns
returns-then-i-suns c =
    (rw (to_z-of_z c.ranges.zone) at c.line_of.ensures) ∙ sym (sun_line (inputs-of c.before.before) c.args.zone c.args.i (omega (arith, c.requires.suns_value, c.if-i-suns.true)))

pub line_of-requires-2 : goal.line_of-requires-2
line_of-requires-2 c = record { ready = c.requires.known.moon_ready; lowest_value = rw (to_z-of_z c.ranges.moonlowest) c.requires.moonlowest_value; k_in_bounds = moon_place c; within = rw (to_z-of_z c.ranges.zone) c.requires.within }

pub returns : goal.returns
returns c =
    let i = inputs-of c.before.before in
    let k = c.args.i - c.args.suns in
    let at : length (listed_marks (sun i)) + k ≡ c.args.i = omega (arith, c.requires.suns_value, c.if-i-suns.false) in
    (rw (to_z-of_z c.ranges.zone) at c.line_of-2.ensures) ∙ sym (moon_line i c.args.zone k (moon_place c.before)) ∙ ap (λ (n : ℕ). get_or (lines_of i c.args.zone) n []) at
