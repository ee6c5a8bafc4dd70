-- `finder::find` meets its contract. `at_halves` has every fact about the two halves, from the place after the second distance on.
use mathlib.Core.Path.{◌≡◌, sym, ap, ap₂, ◌∙◌}
use mathlib.Core.List.{[], ◌∷◌}
use native.Mathlib.Omega.{arith}
use Prim.Native.Nat.{ℕ, ◌*◌, ◌≤◌}
use lib.IntN.{ℤ}
use lib.ListN.{length, length-append}
use lib.Seq.{length-take-le}
use mir.Syntax.{w64}
use mir.Val.{of_z, to_z}
use mir.Facts.{to_z-of_z}
use Rattle.whole.specs.Distance.{distance_from}
use Rattle.whole.specs.Ranges.{of_z_inj, back, fits_of}
use Rattle.series.specs.Bodies.{numbers}
use Rattle.series.specs.Series.{series, value_at, last_second}
use Rattle.whole.specs.Lent.{rest_room, both_written, empty, two_set}
use Rattle.finder.proofs.Halves.{Halves, halves, inside, no_marks, no_room, some_seconds, one_mark, one_room, Inside}
use Rattle.finder.proofs.find.Reads as find
use Rattle.finder.proofs.inner.index_at.Reads as index_at
use Rattle.whole.proofs.inner.distance.Reads as distance
use Rattle.whole.proofs.inner.middle.Reads as middle
use Rattle.finder.proofs.+find.Lts-find as lts
use Rattle.finder.proofs.+find.Goals as goal

abbrev called : ℕ → lts.Claims
called t = (distance.Asked, distance.Learnt, middle.Asked, middle.Learnt, index_at.Asked, index_at.Learnt, goal.find-below t, find.Post)

-- ---- what is known at each place

-- the number of the stretch's seconds
at_seconds : (t : ℕ) (c : lts.After-distance (called t) (goal.find-at t) find.Post (goal.the-clauses-find t)) → c.distance-seconds.result ≡ distance_from c.args.lo.0 c.args.hi.0
at_seconds t c = rw (back c.args.lo.0 (omega arith), back c.args.hi.0 (omega arith)) at c.distance-seconds.ensures

-- the indices at the ends differ
at_differ : (t : ℕ) (c : lts.After-distance (called t) (goal.find-at t) find.Post (goal.the-clauses-find t)) → c.args.lowest ≡ c.args.highest → ⊥
at_differ t c e = c.if-lowest-highest.false (ap (of_z w64) e)

-- the middle lies strictly inside
at_middle : (t : ℕ) (c : lts.After-middle (called t) (goal.find-at t) find.Post (goal.the-clauses-find t)) → Inside c.args.lo.0 c.args.hi.0 c.middle.result
at_middle t c =
    let s = c.requires.stretch_of in
    let n = at_seconds t c.before.before in
    let m = rw (back c.args.lo.0 (omega arith), back c.args.hi.0 (omega arith)) at c.middle.ensures in
    inside s.ordered (some_seconds s (at_differ t c.before.before)) (λ e. c.if-seconds-eq1.false (n ∙ e)) m

at_mid : (t : ℕ) (c : lts.After-middle (called t) (goal.find-at t) find.Post (goal.the-clauses-find t)) → to_z w64 (of_z w64 c.middle.result) ≡ c.middle.result
at_mid t c = back c.middle.result c.middle.type_inv

-- the two halves
at_halves : (t : ℕ) (c : lts.After-index_at (called t) (goal.find-at t) find.Post (goal.the-clauses-find t)) →
    (let s = series c.args.body c.args.start.0 c.args.coefs.now in
    Halves (value_at s) (numbers c.args.body).mark_size c.args.start.0 (last_second s) c.args.lo.0 c.args.hi.0 c.args.lowest c.args.highest c.middle.result c.index_at-between.result (length c.args.out.now))
at_halves t c = halves c.requires.stretch_of (at_middle t c.before) (rw (at_mid t c.before) at c.index_at-between.ensures)

-- the words of the lower half's marks
at_count : (t : ℕ) (c : lts.After-distance2 (called t) (goal.find-at t) find.Post (goal.the-clauses-find t)) → c.distance-count.result ≡ distance_from c.args.lowest c.index_at-between.result
at_count t c = rw (to_z-of_z c.ranges.lowest, back c.index_at-between.result c.index_at-between.type_inv) at c.distance-count.ensures

at_within : (t : ℕ) (c : lts.After-distance2 (called t) (goal.find-at t) find.Post (goal.the-clauses-find t)) → 2 * c.distance-count.result ≤ length c.args.out.now
at_within t c =
    let w = (at_halves t c.before).within in
    let k = at_count t c in
    omega arith

-- the first call leaves as many words as it was lent
at_filled : (t : ℕ) (c : lts.After-find (called t) (goal.find-at t) find.Post (goal.the-clauses-find t)) → length c.find.new.out ≡ 2 * c.distance-count.result
at_filled t c = c.find.auto.out ∙ length-take-le (2 * c.distance-count.result) c.args.out.now (at_within t c.before.before)

-- ---- the goals

pub returns-then-lowest-highest : goal.returns-then-lowest-highest
returns-then-lowest-highest t c =
    let s = c.requires.stretch_of in
    let e = of_z_inj c.ranges.lowest c.ranges.highest c.if-lowest-highest.true in
    empty c.args.out.now (no_room s e) ∙ sym (no_marks s e)

pub returns-then-seconds-eq1 : goal.returns-then-seconds-eq1
returns-then-seconds-eq1 t c =
    let told = c.before in
    let s = c.requires.stretch_of in
    let one = sym (at_seconds t told) ∙ c.if-seconds-eq1.true in
    two_set c.args.out.now (to_z w64 (of_z w64 c.args.highest)) (to_z w64 (of_z w64 c.args.hi.0)) (one_room s (at_differ t told) one)
    ∙ ap₂ (λ (index second : ℤ). index ∷ second ∷ []) (to_z-of_z c.ranges.highest) (back c.args.hi.0 (omega arith))
    ∙ sym (one_mark s (at_differ t told) one)

pub distance-count-requires : goal.distance-count-requires
distance-count-requires t c =
    let h = at_halves t c.before in
    let w = h.within in
    rw (to_z-of_z c.ranges.lowest, back c.index_at-between.result c.index_at-between.type_inv) (record { a_le_b = h.rises; b_bound = omega arith })

pub overflow_mul-k : goal.overflow_mul-k
overflow_mul-k t c = let w = at_within t c.before in omega arith

pub slice_bounds-find-end : goal.slice_bounds-find-end
slice_bounds-find-end t c = at_within t c.before

pub slice_bounds-find-end-2 : goal.slice_bounds-find-end-2
slice_bounds-find-end-2 t c = sym (length-take-le (2 * c.distance-count.result) c.args.out.now (at_within t c.before.before))

pub find-requires : goal.find-requires
find-requires t c =
    let h = at_halves t c.before.before.before in
    let fits-middle = fits_of c.middle.result c.middle.type_inv in
    let fits-lowest = c.ranges.lowest in
    let fits-between = fits_of c.index_at-between.result c.index_at-between.type_inv in
    simp to_z-of_z
    (rw (length-take-le (2 * c.distance-count.result) c.args.out.now (at_within t c.before.before), at_count t c.before.before)
    (let f = h.below_falls in let m = c.decreases in omega arith, (c.requires.accepted, h.below)))

pub offset_bounds-out-k : goal.offset_bounds-out-k
offset_bounds-out-k t c = let w = at_within t c.before.before.before.before in omega arith

pub slice_bounds-find-count : goal.slice_bounds-find-count
slice_bounds-find-count t c = let f = at_filled t c.before.before in simp length-append (omega arith)

pub slice_bounds-find-start : goal.slice_bounds-find-start
slice_bounds-find-start t c = let f = at_filled t c.before.before in simp length-append (omega arith)

pub find-requires-2 : goal.find-requires-2
find-requires-2 t c =
    let there = c.before.before.before.before.before in
    let h = at_halves t there.before in
    let fits-middle = fits_of c.middle.result c.middle.type_inv in
    let fits-highest = c.ranges.highest in
    let fits-between = fits_of c.index_at-between.result c.index_at-between.type_inv in
    simp to_z-of_z
    (rw (rest_room c.args.out.now c.find.new.out (2 * c.distance-count.result) (at_within t there) (at_filled t c.before.before.before), at_count t there)
    (let f = h.above_falls in let m = c.decreases in omega arith, (c.requires.accepted, h.above)))

pub returns : goal.returns
returns t c =
    let middle = at_mid t c.before.before.before.before.before.before.before.before in
    let wrote-first = rw middle at c.find.ensures in
    let wrote-second = rw middle at c.find-2.ensures in
    both_written c.args.out.now c.find.new.out (2 * c.distance-count.result) (at_within t c.before.before.before.before.before.before) (at_filled t c.before.before.before.before) wrote-first wrote-second (at_halves t c.before.before.before.before.before.before.before).holds
