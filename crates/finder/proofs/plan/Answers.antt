-- `finder::plan` meets its contract. Assumes nothing.
use mathlib.Core.Path.{◌≡◌, sym, ap, ◌∙◌}
use mathlib.Core.Bool.{true, false}
use Prim.Native.Nat.{◌*◌}
use native.Mathlib.Omega.{arith}
use borrow.Author.Tests.{lt-ltb, le-ltb}
use lib.Dec.{ltb}
use lib.ListN.{length}
use Rattle.refusals.specs.Verdict.{passed_on, answered, accepted_is, refused_first, accepted_first, test_refuses, test_passes}
use Rattle.series.specs.Series.{Series, series}
use Rattle.series.specs.Acceptance.{Accepted}
use Rattle.marks.specs.Listed.{listed_marks}
use Rattle.marks.specs.Words.{mark_words}
use Rattle.marks.proofs.theory.Words.{words_length}
use Rattle.finder.proofs.plan.Goals as goal
use Rattle.finder.proofs.plan.Goals.{After-count-marks, In_ok-accept}

abbrev series_of : In_ok-accept → Series
series_of c = series c.args.body c.args.start.0 c.args.coefs.now

at_accepted : (c : In_ok-accept) → Accepted (series_of c)
at_accepted c = accepted_is c.accept.ensures c.in_ok-accept.was

-- the words that the marks fill
at_words : (c : After-count-marks) → length (mark_words (listed_marks (series_of c.before))) ≡ 2 * c.count-marks.result
at_words c = words_length (listed_marks (series_of c.before)) ∙ ap (◌*◌ 2) (sym c.count-marks.ensures)

pub returns-in_err-accept : goal.returns-in_err-accept
returns-in_err-accept c =
    passed_on c.from_residual.result c.in_err-accept.field-0.0 c.from_residual.ensures.1 (refused_first _ c.accept.ensures c.in_err-accept.was)

pub count-marks-requires : goal.count-marks-requires
count-marks-requires c = at_accepted c

pub returns-then-room-marks : goal.returns-then-room-marks
returns-then-room-marks c =
    let words = at_words c.before in
    let few = c.if-room-marks.true in
    let short : ltb c.args.room (length (mark_words (listed_marks (series_of c.before.before)))) ≡ true = lt-ltb c.args.room (length (mark_words (listed_marks (series_of c.before.before)))) (omega arith) in
    test_refuses 12 _ short ∙ accepted_first _ c.accept.ensures c.in_ok-accept.was

pub returns : goal.returns
returns c =
    let words = at_words c.before in
    let room = c.if-room-marks.false in
    let enough : ltb c.args.room (length (mark_words (listed_marks (series_of c.before.before)))) ≡ false = le-ltb c.args.room (length (mark_words (listed_marks (series_of c.before.before)))) (omega arith) in
    ap answered c.count-marks.ensures ∙ test_passes 12 _ enough ∙ accepted_first _ c.accept.ensures c.in_ok-accept.was
