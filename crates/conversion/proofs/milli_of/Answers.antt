-- `conversion::milli_of` meets its contract. Assumes nothing.
use mathlib.Core.Path.{◌≡◌, sym, ap, subst, ◌∙◌}
use mir.Facts.{to_z-of_z}
use Rattle.refusals.specs.Verdict.{answered, accepted_is, accepted_first, refused_first, passed_on, paper}
use Rattle.clock.specs.Clock.{milli_in, Readable}
use Rattle.clock.specs.Answers.{clock_judged, milli_of}
use Rattle.clock.proofs.theory.Judged.{readable}
use Rattle.conversion.proofs.milli_of.Goals as goal
use Rattle.conversion.proofs.milli_of.Goals.{After-judge}

-- what the judge said, of this function's own zone
judged : (c : After-judge) → paper c.judge.result ≡ clock_judged c.args.leap.now c.args.second c.args.zone
judged c = c.judge.ensures ∙ ap (clock_judged c.args.leap.now c.args.second) (to_z-of_z c.ranges.zone)

pub milli_in-requires : goal.milli_in-requires
milli_in-requires c =
    subst (Readable c.args.leap.now c.args.second) (sym (to_z-of_z c.ranges.zone)) (readable c.args.leap.now c.args.second c.args.zone (accepted_is (judged (goal.at.milli_in-requires c).After-judge) c.in_ok-judge.was))

pub returns : goal.returns
unfolding milli_of
returns c =
    ap answered (c.milli_in.ensures ∙ ap (milli_in c.args.leap.now c.args.second) (to_z-of_z c.ranges.zone)) ∙ accepted_first _ (judged (goal.at.returns c).After-judge) c.in_ok-judge.was

pub returns-in_err-judge : goal.returns-in_err-judge
unfolding milli_of
returns-in_err-judge c =
    passed_on c.from_residual.result c.in_err-judge.field-0.0 c.from_residual.ensures.1 (refused_first _ (judged (goal.at.returns-in_err-judge c).After-judge) c.in_err-judge.was)
