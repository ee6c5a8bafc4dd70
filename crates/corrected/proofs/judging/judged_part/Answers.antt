-- `corrected::judging::judged_part` meets its contract: a refusal is by 3, 4 or 5, so it names a segment, and that is one of the part's. Assumes nothing.
use Rattle.std.specs.Prelude.{◌≡◌, ◌+◌, ℕ, Result, Ok, Err, MatchResult, IsErrAnd}
use Rattle.std.proofs.Common.{rules, sym, refl}
use native.Mathlib.Omega.{arith}
use Rattle.refusals.specs.Verdict.{Verdict, refused, paper, refusal_number, refusal_segment, refused_is}
use Rattle.refusals.specs.declared.Refusal.{Refusal}
use Rattle.corrected.specs.theory.Parts.{part_of, part_segments}
use Rattle.corrected.specs.theory.Shifted.{shifted_by, shifted_refusal, refused_below}
use Rattle.corrected.specs.theory.Judged.{segments_below, refused_by_segment}
use Rattle.corrected.proofs.judging.judged_part.Goals as goal

pub map_err-requires : goal.map_err-requires
map_err-requires c e is κs n x fits t =
    let few = part_segments c.args.coefs.now c.args.from c.args.to c.requires.from_le_to c.requires.to_bound in
    omega (arith, refused_below (segments_below c.args.body (part_of c.args.coefs.now c.args.from c.args.to)) (refused_is (rw c.part_of.ensures at c.each_segment.ensures) is))

-- a part's answer with its refusal handed on shifted
says : (from : ℕ) {v : Verdict (Unit {0})} {Says : Refusal → Refusal → Type 0} (judged out : Result (Unit {0}) Refusal) →
    paper judged ≡ v →
    ((r s : Refusal) → v ≡ refused (refusal_number r) (refusal_segment r) → Says r s → (refusal_number s ≡ refusal_number r) × (refusal_segment s ≡ from + refusal_segment r)) →
    MatchResult judged (λ x. out ≡ Ok x) (λ e. IsErrAnd out (Says e)) →
    paper out ≡ shifted_by from v
says from (Ok x) out p shifted e = rw (e, ← p) refl
says from (Err r) (Ok x) p shifted e = absurd e
says from (Err r) (Err s) p shifted e = let t = shifted r s (sym p) e in shifted_refusal from r s (sym p) t.0 t.1

pub returns : goal.returns
returns c =
    says c.args.from c.each_segment.result c.map_err.result (rw c.part_of.ensures at c.each_segment.ensures)
    (λ r s by k. let named = refused_by_segment _ _ by in search rules)
    c.map_err.ensures.cases
