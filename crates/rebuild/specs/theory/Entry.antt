-- From the old file to the rebuild over its years: the zone is judged, the file is read, the old inputs are judged, and what is left is `rebuilt_over`. Assumes nothing.
use Rattle.std.proofs.Math.Path.{◌≡◌, refl, sym}
use Rattle.std.proofs.Common.{ap, ◌∙◌}
use Rattle.std.specs.Prelude.{Bool, not, List, ℕ, ◌≤◌, ℤ, pos}
use Rattle.std.proofs.Math.Bool.{true, false}
use Rattle.whole.specs.Parts.{ℤ_rules}
use Rattle.whole.specs.Tests.{in_range, says_in_range}
use Rattle.refusals.specs.Verdict.{Verdict, answered, refused, accepted, refuse_when, then_answered, answers_apart, answer_or_refusal, ◌before◌, ◌then◌}
use Rattle.clock.specs.Answers.{zone_judged}
use Rattle.inputs.specs.Inputs.{Inputs, inputs_judged, judged_in}
use Rattle.content.specs.Content.{Content}
use Rattle.almanac.specs.Layout.{file_of}
use Rattle.built.specs.Build.{bytes_of_years, bytes_built, built_by}
use Rattle.rebuilt.specs.declared.Years.{Years}
use Rattle.rebuilt.specs.Rebuild.{NewFile, is_file, most_bytes, new_file_by, kept_by, kept, given_by, rebuilt, rebuilt_by, years_in}
use Rattle.rebuild.specs.theory.Over.{fresh_bytes, rebuilt_over}

-- ---- a build of 1 to 128 years, behind the judgement of its inputs
module _ (n : ℕ) (some : 1 ≤ n) (few : n ≤ 128) where
  so_many : in_range (pos 1) (pos 128) (pos n) ≡ true
  so_many = says_in_range (pos 1) (pos 128) (pos n) (omega (ℤ_rules, some)) (omega (ℤ_rules, few))

  pub fresh_built : (i : Inputs) (zone first : ℤ) (room : ℕ) → zone_judged zone ≡ accepted → bytes_built i zone first (pos n) room ≡ fresh_bytes i zone first n room
  unfolding built_by judged_in
  fresh_built i zone first room z = rw (z, so_many)

-- ---- the cases, behind the zone
module _ (old new : Inputs) (zone : ℤ) (in_zone : zone_judged zone ≡ accepted) (file : List ℕ) (room places : ℕ) where
  abbrev read : Verdict Years
  read = file_of file then λ c. answered (years_in c)

  -- the old file is not lawful
  pub not_read : {number segment : ℕ} → refused number segment ≡ read → rebuilt old new zone file room places ≡ refused number segment
  unfolding rebuilt_by given_by
  not_read e = go (file_of file) refl e
    where
      go : (v : Verdict Content) → file_of file ≡ v → {number segment : ℕ} → ◌≡◌ {A = Verdict Years} (refused number segment) (v then λ c. answered (years_in c)) → rebuilt old new zone file room places ≡ refused number segment
      go (answered c) q e = answer_or_refusal (sym e)
      go (refused number segment) q e = rw (in_zone, q) cc

  -- by the years of its content
  abbrev over : Years → Verdict NewFile
  over y = refuse_when (not (is_file (bytes_built old zone y.first (pos y.count) most_bytes) file)) 13 before new_file_by (bytes_built new zone y.first (pos y.count) room) (kept_by (kept old new zone) y.first y.count) places

  by_content : (c : Content) → file_of file ≡ answered c → rebuilt old new zone file room places ≡ over (years_in c)
  unfolding rebuilt_by given_by
  by_content c q = rw (in_zone, q) (go (years_in c) (is_file (bytes_built old zone (years_in c).first (pos (years_in c).count) most_bytes) file))
    where
      go : (y : Years) (b : Bool) → ((refuse_when (not b) 13 before answered y) then λ z. new_file_by (bytes_built new zone z.first (pos z.count) room) (kept_by (kept old new zone) z.first z.count) places) ≡ (refuse_when (not b) 13 before new_file_by (bytes_built new zone y.first (pos y.count) room) (kept_by (kept old new zone) y.first y.count) places)
      go y true = refl
      go y false = refl

  module _ {y : Years} (e : answered y ≡ read) where
    -- its content, and that its years are these
    content_read_lem : (c : Content) × ((file_of file ≡ answered c) × (years_in c ≡ y))
    content_read_lem = let found = then_answered (file_of file) (λ c. answered (years_in c)) y (sym e) in (found.0, (found.1, answers_apart found.2))

    -- the rebuild, by these years
    by_years : rebuilt old new zone file room places ≡ over y
    by_years = by_content content_read_lem.0 content_read_lem.1.0 ∙ ap over content_read_lem.1.1

    -- the old inputs are refused
    pub old_not_accepted : {number segment : ℕ} → inputs_judged old ≡ refused number segment → rebuilt old new zone file room places ≡ refused 13 0
    unfolding built_by judged_in
    old_not_accepted q = by_years ∙ rw (in_zone, q) refl

    -- they are accepted
    pub old_accepted : inputs_judged old ≡ accepted → 1 ≤ y.count → y.count ≤ 128 → rebuilt_over old new zone file y.first y.count room places ≡ rebuilt old new zone file room places
    unfolding rebuilt_over
    old_accepted q some few =
        let built : bytes_built old zone y.first (pos y.count) most_bytes ≡ bytes_of_years old zone y.first y.count most_bytes = fresh_built y.count some few old zone y.first most_bytes in_zone ∙ rw q refl in
        sym (by_years ∙ rw (built, fresh_built y.count some few new zone y.first room in_zone) refl)
