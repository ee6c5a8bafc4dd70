-- What the days ahead of a place tell: each is a turn's day, and `one_more` of them is a count of all turns. Assumes nothing.
use Rattle.std.specs.Prelude.{◌≡◌, Bool, true, false, cond, not, ◌&&◌, ◌||◌, List, [], ◌++◌, ℕ, ◌+◌, ◌-◌, ◌≤◌, ◌<◌, eqb, leb, ltb, ℤ, pos, get_or, take, drop}
use Rattle.std.proofs.Math.Path.{refl}
use Rattle.std.proofs.Common.{sym, ap, ◌∙◌, append-nil, arith, eq-eqb, ne_eqb, ltb-true, ltb-false, leb-true, leb-false, length-drop, take_all, take_at}
use Rattle.std.proofs.Math.ListN.{length}
use Rattle.std.specs.Int.Signed.{lt_z}
use Rattle.whole.specs.Solver.{lt_yes, lt_no}
use Rattle.whole.specs.Tabulated.{tabulate, length_tabulate, get_d_tabulate}
use Rattle.whole.specs.Selected.{tabulate_same, tabulate_part}
use Rattle.series.specs.Series.{Series}
use Rattle.inputs.specs.Known.{Ready}
use Rattle.turns.specs.theory.Counting.{Rises, by_small, is_by, is_after}
use Rattle.turns.specs.Listed.{turn_day, turns_of, turns_by, turn_days_rise}
use Rattle.suis.specs.Ahead.{Ahead, one_more, fewer}

module _ {leap : List ℤ} {s : Series} {zone : ℤ} {from few : ℕ} {days : List ℤ} (ahead : Ahead leap s zone from few days) where
  -- day j is that of a turn
  pub day_is_lem : (j : ℕ) → j < length days → get_or days j (pos 0) ≡ turn_day leap s zone (from + j)
  day_is_lem j h =
      ap (λ (l : List ℤ). get_or l j (pos 0)) (ahead.are_days ∙ sym (append-nil (tabulate (λ k. turn_day leap s zone (from + k)) (length days))))
      ∙ get_d_tabulate (λ k. turn_day leap s zone (from + k)) (length days) j (pos 0) [] h

  module _ (ready : Ready leap s) (j : ℕ) (told : j + 1 < few) (day : ℤ) where
    abbrev f : ℕ → ℤ
    f = turn_day leap s zone

    abbrev counted : ℕ
    counted = turns_by leap s zone day

    rises : Rises f (turns_of s)
    rises = turn_days_rise leap s zone ready

    -- the turns are counted up to day j, and no further
    pub one_more_is : one_more days j day ≡ eqb counted (from + j + 1)
    unfolding one_more
    one_more_is = go (ltb j (length days)) refl
      where
        inside : from + length days ≤ turns_of s
        inside = ahead.inside

        behind : (l : j < length days) (b c : Bool) → lt_z day (get_or days j (pos 0)) ≡ b → leb (length days) (j + 1) ≡ c → not b && (c || lt_z day (get_or days (j + 1) (pos 0))) ≡ eqb counted (from + j + 1)
        behind l true c p q = sym (ne_eqb counted (from + j + 1) (λ e. omega (arith, is_after f (turns_of s) rises day (from + j) (omega arith) (lt_yes {a = day} {b = f (from + j)} (ap (lt_z day) (sym (day_is_lem j l)) ∙ p)))))
        behind l false true p q =
            let last = leb-true (length days) (j + 1) q in
            let all = ahead.enough (omega arith) in
            let here = is_by f (turns_of s) rises day (from + j) (omega arith) (lt_no {a = day} {b = f (from + j)} (ap (lt_z day) (sym (day_is_lem j l)) ∙ p)) in
            sym (eq-eqb counted (from + j + 1) (omega (arith, here, by_small f day (turns_of s))))
        behind l false false p q = next (lt_z day (get_or days (j + 1) (pos 0))) refl
          where
            more : j + 1 < length days
            more = leb-false (length days) (j + 1) q

            here : from + j < counted
            here = is_by f (turns_of s) rises day (from + j) (omega arith) (lt_no {a = day} {b = f (from + j)} (ap (lt_z day) (sym (day_is_lem j l)) ∙ p))

            next : (b : Bool) → lt_z day (get_or days (j + 1) (pos 0)) ≡ b → b ≡ eqb counted (from + j + 1)
            next true e = sym (eq-eqb counted (from + j + 1) (omega (arith, here, more, is_after f (turns_of s) rises day (from + (j + 1)) (omega (arith, more)) (lt_yes {a = day} {b = f (from + (j + 1))} (ap (lt_z day) (sym (day_is_lem (j + 1) more)) ∙ e)))))
            next false e = sym (ne_eqb counted (from + j + 1) (λ same. omega (arith, is_by f (turns_of s) rises day (from + (j + 1)) (omega (arith, more)) (lt_no {a = day} {b = f (from + (j + 1))} (ap (lt_z day) (sym (day_is_lem (j + 1) more)) ∙ e)))))

        go : (b : Bool) → ltb j (length days) ≡ b → b && (not (lt_z day (get_or days j (pos 0))) && (leb (length days) (j + 1) || lt_z day (get_or days (j + 1) (pos 0)))) ≡ eqb counted (from + j + 1)
        go false e =
            let none = ltb-false j (length days) e in
            let all = ahead.enough (omega arith) in
            sym (ne_eqb counted (from + j + 1) (λ same. omega (arith, by_small f day (turns_of s))))
        go true e = behind (ltb-true j (length days) e) (lt_z day (get_or days j (pos 0))) (leb (length days) (j + 1)) refl refl

-- ---- further on: the days ahead of a later place
pub ahead_drop : {leap : List ℤ} {s : Series} {zone : ℤ} {from few : ℕ} {days : List ℤ} → Ahead leap s zone from few days → (j fewer : ℕ) → j ≤ length days → j + fewer ≤ few → Ahead leap s zone (from + j) fewer (drop j days)
ahead_drop {leap} {s} {zone} {from} {few} {days} ahead j fewer h l =
    let rest = length-drop j days in
    record {
      are_days =
          ap (drop j) ahead.are_days
          ∙ sym (take_all (length (drop j days)) (drop j (tabulate f (length days))) (omega (arith, length-drop j (tabulate f (length days)), length_tabulate f (length days), rest)))
          ∙ tabulate_part f (length days) j (length (drop j days)) (omega arith)
          ∙ tabulate_same (length (drop j days)) (λ k h. let further : from + (j + k) ≡ from + j + k = omega arith in ap (turn_day leap s zone) further);
      inside = omega (arith, rest, ahead.inside);
      enough = λ few-left. omega (arith, rest, ahead.enough (omega arith));
    }
  where
    f : ℕ → ℤ
    f k = turn_day leap s zone (from + k)

-- they are the days ahead, however few are asked for
pub ahead_any : {leap : List ℤ} {s : Series} {zone : ℤ} {from few : ℕ} {days : List ℤ} → Ahead leap s zone from few days → Ahead leap s zone from 0 days
ahead_any ahead = record { are_days = ahead.are_days; inside = ahead.inside; enough = λ none. absurd (omega arith) }

-- ---- as many as there are, up to so many
pub record Fewer (listed from most few : ℕ) : Type 0 where
  pub listed_all : from + few ≤ listed
  pub not_more : few ≤ most
  pub or_all : few < most → from + few ≡ listed

pub fewer_says : (listed from most : ℕ) → from ≤ listed → Fewer listed from most (fewer listed from most)
unfolding fewer
fewer_says listed from most h = go (ltb (listed - from) most) refl
  where
    go : (b : Bool) → ltb (listed - from) most ≡ b → Fewer listed from most (cond b (listed - from) most)
    go true e = let less = ltb-true (listed - from) most e in record { listed_all = omega arith; not_more = omega arith; or_all = λ l. omega arith }
    go false e = let more = ltb-false (listed - from) most e in record { listed_all = omega arith; not_more = omega arith; or_all = λ l. absurd (omega arith) }

-- what was filled from the front with days is the days ahead
pub ahead_made : {leap : List ℤ} {s : Series} {zone : ℤ} {from most few : ℕ} {out : List ℤ} (out₀ : List ℤ) → Fewer (turns_of s) from most few → out ≡ tabulate (λ k. turn_day leap s zone (from + k)) few ++ drop few out₀ → Ahead leap s zone from most (take few out)
ahead_made {leap} {s} {zone} {from} {most} {few} {out} out₀ f e =
    let days = tabulate (λ k. turn_day leap s zone (from + k)) few in
    let front : take few out ≡ days = ap (take few) e ∙ take_at days (drop few out₀) few (length_tabulate (λ k. turn_day leap s zone (from + k)) few) in
    let long : few ≡ length (take few out) = sym (ap length front ∙ length_tabulate (λ k. turn_day leap s zone (from + k)) few) in
    record {
      are_days = front ∙ ap (tabulate (λ k. turn_day leap s zone (from + k))) long;
      inside = omega (arith, long, f.listed_all);
      enough = λ short. omega (arith, long, f.or_all (omega arith));
    }
