-- What the walk over the years asks, and what it holds from year to year. Assumes nothing.
use Rattle.std.specs.Prelude.{◌≡◌, ℕ, suc, ◌+◌, ◌-◌, ◌*◌, ◌/◌, ◌≤◌, ◌<◌, ℤ, ◌+ℤ◌, ◌-ℤ◌, take, drop}
use Rattle.std.proofs.Math.Path.{refl, sym, ap, ap₂}
use Rattle.std.proofs.Common.{◌∙◌, arith, zero-add, length-append, length-drop, length-take-le}
use mathlib.Core.List.{List, [], ◌∷◌, ◌++◌}
use Rattle.std.proofs.Math.Decide.{dec_lt}
use Rattle.std.proofs.Math.IntN.{pos}
use Rattle.std.proofs.Math.ListN.{length}
use Rattle.whole.specs.Lists.{placed, placed_both, placed_length}
use Rattle.whole.specs.Solver.{⇑, ring}
use Rattle.refusals.specs.Verdict.{answered, refused, answers_apart}
use Rattle.series.specs.Series.{Series}
use Rattle.inputs.specs.Inputs.{Inputs, sun, moon}
use Rattle.inputs.specs.Known.{Known}
use Rattle.months.specs.declared.Sui.{Sui}
use Rattle.turns.specs.declared.inner.TurnList.{TurnList}
use Rattle.turns.specs.theory.Counting.{by_small}
use Rattle.turns.specs.Listed.{turn_index_of, turn_day, turns_by, turns_of}
use Rattle.turns.specs.Searched.{Searched}
use Rattle.sui.specs.theory.Found.{zhongqi_from}
use Rattle.sui.specs.theory.Solstices.{eve}
use Rattle.suis.specs.declared.inner.Places.{Places}
use Rattle.sui.specs.Sui.{sui_of_year}
use Rattle.suis.specs.Ahead.{Ahead, YearIn, solstices_before}
use Rattle.suis.specs.theory.Begun.{BegunAt}
use Rattle.suis.specs.theory.Lookups.{ahead_drop}
use Rattle.suis.specs.theory.Next.{next_year}
use Rattle.built.specs.Build.{suis_from, sui_words, month_words, months_in as months-in, suis_by}
use Rattle.build.specs.theory.Put.{year_words, sui_months, months_in}
use Rattle.built.specs.theory.Words.{length_sui_words, sui_words_snoc, month_words_snoc, length_words_of}
use Rattle.built.specs.theory.Records.{sui_has_its_months}
use Rattle.built.specs.theory.Years.{suis_are, suis_next, suis_refused}

-- accepted inputs, the turns of both, where the first sui begins, and 1 to 128 suis
pub record Begins (i : Inputs) (zone : ℤ) (suns moons : TurnList) (places : Places) (first : ℤ) (n : ℕ) : Type 0 where
  pub is_known : Known i
  pub suns_searched : Searched i.leap (sun i) zone suns
  pub moons_searched : Searched i.leap (moon i) zone moons
  pub begins : BegunAt i.leap (sun i) (moon i) zone first places
  pub some_years : 0 < n
  pub few_years : n ≤ 128

-- and the days ahead: as many as n suis can need, or all that are left; of each sui whose solstices are both listed, the zhongqi between them
pub record Walks (i : Inputs) (zone : ℤ) (suns moons : TurnList) (places : Places) (first : ℤ) (n : ℕ) (solstices newmoons zhongqi : List ℤ) : Type 0 where
  pub begun : Begins i zone suns moons places first n
  pub solstices_ahead : Ahead i.leap (sun i) zone places.solstice (n + 2) solstices
  pub moons_ahead : Ahead i.leap (moon i) zone places.newmoon (13 * n + 2) newmoons
  pub zhongqi_room : 13 * n ≤ length zhongqi
  pub zhongqi_ahead : (j : ℕ) → j < n → suc (places.solstice + j) < turns_of (sun i) → take 13 (drop (13 * j) zhongqi) ≡ zhongqi_from i.leap (sun i) zone (turn_index_of (sun i) (places.solstice + j))

-- ---- from year to year: the suis of the years before year j are found, and they have `from` months
pub record Reached (i : Inputs) (zone : ℤ) (places : Places) (first : ℤ) (j from : ℕ) : Type 0 where
  pub done : List Sui
  pub found : suis_from i zone first j ≡ answered done
  pub counted : length (month_words done) ≡ 3 * from
  pub few : from ≤ 13 * j
  -- where year j begins
  pub at_place : places.solstice + j ≡ turns_by i.leap (sun i) zone (eve (first +ℤ pos j -ℤ pos 1))
  pub at_moon : places.newmoon + from + 1 ≡ turns_by i.leap (moon i) zone (turn_day i.leap (sun i) zone (places.solstice + j))

-- and their words are put
pub record Walked (i : Inputs) (zone : ℤ) (places : Places) (first : ℤ) (suis₀ months₀ : List ℤ) (j from : ℕ) (suis months : List ℤ) : Type 0 where
  pub reached : Reached i zone places first j from
  pub sui_words : suis ≡ placed 0 (sui_words first reached.done) suis₀
  pub month_words : months ≡ placed 0 (month_words reached.done) months₀

-- a place that is listed, and not too far on, is one of the days ahead
reaches : {leap : List ℤ} {s : Series} {zone : ℤ} {place most : ℕ} {days : List ℤ} → Ahead leap s zone place most days → (k : ℕ) → k ≤ most → place + k ≤ turns_of s → k ≤ length days
reaches {leap} {s} {zone} {place} {most} {days} ahead k h l = go (dec_lt (length days) most)
  where
    go : Dec (length days < most) → k ≤ length days
    go (yes short) = omega (arith, ahead.enough short)
    go (no long) = omega arith

module _ (i : Inputs) (zone : ℤ) (suns moons : TurnList) (places : Places) (first : ℤ) (n : ℕ) (b : Begins i zone suns moons places first n) where
  pub reach_starts : Reached i zone places first 0 0
  unfolding suis_by month_words
  reach_starts =
      let at = b.begins in
      let here : places.solstice + 0 ≡ solstices_before i.leap (sun i) (moon i) zone first = omega (arith, at.is_place) in
      record {
        done = [];
        found = refl;
        counted = refl;
        few = omega arith;
        at_place = here ∙ ap (λ (y : ℤ). turns_by i.leap (sun i) zone (eve y)) (⇑ (first ∷ []) (search ring depth 9) refl);
        at_moon = omega (arith, at.is_moon, at.some_moons, ap (λ (k : ℕ). turns_by i.leap (moon i) zone (turn_day i.leap (sun i) zone k)) here);
      }

  module _ {j from : ℕ} (r : Reached i zone places first j from) where
    -- the suis found so far are j
    pub so_many : length r.done ≡ j
    so_many = (suis_are i zone first j r.found).all

    pub sui_length : length (sui_words first r.done) ≡ 2 * j
    sui_length = length_sui_words first r.done ∙ ap (λ (k : ℕ). 2 * k) so_many

    -- what finding the sui of year j asks
    pub year_in : j < n → {solstices newmoons zhongqi : List ℤ} → Walks i zone suns moons places first n solstices newmoons zhongqi → YearIn i zone suns moons (first +ℤ pos j) (places.solstice + j) j from solstices newmoons zhongqi
    year_in h {solstices} {newmoons} {zhongqi} walks =
        let here = r.at_place in
        let moon-here = r.at_moon in
        let solstices-there : j ≤ length solstices = reaches walks.solstices_ahead j (omega arith) (omega (arith, here, by_small (turn_day i.leap (sun i) zone) (eve (first +ℤ pos j -ℤ pos 1)) (turns_of (sun i)))) in
        let moons-there : from ≤ length newmoons = reaches walks.moons_ahead from (omega (arith, r.few)) (omega (arith, moon-here, by_small (turn_day i.leap (moon i) zone) (turn_day i.leap (sun i) zone (places.solstice + j)) (turns_of (moon i)))) in
        let month-eleven : places.newmoon + from ≡ turns_by i.leap (moon i) zone (turn_day i.leap (sun i) zone (places.solstice + j)) - 1 = omega arith in
        record {
          solstices_reach = solstices-there;
          moons_reach = moons-there;
          zhongqi_reach = omega (arith, walks.zhongqi_room);
          ahead = record {
            is_known = b.is_known;
            suns_searched = b.suns_searched;
            moons_searched = b.moons_searched;
            is_place = here;
            solstices_ahead = ahead_drop walks.solstices_ahead j 3 solstices-there (omega arith);
            some_moons = omega arith;
            moons_ahead = rw (← month-eleven) (ahead_drop walks.moons_ahead from 15 moons-there (omega (arith, r.few)));
            thirteen = length-take-le 13 (drop (13 * j) zhongqi) (omega (arith, length-drop (13 * j) zhongqi, walks.zhongqi_room));
            are_zhongqi = walks.zhongqi_ahead j h;
          };
        }

    -- the sui of year j is found
    pub months_put : {sui : Sui} → sui_of_year i zone (first +ℤ pos j) ≡ answered sui → length (sui_months sui) ≡ 3 * sui.count
    months_put {sui} e = length_words_of (months-in sui) ∙ ap (λ (k : ℕ). 3 * k) (length-take-le sui.count sui.months (sui_has_its_months i zone (first +ℤ pos j) e))

    pub reach_goes_on : {sui : Sui} → sui_of_year i zone (first +ℤ pos j) ≡ answered sui → Reached i zone places first (j + 1) (from + sui.count)
    reach_goes_on {sui} e =
        let year = first +ℤ pos j in
        let next = next_year i zone b.is_known year e in
        let here = r.at_place in
        let later : places.solstice + (j + 1) ≡ suc (turns_by i.leap (sun i) zone (eve (year -ℤ pos 1))) = omega arith in
        let same_year : year ≡ first +ℤ pos (j + 1) -ℤ pos 1 = ⇑ (first ∷ pos j ∷ []) (search ring depth 9) refl in
        let one_more : j + 1 ≡ suc j = omega arith in
        let day = turn_day i.leap (sun i) zone in
        let by = turns_by i.leap (moon i) zone in
        record {
          done = r.done ++ (sui ∷ []);
          found = ap (suis_from i zone first) one_more ∙ suis_next i zone first j r.found e;
          counted = ap length (month_words_snoc r.done sui) ∙ length-append (month_words r.done) (sui_months sui) ∙ omega (arith, r.counted, months_put e);
          few = omega (arith, r.few, next.thirteen_at_most);
          at_place = later ∙ sym next.next_place ∙ ap (λ (y : ℤ). turns_by i.leap (sun i) zone (eve y)) same_year;
          at_moon = omega (arith, r.at_moon, next.next_by, ap (λ (k : ℕ). by (day k)) later, ap (λ (k : ℕ). by (day k)) here);
        }

module _ (i : Inputs) (zone : ℤ) (suns moons : TurnList) (places : Places) (first : ℤ) (n : ℕ) (b : Begins i zone suns moons places first n) (suis₀ months₀ : List ℤ) where
  pub walk_starts : Walked i zone places first suis₀ months₀ 0 0 suis₀ months₀
  unfolding sui_words month_words reach_starts
  walk_starts = record { reached = reach_starts i zone suns moons places first n b; sui_words = refl; month_words = refl }

  module _ {j from : ℕ} {suis months : List ℤ} (w : Walked i zone places first suis₀ months₀ j from suis months) where
    abbrev done : List Sui
    done = w.reached.done

    words_before : length (sui_words first done) ≡ 2 * j
    words_before = sui_length i zone suns moons places first n b w.reached

    -- nothing is made longer or shorter
    pub sui_room : 2 * n ≤ length suis₀ → j ≤ n → length suis ≡ length suis₀
    sui_room room h = ap length w.sui_words ∙ placed_length suis₀ (sui_words first done) 0 (omega (arith, words_before))

    pub month_room : 39 * n ≤ length months₀ → j ≤ n → length months ≡ length months₀
    month_room room h = ap length w.month_words ∙ placed_length months₀ (month_words done) 0 (omega (arith, w.reached.counted, w.reached.few))

    -- the sui of year j is found, and its words are put
    pub walk_goes_on : {sui : Sui} {suis' months' : List ℤ} → sui_of_year i zone (first +ℤ pos j) ≡ answered sui → 2 * (j + 1) ≤ length suis₀ → 3 * from + 39 ≤ length months₀
        → suis' ≡ placed (2 * j) (year_words (first +ℤ pos j) sui) suis → months' ≡ placed (3 * from) (sui_months sui) months → Walked i zone places first suis₀ months₀ (j + 1) (from + sui.count) suis' months'
    unfolding reach_goes_on
    walk_goes_on {sui} {suis'} {months'} e room rooms e₁ e₂ =
        let year = first +ℤ pos j in
        let has = months_put i zone suns moons places first n b w.reached e in
        let at-record : 2 * j ≡ 0 + length (sui_words first done) = omega (arith, words_before) in
        let at_months : 3 * from ≡ 0 + length (month_words done) = omega (arith, w.reached.counted) in
        let so_far = so_many i zone suns moons places first n b w.reached in
        let numbered : sui_words first done ++ year_words year sui ≡ sui_words first (done ++ (sui ∷ [])) = ap (λ (k : ℕ). sui_words first done ++ year_words (first +ℤ pos k) sui) (sym so_far) ∙ sym (sui_words_snoc first done sui) in
        record {
          reached = reach_goes_on i zone suns moons places first n b w.reached e;
          sui_words =
              e₁ ∙ ap₂ (λ (k : ℕ) (x : List ℤ). placed k (year_words year sui) x) at-record w.sui_words
              ∙ placed_both suis₀ (sui_words first done) 0 (year_words year sui) (omega (arith, words_before))
              ∙ ap (λ (x : List ℤ). placed 0 x suis₀) numbered;
          month_words =
              e₂ ∙ ap₂ (λ (k : ℕ) (x : List ℤ). placed k (sui_months sui) x) at_months w.month_words
              ∙ placed_both months₀ (month_words done) 0 (sui_months sui) (omega (arith, w.reached.counted, has, (next_year i zone b.is_known year e).thirteen_at_most))
              ∙ ap (λ (x : List ℤ). placed 0 x months₀) (sym (month_words_snoc done sui));
        }

  -- all are found
  pub walk_ends : {j from : ℕ} {suis months : List ℤ} (w : Walked i zone places first suis₀ months₀ j from suis months) → j ≡ n → (answered from ≡ months_in (suis_from i zone first n)) × (((found : List Sui) → suis_from i zone first n ≡ answered found → suis ≡ sui_words first found ++ drop (length (sui_words first found)) suis₀) × ((found : List Sui) → suis_from i zone first n ≡ answered found → months ≡ month_words found ++ drop (length (month_words found)) months₀))
  walk_ends {j} {from} {suis} {months} w e =
      let all_found : suis_from i zone first n ≡ answered w.reached.done = ap (suis_from i zone first) (sym e) ∙ w.reached.found in
      let all : length (month_words w.reached.done) / 3 ≡ from = omega (arith, w.reached.counted) in (
        sym (ap months_in all_found ∙ ap answered all),
        (
          λ found q. w.sui_words ∙ ap (λ (l : List Sui). placed 0 (sui_words first l) suis₀) (answers_apart (sym all_found ∙ q)) ∙ ap (λ (k : ℕ). sui_words first found ++ drop k suis₀) (zero-add (length (sui_words first found))),
          λ found q. w.month_words ∙ ap (λ (l : List Sui). placed 0 (month_words l) months₀) (answers_apart (sym all_found ∙ q)) ∙ ap (λ (k : ℕ). month_words found ++ drop k months₀) (zero-add (length (month_words found))),
        ),
      )

  -- one is refused
  pub walk_stops : {j from : ℕ} {suis months : List ℤ} {number segment : ℕ} (w : Walked i zone places first suis₀ months₀ j from suis months) → sui_of_year i zone (first +ℤ pos j) ≡ refused number segment → j < n → suis_from i zone first n ≡ refused number segment
  walk_stops {j} w e h = suis_refused i zone first j n w.reached.found e h

-- ---- what the loop over the years holds, before year j
pub record AtYear (i : Inputs) (zone : ℤ) (suns moons : TurnList) (first : ℤ) (n : ℕ) (solstices newmoons zhongqi suis₀ months₀ : List ℤ) (place j from : ℕ) (suis months : List ℤ) : Type 0 where
  pub places : Places
  pub walks : Walks i zone suns moons places first n solstices newmoons zhongqi
  pub is_place : places.solstice ≡ place
  pub walked : Walked i zone places first suis₀ months₀ j from suis months
  pub in_turn : j ≤ n
