-- The laws of the clock, over every lawful table: days and shown times never go back as seconds go on (in every zone), an inserted second is shown as the sixtieth of the
-- minute that it ends and belongs to that minute's day, every converted day has a date, and once the first entry holds it goes on holding. Assumes nothing.
use Rattle.std.specs.Prelude.{ℕ, suc, ◌<◌, ◌≡◌, true, false, List, [], ◌∷◌, ℤ, pos, ◌+ℤ◌, ◌-ℤ◌, ◌≤ℤ◌, ◌<ℤ◌}
use Rattle.std.proofs.Math.Path.{sym, ap}
use Rattle.std.proofs.Common.{◌∙◌, ⊎_elim, arith}
use Rattle.whole.specs.Parts.{◌⩽◌, ◌≺◌}
use Rattle.whole.specs.Laws.{≤_total, ≤_antisymm}
use Rattle.whole.specs.Booleans.{not_both}
use Rattle.whole.specs.Floor.{floor_div, floor_mod}
use Rattle.whole.proofs.Floor.{floor_div_mono}
use Rattle.whole.specs.Solver.{⇑, ⇓, ring}
use Rattle.whole.specs.Ranges.{Within}
use Rattle.refusals.specs.Verdict.{answered, answered_says}
use Rattle.times.specs.declared.Day.{Day}
use Rattle.times.specs.declared.Milli.{Milli}
use Rattle.times.specs.declared.Second.{Second}
use Rattle.dates.specs.Answers.{has_date}
use Rattle.clock.specs.declared.ShownTime.{ShownTime}
use Rattle.clock.specs.Leap.{leap_lawful, entries, day, holds_from, inserted}
use Rattle.clock.specs.Clock.{convertible, tai, early, reading, milli_in, read_off, count_in, day_of_milli, day_in, shown_by, shown_in}
use Rattle.clock.specs.Order.{shown_first}
use Rattle.clock.specs.Answers.{clock_judged, milli_of, day_of_second, shown_of}
use Rattle.clock.proofs.theory.Used.{holds_on}
use Rattle.clock.proofs.theory.Sizes.{reading_has_date}
use Rattle.clock.proofs.theory.Judged.{readable, first_holds, holds_first}
use Rattle.clock.proofs.theory.Counts.{tai_goes_on, count_goes_on}
use Rattle.clock.proofs.theory.Around.{Inside, inside_or_not, day_stays}
use Rattle.clock.proofs.theory.Around as around
use Rattle.clock.proofs.theory.Shown.{shown_first_lem, not_both_shown_first, not_before_itself, said_before, said_inside}

-- ---- days never go back
pub days_never_go_back : (w : List ℤ) → leap_lawful w ≡ true → (s s' : Second) → s.0 ⩽ s'.0 → (zone : ℤ) → (day_in w s zone).0 ⩽ (day_in w s' zone).0
unfolding day_in day_of_milli
days_never_go_back w l s s' h zone = floor_div_mono 86400000 (omega arith) (count_goes_on w l s s' h zone)

pub answered_days_never_go_back : (w : List ℤ) (s s' : Second) → s.0 ⩽ s'.0 → (zone : ℤ) (d d' : Day) → day_of_second w s zone ≡ answered d → day_of_second w s' zone ≡ answered d' → d.0 ⩽ d'.0
unfolding day_of_second
answered_days_never_go_back w s s' h zone d d' e e' =
    let a = answered_says (clock_judged w s zone) e in
    let b = answered_says (clock_judged w s' zone) e' in
    let lawful = (readable w s zone a.0).lawful_table in
    rw (a.1, b.1) at (days_never_go_back w lawful s s' h zone)

-- ---- the time shown never goes back, and no two seconds are shown alike
pub shown_goes_on : (w : List ℤ) → leap_lawful w ≡ true → (s s' : Second) → s.0 ≺ s'.0 → (zone : ℤ) → shown_first (shown_in w s zone) (shown_in w s' zone) ≡ true
shown_goes_on w l s s' h zone = shown_first_lem w l s s' h zone

pub shown_never_goes_back : (w : List ℤ) → leap_lawful w ≡ true → (s s' : Second) → s.0 ⩽ s'.0 → (zone : ℤ) → shown_first (shown_in w s' zone) (shown_in w s zone) ≡ false
shown_never_goes_back w l s s' h zone = ⊎_elim same (λ (k : s.0 <ℤ s'.0). not_both_shown_first (shown_in w s zone) (shown_in w s' zone) (shown_goes_on w l s s' k zone)) (≤_total s'.0 s.0)
  where
    same : s'.0 ≤ℤ s.0 → shown_first (shown_in w s' zone) (shown_in w s zone) ≡ false
    same k =
        let e : s ≡ s' = λ t. record { 0 = ≤_antisymm h k t } in
        ap (λ (x : Second). shown_first (shown_in w s' zone) (shown_in w x zone)) e ∙ not_before_itself (shown_in w s' zone)

pub answered_shown_never_goes_back : (w : List ℤ) (s s' : Second) → s.0 ⩽ s'.0 → (zone : ℤ) (t t' : ShownTime) → shown_of w s zone ≡ answered t → shown_of w s' zone ≡ answered t' → shown_first t' t ≡ false
unfolding shown_of
answered_shown_never_goes_back w s s' h zone t t' e e' =
    let a = answered_says (clock_judged w s zone) e in
    let b = answered_says (clock_judged w s' zone) e' in
    let lawful = (readable w s zone a.0).lawful_table in
    rw (a.1, b.1) at (shown_never_goes_back w lawful s s' h zone)

-- ---- days stay as they were: in a zone whose midnight is not UTC's, the day is that of the millisecond count, whether a second is inserted or not
pub days_stay : (w : List ℤ) → leap_lawful w ≡ true → (s : Second) (zone : ℤ) → 0 < floor_mod zone 1440 → day_in w s zone ≡ day_of_milli (milli_in w s zone)
unfolding day_in day_of_milli
days_stay w l s zone h = λ t. record { 0 = day_stays w l s zone h t }

pub answered_days_stay : (w : List ℤ) (s : Second) (zone : ℤ) → 0 < floor_mod zone 1440 → (d : Day) (m : Milli) → day_of_second w s zone ≡ answered d → milli_of w s zone ≡ answered m → d ≡ day_of_milli m
unfolding day_of_second milli_of
answered_days_stay w s zone h d m e f =
    let a = answered_says (clock_judged w s zone) e in
    let b = answered_says (clock_judged w s zone) f in
    let lawful = (readable w s zone a.0).lawful_table in
    sym a.1 ∙ days_stay w lawful s zone h ∙ ap day_of_milli b.1

-- ---- any other second is read as document 01 says: the day of its millisecond count, and the time of it
pub elsewhere_as_before : (w : List ℤ) (s : Second) (zone : ℤ) → inserted w (tai s) ≡ false → (day_in w s zone ≡ day_of_milli (milli_in w s zone)) × (shown_in w s zone ≡ shown_by (record { milli = milli_in w s zone; inserted = false }))
unfolding day_in count_in shown_in milli_in read_off reading
elsewhere_as_before w s zone e = (rw e, rw e)

-- ---- an inserted second
-- s lies inside the second that entry i + 1 inserts, the last one before it holds; `before` and `after` are the seconds beside it
pub record Insertion (w : List ℤ) (i : ℕ) (before s after : Second) : Type 0 where
  pub lawful : leap_lawful w ≡ true
  pub listed : suc i < entries w
  pub from : holds_from w (suc i) -ℤ pos 1000 ⩽ tai s
  pub to : tai s ≺ holds_from w (suc i)
  pub next : before.0 +ℤ pos 1 ≡ s.0
  pub last : s.0 +ℤ pos 1 ≡ after.0

-- the inserted seconds are exactly these
pub record Inserting (w : List ℤ) (before s after : Second) : Type 0 where
  pub i : ℕ
  pub inserts : Insertion w i before s after

pub inserted_by_an_entry : (w : List ℤ) → leap_lawful w ≡ true → (before s after : Second) → before.0 +ℤ pos 1 ≡ s.0 → s.0 +ℤ pos 1 ≡ after.0 → inserted w (tai s) ≡ true → Inserting w before s after
inserted_by_an_entry w l before s after b a e = inside_or_not w l s of (λ f. not_both e f)
  where
    of : (i : ℕ) → Inside w i s → Inserting w before s after
    of i here =
        let ρ = holds_from w (suc i) ∷ tai s ∷ [] in
        record { i = i; inserts = record { lawful = l; listed = here.listed; from = ⇑ ρ (search ring depth 9) (omega (arith, ⇓ ρ here.reached (search ring depth 9))); to = here.to; next = b; last = a } }

-- it is shown as the second before it, which is a fifty-ninth, but for the second, which is 60
abbrev pub sixtieth : ShownTime → ShownTime
sixtieth t = record { date = t.date; hour = t.hour; minute = t.minute; second = 60; millisecond = t.millisecond }

module _ {w : List ℤ} {i : ℕ} {before s after : Second} (here : Insertion w i before s after) where
  inside : Inside w i s
  inside =
      let ρ = holds_from w (suc i) ∷ tai s ∷ [] in
      record { lawful = here.lawful; listed = here.listed; reached = ⇑ ρ (search ring depth 9) (omega (arith, ⇓ ρ here.from (search ring depth 9))); to = here.to }

  pub insertion_is_inserted : inserted w (tai s) ≡ true
  insertion_is_inserted = around.is_inserted inside

  pub inserted_second_is_the_sixtieth : (zone : ℤ) → ((shown_in w before zone).second ≡ 59) × (shown_in w s zone ≡ sixtieth (shown_in w before zone))
  inserted_second_is_the_sixtieth zone = (said_before inside before here.next zone, said_inside inside before here.next zone)

  -- neither is early: entry i holds by then, a day before at the latest
  pub not_early_before : early w before ≡ false
  not_early_before = holds_first w before (around.first_holds_before inside before here.next)

  -- its day is that of the second before it, in every zone, and that of the second after it where the zone's midnight is not UTC's
  pub inserted_second_keeps_the_day : (zone : ℤ) → (day_in w s zone ≡ day_in w before zone) × (0 < floor_mod zone 1440 → day_in w s zone ≡ day_in w after zone)
  unfolding day_in day_of_milli
  inserted_second_keeps_the_day zone = (
    λ t. record { 0 = floor_div (sym (around.count_before inside before here.next zone) t) 86400000 },
    λ h t. record {
      0 = (around.day_stays_inside inside zone h
          ∙ ap (λ (c : ℤ). floor_div c 86400000) (around.milli_is_later inside zone ∙ sym (around.count_after inside after here.last zone))) t;
    },
  )

  -- in UTC itself it belongs to the day that it ends
  pub inserted_second_ends_the_day : ((day_in w s (pos 0)).0 ≡ day w (suc i) -ℤ pos 1) × ((day_in w after (pos 0)).0 ≡ day w (suc i))
  unfolding day_in day_of_milli
  inserted_second_ends_the_day = (
    around.ends_the_day inside,
    around.begins_the_day inside after here.last,
  )

-- ---- every converted day has a date; the zones -720 to 840 are within 1,000 minutes
pub converted_day_has_date : (w : List ℤ) → leap_lawful w ≡ true → (s : Second) → convertible s ≡ true → (zone : ℤ) → Within 1000 zone → has_date (day_in w s zone).0 ≡ true
converted_day_has_date w l s k zone z = reading_has_date w s zone l k z

pub answered_day_has_date : (w : List ℤ) (s : Second) (zone : ℤ) (d : Day) → day_of_second w s zone ≡ answered d → has_date d.0 ≡ true
unfolding day_of_second
answered_day_has_date w s zone d e =
    let a = answered_says (clock_judged w s zone) e in
    let r = readable w s zone a.0 in
    rw a.1 at (converted_day_has_date w r.lawful_table s r.in_range zone r.zone_small)

-- ---- what is not early, is not early later
pub goes_on_holding : (w : List ℤ) (s s' : Second) → s.0 ⩽ s'.0 → early w s ≡ false → early w s' ≡ false
goes_on_holding w s s' h e = holds_first w s' (holds_on w (tai s) (tai s') 0 (tai_goes_on s s' h) (first_holds w s e))
