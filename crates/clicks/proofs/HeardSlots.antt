-- A station's slot that goes through has passed every test, and is its steps 1 to 5; each minislot of its row reads as the row's feedback there. A
-- condition within its limits stands inside its queue. Assumes nothing.
use mathlib.Core.Path.{◌≡◌, refl, subst}
use mathlib.Core.Bool.{true, ◌&&◌}
use mathlib.Core.List.{List}
use Prim.Native.Nat.{ℕ, ◌+◌, ◌-◌, ◌≤◌}
use native.Mathlib.Omega.{arith}
use lib.Dec.{eqb, leb}
use lib.ListN.{length, get_or}
use borrow.Author.Tests.{eqb-true, leb-true}
use Rattle.minislot.specs.Reading.{reading_of}
use Rattle.minislot.specs.declared.Feedback.TheVariants.{Empty}
use Rattle.minislot.specs.declared.Reading.TheVariants.{Heard}
use Rattle.rows.specs.Row.{readings, first_number}
use Rattle.rows.proofs.Answers.{feedback-at}
use Rattle.rules.specs.declared.Counters.{Counters}
use Rattle.rules.specs.declared.Station.{Station}
use Rattle.rules.specs.declared.Condition.{Condition}
use Rattle.rules.specs.declared.Condition.TheVariants.{Free, Held, Fresh, Asked, Resolving, Urgent, Long}
use Rattle.rules.specs.Limits.{between}
use Rattle.rules.specs.Queueing.{places_of, immediate_of, step_one_of}
use Rattle.rules.specs.Listening.{has_row}
use Rattle.rules.specs.StationLimits.{resolution_at, is_total, condition_within, station_within}
use Rattle.rules.proofs.LimitLaws.{between-bounds, station_in}
use Rattle.rules.specs.Outcome.{outcome_by}
use Rattle.rules.specs.StationCalls.{slot_number_of, slot_of}
use Rattle.rules.proofs.ClauseLaws.{Placed}
use Rattle.rules.proofs.Parting.{no_true, stands_in}
use Rattle.rules.proofs.Refusals.{test_passed, none_found}
use Rattle.rules.proofs.Settled.{settled_of, settled_same, went_by, step_is}
use Rattle.rules.proofs.SlotStep.{and_both}
use Rattle.rules.proofs.Walking.{row_fits}
use Rattle.rules.specs.declared.Which.{Which}
use Rattle.rules.specs.declared.Which.TheVariants.{ShortOne, LongOne}
use Rattle.rules.specs.Writing.{record_in}
use Rattle.clicks.specs.OwnClicks.{word_at, heard_in, settled_hearing}

-- a condition within its limits stands at a place of its queue, and counts places from 1
pub place_inside : (c : Counters) (g i : ℕ) (k : Condition) → condition_within c k ≡ true → stands_in g i k ≡ true → i ≤ resolution_at c g
unfolding condition_within
place_inside c g i Free w e = absurd (no_true e)
place_inside c g i (Held t) w e = absurd (no_true e)
place_inside c g i (Fresh t) w e = absurd (no_true e)
place_inside c g i (Asked h j t) w e = absurd (no_true e)
place_inside c g i (Resolving h j t) w e =
    let (p, q) = and_both (eqb h g) (eqb j i) e in
    let at = (and_both (between 1 h c.groups) (between 1 j (resolution_at c h)) (and_both (between 1 h c.groups && between 1 j (resolution_at c h)) (is_total t) w).0).1 in
    subst (λ (n : ℕ). n ≤ resolution_at c g) (eqb-true j i q) (subst (λ (n : ℕ). j ≤ resolution_at c n) (eqb-true h g p) (between-bounds 1 j (resolution_at c h) at).1)
place_inside c g i (Urgent j) w e = absurd (no_true e)
place_inside c g i (Long f l t) w e = absurd (no_true e)

pub within-placed : (c : Counters) (k : Condition) → condition_within c k ≡ true → Placed k
unfolding condition_within
within-placed c Free w = tt
within-placed c (Held t) w = tt
within-placed c (Fresh t) w = tt
within-placed c (Asked h j t) w =
    (between-bounds 1 j c.minislots (and_both (between 1 h c.groups) (between 1 j c.minislots) (and_both (between 1 h c.groups && between 1 j c.minislots) (is_total t) w).0).1).0
within-placed c (Resolving h j t) w =
    (between-bounds 1 j (resolution_at c h)
    (and_both (between 1 h c.groups) (between 1 j (resolution_at c h)) (and_both (between 1 h c.groups && between 1 j (resolution_at c h)) (is_total t) w).0).1).0
within-placed c (Urgent i) w = (between-bounds 1 i c.urgent w).0
within-placed c (Long f l t) w =
    let (x, y) = and_both (between 2 t 255 && between 1 l t && leb 1 f) (leb (f + l) (c.long + 1)) w in
    let (u, v) = and_both (between 2 t 255 && between 1 l t) (leb 1 f) x in
    let (p, q) = and_both (between 2 t 255) (between 1 l t) u in
    let (least, most) = between-bounds 1 l t q in
    (leb-true 1 f v, least, most)

-- a row of m minislots
pub record Whole (s : Station) (words counts : List ℕ) : Type 0 where
  pub within : station_within s ≡ true
  pub row : has_row s.counters.minislots words counts ≡ true
  pub read : first_number (readings words counts) ≡ 0

module _ (s : Station) (words counts : List ℕ) where
  pub whole_of : (pick : ℕ) → slot_number_of s words counts pick ≡ 0 → Whole s words counts
  unfolding slot_number_of
  whole_of pick z =
      let (e18, after18) = test_passed (station_within s) 18 _ refl z in
      let (e6, after6) = test_passed (has_row s.counters.minislots words counts) 6 _ refl after18 in
      let (e11, after11) = test_passed (between 1 pick s.counters.minislots) 11 _ refl after6 in
      let (e1, after1) = none_found (first_number (readings words counts)) _ after11 in
      record { within = e18; row = e6; read = e1 }

  -- its steps 1 to 5
  pub goes : (pick : ℕ) → slot_number_of s words counts pick ≡ 0 → slot_of s words counts pick ≡ went_by s (heard_in words counts) pick
  unfolding slot_of
  goes pick z =
      let w = whole_of pick z in
      rw z (step_is s (heard_in words counts) pick (row_fits s words counts w.within w.row))

  module _ (w : Whole s words counts) where
    pub lengths : (length words ≡ s.counters.minislots) × (length counts ≡ s.counters.minislots)
    lengths =
        let (a, b) = and_both (eqb (length words) s.counters.minislots) (eqb (length counts) s.counters.minislots) w.row in
        (eqb-true (length words) s.counters.minislots a, eqb-true (length counts) s.counters.minislots b)

    -- minislot j of the row
    pub reads_at : (j : ℕ) → 1 ≤ j → j ≤ s.counters.minislots
        → reading_of (word_at words j) (get_or counts (j - 1) 0) ≡ Heard (get_or (heard_in words counts) (j - 1) Empty)
    reads_at j lo hi = feedback-at words counts (j - 1) w.read (omega (arith, lengths)) (omega (arith, lengths))

    -- step 1 by the message's own minislot
    pub settles : (o : Which) → settled_hearing o s (heard_in words counts) ≡ settled_of s.counters (heard_in words counts) (record_in o s)
    unfolding outcome_by step_one_of
    settles o =
        settled_same (immediate_of s.counters (heard_in words counts)) s.counters.next (places_of s.counters) (heard_in words counts) 8 (record_in o s)
        (row_fits s words counts w.within w.row)

    -- each record within its limits
    pub within_of : (o : Which) → condition_within s.counters (record_in o s) ≡ true
    within_of ShortOne = (station_in s w.within).records.short
    within_of LongOne = (station_in s w.within).records.long
