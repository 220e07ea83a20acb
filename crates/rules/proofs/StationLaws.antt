-- Laws of the station's rules, for whoever computes them one after the other: its own minislot is one of the row's; a new place is inside its queue's limit;
-- refusal 12 tested one minislot after the other; and a slot by the row's reading. Assumes nothing.
use mathlib.Core.Path.{◌≡◌, refl, ap, ◌∙◌, sym}
use mathlib.Core.Bool.{Bool, true, false, cond, ◌&&◌, and-false}
use mathlib.Core.List.{List, [], ◌∷◌}
use mathlib.Core.Logic.{◌≢◌}
use Prim.Native.Nat.{ℕ, zero, suc, ◌+◌, ◌≤◌, ◌<◌}
use native.Mathlib.Nat.{add-zero, add-suc, suc-add, le_of_suc-le-suc, not-suc-le-zero}
use native.Mathlib.Omega.{arith}
use lib.Dec.{eqb}
use lib.ListN.{length, get_or, take}
use borrow.Author.Tests.{eq-eqb, ne_eqb}
use Rattle.minislot.specs.declared.Feedback.{Feedback}
use Rattle.minislot.specs.declared.Feedback.TheVariants.{Empty, Collide}
use Rattle.rows.specs.Row.{readings, first_number, has_minislots, row_of}
use Rattle.rows.proofs.Answers.{first_small, number_zero, number_short, number-whole}
use Rattle.rules.specs.declared.Counters.{Counters}
use Rattle.rules.specs.declared.Places.{Places}
use Rattle.rules.specs.declared.Station.{Station}
use Rattle.rules.specs.Limits.{between}
use Rattle.rules.specs.Hearing.{feedback_of}
use Rattle.rules.specs.Queueing.{queued, queued_single, queued_row, passes, step_one_of}
use Rattle.rules.specs.Listening.{has_row}
use Rattle.rules.specs.StationLimits.{Condition, Free, Held, Fresh, Asked, Resolving, Urgent, Long, condition_within, station_within, is_total}
use Rattle.rules.specs.OwnHearing.{own_minislot, hears_at, hears_from, hears_itself}
use Rattle.rules.specs.Outcome.{outcome_of}
use Rattle.rules.specs.Stepping.{step_of}
use Rattle.rules.specs.StationCalls.{refused_slot, heard_slot_number_of, heard_slot_of, slot_number_of, slot_of}
use Rattle.rules.proofs.LimitLaws.{between-bounds, none_passes, station_in}
use Rattle.rules.proofs.QueueingLaws.{row-grows, passes-grows}
use Rattle.rules.proofs.ListeningLaws.{same_test}
use Rattle.rules.proofs.RowReads.{none-refused, feedback_is}
use Rattle.rules.proofs.SlotStep.{and_both}

-- ---- the limits

-- the minislot in which a condition within its limits makes its station listen for itself is one of the row's, or 0 for none
pub own-within : (c : Counters) (g : ℕ) (k : Condition) → condition_within c k ≡ true → own_minislot g k ≤ c.minislots
unfolding condition_within
own-within c g Free e = omega arith
own-within c g (Held t) e = omega arith
own-within c g (Fresh t) e = omega arith
own-within c g (Asked h j t) e =
    let p = and_both (between 1 h c.groups && between 1 j c.minislots) (is_total t) e in
    let q = and_both (between 1 h c.groups) (between 1 j c.minislots) p.0 in
    go (eqb h g) (between-bounds 1 j c.minislots q.1).1
  where
    go : (b : Bool) → j ≤ c.minislots → cond b j 0 ≤ c.minislots
    go true l = l
    go false l = omega arith
own-within c g (Resolving h i t) e = omega arith
own-within c g (Urgent i) e = omega arith
own-within c g (Long f l t) e = omega arith

-- ---- step 1 for one condition

-- a new place lies inside its queue's limit, where the minislot that gives it passes none
pub alone-urgent : (b : Bool) (p : Places) (c : ℕ) → passes (queued_single b (eqb c 1) c p) ≡ false → b ≡ false → c ≡ 1 → p.urgent + 1 ≤ 4095
alone-urgent b p c e q o =
    (none_passes (queued_single false true c p) (ap (λ (x : Bool). passes (queued_single x true c p)) (sym q) ∙ ap (λ (x : Bool). passes (queued_single b x c p)) (sym (eq-eqb c 1 o)) ∙ e)).0

pub alone-long : (b : Bool) (p : Places) (c : ℕ) → passes (queued_single b (eqb c 1) c p) ≡ false → 1 ≤ c → (c ≡ 1 → ⊥) → p.long + 1 ≤ 65535
alone-long b p c e h o = go b (ap (λ (x : Bool). passes (queued_single b x c p)) (sym (ne_eqb c 1 o)) ∙ e)
  where
    go : (b : Bool) → passes (queued_single b false c p) ≡ false → p.long + 1 ≤ 65535
    go true n = omega (arith, none_passes (queued_single true false c p) n)
    go false n = omega (arith, none_passes (queued_single false false c p) n)

pub collide_place : (b : Bool) (p : Places) → passes (queued b p Collide) ≡ false → p.resolution + 1 ≤ 4095
collide_place b p e = (none_passes (queued b p Collide) e).2

-- a row that passes no limit passes none at any of its minislots
pub passes-before : (b : Bool) (p : Places) (row : List Feedback) (j : ℕ) → j < length row → passes (queued_row b p row) ≡ false
    → passes (queued b (queued_row b p (take j row)) (get_or row j Empty)) ≡ false
unfolding queued_row
passes-before b p [] j h e = absurd (not-suc-le-zero h)
passes-before b p (f ∷ row) zero h e = go (passes (queued b p f)) refl
  where
    go : (x : Bool) → passes (queued b p f) ≡ x → x ≡ false
    go true w = sym (passes-grows (queued b p f) (queued_row b (queued b p f) row) (row-grows b (queued b p f) row) w) ∙ e
    go false w = refl
passes-before b p (f ∷ row) (suc j) h e = passes-before b (queued b p f) row j (le_of_suc-le-suc h) e

-- ---- refusal 12, one minislot after the other

module _ (index own total : ℕ) where
  -- one minislot that fails fails the row
  pub hears_fails : (j : ℕ) (words : List ℕ) (row : List Feedback) (k : ℕ) → k < length words → k < length row
      → hears_at index own total (j + k) (get_or words k 0) (get_or row k Empty) ≡ false → hears_from index own total j words row ≡ false
  hears_fails j words [] k h q e = absurd (not-suc-le-zero q)
  hears_fails j [] (f ∷ row) k h q e = absurd (not-suc-le-zero h)
  hears_fails j (w ∷ words) (f ∷ row) zero h q e = let x : hears_at index own total j w f ≡ false = rw add-zero at e in rw x
  hears_fails j (w ∷ words) (f ∷ row) (suc k) h q e =
      let x : hears_at index own total (suc j + k) (get_or words k 0) (get_or row k Empty) ≡ false = rw (add-suc, ← suc-add j k) at e in
      rw (hears_fails (suc j) words row k (le_of_suc-le-suc h) (le_of_suc-le-suc q) x, and-false)

  -- and a row passes where each of its minislots that has a word does
  pub hears-holds : (j : ℕ) (words : List ℕ) (row : List Feedback)
      → ((k : ℕ) → k < length words → k < length row → hears_at index own total (j + k) (get_or words k 0) (get_or row k Empty) ≡ true) → hears_from index own total j words row ≡ true
  hears-holds j words [] h = refl
  hears-holds j [] (f ∷ row) h = refl
  hears-holds j (w ∷ words) (f ∷ row) h =
      let x : hears_at index own total j w f ≡ true = rw add-zero at (h zero (omega arith) (omega arith)) in
      rw x (hears-holds (suc j) words row (λ k l q. rw (suc-add, ← add-suc j k) (h (suc k) (omega arith) (omega arith))))

-- ---- a slot, by the row's reading

module _ (s : Station) (words counts : List ℕ) (pick : ℕ) where
  pub slot_18 : station_within s ≡ false → refused_slot s 18 ≡ slot_of s words counts pick
  unfolding slot_of slot_number_of
  slot_18 e = rw e

  module _ (within : station_within s ≡ true) where
    abbrev m : ℕ
    m = s.counters.minislots

    same : has_minislots m words counts ≡ has_row m words counts
    same = same_test s.counters words counts (station_in s within).counters

    -- a row that is not short has m minislots
    long-row : (row_of m words counts).number ≢ 6 → has_minislots m words counts ≡ true
    long-row h = go (has_minislots m words counts) refl
      where
        go : (b : Bool) → has_minislots m words counts ≡ b → b ≡ true
        go true q = refl
        go false q = absurd (h (number_short m words counts q))

    pub slot_6 : (row_of m words counts).number ≡ 6 → refused_slot s 6 ≡ slot_of s words counts pick
    unfolding slot_of slot_number_of
    slot_6 h = go (has_minislots m words counts) refl
      where
        go : (b : Bool) → has_minislots m words counts ≡ b → refused_slot s 6 ≡ slot_of s words counts pick
        go false q = rw (within, ← same, q)
        go true q = absurd (let z : 6 ≡ first_number (readings words counts) = sym h ∙ number-whole m words counts q in omega (arith, first_small words counts))

    pub slot_11 : (row_of m words counts).number ≢ 6 → between 1 pick m ≡ false → refused_slot s 11 ≡ slot_of s words counts pick
    unfolding slot_of slot_number_of
    slot_11 h e = rw (within, ← same, long-row h, e)

    pub slot-bad : (row_of m words counts).number ≢ 6 → between 1 pick m ≡ true → (row_of m words counts).number ≢ 0
        → refused_slot s (row_of m words counts).number ≡ slot_of s words counts pick
    unfolding slot_of slot_number_of
    slot-bad h e some =
        let q = number-whole m words counts (long-row h) in
        let bad : first_number (readings words counts) ≢ 0 = (λ z. some (q ∙ z)) in
        rw (q, within, ← same, long-row h, e, ne_eqb (first_number (readings words counts)) 0 bad, ne_eqb (first_number (readings words counts)) 0 bad)

    pub slot-heard : (row_of m words counts).number ≡ 0 → between 1 pick m ≡ true
        → heard_slot_of s words (feedback_of m (row_of m words counts)) pick ≡ slot_of s words counts pick
    unfolding slot_of slot_number_of heard_slot_of
    slot-heard none e =
        rw (feedback_is m words counts none, within, ← same, number_zero m words counts none, e, none-refused m words counts none)

-- ---- a row that was heard

module _ (s : Station) (words : List ℕ) (row : List Feedback) (pick : ℕ) where
  pub heard_7 : (step_one_of s.counters row).fits ≡ false → refused_slot s 7 ≡ heard_slot_of s words row pick
  unfolding heard_slot_of heard_slot_number_of
  heard_7 e = rw e

  module _ (fits : (step_one_of s.counters row).fits ≡ true) where
    pub heard_12 : hears_itself s words row ≡ false → refused_slot s 12 ≡ heard_slot_of s words row pick
    unfolding heard_slot_of heard_slot_number_of
    heard_12 e = rw (fits, e)

    pub heard-goes : hears_itself s words row ≡ true → step_of (outcome_of s.counters row) s pick ≡ heard_slot_of s words row pick
    unfolding heard_slot_of heard_slot_number_of
    heard-goes e = rw (fits, e)
