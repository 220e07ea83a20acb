-- Step 1 for a message by its own minislot alone: the lengths before that minislot and what is heard there. It is the look-up of specs/Stepping in the row's
-- landings (`settled_same`), so a station's step by the outcome is its steps 1 to 5 (`step_is`). Assumes nothing.
use mathlib.Core.Path.{◌≡◌, refl, ap, ◌∙◌}
use mathlib.Core.Bool.{Bool, true, false, ◌&&◌, cond}
use mathlib.Core.List.{List, [], ◌∷◌}
use Prim.Native.Nat.{ℕ, zero, suc, ◌+◌, ◌-◌, ◌≤◌}
use native.Mathlib.Omega.{arith}
use lib.Dec.{eqb}
use lib.ListN.{length, get_or, take}
use Rattle.minislot.specs.declared.Feedback.{Feedback}
use Rattle.minislot.specs.declared.Feedback.TheVariants.{Empty, Single, Collide}
use Rattle.rules.specs.declared.Counters.{Counters}
use Rattle.rules.specs.declared.Places.{Places}
use Rattle.rules.specs.StationLimits.{Condition, Free, Held, Fresh, Asked, Resolving, Urgent, Long}
use Rattle.rules.specs.Queueing.{queued, queued_row, places_before, places_of, immediate_of, places_after, step_one_of}
use Rattle.rules.specs.declared.Landed.{Landed}
use Rattle.rules.specs.declared.Station.{Station}
use Rattle.rules.specs.declared.StationSlot.{StationSlot}
use Rattle.rules.specs.Calendars.{owner_of}
use Rattle.rules.specs.declared.SlotAnswer.TheVariants.{Went}
use Rattle.rules.specs.Turns.{turn_of}
use Rattle.rules.specs.Falling.{fallen}
use Rattle.rules.specs.Landing.{Gone, lands_alone, lands_after, at, landings, stands}
use Rattle.rules.specs.Requesting.{requests, requested}
use Rattle.rules.specs.Serving.{sends, moved}
use Rattle.rules.specs.Outcome.{outcome_by, outcome_of}
use Rattle.rules.specs.Stepping.{settled_in, request_minislot, acts_of, acts_beside, stays, is_fresh, asker, sender, request_total, step_of}
use Rattle.rules.specs.declared.Acted.{Acted}

-- a Single: whether success would be immediate, whether its count is 1; p is the lengths before its minislot, t its total
abbrev pub stands_alone : Bool → Bool → Places → ℕ → Condition
stands_alone true true p t = Free
stands_alone false true p t = Urgent (p.urgent + 1)
stands_alone b false p t = Long (p.long + 1) t t

-- what is heard in the station's own minislot
abbrev pub stands_after : Bool → ℕ → Places → Feedback → ℕ → Condition
stands_after b g p Empty t = Free
stands_after b g p (Single i c) t = stands_alone b (eqb c 1) p t
stands_after b g p Collide t = Resolving g (p.resolution + 1) t

-- minislot j's feedback
abbrev pub feedback_at : List Feedback → ℕ → Feedback
feedback_at row j = get_or row (j - 1) Empty

-- step 1 for a station in any condition: g is the slot's group, b whether success is immediate, p the lengths before the row
unfoldable pub settled_by : Bool → ℕ → Places → List Feedback → Condition → Condition
settled_by b g p row Free = Free
settled_by b g p row (Held t) = Held t
settled_by b g p row (Fresh t) = Fresh t
settled_by b g p row (Asked h j t) = cond (eqb h g) (stands_after b g (places_before b p row j) (feedback_at row j) t) (Asked h j t)
settled_by b g p row (Resolving h i t) = Resolving h i t
settled_by b g p row (Urgent i) = Urgent i
settled_by b g p row (Long f l t) = Long f l t

-- the same from the counters and the row
abbrev pub settled_of : Counters → List Feedback → Condition → Condition
settled_of c row k = settled_by (immediate_of c row) c.next (places_of c) row k

-- ---- the look-up

stands_after_lem : (b : Bool) (g : ℕ) (p : Places) (f : Feedback) (t : ℕ) → stands g (lands_after b p f) t ≡ stands_after b g p f t
stands_after_lem b g p Empty t = refl
stands_after_lem b g p (Single i c) t = alone b (eqb c 1)
  where
    alone : (b o : Bool) → stands g (lands_alone b o p) t ≡ stands_alone b o p t
    alone true true = refl
    alone false true = refl
    alone true false = refl
    alone false false = refl
stands_after_lem b g p Collide t = refl

past_row : (b : Bool) (p : Places) (n i : ℕ) → get_or (landings b p [] n) i (at Gone) ≡ at Gone
unfolding landings
past_row b p zero i = refl
past_row b p (suc n) zero = refl
past_row b p (suc n) (suc i) = past_row b p n i

pub landing_at : (b : Bool) (p : Places) (row : List Feedback) (n i : ℕ) → length row ≤ n
    → get_or (landings b p row n) i (at Gone) ≡ at (lands_after b (queued_row b p (take i row)) (get_or row i Empty))
unfolding landings queued_row
landing_at b p [] n i h = past_row b p n i
landing_at b p (f ∷ row) zero i h = absurd (omega arith)
landing_at b p (f ∷ row) (suc n) zero h = refl
landing_at b p (f ∷ row) (suc n) (suc i) h = landing_at b (queued b p f) row n i (omega arith)

pub settled_same : (b : Bool) (g : ℕ) (p : Places) (row : List Feedback) (n : ℕ) (k : Condition) → length row ≤ n
    → settled_in (landings b p row n) g k ≡ settled_by b g p row k
unfolding settled_in settled_by
settled_same b g p row n Free h = refl
settled_same b g p row n (Held t) h = refl
settled_same b g p row n (Fresh t) h = refl
settled_same b g p row n (Asked x j t) h =
    ap (λ (c : Condition). cond (eqb x g) c (Asked x j t))
    (ap (λ (l : Landed). stands g l.landing t) (landing_at b p row n (j - 1) h)
    ∙ stands_after_lem b g (queued_row b p (take (j - 1) row)) (get_or row (j - 1) Empty) t)
settled_same b g p row n (Resolving x i t) h = refl
settled_same b g p row n (Urgent i) h = refl
settled_same b g p row n (Long f l t) h = refl

-- ---- a station's step, from its own counters and the row: what a message in a condition does, and so both records

abbrev pub condition_after : Counters → List Feedback → ℕ → Condition → Condition
condition_after c row pick k =
    moved (turn_of (owner_of c) (places_after c row)) (requested (places_after c row).resolution c.next pick (settled_of c row k))

abbrev pub requesting : Counters → List Feedback → Condition → Bool
requesting c row k = requests (places_after c row).resolution c.next (settled_of c row k)

abbrev pub segment_sent : Counters → List Feedback → Condition → ℕ
segment_sent c row k = sends (turn_of (owner_of c) (places_after c row)) (places_after c row).resolution c.next (settled_of c row k)

unfoldable pub acted_by : Counters → List Feedback → ℕ → Condition → Acted
acted_by c row pick k =
    record {
      condition = condition_after c row pick k;
      minislot = request_minislot (requesting c row k) pick;
      segment = segment_sent c row k;
    }

unfoldable pub beside_by : Counters → List Feedback → ℕ → Condition → Condition → Acted
beside_by c row pick a b = cond (is_fresh a && is_fresh b) (stays b) (acted_by c row pick b)

unfoldable pub station_after : Station → List Feedback → ℕ → Station
station_after s row pick =
    record {
      counters = fallen s.counters (places_after s.counters row);
      index = s.index;
      short = record { condition = (acted_by s.counters row pick s.short.condition).condition };
      long = record { condition = (beside_by s.counters row pick s.short.condition s.long.condition).condition };
    }

abbrev pub went_by : Station → List Feedback → ℕ → StationSlot
went_by s row pick =
    let x = acted_by s.counters row pick s.short.condition in
    let y = beside_by s.counters row pick s.short.condition s.long.condition in
    record {
      answer = Went (turn_of (owner_of s.counters) (places_after s.counters row)) (asker x y).minislot (sender x y).segment;
      request = request_total (asker x y);
      station = station_after s row pick;
    }

pub acts-is : (c : Counters) (row : List Feedback) (pick : ℕ) (k : Condition) → length row ≤ 8 → acts_of (outcome_of c row) k pick ≡ acted_by c row pick k
unfolding acts_of outcome_by step_one_of acted_by
acts-is c row pick k h = rw (settled_same (immediate_of c row) c.next (places_of c) row 8 k h)

pub step_is : (s : Station) (row : List Feedback) (pick : ℕ) → length row ≤ 8 → step_of (outcome_of s.counters row) s pick ≡ went_by s row pick
unfolding step_of acts_beside beside_by outcome_by step_one_of station_after
step_is s row pick h = rw (acts-is s.counters row pick s.short.condition h, acts-is s.counters row pick s.long.condition h)
