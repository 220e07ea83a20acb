-- One slot of a message in a transmission queue, by the slot's outcome, and where one that joins comes to stand (paper 01, "One slot of
-- group g", 1, 4 and 5; paper 02, T-08): the first of a queue that is served sends and the others move one place down; one that joins
-- stands behind all that are there, of two that join in one row the one of the higher minislot behind the other. What it makes of lists of
-- calls on a channel: crate place_waits. Assumes nothing.
use Rattle.std.specs.Prelude.{◌≡◌, cond, List, ℕ, suc, ◌+◌, ◌-◌, ◌≤◌, ◌<◌, eqb, length, get_or}
use Rattle.std.proofs.Math.Option.{none, some}
use Rattle.minislot.specs.declared.Feedback.{Feedback}
use Rattle.minislot.specs.declared.Feedback.TheVariants.{Empty, Single}
use Rattle.rules.specs.declared.Acted.{Acted}
use Rattle.rules.specs.declared.Counters.{Counters}
use Rattle.rules.specs.StationLimits.{Condition, Free, Asked, Urgent, Long}
use Rattle.rules.specs.Calendars.{owner_of}
use Rattle.rules.specs.Queueing.{places_after}
use Rattle.rules.specs.Outcome.{outcome_of}
use Rattle.rules.specs.Stepping.{settled_in, stays, acts_of}

-- what a message does in the slot; where it stands after step 1
abbrev pub acts_in : Counters → List Feedback → Condition → ℕ → Acted
acts_in c row k pick = acts_of (outcome_of c row) k pick

abbrev pub settles_in : Counters → List Feedback → Condition → Condition
settles_in c row k = settled_in (outcome_of c row).landed (outcome_of c row).group k

-- c is the counters before the slot, row what it hears
pub record PlaceSteps (c : Counters) (row : List Feedback) : Type 0 where
  -- H, in a slot that no stream owns: at place 1 it sends its one segment and is done; at any other place it sends nothing and moves one
  -- place down
  pub urgent-first : (pick : ℕ) → owner_of c ≡ none → 1 ≤ c.urgent
      → acts_in c row (Urgent 1) pick ≡ record { condition = Free; minislot = 0; segment = 1 }
  pub urgent-next : (p pick : ℕ) → owner_of c ≡ none → 1 ≤ c.urgent → 1 ≤ p → acts_in c row (Urgent (suc p)) pick ≡ stays (Urgent p)
  -- N, in a slot that no stream owns and where H holds no place once the row is counted: the stretch at place 1 sends its next segment,
  -- keeps the place with one slot fewer and is done after its last; any other sends nothing and moves one place down
  pub long-first : (l t pick : ℕ) → owner_of c ≡ none → (places_after c row).urgent ≡ 0 → 1 ≤ c.long
      → acts_in c row (Long 1 l t) pick
      ≡ record { condition = cond (eqb l 1) Free (Long 1 (l - 1) t); minislot = 0; segment = t - (l - 1) }
  pub long-next : (f l t pick : ℕ) → owner_of c ≡ none → (places_after c row).urgent ≡ 0 → 1 ≤ c.long → 1 ≤ f
      → acts_in c row (Long (suc f) l t) pick ≡ stays (Long f l t)
  -- and where H holds a place it waits
  pub long-waits : (f l t pick : ℕ) → owner_of c ≡ none → 1 ≤ (places_after c row).urgent
      → acts_in c row (Long f l t) pick ≡ stays (Long f l t)
  -- in an owned slot both wait
  pub urgent-owned : (x p pick : ℕ) → owner_of c ≡ some x → acts_in c row (Urgent p) pick ≡ stays (Urgent p)
  pub long-owned : (x f l t pick : ℕ) → owner_of c ≡ some x → acts_in c row (Long f l t) pick ≡ stays (Long f l t)
  -- one that joins stands behind all that are there, a long one with all its slots
  pub joins-urgent : (g j t p : ℕ) → settles_in c row (Asked g j t) ≡ Urgent p → c.urgent < p
  pub joins_long : (g j t f l n : ℕ) → settles_in c row (Asked g j t) ≡ Long f l n → (c.long < f) × (l ≡ t) × (n ≡ t)
  -- of two that join in one row, in minislots i and j, the one of the lower minislot stands in front, and the other sends nothing in that
  -- slot; of a long one all its slots, which its Single counts
  pub row-urgent : (g h i j s t p q : ℕ) → 1 ≤ i → i < j → settles_in c row (Asked g i s) ≡ Urgent p
      → settles_in c row (Asked h j t) ≡ Urgent q → p < q
  pub row-later : (g h i j s t p pick : ℕ) → 1 ≤ i → i < j → settles_in c row (Asked g i s) ≡ Urgent p
      → (acts_in c row (Asked h j t) pick).segment ≡ 0
  pub row-long : (g h i j s t p l m q k n : ℕ) → 1 ≤ i → i < j → ((x c : ℕ) → get_or row (i - 1) Empty ≡ Single x c → c ≡ s)
      → settles_in c row (Asked g i s) ≡ Long p l m → settles_in c row (Asked h j t) ≡ Long q k n → p + l ≤ q

-- of every record of counters and every row of at most 8 minislots
abbrev pub PlaceStepsHold : Type 0
PlaceStepsHold = (c : Counters) (row : List Feedback) → length row ≤ 8 → PlaceSteps c row
