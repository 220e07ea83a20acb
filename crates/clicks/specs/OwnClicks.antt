-- Clicks in a station's own minislot (paper 02, T-01; paper 01, "The box": it must hear there a Single of its own, "or a Collide
-- containing all its ones"), whichever of its two message records asked there (T-04). Assumes nothing.
use Rattle.std.specs.Prelude.{◌≡◌, true, List, ◌≢◌, ℕ, ◌+◌, ◌-◌, ◌<◌, ◌≤◌, get_or}
use Rattle.pattern.specs.Ones.{contains_ones}
use Rattle.pattern.specs.Patterns.{word_of}
use Rattle.minislot.specs.Click.{Click}
use Rattle.minislot.specs.Reading.{reading_of}
use Rattle.minislot.specs.declared.Feedback.{Feedback}
use Rattle.minislot.specs.declared.Feedback.TheVariants.{Empty, Collide}
use Rattle.minislot.specs.declared.Reading.TheVariants.{Heard}
use Rattle.rows.specs.Row.{readings, first_number, feedbacks}
use Rattle.rules.specs.declared.Counters.{Counters}
use Rattle.rules.specs.declared.Places.{Places}
use Rattle.rules.specs.declared.Station.{Station}
use Rattle.rules.specs.Limits.{between}
use Rattle.rules.specs.Queueing.{places_before, places_of, immediate_of, step_one_of}
use Rattle.rules.specs.Listening.{has_row}
use Rattle.rules.specs.declared.Condition.{Condition}
use Rattle.rules.specs.declared.Condition.TheVariants.{Asked, Resolving}
use Rattle.rules.specs.declared.Which.{Which}
use Rattle.rules.specs.Writing.{record_in}
use Rattle.rules.specs.StationLimits.{station_within}
use Rattle.rules.specs.OwnHearing.{hears_elsewhere}
use Rattle.rules.specs.Outcome.{outcome_of}
use Rattle.rules.specs.Stepping.{settled_in}
use Rattle.rules.specs.StationCalls.{refused_slot, slot_number_of, slot_of}

-- minislot j's word, and what a row reads as
abbrev pub word_at : List ℕ → ℕ → ℕ
word_at words j = get_or words (j - 1) 0

abbrev pub heard_in : List ℕ → List ℕ → List Feedback
heard_in words counts = feedbacks (readings words counts)

-- the lengths of the queues when the minislots before minislot j have been counted in step 1
abbrev pub lengths_before : Counters → List Feedback → ℕ → Places
lengths_before c row j = places_before (immediate_of c row) (places_of c) row j

-- where the message of one of a station's two records stands after step 1 of a slot
abbrev pub settled_hearing : Which → Station → List Feedback → Condition
settled_hearing w s row = settled_in (outcome_of s.counters row).landed s.counters.next (record_in w s)

-- a station that asked in minislot j of the slot's group hears a row that passes every check before 12
pub record Listens (w : Which) (s : Station) (words counts : List ℕ) (pick j t : ℕ) : Type 0 where
  pub asked : record_in w s ≡ Asked s.counters.next j t
  pub within : station_within s ≡ true
  pub row : has_row s.counters.minislots words counts ≡ true
  pub in-range : between 1 pick s.counters.minislots ≡ true
  pub read : first_number (readings words counts) ≡ 0
  pub fits : (step_one_of s.counters (heard_in words counts)).fits ≡ true

-- a pattern's word with clicks on top: a word that contains all its ones, and more
pub record OnTop (i word : ℕ) : Type 0 where
  pub contains : contains_ones word (word_of i) ≡ true
  pub more : word ≢ word_of i

-- a station hears its own index as Single in no minislot but minislot j
abbrev pub NowhereElse : Station → List Feedback → ℕ → Type 0
NowhereElse s row j = (k : ℕ) → 1 ≤ k → k ≤ s.counters.minislots → k ≢ j → hears_elsewhere s.index (get_or row (k - 1) Empty) ≡ true

pub record OwnClicks : Type 0 where
  -- a click there, which can't contain all its ones: 12, and the record is as it was
  pub click-alone : (w : Which) (s : Station) (words counts : List ℕ) (pick j t : ℕ) → Listens w s words counts pick j t
      → Click (word_at words j) → slot_of s words counts pick ≡ refused_slot s 12
  -- a pattern's word with clicks on top is a Collide, whatever the count
  pub on_top : (i word count : ℕ) → i < 924 → word < 4096 → OnTop i word → reading_of word count ≡ Heard Collide
  -- its own word with clicks on top is what it must hear: the slot goes through
  pub through : (w : Which) (s : Station) (words counts : List ℕ) (pick j t : ℕ) → Listens w s words counts pick j t
      → OnTop s.index (word_at words j) → NowhereElse s (heard_in words counts) j → slot_number_of s words counts pick ≡ 0
  -- and its message goes to the new last place of its group's resolution queue
  pub resolving : (w : Which) (s : Station) (words counts : List ℕ) (pick j t : ℕ) → Listens w s words counts pick j t
      → OnTop s.index (word_at words j) → settled_hearing w s (heard_in words counts)
      ≡ Resolving s.counters.next ((lengths_before s.counters (heard_in words counts) j).resolution + 1) t
  -- where the newcomers of another minislot never stand: it is alone there if it was alone in its minislot
  pub alone : (c : Counters) (row : List Feedback) (j k : ℕ) → 1 ≤ j → 1 ≤ k → j ≢ k
      → get_or row (j - 1) Empty ≡ Collide → get_or row (k - 1) Empty ≡ Collide
      → (lengths_before c row j).resolution ≢ (lengths_before c row k).resolution
