-- A lone one asks again and is queued if heard alone (paper 02, T-01). On a listener or a station a resolution place may be one station's,
-- or nobody's. What is said here is said of every message record, a station's short one or its long one (T-04), at place 1 of a resolution
-- queue, so of one that is alone there too. Assumes nothing.
use Rattle.std.specs.Prelude.{◌≡◌, false, cond, List, [], ◌∷◌, ℕ, ◌+◌, ◌-◌, eqb, length, get_or}
use Rattle.minislot.specs.declared.Feedback.{Feedback}
use Rattle.minislot.specs.declared.Feedback.TheVariants.{Empty, Single}
use Rattle.rules.specs.declared.Places.{Places}
use Rattle.rules.specs.declared.Station.{Station}
use Rattle.rules.specs.declared.StationSlot.{StationSlot}
use Rattle.rules.specs.Queueing.{immediate_of, opened_of}
use Rattle.rules.specs.declared.Condition.{Condition}
use Rattle.rules.specs.declared.Condition.TheVariants.{Asked, Resolving, Urgent, Long}
use Rattle.rules.specs.StationCalls.{slot_number_of, slot_of}
use Rattle.rules.specs.Numbers.{slot_told}
use Rattle.rules.specs.Outcome.{outcome_of}
use Rattle.rules.specs.Stepping.{acts_of}
use Rattle.rules.specs.declared.Which.{Which}
use Rattle.rules.specs.declared.Which.TheVariants.{ShortOne, LongOne}
use Rattle.rules.specs.Writing.{record_in}
use Rattle.clicks.specs.OwnClicks.{heard_in, lengths_before, settled_hearing}

-- a row that a station hears, and its pick in that slot
pub record HeardSlot : Type 0 where
  pub words : List ℕ
  pub counts : List ℕ
  pub pick : ℕ

abbrev pub row_heard : HeardSlot → List Feedback
row_heard x = heard_in x.words x.counts

abbrev pub number_hearing : Station → HeardSlot → ℕ
number_hearing s x = slot_number_of s x.words x.counts x.pick

abbrev pub slot_hearing : Station → HeardSlot → StationSlot
slot_hearing s x = slot_of s x.words x.counts x.pick

-- the station after some slots, and that every one of them goes through
abbrev pub after_slots : Station → List HeardSlot → Station
after_slots s [] = s
after_slots s (x ∷ l) = after_slots (slot_hearing s x).station l

abbrev pub AllGo : Station → List HeardSlot → Type 0
AllGo s [] = Unit {0}
AllGo s (x ∷ l) = (number_hearing s x ≡ 0) × AllGo (slot_hearing s x).station l

-- the station's other record, and the segment of its message that the slot sends, 0 for none
abbrev pub other : Which → Which
other ShortOne = LongOne
other LongOne = ShortOne

abbrev pub sent_beside : Which → Station → HeardSlot → ℕ
sent_beside w s x = (acts_of (outcome_of s.counters (row_heard x)) (record_in (other w) s) x.pick).segment

-- a message at place 1 of the resolution queue of the group whose slot is next: that slot, then one slot of each other group, and all of
-- them go through
pub record Round (w : Which) (s : Station) (t : ℕ) (x : HeardSlot) (others : List HeardSlot) : Type 0 where
  pub first : record_in w s ≡ Resolving s.counters.next 1 t
  pub all : length (x ∷ others) ≡ s.counters.groups
  pub through : AllGo s (x ∷ others)

-- the new last place of the urgent queue with one slot, the new last places of the long queue with more
abbrev pub last_places : Places → ℕ → Condition
last_places p t = cond (eqb t 1) (Urgent (p.urgent + 1)) (Long (p.long + 1) t t)

-- it hears its own Single in minislot j, in a slot that goes through
pub record HearsItsSingle (s : Station) (t j : ℕ) (y : HeardSlot) : Type 0 where
  pub through : number_hearing s y ≡ 0
  pub single : get_or (row_heard y) (j - 1) Empty ≡ Single s.index t

-- it stands in the urgent or the long queue by its count, and is no immediate success
pub record Queued (w : Which) (s : Station) (t j : ℕ) (row : List Feedback) : Type 0 where
  pub no_success : immediate_of s.counters row ≡ false
  pub stands : settled_hearing w s row ≡ last_places (lengths_before s.counters row j) t

pub record AsksAgain (w : Which) (s : Station) (t : ℕ) (x : HeardSlot) (others : List HeardSlot) : Type 0 where
  -- in that slot it requests its whole message in its station's pick, and sends no data: what the station sends is the other record's
  pub asks : (slot_told (slot_hearing s x).answer).values ≡ x.pick ∷ sent_beside w s x ∷ []
  pub carries : (slot_hearing s x).request ≡ t
  -- when its group returns it is asked there, with the whole message, and the group's mark is no
  pub returns : (after_slots s (x ∷ others)).counters.next ≡ s.counters.next
  pub asked : record_in w (after_slots s (x ∷ others)) ≡ Asked s.counters.next x.pick t
  pub mark : opened_of (after_slots s (x ∷ others)).counters ≡ false
  -- so, if it hears its own Single there, it is queued
  pub queued : (y : HeardSlot) → HearsItsSingle (after_slots s (x ∷ others)) t x.pick y
      → Queued w (after_slots s (x ∷ others)) t x.pick (row_heard y)

-- of every station and either record, every row, pick and message
abbrev pub AsksAgainHolds : Type 0
AsksAgainHolds = (w : Which) (s : Station) (t : ℕ) (x : HeardSlot) (others : List HeardSlot) → Round w s t x others
    → AsksAgain w s t x others
