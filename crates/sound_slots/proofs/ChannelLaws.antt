-- A slot on a sound table: every station's slot on the group's row of the wire goes through, by the counters that all share, so 12 never comes. The
-- start and the shared table that the laws of demand 3 speak of are made from the records themselves. And its wire, which only stations wrote, has no clicks.
-- Assumes nothing.
use mathlib.Core.Path.{◌≡◌, refl, sym, ap, subst, ◌∙◌}
use mathlib.Core.Bool.{Bool, true, false, ◌&&◌, cond}
use mathlib.Core.List.{List, [], ◌∷◌, map}
use mathlib.Core.Logic.{◌⊎◌, inl, inr, by_cases}
use Prim.Native.Nat.{ℕ, zero, suc, ◌+◌, ◌-◌, ◌≤◌, ◌<◌}
use native.Mathlib.Omega.{arith}
use native.Mathlib.Nat.{zero-add}
use native.Mathlib.Decide.{dec_lt}
use lib.Dec.{eqb}
use lib.ListN.{length, get_or, take, length-map}
use lib.Seq.{ext_get_or}
use Rattle.minislot.specs.declared.Minislot.{Minislot}
use Rattle.minislot.specs.declared.Feedback.{Feedback}
use Rattle.minislot.specs.declared.Reading.TheVariants.{Heard}
use Rattle.minislot.specs.Click.{Click}
use Rattle.rows.specs.Row.{readings, first_number, feedbacks}
use Rattle.requests.specs.Together.{Request, carries, silent, together}
use Rattle.rules.specs.declared.Counters.{Counters}
use Rattle.rules.specs.declared.Station.{Station}
use Rattle.rules.specs.declared.WireRow.{WireRow}
use Rattle.listlaws.specs.Lists.{only_if}
use Rattle.rules.specs.Limits.{between, within_limits}
use Rattle.rules.specs.Hearing.{words_of, counts_of}
use Rattle.rules.specs.Queueing.{places_after, passes}
use Rattle.rules.specs.declared.Condition.{Condition}
use Rattle.rules.specs.declared.Condition.TheVariants.{Free, Held, Fresh, Asked, Resolving, Urgent, Long}
use Rattle.rules.specs.StationLimits.{condition_within, records_apart, station_within, is_total}
use Rattle.rules.specs.Messages.{short_record, long_record}
use Rattle.rules.specs.OwnHearing.{own_minislot, hears_of, hears_itself}
use Rattle.rules.specs.StationCalls.{no_station, slot_of}
use Rattle.channel_rules.specs.Soundness.{table_counters, asked_minislot, sound_table}
use Rattle.channel_rules.specs.SoundMeaning.{station_at, Sound}
use Rattle.channel_rules.specs.ChannelCalls.{Channel, blank_row, channel_start_of, channel_after, heard_row}
use Rattle.rules.specs.Outcome.{outcome_of}
use Rattle.rules.specs.Stepping.{step_of}
use Rattle.rules.specs.Calls.{Start, index}
use Rattle.rules.proofs.Views.{sender_at, eqb_self}
use Rattle.rules.proofs.Records.{holder, is_long_record, holder-short, holder-long, kind_short, kind_long, by_kind}
use Rattle.rules.proofs.Shared.{Table, gather, index_of, asked_pair, asked_row}
use Rattle.rules.proofs.SlotStep.{and_both}
use Rattle.rules.proofs.WireRows.{leaves, minislot_row, length-row, take_row, row_at, AsksOnce, Indexes, row_reads, minislot_no_click, heard-number, heard-feedbacks}
use Rattle.rules.proofs.OwnHears.{hears-row}
use Rattle.rules.proofs.Walking.{IsStation, AreStations, slot-steps}
use Rattle.channel_rules.proofs.Embody.{AsksOne, pair-once, feedback_is}
use Rattle.channel_rules.proofs.SoundKept.{asked_are}
use Rattle.channel_rules.proofs.SoundMeans.{sound-says, says-sound}
use Rattle.channel_rules.proofs.Theorem.{demand3}
use Rattle.requests.proofs.Senders.{no_click}
use Rattle.sound_slots.specs.NoClicks.{NoClicks, NoClicksHold, NoClicksEver}
use Rattle.rules.proofs.LimitLaws.{Within, within-limits, arrays-lengths, between-bounds, RecordsIn, station_in}

-- a condition within its limits asks nothing, or once with a total of 1 or more
asks-one-within : (c : Counters) (g j k : ℕ) (x : Condition) → condition_within c x ≡ true → AsksOne g j k x
unfolding condition_within
asks-one-within c g j k Free e = inl refl
asks-one-within c g j k (Held t) e = inl refl
asks-one-within c g j k (Fresh t) e = inl refl
asks-one-within c g j k (Asked h i t) e = go (eqb h g) (eqb i j)
  where
    some : 1 ≤ t
    some = (between-bounds 1 t 255 (and_both (between 1 h c.groups && between 1 i c.minislots) (is_total t) e).1).0

    go : (a b : Bool) → (only_if a (only_if b (sender_at k t ∷ [])) ≡ []) ⊎ ((v : ℕ) × (1 ≤ v) × (a ≡ true) × (only_if a (only_if b (sender_at k t ∷ [])) ≡ sender_at k v ∷ []))
    go true true = inr (t, some, refl, refl)
    go true false = inl refl
    go false b = inl refl
asks-one-within c g j k (Resolving h i t) e = inl refl
asks-one-within c g j k (Urgent i) e = inl refl
asks-one-within c g j k (Long f l t) e = inl refl

-- ---- the start and the shared table, from the records

abbrev pub start_made : List Station → Start
start_made l = record { m = (table_counters l).minislots; n = (table_counters l).groups; indexes = map (λ (s : Station). s.index) l }

-- the condition of record r
abbrev pub condition_in : List Station → ℕ → Condition
condition_in l r = cond (is_long_record r) (get_or l (holder r) no_station).long.condition (get_or l (holder r) no_station).short.condition

pub short_in : (l : List Station) (k : ℕ) → condition_in l (short_record k) ≡ (get_or l k no_station).short.condition
short_in l k = rw (kind_short k, holder-short k)

pub long_in : (l : List Station) (k : ℕ) → condition_in l (long_record k) ≡ (get_or l k no_station).long.condition
long_in l k = rw (kind_long k, holder-long k)

abbrev pub table_made : List Station → Table
table_made l =
    record {
      h = (table_counters l).urgent;
      n = (table_counters l).long;
      rq = λ g. get_or (table_counters l).resolution (g - 1) 0;
      opened = λ g. get_or (table_counters l).opened (g - 1) false;
      next = (table_counters l).next;
      calendar = (table_counters l).calendar;
      position = (table_counters l).position;
      condition = condition_in l;
    }

pub are_made : (S : Start) (t : Table) (j : ℕ) (l : List Station) → ((k : ℕ) → k < length l → IsStation S t (j + k) (get_or l k no_station)) → AreStations S t j l
are_made S t j [] h = tt
are_made S t j (s ∷ l) h = (
  subst (λ (i : ℕ). IsStation S t i s) (let e : j + 0 ≡ j = omega arith in e) (h zero (omega arith)),
  are_made S t (suc j) l (λ k w. subst (λ (i : ℕ). IsStation S t i (get_or l k no_station)) (let e : j + suc k ≡ suc j + k = omega arith in e) (h (suc k) (omega arith))),
)

index-map : (l : List Station) (k : ℕ) → get_or (map (λ (s : Station). s.index) l) k 0 ≡ (get_or l k no_station).index
index-map [] k = refl
index-map (s ∷ l) zero = refl
index-map (s ∷ l) (suc k) = index-map l k

past_end : (l : List Station) (k : ℕ) → length l ≤ k → get_or l k no_station ≡ no_station
past_end [] k h = refl
past_end (s ∷ l) zero h = absurd (omega arith)
past_end (s ∷ l) (suc k) h = past_end l k (omega arith)

module _ (stations : List Station) (wire : List WireRow) (some : 1 ≤ length stations) (sound : sound_table stations wire ≡ true) where
  says : Sound stations wire
  says = sound-says stations wire sound

  -- the counters that all share, and their limits
  pub first-within : within_limits (table_counters stations) ≡ true
  first-within = (station_in (station_at stations 0) (says.within 0 some)).counters

  pub limits : Within (table_counters stations)
  limits = within-limits (table_counters stations) first-within

  pub counters-shared : (k : ℕ) → k < length stations → (station_at stations k).counters ≡ table_counters stations
  counters-shared = says.shared

  pub each_within : (k : ℕ) → k < length stations → station_within (station_at stations k) ≡ true
  each_within = says.within

  pub wire-rows : (length wire ≡ 8) × ((g : ℕ) → 1 ≤ g → g ≤ 8 → length (get_or wire (g - 1) blank_row).minislots ≡ 8)
  wire-rows = says.size

  S : Start
  S = start_made stations

  t : Table
  t = table_made stations

  pub same_length : length (map (λ (s : Station). s.index) stations) ≡ length stations
  same_length = length-map stations (λ (s : Station). s.index)

  pub is_made : (k : ℕ) → k < length stations → IsStation (start_made stations) (table_made stations) k (get_or stations k no_station)
  is_made k h =
      let e : (get_or stations k no_station).counters ≡ table_counters stations = says.shared k h in
      let w = arrays-lengths (table_counters stations) limits.arrays in
      record {
        index = sym (index-map stations k);
        minislots = ap (λ (c : Counters). c.minislots) e;
        groups = ap (λ (c : Counters). c.groups) e;
        next = ap (λ (c : Counters). c.next) e;
        urgent = ap (λ (c : Counters). c.urgent) e;
        long-queue = ap (λ (c : Counters). c.long) e;
        arrays = (ap (λ (c : Counters). length c.resolution) e ∙ w.0, ap (λ (c : Counters). length c.opened) e ∙ w.1);
        resolution = λ g l u. ap (λ (c : Counters). get_or c.resolution (g - 1) 0) e;
        mark = λ g l u. ap (λ (c : Counters). get_or c.opened (g - 1) false) e;
        calendar = ap (λ (c : Counters). c.calendar) e;
        position = ap (λ (c : Counters). c.position) e;
        short = sym (short_in stations k);
        long = sym (long_in stations k);
      }

  all_made : AreStations (start_made stations) (table_made stations) 0 stations
  all_made = are_made (start_made stations) (table_made stations) 0 stations (λ k h. subst (λ (i : ℕ). IsStation (start_made stations) (table_made stations) i (get_or stations k no_station)) (sym (zero-add k)) (is_made k h))

  pub indexes : Indexes (index (start_made stations)) (length stations)
  indexes =
      record {
        below = λ k h. rw (index-map stations k) (let w = (station_in (station_at stations k) (says.within k h)).index in omega arith);
        distinct = λ i k a b e. says.distinct i k a b (sym (index-map stations i) ∙ e ∙ index-map stations k);
      }

  -- both records of each station within their limits, and none beyond the table
  pub records-within : (k : ℕ) → k < length stations → RecordsIn (station_at stations k).counters (condition_in stations (short_record k)) (condition_in stations (long_record k))
  records-within k h = rw (short_in stations k, long_in stations k) (station_in (station_at stations k) (says.within k h)).records

  nobody : (k : ℕ) → length stations ≤ k → (condition_in stations (short_record k) ≡ Free) × (condition_in stations (long_record k) ≡ Free)
  nobody k h = (short_in stations k ∙ ap (λ (s : Station). s.short.condition) (past_end stations k h), long_in stations k ∙ ap (λ (s : Station). s.long.condition) (past_end stations k h))

  pub outside : (r : ℕ) → short_record (length stations) ≤ r → condition_in stations r ≡ Free
  outside r h = by_kind (λ (r : ℕ). short_record (length stations) ≤ r → condition_in stations r ≡ Free) (λ k h. (nobody k (omega arith)).0) (λ k h. (nobody k (omega arith)).1) r h

  pub apart : (k : ℕ) → records_apart (condition_in stations (short_record k)) (condition_in stations (long_record k)) ≡ true
  unfolding records_apart
  apart k = by_cases (dec_lt k (length stations)) (λ h. (records-within k h).apart) (λ h. rw (nobody k (omega arith)).0)

  once : (g j k : ℕ) → AsksOnce (index_of (start_made stations)) (index (start_made stations) k) (asked_pair g (condition_in stations) j k)
  once g j k =
      by_cases (dec_lt k (length stations))
      (λ h.
      pair-once (start_made stations) (condition_in stations) g j k (apart k)
      (asks-one-within (station_at stations k).counters g j (short_record k) (condition_in stations (short_record k)) (records-within k h).short)
      (asks-one-within (station_at stations k).counters g j (long_record k) (condition_in stations (long_record k)) (records-within k h).long))
      (λ h. inl (rw ((nobody k (omega arith)).0, (nobody k (omega arith)).1)))

  -- ---- the row on the wire, and what it reads as

  abbrev pub left_row : ℕ → ℕ → List Minislot
  left_row g n = minislot_row (index_of (start_made stations)) (length stations) (asked_pair g (condition_in stations)) n 1

  pub wire-row : (g : ℕ) → 1 ≤ g → g ≤ 8 → (get_or wire (g - 1) blank_row).minislots ≡ left_row g 8
  unfolding asked_minislot
  wire-row g gl gh =
      ext_get_or silent (get_or wire (g - 1) blank_row).minislots (left_row g 8)
      (says.size.1 g gl gh ∙ sym (length-row (index_of (start_made stations)) (length stations) (asked_pair g (condition_in stations)) 8 1))
      (λ i h. at i (omega (arith, says.size.1 g gl gh)))
    where
      at : (i : ℕ) → i < 8 → get_or (get_or wire (g - 1) blank_row).minislots i silent ≡ get_or (left_row g 8) i silent
      at i h =
          subst (λ (z : ℕ). get_or (get_or wire (g - 1) blank_row).minislots z silent ≡ asked_minislot stations g (suc i)) (let e : suc i - 1 ≡ i = omega arith in e)
          (says.wire g (suc i) gl gh (omega arith) (omega arith))
          ∙ ap (λ (l : List Request). together (map carries l)) (asked_are (start_made stations) (table_made stations) g (suc i) 0 stations all_made)
          ∙ sym (row_at (index_of (start_made stations)) (length stations) (asked_pair g (condition_in stations)) 8 1 i silent h
          ∙ ap (λ (z : ℕ). leaves (index_of (start_made stations)) (gather (asked_pair g (condition_in stations) z) (length stations))) (let e : 1 + i ≡ suc i = omega arith in e))

  -- no minislot of the wire is a click
  pub wire_no_click : NoClicks wire
  wire_no_click g j gl gh jl jh k =
      minislot_no_click (index (start_made stations)) (index_of (start_made stations)) (length stations) indexes (asked_pair g (condition_in stations) (1 + (j - 1))) (once g (1 + (j - 1)))
      (subst (λ (s : Minislot). Click s.word)
      (ap (λ (l : List Minislot). get_or l (j - 1) silent) (wire-row g gl gh)
      ∙ row_at (index_of (start_made stations)) (length stations) (asked_pair g (condition_in stations)) 8 1 (j - 1) silent (omega arith)) k)

  next_low : 1 ≤ (table_counters stations).next
  next_low = limits.next.0

  next-high : (table_counters stations).next ≤ 8
  next-high = omega (arith, limits.next.1, limits.groups.1)

  abbrev pub ch : Channel
  ch = record { stations = stations; wire = wire }

  -- the row heard, as the stations asked there left it
  abbrev pub left_here : List Minislot
  left_here = left_row (table_counters stations).next (table_counters stations).minislots

  heard-left : heard_row ch ≡ left_here
  unfolding heard_row
  heard-left =
      ap (take (table_counters stations).minislots) (wire-row (table_counters stations).next next_low next-high)
      ∙ take_row (index_of (start_made stations)) (length stations) (asked_pair (table_counters stations).next (condition_in stations)) (table_counters stations).minislots 8 1 limits.minislots.1

  -- the feedback of it
  abbrev pub asked_here : List Feedback
  asked_here = asked_row (index_of (start_made stations)) (short_record (length stations)) (condition_in stations) (table_counters stations).next (table_counters stations).minislots 1

  left-reads : readings (words_of left_here) (counts_of left_here) ≡ map Heard asked_here
  left-reads =
      row_reads (index (start_made stations)) (index_of (start_made stations)) (length stations) indexes (asked_pair (table_counters stations).next (condition_in stations)) (once (table_counters stations).next) (table_counters stations).minislots 1
      ∙ ap (map Heard) (feedback_is (index (start_made stations)) (index_of (start_made stations)) (length stations) indexes (condition_in stations) (table_counters stations).next (once (table_counters stations).next) (table_counters stations).minislots 1)

  left-feedbacks : feedbacks (readings (words_of left_here) (counts_of left_here)) ≡ asked_here
  left-feedbacks = ap feedbacks left-reads ∙ heard-feedbacks asked_here

  -- no minislot of the row is refused, and the row has m of them
  pub row_number : first_number (readings (words_of (heard_row ch)) (counts_of (heard_row ch))) ≡ 0
  row_number = rw heard-left (ap first_number left-reads ∙ heard-number asked_here)

  pub row-length : length (heard_row ch) ≡ (table_counters stations).minislots
  row-length = rw heard-left (length-row (index_of (start_made stations)) (length stations) (asked_pair (table_counters stations).next (condition_in stations)) (table_counters stations).minislots 1)

  -- the feedback that the row reads as
  abbrev pub row_here : List Feedback
  row_here = feedbacks (readings (words_of (heard_row ch)) (counts_of (heard_row ch)))

  pub row-asked : row_here ≡ asked_here
  row-asked = rw heard-left left-feedbacks

  -- the record of station k that is asked in the group
  abbrev listened : ℕ → Condition
  listened k = cond (eqb (own_minislot (table_counters stations).next (condition_in stations (short_record k))) 0) (condition_in stations (long_record k)) (condition_in stations (short_record k))

  -- each station hears itself: 12 never comes
  pub hears : (k : ℕ) → k < length stations → hears_itself (station_at stations k) (words_of (heard_row ch)) row_here ≡ true
  unfolding hears_itself
  hears k h =
      rw (row-asked, heard-left, counters-shared k h, ← (short_in stations k), ← (long_in stations k))
      (subst (λ (i : ℕ). hears_of (table_counters stations).next i (listened k) (words_of left_here) asked_here ≡ true) (index-map stations k)
      (hears-row (index (start_made stations)) (length stations) k indexes h (condition_in stations) outside (apart k) (table_counters stations).next (table_counters stations).minislots 1 (omega arith)))

  -- EACH STATION'S SLOT goes through, by the shared counters
  module _ (fits : passes (places_after (table_counters stations) row_here) ≡ false) where
    pub station-goes : (k : ℕ) → k < length stations → (pick : ℕ) → between 1 pick (table_counters stations).minislots ≡ true
        → slot_of (station_at stations k) (words_of (heard_row ch)) (counts_of (heard_row ch)) pick
        ≡ step_of (outcome_of (table_counters stations) row_here) (station_at stations k) pick
    station-goes k h pick w =
        slot-steps (station_at stations k) (words_of (heard_row ch)) (counts_of (heard_row ch)) row_here pick (each_within k h)
        (rw (counters-shared k h, length-map (heard_row ch) (λ (x : Minislot). x.word), length-map (heard_row ch) (λ (x : Minislot). x.count), row-length, eqb_self (table_counters stations).minislots))
        (rw (counters-shared k h) w)
        row_number refl
        (rw (counters-shared k h) fits)
        (hears k h)
        ∙ ap (λ (c : Counters). step_of (outcome_of c row_here) (station_at stations k) pick) (counters-shared k h)

-- A SOUND TABLE'S WIRE has no clicks: its minislots are what stations asked there, or nobody
pub no_clicks : NoClicksHold
unfolding asked_minislot
no_clicks [] wire it = λ g j gl gh jl jh k. no_click [] tt (subst (λ (s : Minislot). Click s.word) (it.wire g j gl gh jl jh) k)
no_clicks (s ∷ stations) wire it = wire_no_click (s ∷ stations) wire (omega arith) (says-sound (s ∷ stations) wire it)

-- and neither has a channel's after any list of calls
pub no_clicks_ever : NoClicksEver
no_clicks_ever before m n indexes ready calls =
    let after = channel_after (channel_start_of before m n indexes).state calls in
    no_clicks after.stations after.wire (demand3 before m n indexes ready calls).sound
