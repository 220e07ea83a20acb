-- A slot that goes through, station by station: each takes its step by the outcome that all share. So where a message stands after it is what the message
-- does by itself, and what is sent is what each station sends. Assumes nothing.
use mathlib.Core.Path.{◌≡◌, refl, ap, ◌∙◌}
use mathlib.Core.Bool.{Bool, true, false, ◌&&◌, cond, and-false}
use mathlib.Core.List.{List, [], ◌∷◌, map}
use mathlib.Core.Logic.{◌⊎◌, inl, inr}
use Prim.Native.Nat.{ℕ, zero, suc, ◌≤◌, ◌<◌}
use native.Mathlib.Omega.{arith}
use lib.ListN.{length, get_or, length-map}
use borrow.Author.Tests.{eqb-true}
use Rattle.minislot.specs.declared.Minislot.{Minislot}
use Rattle.std.specs.List.{list_all}
use Rattle.listlaws.specs.Steps.{each_with}
use Rattle.rules.specs.declared.Counters.{Counters}
use Rattle.rules.specs.declared.Outcome.{Outcome}
use Rattle.rules.specs.declared.Station.{Station}
use Rattle.rules.specs.declared.StationSlot.{StationSlot}
use Rattle.rules.specs.Calls.{Slot}
use Rattle.rules.specs.Calendars.{position_after}
use Rattle.rules.specs.Falling.{fallen}
use Rattle.rules.specs.Hearing.{words_of, counts_of}
use Rattle.rules.specs.Limits.{between}
use Rattle.rules.specs.Outcome.{outcome_by}
use Rattle.rules.specs.PlaceSteps.{acts_in, PlaceSteps}
use Rattle.rules.specs.Refusing.{by_number}
use Rattle.rules.specs.StationCalls.{no_station, slot_of}
use Rattle.rules.specs.Stepping.{is_fresh, stays, acts_beside, step_of}
use Rattle.channel_rules.specs.Soundness.{table_counters}
use Rattle.channel_rules.specs.SoundMeaning.{station_at, Sound}
use Rattle.channel_rules.specs.ChannelCalls.{Channel, ChannelResult, refused, heard_row, feedback_heard, slots_of, slots_heard, outcome_heard, slot_through, channel_slot_number_of, channel_slot_of, channel_call}
use Rattle.rules.proofs.LimitLaws.{Within}
use Rattle.rules.proofs.PlaceLaws.{place-steps}
use Rattle.rules.proofs.QueueingLaws.{fits-says}
use Rattle.rules.proofs.SlotStep.{and_both}
use Rattle.rules.proofs.Walking.{feedbacks-short}
use Rattle.channel_rules.proofs.SoundLists.{AllWithin}
use Rattle.channel_rules.proofs.SoundMeans.{all_in, sound-says}
use Rattle.sound_slots.proofs.ChannelLaws.{limits, row-length, station-goes}
use Rattle.sound_slots.proofs.Passing.{some-stations, Passed, number_passed}
use Rattle.place_waits.specs.Continuing.{short_at, long_at, index_at, is_taken}

-- ---- the stations' steps, each with its pick

abbrev pub steps_by : Outcome → List Station → List ℕ → List StationSlot
steps_by o l picks = each_with (step_of o) l picks

module _ (o : Outcome) (words counts : List ℕ) (m : ℕ) where
  slots-step : (l : List Station) (picks : List ℕ) → length picks ≡ length l → list_all (λ (pick : ℕ). between 1 pick m) picks ≡ true
      → ((k : ℕ) → k < length l → (pick : ℕ) → between 1 pick m ≡ true → slot_of (station_at l k) words counts pick ≡ step_of o (station_at l k) pick)
      → slots_of words counts l picks ≡ steps_by o l picks
  slots-step [] picks e w goes = refl
  slots-step (s ∷ l) [] e w goes = refl
  slots-step (s ∷ l) (pick ∷ picks) e w goes =
      let (here, rest) = and_both (between 1 pick m) (list_all (λ (pick : ℕ). between 1 pick m) picks) w in
      λ i. goes zero (omega arith) pick here i ∷ slots-step l picks (omega arith) rest (λ k h. goes (suc k) (omega arith)) i

step-at : (o : Outcome) (l : List Station) (picks : List ℕ) → length picks ≡ length l → (k : ℕ) → k < length l
    → station_at (map (λ (r : StationSlot). r.station) (steps_by o l picks)) k ≡ (step_of o (station_at l k) (get_or picks k 0)).station
step-at o [] picks e k h = absurd (omega arith)
step-at o (s ∷ l) [] e k h = absurd (omega arith)
step-at o (s ∷ l) (pick ∷ picks) e zero h = refl
step-at o (s ∷ l) (pick ∷ picks) e (suc k) h = step-at o l picks (omega arith) k (omega arith)

step_past : (o : Outcome) (l : List Station) (picks : List ℕ) (k : ℕ) → length l ≤ k → station_at (map (λ (r : StationSlot). r.station) (steps_by o l picks)) k ≡ no_station
step_past o [] picks k h = refl
step_past o (s ∷ l) [] k h = refl
step_past o (s ∷ l) (pick ∷ picks) zero h = absurd (omega arith)
step_past o (s ∷ l) (pick ∷ picks) (suc k) h = step_past o l picks k (omega arith)

-- ---- of a channel whose slot goes through

pub taken-passed : (ch : Channel) (picks : List ℕ) → is_taken ch (Slot picks) ≡ true → Passed ch picks
taken-passed ch picks e = number_passed ch picks (eqb-true (channel_slot_number_of ch picks) 0 e)

module _ (ch : Channel) (picks : List ℕ) (passed : Passed ch picks) where
  abbrev c : Counters
  c = table_counters ch.stations

  there : 1 ≤ length ch.stations
  there = some-stations ch.stations passed.stations

  pub in_limits : Within c
  in_limits = limits ch.stations ch.wire there passed.sound

  pub all-within : AllWithin c ch.stations
  all-within = all_in ch.stations ch.wire passed.sound

  pub means : Sound ch.stations ch.wire
  means = sound-says ch.stations ch.wire passed.sound

  row-short : length (feedback_heard ch) ≤ 8
  row-short =
      omega (arith, feedbacks-short (words_of (heard_row ch)) (counts_of (heard_row ch)), length-map (heard_row ch) (λ (x : Minislot). x.word), row-length ch.stations ch.wire there passed.sound, in_limits.minislots)

  -- the law of one message
  pub laws : PlaceSteps c (feedback_heard ch)
  laws = place-steps c (feedback_heard ch) row-short

  pub slots_are : slots_heard ch picks ≡ steps_by (outcome_heard ch) ch.stations picks
  slots_are =
      slots-step (outcome_heard ch) (words_of (heard_row ch)) (counts_of (heard_row ch)) c.minislots ch.stations picks passed.picked passed.within
      (station-goes ch.stations ch.wire there passed.sound (fits-says c (feedback_heard ch) passed.fits))

  pub result-is : channel_call ch (Slot picks) ≡ slot_through ch (outcome_heard ch) (steps_by (outcome_heard ch) ch.stations picks)
  unfolding channel_slot_of
  result-is =
      ap (λ (n : ℕ). by_number n (refused ch) (slot_through ch (outcome_heard ch) (slots_heard ch picks))) passed.number
      ∙ ap (slot_through ch (outcome_heard ch)) slots_are

  -- station k after it
  module _ (k : ℕ) (h : k < length ch.stations) where
    station-after : station_at (channel_call ch (Slot picks)).state.stations k ≡ (step_of (outcome_heard ch) (station_at ch.stations k) (get_or picks k 0)).station
    station-after = ap (λ (r : ChannelResult). station_at r.state.stations k) result-is ∙ step-at (outcome_heard ch) ch.stations picks passed.picked k h

    pub index-after : index_at (channel_call ch (Slot picks)).state k ≡ index_at ch k
    unfolding step_of
    index-after = ap (λ (s : Station). s.index) station-after

    pub short-after : short_at (channel_call ch (Slot picks)).state k ≡ (acts_in c (feedback_heard ch) (short_at ch k) (get_or picks k 0)).condition
    unfolding step_of
    short-after = ap (λ (s : Station). s.short.condition) station-after

    -- the long message too, or it stays as it is, fresh beside a fresh short one
    pub long-cases : (long_at (channel_call ch (Slot picks)).state k ≡ long_at ch k) ⊎ (long_at (channel_call ch (Slot picks)).state k ≡ (acts_in c (feedback_heard ch) (long_at ch k) (get_or picks k 0)).condition)
    unfolding step_of acts_beside
    long-cases = go (is_fresh (short_at ch k) && is_fresh (long_at ch k)) (ap (λ (s : Station). s.long.condition) station-after)
      where
        go : (b : Bool) → long_at (channel_call ch (Slot picks)).state k ≡ (cond b (stays (long_at ch k)) (acts_in c (feedback_heard ch) (long_at ch k) (get_or picks k 0))).condition
            → (long_at (channel_call ch (Slot picks)).state k ≡ long_at ch k) ⊎ (long_at (channel_call ch (Slot picks)).state k ≡ (acts_in c (feedback_heard ch) (long_at ch k) (get_or picks k 0)).condition)
        go true e = inl e
        go false e = inr e

    pub long_after : is_fresh (long_at ch k) ≡ false → long_at (channel_call ch (Slot picks)).state k ≡ (acts_in c (feedback_heard ch) (long_at ch k) (get_or picks k 0)).condition
    unfolding step_of acts_beside
    long_after e = ap (λ (s : Station). s.long.condition) station-after ∙ rw (e, and-false (is_fresh (short_at ch k)))

  -- the counters after it
  pub calendar-after : (table_counters (channel_call ch (Slot picks)).state.stations).calendar ≡ c.calendar
  unfolding step_of outcome_by fallen
  calendar-after = ap (λ (s : Station). s.counters.calendar) (station-after 0 there)

  pub position-after : (table_counters (channel_call ch (Slot picks)).state.stations).position ≡ position_after c.position
  unfolding step_of outcome_by fallen
  position-after = ap (λ (s : Station). s.counters.position) (station-after 0 there)

  -- and beyond the table there is none
  pub past_after : (k : ℕ) → length ch.stations ≤ k → station_at (channel_call ch (Slot picks)).state.stations k ≡ no_station
  past_after k h = ap (λ (r : ChannelResult). station_at r.state.stations k) result-is ∙ step_past (outcome_heard ch) ch.stations picks k h
