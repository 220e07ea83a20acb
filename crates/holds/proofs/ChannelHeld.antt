-- A hold and its commit on a channel: a hold and an offer are checked by the same number; a hold that goes through leaves a sound table (TableHeld), on which the
-- station of the index stands where it stood, within its limits (StationHeld), so that the commit goes through, of the same total, and overwrites what the hold
-- wrote. With the station's part that is the theorem. Assumes nothing.
use mathlib.Core.Path.{◌≡◌, refl, sym, ap, ◌∙◌}
use mathlib.Core.Bool.{true}
use mathlib.Core.List.{List}
use Prim.Native.Nat.{ℕ, ◌<◌}
use native.Mathlib.Omega.{arith}
use lib.ListN.{length, get_or, set}
use lib.Seq.{get_or-set_same, set-set}
use borrow.Author.Tests.{ltb-true}
use Rattle.message.specs.Message.{fits_message, slots_for}
use Rattle.rules.specs.declared.Condition.{Condition}
use Rattle.rules.specs.declared.Condition.TheVariants.{Free, Held, Fresh}
use Rattle.rules.specs.declared.Station.{Station}
use Rattle.rules.specs.declared.Which.{Which}
use Rattle.rules.specs.declared.Writing.{Writing}
use Rattle.rules.specs.declared.Writing.TheVariants.{Offer, Hold}
use Rattle.rules.specs.declared.Answer.TheVariants.{Refused, Taken, OnHold, Committed}
use Rattle.rules.specs.Refusing.{unless}
use Rattle.rules.specs.Numbers.{call_told}
use Rattle.rules.specs.StationLimits.{station_within}
use Rattle.rules.specs.StationCalls.{no_station}
use Rattle.rules.specs.Requesting.{total_of}
use Rattle.rules.specs.Writing.{record_in, with_record, record_for, new_number_of}
use Rattle.rules.proofs.Refusals.{by-ap, through-only, test_passed}
use Rattle.channel_rules.specs.Soundness.{records_within, sound_table, position_of, is_on_table}
use Rattle.channel_rules.specs.ChannelCalls.{Channel, ChannelResult, has_stations, refused, station_of, written_at, channel_write_number_of, channel_write_of}
use Rattle.channel_rules.proofs.SoundTests.{sound-tests}
use Rattle.channel_rules.proofs.SoundMeans.{all-at}
use Rattle.holds.specs.HoldThenCommit.{commit_of, ChannelHolds, HoldThenCommit}
use Rattle.holds.proofs.StationHeld.{refused-both, put-twice, put_in, new-passed, held-within, station-holds}
use Rattle.holds.proofs.TableHeld.{put, position-put, length-put, on-put, sound-put}

-- a writing whose number is 0
went-through : (ch : Channel) (index : ℕ) (w : Writing) → channel_write_number_of ch index w ≡ 0 → channel_write_of ch index w ≡ written_at ch (position_of index ch.stations) w
unfolding channel_write_of
went-through ch index w z = rw z

-- where a hold goes through
record Passed (ch : Channel) (index bytes : ℕ) : Type 0 where
  some : has_stations ch.stations ≡ true
  sound : sound_table ch.stations ch.wire ≡ true
  here : is_on_table ch.stations index ≡ true
  fits : fits_message bytes ≡ true
  free : record_in (record_for bytes) (station_of ch index) ≡ Free

passed-tests : (ch : Channel) (index bytes : ℕ) → channel_write_number_of ch index (Hold bytes) ≡ 0 → Passed ch index bytes
unfolding channel_write_number_of
passed-tests ch index bytes z =
    let n₃ = new_number_of bytes (record_in (record_for bytes) (station_of ch index)) in
    let n₂ = unless (is_on_table ch.stations index) 16 n₃ in
    let n₁ = unless (sound_table ch.stations ch.wire) 18 n₂ in
    let (some, z₁) = test_passed (has_stations ch.stations) 14 n₁ refl z in
    let (sound, z₂) = test_passed (sound_table ch.stations ch.wire) 18 n₂ refl z₁ in
    let (here, z₃) = test_passed (is_on_table ch.stations index) 16 n₃ refl z₂ in
    let (fits, free) = new-passed bytes (record_in (record_for bytes) (station_of ch index)) z₃ in
    record { some = some; sound = sound; here = here; fits = fits; free = free }

module _ (ch : Channel) (index bytes : ℕ) where
  as_offer : channel_write_number_of ch index (Hold bytes) ≡ channel_write_number_of ch index (Offer bytes)
  unfolding channel_write_number_of
  as_offer = refl

  hold-passed : (t : ℕ) → (channel_write_of ch index (Hold bytes)).answer ≡ OnHold t → channel_write_number_of ch index (Hold bytes) ≡ 0
  unfolding channel_write_of
  hold-passed t p =
      through-only (λ (r : ChannelResult). r.answer ≡ OnHold t) (channel_write_number_of ch index (Hold bytes)) (refused ch)
      (written_at ch (position_of index ch.stations) (Hold bytes)) (λ k q. let z : ◌≡◌ {A = ℕ} 0 1 = cc in omega arith) p

  -- ---- the channel after the hold

  abbrev o : Which
  o = record_for bytes

  abbrev t : ℕ
  t = slots_for bytes

  abbrev k : ℕ
  k = position_of index ch.stations

  abbrev held : Channel
  held = record { stations = put o (Held t) ch.stations k; wire = ch.wire }

  module _ (z : channel_write_number_of ch index (Hold bytes) ≡ 0) where
    p : Passed ch index bytes
    p = passed-tests ch index bytes z

    inside : k < length ch.stations
    inside = ltb-true k (length ch.stations) p.here

    limits : station_within (station_of ch index) ≡ true
    unfolding records_within
    limits = all-at station_within no_station ch.stations (sound-tests ch.stations ch.wire p.sound).within k inside

    -- the station of the index
    its_place : position_of index held.stations ≡ k
    its_place = position-put o (Held t) index ch.stations k

    its_station : get_or held.stations k no_station ≡ with_record o (station_of ch index) (Held t)
    its_station = get_or-set_same ch.stations k (with_record o (station_of ch index) (Held t)) no_station inside

    its_record : record_in o (station_of held index) ≡ Held t
    its_record =
        ap (λ (i : ℕ). record_in o (get_or held.stations i no_station)) its_place ∙ ap (record_in o) its_station ∙ put_in o (station_of ch index) (Held t)

    still-sound : sound_table held.stations ch.wire ≡ true
    still-sound = sound-put o t ch.stations k p.free ch.wire p.sound (held-within (station_of ch index) bytes limits p.fits)

    commit-number : channel_write_number_of held index (commit_of bytes) ≡ 0
    unfolding channel_write_number_of
    commit-number = by_tests (by_length (length-put o (Held t) ch.stations k) p.some) still-sound (on-put o (Held t) index ch.stations k ∙ p.here) its_record
      where
        by_length : length held.stations ≡ length ch.stations → has_stations ch.stations ≡ true → has_stations held.stations ≡ true
        by_length e h = rw e h

        by_tests : has_stations held.stations ≡ true → sound_table held.stations ch.wire ≡ true → is_on_table held.stations index ≡ true → record_in o (station_of held index) ≡ Held t
            → channel_write_number_of held index (commit_of bytes) ≡ 0
        by_tests a b c d = rw (a, b, c, d)

    commit-answer : (channel_write_of held index (commit_of bytes)).answer ≡ Committed t
    commit-answer = ap (λ (r : ChannelResult). r.answer) (went-through held index (commit_of bytes) commit-number) ∙ ap (λ (c : Condition). Committed (total_of c)) its_record

    -- the record is written twice in the same place
    commit-table : (written_at held (position_of index held.stations) (commit_of bytes)).state ≡ (written_at ch k (Offer bytes)).state
    commit-table =
        ap (λ (i : ℕ). (written_at held i (commit_of bytes)).state) its_place
        ∙ ap (λ (s : Station). made (set held.stations k (with_record o s (Fresh (total_of (record_in o s)))))) its_station
        ∙ ap (λ (c : Condition). made (set held.stations k (with_record o (with_record o (station_of ch index) (Held t)) (Fresh (total_of c))))) (put_in o (station_of ch index) (Held t))
        ∙ ap (λ (s : Station). made (set held.stations k s)) (put-twice o (station_of ch index) (Held t) (Fresh t))
        ∙ ap made (set-set ch.stations k (with_record o (station_of ch index) (Held t)) (with_record o (station_of ch index) (Fresh t)))
      where
        made : List Station → Channel
        made l = record { stations = l; wire = ch.wire }

    commit-state : (channel_write_of held index (commit_of bytes)).state ≡ (channel_write_of ch index (Offer bytes)).state
    commit-state =
        ap (λ (r : ChannelResult). r.state) (went-through held index (commit_of bytes) commit-number)
        ∙ commit-table
        ∙ sym (ap (λ (r : ChannelResult). r.state) (went-through ch index (Offer bytes) (sym as_offer ∙ z)))

    state-held : (channel_write_of ch index (Hold bytes)).state ≡ held
    state-held = ap (λ (r : ChannelResult). r.state) (went-through ch index (Hold bytes) z)

    hold-answer : (channel_write_of ch index (Hold bytes)).answer ≡ OnHold t
    hold-answer = ap (λ (r : ChannelResult). r.answer) (went-through ch index (Hold bytes) z)

    offer-answer : (channel_write_of ch index (Offer bytes)).answer ≡ Taken t
    offer-answer = ap (λ (r : ChannelResult). r.answer) (went-through ch index (Offer bytes) (sym as_offer ∙ z))

    all_three : (u : ℕ) → (channel_write_of ch index (Hold bytes)).answer ≡ OnHold u
        → ((channel_write_of ch index (Offer bytes)).answer ≡ Taken u)
        × ((channel_write_of (channel_write_of ch index (Hold bytes)).state index (commit_of bytes)).answer ≡ Committed u)
        × ((channel_write_of (channel_write_of ch index (Hold bytes)).state index (commit_of bytes)).state ≡ (channel_write_of ch index (Offer bytes)).state)
    all_three u q =
        let e : t ≡ u = cc (hold-answer) in (
          offer-answer ∙ ap Taken e,
          ap (λ (c : Channel). (channel_write_of c index (commit_of bytes)).answer) state-held ∙ commit-answer ∙ ap Committed e,
          ap (λ (c : Channel). (channel_write_of c index (commit_of bytes)).state) state-held ∙ commit-state,
        )

  -- ---- any number

  told-alike : call_told (channel_write_of ch index (Hold bytes)).answer ≡ call_told (channel_write_of ch index (Offer bytes)).answer
  unfolding channel_write_of channel_write_number_of
  told-alike =
      by-ap (λ (r : ChannelResult). call_told r.answer) (channel_write_number_of ch index (Hold bytes)) (refused ch) (written_at ch k (Hold bytes))
      ∙ sym (by-ap (λ (r : ChannelResult). call_told r.answer) (channel_write_number_of ch index (Offer bytes)) (refused ch) (written_at ch k (Offer bytes)))

  refused-alike : (n : ℕ) (v w : Writing) → channel_write_number_of ch index v ≡ channel_write_number_of ch index w → ((written_at ch k v).answer ≡ Refused n → ⊥)
      → (channel_write_of ch index v).answer ≡ Refused n → (channel_write_of ch index w).answer ≡ Refused n
  unfolding channel_write_of
  refused-alike n v w e never q =
      rw (← e) (refused-both (λ (r : ChannelResult). r.answer) (Refused n) (channel_write_number_of ch index v) (refused ch) (written_at ch k v) (written_at ch k w) never q)

pub channel-holds : ChannelHolds
channel-holds =
    record {
      through = λ ch index bytes t p. all_three ch index bytes (hold-passed ch index bytes t p) t p;
      told = told-alike;
      commit-told = λ ch index bytes t p.
          let (offer, commit, state) = all_three ch index bytes (hold-passed ch index bytes t p) t p in
          ap call_told commit ∙ sym (ap call_told offer);
      refused = λ ch index bytes n. (
        refused-alike ch index bytes n (Hold bytes) (Offer bytes) (as_offer ch index bytes) (λ q. let z : ◌≡◌ {A = ℕ} 0 1 = cc in omega arith),
        refused-alike ch index bytes n (Offer bytes) (Hold bytes) (sym (as_offer ch index bytes)) (λ q. let z : ◌≡◌ {A = ℕ} 0 1 = cc in omega arith),
      );
    }

-- A HOLD, THEN ITS COMMIT
pub hold_then_commit : HoldThenCommit
hold_then_commit = record { station = station-holds; channel = channel-holds }
