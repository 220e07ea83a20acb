-- Every call of the channel is the shared table's call: records, wire and answer. That the table is sound is a hypothesis here; proofs/SoundKept
-- discharges it. Assumes nothing.
use mathlib.Core.Path.{◌≡◌, refl, sym, ap, subst, ◌∙◌}
use mathlib.Core.Bool.{Bool, true, false, cond}
use mathlib.Core.List.{List, [], ◌∷◌, map}
use mathlib.Core.Option.{none, some}
use Prim.Native.Nat.{ℕ, suc, ◌+◌, ◌-◌, ◌≤◌, ◌<◌}
use native.Mathlib.Omega.{arith}
use native.Mathlib.Nat.{zero-add}
use lib.Dec.{eqb, ltb}
use lib.ListN.{length, get_or, set, take, length-set, length-map}
use borrow.Author.Tests.{eqb-true, le-leb, ltb-true}
use Rattle.minislot.specs.declared.Minislot.{Minislot}
use Rattle.minislot.specs.declared.Feedback.{Feedback}
use Rattle.minislot.specs.declared.Reading.TheVariants.{Heard}
use Rattle.rows.specs.Row.{readings, first_number, feedbacks}
use Rattle.rules.specs.declared.Station.{Station}
use Rattle.rules.specs.declared.StationSlot.{StationSlot}
use Rattle.rules.specs.declared.WireRow.{WireRow}
use Rattle.std.specs.List.{list_all}
use Rattle.rules.specs.Calendars.{owner_of}
use Rattle.rules.specs.Limits.{between}
use Rattle.rules.specs.Hearing.{words_of, counts_of}
use Rattle.rules.specs.Queueing.{places_after, passes, step_one_of}
use Rattle.rules.specs.Turns.{turn_of}
use Rattle.rules.specs.StationLimits.{short_within, long_within, station_within}
use Rattle.rules.specs.OwnHearing.{hears_itself}
use Rattle.rules.specs.Refusing.{unless, by_number}
use Rattle.rules.specs.StationCalls.{no_station}
use Rattle.rules.specs.declared.Writing.{Writing}
use Rattle.rules.specs.Writing.{writing_number_of}
use Rattle.rules.specs.Messages.{short_record, long_record}
use Rattle.channel_rules.specs.Soundness.{table_counters, records_within, position_of, sound_table}
use Rattle.channel_rules.specs.ChannelCalls.{Channel, ChannelResult, blank_row, has_stations, refused, station_of, written_at, channel_write_number_of, channel_write_of, heard_row, feedback_heard, slots_of, slots_heard, outcome_heard, new_row, data_sent, sent_of, delivered_now, slot_answer, slot_through, channel_slot_number_of, channel_slot_of, channel_call}
use Rattle.rules.specs.Calls.{Start, index, Call, Write, Slot, Calendar}
use Rattle.rules.specs.Plain.{Plain, plain_owner, plain_settled, station_from, in_range}
use Rattle.rules.proofs.QueueingLaws.{fits-cond}
use Rattle.rules.proofs.Views.{Sender, eqb_self}
use Rattle.rules.proofs.Clauses.{asks, heeded, serves, owned_or}
use Rattle.rules.proofs.Records.{holder}
use Rattle.rules.proofs.Parting.{apart-parted, settle-parted, fresh-settled}
use Rattle.rules.proofs.RecordKinds.{fits-short, fits-long, one-sends, fresh-silent}
use Rattle.rules.proofs.Shared.{Table, gather, pair_of, records, index_of, asked_sender, asked_pair, table_held, sender_if, table_refuse, table_write, table_row, table_places, table_success, table_owner, table_went, table_sends, table_answer, table_slot, table_settled, table_call, table_condition}
use Rattle.rules.proofs.Relation.{Same}
use Rattle.rules.proofs.ServeViews.{asks-fits}
use Rattle.rules.proofs.SlotStep.{and_both, went-cong, owner_eq, settled_eq, turn_eq, segments_sent, settled-fits, senders_eq, stands-inside}
use Rattle.rules.proofs.CallStep.{picks_ok}
use Rattle.channel_rules.proofs.Requested.{wire-here, wire-far}
use Rattle.rules.proofs.WireRows.{AsksOnce, minislot_row, length-row, take_row, pair-cong, row-cong, row_reads, heard-number, heard-feedbacks}
use Rattle.rules.proofs.OwnHears.{hears-row}
use Rattle.rules.proofs.Walking.{IsStation, AreStations, Steady, get_set, table_queued, table_settled_by, table_request, queued-is, owner-is, success_is, slot-passes}
use Rattle.channel_rules.proofs.EmbodySlot.{as_data, senders_in, Through, AllThrough, walk_are, data_are, row_are}
use Rattle.channel_rules.proofs.Gathering.{slots_length}
use Rattle.channel_rules.proofs.SoundTests.{sound-tests}
use Rattle.channel_rules.proofs.Embody.{Embodies, Embodied, GoodStart, fits-placed, asks-once, position_in, position-map, position_eq, picks-same, one-served, both, names_are, feedback_is, station-at, same_length}
use Rattle.channel_rules.proofs.EmbodyWrites.{write-at}
use Rattle.channel_rules.proofs.EmbodyCalendars.{TellsOf, tells-of, owner-station, as_plain, calendar-call}
use Rattle.rules.specs.Outcome.{successes, outcome_by, outcome_of}

module _ (S : Start) (G : GoodStart S) (p : Plain) (t : Table) (R : Same S p t) (ch : Channel) (E : Embodies S t ch) (sound : sound_table ch.stations ch.wire ≡ true) where
  K : ℕ
  K = length S.indexes

  gl : 1 ≤ t.next
  gl = rw R.next R.low

  gh : t.next ≤ 8
  gh = omega (arith, R.next, R.high, G.n-high)

  is-first : IsStation S t 0 (get_or ch.stations 0 no_station)
  is-first = station-at S t 0 ch.stations E.stations 0 (omega (arith, (same_length S t ch E), G.some))

  here : has_stations ch.stations ≡ true
  here = rw (le-leb 1 (length ch.stations) (omega (arith, (same_length S t ch E), G.some)), le-leb (length ch.stations) 64 (omega (arith, (same_length S t ch E), G.few)))

  within_all : list_all station_within ch.stations ≡ true
  unfolding records_within
  within_all = (sound-tests ch.stations ch.wire sound).within

  -- ---- the row heard

  once : (j k : ℕ) → AsksOnce (index_of S) (index S k) (asked_pair t.next t.condition j k)
  once j k = asks-once S p t R t.next j k

  abbrev wire_row : List Minislot
  wire_row = minislot_row (index_of S) (length S.indexes) (asked_pair t.next t.condition) S.m 1

  heard-row : heard_row ch ≡ wire_row
  unfolding heard_row
  heard-row =
      ap (λ (n : ℕ). take n (get_or ch.wire ((table_counters ch.stations).next - 1) blank_row).minislots) is-first.minislots
      ∙ ap (λ (g : ℕ). take S.m (get_or ch.wire (g - 1) blank_row).minislots) is-first.next
      ∙ ap (λ (r : WireRow). take S.m r.minislots) (E.wire t.next gl gh)
      ∙ take_row (index_of S) (length S.indexes) (asked_pair t.next t.condition) S.m 8 1 G.m-high

  row_read : readings (words_of wire_row) (counts_of wire_row) ≡ map Heard (table_row S t)
  row_read =
      row_reads (index S) (index_of S) (length S.indexes) G.indexes (asked_pair t.next t.condition) once S.m 1
      ∙ ap (map Heard) (feedback_is (index S) (index_of S) (length S.indexes) G.indexes t.condition t.next once S.m 1)

  row-feedbacks : feedbacks (readings (words_of wire_row) (counts_of wire_row)) ≡ table_row S t
  row-feedbacks = ap feedbacks row_read ∙ heard-feedbacks (table_row S t)

  row_number : first_number (readings (words_of wire_row) (counts_of wire_row)) ≡ 0
  row_number = ap first_number row_read ∙ heard-number (table_row S t)

  -- the lengths once the row is counted
  pub counted : places_after (table_counters ch.stations) (feedbacks (readings (words_of (heard_row ch)) (counts_of (heard_row ch)))) ≡ table_settled S t
  counted =
      rw heard-row (ap (places_after (table_counters ch.stations)) row-feedbacks)
      ∙ queued-is S t gl gh (table_row S t) 0 (get_or ch.stations 0 no_station) is-first

  -- the coming slot's owner
  pub owner-counted : owner_of (table_counters ch.stations) ≡ table_owner t
  owner-counted = owner-is S t gl gh (table_row S t) 0 (get_or ch.stations 0 no_station) is-first

  -- ---- each station hears itself as it must

  hears-own : (k : ℕ) (s : Station) → k < length S.indexes → IsStation S t k s → hears_itself s (words_of wire_row) (table_row S t) ≡ true
  unfolding hears_itself
  hears-own k s h a =
      rw (a.index, a.next, a.short, a.long) (hears-row (index S) (length S.indexes) k G.indexes h t.condition R.outside (R.apart k) t.next S.m 1 (omega arith))

  pub own-heard : (k : ℕ) (s : Station) → k < length S.indexes → IsStation S t k s
      → hears_itself s (words_of (heard_row ch)) (feedbacks (readings (words_of (heard_row ch)) (counts_of (heard_row ch)))) ≡ true
  own-heard k s h a = rw heard-row (ap (hears_itself s (words_of wire_row)) row-feedbacks ∙ hears-own k s h a)

  -- ---- each station's slot goes through

  module _ (pick : ℕ → ℕ) (jl : (k : ℕ) → 1 ≤ pick k) (jh : (k : ℕ) → pick k ≤ S.m) (e7 : passes (table_settled S t) ≡ false) where
    station-through : (k : ℕ) (s : Station) → k < length S.indexes → IsStation S t k s → station_within s ≡ true → Through S t (words_of wire_row) (counts_of wire_row) (table_row S t) pick k s
    unfolding hears_itself
    station-through k s h a w =
        record {
          slot =
              slot-passes s (words_of wire_row) (counts_of wire_row) (table_row S t) (pick k) w
              (rw (a.minislots, length-map wire_row (λ (x : Minislot). x.word), length-map wire_row (λ (x : Minislot). x.count), row-length, eqb_self S.m))
              (rw (a.minislots, le-leb 1 (pick k) (jl k), le-leb (pick k) S.m (jh k)))
              row_number row-feedbacks
              (rw (queued-is S t gl gh (table_row S t) k s a) e7)
              (hears-own k s h a);
          parted =
              settle-parted (table_success t (table_row S t)) t.next (table_row S t) (table_places t) (t.condition (short_record k)) (t.condition (long_record k))
              (stands-inside S p t R t.next (short_record k)) (stands-inside S p t R t.next (long_record k))
              (apart-parted (t.condition (short_record k)) (t.condition (long_record k)) (R.apart k));
          lone = one-sends (table_owner t) (table_settled S t).urgent (table_settled S t).long (table_settled S t).resolution (table_settled_by t (table_row S t) (short_record k)) (table_settled_by t (table_row S t) (long_record k)) brief lengthy;
          held = λ e.
              fresh-silent (table_owner t) (table_settled S t).urgent (table_settled S t).long (table_settled S t).resolution (table_settled_by t (table_row S t) (long_record k)) lengthy
              (fresh-settled (table_success t (table_row S t)) t.next (table_row S t) (table_places t) (t.condition (long_record k)) ∙ e);
        }
      where
        brief : short_within (table_settled_by t (table_row S t) (short_record k)) ≡ true
        brief = fits-short S (R.message (short_record k)) k (table_settled_by t (table_row S t) (short_record k)) (R.agrees (short_record k)).mine (settled-fits S pick jl jh p t R (short_record k))

        lengthy : long_within (table_settled_by t (table_row S t) (long_record k)) ≡ true
        lengthy =
            fits-long S (R.message (long_record k)) k (table_settled_by t (table_row S t) (long_record k)) (R.agrees (long_record k)).mine (R.agrees (long_record k)).some
            (settled-fits S pick jl jh p t R (long_record k))

        row-length : length (minislot_row (index_of S) (length S.indexes) (asked_pair t.next t.condition) S.m 1) ≡ S.m
        row-length = length-row (index_of S) (length S.indexes) (asked_pair t.next t.condition) S.m 1

    -- every place counts from 1, all along
    steady : Steady t (table_row S t) pick
    steady =
        record {
          before = λ r. fits-placed S (R.message r) (t.condition r) (R.agrees r).fits;
          settled = λ r. fits-placed S (R.message r) (table_settled_by t (table_row S t) r) (settled-fits S pick jl jh p t R r);
          asked = λ r b.
              fits-placed S (R.message r) (asks b (table_queued t (table_row S t)).resolution t.next (pick (holder r)) (table_settled_by t (table_row S t) r))
              (asks-fits S t.next (pick (holder r)) (R.message r) gl (omega (arith, R.next, R.high)) (jl (holder r)) (jh (holder r)) b (table_queued t (table_row S t)).resolution (table_settled_by t (table_row S t) r)
              (settled-fits S pick jl jh p t R r));
        }

    all-through : (j : ℕ) (l : List Station) → j + length l ≤ length S.indexes → AreStations S t j l → list_all station_within l ≡ true
        → AllThrough S t gl gh (words_of wire_row) (counts_of wire_row) (table_row S t) pick jl steady j l
    all-through j [] h a w = tt
    all-through j (s ∷ l) h a w =
        let (x, y) = and_both (station_within s) (list_all station_within l) w in
        (station-through j s (omega arith) a.0 x, all-through (suc j) l (omega arith) a.1 y)

    -- ---- the slot

    module _ (picks : List ℕ) (el : length picks ≡ length ch.stations) (ep : (i : ℕ) → i < length picks → get_or picks i 1 ≡ pick (0 + i)) where
      abbrev results : List StationSlot
      results = slots_of (words_of wire_row) (counts_of wire_row) ch.stations picks

      through : AllThrough S t gl gh (words_of wire_row) (counts_of wire_row) (table_row S t) pick jl steady 0 ch.stations
      through = all-through 0 ch.stations (omega (arith, (same_length S t ch E))) E.stations within_all

      after_are : AreStations S (table_went S pick t (table_row S t) (table_success t (table_row S t)) (table_settled S t)) 0 (map (λ (r : StationSlot). r.station) results)
      after_are = walk_are S t gl gh (words_of wire_row) (counts_of wire_row) (table_row S t) pick jl steady 0 ch.stations picks el ep E.stations through

      after_names : map (λ (s : Station). s.index) (map (λ (r : StationSlot). r.station) results) ≡ S.indexes
      after_names =
          names_are S (table_went S pick t (table_row S t) (table_success t (table_row S t)) (table_settled S t)) 0 (map (λ (r : StationSlot). r.station) results) S.indexes after_are
          (length-map results (λ (r : StationSlot). r.station) ∙ slots_length (words_of wire_row) (counts_of wire_row) ch.stations picks el ∙ (same_length S t ch E))
          (λ i w. ap (index S) (sym (zero-add i)))

      new-row : new_row results 8 1
          ≡ minislot_row (index_of S) (length S.indexes) (λ i. pair_of (table_request t (table_row S t) pick i)) 8 1
      new-row = row_are S t gl gh (words_of wire_row) (counts_of wire_row) (table_row S t) pick jl steady ch.stations picks el ep E.stations through 8 1 (omega arith) ∙ rw (same_length S t ch E)

      after-wire : (g : ℕ) → 1 ≤ g → g ≤ 8
          → get_or (set ch.wire ((table_counters ch.stations).next - 1) (record { minislots = new_row results 8 1 })) (g - 1) blank_row
          ≡ record { minislots = minislot_row (index_of S) (length S.indexes) (asked_pair g (table_condition pick t (table_row S t) (table_success t (table_row S t)) (table_settled S t))) 8 1 }
      after-wire g lo hi =
          rw (is-first.next, new-row) (get_set ch.wire t.next g _ blank_row gl lo (omega (arith, E.groups)) ∙ go (eqb g t.next) refl)
        where
          here-at : (j r : ℕ) → asked_sender t.next j r (table_condition pick t (table_row S t) (table_success t (table_row S t)) (table_settled S t) r) ≡ table_request t (table_row S t) pick j r
          here-at j r =
              wire-here (table_success t (table_row S t)) t.next (table_row S t) (table_places t) (table_held t r) (heeded (table_owner t) (table_settled S t).urgent) (heeded (table_owner t) (table_settled S t).long)
              (table_settled S t).resolution (pick (holder r)) j r (t.condition r)

          far_at : eqb g t.next ≡ false → (j r : ℕ) → asked_sender g j r (table_condition pick t (table_row S t) (table_success t (table_row S t)) (table_settled S t) r) ≡ asked_sender g j r (t.condition r)
          far_at e j r =
              wire-far (table_success t (table_row S t)) t.next (table_row S t) (table_places t) (table_held t r) (heeded (table_owner t) (table_settled S t).urgent) (heeded (table_owner t) (table_settled S t).long)
              (table_settled S t).resolution (pick (holder r)) j r (t.condition r) g e

          go : (x : Bool) → eqb g t.next ≡ x
              → cond x (record { minislots = minislot_row (index_of S) (length S.indexes) (λ i. pair_of (table_request t (table_row S t) pick i)) 8 1 })
              (get_or ch.wire (g - 1) blank_row)
              ≡ record { minislots = minislot_row (index_of S) (length S.indexes) (asked_pair g (table_condition pick t (table_row S t) (table_success t (table_row S t)) (table_settled S t))) 8 1 }
          go true e =
              rw (eqb-true g t.next e)
              (ap (λ (l : List Minislot). record { minislots = l })
              (row-cong (index_of S) (length S.indexes) _ _ (λ j k. pair-cong (λ r. sym (here-at j r)) k) 8 1))
          go false e =
              E.wire g lo hi
              ∙ ap (λ (l : List Minislot). record { minislots = l })
              (row-cong (index_of S) (length S.indexes) _ _ (λ j k. pair-cong (λ r. sym (far_at e j r)) k) 8 1)

      abbrev senders : List Sender
      senders = gather (λ k. sender_if k (table_sends t (table_row S t) (table_success t (table_row S t)) (table_settled S t) k)) (records S)

      data_senders : data_sent results
          ≡ map (as_data (index_of S))
          (gather (senders_in (table_owner t) S (table_sends t (table_row S t) (table_success t (table_row S t)) (table_settled S t))) (length S.indexes))
      data_senders = data_are S t gl gh (words_of wire_row) (counts_of wire_row) (table_row S t) pick jl steady 0 ch.stations picks el ep E.stations through ∙ rw (same_length S t ch E)

      tells : TellsOf (table_owner t) S (table_sends t (table_row S t) (table_success t (table_row S t)) (table_settled S t)) (data_sent results)
      tells =
          tells-of (table_owner t) S G.indexes (owner-station S p t R)
          (table_sends t (table_row S t) (table_success t (table_row S t)) (table_settled S t)) (data_sent results) data_senders

      delivered : delivered_now (turn_of (table_owner t) (table_settled S t)) (owned_or (table_owner t) (λ i. 1) (length senders))
          ≡ serves (heeded (table_owner t) (table_settled S t).urgent) (heeded (table_owner t) (table_settled S t).long)
      delivered =
          ap (λ (n : ℕ). delivered_now (turn_of (table_owner t) (table_settled S t)) (owned_or (table_owner t) (λ i. 1) n)) (sym (senders_eq S pick jl jh p t R))
          ∙ rw (
            settled_eq S p t R,
            owner_eq S p t R,
            turn_eq (plain_owner p) (plain_settled p).urgent (plain_settled p).long (plain_settled p).resolution,
            as_plain (plain_owner p) (segments_sent p),
          )
          (one-served (plain_owner p) (plain_settled p).urgent (plain_settled p).long (plain_settled p).resolution p.fresh)

      answer-is : slot_answer (outcome_of (table_counters ch.stations) (table_row S t)) (sent_of results) ≡ table_answer S t (table_row S t) (table_success t (table_row S t)) (table_settled S t)
      unfolding outcome_by step_one_of
      answer-is =
          went-cong (rw (queued, owner-counted)) tells.number tells.index tells.segment
          (rw (success_is S t gl gh (table_row S t) 0 (get_or ch.stations 0 no_station) is-first, queued, owner-counted, tells.number)
          (ap (λ (n : ℕ). successes (table_success t (table_row S t)) (table_row S t) + n) delivered))
        where
          queued : places_after (table_counters ch.stations) (table_row S t) ≡ table_settled S t
          queued = queued-is S t gl gh (table_row S t) 0 (get_or ch.stations 0 no_station) is-first

      slot-embodied : Embodied S (table_slot S pick t (table_row S t) (table_success t (table_row S t)) (table_settled S t)) (slot_through ch (outcome_of (table_counters ch.stations) (table_row S t)) results)
      unfolding outcome_by
      slot-embodied =
          record {
            state = record { stations = after_are; indexes = after_names; wire = after-wire; groups = length-set ch.wire ((table_counters ch.stations).next - 1) _ ∙ E.groups };
            answer = answer-is;
          }

  -- ---- every call

  stay-put : (n : ℕ) → Embodied S (table_refuse t n) (refused ch n)
  stay-put n = record { state = E; answer = refl }

  -- a slot whose row is this one: 7, or what goes through
  abbrev heard_by : List Minislot → List ℕ → ChannelResult
  heard_by w picks =
      let row = feedbacks (readings (words_of w) (counts_of w)) in
      cond (passes (places_after (table_counters ch.stations) row)) (refused ch 7)
      (slot_through ch (outcome_of (table_counters ch.stations) row) (slots_of (words_of w) (counts_of w) ch.stations picks))

  -- the channel's tests, one after the other
  in_order : (picks : List ℕ)
      → channel_slot_of ch picks
      ≡ cond (eqb (length picks) (length ch.stations))
      (cond (list_all (λ (pick : ℕ). between 1 pick (table_counters ch.stations).minislots) picks) (heard_by (heard_row ch) picks) (refused ch 11))
      (refused ch 17)
  unfolding channel_slot_of channel_slot_number_of
  in_order picks =
      rw (here, sound)
      (go (eqb (length picks) (length ch.stations)) (list_all (λ (pick : ℕ). between 1 pick (table_counters ch.stations).minislots) picks)
      (step_one_of (table_counters ch.stations) (feedback_heard ch)).fits (slot_through ch (outcome_heard ch) (slots_heard ch picks))
      ∙ ap (λ (r : ChannelResult).
      cond (eqb (length picks) (length ch.stations))
      (cond (list_all (λ (pick : ℕ). between 1 pick (table_counters ch.stations).minislots) picks) r (refused ch 11))
      (refused ch 17))
      (fits-cond (table_counters ch.stations) (feedback_heard ch) _ _))
    where
      go : (a b c : Bool) (x : ChannelResult)
          → by_number (unless a 17 (unless b 11 (unless c 7 0))) (refused ch) x ≡ cond a (cond b (cond c x (refused ch 7)) (refused ch 11)) (refused ch 17)
      go true true true x = refl
      go true true false x = refl
      go true false c x = refl
      go false b c x = refl

  slot-call : (picks : List ℕ) → Embodied S (table_call S t (Slot picks)) (channel_slot_of ch picks)
  slot-call picks =
      subst (Embodied S (table_call S t (Slot picks))) (sym (in_order picks))
      (both S (eqb (length picks) (length S.indexes)) (eqb (length picks) (length ch.stations)) _ _ _ _ (ap (eqb (length picks)) (sym (same_length S t ch E)))
      (λ a. both S (in_range S.m picks) (list_all (λ (pick : ℕ). between 1 pick (table_counters ch.stations).minislots) picks) _ _ _ _
      (rw is-first.minislots (sym (picks-same S.m picks)))
      (λ b. goes picks (eqb-true (length picks) (length S.indexes) a ∙ sym (same_length S t ch E)) b)
      (λ b. stay-put 11))
      (λ a. stay-put 17))
    where
      goes : (picks : List ℕ) → length picks ≡ length ch.stations → in_range S.m picks ≡ true
          → Embodied S (cond (passes (table_settled S t)) (table_refuse t 7) (table_slot S (λ k. get_or picks k 1) t (table_row S t) (table_success t (table_row S t)) (table_settled S t))) (heard_by (heard_row ch) picks)
      goes picks el er =
          subst (λ (w : List Minislot). Embodied S (cond (passes (table_settled S t)) (table_refuse t 7) (table_slot S (λ k. get_or picks k 1) t (table_row S t) (table_success t (table_row S t)) (table_settled S t))) (heard_by w picks))
          (sym heard-row)
          (subst (λ (row : List Feedback). Embodied S (cond (passes (table_settled S t)) (table_refuse t 7) (table_slot S (λ k. get_or picks k 1) t (table_row S t) (table_success t (table_row S t)) (table_settled S t)))
          (cond (passes (places_after (table_counters ch.stations) row)) (refused ch 7) (slot_through ch (outcome_of (table_counters ch.stations) row) (slots_of (words_of wire_row) (counts_of wire_row) ch.stations picks))))
          (sym row-feedbacks)
          (both S (passes (table_settled S t)) (passes (places_after (table_counters ch.stations) (table_row S t))) _ _ _ _
          (ap passes (sym (queued-is S t gl gh (table_row S t) 0 (get_or ch.stations 0 no_station) is-first)))
          (λ c. stay-put 7)
          (λ c. slot-embodied (λ k. get_or picks k 1) (λ k. (picks_ok S.m (omega (arith, G.m-low)) picks er k).0) (λ k. (picks_ok S.m (omega (arith, G.m-low)) picks er k).1) c picks el
          (λ i h. ap (λ (x : ℕ). get_or picks x 1) (sym (zero-add i))))))

  write-call : (x : ℕ) (w : Writing) → Embodied S (table_call S t (Write x w)) (channel_write_of ch x w)
  unfolding channel_write_of channel_write_number_of
  write-call x w =
      rw (here, sound, found)
      (go (ltb (position_of x ch.stations) (length ch.stations)) refl)
    where
      in_names : (l : List Station)
          → cond (ltb (position_in x (map (λ (s : Station). s.index) l)) (length (map (λ (s : Station). s.index) l))) (some (0 + position_in x (map (λ (s : Station). s.index) l))) none
          ≡ cond (ltb (position_of x l) (length l)) (some (position_of x l)) none
      in_names l = rw (← (position-map x l), length-map l (λ (s : Station). s.index), zero-add (position_of x l))

      found : station_from 0 S.indexes x ≡ cond (ltb (position_of x ch.stations) (length ch.stations)) (some (position_of x ch.stations)) none
      found =
          position_eq x S.indexes 0 ∙ ap (λ (l : List ℕ). cond (ltb (position_in x l) (length l)) (some (0 + position_in x l)) none) (sym E.indexes) ∙ in_names ch.stations

      go : (b : Bool) → ltb (position_of x ch.stations) (length ch.stations) ≡ b
          → Embodied S (table_write t w (cond b (some (position_of x ch.stations)) none))
          (by_number (unless b 16 (writing_number_of (station_of ch x) w)) (refused ch) (written_at ch (position_of x ch.stations) w))
      go true e = write-at S t ch E (position_of x ch.stations) (ltb-true (position_of x ch.stations) (length ch.stations) e) w
      go false e = stay-put 16

  pub call-embodied : (c : Call) → Embodied S (table_call S t c) (channel_call ch c)
  call-embodied (Write x w) = write-call x w
  call-embodied (Slot picks) = slot-call picks
  call-embodied (Calendar entries) = calendar-call S t ch E entries here sound
