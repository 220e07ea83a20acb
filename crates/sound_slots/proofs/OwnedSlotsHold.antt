-- An owned slot of a sound table has one sender, its owner: every station's slot goes through by the shared counters (ChannelLaws), so its turn names the owner
-- and it sends no segment; who sends is then the stations of that index, and that is one, since indexes are distinct and every owner is on the table.
-- Assumes nothing.
use mathlib.Core.Path.{◌≡◌, refl, sym, ap, ◌∙◌}
use mathlib.Core.Bool.{Bool, true, false, ◌&&◌, cond}
use mathlib.Core.List.{List, [], ◌∷◌, ◌++◌}
use Prim.Native.Nat.{ℕ, zero, suc, ◌+◌, ◌<◌}
use native.Mathlib.Omega.{arith}
use lib.Dec.{eqb}
use lib.ListN.{length, get_or}
use borrow.Author.Tests.{eqb-true, eqb-false, ne_eqb}
use Rattle.rules.specs.declared.Outcome.{Outcome}
use Rattle.rules.specs.declared.Station.{Station}
use Rattle.rules.specs.declared.StationSlot.{StationSlot}
use Rattle.rules.specs.declared.Condition.{Condition}
use Rattle.rules.specs.declared.Turn.{Turn}
use Rattle.rules.specs.declared.Turn.TheVariants.{Owned as OwnedTurn}
use Rattle.std.specs.List.{list_all, flat_map}
use Rattle.listlaws.specs.Lists.{each_pair, only_if}
use Rattle.rules.specs.Limits.{between}
use Rattle.rules.specs.Hearing.{words_of, counts_of}
use Rattle.rules.specs.Turns.{turn_of}
use Rattle.rules.specs.Serving.{sends}
use Rattle.rules.specs.Outcome.{outcome_by, outcome_of}
use Rattle.rules.specs.Stepping.{is_fresh, stays, acts_of, acts_beside, step_of}
use Rattle.rules.specs.StationCalls.{slot_of}
use Rattle.channel_rules.specs.Soundness.{other_index, indexes_distinct, table_counters, sound_table}
use Rattle.channel_rules.specs.SoundMeaning.{station_at}
use Rattle.channel_rules.specs.ChannelCalls.{Channel, DataSent, heard_row, feedback_heard, slots_of, slots_heard, data_in, data_sent, lone_index, lone_segment, delivered_now, channel_slot_of}
use Rattle.rules.proofs.SlotStep.{and_both}
use Rattle.rules.proofs.LimitLaws.{calendar-in}
use Rattle.rules.proofs.QueueingLaws.{fits-says}
use Rattle.channel_rules.proofs.SoundTests.{sound-tests}
use Rattle.channel_rules.proofs.SoundMeans.{not_eq, all-at, sound-says}
use Rattle.sound_slots.specs.OwnedSlots.{segment_of, OwnedSlotsHold}
use Rattle.sound_slots.proofs.ChannelLaws.{limits, station-goes}
use Rattle.sound_slots.proofs.Passing.{some-stations, slot-passed}

-- the stream of the stations with an index
abbrev stream_of : ℕ → Station → List DataSent
stream_of x s = only_if (eqb s.index x) (record { index = s.index; segment = 0 } ∷ [])

-- ---- just one station has the owner's index

no_other : (x : ℕ) (s : Station) (l : List Station) → s.index ≡ x → list_all (other_index s) l ≡ true → flat_map (stream_of x) l ≡ []
no_other x s [] q e = refl
no_other x s (y ∷ l) q e =
    let (here, rest) = and_both (other_index s y) (list_all (other_index s) l) e in
    rw (ne_eqb y.index x (λ w. not_eq s.index y.index here (q ∙ sym w))) (no_other x s l q rest)

one-stream : (x : ℕ) (l : List Station) → each_pair other_index l ≡ true → (k : ℕ) → k < length l → (station_at l k).index ≡ x
    → flat_map (stream_of x) l ≡ record { index = x; segment = 0 } ∷ []
one-stream x [] e k h q = absurd (omega arith)
one-stream x (s ∷ l) e k h q =
    let (first, rest) = and_both (list_all (other_index s) l) (each_pair other_index l) e in
    go first (one-stream x l rest) (eqb s.index x) refl k h q
  where
    go : list_all (other_index s) l ≡ true → ((k : ℕ) → k < length l → (station_at l k).index ≡ x → flat_map (stream_of x) l ≡ record { index = x; segment = 0 } ∷ []) → (b : Bool) → eqb s.index x ≡ b
        → (k : ℕ) → k < suc (length l) → (station_at (s ∷ l) k).index ≡ x → only_if b (record { index = s.index; segment = 0 } ∷ []) ++ flat_map (stream_of x) l ≡ record { index = x; segment = 0 } ∷ []
    go first ih true w k h q = let z : s.index ≡ x = eqb-true s.index x w in rw (no_other x s l z first, z)
    go first ih false w zero h q = absurd (eqb-false s.index x w q)
    go first ih false w (suc k) h q = ih k (omega arith) q

-- ---- a station's step in an owned slot

module _ (o : Outcome) (x : ℕ) (owned : o.turn ≡ OwnedTurn x) where
  -- neither record sends a segment
  short-silent : (k : Condition) (pick : ℕ) → (acts_of o k pick).segment ≡ 0
  unfolding acts_of sends
  short-silent k pick = rw owned

  long-silent : (a b : Condition) (pick : ℕ) → (acts_beside o a b pick).segment ≡ 0
  unfolding acts_beside
  long-silent a b pick = go (is_fresh a && is_fresh b)
    where
      go : (x : Bool) → (cond x (stays b) (acts_of o b pick)).segment ≡ 0
      go true = refl
      go false = short-silent b pick

  step_data : (s : Station) (pick : ℕ) → data_in (step_of o s pick) (step_of o s pick).answer ≡ stream_of x s
  unfolding step_of
  step_data s pick = rw (short-silent s.short.condition pick, long-silent s.short.condition s.long.condition pick, owned)

  step-segment : (s : Station) (pick : ℕ) → segment_of (step_of o s pick).answer ≡ 0
  unfolding step_of
  step-segment s pick = rw (short-silent s.short.condition pick) (long-silent s.short.condition s.long.condition pick)

  -- all stations' slots are such steps
  module _ (words counts : List ℕ) (m : ℕ) where
    sent-streams : (l : List Station) (picks : List ℕ) → length picks ≡ length l → list_all (λ (pick : ℕ). between 1 pick m) picks ≡ true
        → ((k : ℕ) → k < length l → (pick : ℕ) → between 1 pick m ≡ true → slot_of (station_at l k) words counts pick ≡ step_of o (station_at l k) pick)
        → data_sent (slots_of words counts l picks) ≡ flat_map (stream_of x) l
    sent-streams [] picks e w goes = refl
    sent-streams (s ∷ l) [] e w goes = absurd (omega arith)
    sent-streams (s ∷ l) (pick ∷ picks) e w goes =
        let (here, rest) = and_both (between 1 pick m) (list_all (λ (pick : ℕ). between 1 pick m) picks) w in
        ap (λ (r : StationSlot). data_in r r.answer ++ data_sent (slots_of words counts l picks)) (goes zero (omega arith) pick here)
        ∙ rw (step_data s pick, sent-streams l picks (omega arith) rest (λ k h. goes (suc k) (omega arith)))

-- ---- THE SLOT

distinct_test : (ch : Channel) → sound_table ch.stations ch.wire ≡ true → each_pair other_index ch.stations ≡ true
unfolding indexes_distinct
distinct_test ch e18 = (sound-tests ch.stations ch.wire e18).distinct

pub owned-slots : OwnedSlotsHold
unfolding channel_slot_of outcome_by turn_of
owned-slots ch picks x e turn n i s d went =
    let c = table_counters ch.stations in
    let passed = slot-passed ch picks turn n i s d went in
    let some = some-stations ch.stations passed.stations in
    let is = sound-says ch.stations ch.wire passed.sound in
    let cal = calendar-in c (limits ch.stations ch.wire some passed.sound).calendar in
    let has = is.owners c.position x (omega (arith, cal.position)) e in
    let long = passed.picked in
    let goes = station-goes ch.stations ch.wire some passed.sound (fits-says c (feedback_heard ch) passed.fits) in
    let named : (outcome_of c (feedback_heard ch)).turn ≡ OwnedTurn x = rw e in
    let streams =
    sent-streams (outcome_of c (feedback_heard ch)) x named (words_of (heard_row ch)) (counts_of (heard_row ch)) c.minislots ch.stations picks long passed.within goes
    ∙ one-stream x ch.stations (distinct_test ch passed.sound) has.which has.there has.named in
    let told = rw passed.number at went in
    record {
      named = (let z : (outcome_of c (feedback_heard ch)).turn ≡ turn = cc in sym z) ∙ named;
      alone = (let z : length (data_sent (slots_heard ch picks)) ≡ n = cc in sym z) ∙ ap length streams;
      owner = (let z : lone_index (data_sent (slots_heard ch picks)) ≡ i = cc in sym z) ∙ ap lone_index streams;
      stream = (let z : lone_segment (data_sent (slots_heard ch picks)) ≡ s = cc in sym z) ∙ ap lone_segment streams;
      no-message = λ k h.
          ap (λ (r : StationSlot). segment_of r.answer) (goes k h (get_or picks k 0) (all-at (λ (pick : ℕ). between 1 pick c.minislots) 0 picks passed.within k (omega arith)))
          ∙ step-segment (outcome_of c (feedback_heard ch)) x named (station_at ch.stations k) (get_or picks k 0);
      row-only =
          (let z : (outcome_of c (feedback_heard ch)).delivered + delivered_now (outcome_of c (feedback_heard ch)).turn (length (data_sent (slots_heard ch picks))) ≡ d = cc in sym z)
          ∙ ap (λ (t : Turn). (outcome_of c (feedback_heard ch)).delivered + delivered_now t (length (data_sent (slots_heard ch picks)))) named
          ∙ omega arith;
    }
