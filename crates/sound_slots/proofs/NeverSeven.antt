-- A channel's slot never answers 7. On a sound table each place of a queue is a station's: H is at most the number of stations, N at most 255 slots for each of
-- them, and each RQ at most their number, since both records of each may wait there (specs/Room). The row heard has at most 8 minislots, and a Single there is
-- one asked station's own total, at most 255: H grows by at most 8, N by 2,040 and RQ by 8. So with 64 stations H is at most 72 after step 1, N 18,360 and RQ
-- 72. Assumes nothing.
use mathlib.Core.Path.{◌≡◌, refl, ap}
use mathlib.Core.Bool.{Bool, true, false, cond, ◌&&◌, ◌||◌, true≢false}
use mathlib.Core.List.{List, [], ◌∷◌, ◌++◌}
use mathlib.Core.Logic.{◌≢◌}
use Prim.Native.Nat.{ℕ, zero, suc, ◌+◌, ◌*◌, ◌≤◌, ◌<◌}
use native.Mathlib.Omega.{arith}
use lib.Dec.{eqb}
use lib.ListN.{length, length-append}
use borrow.Author.Tests.{eqb-true, eqb-false, le-ltb}
use Rattle.minislot.specs.declared.Feedback.{Feedback}
use Rattle.rules.specs.declared.Counters.{Counters}
use Rattle.rules.specs.declared.Station.{Station}
use Rattle.rules.specs.declared.TableMessage.{TableMessage}
use Rattle.rules.specs.declared.WireRow.{WireRow}
use Rattle.std.specs.List.{list_all, flat_map}
use Rattle.listlaws.specs.Lists.{each_pair, sum_of, only_if}
use Rattle.rules.specs.Limits.{between, urgent_limit, long_limit, resolution_limit}
use Rattle.rules.specs.Queueing.{places_of, immediate_of, places_after, passes, step_one_of}
use Rattle.rules.specs.RowCounts.{short_singles, long_slots, collides}
use Rattle.rules.specs.declared.Condition.{Condition}
use Rattle.rules.specs.declared.Condition.TheVariants.{Free, Held, Fresh, Asked, Resolving, Urgent, Long}
use Rattle.rules.specs.StationLimits.{resolution_at, condition_within, short_within, long_within, is_total}
use Rattle.rules.specs.Messages.{short_record, long_record}
use Rattle.stretches.specs.declared.Stretch.{Stretch}
use Rattle.places.specs.Places.{differ}
use Rattle.stretches.specs.Stretches.{apart}
use Rattle.channel_rules.specs.Soundness.{messages_of, table_counters, urgent_place, urgent_places, urgent_sound, long_stretch, long_stretches, long_sound, resolving_place, resolving_places, sound_table}
use Rattle.channel_rules.specs.SoundMeaning.{station_at}
use Rattle.sound_slots.specs.Room.{Room}
use Rattle.channel_rules.specs.ChannelCalls.{Channel, has_stations, refused, feedback_heard, slots_heard, outcome_heard, slot_through, channel_slot_number_of, channel_slot_of}
use Rattle.rules.specs.Refusing.{unless, by_number}
use Rattle.rules.proofs.QueueingLaws.{fits_if}
use Rattle.rules.specs.declared.Answer.TheVariants.{Refused}
use Rattle.rules.proofs.Parting.{no_true}
use Rattle.rules.proofs.Records.{by_kind}
use Rattle.rules.proofs.Views.{Sender, sender_at}
use Rattle.rules.proofs.Clauses.{hearing}
use Rattle.rules.proofs.Shared.{collect, gather, index_of, asked_sender, asked_row}
use Rattle.rules.proofs.SlotStep.{and_both}
use Rattle.listlaws.proofs.Joining.{sum-append}
use Rattle.rules.proofs.LimitLaws.{between-bounds}
use Rattle.channel_rules.proofs.SoundTests.{sound-tests}
use Rattle.listlaws.proofs.Totals.{total}
use Rattle.places.proofs.Counting.{times, length-places}
use Rattle.channel_rules.proofs.SoundLists.{AllWithin, long-parts, resolvings_inside, resolvings_times, stations-messages}
use Rattle.channel_rules.proofs.SoundMeans.{all_in, sound-says}
use Rattle.rules.proofs.QueueingLaws.{added}
use Rattle.sound_slots.proofs.ChannelLaws.{limits, start_made, condition_in, records-within, row_here, row-asked}

-- ---- lists joined from at most one entry each

module _ {A B : Type 0} (f : A → List B) (one : (x : A) → length (f x) ≤ 1) where
  gather-most : (l : List A) → length (flat_map f l) ≤ length l
  gather-most [] = omega arith
  gather-most (x ∷ l) = omega (arith, length-append (f x) (flat_map f l), one x, gather-most l)

urgent-one : (k : Condition) → length (urgent_place k) ≤ 1
urgent-one Free = omega arith
urgent-one (Held t) = omega arith
urgent-one (Fresh t) = omega arith
urgent-one (Asked g j t) = omega arith
urgent-one (Resolving g i t) = omega arith
urgent-one (Urgent i) = omega arith
urgent-one (Long f l t) = omega arith

resolving-one : (g : ℕ) (k : Condition) → length (resolving_place g k) ≤ 1
resolving-one g Free = omega arith
resolving-one g (Held t) = omega arith
resolving-one g (Fresh t) = omega arith
resolving-one g (Asked h j t) = omega arith
resolving-one g (Resolving h i t) = go (eqb h g)
  where
    go : (b : Bool) → length (only_if b (i ∷ [])) ≤ 1
    go true = omega arith
    go false = omega arith
resolving-one g (Urgent i) = omega arith
resolving-one g (Long f l t) = omega arith

-- a short record has no stretch, a long one no place of H
short_none : (k : Condition) → short_within k ≡ true → long_stretch k ≡ []
unfolding short_within
short_none Free e = refl
short_none (Held t) e = refl
short_none (Fresh t) e = refl
short_none (Asked g j t) e = refl
short_none (Resolving g i t) e = refl
short_none (Urgent i) e = refl
short_none (Long f l t) e = absurd (no_true e)

long-none : (k : Condition) → long_within k ≡ true → urgent_place k ≡ []
unfolding long_within
long-none Free e = refl
long-none (Held t) e = refl
long-none (Fresh t) e = refl
long-none (Asked g j t) e = refl
long-none (Resolving g i t) e = refl
long-none (Urgent i) e = absurd (no_true e)
long-none (Long f l t) e = refl

-- the slots left of a station within its limits, and of all of them
left-most : (c : Counters) (k : Condition) → condition_within c k ≡ true → sum_of (λ (s : Stretch). s.left) (long_stretch k) ≤ 255
left-most c Free e = omega arith
left-most c (Held t) e = omega arith
left-most c (Fresh t) e = omega arith
left-most c (Asked g j t) e = omega arith
left-most c (Resolving g i t) e = omega arith
left-most c (Urgent i) e = omega arith
left-most c (Long f l t) e = omega (arith, long-parts c f l t e)

lefts_most : (c : Counters) (l : List Station) → AllWithin c l → sum_of (λ (s : Stretch). s.left) (long_stretches (messages_of l)) ≤ 255 * length l
lefts_most c [] w = omega arith
lefts_most c (s ∷ l) w =
    omega (
      arith,
      sum-append (λ (s : Stretch). s.left) (long_stretch s.short.condition) (long_stretch s.long.condition ++ long_stretches (messages_of l)),
      sum-append (λ (s : Stretch). s.left) (long_stretch s.long.condition) (long_stretches (messages_of l)),
      ap (sum_of (λ (s : Stretch). s.left)) (short_none s.short.condition w.0.brief),
      left-most c s.long.condition w.0.long,
      lefts_most c l w.1,
    )

-- a place of H for each station at most: the long record has none
urgents_most : (c : Counters) (l : List Station) → AllWithin c l → length (urgent_places (messages_of l)) ≤ length l
urgents_most c [] w = omega arith
urgents_most c (s ∷ l) w =
    omega (
      arith,
      length-append (urgent_place s.short.condition) (urgent_place s.long.condition ++ urgent_places (messages_of l)),
      length-append (urgent_place s.long.condition) (urgent_places (messages_of l)),
      urgent-one s.short.condition,
      ap length (long-none s.long.condition w.0.lengthy),
      urgents_most c l w.1,
    )

-- ---- a row of n minislots

record AtMost (n : ℕ) (row : List Feedback) : Type 0 where
  short : short_singles row ≤ n
  long : long_slots row ≤ 255 * n
  collided : collides row ≤ n

abbrev sent : List Sender → ℕ
sent l = sum_of (λ (s : Sender). s.value) l

-- a station within its limits asks at most 255 slots
asked-most : (c : Counters) (g j k : ℕ) (x : Condition) → condition_within c x ≡ true → sent (asked_sender g j k x) ≤ 255 * length (asked_sender g j k x)
unfolding condition_within
asked-most c g j k Free e = omega arith
asked-most c g j k (Held t) e = omega arith
asked-most c g j k (Fresh t) e = omega arith
asked-most c g j k (Asked h i t) e = go (eqb h g) (eqb i j)
  where
    few : t ≤ 255
    few = (between-bounds 1 t 255 (and_both (between 1 h c.groups && between 1 i c.minislots) (is_total t) e).1).1

    go : (a b : Bool) → sent (only_if a (only_if b (sender_at k t ∷ []))) ≤ 255 * length (only_if a (only_if b (sender_at k t ∷ [])))
    go true true = omega (arith, few)
    go true false = omega arith
    go false b = omega arith
asked-most c g j k (Resolving h i t) e = omega arith
asked-most c g j k (Urgent i) e = omega arith
asked-most c g j k (Long f l t) e = omega arith

collect-most : (f : ℕ → List Sender) (n j : ℕ) → ((k : ℕ) → k < j + n → sent (f k) ≤ 255 * length (f k)) → sent (collect f n j) ≤ 255 * length (collect f n j)
collect-most f zero j h = omega arith
collect-most f (suc n) j h =
    omega (
      arith,
      sum-append (λ (s : Sender). s.value) (f j) (collect f n (suc j)),
      length-append (f j) (collect f n (suc j)),
      h j (omega arith),
      collect-most f n (suc j) (λ k w. h k (omega arith)),
    )

-- one minislot more
heard-most : (ix : ℕ → ℕ) (l : List Sender) (n : ℕ) (row : List Feedback) → sent l ≤ 255 * length l → AtMost n row → AtMost (suc n) (hearing ix l ∷ row)
unfolding short_singles long_slots collides
heard-most ix [] n row h m = record { short = omega arith; long = omega arith; collided = omega arith }
heard-most ix (x ∷ []) n row h m = record { short = short (eqb x.value 1); long = long (eqb x.value 1); collided = omega arith }
  where
    short : (b : Bool) → cond b 1 0 + short_singles row ≤ suc n
    short true = omega arith
    short false = omega arith

    long : (b : Bool) → cond b 0 x.value + long_slots row ≤ 255 * suc n
    long true = omega arith
    long false = omega arith
heard-most ix (x ∷ y ∷ l) n row h m = record { short = omega arith; long = omega arith; collided = omega arith }

row-most : (ix : ℕ → ℕ) (K : ℕ) (condition : ℕ → Condition) (g : ℕ) → ((j k : ℕ) → k < K → sent (asked_sender g j k (condition k)) ≤ 255 * length (asked_sender g j k (condition k)))
    → (n j : ℕ) → AtMost n (asked_row ix K condition g n j)
unfolding short_singles long_slots collides
row-most ix K condition g h zero j = record { short = omega arith; long = omega arith; collided = omega arith }
row-most ix K condition g h (suc n) j =
    heard-most ix (gather (λ k. asked_sender g j k (condition k)) K) n (asked_row ix K condition g n (suc j))
    (collect-most (λ k. asked_sender g j k (condition k)) K 0 (λ k w. h j k (omega arith)))
    (row-most ix K condition g h n (suc j))

-- ---- a sound table's queues

-- places with two entries or more each
total_twice : (K : ℕ) (f : ℕ → ℕ) → ((i : ℕ) → i < K → 2 ≤ f i) → 2 * K ≤ total K f
total_twice zero f h = omega arith
total_twice (suc K) f h = omega (arith, h K (omega arith), total_twice K f (λ i w. h i (omega arith)))

-- a table has two message records for each station
message-count : (l : List Station) → length (messages_of l) ≡ 2 * length l
message-count [] = refl
message-count (s ∷ l) = omega (arith, message-count l)

-- A SOUND TABLE'S COUNTERS, by the number of its stations
pub sound-room : (stations : List Station) (wire : List WireRow) → sound_table stations wire ≡ true → Room stations
unfolding urgent_sound long_sound
sound-room stations wire sound =
    let c = table_counters stations in
    let tests = sound-tests stations wire sound in
    let inside = all_in stations wire sound in
    let h = eqb-true (length (urgent_places (messages_of stations))) c.urgent (and_both _ (each_pair differ (urgent_places (messages_of stations))) tests.urgent).0 in
    let n = eqb-true (sum_of (λ (s : Stretch). s.left) (long_stretches (messages_of stations))) c.long (and_both _ (each_pair apart (long_stretches (messages_of stations))) tests.long).0 in
    record {
      urgent = omega (arith, urgents_most c stations inside);
      long = omega (arith, lefts_most c stations inside);
      resolution = λ g lo hi.
          omega (
            arith,
            twice g lo hi,
            length-places (resolution_at c g) (resolving_places g (messages_of stations)) (resolvings_inside c g stations inside),
            message-count stations,
            gather-most (λ (m : TableMessage). resolving_place g m.condition) (λ m. resolving-one g m.condition) (messages_of stations),
          );
    }
  where
    twice : (g : ℕ) → 1 ≤ g → g ≤ 8 → 2 * resolution_at (table_counters stations) g ≤ total (resolution_at (table_counters stations) g) (λ i. times (suc i) (resolving_places g (messages_of stations)))
    twice g lo hi =
        total_twice (resolution_at (table_counters stations) g) (λ i. times (suc i) (resolving_places g (messages_of stations)))
        (λ i h.
        rw (resolvings_times g (suc i) stations, stations-messages (table_counters stations) g (suc i) stations (all_in stations wire sound))
        ((sound-says stations wire sound).resolution g (suc i) lo hi (omega arith) (omega arith)))

-- ---- a slot on it

-- the row that the next group's slot hears
row-few : (stations : List Station) (wire : List WireRow) (some : 1 ≤ length stations) (sound : sound_table stations wire ≡ true) → AtMost (table_counters stations).minislots (row_here stations wire some sound)
row-few stations wire some sound =
    rw (row-asked stations wire some sound)
    (row-most (index_of (start_made stations)) (short_record (length stations)) (condition_in stations) (table_counters stations).next
    (λ j r h. by_kind (λ (r : ℕ). r < short_record (length stations) → Few j r) (short-few j) (long-few j) r h)
    (table_counters stations).minislots 1)
  where
    Few : ℕ → ℕ → Type 0
    Few j r = sent (asked_sender (table_counters stations).next j r (condition_in stations r)) ≤ 255 * length (asked_sender (table_counters stations).next j r (condition_in stations r))

    short-few : (j k : ℕ) → short_record k < short_record (length stations) → Few j (short_record k)
    short-few j k h =
        asked-most (station_at stations k).counters (table_counters stations).next j (short_record k) (condition_in stations (short_record k)) (records-within stations wire some sound k (omega arith)).short

    long-few : (j k : ℕ) → long_record k < short_record (length stations) → Few j (long_record k)
    long-few j k h =
        asked-most (station_at stations k).counters (table_counters stations).next j (long_record k) (condition_in stations (long_record k)) (records-within stations wire some sound k (omega arith)).long

-- NO COUNTER PASSES ITS LIMIT in step 1
pub never-passes : (ch : Channel) → has_stations ch.stations ≡ true → sound_table ch.stations ch.wire ≡ true
    → passes (places_after (table_counters ch.stations) (feedback_heard ch)) ≡ false
unfolding places_after passes
never-passes ch here sound =
    let c = table_counters ch.stations in
    let row = feedback_heard ch in
    let (some, few) = between-bounds 1 (length ch.stations) 64 here in
    let w = limits ch.stations ch.wire some sound in
    let room = sound-room ch.stations ch.wire sound in
    let heard = row-few ch.stations ch.wire some sound in
    let a = added (immediate_of c row) (places_of c) row in
    rw (
      le-ltb urgent_limit (places_after c row).urgent (omega (arith, at_most (immediate_of c row) (short_singles row))),
      le-ltb long_limit (places_after c row).long (omega arith),
      le-ltb resolution_limit (places_after c row).resolution (omega (arith, room.resolution c.next (omega arith) (omega arith))),
    )
  where
    at_most : (b : Bool) (n : ℕ) → cond b 0 n ≤ n
    at_most true n = omega arith
    at_most false n = omega arith

-- a slot of this number does not answer 7
abbrev Other : Channel → List ℕ → ℕ → Type 0
Other ch picks n = (by_number n (refused ch) (slot_through ch (outcome_heard ch) (slots_heard ch picks))).answer ≢ Refused 7

-- A CHANNEL'S SLOT NEVER ANSWERS 7
pub never_7 : (ch : Channel) (picks : List ℕ) → (channel_slot_of ch picks).answer ≢ Refused 7
unfolding channel_slot_of channel_slot_number_of
never_7 ch picks =
    either (has_stations ch.stations) 14 _ (λ here. either (sound_table ch.stations ch.wire) 18 _
    (λ sound. either (eqb (length picks) (length ch.stations)) 17 _ (λ _. either (list_all _ picks) 11 _ (λ _. goes here sound) refl) refl) refl) refl
  where
    either : (b : Bool) (n after : ℕ) → (b ≡ true → Other ch picks after) → eqb n 0 || eqb n 7 ≡ false → Other ch picks (unless b n after)
    either true n after h e = h refl
    either false n after h e = other n (or-none (eqb n 0) (eqb n 7) e)
      where
        or-none : (a b : Bool) → a || b ≡ false → (a ≡ false) × (b ≡ false)
        or-none false false q = (refl, refl)
        or-none false true q = (refl, q)
        or-none true b q = (q, absurd (true≢false q))

        other : (n : ℕ) → (eqb n 0 ≡ false) × (eqb n 7 ≡ false) → Other ch picks n
        other n (z, s) = rw z (λ q. eqb-false n 7 s cc)

    goes : has_stations ch.stations ≡ true → sound_table ch.stations ch.wire ≡ true
        → Other ch picks (unless (step_one_of (table_counters ch.stations) (feedback_heard ch)).fits 7 0)
    goes here sound = rw (fits_if (table_counters ch.stations) (feedback_heard ch) (never-passes ch here sound)) (λ e. let z : ◌≡◌ {A = ℕ} 0 1 = cc in omega arith)
