-- The test of a sound table and what the paper says of one are the same: each clause, both ways. Assumes nothing.
use mathlib.Core.Path.{◌≡◌, refl, sym, ap, subst, ◌∙◌}
use mathlib.Core.Bool.{Bool, true, not}
use mathlib.Core.List.{List, [], ◌∷◌}
use mathlib.Core.Option.{some}
use mathlib.Core.Logic.{◌≢◌, by_cases}
use Prim.Native.Nat.{ℕ, zero, suc, ◌+◌, ◌-◌, ◌≤◌, ◌<◌}
use native.Mathlib.Omega.{arith}
use native.Mathlib.Decide.{dec_lt}
use native.Mathlib.Nat.{zero-add}
use lib.Dec.{eqb}
use lib.ListN.{length, get_or}
use borrow.Author.Tests.{eqb-true, ne_eqb, eq-eqb}
use Rattle.minislot.specs.declared.Minislot.{Minislot}
use Rattle.requests.specs.Together.{silent}
use Rattle.rules.specs.declared.Counters.{Counters}
use Rattle.rules.specs.declared.Station.{Station}
use Rattle.rules.specs.declared.WireRow.{WireRow}
use Rattle.std.specs.List.{list_all, flat_map}
use Rattle.listlaws.specs.Lists.{each_pair, sum_of}
use Rattle.listlaws.specs.Every.{every_from}
use Rattle.rules.specs.Calendars.{free_entry, owner_in}
use Rattle.rules.specs.StationLimits.{resolution_at, station_within}
use Rattle.rules.specs.StationCalls.{no_station}
use Rattle.stretches.specs.declared.Stretch.{Stretch}
use Rattle.places.specs.Places.{differ}
use Rattle.stretches.specs.Stretches.{apart}
use Rattle.channel_rules.specs.Soundness.{messages_of, table_counters, other_index, indexes_distinct, records_within, same_counters, counters_shared, urgent_places, urgent_sound, long_stretches, long_sound, resolving_places, resolution_sound_at, resolution_sound, asked_minislot, same_minislot, row_sound, wire_sound, entry_on, entries_on, owners_sound, sound_table}
use Rattle.channel_rules.specs.ChannelCalls.{blank_row}
use Rattle.channel_rules.specs.SoundMeaning.{at_urgent, covers_long, at_resolving, station_at, how_many, how_many_stations, HasStation, Sound}
use Rattle.rules.proofs.Views.{eqb_self}
use Rattle.listlaws.proofs.Table.{from-holds, from_at}
use Rattle.rules.proofs.LimitLaws.{within-limits, arrays-lengths, station_in, calendar-in}
use Rattle.rules.proofs.SlotStep.{and_both}
use Rattle.channel_rules.proofs.SoundTests.{SoundTests, sound-tests, tests-sound}
use Rattle.places.proofs.Counting.{pairs-once, once-pairs, exactly_one, one_each}
use Rattle.stretches.proofs.Counting.{spread, length-spread, apart-once, once-apart}
use Rattle.crowds.proofs.Counting.{two-or-more, twice-each}
use Rattle.channel_rules.proofs.OwnersMean.{owner-on, on-owner}
use Rattle.channel_rules.proofs.SoundLists.{AllWithin, urgents_inside, urgents_times, longs_inside, longs_left, longs_times, resolvings_times, stations-messages, counters_eq, counters_self}

-- ---- lists of stations, element by element

module _ {A : Type 0} (test : A → Bool) (d : A) where
  pub all-at : (l : List A) → list_all test l ≡ true → (k : ℕ) → k < length l → test (get_or l k d) ≡ true
  all-at [] e k h = absurd (omega arith)
  all-at (x ∷ l) e zero h = (and_both (test x) (list_all test l) e).0
  all-at (x ∷ l) e (suc k) h = all-at l (and_both (test x) (list_all test l) e).1 k (omega arith)

  pub at_all : (l : List A) → ((k : ℕ) → k < length l → test (get_or l k d) ≡ true) → list_all test l ≡ true
  at_all [] h = refl
  at_all (x ∷ l) h = rw (h zero (omega arith)) (at_all l (λ k w. h (suc k) (omega arith)))

module _ {A : Type 0} (test : A → A → Bool) (d : A) where
  pub pair-at : (l : List A) → each_pair test l ≡ true → (i k : ℕ) → i < k → k < length l → test (get_or l i d) (get_or l k d) ≡ true
  pair-at [] e i k h w = absurd (omega arith)
  pair-at (x ∷ l) e i zero h w = absurd (omega arith)
  pair-at (x ∷ l) e zero (suc k) h w = all-at (test x) d l (and_both (list_all (test x) l) (each_pair test l) e).0 k (omega arith)
  pair-at (x ∷ l) e (suc i) (suc k) h w = pair-at l (and_both (list_all (test x) l) (each_pair test l) e).1 i k (omega arith) (omega arith)

  pub at_pair : (l : List A) → ((i k : ℕ) → i < k → k < length l → test (get_or l i d) (get_or l k d) ≡ true) → each_pair test l ≡ true
  at_pair [] h = refl
  at_pair (x ∷ l) h =
      rw (at_all (test x) d l (λ k w. h zero (suc k) (omega arith) (omega arith))) (at_pair l (λ i k a b. h (suc i) (suc k) (omega arith) (omega arith)))

pub not_eq : (a b : ℕ) → not (eqb a b) ≡ true → a ≢ b
not_eq a b e w = let z : eqb a b ≡ true = eq-eqb a b w in let q : ◌≡◌ {A = ℕ} 0 1 = cc in omega arith

eq_not : (a b : ℕ) → a ≢ b → not (eqb a b) ≡ true
eq_not a b h = rw (ne_eqb a b h)

-- ---- the conditions within the shared counters

pub all-within : (c : Counters) (l : List Station) → ((k : ℕ) → k < length l → station_within (station_at l k) ≡ true) → ((k : ℕ) → k < length l → (station_at l k).counters ≡ c) → AllWithin c l
all-within c [] w e = tt
all-within c (s ∷ l) w e =
    (rw (← (e zero (omega arith))) (station_in s (w zero (omega arith))).records, all-within c l (λ k h. w (suc k) (omega arith)) (λ k h. e (suc k) (omega arith)))

pub first-length : (l : List Station) → ((k : ℕ) → k < length l → station_within (station_at l k) ≡ true) → length (table_counters l).resolution ≡ 8
first-length [] w = refl
first-length (s ∷ l) w = (arrays-lengths s.counters (within-limits s.counters (station_in s (w zero (omega arith))).counters).arrays).0

pub first-calendar : (l : List Station) → ((k : ℕ) → k < length l → station_within (station_at l k) ≡ true) → length (table_counters l).calendar ≡ 24
first-calendar [] w = refl
first-calendar (s ∷ l) w = (calendar-in s.counters (within-limits s.counters (station_in s (w zero (omega arith))).counters).calendar).size

same-slot : (a b : Minislot) → same_minislot a b ≡ true → a ≡ b
same-slot a b e =
    let (x, y) = and_both (eqb a.word b.word) (eqb a.count b.count) e in
    cong a.word b.word a.count b.count (eqb-true a.word b.word x) (eqb-true a.count b.count y)
  where
    cong : (w w' c c' : ℕ) → w ≡ w' → c ≡ c' → ◌≡◌ {A = Minislot} (record { word = w; count = c }) (record { word = w'; count = c' })
    cong w w' c c' p q = rw (p, q)

slot_same : (a b : Minislot) → a ≡ b → same_minislot a b ≡ true
slot_same a b e = rw (e, eqb_self b.word, eqb_self b.count)

-- ---- THE TEST SAYS WHAT THE PAPER SAYS

module _ (stations : List Station) (rows : List WireRow) (e : sound_table stations rows ≡ true) where
  t : SoundTests stations rows
  t = sound-tests stations rows e

  says-within : (k : ℕ) → k < length stations → station_within (station_at stations k) ≡ true
  unfolding records_within
  says-within k h = all-at station_within no_station stations t.within k h

  says-shared : (k : ℕ) → k < length stations → (station_at stations k).counters ≡ table_counters stations
  unfolding counters_shared
  says-shared k h =
      sym (counters_eq (table_counters stations) (station_at stations k).counters (all-at (λ (s : Station). same_counters (table_counters stations) s.counters) no_station stations t.shared k h))

  pub all_in : AllWithin (table_counters stations) stations
  all_in = all-within (table_counters stations) stations says-within says-shared

  says-distinct : (i k : ℕ) → i < length stations → k < length stations → (station_at stations i).index ≡ (station_at stations k).index → i ≡ k
  unfolding indexes_distinct
  says-distinct i k hi hk q =
      by_cases (dec_lt i k) (λ w. absurd (not_eq _ _ (pair-at other_index no_station stations t.distinct i k w hk) q))
      (λ w. by_cases (dec_lt k i) (λ v. absurd (not_eq _ _ (pair-at other_index no_station stations t.distinct k i v hi) (sym q))) (λ v. omega arith))

  says-urgent : (i : ℕ) → 1 ≤ i → i ≤ (table_counters stations).urgent → how_many (at_urgent i) stations ≡ 1
  unfolding urgent_sound
  says-urgent zero lo hi = absurd (omega arith)
  says-urgent (suc i) lo hi =
      let (x, y) = and_both (eqb (length (urgent_places (messages_of stations))) (table_counters stations).urgent) (each_pair differ (urgent_places (messages_of stations))) t.urgent in
      sym (urgents_times (suc i) stations)
      ∙ exactly_one (table_counters stations).urgent (urgent_places (messages_of stations)) (urgents_inside (table_counters stations) stations all_in) (eqb-true _ _ x) (pairs-once (urgent_places (messages_of stations)) y) i (omega arith)

  says-long : (i : ℕ) → 1 ≤ i → i ≤ (table_counters stations).long → how_many (covers_long i) stations ≡ 1
  unfolding long_sound
  says-long zero lo hi = absurd (omega arith)
  says-long (suc i) lo hi =
      let (x, y) = and_both (eqb (sum_of (λ (s : Stretch). s.left) (long_stretches (messages_of stations))) (table_counters stations).long) (each_pair apart (long_stretches (messages_of stations))) t.long in
      sym (longs_times (suc i) stations)
      ∙ exactly_one (table_counters stations).long (flat_map spread (long_stretches (messages_of stations))) (longs_inside (table_counters stations) stations all_in)
      (length-spread (long_stretches (messages_of stations)) ∙ eqb-true _ _ x) (apart-once (long_stretches (messages_of stations)) y) i (omega arith)

  says-resolution : (g i : ℕ) → 1 ≤ g → g ≤ 8 → 1 ≤ i → i ≤ resolution_at (table_counters stations) g → 2 ≤ how_many_stations (at_resolving g i) stations
  unfolding resolution_sound
  says-resolution g zero gl gh lo hi = absurd (omega arith)
  says-resolution g (suc i) gl gh lo hi =
      let q = from_at (λ (i : ℕ) (r : ℕ). resolution_sound_at stations (suc i) r) 0 (table_counters stations).resolution 0 t.resolution (g - 1) (omega (arith, first-length stations says-within)) in
      let v : resolution_sound_at stations g (resolution_at (table_counters stations) g) ≡ true =
      subst (λ (z : ℕ). resolution_sound_at stations z (resolution_at (table_counters stations) g) ≡ true) (let w : suc (0 + (g - 1)) ≡ g = omega arith in w) q in
      rw (← (stations-messages (table_counters stations) g (suc i) stations all_in), ← (resolvings_times g (suc i) stations))
      (two-or-more (resolution_at (table_counters stations) g) (resolving_places g (messages_of stations)) v i (omega arith))

  wire_eight : length rows ≡ 8
  unfolding wire_sound
  wire_eight = eqb-true (length rows) 8 (and_both (eqb (length rows) 8) (every_from (λ (i : ℕ) (row : WireRow). row_sound stations (suc i) row) 0 rows) t.wire).0

  row-sound : (g : ℕ) → 1 ≤ g → g ≤ 8 → row_sound stations g (get_or rows (g - 1) blank_row) ≡ true
  unfolding wire_sound
  row-sound g gl gh =
      subst (λ (z : ℕ). row_sound stations z (get_or rows (g - 1) blank_row) ≡ true) (let w : suc (0 + (g - 1)) ≡ g = omega arith in w)
      (from_at (λ (i : ℕ) (row : WireRow). row_sound stations (suc i) row) blank_row rows 0 (and_both (eqb (length rows) 8) (every_from (λ (i : ℕ) (row : WireRow). row_sound stations (suc i) row) 0 rows) t.wire).1 (g - 1) (omega (arith, wire_eight)))

  row_eight : (g : ℕ) → 1 ≤ g → g ≤ 8 → length (get_or rows (g - 1) blank_row).minislots ≡ 8
  row_eight g gl gh = eqb-true _ _ (and_both (eqb (length (get_or rows (g - 1) blank_row).minislots) 8) _ (row-sound g gl gh)).0

  says-wire : (g j : ℕ) → 1 ≤ g → g ≤ 8 → 1 ≤ j → j ≤ 8 → get_or (get_or rows (g - 1) blank_row).minislots (j - 1) silent ≡ asked_minislot stations g j
  says-wire g j gl gh jl jh =
      same-slot _ _
      (subst (λ (z : ℕ). same_minislot (get_or (get_or rows (g - 1) blank_row).minislots (j - 1) silent) (asked_minislot stations g z) ≡ true) (let w : suc (0 + (j - 1)) ≡ j = omega arith in w)
      (from_at (λ (i : ℕ) (slot : Minislot). same_minislot slot (asked_minislot stations g (suc i))) silent (get_or rows (g - 1) blank_row).minislots 0
      (and_both (eqb (length (get_or rows (g - 1) blank_row).minislots) 8) _ (row-sound g gl gh)).1 (j - 1) (omega (arith, row_eight g gl gh))))

  says-owners : (i x : ℕ) → i < 24 → owner_in (get_or (table_counters stations).calendar i free_entry) ≡ some x → HasStation stations x
  unfolding owners_sound entries_on
  says-owners i x h o =
      let (size, all) = and_both (eqb (length (table_counters stations).calendar) 24) (list_all (entry_on stations) (table_counters stations).calendar) t.owners in
      let l = eqb-true (length (table_counters stations).calendar) 24 size in
      owner-on stations (get_or (table_counters stations).calendar i free_entry) x (all-at (entry_on stations) free_entry (table_counters stations).calendar all i (omega arith)) o

  pub sound-says : Sound stations rows
  sound-says =
      record {
        distinct = says-distinct;
        within = says-within;
        shared = says-shared;
        urgent = says-urgent;
        long = says-long;
        resolution = says-resolution;
        wire = says-wire;
        size = (wire_eight, row_eight);
        owners = says-owners;
      }

-- ---- AND THE OTHER WAY ROUND

module _ (stations : List Station) (rows : List WireRow) (s : Sound stations rows) where
  in_limits : AllWithin (table_counters stations) stations
  in_limits = all-within (table_counters stations) stations s.within s.shared

  tests : SoundTests stations rows
  unfolding indexes_distinct records_within counters_shared urgent_sound long_sound resolution_sound wire_sound owners_sound entries_on
  tests =
      record {
        distinct = at_pair other_index no_station stations (λ i k a b. eq_not _ _ (λ q. let w = s.distinct i k (omega arith) b q in omega arith));
        within = at_all station_within no_station stations s.within;
        shared = at_all (λ (x : Station). same_counters (table_counters stations) x.counters) no_station stations (λ k h. rw (s.shared k h) (counters_self (table_counters stations)));
        urgent =
            let (x, y) = one_each (table_counters stations).urgent (urgent_places (messages_of stations)) (urgents_inside (table_counters stations) stations in_limits)
            (λ i h. urgents_times (suc i) stations ∙ s.urgent (suc i) (omega arith) (omega arith)) in
            rw (eq-eqb (length (urgent_places (messages_of stations))) (table_counters stations).urgent x) (once-pairs (urgent_places (messages_of stations)) y);
        long =
            let (x, y) = one_each (table_counters stations).long (flat_map spread (long_stretches (messages_of stations))) (longs_inside (table_counters stations) stations in_limits)
            (λ i h. longs_times (suc i) stations ∙ s.long (suc i) (omega arith) (omega arith)) in
            rw (eq-eqb (sum_of (λ (z : Stretch). z.left) (long_stretches (messages_of stations))) (table_counters stations).long (sym (length-spread (long_stretches (messages_of stations))) ∙ x))
            (once-apart (long_stretches (messages_of stations)) (longs_left (table_counters stations) stations in_limits) y);
        resolution =
            from-holds (λ (i : ℕ) (r : ℕ). resolution_sound_at stations (suc i) r) 0 (table_counters stations).resolution 0
            (λ k h. resolution-at (0 + k) k (zero-add k) (omega (arith, first-length stations s.within)));
        wire =
            rw (eq-eqb (length rows) 8 s.size.0)
            (from-holds (λ (i : ℕ) (row : WireRow). row_sound stations (suc i) row) blank_row rows 0 (λ k h. row_at (0 + k) k (zero-add k) (omega (arith, s.size.0))));
        owners =
            rw (eq-eqb (length (table_counters stations).calendar) 24 (first-calendar stations s.within))
            (at_all (entry_on stations) free_entry (table_counters stations).calendar (λ k h. on-owner stations (get_or (table_counters stations).calendar k free_entry) (λ x. s.owners k x (omega (arith, first-calendar stations s.within)))));
      }
    where
      resolution-at : (z k : ℕ) → z ≡ k → k < 8 → resolution_sound_at stations (suc z) (get_or (table_counters stations).resolution k 0) ≡ true
      resolution-at z k e h =
          rw e
          (let w : suc k - 1 ≡ k = omega arith in
          let at : resolution_at (table_counters stations) (suc k) ≡ get_or (table_counters stations).resolution k 0 = ap (λ (i : ℕ). get_or (table_counters stations).resolution i 0) w in
          subst (λ (r : ℕ). resolution_sound_at stations (suc k) r ≡ true) at
          (twice-each (resolution_at (table_counters stations) (suc k)) (resolving_places (suc k) (messages_of stations))
          (λ i l. rw (resolvings_times (suc k) (suc i) stations, stations-messages (table_counters stations) (suc k) (suc i) stations in_limits) (s.resolution (suc k) (suc i) (omega arith) (omega arith) (omega arith) (omega arith)))))

      slot_at : (k : ℕ) → k < 8 → (z j : ℕ) → z ≡ j → j < 8 → same_minislot (get_or (get_or rows k blank_row).minislots j silent) (asked_minislot stations (suc k) (suc z)) ≡ true
      slot_at k h z j e w =
          rw e
          (slot_same _ _
          (subst (λ (a : ℕ). get_or (get_or rows a blank_row).minislots j silent ≡ asked_minislot stations (suc k) (suc j)) (let v : suc k - 1 ≡ k = omega arith in v)
          (subst (λ (b : ℕ). get_or (get_or rows (suc k - 1) blank_row).minislots b silent ≡ asked_minislot stations (suc k) (suc j)) (let v : suc j - 1 ≡ j = omega arith in v)
          (s.wire (suc k) (suc j) (omega arith) (omega arith) (omega arith) (omega arith)))))

      size-at : (k : ℕ) → k < 8 → length (get_or rows k blank_row).minislots ≡ 8
      size-at k h = subst (λ (a : ℕ). length (get_or rows a blank_row).minislots ≡ 8) (let v : suc k - 1 ≡ k = omega arith in v) (s.size.1 (suc k) (omega arith) (omega arith))

      row_at : (z k : ℕ) → z ≡ k → k < 8 → row_sound stations (suc z) (get_or rows k blank_row) ≡ true
      row_at z k e h =
          rw (e, eq-eqb (length (get_or rows k blank_row).minislots) 8 (size-at k h))
          (from-holds (λ (i : ℕ) (slot : Minislot). same_minislot slot (asked_minislot stations (suc k) (suc i))) silent (get_or rows k blank_row).minislots 0
          (λ j w. slot_at k h (0 + j) j (zero-add j) (omega (arith, size-at k h))))

  pub says-sound : sound_table stations rows ≡ true
  says-sound = tests-sound stations rows tests
