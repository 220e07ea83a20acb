-- The table that the plain channel shows is sound, so 18 never comes. Assumes nothing.
use mathlib.Core.Path.{◌≡◌, refl, sym, ap, subst, ◌∙◌}
use mathlib.Core.Bool.{Bool, true, false, cond, ◌&&◌}
use mathlib.Core.List.{List, [], ◌∷◌, ◌++◌, map, map-append, append_assoc}
use mathlib.Core.Option.{some}
use Prim.Native.Nat.{ℕ, zero, suc, ◌+◌, ◌-◌, ◌%◌, ◌≤◌, ◌<◌}
use native.Mathlib.Omega.{arith}
use native.Mathlib.Nat.{zero-add}
use lib.Dec.{eqb, leb, ltb}
use lib.ListN.{length, get_or, length-append}
use lib.Seq.{ext_get_or}
use borrow.Author.Tests.{eq-eqb, le-leb, ltb-false}
use Rattle.requests.specs.Together.{Request, carries, silent, together}
use Rattle.rules.specs.declared.Station.{Station}
use Rattle.rules.specs.declared.WireRow.{WireRow}
use Rattle.listlaws.specs.Lists.{only_if}
use Rattle.rules.specs.Calendars.{free_entry, owner_in, calendar_within, entries_within}
use Rattle.rules.specs.Limits.{resolution_within, opened_within, groups_within, within_limits, between}
use Rattle.rules.specs.declared.Condition.{Condition}
use Rattle.rules.specs.declared.Condition.TheVariants.{Free, Held, Fresh, Asked, Resolving, Urgent, Long}
use Rattle.rules.specs.StationLimits.{condition_within, messages_within, station_within}
use Rattle.rules.specs.Messages.{short_record, long_record}
use Rattle.channel_rules.specs.Soundness.{messages_of, asked_request, asked_requests, asked_minislot, sound_table}
use Rattle.channel_rules.specs.ChannelCalls.{Channel}
use Rattle.channel_rules.specs.SoundMeaning.{at_urgent, covers_long, at_resolving, station_at, how_many, how_many_stations, HasStation, Sound}
use Rattle.rules.specs.Calls.{Start, index}
use Rattle.rules.specs.Plain.{Plain}
use Rattle.rules.proofs.Views.{Sender, sender_at, eqb-sym}
use Rattle.listlaws.proofs.Table.{from-holds}
use Rattle.rules.proofs.Records.{holder-short, holder-long}
use Rattle.rules.proofs.RecordKinds.{fits-short, fits-long}
use Rattle.rules.proofs.Shared.{Table, collect, gather, pair_of, records, index_of, asked_sender, asked_pair}
use Rattle.rules.proofs.Relation.{Same}
use Rattle.channel_rules.proofs.Sounding.{TableSound, InsideTable, urgent_here, long_here, resolving_here, sound}
use Rattle.rules.proofs.WireRows.{as_request, leaves, length-row, row_at, gather_pairs}
use Rattle.rules.proofs.Walking.{IsStation, AreStations}
use Rattle.channel_rules.proofs.EmbodySlot.{map_if}
use Rattle.channel_rules.proofs.Embody.{Embodies, GoodStart, station-at, same_length}
use Rattle.channel_rules.proofs.SoundLists.{counters-cong, stations-messages}
use Rattle.channel_rules.proofs.SoundMeans.{all-within, says-sound}
use Rattle.channel_rules.proofs.OwnersMean.{on-table}
use Rattle.channel_rules.proofs.Calendared.{on-among, free-same, entries-within, owner-among}

-- ---- counting messages is counting records

module _ (S : Start) (t : Table) (test : Condition → Bool) (f : ℕ → Condition → List Sender) (same : (k : ℕ) (c : Condition) → cond (test c) 1 0 ≡ length (f k c)) where
  count_are : (j : ℕ) (l : List Station) → AreStations S t j l → how_many test l ≡ length (collect (pair_of (λ k. f k (t.condition k))) (length l) j)
  count_are j [] a = refl
  count_are j (s ∷ l) a =
      rw (a.0.short, a.0.long, same (short_record j) (t.condition (short_record j)), same (long_record j) (t.condition (long_record j)), count_are (suc j) l a.1)
      (sym
      (length-append (pair_of (λ k. f k (t.condition k)) j) (collect (pair_of (λ k. f k (t.condition k))) (length l) (suc j))
      ∙ omega (arith, length-append (f (short_record j) (t.condition (short_record j))) (f (long_record j) (t.condition (long_record j))))))

  -- of all of them, as many as the records' walk finds
  pub count-all : (l : List Station) → AreStations S t 0 l → length l ≡ length S.indexes → how_many test l ≡ length (gather (λ k. f k (t.condition k)) (records S))
  count-all l a e = count_are 0 l a ∙ ap (λ (n : ℕ). length (gather (pair_of (λ k. f k (t.condition k))) n)) e ∙ ap length (gather_pairs (λ k. f k (t.condition k)) (length S.indexes))

if_length {ℓ} : {A : Type ℓ} (b : Bool) (x : A) → cond b 1 0 ≡ length (only_if b (x ∷ []))
if_length true x = refl
if_length false x = refl

pub urgent-same : (i k : ℕ) (c : Condition) → cond (at_urgent i c) 1 0 ≡ length (urgent_here i k c)
urgent-same i k Free = refl
urgent-same i k (Held t) = refl
urgent-same i k (Fresh t) = refl
urgent-same i k (Asked g j t) = refl
urgent-same i k (Resolving g j t) = refl
urgent-same i k (Urgent j) = rw (eqb-sym i j) (if_length (eqb j i) (sender_at k 0))
urgent-same i k (Long f l t) = refl

pub long_same : (i k : ℕ) (c : Condition) → cond (covers_long i c) 1 0 ≡ length (long_here i k c)
long_same i k Free = refl
long_same i k (Held t) = refl
long_same i k (Fresh t) = refl
long_same i k (Asked g j t) = refl
long_same i k (Resolving g j t) = refl
long_same i k (Urgent j) = refl
long_same i k (Long f l t) = if_length (leb f i && ltb i (f + l)) (sender_at k 0)

pub resolving-same : (g i k : ℕ) (c : Condition) → cond (at_resolving g i c) 1 0 ≡ length (resolving_here g i k c)
resolving-same g i k Free = refl
resolving-same g i k (Held t) = refl
resolving-same g i k (Fresh t) = refl
resolving-same g i k (Asked h j t) = refl
resolving-same g i k (Resolving h j t) = rw (eqb-sym i j) (go (eqb h g) (eqb j i))
  where
    go : (a b : Bool) → cond (a && b) 1 0 ≡ length (only_if a (only_if b (sender_at k 0 ∷ [])))
    go true b = if_length b (sender_at k 0)
    go false b = refl
resolving-same g i k (Urgent j) = refl
resolving-same g i k (Long f l t) = refl

-- ---- the requests of the records asked in a minislot

asked-request : (ix : ℕ → ℕ) (g j k : ℕ) (c : Condition) → asked_request g j (ix k) c ≡ map (as_request ix) (asked_sender g j k c)
asked-request ix g j k Free = refl
asked-request ix g j k (Held t) = refl
asked-request ix g j k (Fresh t) = refl
asked-request ix g j k (Asked h i t) = go (eqb h g) (eqb i j)
  where
    go : (a b : Bool) → only_if (a && b) (record { index = ix k; total = t } ∷ []) ≡ map (as_request ix) (only_if a (only_if b (sender_at k t ∷ [])))
    go true b = map_if (as_request ix) b (sender_at k t)
    go false b = refl
asked-request ix g j k (Resolving h i t) = refl
asked-request ix g j k (Urgent i) = refl
asked-request ix g j k (Long f l t) = refl

pub asked_are : (S : Start) (t : Table) (g j i : ℕ) (l : List Station) → AreStations S t i l
    → asked_requests g j (messages_of l) ≡ map (as_request (index_of S)) (collect (asked_pair g t.condition j) (length l) i)
asked_are S t g j i [] a = refl
asked_are S t g j i (s ∷ l) a =
    rw (a.0.index, a.0.short, a.0.long, short, long, asked_are S t g j (suc i) l a.1)
    (sym
    (map-append (as_request (index_of S)) (asked_pair g t.condition j i) (collect (asked_pair g t.condition j) (length l) (suc i))
    ∙ ap (λ (z : List Request). z ++ map (as_request (index_of S)) (collect (asked_pair g t.condition j) (length l) (suc i)))
    (map-append (as_request (index_of S)) (asked_sender g j (short_record i) (t.condition (short_record i))) (asked_sender g j (long_record i) (t.condition (long_record i))))
    ∙ append_assoc (map (as_request (index_of S)) (asked_sender g j (short_record i) (t.condition (short_record i)))) _ _))
  where
    short : asked_request g j (index S i) (t.condition (short_record i)) ≡ map (as_request (index_of S)) (asked_sender g j (short_record i) (t.condition (short_record i)))
    short =
        subst (λ (z : ℕ). asked_request g j (index S z) (t.condition (short_record i)) ≡ map (as_request (index_of S)) (asked_sender g j (short_record i) (t.condition (short_record i)))) (holder-short i)
        (asked-request (index_of S) g j (short_record i) (t.condition (short_record i)))

    long : asked_request g j (index S i) (t.condition (long_record i)) ≡ map (as_request (index_of S)) (asked_sender g j (long_record i) (t.condition (long_record i)))
    long =
        subst (λ (z : ℕ). asked_request g j (index S z) (t.condition (long_record i)) ≡ map (as_request (index_of S)) (asked_sender g j (long_record i) (t.condition (long_record i)))) (holder-long i)
        (asked-request (index_of S) g j (long_record i) (t.condition (long_record i)))

-- ---- one record within its limits

between_true : (a x b : ℕ) → a ≤ x → x ≤ b → between a x b ≡ true
between_true a x b p q = rw (le-leb a x p, le-leb x b q)

module _ (S : Start) (G : GoodStart S) (p : Plain) (t : Table) (R : Same S p t) where
  table : TableSound S t
  table = sound S p t R

  module _ (k : ℕ) (s : Station) (a : IsStation S t k s) where
    rq_at : (i : ℕ) → i < 8 → get_or s.counters.resolution i 0 ≡ t.rq (suc i)
    rq_at i h = subst (λ (z : ℕ). get_or s.counters.resolution z 0 ≡ t.rq (suc i)) (let w : suc i - 1 ≡ i = omega arith in w) (a.resolution (suc i) (omega arith) (omega arith))

    mark-at : (i : ℕ) → i < 8 → get_or s.counters.opened i false ≡ t.opened (suc i)
    mark-at i h = subst (λ (z : ℕ). get_or s.counters.opened z false ≡ t.opened (suc i)) (let w : suc i - 1 ≡ i = omega arith in w) (a.mark (suc i) (omega arith) (omega arith))

    rq-within : (z i : ℕ) → z ≡ i → i < 8 → resolution_within s.counters.groups z (get_or s.counters.resolution i 0) ≡ true
    rq-within z i e h = rw (e, a.groups, rq_at i h) (go (ltb i S.n) refl)
      where
        go : (b : Bool) → ltb i S.n ≡ b → cond b (leb (t.rq (suc i)) 4095) (eqb (t.rq (suc i)) 0) ≡ true
        go true w = le-leb (t.rq (suc i)) 4095 (table.rmax (suc i))
        go false w = eq-eqb (t.rq (suc i)) 0 (table.idle (suc i) (omega (arith, ltb-false i S.n w))).0

    mark-within : (z i : ℕ) → z ≡ i → i < 8 → opened_within s.counters.groups z (get_or s.counters.opened i false) ≡ true
    mark-within z i e h = rw (e, a.groups, mark-at i h) (go (ltb i S.n) refl)
      where
        go : (b : Bool) → ltb i S.n ≡ b → cond b true (t.opened (suc i)) ≡ true
        go true w = refl
        go false w = (table.idle (suc i) (omega (arith, ltb-false i S.n w))).1

    groups-within : groups_within s.counters ≡ true
    unfolding groups_within
    groups-within =
        rw (
          eq-eqb (length s.counters.resolution) 8 a.arrays.0,
          eq-eqb (length s.counters.opened) 8 a.arrays.1,
          from-holds (resolution_within s.counters.groups) 0 s.counters.resolution 0 (λ i h. rq-within (0 + i) i (zero-add i) (omega (arith, a.arrays.0))),
          from-holds (opened_within s.counters.groups) false s.counters.opened 0 (λ i h. mark-within (0 + i) i (zero-add i) (omega (arith, a.arrays.1))),
        )

    calendar-within : calendar_within s.counters ≡ true
    unfolding calendar_within entries_within
    calendar-within =
        rw (
          a.calendar,
          a.position,
          R.calendar,
          R.position,
          le-leb (p.slots % 24) 23 (omega arith),
          eq-eqb (length p.calendar) 24 R.size,
          entries-within S.indexes p.calendar G.indexes.below R.owners,
          free-same p.calendar,
          R.free,
        )

    limits-within : within_limits s.counters ≡ true
    unfolding within_limits
    limits-within =
        rw (
          groups-within,
          calendar-within,
          a.minislots,
          a.groups,
          a.next,
          a.urgent,
          a.long-queue,
          between_true 2 S.m 8 G.m-low G.m-high,
          between_true 1 S.n 8 G.n-low G.n-high,
          between_true 1 t.next S.n table.low table.high,
          le-leb t.h 4095 table.hmax,
          le-leb t.n 65535 table.nmax,
        )

    condition-within : (c : Condition) → InsideTable S t c → condition_within s.counters c ≡ true
    unfolding condition_within
    condition-within Free w = refl
    condition-within (Held x) w = between_true 1 x 255 w.0 w.1
    condition-within (Fresh x) w = between_true 1 x 255 w.0 w.1
    condition-within (Asked g j x) w =
        rw (a.groups, a.minislots, between_true 1 g S.n w.0 w.1, between_true 1 j S.m w.2 w.3) (between_true 1 x 255 w.4 w.5)
    condition-within (Resolving g i x) w =
        rw (a.groups, a.resolution g w.0 (omega (arith, w.1, G.n-high)), between_true 1 g S.n w.0 w.1, between_true 1 i (t.rq g) w.2 w.3) (between_true 1 x 255 w.4 w.5)
    condition-within (Urgent i) w = rw a.urgent (between_true 1 i t.h w.0 w.1)
    condition-within (Long f l x) w =
        rw (a.long-queue, between_true 2 x 255 w.4 w.5, between_true 1 l x w.2 w.3, le-leb 1 f w.0) (le-leb (f + l) (t.n + 1) w.1)

    pub record_within : k < length S.indexes → station_within s ≡ true
    unfolding station_within messages_within
    record_within h =
        rw (
          limits-within,
          a.index,
          a.short,
          a.long,
          le-leb (index S k) 923 (let w : index S k < 924 = G.indexes.below k h in omega arith),
          condition-within (t.condition (short_record k)) (table.inside (short_record k)),
          condition-within (t.condition (long_record k)) (table.inside (long_record k)),
          fits-short S (R.message (short_record k)) k (t.condition (short_record k)) (R.agrees (short_record k)).mine (R.agrees (short_record k)).fits,
          fits-long S (R.message (long_record k)) k (t.condition (long_record k)) (R.agrees (long_record k)).mine (R.agrees (long_record k)).some (R.agrees (long_record k)).fits,
        )
        (R.apart k)

  -- two stations have equal counters
  pub counters-same : (i k : ℕ) (x y : Station) → IsStation S t i x → IsStation S t k y → x.counters ≡ y.counters
  counters-same i k x y a b =
      counters-cong x.counters.minislots y.counters.minislots x.counters.groups y.counters.groups x.counters.next y.counters.next x.counters.urgent y.counters.urgent
      x.counters.long y.counters.long x.counters.resolution y.counters.resolution x.counters.opened y.counters.opened
      x.counters.calendar y.counters.calendar x.counters.position y.counters.position
      (a.minislots ∙ sym b.minislots) (a.groups ∙ sym b.groups) (a.next ∙ sym b.next) (a.urgent ∙ sym b.urgent) (a.long-queue ∙ sym b.long-queue)
      (ext_get_or 0 x.counters.resolution y.counters.resolution (a.arrays.0 ∙ sym b.arrays.0) (λ j h. rq_at i x a j (omega (arith, a.arrays.0)) ∙ sym (rq_at k y b j (omega (arith, a.arrays.0)))))
      (ext_get_or false x.counters.opened y.counters.opened (a.arrays.1 ∙ sym b.arrays.1) (λ j h. mark-at i x a j (omega (arith, a.arrays.1)) ∙ sym (mark-at k y b j (omega (arith, a.arrays.1)))))
      (a.calendar ∙ sym b.calendar) (a.position ∙ sym b.position)

  -- ---- THE TABLE STAYS SOUND

  module _ (ch : Channel) (E : Embodies S t ch) where
    pub is_at : (k : ℕ) → k < length ch.stations → IsStation S t k (station_at ch.stations k)
    is_at k h = subst (λ (i : ℕ). IsStation S t i (station_at ch.stations k)) (zero-add k) (station-at S t 0 ch.stations E.stations k h)

    is-first : IsStation S t 0 (station_at ch.stations 0)
    is-first = is_at 0 (omega (arith, (same_length S t ch E), G.some))

    pub meaning : Sound ch.stations ch.wire
    unfolding asked_minislot
    meaning =
        record {
          distinct = λ i k hi hk q.
              G.indexes.distinct i k (omega (arith, (same_length S t ch E))) (omega (arith, (same_length S t ch E))) (sym (is_at i hi).index ∙ q ∙ (is_at k hk).index);
          within = λ k h. record_within k (station_at ch.stations k) (is_at k h) (omega (arith, (same_length S t ch E)));
          shared = λ k h. counters-same k 0 (station_at ch.stations k) (station_at ch.stations 0) (is_at k h) is-first;
          urgent = λ i lo hi. urgent-at i lo (rw is-first.urgent at hi);
          long = λ i lo hi. long-at i lo (rw is-first.long-queue at hi);
          resolution = λ g i gl gh lo hi. resolving-at g i lo (rw (is-first.resolution g gl gh) at hi);
          wire = λ g j gl gh jl jh.
              ap (λ (r : WireRow). get_or r.minislots (j - 1) silent) (E.wire g gl gh)
              ∙ row_at (index_of S) (length S.indexes) (asked_pair g t.condition) 8 1 (j - 1) silent (omega arith)
              ∙ ap (λ (z : ℕ). leaves (index_of S) (gather (asked_pair g t.condition z) (length S.indexes))) (let w : 1 + (j - 1) ≡ j = omega arith in w)
              ∙ ap (λ (n : ℕ). leaves (index_of S) (gather (asked_pair g t.condition j) n)) (sym (same_length S t ch E))
              ∙ ap (λ (l : List Request). together (map carries l)) (sym (asked_are S t g j 0 ch.stations E.stations));
          size = (E.groups, λ g gl gh. ap (λ (r : WireRow). length r.minislots) (E.wire g gl gh) ∙ length-row (index_of S) (length S.indexes) (asked_pair g t.condition) 8 1);
          owners = λ i x h o. owner_at i x o;
        }
      where
        owner_at : (i x : ℕ) → owner_in (get_or (station_at ch.stations 0).counters.calendar i free_entry) ≡ some x → HasStation ch.stations x
        owner_at i x o =
            on-table ch.stations x
            (on-among ch.stations x ∙ rw E.indexes (owner-among S.indexes p.calendar R.owners i x (rw (is-first.calendar, R.calendar) at o)))

        urgent-at : (i : ℕ) → 1 ≤ i → i ≤ t.h → how_many (at_urgent i) ch.stations ≡ 1
        urgent-at zero lo hi = absurd (omega arith)
        urgent-at (suc i) lo hi = count-all S t (at_urgent (suc i)) (urgent_here (suc i)) (urgent-same (suc i)) ch.stations E.stations (same_length S t ch E) ∙ table.urgent i (omega arith)

        long-at : (i : ℕ) → 1 ≤ i → i ≤ t.n → how_many (covers_long i) ch.stations ≡ 1
        long-at zero lo hi = absurd (omega arith)
        long-at (suc i) lo hi = count-all S t (covers_long (suc i)) (long_here (suc i)) (long_same (suc i)) ch.stations E.stations (same_length S t ch E) ∙ table.long i (omega arith)

        resolving-at : (g i : ℕ) → 1 ≤ i → i ≤ t.rq g → 2 ≤ how_many_stations (at_resolving g i) ch.stations
        resolving-at g zero lo hi = absurd (omega arith)
        resolving-at g (suc i) lo hi =
            rw (
              ← (stations-messages (station_at ch.stations 0).counters g (suc i) ch.stations
                  (all-within (station_at ch.stations 0).counters ch.stations (λ k h. record_within k (station_at ch.stations k) (is_at k h) (omega (arith, (same_length S t ch E))))
                  (λ k h. counters-same k 0 (station_at ch.stations k) (station_at ch.stations 0) (is_at k h) is-first))),
              count-all S t (at_resolving g (suc i)) (resolving_here g (suc i)) (resolving-same g (suc i)) ch.stations E.stations (same_length S t ch E),
            )
            (table.resolution g i (omega arith))

    pub stays-sound : sound_table ch.stations ch.wire ≡ true
    stays-sound = says-sound ch.stations ch.wire meaning
