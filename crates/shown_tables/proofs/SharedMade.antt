-- EVERY SOUND TABLE IS SHOWN BY SOME PLAIN CHANNEL. The start and the shared table are made from the records; a group that the records do not keep, 0 or one
-- above 8, is as at the start. The clauses of a sound table, place by place, are then what proofs/Showing asks of the shared table; and records and wire are
-- those of the shared table. Assumes nothing.
use mathlib.Core.Path.{◌≡◌, refl, sym, ap, subst, ◌∙◌}
use mathlib.Core.Bool.{Bool, true, false, ◌&&◌, cond, and-eq-true_iff}
use mathlib.Core.List.{List, [], ◌∷◌}
use mathlib.Core.Logic.{by_cases}
use Prim.Native.Nat.{ℕ, zero, suc, ◌+◌, ◌-◌, ◌≤◌, ◌<◌}
use native.Mathlib.Omega.{arith}
use native.Mathlib.Nat.{zero-add}
use native.Mathlib.Decide.{dec_lt}
use lib.Dec.{eqb, leb, ltb}
use lib.ListN.{length, get_or}
use borrow.Author.Tests.{eqb-true, leb-true, le-ltb}
use Rattle.minislot.specs.declared.Minislot.{Minislot}
use Rattle.listlaws.specs.Every.{every_from}
use Rattle.std.specs.List.{list_all}
use Rattle.listlaws.proofs.Beyond.{get_d_any}
use Rattle.listlaws.proofs.Table.{every-at}
use Rattle.rules.specs.declared.Counters.{Counters}
use Rattle.rules.specs.declared.Station.{Station}
use Rattle.rules.specs.declared.WireRow.{WireRow}
use Rattle.rules.specs.declared.Condition.{Condition}
use Rattle.rules.specs.declared.Condition.TheVariants.{Free, Held, Fresh, Asked, Resolving, Urgent, Long}
use Rattle.rules.specs.Calendars.{positions}
use Rattle.rules.specs.Calls.{Start, index}
use Rattle.rules.specs.Limits.{between, resolution_within, opened_within, groups_within}
use Rattle.rules.specs.Messages.{short_record, long_record}
use Rattle.rules.specs.Plain.{on_channel}
use Rattle.rules.specs.StationCalls.{no_station}
use Rattle.rules.specs.StationLimits.{is_total, resolution_at, condition_within, short_within, long_within}
use Rattle.rules.proofs.LimitLaws.{between-bounds, calendar-in, arrays-lengths}
use Rattle.rules.proofs.Records.{by_kind}
use Rattle.rules.proofs.Relation.{Same}
use Rattle.rules.proofs.Shared.{Table, index_of, asked_pair, records}
use Rattle.rules.proofs.SlotStep.{and_both}
use Rattle.rules.proofs.WireRows.{minislot_row, Indexes}
use Rattle.rules.proofs.Walking.{IsStation, AreStations}
use Rattle.channel_rules.specs.Soundness.{table_counters, entry_on, entries_on, owners_sound, sound_table}
use Rattle.channel_rules.specs.SoundMeaning.{at_urgent, covers_long, at_resolving, how_many, Sound}
use Rattle.channel_rules.proofs.Calendared.{entries-same, free-same}
use Rattle.channel_rules.proofs.Embody.{Embodies, GoodStart}
use Rattle.channel_rules.proofs.Sounding.{InsideTable, TableSound, urgent_here, long_here, resolving_here}
use Rattle.channel_rules.proofs.SoundKept.{count-all, urgent-same, long_same, resolving-same}
use Rattle.channel_rules.proofs.SoundLists.{stations-messages}
use Rattle.channel_rules.proofs.SoundMeans.{all_in, sound-says}
use Rattle.channel_rules.proofs.SoundTests.{sound-tests}
use Rattle.sound_slots.proofs.ChannelLaws.{start_made, condition_in, are_made, limits, counters-shared, same_length, is_made, indexes, records-within, outside, apart, wire-row}
use Rattle.shown_tables.proofs.Made.{plain_made}
use Rattle.shown_tables.proofs.Showing.{Showable, shown-same}

-- ---- the shared table

abbrev pub rq_in : List ℕ → ℕ → ℕ
rq_in l zero = 0
rq_in l (suc g) = get_or l g 0

abbrev pub mark_in : List Bool → ℕ → Bool
mark_in l zero = true
mark_in l (suc g) = get_or l g true

abbrev pub table_shown : List Station → Table
table_shown l =
    record {
      h = (table_counters l).urgent;
      n = (table_counters l).long;
      rq = rq_in (table_counters l).resolution;
      opened = mark_in (table_counters l).opened;
      next = (table_counters l).next;
      calendar = (table_counters l).calendar;
      position = (table_counters l).position;
      condition = condition_in l;
    }

rq_at : (l : List ℕ) (g : ℕ) → 1 ≤ g → get_or l (g - 1) 0 ≡ rq_in l g
rq_at l zero h = absurd (omega arith)
rq_at l (suc g) h = ap (λ (i : ℕ). get_or l i 0) (let e : suc g - 1 ≡ g = omega arith in e)

mark-at : (l : List Bool) (g : ℕ) → 1 ≤ g → g ≤ length l → get_or l (g - 1) false ≡ mark_in l g
mark-at l zero lo hi = absurd (omega arith)
mark-at l (suc g) lo hi = ap (λ (i : ℕ). get_or l i false) (let e : suc g - 1 ≡ g = omega arith in e) ∙ get_d_any l g false true (omega arith)

get-past {ℓ} : {A : Type ℓ} (l : List A) (k : ℕ) (d : A) → length l ≤ k → get_or l k d ≡ d
get-past [] k d h = refl
get-past (x ∷ l) zero d h = absurd (omega arith)
get-past (x ∷ l) (suc k) d h = get-past l k d (omega arith)

-- ---- the counters' arrays

arrays_in : (c : Counters) → groups_within c ≡ true → (every_from (resolution_within c.groups) 0 c.resolution ≡ true) × (every_from (opened_within c.groups) 0 c.opened ≡ true)
unfolding groups_within
arrays_in c e =
    let lr = eqb (length c.resolution) 8 in
    let lo = eqb (length c.opened) 8 in
    let er = every_from (resolution_within c.groups) 0 c.resolution in
    let eo = every_from (opened_within c.groups) 0 c.opened in
    let p = (and-eq-true_iff (lr && lo && er) eo).0 e in
    (((and-eq-true_iff (lr && lo) er).0 p.0).1, p.1)

module _ (c : Counters) (w : groups_within c ≡ true) where
  rq-most : (g : ℕ) → rq_in c.resolution g ≤ 4095
  rq-most zero = omega arith
  rq-most (suc g) =
      by_cases (dec_lt g (length c.resolution))
      (λ h. go (ltb g c.groups) (every-at (resolution_within c.groups) 0 c.resolution (arrays_in c w).0 g h))
      (λ h. omega (arith, get-past c.resolution g 0 (omega arith)))
    where
      go : (b : Bool) → cond b (leb (get_or c.resolution g 0) 4095) (eqb (get_or c.resolution g 0) 0) ≡ true → get_or c.resolution g 0 ≤ 4095
      go true e = leb-true (get_or c.resolution g 0) 4095 e
      go false e = omega (arith, eqb-true (get_or c.resolution g 0) 0 e)

  idle-groups : (g : ℕ) → c.groups < g → (rq_in c.resolution g ≡ 0) × (mark_in c.opened g ≡ true)
  idle-groups zero h = absurd (omega arith)
  idle-groups (suc g) h = (
    by_cases (dec_lt g (length c.resolution))
        (λ v.
        eqb-true (get_or c.resolution g 0) 0
        (subst (λ (b : Bool). cond b (leb (get_or c.resolution g 0) 4095) (eqb (get_or c.resolution g 0) 0) ≡ true) (le-ltb g c.groups (omega arith))
        (every-at (resolution_within c.groups) 0 c.resolution (arrays_in c w).0 g v)))
        (λ v. get-past c.resolution g 0 (omega arith)),
    by_cases (dec_lt g (length c.opened))
        (λ v.
        subst (λ (b : Bool). cond b true (get_or c.opened g true) ≡ true) (le-ltb g c.groups (omega arith)) (every-at (opened_within c.groups) true c.opened (arrays_in c w).1 g v))
        (λ v. get-past c.opened g true (omega arith)),
  )

-- ---- a condition within its limits is inside the table

inside-within : (l : List Station) (x : Condition) → condition_within (table_counters l) x ≡ true → InsideTable (start_made l) (table_shown l) x
unfolding condition_within
inside-within l Free e = tt
inside-within l (Held t) e = between-bounds 1 t 255 e
inside-within l (Fresh t) e = between-bounds 1 t 255 e
inside-within l (Asked g j t) e =
    let c = table_counters l in
    let p = and_both (between 1 g c.groups && between 1 j c.minislots) (is_total t) e in
    let q = and_both (between 1 g c.groups) (between 1 j c.minislots) p.0 in
    let a = between-bounds 1 g c.groups q.0 in
    let b = between-bounds 1 j c.minislots q.1 in
    let d = between-bounds 1 t 255 p.1 in
    (a.0, a.1, b.0, b.1, d.0, d.1)
inside-within l (Resolving g i t) e =
    let c = table_counters l in
    let p = and_both (between 1 g c.groups && between 1 i (resolution_at c g)) (is_total t) e in
    let q = and_both (between 1 g c.groups) (between 1 i (resolution_at c g)) p.0 in
    let a = between-bounds 1 g c.groups q.0 in
    let b = between-bounds 1 i (resolution_at c g) q.1 in
    let d = between-bounds 1 t 255 p.1 in
    (a.0, a.1, b.0, subst (λ (r : ℕ). i ≤ r) (rq_at c.resolution g a.0) b.1, d.0, d.1)
inside-within l (Urgent i) e = between-bounds 1 i (table_counters l).urgent e
inside-within l (Long f n t) e =
    let c = table_counters l in
    let p = and_both (between 2 t 255 && between 1 n t && leb 1 f) (leb (f + n) (c.long + 1)) e in
    let q = and_both (between 2 t 255 && between 1 n t) (leb 1 f) p.0 in
    let r = and_both (between 2 t 255) (between 1 n t) q.0 in
    let a = between-bounds 2 t 255 r.0 in
    let b = between-bounds 1 n t r.1 in
    (leb-true 1 f q.1, leb-true (f + n) (c.long + 1) p.1, b.0, b.1, a.0, a.1)

brief-free : short_within Free ≡ true
unfolding short_within
brief-free = refl

lengthy-free : long_within Free ≡ true
unfolding long_within
lengthy-free = refl

module _ (stations : List Station) (wire : List WireRow) (some : 1 ≤ length stations) (sound : sound_table stations wire ≡ true) where
  abbrev S : Start
  S = start_made stations

  abbrev t : Table
  t = table_shown stations

  says : Sound stations wire
  says = sound-says stations wire sound

  as_many : length S.indexes ≡ length stations
  as_many = same_length stations wire some sound

  arrays : groups_within (table_counters stations) ≡ true
  arrays = (limits stations wire some sound).arrays

  -- ---- the records are those of the shared table

  is-shown : (k : ℕ) → k < length stations → IsStation (start_made stations) (table_shown stations) k (get_or stations k no_station)
  is-shown k h =
      let a = is_made stations wire some sound k h in
      let n = arrays-lengths (table_counters stations) arrays in
      record {
        index = a.index;
        minislots = a.minislots;
        groups = a.groups;
        next = a.next;
        urgent = a.urgent;
        long-queue = a.long-queue;
        arrays = a.arrays;
        resolution = λ g lo hi. a.resolution g lo hi ∙ rq_at (table_counters stations).resolution g lo;
        mark = λ g lo hi. a.mark g lo hi ∙ mark-at (table_counters stations).opened g lo (omega (arith, n.1));
        calendar = a.calendar;
        position = a.position;
        short = a.short;
        long = a.long;
      }

  are_shown : AreStations (start_made stations) (table_shown stations) 0 stations
  are_shown =
      are_made (start_made stations) (table_shown stations) 0 stations
      (λ k h. subst (λ (i : ℕ). IsStation (start_made stations) (table_shown stations) i (get_or stations k no_station)) (sym (zero-add k)) (is-shown k h))

  pub shown_embodies : Embodies (start_made stations) (table_shown stations) (record { stations = stations; wire = wire })
  shown_embodies =
      record {
        stations = are_shown;
        indexes = refl;
        wire = λ g lo hi.
            ap (λ (l : List Minislot). record { minislots = l })
            (wire-row stations wire some sound g lo hi ∙ ap (λ (n : ℕ). minislot_row (index_of S) n (asked_pair g (condition_in stations)) 8 1) (sym as_many));
        groups = says.size.0;
      }

  pub shown-start : length stations ≤ 64 → GoodStart (start_made stations)
  shown-start few =
      let w = limits stations wire some sound in
      record {
        m-low = w.minislots.0;
        m-high = w.minislots.1;
        n-low = w.groups.0;
        n-high = w.groups.1;
        some = omega (arith, as_many);
        few = omega (arith, as_many);
        indexes = subst (Indexes (index S)) (sym as_many) (indexes stations wire some sound);
      }

  -- ---- the clauses of a sound table

  beyond : (k : ℕ) → records S ≤ k → condition_in stations k ≡ Free
  beyond k h = outside stations wire some sound k (omega (arith, as_many))

  -- of each record, if it is so of those of the table and of a free one
  each-short : (P : Condition → Type 0) → P Free → ((s : ℕ) → s < length stations → P (condition_in stations (short_record s))) → (s : ℕ) → P (condition_in stations (short_record s))
  each-short P none_free here s = by_cases (dec_lt s (length stations)) (here s) (λ h. subst P (sym (beyond (short_record s) (omega (arith, as_many)))) none_free)

  each_long : (P : Condition → Type 0) → P Free → ((s : ℕ) → s < length stations → P (condition_in stations (long_record s))) → (s : ℕ) → P (condition_in stations (long_record s))
  each_long P none_free here s = by_cases (dec_lt s (length stations)) (here s) (λ h. subst P (sym (beyond (long_record s) (omega (arith, as_many)))) none_free)

  inside : (k : ℕ) → InsideTable S t (condition_in stations k)
  inside k =
      by_kind (λ (k : ℕ). InsideTable (start_made stations) (table_shown stations) (condition_in stations k))
      (each-short (InsideTable (start_made stations) (table_shown stations)) tt (λ s h. inside-within stations (condition_in stations (short_record s)) (subst (λ (c : Counters). condition_within c (condition_in stations (short_record s)) ≡ true) (counters-shared stations wire some sound s h) (records-within stations wire some sound s h).short)))
      (each_long (InsideTable (start_made stations) (table_shown stations)) tt (λ s h. inside-within stations (condition_in stations (long_record s)) (subst (λ (c : Counters). condition_within c (condition_in stations (long_record s)) ≡ true) (counters-shared stations wire some sound s h) (records-within stations wire some sound s h).long)))
      k

  crowds : (g i : ℕ) → 1 ≤ g → g ≤ 8 → suc i ≤ resolution_at (table_counters stations) g → 2 ≤ how_many (at_resolving g (suc i)) stations
  crowds g i lo hi h =
      subst (λ (n : ℕ). 2 ≤ n) (sym (stations-messages (table_counters stations) g (suc i) stations (all_in stations wire sound))) (says.resolution g (suc i) lo hi (omega arith) h)

  two_at : (g i : ℕ) → i < rq_in (table_counters stations).resolution g → 2 ≤ how_many (at_resolving g (suc i)) stations
  two_at zero i h = absurd (omega arith)
  two_at (suc g) i h =
      by_cases (dec_lt g 8)
      (λ v. crowds (suc g) i (omega arith) (omega arith) (omega (arith, rq_at (table_counters stations).resolution (suc g) (omega arith))))
      (λ v. absurd (omega (arith, get-past (table_counters stations).resolution g 0 (omega (arith, (arrays-lengths (table_counters stations) arrays).0)))))

  table-sound : TableSound (start_made stations) (table_shown stations)
  table-sound =
      let w = limits stations wire some sound in
      record {
        urgent = λ i h. sym (count-all S t (at_urgent (suc i)) (urgent_here (suc i)) (urgent-same (suc i)) stations are_shown (sym as_many)) ∙ says.urgent (suc i) (omega arith) (omega arith);
        long = λ i h. sym (count-all S t (covers_long (suc i)) (long_here (suc i)) (long_same (suc i)) stations are_shown (sym as_many)) ∙ says.long (suc i) (omega arith) (omega arith);
        resolution = λ g i h. subst (λ (n : ℕ). 2 ≤ n) (count-all S t (at_resolving g (suc i)) (resolving_here g (suc i)) (resolving-same g (suc i)) stations are_shown (sym as_many)) (two_at g i h);
        inside = inside;
        hmax = w.urgent;
        nmax = w.long;
        rmax = rq-most (table_counters stations) arrays;
        idle = idle-groups (table_counters stations) arrays;
        low = w.next.0;
        high = w.next.1;
      }

  owners-on : on_channel S.indexes (table_counters stations).calendar ≡ true
  unfolding owners_sound entries_on
  owners-on =
      sym (entries-same stations (table_counters stations).calendar)
      ∙ (and_both (eqb (length (table_counters stations).calendar) positions) (list_all (entry_on stations) (table_counters stations).calendar) (sound-tests stations wire sound).owners).1

  showable : Showable (start_made stations) (table_shown stations)
  showable =
      let d = calendar-in (table_counters stations) (limits stations wire some sound).calendar in
      record {
        sound = table-sound;
        brief = each-short (λ (c : Condition). short_within c ≡ true) brief-free (λ s h. (records-within stations wire some sound s h).brief);
        lengthy = each_long (λ (c : Condition). long_within c ≡ true) lengthy-free (λ s h. (records-within stations wire some sound s h).lengthy);
        apart = apart stations wire some sound;
        outside = beyond;
        position = d.position;
        size = d.size;
        owners = owners-on;
        free = sym (free-same (table_counters stations).calendar) ∙ d.free;
      }

  -- THE PLAIN CHANNEL SHOWS THE TABLE
  pub table-shown : Same (start_made stations) (plain_made (start_made stations) (table_shown stations)) (table_shown stations)
  table-shown = shown-same (start_made stations) (table_shown stations) showable
