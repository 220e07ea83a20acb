-- A record of a table that was free and is held: the table stays sound. No test of a sound table but that of the limits tells a held record from a free one: it
-- looks at indexes and counters, which stay, and at what each record gives to a queue or to the wire, which is nothing. Each law goes down the list to the
-- station; a test under a λ is rewritten by a path. Assumes nothing.
use mathlib.Core.Path.{◌≡◌, refl, ap, ◌∙◌}
use mathlib.Core.Bool.{Bool, true, not, ◌&&◌, ◌||◌, cond}
use mathlib.Core.List.{List, [], ◌∷◌}
use Prim.Native.Nat.{ℕ, zero, suc}
use lib.Dec.{eqb, ltb}
use lib.ListN.{length, get_or, set, length-set}
use Rattle.std.specs.List.{list_all, flat_map}
use Rattle.listlaws.specs.Lists.{each_pair}
use Rattle.listlaws.specs.Every.{every_from}
use Rattle.rules.specs.declared.Condition.{Condition}
use Rattle.rules.specs.declared.Condition.TheVariants.{Free, Held}
use Rattle.rules.specs.declared.Counters.{Counters}
use Rattle.rules.specs.declared.Station.{Station}
use Rattle.rules.specs.declared.TableMessage.{TableMessage}
use Rattle.rules.specs.declared.WireRow.{WireRow}
use Rattle.rules.specs.declared.Which.{Which}
use Rattle.rules.specs.declared.Which.TheVariants.{ShortOne, LongOne}
use Rattle.rules.specs.Calendars.{free_entry, positions}
use Rattle.rules.specs.StationLimits.{station_within}
use Rattle.rules.specs.StationCalls.{no_station}
use Rattle.rules.specs.Writing.{record_in, with_record}
use Rattle.rules.proofs.SlotStep.{and_both}
use Rattle.channel_rules.specs.Soundness.{messages_of, table_counters, other_index, indexes_distinct, records_within, same_counters, counters_shared, urgent_place, urgent_sound, long_stretch, long_sound, resolving_place, resolution_sound_at, resolution_sound, asked_request, asked_minislot, same_minislot, row_sound, wire_sound, position_of, is_on_table, entries_on, owners_sound, sound_table}
use Rattle.channel_rules.proofs.SoundTests.{sound-tests, tests-sound}

-- ---- lists

module _ {A : Type 0} (test : A → Bool) where
  -- all pass, with one in another's place that passes
  each_set : (l : List A) (k : ℕ) (x : A) → list_all test l ≡ true → test x ≡ true → list_all test (set l k x) ≡ true
  each_set [] k x e h = refl
  each_set (y ∷ l) zero x e h = rw h (and_both (test y) (list_all test l) e).1
  each_set (y ∷ l) (suc k) x e h = let (a, b) = and_both (test y) (list_all test l) e in rw a (each_set l k x b h)

-- station k of a table with a condition in one of its records
abbrev pub put : Which → Condition → List Station → ℕ → List Station
put o c l k = set l k (with_record o (get_or l k no_station) c)

module _ (o : Which) (c : Condition) where
  index_stays : (s : Station) → (with_record o s c).index ≡ s.index
  index_stays s = go o
    where
      go : (o : Which) → (with_record o s c).index ≡ s.index
      go ShortOne = refl
      go LongOne = refl

  counters-stay : (s : Station) → (with_record o s c).counters ≡ s.counters
  counters-stay s = go o
    where
      go : (o : Which) → (with_record o s c).counters ≡ s.counters
      go ShortOne = refl
      go LongOne = refl

  -- ---- what goes by indexes and counters alone

  module _ (test : Station → Bool) (stays : (s : Station) → test (with_record o s c) ≡ test s) where
    each-put : (l : List Station) (k : ℕ) → list_all test (put o c l k) ≡ list_all test l
    each-put [] k = refl
    each-put (s ∷ l) zero = ap (λ (b : Bool). b && list_all test l) (stays s)
    each-put (s ∷ l) (suc k) = ap (λ (b : Bool). test s && b) (each-put l k)

  others_put : (l : List Station) (k : ℕ) → each_pair other_index (put o c l k) ≡ each_pair other_index l
  others_put [] k = refl
  others_put (s ∷ l) zero = ap (λ (n : ℕ). list_all (λ (x : Station). not (eqb n x.index)) l && each_pair other_index l) (index_stays s)
  others_put (s ∷ l) (suc k) = λ i. each-put (other_index s) (λ x. rw (index_stays x)) l k i && others_put l k i

  pub position-put : (x : ℕ) (l : List Station) (k : ℕ) → position_of x (put o c l k) ≡ position_of x l
  position-put x [] k = refl
  position-put x (s ∷ l) zero = rw (index_stays s)
  position-put x (s ∷ l) (suc k) = ap (λ (n : ℕ). cond (eqb s.index x) 0 (suc n)) (position-put x l k)

  counters-put : (l : List Station) (k : ℕ) → table_counters (put o c l k) ≡ table_counters l
  counters-put [] k = refl
  counters-put (s ∷ l) zero = counters-stay s
  counters-put (s ∷ l) (suc k) = refl

  pub length-put : (l : List Station) (k : ℕ) → length (put o c l k) ≡ length l
  length-put l k = length-set l k (with_record o (get_or l k no_station) c)

  pub on-put : (x : ℕ) (l : List Station) (k : ℕ) → is_on_table (put o c l k) x ≡ is_on_table l x
  on-put x l k = λ i. ltb (position-put x l k i) (length-put l k i)

-- ---- what the records give to a queue or to the wire: a held one what a free one does

module _ {E : Type 0} (view : ℕ → Condition → List E) (t : ℕ) (same : (x : ℕ) → view x (Held t) ≡ view x Free) where
  given : (o : Which) (l : List Station) (k : ℕ) → record_in o (get_or l k no_station) ≡ Free
      → flat_map (λ (m : TableMessage). view m.index m.condition) (messages_of (put o (Held t) l k)) ≡ flat_map (λ (m : TableMessage). view m.index m.condition) (messages_of l)
  given o [] k e = refl
  given ShortOne (s ∷ l) zero e = rw (e, same s.index)
  given LongOne (s ∷ l) zero e = rw (e, same s.index)
  given o (s ∷ l) (suc k) e = rw (given o l k e)

-- ---- THE TABLE STAYS SOUND

module _ (o : Which) (t : ℕ) (l : List Station) (k : ℕ) (free : record_in o (get_or l k no_station) ≡ Free) where
  abbrev now : List Station
  now = put o (Held t) l k

  counters-now : table_counters now ≡ table_counters l
  counters-now = counters-put o (Held t) l k

  distinct-now : indexes_distinct now ≡ indexes_distinct l
  unfolding indexes_distinct
  distinct-now = others_put o (Held t) l k

  shared-now : counters_shared now ≡ counters_shared l
  unfolding counters_shared
  shared-now =
      ap (λ (c : Counters). list_all (λ (s : Station). same_counters c s.counters) now) counters-now
      ∙ each-put o (Held t) (λ s. same_counters (table_counters l) s.counters) (λ s. ap (same_counters (table_counters l)) (counters-stay o (Held t) s)) l k

  urgent-now : urgent_sound now ≡ urgent_sound l
  unfolding urgent_sound
  urgent-now = rw (counters-now, given (λ x c. urgent_place c) t (λ x. refl) o l k free)

  long-now : long_sound now ≡ long_sound l
  unfolding long_sound
  long-now = rw (counters-now, given (λ x c. long_stretch c) t (λ x. refl) o l k free)

  queue-now : (g r : ℕ) → resolution_sound_at now g r ≡ resolution_sound_at l g r
  queue-now g r = rw (given (λ x c. resolving_place g c) t (λ x. refl) o l k free)

  resolution-now : resolution_sound now ≡ resolution_sound l
  unfolding resolution_sound
  resolution-now = λ i. every_from (λ g r. queue-now (suc g) r i) 0 (counters-now i).resolution

  minislot-now : (g j : ℕ) → asked_minislot now g j ≡ asked_minislot l g j
  unfolding asked_minislot
  minislot-now g j = rw (given (asked_request g j) t (λ x. refl) o l k free)

  row_now : (g : ℕ) (row : WireRow) → row_sound now g row ≡ row_sound l g row
  row_now g row = λ i. eqb (length row.minislots) 8 && every_from (λ j slot. same_minislot slot (minislot-now g (suc j) i)) 0 row.minislots

  wire-now : (wire : List WireRow) → wire_sound now wire ≡ wire_sound l wire
  unfolding wire_sound
  wire-now wire = λ i. eqb (length wire) 8 && every_from (λ g row. row_now (suc g) row i) 0 wire

  owners-now : owners_sound now ≡ owners_sound l
  unfolding owners_sound entries_on
  owners-now =
      λ i. eqb (length (counters-now i).calendar) positions && list_all (λ x. eqb x free_entry || on-put o (Held t) x l k i) (counters-now i).calendar

  pub sound-put : (wire : List WireRow) → sound_table l wire ≡ true → station_within (with_record o (get_or l k no_station) (Held t)) ≡ true → sound_table now wire ≡ true
  unfolding records_within
  sound-put wire e h =
      let a = sound-tests l wire e in
      tests-sound now wire
      (record {
        distinct = distinct-now ∙ a.distinct;
        within = each_set station_within l k (with_record o (get_or l k no_station) (Held t)) a.within h;
        shared = shared-now ∙ a.shared;
        urgent = urgent-now ∙ a.urgent;
        long = long-now ∙ a.long;
        resolution = resolution-now ∙ a.resolution;
        wire = wire-now wire ∙ a.wire;
        owners = owners-now ∙ a.owners;
      })
