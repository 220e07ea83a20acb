-- A table whose records are rewritten: the same indexes, other counters that all share, and each message moved by one rule to a condition of H or N or to
-- none. It is sound beside a silent wire if the counters are within their limits with empty resolution queues and the same calendar, the records stay within
-- their limits, and each place of H and N is some place of the table before. Assumes nothing.
use mathlib.Core.Path.{◌≡◌, refl, sym, ap, subst, ◌∙◌}
use mathlib.Core.Bool.{Bool, true}
use mathlib.Core.List.{List, [], ◌∷◌, map}
use mathlib.Core.Option.{some}
use Prim.Native.Nat.{ℕ, zero, suc, ◌-◌, ◌≤◌, ◌<◌}
use native.Mathlib.Omega.{arith}
use lib.ListN.{length, get_or, replicate, length-map}
use borrow.Author.Tests.{le-leb}
use Rattle.requests.specs.Together.{Request, carries, silent, together}
use Rattle.rules.specs.declared.Counters.{Counters}
use Rattle.rules.specs.declared.Station.{Station}
use Rattle.rules.specs.declared.WireRow.{WireRow}
use Rattle.rules.specs.declared.Condition.{Condition}
use Rattle.rules.specs.declared.Condition.TheVariants.{Free, Held, Fresh, Asked, Resolving, Urgent, Long}
use Rattle.rules.specs.Calendars.{free_entry, owner_in}
use Rattle.rules.specs.Limits.{within_limits}
use Rattle.rules.specs.StationLimits.{holding, resolution_at, condition_within, messages_within, station_within}
use Rattle.rules.specs.StationCalls.{no_station}
use Rattle.channel_rules.specs.Soundness.{table_counters, messages_of, asked_request, asked_requests, asked_minislot, sound_table}
use Rattle.channel_rules.specs.SoundMeaning.{at_urgent, covers_long, station_at, how_many, HasStation, Sound}
use Rattle.channel_rules.specs.ChannelCalls.{blank_row, blank_wire}
use Rattle.rules.proofs.LimitLaws.{RecordsIn, station_in}
use Rattle.channel_rules.proofs.SoundLists.{AllWithin}
use Rattle.channel_rules.proofs.SoundMeans.{all-within, says-sound}
use Rattle.coming_rules.specs.Quiet.{quiet_condition}

-- ---- lists

-- each of a list of equal entries, past its end too
pub at_same {ℓ} : {A : Type ℓ} (n i : ℕ) (x : A) → get_or (replicate n x) i x ≡ x
at_same zero i x = refl
at_same (suc n) zero x = refl
at_same (suc n) (suc i) x = at_same n i x

pub map_at : {B : Type 0} (f : Station → B) (d : B) (l : List Station) (k : ℕ) → k < length l → get_or (map f l) k d ≡ f (get_or l k no_station)
map_at f d [] k h = absurd (omega arith)
map_at f d (s ∷ l) zero h = refl
map_at f d (s ∷ l) (suc k) h = map_at f d l k (omega arith)

-- ---- a station rewritten

module _ (c' : Counters) (φ : Condition → Condition) where
  abbrev pub redone : Station → Station
  redone s = record { counters = c'; index = s.index; short = holding (φ s.short.condition); long = holding (φ s.long.condition) }

  pub counters-redone : (l : List Station) → 1 ≤ length l → table_counters (map redone l) ≡ c'
  counters-redone [] h = absurd (omega arith)
  counters-redone (s ∷ l) h = refl

  -- as many messages pass a test as passed another before
  module _ (c : Counters) (test before : Condition → Bool) (same : (k : Condition) → condition_within c k ≡ true → test (φ k) ≡ before k) where
    pub many-redone : (l : List Station) → AllWithin c l → how_many test (map redone l) ≡ how_many before l
    many-redone [] w = refl
    many-redone (s ∷ l) w = rw (same s.short.condition w.0.short, same s.long.condition w.0.long, many-redone l w.1)

  -- nobody is asked
  module _ (calm : (k : Condition) → quiet_condition (φ k) ≡ φ k) where
    asks_none : (g j x : ℕ) (k : Condition) → quiet_condition k ≡ k → asked_request g j x k ≡ []
    asks_none g j x Free e = refl
    asks_none g j x (Held t) e = refl
    asks_none g j x (Fresh t) e = refl
    asks_none g j x (Asked h i t) e = let z : ◌≡◌ {A = ℕ} 0 1 = cc in absurd (omega arith)
    asks_none g j x (Resolving h i t) e = refl
    asks_none g j x (Urgent i) e = refl
    asks_none g j x (Long f l t) e = refl

    none-asked : (g j : ℕ) (l : List Station) → asked_requests g j (messages_of (map redone l)) ≡ []
    none-asked g j [] = refl
    none-asked g j (s ∷ l) =
        rw (asks_none g j s.index (φ s.short.condition) (calm s.short.condition), asks_none g j s.index (φ s.long.condition) (calm s.long.condition), none-asked g j l)

    pub wire-silent : (g j : ℕ) (l : List Station) → get_or (get_or blank_wire (g - 1) blank_row).minislots (j - 1) silent ≡ asked_minislot (map redone l) g j
    unfolding asked_minislot together
    wire-silent g j l =
        ap (λ (r : WireRow). get_or r.minislots (j - 1) silent) (at_same 8 (g - 1) blank_row) ∙ at_same 8 (j - 1) silent
        ∙ sym (ap (λ (z : List Request). together (map carries z)) (none-asked g j l))

-- ---- THE TABLE IS SOUND

-- a test on conditions that holds of just one message after holds of just one before: place j of a queue of n
pub record From (c : Counters) (φ : Condition → Condition) (test : Condition → Bool) (at : ℕ → Condition → Bool) (n : ℕ) : Type 0 where
  pub place : ℕ
  pub low : 1 ≤ place
  pub high : place ≤ n
  pub same : (k : Condition) → condition_within c k ≡ true → test (φ k) ≡ at place k

module _ (stations : List Station) (rows : List WireRow) (there : 1 ≤ length stations) (is : Sound stations rows) (c' : Counters) (φ : Condition → Condition)
    (calm : (k : Condition) → quiet_condition (φ k) ≡ φ k) (limits : within_limits c' ≡ true) (calendar : c'.calendar ≡ (table_counters stations).calendar)
    (none : (g : ℕ) → resolution_at c' g ≡ 0)
    (inside : (a b : Condition) → RecordsIn (table_counters stations) a b → RecordsIn c' (φ a) (φ b))
    (urgent : (i : ℕ) → 1 ≤ i → i ≤ c'.urgent → From (table_counters stations) φ (at_urgent i) at_urgent (table_counters stations).urgent)
    (long : (i : ℕ) → 1 ≤ i → i ≤ c'.long → From (table_counters stations) φ (covers_long i) covers_long (table_counters stations).long) where
  abbrev now : List Station
  now = map (redone c' φ) stations

  same_length : length now ≡ length stations
  same_length = length-map stations (redone c' φ)

  station-now : (k : ℕ) → k < length now → station_at now k ≡ redone c' φ (station_at stations k)
  station-now k h = map_at (redone c' φ) no_station stations k (omega (arith, same_length))

  all_in : AllWithin (table_counters stations) stations
  all_in = all-within (table_counters stations) stations is.within is.shared

  records : (k : ℕ) → k < length stations → RecordsIn c' (φ (station_at stations k).short.condition) (φ (station_at stations k).long.condition)
  records k h =
      inside _ _ (subst (λ (c : Counters). RecordsIn c (station_at stations k).short.condition (station_at stations k).long.condition) (is.shared k h) (station_in (station_at stations k) (is.within k h)).records)

  station-within : (k : ℕ) → k < length stations → station_within (redone c' φ (station_at stations k)) ≡ true
  unfolding station_within messages_within
  station-within k h =
      let r = records k h in
      rw (limits, le-leb (station_at stations k).index 923 (station_in (station_at stations k) (is.within k h)).index, r.short, r.brief, r.long, r.lengthy, r.apart)

  counted : (test : Condition → Bool) (at : ℕ → Condition → Bool) (n : ℕ) → ((i : ℕ) → 1 ≤ i → i ≤ n → how_many (at i) stations ≡ 1) → From (table_counters stations) φ test at n → how_many test now ≡ 1
  counted test at n one f = many-redone c' φ (table_counters stations) test (at f.place) f.same stations all_in ∙ one f.place f.low f.high

  first-now : table_counters now ≡ c'
  first-now = counters-redone c' φ stations there

  has : (x : ℕ) → HasStation stations x → HasStation now x
  has x s =
      record {
        which = s.which;
        there = omega (arith, same_length, s.there);
        named = ap (λ (z : Station). z.index) (map_at (redone c' φ) no_station stations s.which s.there) ∙ s.named;
      }

  sound-now : Sound now blank_wire
  sound-now =
      record {
        distinct = λ i k a b q.
            is.distinct i k (omega (arith, same_length)) (omega (arith, same_length))
            (sym (ap (λ (z : Station). z.index) (station-now i a)) ∙ q ∙ ap (λ (z : Station). z.index) (station-now k b));
        within = λ k h. rw (station-now k h) (station-within k (omega (arith, same_length)));
        shared = λ k h. ap (λ (z : Station). z.counters) (station-now k h) ∙ sym first-now;
        urgent = λ i lo hi. counted (at_urgent i) at_urgent (table_counters stations).urgent is.urgent (urgent i lo (subst (λ (c : Counters). i ≤ c.urgent) first-now hi));
        long = λ i lo hi. counted (covers_long i) covers_long (table_counters stations).long is.long (long i lo (subst (λ (c : Counters). i ≤ c.long) first-now hi));
        resolution = λ g i gl gh lo hi. absurd (let q : i ≤ resolution_at c' g = subst (λ (c : Counters). i ≤ resolution_at c g) first-now hi in omega (arith, none g, lo, q));
        wire = λ g j gl gh jl jh. wire-silent c' φ calm g j stations;
        size = (refl, λ g gl gh. ap (λ (r : WireRow). length r.minislots) (at_same 8 (g - 1) blank_row));
        owners = λ i x h q.
            has x (is.owners i x h (subst (λ (l : List ℕ). owner_in (get_or l i free_entry) ≡ some x) calendar (subst (λ (c : Counters). owner_in (get_or c.calendar i free_entry) ≡ some x) first-now q)));
      }

  pub redone-sound : sound_table now blank_wire ≡ true
  redone-sound = says-sound now blank_wire sound-now
