-- What the paper says of a sound table (paper 01, "The channel"; paper 02, T-02 and T-04), clause by clause, place by place. The test
-- `sound_table` says the same: proofs/SoundMeans. Assumes nothing.
use Rattle.std.specs.Prelude.{◌≡◌, Bool, true, false, ◌&&◌, ◌||◌, List, ℕ, ◌+◌, ◌-◌, ◌≤◌, ◌<◌, eqb, leb, ltb, length, get_or}
use Rattle.std.proofs.Math.Option.{some}
use Rattle.requests.specs.Together.{silent}
use Rattle.rules.specs.declared.Station.{Station}
use Rattle.rules.specs.declared.WireRow.{WireRow}
use Rattle.listlaws.specs.Lists.{count_of}
use Rattle.rules.specs.declared.Condition.{Condition}
use Rattle.rules.specs.declared.Condition.TheVariants.{Free, Held, Fresh, Asked, Resolving, Urgent, Long}
use Rattle.rules.specs.Calendars.{free_entry, owner_in}
use Rattle.rules.specs.StationLimits.{resolution_at, station_within}
use Rattle.rules.specs.StationCalls.{no_station}
use Rattle.rules.specs.declared.TableMessage.{TableMessage}
use Rattle.channel_rules.specs.Soundness.{table_counters, messages_of, asked_minislot}
use Rattle.channel_rules.specs.ChannelCalls.{blank_row}

-- a message stands at place i of the urgent queue; its stretch covers place i of the long queue; it stands at place i of group g's
-- resolution queue
abbrev pub at_urgent : ℕ → Condition → Bool
at_urgent i Free = false
at_urgent i (Held t) = false
at_urgent i (Fresh t) = false
at_urgent i (Asked g j t) = false
at_urgent i (Resolving g j t) = false
at_urgent i (Urgent j) = eqb i j
at_urgent i (Long f l t) = false

abbrev pub covers_long : ℕ → Condition → Bool
covers_long i Free = false
covers_long i (Held t) = false
covers_long i (Fresh t) = false
covers_long i (Asked g j t) = false
covers_long i (Resolving g j t) = false
covers_long i (Urgent j) = false
covers_long i (Long f l t) = leb f i && ltb i (f + l)

abbrev pub at_resolving : ℕ → ℕ → Condition → Bool
at_resolving g i Free = false
at_resolving g i (Held t) = false
at_resolving g i (Fresh t) = false
at_resolving g i (Asked h j t) = false
at_resolving g i (Resolving h j t) = eqb h g && eqb i j
at_resolving g i (Urgent j) = false
at_resolving g i (Long f l t) = false

-- the k-th station; how many messages of the table's stations pass a test on their conditions, and how many stations have one that does
abbrev pub station_at : List Station → ℕ → Station
station_at stations k = get_or stations k no_station

abbrev pub how_many : (Condition → Bool) → List Station → ℕ
how_many test stations = count_of (λ (m : TableMessage). test m.condition) (messages_of stations)

abbrev pub how_many_stations : (Condition → Bool) → List Station → ℕ
how_many_stations test stations = count_of (λ (s : Station). test s.short.condition || test s.long.condition) stations

-- a station of the table has this index
pub record HasStation (stations : List Station) (x : ℕ) : Type 0 where
  pub which : ℕ
  pub there : which < length stations
  pub named : (station_at stations which).index ≡ x

pub record Sound (stations : List Station) (rows : List WireRow) : Type 0 where
  -- indexes are distinct
  pub distinct : (i k : ℕ) → i < length stations → k < length stations → (station_at stations i).index ≡ (station_at stations k).index → i ≡ k
  -- every record is within its limits
  pub within : (k : ℕ) → k < length stations → station_within (station_at stations k) ≡ true
  -- all stations share m, n, next group, counters, Open marks, calendar and position
  pub shared : (k : ℕ) → k < length stations → (station_at stations k).counters ≡ table_counters stations
  -- each H place has exactly one message, and so one station
  pub urgent : (i : ℕ) → 1 ≤ i → i ≤ (table_counters stations).urgent → how_many (at_urgent i) stations ≡ 1
  -- the long stretches cover 1 to N without overlap
  pub long : (i : ℕ) → 1 ≤ i → i ≤ (table_counters stations).long → how_many (covers_long i) stations ≡ 1
  -- each place of each RQ has two different stations or more
  pub resolution : (g i : ℕ) → 1 ≤ g → g ≤ 8 → 1 ≤ i → i ≤ resolution_at (table_counters stations) g
      → 2 ≤ how_many_stations (at_resolving g i) stations
  -- each wire minislot equals the OR over the records asked there; the wire has 8 rows of 8 minislots
  pub wire : (g j : ℕ) → 1 ≤ g → g ≤ 8 → 1 ≤ j → j ≤ 8
      → get_or (get_or rows (g - 1) blank_row).minislots (j - 1) silent ≡ asked_minislot stations g j
  pub size : (length rows ≡ 8) × ((g : ℕ) → 1 ≤ g → g ≤ 8 → length (get_or rows (g - 1) blank_row).minislots ≡ 8)
  -- every owner, of all 24 positions, is the index of a station of the table
  pub owners : (i x : ℕ) → i < 24 → owner_in (get_or (table_counters stations).calendar i free_entry) ≡ some x → HasStation stations x
