-- A sound table (paper 01, "The channel"; paper 02, T-02, T-04 and T-06), clause by clause, and their conjunction (refusal 18). The tests
-- on places are those of crate `places`. That each clause says what the paper's says, place by place, is shown in proofs/SoundMeans.
-- Assumes nothing.
use Rattle.std.specs.Prelude.{Bool, true, false, not, ◌&&◌, ◌||◌, cond, List, [], ◌∷◌, map, ℕ, suc, eqb, ltb, length, get_or}
use Rattle.std.specs.Bool.{beq}
use Rattle.minislot.specs.declared.Minislot.{Minislot}
use Rattle.requests.specs.Together.{Request, carries, together}
use Rattle.rules.specs.declared.Counters.{Counters}
use Rattle.rules.specs.declared.Station.{Station}
use Rattle.rules.specs.declared.WireRow.{WireRow}
use Rattle.std.specs.List.{list_all, flat_map}
use Rattle.listlaws.specs.Lists.{each_pair, only_if}
use Rattle.listlaws.specs.Every.{every_from}
use Rattle.stretches.specs.declared.Stretch.{Stretch}
use Rattle.places.specs.Places.{taken_once}
use Rattle.stretches.specs.Stretches.{covered}
use Rattle.crowds.specs.Crowds.{crowded}
use Rattle.rules.specs.declared.TableMessage.{TableMessage}
use Rattle.rules.specs.declared.Condition.{Condition}
use Rattle.rules.specs.declared.Condition.TheVariants.{Free, Held, Fresh, Asked, Resolving, Urgent, Long}
use Rattle.rules.specs.Calendars.{free_entry, positions}
use Rattle.rules.specs.StationLimits.{station_within}
use Rattle.rules.specs.StationCalls.{no_station}

-- the counters of a table: those of its first station
abbrev pub table_counters : List Station → Counters
table_counters stations = (get_or stations 0 no_station).counters

-- the message records of a table: each station's short one, then its long one, with the station's index. All clauses on queues and wire
-- go over them
abbrev pub messages_in : Station → List TableMessage
messages_in s =
    record { index = s.index; condition = s.short.condition } ∷ record { index = s.index; condition = s.long.condition } ∷ []

abbrev pub messages_of : List Station → List TableMessage
messages_of stations = flat_map messages_in stations

-- ---- indexes are distinct

abbrev pub other_index : Station → Station → Bool
other_index a b = not (eqb a.index b.index)

unfoldable pub indexes_distinct : List Station → Bool
indexes_distinct stations = each_pair other_index stations

-- ---- every record is within its limits

unfoldable pub records_within : List Station → Bool
records_within stations = list_all station_within stations

-- ---- all stations share m, n, next group, counters, Open marks, calendar and position

abbrev pub same_numbers : List ℕ → List ℕ → Bool
same_numbers [] [] = true
same_numbers [] (y ∷ b) = false
same_numbers (x ∷ a) [] = false
same_numbers (x ∷ a) (y ∷ b) = eqb x y && same_numbers a b

abbrev pub same_marks : List Bool → List Bool → Bool
same_marks [] [] = true
same_marks [] (y ∷ b) = false
same_marks (x ∷ a) [] = false
same_marks (x ∷ a) (y ∷ b) = beq x y && same_marks a b

unfoldable pub same_counters : Counters → Counters → Bool
same_counters a b =
    eqb a.minislots b.minislots && eqb a.groups b.groups && eqb a.next b.next && eqb a.urgent b.urgent
    && eqb a.long b.long
    && same_numbers a.resolution b.resolution && same_marks a.opened b.opened
    && same_numbers a.calendar b.calendar && eqb a.position b.position

unfoldable pub counters_shared : List Station → Bool
counters_shared stations = list_all (λ (s : Station). same_counters (table_counters stations) s.counters) stations

-- ---- each H place has exactly one message

abbrev pub urgent_place : Condition → List ℕ
urgent_place Free = []
urgent_place (Held t) = []
urgent_place (Fresh t) = []
urgent_place (Asked g j t) = []
urgent_place (Resolving g i t) = []
urgent_place (Urgent i) = i ∷ []
urgent_place (Long f l t) = []

abbrev pub urgent_places : List TableMessage → List ℕ
urgent_places messages = flat_map (λ (m : TableMessage). urgent_place m.condition) messages

unfoldable pub urgent_sound : List Station → Bool
urgent_sound stations = taken_once (urgent_places (messages_of stations)) (table_counters stations).urgent

-- ---- the long stretches cover 1 to N without overlap

abbrev pub long_stretch : Condition → List Stretch
long_stretch Free = []
long_stretch (Held t) = []
long_stretch (Fresh t) = []
long_stretch (Asked g j t) = []
long_stretch (Resolving g i t) = []
long_stretch (Urgent i) = []
long_stretch (Long f l t) = record { first = f; left = l } ∷ []

abbrev pub long_stretches : List TableMessage → List Stretch
long_stretches messages = flat_map (λ (m : TableMessage). long_stretch m.condition) messages

unfoldable pub long_sound : List Station → Bool
long_sound stations = covered (long_stretches (messages_of stations)) (table_counters stations).long

-- ---- each place of each RQ has two messages or more: of different stations, since the two records of one never share a place

abbrev pub resolving_place : ℕ → Condition → List ℕ
resolving_place g Free = []
resolving_place g (Held t) = []
resolving_place g (Fresh t) = []
resolving_place g (Asked h j t) = []
resolving_place g (Resolving h i t) = only_if (eqb h g) (i ∷ [])
resolving_place g (Urgent i) = []
resolving_place g (Long f l t) = []

abbrev pub resolving_places : ℕ → List TableMessage → List ℕ
resolving_places g messages = flat_map (λ (m : TableMessage). resolving_place g m.condition) messages

-- group g's resolution queue, of r places
abbrev pub resolution_sound_at : List Station → ℕ → ℕ → Bool
resolution_sound_at stations g r = crowded (resolving_places g (messages_of stations)) r

unfoldable pub resolution_sound : List Station → Bool
resolution_sound stations = every_from (λ i r. resolution_sound_at stations (suc i) r) 0 (table_counters stations).resolution

-- ---- each wire minislot, of all groups and minislots, equals the OR over the records asked there

-- the request of a record asked in minislot j of group g
abbrev pub asked_request : ℕ → ℕ → ℕ → Condition → List Request
asked_request g j index Free = []
asked_request g j index (Held t) = []
asked_request g j index (Fresh t) = []
asked_request g j index (Asked h i t) = only_if (eqb h g && eqb i j) (record { index = index; total = t } ∷ [])
asked_request g j index (Resolving h i t) = []
asked_request g j index (Urgent i) = []
asked_request g j index (Long f l t) = []

abbrev pub asked_requests : ℕ → ℕ → List TableMessage → List Request
asked_requests g j messages = flat_map (λ (m : TableMessage). asked_request g j m.index m.condition) messages

unfoldable pub asked_minislot : List Station → ℕ → ℕ → Minislot
asked_minislot stations g j = together (map carries (asked_requests g j (messages_of stations)))

abbrev pub same_minislot : Minislot → Minislot → Bool
same_minislot a b = eqb a.word b.word && eqb a.count b.count

abbrev pub row_sound : List Station → ℕ → WireRow → Bool
row_sound stations g row =
    eqb (length row.minislots) 8 && every_from (λ i slot. same_minislot slot (asked_minislot stations g (suc i))) 0 row.minislots

unfoldable pub wire_sound : List Station → List WireRow → Bool
wire_sound stations wire = eqb (length wire) 8 && every_from (λ i row. row_sound stations (suc i) row) 0 wire

-- ---- every owner is the index of a station of the table

-- how many stations stand before the first of an index; all if there is none
abbrev pub position_of : ℕ → List Station → ℕ
position_of index [] = 0
position_of index (s ∷ l) = cond (eqb s.index index) 0 (suc (position_of index l))

-- a station of the table has this index
abbrev pub is_on_table : List Station → ℕ → Bool
is_on_table stations index = ltb (position_of index stations) (length stations)

-- an entry of a calendar: free, or the index of a station of the table
abbrev pub entry_on : List Station → ℕ → Bool
entry_on stations x = eqb x free_entry || is_on_table stations x

unfoldable pub entries_on : List Station → List ℕ → Bool
entries_on stations entries = eqb (length entries) positions && list_all (entry_on stations) entries

unfoldable pub owners_sound : List Station → Bool
owners_sound stations = entries_on stations (table_counters stations).calendar

-- ---- THE TABLE IS SOUND

unfoldable pub sound_table : List Station → List WireRow → Bool
sound_table stations wire =
    indexes_distinct stations && records_within stations && counters_shared stations && urgent_sound stations && long_sound stations
    && resolution_sound stations
    && wire_sound stations wire
    && owners_sound stations
