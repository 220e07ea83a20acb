-- A calendar beside the shared table: an owned slot's one sender is the owner, as the table's answer has it, and setting a calendar is the table's call,
-- records, wire and answer. Assumes nothing.
use mathlib.Core.Path.{◌≡◌, refl, ap, ◌∙◌}
use mathlib.Core.Bool.{Bool, true, false, cond, ◌&&◌}
use mathlib.Core.List.{List, [], ◌∷◌, map}
use mathlib.Core.Option.{Option, none, some}
use Prim.Native.Nat.{ℕ, suc, ◌<◌}
use lib.Dec.{eqb}
use lib.ListN.{length, length-map}
use Rattle.rules.specs.declared.Station.{Station}
use Rattle.rules.specs.Refusing.{unless, by_number}
use Rattle.rules.specs.Settings.{calendar_on}
use Rattle.channel_rules.specs.Soundness.{sound_table, entries_on}
use Rattle.channel_rules.specs.ChannelCalls.{Channel, has_stations, refused, DataSent, lone_index, lone_segment, calendar_set, channel_calendar_number_of, channel_calendar_of}
use Rattle.rules.specs.Calls.{Start, index, Calendar}
use Rattle.rules.specs.Messages.{Segment, short_record}
use Rattle.rules.specs.Plain.{Plain, plain_senders, among, on_channel}
use Rattle.rules.proofs.Views.{sender_at}
use Rattle.rules.proofs.Clauses.{hearing, lone_index_of, lone_number_of, owned_or}
use Rattle.rules.proofs.Records.{holder-short}
use Rattle.rules.proofs.Shared.{Table, gather, records, index_of, sender_if, table_owner, table_refuse, table_set, table_call}
use Rattle.rules.proofs.Relation.{Same}
use Rattle.rules.proofs.WireRows.{Indexes, gather_pairs}
use Rattle.rules.proofs.Walking.{IsStation, AreStations}
use Rattle.channel_rules.proofs.Calendared.{entries-same, free-same, among-at, owner-among, owner-alone}
use Rattle.channel_rules.proofs.EmbodySlot.{as_data, senders_in}
use Rattle.channel_rules.proofs.Embody.{Embodies, Embodied, lone_index-is, lone_segment-is}

-- ---- an owned slot's sender

-- what an answer tells of the data senders d: their number, and the index and segment of a lone one
pub record TellsOf (o : Option ℕ) (S : Start) (s : ℕ → ℕ) (d : List DataSent) : Type 0 where
  pub number : length d ≡ owned_or o (λ i. 1) (length (gather (λ k. sender_if k (s k)) (records S)))
  pub index : lone_index d ≡ owned_or o (λ i. i) (lone_index_of (hearing (index_of S) (gather (λ k. sender_if k (s k)) (records S))))
  pub segment : lone_segment d ≡ owned_or o (λ i. 0) (lone_number_of (hearing (index_of S) (gather (λ k. sender_if k (s k)) (records S))))

pub tells-of : (o : Option ℕ) (S : Start) → Indexes (index S) (length S.indexes) → ((x : ℕ) → o ≡ some x → (i : ℕ) × (i < length S.indexes) × (index S i ≡ x)) → (s : ℕ → ℕ) (d : List DataSent)
    → d ≡ map (as_data (index_of S)) (gather (senders_in o S s) (length S.indexes)) → TellsOf o S s d
tells-of none S I on s d e =
    record {
      number = ap length all ∙ length-map (gather (λ k. sender_if k (s k)) (records S)) (as_data (index_of S));
      index = ap lone_index all ∙ lone_index-is (index_of S) (gather (λ k. sender_if k (s k)) (records S));
      segment = ap lone_segment all ∙ lone_segment-is (index_of S) (gather (λ k. sender_if k (s k)) (records S));
    }
  where
    all : d ≡ map (as_data (index_of S)) (gather (λ k. sender_if k (s k)) (records S))
    all = e ∙ ap (map (as_data (index_of S))) (gather_pairs (λ k. sender_if k (s k)) (length S.indexes))
tells-of (some x) S I on s d e =
    let (i, h, q) = on x refl in
    let alone : d ≡ map (as_data (index_of S)) (sender_at (short_record i) 0 ∷ []) = e ∙ ap (map (as_data (index_of S))) (owner-alone (index S) (length S.indexes) x i I.distinct h q) in
    record { number = ap length alone; index = ap lone_index alone ∙ ap (index S) (holder-short i) ∙ q; segment = ap lone_segment alone }

-- an owner is one of the start's stations
pub owner-station : (S : Start) (p : Plain) (t : Table) → Same S p t → (x : ℕ) → table_owner t ≡ some x → (i : ℕ) × (i < length S.indexes) × (index S i ≡ x)
owner-station S p t R x e = among-at S.indexes x (owner-among S.indexes p.calendar R.owners t.position x (rw R.calendar at e))

-- the number of senders, on the table and on the plain channel
pub as_plain : (o : Option ℕ) (l : List Segment) → owned_or o (λ i. 1) (length l) ≡ plain_senders o l
as_plain none l = refl
as_plain (some x) l = refl

-- ---- setting a calendar

module _ (S : Start) (t : Table) (ch : Channel) (E : Embodies S t ch) (entries : List ℕ) where
  calendar-is : (j : ℕ) (s : Station) → IsStation S t j s → IsStation S (table_set t entries).state j (calendar_on entries s)
  calendar-is j s a =
      record {
        index = a.index;
        minislots = a.minislots;
        groups = a.groups;
        next = a.next;
        urgent = a.urgent;
        long-queue = a.long-queue;
        arrays = a.arrays;
        resolution = a.resolution;
        mark = a.mark;
        calendar = refl;
        position = a.position;
        short = a.short;
        long = a.long;
      }

  calendars_are : (j : ℕ) (l : List Station) → AreStations S t j l → AreStations S (table_set t entries).state j (map (calendar_on entries) l)
  calendars_are j [] a = tt
  calendars_are j (s ∷ l) a = (calendar-is j s a.0, calendars_are (suc j) l a.1)

  names_stay : (l : List Station) → map (λ (s : Station). s.index) (map (calendar_on entries) l) ≡ map (λ (s : Station). s.index) l
  names_stay [] = refl
  names_stay (s ∷ l) = ap (λ (z : List ℕ). s.index ∷ z) (names_stay l)

  set-embodied : Embodied S (table_set t entries) (calendar_set ch entries)
  set-embodied =
      record {
        state = record { stations = calendars_are 0 ch.stations E.stations; indexes = names_stay ch.stations ∙ E.indexes; wire = E.wire; groups = E.groups };
        answer = refl;
      }

  pub calendar-call : has_stations ch.stations ≡ true → sound_table ch.stations ch.wire ≡ true → Embodied S (table_call S t (Calendar entries)) (channel_calendar_of ch entries)
  unfolding channel_calendar_of channel_calendar_number_of entries_on
  calendar-call here sound =
      rw (here, sound, entries-same ch.stations entries, E.indexes, free-same entries) (go (eqb (length entries) 24 && on_channel S.indexes entries) (among entries 65535))
    where
      go : (a b : Bool)
          → Embodied S (cond a (cond b (table_set t entries) (table_refuse t 21)) (table_refuse t 20)) (by_number (unless a 20 (unless b 21 0)) (refused ch) (calendar_set ch entries))
      go true true = set-embodied
      go true false = record { state = E; answer = refl }
      go false b = record { state = E; answer = refl }
