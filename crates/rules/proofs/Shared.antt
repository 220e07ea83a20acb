-- The table as one set of counters that all stations share and a condition for each message record, and its calls: the middle between the plain channel
-- and the stations. What is read of the wire is stated of the records asked there. Assumes nothing.
use mathlib.Core.Bool.{Bool, true, ◌&&◌, cond}
use mathlib.Core.List.{List, [], ◌∷◌, ◌++◌}
use mathlib.Core.Option.{Option, none, some}
use Prim.Native.Nat.{ℕ, zero, suc, ◌+◌}
use lib.Dec.{eqb}
use lib.ListN.{length, get_or}
use Rattle.minislot.specs.declared.Feedback.{Feedback}
use Rattle.rules.specs.declared.Places.{Places}
use Rattle.listlaws.specs.Lists.{only_if}
use Rattle.rules.specs.Calendars.{free_entry, free_calendar, owner_in, position_after}
use Rattle.rules.specs.Queueing.{immediate, queued_row, passes}
use Rattle.rules.specs.Turns.{turn_of, is_open}
use Rattle.rules.specs.Falling.{following}
use Rattle.rules.specs.StationLimits.{Condition, Free, Held, Fresh, Asked, Resolving, Urgent, Long}
use Rattle.rules.specs.Refusing.{by_number}
use Rattle.rules.specs.Writing.{Writing, writes, writing_number_at, writing_total_at, written_as}
use Rattle.rules.specs.Calls.{Start, index, Answer, Refused, Set, Went, Call, Write, Slot, Calendar, writing_answer}
use Rattle.rules.specs.Plain.{station_from, in_range, among, on_channel, record_named}
use Rattle.rules.specs.Messages.{short_record, long_record}
use Rattle.rules.specs.Stepping.{is_fresh}
use Rattle.rules.proofs.Views.{Sender, sender_at}
use Rattle.rules.proofs.Records.{holder, is_long_record}
use Rattle.rules.proofs.Clauses.{hearing, lone_index_of, lone_number_of, settle, asks, falls, sends_in, serves, heeded, h_left, n_left, less, owned_or}
use Rattle.rules.specs.Outcome.{successes}

pub record Table : Type 0 where
  pub h : ℕ
  pub n : ℕ
  pub rq : ℕ → ℕ
  pub opened : ℕ → Bool
  pub next : ℕ
  pub calendar : List ℕ
  pub position : ℕ
  pub condition : ℕ → Condition

pub record TableResult : Type 0 where
  pub state : Table
  pub answer : Answer

abbrev pub table_start : Table
table_start = record { h = 0; n = 0; rq = λ g. 0; opened = λ g. true; next = 1; calendar = free_calendar; position = 0; condition = λ k. Free }

-- a walk over the records, in order: n of them from record j on; all that are below K
abbrev pub collect {ℓ} : {A : Type ℓ} → (ℕ → List A) → ℕ → ℕ → List A
collect f zero j = []
collect f (suc n) j = f j ++ collect f n (suc j)

abbrev pub gather {ℓ} : {A : Type ℓ} → (ℕ → List A) → ℕ → List A
gather f K = collect f K 0

-- the two records of a station, first the short one
abbrev pub pair_of {ℓ} : {A : Type ℓ} → (ℕ → List A) → ℕ → List A
pair_of f k = f (short_record k) ++ f (long_record k)

-- how many records the stations have, and the index that a record sends
abbrev pub records : Start → ℕ
records S = short_record (length S.indexes)

abbrev pub index_of : Start → ℕ → ℕ
index_of S k = index S (holder k)

-- the record asked in minislot j of group g, and the row that the wire holds of the group: n minislots from j
abbrev pub asked_sender : ℕ → ℕ → ℕ → Condition → List Sender
asked_sender g j k Free = []
asked_sender g j k (Held t) = []
asked_sender g j k (Fresh t) = []
asked_sender g j k (Asked h i t) = only_if (eqb h g) (only_if (eqb i j) (sender_at k t ∷ []))
asked_sender g j k (Resolving h i t) = []
asked_sender g j k (Urgent i) = []
asked_sender g j k (Long f l t) = []

abbrev pub asked_row : (ℕ → ℕ) → ℕ → (ℕ → Condition) → ℕ → ℕ → ℕ → List Feedback
asked_row ix K condition g zero j = []
asked_row ix K condition g (suc n) j = hearing ix (gather (λ k. asked_sender g j k (condition k)) K) ∷ asked_row ix K condition g n (suc j)

-- the same of a station, whichever of its records is asked there
abbrev pub asked_pair : ℕ → (ℕ → Condition) → ℕ → ℕ → List Sender
asked_pair g condition j k = pair_of (λ r. asked_sender g j r (condition r)) k

abbrev pub sender_if : ℕ → ℕ → List Sender
sender_if k zero = []
sender_if k (suc s) = sender_at k (suc s) ∷ []

abbrev pub table_refuse : Table → ℕ → TableResult
table_refuse t n = record { state = t; answer = Refused n }

-- record r stands at c, and nothing else changes
abbrev pub table_with : Table → ℕ → Condition → Table
table_with t r c =
    record {
      h = t.h;
      n = t.n;
      rq = t.rq;
      opened = t.opened;
      next = t.next;
      calendar = t.calendar;
      position = t.position;
      condition = λ i. cond (eqb i r) c (t.condition i);
    }

-- a writing that goes through to record r, which stands at c
abbrev pub table_written : Table → ℕ → Writing → Condition → TableResult
table_written t r w c =
    record { state = table_with t r (written_as w (writing_total_at w c)); answer = writing_answer w (writing_total_at w c) }

-- a writing of record r, and of the station of an index
abbrev pub table_writing : Table → ℕ → Writing → TableResult
table_writing t r w = by_number (writing_number_at w (t.condition r)) (table_refuse t) (table_written t r w (t.condition r))

abbrev pub table_write : Table → Writing → Option ℕ → TableResult
table_write t w none = table_refuse t 16
table_write t w (some k) = table_writing t (record_named k (writes w)) w

abbrev pub table_set : Table → List ℕ → TableResult
table_set t entries =
    record {
      state =
          record {
            h = t.h;
            n = t.n;
            rq = t.rq;
            opened = t.opened;
            next = t.next;
            calendar = entries;
            position = t.position;
            condition = t.condition;
          };
      answer = Set;
    }

-- the coming slot's owner
abbrev pub table_owner : Table → Option ℕ
table_owner t = owner_in (get_or t.calendar t.position free_entry)

-- the row, the immediate success, and the lengths before and after step 1
abbrev pub table_row : Start → Table → List Feedback
table_row S t = asked_row (index_of S) (records S) t.condition t.next S.m 1

abbrev pub table_places : Table → Places
table_places t = record { urgent = t.h; long = t.n; resolution = t.rq t.next }

abbrev pub table_success : Table → List Feedback → Bool
table_success t heard = immediate (t.opened t.next) heard

-- whether a record's message is held back if it is fresh: a long one, by a fresh short one of its station
abbrev pub table_held : Table → ℕ → Bool
table_held t k = is_long_record k && is_fresh (t.condition (short_record (holder k)))

-- one slot, from the row heard, step 1's success and its lengths
abbrev pub table_condition : (ℕ → ℕ) → Table → List Feedback → Bool → Places → ℕ → Condition
table_condition pick t heard b c k =
    falls (heeded (table_owner t) c.urgent) (heeded (table_owner t) c.long)
    (asks (table_held t k) c.resolution t.next (pick (holder k)) (settle b t.next heard (table_places t) (t.condition k)))

abbrev pub table_went : Start → (ℕ → ℕ) → Table → List Feedback → Bool → Places → Table
table_went S pick t heard b c =
    record {
      h = h_left (table_owner t) c.urgent;
      n = n_left (table_owner t) c.urgent c.long;
      rq = λ g. cond (eqb g t.next) (less c.resolution) (t.rq g);
      opened = λ g. cond (eqb g t.next) (is_open (turn_of (table_owner t) c)) (t.opened g);
      next = following S.n t.next;
      calendar = t.calendar;
      position = position_after t.position;
      condition = table_condition pick t heard b c;
    }

abbrev pub table_sends : Table → List Feedback → Bool → Places → ℕ → ℕ
table_sends t heard b c k =
    sends_in (table_owner t) c.urgent c.long c.resolution (settle b t.next heard (table_places t) (t.condition k))

abbrev pub table_answer : Start → Table → List Feedback → Bool → Places → Answer
table_answer S t heard b c =
    let x = gather (λ k. sender_if k (table_sends t heard b c k)) (records S) in
    let o = table_owner t in
    Went (turn_of o c) (owned_or o (λ i. 1) (length x)) (owned_or o (λ i. i) (lone_index_of (hearing (index_of S) x)))
    (owned_or o (λ i. 0) (lone_number_of (hearing (index_of S) x))) (successes b heard + serves (heeded o c.urgent) (heeded o c.long))

abbrev pub table_slot : Start → (ℕ → ℕ) → Table → List Feedback → Bool → Places → TableResult
table_slot S pick t heard b c = record { state = table_went S pick t heard b c; answer = table_answer S t heard b c }

abbrev pub table_settled : Start → Table → Places
table_settled S t = queued_row (table_success t (table_row S t)) (table_places t) (table_row S t)

abbrev pub table_call : Start → Table → Call → TableResult
table_call S t (Write x w) = table_write t w (station_from 0 S.indexes x)
table_call S t (Slot picks) =
    cond (eqb (length picks) (length S.indexes))
    (cond (in_range S.m picks)
    (cond (passes (table_settled S t)) (table_refuse t 7) (table_slot S (λ k. get_or picks k 1) t (table_row S t) (table_success t (table_row S t)) (table_settled S t)))
    (table_refuse t 11))
    (table_refuse t 17)
table_call S t (Calendar entries) =
    cond (eqb (length entries) 24 && on_channel S.indexes entries) (cond (among entries 65535) (table_set t entries) (table_refuse t 21)) (table_refuse t 20)

abbrev pub table_after : Start → Table → List Call → Table
table_after S t [] = t
table_after S t (c ∷ l) = table_after S (table_call S t c).state l

abbrev pub table_answers : Start → Table → List Call → List Answer
table_answers S t [] = []
table_answers S t (c ∷ l) = (table_call S t c).answer ∷ table_answers S (table_call S t c).state l
