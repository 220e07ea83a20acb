-- The relation, one message record and one group at a time: what the record sees of each queue is what its condition says. Assumes nothing.
use mathlib.Core.Path.{◌≡◌}
use mathlib.Core.Bool.{true}
use mathlib.Core.List.{List, [], ◌∷◌, ◌++◌}
use Prim.Native.Nat.{ℕ, suc, ◌-◌, ◌%◌, ◌≤◌, ◌<◌}
use lib.ListN.{length}
use Rattle.rules.proofs.Shared.{Table, TableResult, records}
use Rattle.rules.proofs.Views.{seen, at_first, at_place, run}
use Rattle.rules.specs.declared.Places.{Places}
use Rattle.rules.specs.Calls.{Start}
use Rattle.listlaws.specs.Lists.{only_if}
use Rattle.rules.specs.Messages.{Message, Segment, of, segments_from, delivered_of, record_of, short_record, long_record}
use Rattle.rules.specs.Plain.{Queues, Plain, PlainResult, among, on_channel}
use Rattle.rules.specs.Positions.{one, part}
use Rattle.rules.specs.StationLimits.{Condition, Free, Held, Fresh, Asked, Resolving, Urgent, Long, records_apart}
use lib.Dec.{eqb}

-- the counters that the plain queues' lengths are
abbrev pub lengths : Queues → Places
lengths q = record { urgent = length q.urgent; long = length q.long; resolution = length q.resolution }

-- what a record with message m in a condition must see of each container, by places from 0
abbrev pub held_of : Message → Condition → List Message
held_of m Free = []
held_of m (Held t) = m ∷ []
held_of m (Fresh t) = []
held_of m (Asked g j t) = []
held_of m (Resolving g i t) = []
held_of m (Urgent i) = []
held_of m (Long f l t) = []

abbrev pub fresh_of : Message → Condition → List Message
fresh_of m Free = []
fresh_of m (Held t) = []
fresh_of m (Fresh t) = m ∷ []
fresh_of m (Asked g j t) = []
fresh_of m (Resolving g i t) = []
fresh_of m (Urgent i) = []
fresh_of m (Long f l t) = []

abbrev pub asked_of : ℕ → Message → Condition → ℕ → List Message
asked_of g m Free i = []
asked_of g m (Held t) i = []
asked_of g m (Fresh t) i = []
asked_of g m (Asked h j t) i = only_if (eqb h g) (at_place j (at_first (m ∷ [])) i)
asked_of g m (Resolving h j t) i = []
asked_of g m (Urgent j) i = []
asked_of g m (Long f l t) i = []

abbrev pub resolving_of : ℕ → Message → Condition → ℕ → List Message
resolving_of g m Free i = []
resolving_of g m (Held t) i = []
resolving_of g m (Fresh t) i = []
resolving_of g m (Asked h j t) i = []
resolving_of g m (Resolving h j t) i = only_if (eqb h g) (at_place j (at_first (m ∷ [])) i)
resolving_of g m (Urgent j) i = []
resolving_of g m (Long f l t) i = []

abbrev pub urgent_of : Message → Condition → ℕ → List Message
urgent_of m Free i = []
urgent_of m (Held t) i = []
urgent_of m (Fresh t) i = []
urgent_of m (Asked h j t) i = []
urgent_of m (Resolving h j t) i = []
urgent_of m (Urgent j) i = at_place j (at_first (m ∷ [])) i
urgent_of m (Long f l t) i = []

abbrev pub long_of : Message → Condition → ℕ → List Segment
long_of m Free i = []
long_of m (Held t) i = []
long_of m (Fresh t) i = []
long_of m (Asked h j t) i = []
long_of m (Resolving h j t) i = []
long_of m (Urgent j) i = []
long_of m (Long f l t) i = at_place f (run m l (suc (t - l))) i

-- the segments of a record's message that are still to come, and all segments of some messages
abbrev pub remaining : Message → Condition → List Segment
remaining m Free = []
remaining m (Held t) = []
remaining m (Fresh t) = segments_from m m.slots 1
remaining m (Asked g j t) = segments_from m m.slots 1
remaining m (Resolving g i t) = segments_from m m.slots 1
remaining m (Urgent i) = segments_from m m.slots 1
remaining m (Long f l t) = segments_from m l (suc (t - l))

abbrev pub whole : List Message → List Segment
whole [] = []
whole (m ∷ l) = segments_from m m.slots 1 ++ whole l

-- a condition is its message's, within the limits of the paper
abbrev pub Fits : Start → Message → Condition → Type 0
Fits S m Free = Unit {0}
Fits S m (Held t) = t ≡ m.slots
Fits S m (Fresh t) = t ≡ m.slots
Fits S m (Asked g j t) = (t ≡ m.slots) × (1 ≤ g) × (g ≤ S.n) × (1 ≤ j) × (j ≤ S.m)
Fits S m (Resolving g i t) = (t ≡ m.slots) × (1 ≤ g) × (g ≤ S.n) × (1 ≤ i)
Fits S m (Urgent i) = (m.slots ≡ 1) × (1 ≤ i)
Fits S m (Long f l t) = (t ≡ m.slots) × (1 ≤ f) × (1 ≤ l) × (l ≤ t) × (2 ≤ t)

-- record k, whose message is m, sees of the queues what condition c says; A is all that it was ever given to send
pub record Shows (S : Start) (g k : ℕ) (m : Message) (A : List Segment) (q : Queues) (c : Condition) : Type 0 where
  pub urgent : (i : ℕ) → seen (one k) q.urgent i ≡ urgent_of m c i
  pub long : (i : ℕ) → seen (part k) q.long i ≡ long_of m c i
  pub resolution : (i : ℕ) → seen (of k) q.resolution i ≡ resolving_of g m c i
  pub owed : delivered_of k q.history ++ remaining m c ≡ A
  pub fits : Fits S m c

-- the same of the whole plain channel
pub record Agrees (S : Start) (p : Plain) (k : ℕ) (m : Message) (c : Condition) : Type 0 where
  pub mine : record_of m ≡ k
  pub some : 1 ≤ m.slots
  pub few : m.slots ≤ 255
  pub held : of k p.held ≡ held_of m c
  pub fresh : of k p.fresh ≡ fresh_of m c
  pub urgent : (i : ℕ) → seen (one k) p.urgent i ≡ urgent_of m c i
  pub long : (i : ℕ) → seen (part k) p.long i ≡ long_of m c i
  pub asking : (g i : ℕ) → seen (of k) (p.group g).asking i ≡ asked_of g m c i
  pub resolution : (g i : ℕ) → seen (of k) (p.group g).resolution i ≡ resolving_of g m c i
  pub owed : delivered_of k p.history ++ remaining m c ≡ whole (of k p.taken)
  pub fits : Fits S m c

-- each place of a resolution queue is a crowd
abbrev pub Crowded : List (List Message) → Type 0
Crowded [] = Unit {0}
Crowded (x ∷ r) = (2 ≤ length x) × Crowded r

-- the messages taken are numbered from j
abbrev pub Numbered : ℕ → List Message → Type 0
Numbered j [] = Unit {0}
Numbered j (m ∷ l) = (m.serial ≡ j) × Numbered (suc j) l

-- THE RELATION: the table is what the plain channel shows
pub record Same (S : Start) (p : Plain) (t : Table) : Type 0 where
  pub h : t.h ≡ length p.urgent
  pub n : t.n ≡ length p.long
  pub rq : (g : ℕ) → t.rq g ≡ length (p.group g).resolution
  pub opened : (g : ℕ) → t.opened g ≡ (p.group g).opened
  pub next : t.next ≡ p.next
  pub calendar : t.calendar ≡ p.calendar
  pub position : t.position ≡ p.slots % 24
  pub size : length p.calendar ≡ 24
  pub owners : on_channel S.indexes p.calendar ≡ true
  pub free : among p.calendar 65535 ≡ true
  pub low : 1 ≤ p.next
  pub high : p.next ≤ S.n
  pub rows : (g : ℕ) → length (p.group g).asking ≡ S.m
  pub crowds : (g : ℕ) → Crowded (p.group g).resolution
  pub message : ℕ → Message
  pub agrees : (k : ℕ) → Agrees S p k (message k) (t.condition k)
  pub apart : (k : ℕ) → records_apart (t.condition (short_record k)) (t.condition (long_record k)) ≡ true
  pub outside : (k : ℕ) → records S ≤ k → t.condition k ≡ Free
  pub strangers : (k : ℕ) → records S ≤ k → of k p.taken ≡ []
  pub numbered : Numbered 0 p.taken
  pub idle : (g : ℕ) → S.n < g → ((p.group g).resolution ≡ []) × ((p.group g).opened ≡ true)
  pub hmax : length p.urgent ≤ 4095
  pub nmax : length p.long ≤ 65535
  pub rmax : (g : ℕ) → length (p.group g).resolution ≤ 4095

-- two results that agree: states related, answers equal
pub record SameResult (S : Start) (r : PlainResult) (s : TableResult) : Type 0 where
  pub state : Same S r.state s.state
  pub answer : r.answer ≡ s.answer
