-- Every call of the channel is the shared table's call: records, wire and answer. The table is sound, as a hypothesis (proofs/SoundKept discharges it).
-- Assumes nothing.
use mathlib.Core.Path.{◌≡◌, refl, sym, ap, subst, ◌∙◌}
use mathlib.Core.Bool.{Bool, true, false, cond, ◌&&◌}
use mathlib.Core.List.{List, [], ◌∷◌, map}
use mathlib.Core.Logic.{◌⊎◌, inl, inr}
use mathlib.Core.Option.{Option, none, some}
use Prim.Native.Nat.{ℕ, zero, suc, ◌+◌, ◌-◌, ◌≤◌, ◌<◌}
use native.Mathlib.Omega.{arith}
use lib.Dec.{eqb, ltb, leb}
use lib.ListN.{length, get_or, set, length-map}
use borrow.Author.Tests.{lt-ltb, le-ltb, ltb-true, ltb-false}
use Rattle.rules.specs.declared.Station.{Station}
use Rattle.std.specs.List.{list_all}
use Rattle.listlaws.specs.Lists.{only_if}
use Rattle.rules.specs.Limits.{between}
use Rattle.rules.specs.declared.Condition.{Condition}
use Rattle.rules.specs.declared.Condition.TheVariants.{Free, Held, Fresh, Asked, Resolving, Urgent, Long}
use Rattle.rules.specs.StationCalls.{no_station}
use Rattle.channel_rules.specs.Soundness.{position_of}
use Rattle.channel_rules.specs.ChannelCalls.{Channel, ChannelResult, blank_row, lone_index, lone_segment, delivered_now}
use Rattle.rules.specs.Calls.{Start, index}
use Rattle.rules.specs.Messages.{Message, Segment, short_record, long_record}
use Rattle.rules.specs.Plain.{Plain, plain_turn, plain_senders, sent, station_from, in_range}
use Rattle.rules.proofs.Views.{Sender, sender_at}
use Rattle.rules.proofs.Clauses.{hearing, lone_index_of, lone_number_of, heeded, serves}
use Rattle.rules.proofs.ClauseLaws.{Placed}
use Rattle.rules.specs.StationLimits.{records_apart}
use Rattle.rules.proofs.Parting.{asks_in, apart-parted}
use Rattle.rules.proofs.Records.{holder-short, holder-long}
use Rattle.rules.proofs.Shared.{Table, TableResult, index_of, asked_sender, asked_pair, asked_row}
use Rattle.rules.proofs.Relation.{Fits, Agrees, Same}
use Rattle.rules.proofs.WireRows.{minislot_row, AsksOnce, Indexes, feedback_row, gather_pairs}
use Rattle.rules.proofs.Walking.{IsStation, AreStations}
use Rattle.channel_rules.proofs.EmbodySlot.{as_data}

-- the records and the wire are those of a table
pub record Embodies (S : Start) (t : Table) (ch : Channel) : Type 0 where
  pub stations : AreStations S t 0 ch.stations
  pub indexes : map (λ (s : Station). s.index) ch.stations ≡ S.indexes
  pub wire : (g : ℕ) → 1 ≤ g → g ≤ 8
      → get_or ch.wire (g - 1) blank_row ≡ record { minislots = minislot_row (index_of S) (length S.indexes) (asked_pair g t.condition) 8 1 }
  pub groups : length ch.wire ≡ 8

pub record Embodied (S : Start) (r : TableResult) (q : ChannelResult) : Type 0 where
  pub state : Embodies S r.state q.state
  pub answer : q.answer ≡ r.answer

-- a start that went through, as its limits say
pub record GoodStart (S : Start) : Type 0 where
  pub m-low : 2 ≤ S.m
  pub m-high : S.m ≤ 8
  pub n-low : 1 ≤ S.n
  pub n-high : S.n ≤ 8
  pub some : 1 ≤ length S.indexes
  pub few : length S.indexes ≤ 64
  pub indexes : Indexes (index S) (length S.indexes)

-- ---- small laws

pub fits-placed : (S : Start) (m : Message) (c : Condition) → Fits S m c → Placed c
fits-placed S m Free f = tt
fits-placed S m (Held t) f = tt
fits-placed S m (Fresh t) f = tt
fits-placed S m (Asked g j t) f = f.3
fits-placed S m (Resolving g i t) f = f.3
fits-placed S m (Urgent i) f = f.1
fits-placed S m (Long x l t) f = (f.1, f.2, f.3)

-- a record asks nothing or once
abbrev pub AsksOne : ℕ → ℕ → ℕ → Condition → Type 0
AsksOne g j k c = (asked_sender g j k c ≡ []) ⊎ ((v : ℕ) × (1 ≤ v) × (asks_in g c ≡ true) × (asked_sender g j k c ≡ sender_at k v ∷ []))

asks-one : (S : Start) (p : Plain) (k : ℕ) (m : Message) (g j : ℕ) (c : Condition) → Agrees S p k m c → AsksOne g j k c
asks-one S p k m g j Free a = inl refl
asks-one S p k m g j (Held t) a = inl refl
asks-one S p k m g j (Fresh t) a = inl refl
asks-one S p k m g j (Asked h i t) a = go (eqb h g) (eqb i j)
  where
    go : (b c : Bool) → (only_if b (only_if c (sender_at k t ∷ [])) ≡ []) ⊎ ((v : ℕ) × (1 ≤ v) × (b ≡ true) × (only_if b (only_if c (sender_at k t ∷ [])) ≡ sender_at k v ∷ []))
    go true true = let f : Fits S m (Asked h i t) = a.fits in inr (t, omega (arith, a.some), refl, refl)
    go true false = inl refl
    go false c = inl refl
asks-one S p k m g j (Resolving h i t) a = inl refl
asks-one S p k m g j (Urgent i) a = inl refl
asks-one S p k m g j (Long f l t) a = inl refl

-- so does a station, of whose two records at most one is asked in a group
pub pair-once : (S : Start) (condition : ℕ → Condition) (g j k : ℕ) → records_apart (condition (short_record k)) (condition (long_record k)) ≡ true
    → AsksOne g j (short_record k) (condition (short_record k)) → AsksOne g j (long_record k) (condition (long_record k)) → AsksOnce (index_of S) (index S k) (asked_pair g condition j k)
pair-once S condition g j k apart (inl e) (inl f) = inl (rw (e, f))
pair-once S condition g j k apart (inl e) (inr (v, lo, q, f)) = inr (sender_at (long_record k) v, ap (index S) (holder-long k), lo, rw (e, f))
pair-once S condition g j k apart (inr (v, lo, q, e)) (inl f) = inr (sender_at (short_record k) v, ap (index S) (holder-short k), lo, rw (e, f))
pair-once S condition g j k apart (inr (v, lo, q, e)) (inr (u, l, w, f)) = absurd ((apart-parted (condition (short_record k)) (condition (long_record k)) apart).asked g q w)

pub asks-once : (S : Start) (p : Plain) (t : Table) → Same S p t → (g j k : ℕ) → AsksOnce (index_of S) (index S k) (asked_pair g t.condition j k)
asks-once S p t R g j k =
    pair-once S t.condition g j k (R.apart k)
    (asks-one S p (short_record k) (R.message (short_record k)) g j (t.condition (short_record k)) (R.agrees (short_record k)))
    (asks-one S p (long_record k) (R.message (long_record k)) g j (t.condition (long_record k)) (R.agrees (long_record k)))

pub set_self {ℓ} : {A : Type ℓ} (l : List A) (k : ℕ) (d : A) → k < length l → set l k (get_or l k d) ≡ l
set_self [] k d h = absurd (omega arith)
set_self (x ∷ l) zero d h = refl
set_self {A = A} (x ∷ l) (suc k) d h = ap (λ (z : List A). x ∷ z) (set_self l k d (omega arith))

-- the position of an index, as the plain channel finds it
abbrev pub position_in : ℕ → List ℕ → ℕ
position_in x [] = 0
position_in x (i ∷ l) = cond (eqb i x) 0 (suc (position_in x l))

pub position-map : (x : ℕ) (l : List Station) → position_of x l ≡ position_in x (map (λ (s : Station). s.index) l)
position-map x [] = refl
position-map x (s ∷ l) = ap (λ (n : ℕ). cond (eqb s.index x) 0 (suc n)) (position-map x l)

pub position_eq : (x : ℕ) (l : List ℕ) (j : ℕ) → station_from j l x ≡ cond (ltb (position_in x l) (length l)) (some (j + position_in x l)) none
position_eq x [] j = refl
position_eq x (i ∷ l) j = go (eqb i x) (position_eq x l (suc j))
  where
    go : (b : Bool) → station_from (suc j) l x ≡ cond (ltb (position_in x l) (length l)) (some (suc j + position_in x l)) none
        → cond b (some j) (station_from (suc j) l x) ≡ cond (ltb (cond b 0 (suc (position_in x l))) (suc (length l))) (some (j + cond b 0 (suc (position_in x l)))) none
    go true ih = rw (lt-ltb 0 (suc (length l)) (omega arith)) (ap some (omega arith))
    go false ih = ih ∙ deeper (ltb (position_in x l) (length l)) refl
      where
        deeper : (b : Bool) → ltb (position_in x l) (length l) ≡ b
            → cond b (some (suc j + position_in x l)) none ≡ cond (ltb (suc (position_in x l)) (suc (length l))) (some (j + suc (position_in x l))) none
        deeper true e = let w = ltb-true (position_in x l) (length l) e in rw (lt-ltb (suc (position_in x l)) (suc (length l)) (omega arith)) (ap some (omega arith))
        deeper false e = let w = ltb-false (position_in x l) (length l) e in rw (le-ltb (suc (position_in x l)) (suc (length l)) (omega arith))

pub picks-same : (m : ℕ) (picks : List ℕ) → list_all (λ (pick : ℕ). between 1 pick m) picks ≡ in_range m picks
picks-same m [] = refl
picks-same m (x ∷ picks) = ap (λ (b : Bool). leb 1 x && leb x m && b) (picks-same m picks)

pub lone_index-is : (ix : ℕ → ℕ) (l : List Sender) → lone_index (map (as_data ix) l) ≡ lone_index_of (hearing ix l)
lone_index-is ix [] = refl
lone_index-is ix (x ∷ []) = refl
lone_index-is ix (x ∷ y ∷ l) = refl

pub lone_segment-is : (ix : ℕ → ℕ) (l : List Sender) → lone_segment (map (as_data ix) l) ≡ lone_number_of (hearing ix l)
lone_segment-is ix [] = refl
lone_segment-is ix (x ∷ []) = refl
lone_segment-is ix (x ∷ y ∷ l) = refl

-- exactly one sender on an urgent or long turn; of an owned slot's sender nothing is delivered
pub one-served : (o : Option ℕ) (u : List Message) (l : List Segment) (r : List (List Message)) (f : List Message)
    → delivered_now (plain_turn o u l r) (plain_senders o (sent o u l r f)) ≡ serves (heeded o (length u)) (heeded o (length l))
one-served (some i) u l r f = refl
one-served none (x ∷ u) l r f = refl
one-served none [] (y ∷ l) r f = refl
one-served none [] [] (x ∷ r) f = refl
one-served none [] [] [] f = refl

-- the k-th record is station k
pub station-at : (S : Start) (t : Table) (j : ℕ) (l : List Station) → AreStations S t j l → (k : ℕ) → k < length l → IsStation S t (j + k) (get_or l k no_station)
station-at S t j [] a k h = absurd (omega arith)
station-at S t j (s ∷ l) a zero h = rw (let e : j + 0 ≡ j = omega arith in e) a.0
station-at S t j (s ∷ l) a (suc k) h = subst (λ (i : ℕ). IsStation S t i (get_or l k no_station)) (omega arith) (station-at S t (suc j) l a.1 k (omega arith))

-- as many records as indexes
pub same_length : (S : Start) (t : Table) (ch : Channel) → Embodies S t ch → length ch.stations ≡ length S.indexes
same_length S t ch E = sym (length-map ch.stations (λ (s : Station). s.index)) ∙ ap length E.indexes

-- the same test on both sides
pub both : (S : Start) (b c : Bool) (x x' : TableResult) (y y' : ChannelResult) → b ≡ c → (b ≡ true → Embodied S x y) → (b ≡ false → Embodied S x' y') → Embodied S (cond b x x') (cond c y y')
both S true c x x' y y' e f g = rw (← e) (f refl)
both S false c x x' y y' e f g = rw (← e) (g refl)

-- the indexes of the records are the start's
pub names_are : (S : Start) (t : Table) (j : ℕ) (l : List Station) (x : List ℕ) → AreStations S t j l → length l ≡ length x → ((i : ℕ) → i < length x → get_or x i 0 ≡ index S (j + i))
    → map (λ (s : Station). s.index) l ≡ x
names_are S t j [] [] a e h = refl
names_are S t j [] (y ∷ x) a e h = absurd (omega arith)
names_are S t j (s ∷ l) [] a e h = absurd (omega arith)
names_are S t j (s ∷ l) (y ∷ x) a e h =
    rw (a.0.index ∙ (ap (index S) (let e : j ≡ j + 0 = omega arith in e) ∙ sym (h zero (omega arith))), names_are S t (suc j) l x a.1 (omega arith) (λ i w. h (suc i) (omega arith) ∙ ap (index S) (omega arith)))

pub feedback_is : (ix jx : ℕ → ℕ) (K : ℕ) (I : Indexes ix K) (condition : ℕ → Condition) (g : ℕ) (once : (j k : ℕ) → AsksOnce jx (ix k) (asked_pair g condition j k)) (n j : ℕ)
    → feedback_row ix jx K I (asked_pair g condition) once n j ≡ asked_row jx (short_record K) condition g n j
feedback_is ix jx K I condition g once zero j = refl
feedback_is ix jx K I condition g once (suc n) j =
    rw (feedback_is ix jx K I condition g once n (suc j), gather_pairs (λ r. asked_sender g j r (condition r)) K)
