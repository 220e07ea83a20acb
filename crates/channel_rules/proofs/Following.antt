-- What follows of the relation in every state: the messages, the senders, the totals, the wire, in the words of the statement. Assumes nothing.
use mathlib.Core.Path.{◌≡◌, refl, sym, ap, ◌∙◌}
use mathlib.Core.Bool.{Bool, true, false, ◌&&◌, cond}
use mathlib.Core.List.Memᴰ
use mathlib.Core.List.{List, [], ◌∷◌, ◌++◌, map, Memᴰ}
use mathlib.Core.Logic.{⊎_elim, by_cases}
use mathlib.Core.Option.{Option, none, some}
use Prim.Native.Nat.{ℕ, zero, suc, ◌+◌, ◌/◌, ◌≤◌, ◌<◌}
use native.Mathlib.Omega.{arith}
use native.Mathlib.Decide.{dec_lt}
use lib.Dec.{eqb}
use lib.ListN.{length, get_or, length-append}
use Rattle.message.specs.Message.{fits_message, slots_for}
use Rattle.rules.specs.declared.Writing.{Writing}
use Rattle.rules.specs.declared.Writing.TheVariants.{Offer, Hold, Commit, Withdraw}
use Rattle.requests.specs.Together.{carries, silent, joined, together}
use Rattle.requests.proofs.Senders.{joined_comm, joined_assoc, joined-silent}
use Rattle.rules.specs.declared.Station.{Station}
use Rattle.listlaws.specs.Lists.{sum_of, count_of, keep_if}
use Rattle.rules.specs.declared.Turn.{Turn}
use Rattle.rules.specs.Serving.{waiting}
use Rattle.rules.specs.declared.Answer.TheVariants.{Refused, Went}
use Rattle.rules.specs.Calls.{Start, Call, Write, Slot, Calendar}
use Rattle.rules.specs.Messages.{Message, Segment, segment, of, record_of}
use Rattle.rules.proofs.Records.{holder-of}
use Rattle.rules.specs.Plain.{Plain, PlainResult, Queues, plain_owner, plain_settled, overflows, sent, plain_senders, plain_lone_index, plain_lone_segment, plain_set, among, on_channel, plain_call, plain_slot, plain_new, plain_offer, plain_hold, plain_held, plain_commit, plain_withdraw, plain_writing, plain_write, record_named, plain_answers, plain_refuse, in_use, newcomer, station_from, in_range, join_alone, join_minislot, join_row, plain_success, queues_of, served, slot_sum, plain_after}
use Rattle.channel_rules.specs.Demand3.{request_of, no_message, is_refusal, taken_in, delivered_in, SendersAre}
use Rattle.rules.proofs.Views.{Sender, request_from, data_from, seen, eqb_self, nil_cons}
use Rattle.rules.proofs.Shared.{Table, gather, records, index_of, asked_sender, asked_pair}
use Rattle.rules.proofs.Relation.{lengths, Same, Numbered}
use Rattle.listlaws.proofs.Totals.{total}
use Rattle.rules.proofs.SlotStep.{segments_sent}
use Rattle.channel_rules.proofs.Mixing.{blend, wire-blend}
use Rattle.rules.proofs.WireRows.{as_request, leaves, gather_pairs}
use Rattle.rules.proofs.Walking.{AreStations}

-- ---- messages by their number

pub member : (l : List Message) (i : ℕ) → i < length l → Memᴰ (get_or l i no_message) l
member [] i h = absurd (omega arith)
member (m ∷ l) zero h = Memᴰ.head refl
member (m ∷ l) (suc i) h = Memᴰ.tail (member l i (omega arith))

pub serial-at : (l : List Message) (j : ℕ) → Numbered j l → (i : ℕ) → i < length l → (get_or l i no_message).serial ≡ j + i
serial-at [] j n i h = absurd (omega arith)
serial-at (m ∷ l) j n zero h = n.0 ∙ omega arith
serial-at (m ∷ l) j n (suc i) h = serial-at l (suc j) n.1 i (omega arith) ∙ omega arith

-- a message taken has a station of the table
in_of : (m : Message) (l : List Message) → Memᴰ m l → of (record_of m) l ≡ [] → ⊥
in_of m [] h e = Memᴰ.not-nil h
in_of m (x ∷ l) h e = ⊎_elim here (λ w. there (eqb (record_of x) (record_of m)) e (in_of m l w)) (Memᴰ.cases_cons h)
  where
    here : m ≡ x → ⊥
    here w = nil_cons (sym (rw (← w, eqb_self (record_of m)) at e))

    there : (b : Bool) → keep_if b x (of (record_of m) l) ≡ [] → (of (record_of m) l ≡ [] → ⊥) → ⊥
    there true e ih = nil_cons (sym e)
    there false e ih = ih e

pub station-of : (S : Start) (p : Plain) (t : Table) → Same S p t → (m : Message) → Memᴰ m p.taken → m.station < length S.indexes
station-of S p t R m h =
    let e : record_of m / 2 ≡ m.station = holder-of m in
    let w : record_of m < records S = by_cases (dec_lt (record_of m) (records S)) (λ w. w) (λ w. absurd (in_of m p.taken h (R.strangers (record_of m) (omega arith)))) in
    omega arith

-- ---- the waiting total, from the records

pub waiting-sum : (S : Start) (t : Table) (j : ℕ) (l : List Station) → AreStations S t j l
    → sum_of (λ (s : Station). waiting s.short.condition + waiting s.long.condition) l + total (j + j) (λ k. waiting (t.condition k))
    ≡ total ((j + length l) + (j + length l)) (λ k. waiting (t.condition k))
waiting-sum S t j [] a = omega (arith, ap (λ (n : ℕ). total n (λ k. waiting (t.condition k))) (let e : j + j ≡ (j + 0) + (j + 0) = omega arith in e))
waiting-sum S t j (s ∷ l) a =
    rw (a.0.short, a.0.long)
    (omega (
      arith,
      waiting-sum S t (suc j) l a.1,
      ap (λ (n : ℕ). total n (λ k. waiting (t.condition k))) (let e : suc j + suc j ≡ suc (suc (j + j)) = omega arith in e),
      ap (λ (n : ℕ). total n (λ k. waiting (t.condition k))) (let e : (suc j + length l) + (suc j + length l) ≡ (j + suc (length l)) + (j + suc (length l)) = omega arith in e),
    ))

-- ---- the long queue, place by place

pub entry_at : (q : List Segment) (i : ℕ) (d : Segment) (x : Sender) → seen (λ (y : Segment). data_from y ∷ []) q i ≡ x ∷ [] → data_from (get_or q i d) ≡ x
entry_at [] i d x e = absurd (nil_cons e)
entry_at (y ∷ q) zero d x e = ap (λ (l : List Sender). get_or l 0 x) e
entry_at (y ∷ q) (suc i) d x e = entry_at q i d x e

-- ---- the wire

leaves-blend : (ix : ℕ → ℕ) (l : List Sender) → leaves ix l ≡ blend silent joined (λ s. carries (as_request ix s)) l
unfolding together
leaves-blend ix [] = refl
leaves-blend ix (x ∷ l) = ap (joined (carries (as_request ix x))) (leaves-blend ix l)

requests-blend : (S : Start) (l : List Message) → blend silent joined (λ s. carries (as_request (index_of S) s)) (map request_from l) ≡ together (map carries (map (request_of S) l))
unfolding together
requests-blend S [] = refl
requests-blend S (x ∷ l) = rw (holder-of x) (ap (joined (carries (request_of S x))) (requests-blend S l))

seen-get : (q : List (List Message)) (i : ℕ) → seen (λ (l : List Message). l) q i ≡ get_or q i []
seen-get [] i = refl
seen-get (x ∷ q) zero = refl
seen-get (x ∷ q) (suc i) = seen-get q i

pub wire-shows : (S : Start) (p : Plain) (t : Table) → Same S p t → (g i : ℕ)
    → leaves (index_of S) (gather (asked_pair g t.condition (suc i)) (length S.indexes)) ≡ together (map carries (map (request_of S) (get_or (p.group g).asking i [])))
wire-shows S p t R g i =
    ap (leaves (index_of S)) (gather_pairs (λ k. asked_sender g (suc i) k (t.condition k)) (length S.indexes))
    ∙ leaves-blend (index_of S) (gather (λ k. asked_sender g (suc i) k (t.condition k)) (records S))
    ∙ wire-blend silent joined joined-silent joined_assoc joined_comm (λ s. carries (as_request (index_of S) s)) S p t R g i
    ∙ ap (λ (l : List Message). blend silent joined (λ s. carries (as_request (index_of S) s)) (map request_from l)) (seen-get (p.group g).asking i)
    ∙ requests-blend S (get_or (p.group g).asking i [])

-- ---- senders

some-none : {P : Type 0} {x : ℕ} → some x ≡ none → P
some-none e = let z : ◌≡◌ {A = ℕ} 0 1 = cc in absurd (omega arith)

none-some : {P : Type 0} {x : ℕ} → none ≡ some x → P
none-some e = let z : ◌≡◌ {A = ℕ} 0 1 = cc in absurd (omega arith)

senders_are : (S : Start) (o : Option ℕ) (u : List Message) (l : List Segment) (r : List (List Message)) (f : List Message)
    → SendersAre o (record { urgent = length u; long = length l; resolution = length r }) (plain_senders o (sent o u l r f)) (plain_lone_index S o (sent o u l r f)) (plain_lone_segment (sent o u l r f))
senders_are S (some x) u l r f =
    record { owned = λ y e. (refl, (let z : x ≡ y = cc in z), refl); urgent = λ e h. some-none e; long = λ e h. some-none e; resolve = λ e a b h. some-none e }
senders_are S none (x ∷ u) l r f = record { owned = λ y e. none-some e; urgent = λ e h. refl; long = λ e h. refl; resolve = λ e a b h. absurd (omega arith) }
senders_are S none [] (y ∷ l) r f = record { owned = λ y e. none-some e; urgent = λ e h. absurd (omega arith); long = λ e h. refl; resolve = λ e a b h. absurd (omega arith) }
senders_are S none [] [] (x ∷ r) f = record { owned = λ y e. none-some e; urgent = λ e h. absurd (omega arith); long = λ e h. absurd (omega arith); resolve = λ e a b h. refl }
senders_are S none [] [] [] f =
    record { owned = λ y e. none-some e; urgent = λ e h. absurd (omega arith); long = λ e h. absurd (omega arith); resolve = λ e a b h. absurd (omega arith) }

-- a refusal is no answer of a slot that went through
refused-went : {P : Type 0} {turn : Turn} {k n i s d : ℕ} → Refused k ≡ Went turn n i s d → P
refused-went e = let z : ◌≡◌ {A = ℕ} 0 1 = cc in absurd (omega arith)

-- what the plain channel's answer names: the number of senders, and the index and segment of a lone one
went-senders : (S : Start) (p : Plain) (picks : List ℕ) (turn : Turn) (n i s d : ℕ) → (plain_call S p (Slot picks)).answer ≡ Went turn n i s d
    → (plain_senders (plain_owner p) (segments_sent p) ≡ n) × (plain_lone_index S (plain_owner p) (segments_sent p) ≡ i) × (plain_lone_segment (segments_sent p) ≡ s)
went-senders S p picks turn n i s d = go (eqb (length picks) (length S.indexes)) (in_range S.m picks) (overflows (plain_settled p))
  where
    go : (a b c : Bool) → (cond a (cond b (cond c (plain_refuse p 7) (plain_slot S (λ k. get_or picks k 1) p)) (plain_refuse p 11)) (plain_refuse p 17)).answer ≡ Went turn n i s d
        → (plain_senders (plain_owner p) (segments_sent p) ≡ n) × (plain_lone_index S (plain_owner p) (segments_sent p) ≡ i) × (plain_lone_segment (segments_sent p) ≡ s)
    go true true true = refused-went
    go true true false = λ e. (cc, cc, cc)
    go true false c = refused-went
    go false b c = refused-went

pub sender_rule : (S : Start) (p : Plain) (picks : List ℕ) (turn : Turn) (n i s d : ℕ) → (plain_call S p (Slot picks)).answer ≡ Went turn n i s d
    → SendersAre (plain_owner p) (lengths (plain_settled p)) n i s
sender_rule S p picks turn n i s d e =
    let (a, b, c) = went-senders S p picks turn n i s d e in
    rw (← a, ← b, ← c) (senders_are S (plain_owner p) (plain_settled p).urgent (plain_settled p).long (plain_settled p).resolution p.fresh)

-- ---- numbers that never come

module _ (x : ℕ) (e7 : eqb 7 x ≡ false) (e9 : eqb 9 x ≡ false) (e10 : eqb 10 x ≡ false) (e11 : eqb 11 x ≡ false) (e16 : eqb 16 x ≡ false) (e17 : eqb 17 x ≡ false)
    (e20 : eqb 20 x ≡ false) (e21 : eqb 21 x ≡ false) (e22 : eqb 22 x ≡ false) where
  never-call : (S : Start) (p : Plain) (c : Call) → is_refusal x (plain_call S p c).answer ≡ false
  never-call S p (Write i w) = at (station_from 0 S.indexes i)
    where
      new : (k bytes : ℕ) (done : Message → PlainResult) → is_refusal x (done (newcomer p k (slots_for bytes))).answer ≡ false → is_refusal x (plain_new p k bytes done).answer ≡ false
      new k bytes done e = go (fits_message bytes) (in_use p (record_of (newcomer p k (slots_for bytes))))
        where
          go : (a b : Bool) → is_refusal x (cond a (cond b (plain_refuse p 9) (done (newcomer p k (slots_for bytes)))) (plain_refuse p 10)).answer ≡ false
          go true true = e9
          go true false = e
          go false b = e10

      held : (done : Message → PlainResult) → ((m : Message) → is_refusal x (done m).answer ≡ false) → (l : List Message) → is_refusal x (plain_held p done l).answer ≡ false
      held done e [] = e22
      held done e (m ∷ l) = e m

      writing : (k : ℕ) (w : Writing) → is_refusal x (plain_writing p k w).answer ≡ false
      writing k (Offer bytes) = new k bytes (plain_offer p) refl
      writing k (Hold bytes) = new k bytes (plain_hold p) refl
      writing k (Commit o) = held (plain_commit p (record_named k o)) (λ m. refl) (of (record_named k o) p.held)
      writing k (Withdraw o) = held (plain_withdraw p (record_named k o)) (λ m. refl) (of (record_named k o) p.held)

      at : (o : Option ℕ) → is_refusal x (plain_write p w o).answer ≡ false
      at none = e16
      at (some k) = writing k w
  never-call S p (Slot picks) = go (eqb (length picks) (length S.indexes)) (in_range S.m picks) (overflows (plain_settled p))
    where
      go : (a b c : Bool) → is_refusal x (cond a (cond b (cond c (plain_refuse p 7) (plain_slot S (λ k. get_or picks k 1) p)) (plain_refuse p 11)) (plain_refuse p 17)).answer ≡ false
      go true true true = e7
      go true true false = refl
      go true false c = e11
      go false b c = e17
  never-call S p (Calendar entries) = go (eqb (length entries) 24 && on_channel S.indexes entries) (among entries 65535)
    where
      go : (a b : Bool) → is_refusal x (cond a (cond b (plain_set p entries) (plain_refuse p 21)) (plain_refuse p 20)).answer ≡ false
      go true true = refl
      go true false = e21
      go false b = e20

  pub never_comes : (S : Start) (p : Plain) (calls : List Call) → count_of (is_refusal x) (plain_answers S p calls) ≡ 0
  never_comes S p [] = refl
  never_comes S p (c ∷ l) = rw (never-call S p c) (omega (arith, never_comes S (plain_call S p c).state l))

-- ---- the answers' own sums

sum-append : (a b : List Message) → slot_sum (a ++ b) ≡ slot_sum a + slot_sum b
sum-append [] b = omega arith
sum-append (m ∷ a) b = omega (arith, sum-append a b)

-- the history only grows
alone-longer : (b o : Bool) (m : Message) (q : Queues) → length q.history ≤ length (join_alone b o m q).history
alone-longer true true m q = omega (arith, length-append q.history (segment m 1 ∷ []))
alone-longer false true m q = omega arith
alone-longer b false m q = omega arith

row-longer : (b : Bool) (row : List (List Message)) (q : Queues) → length q.history ≤ length (join_row b row q).history
row-longer b [] q = omega arith
row-longer b ([] ∷ row) q = row-longer b row q
row-longer b ((m ∷ []) ∷ row) q = omega (arith, row-longer b row (join_minislot b (m ∷ []) q), alone-longer b (eqb m.slots 1) m q)
row-longer b ((m ∷ n ∷ l) ∷ row) q = row-longer b row (join_minislot b (m ∷ n ∷ l) q)

-- one call
pub record Booked (p : Plain) (r : PlainResult) : Type 0 where
  pub taken : slot_sum r.state.taken ≡ slot_sum p.taken + taken_in r.answer
  pub delivered : length r.state.history ≡ length p.history + delivered_in r.answer

booked_refused : (p : Plain) (n : ℕ) → Booked p (plain_refuse p n)
booked_refused p n = record { taken = omega arith; delivered = omega arith }

booked_if : (p : Plain) (b : Bool) (x y : PlainResult) → Booked p x → Booked p y → Booked p (cond b x y)
booked_if p true x y a c = a
booked_if p false x y a c = c

booked_offer : (p : Plain) (m : Message) → Booked p (plain_offer p m)
booked_offer p m = record { taken = sum-append p.taken (m ∷ []) ∙ omega arith; delivered = omega arith }

booked_hold : (p : Plain) (m : Message) → Booked p (plain_hold p m)
booked_hold p m = record { taken = omega arith; delivered = omega arith }

booked_commit : (p : Plain) (k : ℕ) (m : Message) → Booked p (plain_commit p k m)
booked_commit p k m = record { taken = sum-append p.taken (newcomer p m.station m.slots ∷ []) ∙ omega arith; delivered = omega arith }

booked_withdraw : (p : Plain) (k : ℕ) (m : Message) → Booked p (plain_withdraw p k m)
booked_withdraw p k m = record { taken = omega arith; delivered = omega arith }

booked_set : (p : Plain) (entries : List ℕ) → Booked p (plain_set p entries)
booked_set p entries = record { taken = omega arith; delivered = omega arith }

booked_slot : (S : Start) (pick : ℕ → ℕ) (p : Plain) → Booked p (plain_slot S pick p)
booked_slot S pick p =
    record {
      taken = omega arith;
      delivered =
          omega (
            arith,
            row-longer (plain_success (p.group p.next)) (p.group p.next).asking (queues_of p (p.group p.next)),
            length-append (plain_settled p).history (served (plain_owner p) (plain_settled p).urgent (plain_settled p).long),
          );
    }

booked_call : (S : Start) (p : Plain) (c : Call) → Booked p (plain_call S p c)
booked_call S p (Write i w) = at (station_from 0 S.indexes i)
  where
    new : (k bytes : ℕ) (done : Message → PlainResult) → ((m : Message) → Booked p (done m)) → Booked p (plain_new p k bytes done)
    new k bytes done e = booked_if p (fits_message bytes) _ _ (booked_if p (in_use p (record_of (newcomer p k (slots_for bytes)))) _ _ (booked_refused p 9) (e (newcomer p k (slots_for bytes)))) (booked_refused p 10)

    held : (done : Message → PlainResult) → ((m : Message) → Booked p (done m)) → (l : List Message) → Booked p (plain_held p done l)
    held done e [] = booked_refused p 22
    held done e (m ∷ l) = e m

    writing : (k : ℕ) (w : Writing) → Booked p (plain_writing p k w)
    writing k (Offer bytes) = new k bytes (plain_offer p) (booked_offer p)
    writing k (Hold bytes) = new k bytes (plain_hold p) (booked_hold p)
    writing k (Commit o) = held (plain_commit p (record_named k o)) (booked_commit p (record_named k o)) (of (record_named k o) p.held)
    writing k (Withdraw o) = held (plain_withdraw p (record_named k o)) (booked_withdraw p (record_named k o)) (of (record_named k o) p.held)

    at : (o : Option ℕ) → Booked p (plain_write p w o)
    at none = booked_refused p 16
    at (some k) = writing k w
booked_call S p (Slot picks) =
    booked_if p (eqb (length picks) (length S.indexes)) _ _
    (booked_if p (in_range S.m picks) _ _ (booked_if p (overflows (plain_settled p)) _ _ (booked_refused p 7) (booked_slot S (λ k. get_or picks k 1) p)) (booked_refused p 11))
    (booked_refused p 17)
booked_call S p (Calendar entries) =
    booked_if p (eqb (length entries) 24 && on_channel S.indexes entries) _ _ (booked_if p (among entries 65535) _ _ (booked_set p entries) (booked_refused p 21)) (booked_refused p 20)

-- every list
pub books_taken : (S : Start) (calls : List Call) (p : Plain) → slot_sum (plain_after S p calls).taken ≡ slot_sum p.taken + sum_of taken_in (plain_answers S p calls)
books_taken S [] p = omega arith
books_taken S (c ∷ l) p = omega (arith, books_taken S l (plain_call S p c).state, (booked_call S p c).taken)

pub books_delivered : (S : Start) (calls : List Call) (p : Plain) → length (plain_after S p calls).history ≡ length p.history + sum_of delivered_in (plain_answers S p calls)
books_delivered S [] p = omega arith
books_delivered S (c ∷ l) p = omega (arith, books_delivered S l (plain_call S p c).state, (booked_call S p c).delivered)
