-- A slot of the channel beside the shared table's: each station's slot goes through, its two records after are the table's, the new row is what they
-- request, and the data senders are the table's. Assumes nothing.
use mathlib.Core.Path.{◌≡◌, refl, sym, ap, subst, ◌∙◌}
use mathlib.Core.Bool.{Bool, true, false, ◌&&◌, cond}
use mathlib.Core.List.{List, [], ◌∷◌, ◌++◌, map, map-append, append-nil}
use mathlib.Core.Logic.{◌⊎◌, inl, inr}
use mathlib.Core.Option.{Option, none, some}
use Prim.Native.Nat.{ℕ, zero, suc, ◌+◌, ◌≤◌, ◌<◌}
use native.Mathlib.Omega.{arith}
use lib.Dec.{eqb, ltb}
use lib.ListN.{length, get_or}
use borrow.Author.Tests.{ne_eqb, lt-ltb, eqb-true}
use Rattle.minislot.specs.declared.Feedback.{Feedback}
use Rattle.rules.specs.declared.Station.{Station}
use Rattle.rules.specs.declared.StationSlot.{StationSlot}
use Rattle.listlaws.specs.Lists.{only_if}
use Rattle.rules.specs.declared.Condition.{Condition}
use Rattle.rules.specs.declared.Condition.TheVariants.{Free, Held, Fresh, Asked, Resolving, Urgent, Long}
use Rattle.rules.specs.declared.Places.{Places}
use Rattle.rules.specs.declared.Turn.TheVariants.{Urgent as UrgentTurn, Long as LongTurn, Resolve as ResolveTurn, Open as OpenTurn}
use Rattle.rules.specs.Turns.{turn_of}
use Rattle.rules.specs.Requesting.{requests, total_of}
use Rattle.rules.specs.StationCalls.{slot_of}
use Rattle.channel_rules.specs.ChannelCalls.{slots_of, request_in, requests_in, new_row, DataSent, speaks, data_in, data_sent}
use Rattle.rules.specs.Calls.{Start, index}
use Rattle.rules.proofs.Views.{Sender, sender_at}
use Rattle.rules.proofs.Clauses.{heeded, asks, falls, front, sends_in, request_sender}
use Rattle.rules.proofs.Parting.{Parted, no_true, fresh-settled}
use Rattle.rules.proofs.RecordKinds.{one-asks}
use Rattle.rules.proofs.Records.{holder, holder-short, holder-long, kind_short, kind_long}
use Rattle.rules.specs.Messages.{short_record, long_record}
use Rattle.rules.specs.declared.Acted.{Acted}
use Rattle.requests.specs.Together.{Request}
use Rattle.rules.proofs.Shared.{Table, collect, pair_of, index_of, sender_if, table_places, table_success, table_owner, table_went, table_sends}
use Rattle.rules.proofs.ClauseLaws.{Placed}
use Rattle.rules.proofs.WireRows.{as_request, minislot_row}
use Rattle.rules.proofs.Walking.{IsStation, AreStations, Steady, table_queued, table_settled_by, table_request, table_moved, owner-is, requesting-is, sent_is, condition-is, station-is}
use Rattle.channel_rules.proofs.Calendared.{owner_sends}
use Rattle.rules.specs.Stepping.{request_minislot, is_fresh, stays, asker, sender, request_total}
use Rattle.rules.proofs.Settled.{acted_by, beside_by, station_after, went_by}

-- ---- one station's request and data, by clauses

pub map_if {ℓ κ} : {A : Type ℓ} {B : Type κ} (f : A → B) (b : Bool) (x : A) → only_if b (f x ∷ []) ≡ map f (only_if b (x ∷ []))
map_if f true x = refl
map_if f false x = refl

no_minislot {ℓ} : {A : Type ℓ} (j : ℕ) (x : List A) → 1 ≤ j → only_if (eqb 0 j) x ≡ []
no_minislot j x h = rw (ne_eqb 0 j (λ e. omega arith))

-- what a record that did this has on the wire in minislot j, under its station's index
abbrev shown : ℕ → ℕ → Acted → List Request
shown i j x = only_if (eqb x.minislot j) (record { index = i; total = total_of x.condition } ∷ [])

-- a message that is held back requests nothing, and one that is not fresh is never held back
held-silent : (r g pick j k : ℕ) (c : Condition) → is_fresh c ≡ true → request_sender true r g pick j k c ≡ []
held-silent r g pick j k Free e = refl
held-silent r g pick j k (Held t) e = refl
held-silent zero g pick j k (Fresh t) e = refl
held-silent (suc r) g pick j k (Fresh t) e = refl
held-silent r g pick j k (Asked h i t) e = refl
held-silent r g pick j k (Resolving h i t) e = absurd (no_true e)
held-silent r g pick j k (Urgent i) e = refl
held-silent r g pick j k (Long f l t) e = refl

request-other : (r g pick j k : ℕ) (c : Condition) → is_fresh c ≡ false → request_sender true r g pick j k c ≡ request_sender false r g pick j k c
request-other r g pick j k Free e = refl
request-other r g pick j k (Held t) e = refl
request-other r g pick j k (Fresh t) e = absurd (no_true (sym e))
request-other r g pick j k (Asked h i t) e = refl
request-other zero g pick j k (Resolving h i t) e = refl
request-other (suc r) g pick j k (Resolving h i t) e = refl
request-other r g pick j k (Urgent i) e = refl
request-other r g pick j k (Long f l t) e = refl

module _ (ix : ℕ → ℕ) (h n g pick j k : ℕ) (lo : 1 ≤ j) where
  request-is : (r : ℕ) (c : Condition)
      → only_if (eqb (request_minislot (requests r g c) pick) j) (record { index = ix k; total = total_of (falls h n (asks false r g pick c)) } ∷ []) ≡ map (as_request ix) (request_sender false r g pick j k c)
  unfolding requests
  request-is r Free = no_minislot j _ lo
  request-is r (Held t) = no_minislot j _ lo
  request-is zero (Fresh t) = map_if (as_request ix) (eqb pick j) (sender_at k t)
  request-is (suc r) (Fresh t) = rw (ne_eqb (suc r) 0 (λ e. omega arith)) (no_minislot j _ lo)
  request-is r (Asked x i t) = no_minislot j _ lo
  request-is zero (Resolving x i t) = no_minislot j _ lo
  request-is (suc r) (Resolving x i t) = rw (lt-ltb 0 (suc r) (omega arith)) (go (eqb x g) i)
    where
      go : (b : Bool) (i : ℕ)
          → only_if (eqb (request_minislot (b && eqb i 1) pick) j) (record { index = ix k; total = total_of (falls h n (front b g pick x i t)) } ∷ [])
          ≡ map (as_request ix) (only_if b (only_if (eqb i 1) (only_if (eqb pick j) (sender_at k t ∷ []))))
      go false i = no_minislot j _ lo
      go true zero = no_minislot j _ lo
      go true (suc zero) = map_if (as_request ix) (eqb pick j) (sender_at k t)
      go true (suc (suc i)) = rw (ne_eqb (suc (suc i)) 1 (λ e. omega arith)) (no_minislot j _ lo)
  request-is r (Urgent i) = no_minislot j _ lo
  request-is r (Long f l t) = no_minislot j _ lo

  -- a record by what it did: z as if it were alone; held back where its station's short message is fresh (a) and it is fresh itself (b is it before step 1,
  -- c after)
  request-beside : (a : Bool) (r : ℕ) (b c : Condition) (z : Acted) → z.minislot ≡ request_minislot (requests r g c) pick → z.condition ≡ falls h n (asks false r g pick c) → is_fresh c ≡ is_fresh b
      → shown (ix k) j (cond (a && is_fresh b) (stays b) z) ≡ map (as_request ix) (request_sender a r g pick j k c)
  request-beside false r b c z e f q = rw (e, f) (request-is r c)
  request-beside true r b c z e f q = go (is_fresh b) q
    where
      go : (x : Bool) → is_fresh c ≡ x → shown (ix k) j (cond x (stays b) z) ≡ map (as_request ix) (request_sender true r g pick j k c)
      go true w = no_minislot j _ lo ∙ sym (ap (map (as_request ix)) (held-silent r g pick j k c w))
      go false w = rw (e, f) (request-is r c) ∙ sym (ap (map (as_request ix)) (request-other r g pick j k c w))

-- the station's request is that of the record that asks
asker-shown : (i j : ℕ) (x y : Acted) → 1 ≤ j → (eqb x.minislot 0 ≡ false → shown i j y ≡ [])
    → only_if (eqb (asker x y).minislot j) (record { index = i; total = request_total (asker x y) } ∷ []) ≡ shown i j x ++ shown i j y
asker-shown i j x y lo h = go (eqb x.minislot 0) refl
  where
    alone : (z : Acted) (b : Bool) → eqb z.minislot 0 ≡ b → only_if (eqb z.minislot j) (record { index = i; total = cond b 0 (total_of z.condition) } ∷ []) ≡ shown i j z
    alone z true e = let w : z.minislot ≡ 0 = eqb-true z.minislot 0 e in rw w (no_minislot j _ lo ∙ sym (no_minislot j _ lo))
    alone z false e = refl

    go : (b : Bool) → eqb x.minislot 0 ≡ b
        → only_if (eqb (cond b y x).minislot j) (record { index = i; total = request_total (cond b y x) } ∷ []) ≡ shown i j x ++ shown i j y
    go true e =
        let w : x.minislot ≡ 0 = eqb-true x.minislot 0 e in
        alone y (eqb y.minislot 0) refl ∙ ap (λ (z : List Request). z ++ shown i j y) (sym (ap (λ (m : ℕ). only_if (eqb m j) (record { index = i; total = total_of x.condition } ∷ [])) w ∙ no_minislot j _ lo))
    go false e = alone x (eqb x.minislot 0) refl ∙ sym (append-nil (shown i j x)) ∙ ap (λ (z : List Request). shown i j x ++ z) (sym (h e))

abbrev pub as_data : (ℕ → ℕ) → Sender → DataSent
as_data ix s = record { index = ix s.position; segment = s.value }

data_is : (ix : ℕ → ℕ) (k v : ℕ) → only_if (ltb 0 v) (record { index = ix k; segment = v } ∷ []) ≡ map (as_data ix) (sender_if k v)
data_is ix k zero = refl
data_is ix k (suc v) = rw (lt-ltb 0 (suc v) (omega arith))

-- in a slot that nobody owns whoever has a segment sends
speaks-queued : (c : Places) (i v : ℕ) → speaks (turn_of none c) i v ≡ ltb 0 v
unfolding turn_of
speaks-queued c i v = go (ltb 0 c.urgent) (ltb 0 c.long) (ltb 0 c.resolution)
  where
    go : (a b d : Bool) → speaks (cond a UrgentTurn (cond b LongTurn (cond d ResolveTurn OpenTurn))) i v ≡ ltb 0 v
    go true b d = refl
    go false true d = refl
    go false false true = refl
    go false false false = refl

-- who sends data of station k, by the slot's owner: the segment of one of its records, or the owner's stream
abbrev pub senders_in : Option ℕ → Start → (ℕ → ℕ) → ℕ → List Sender
senders_in none S v k = pair_of (λ r. sender_if r (v r)) k
senders_in (some x) S v k = owner_sends (index S) x k

-- of two segments of which one is 0, the first that is not
data_pair : (S : Start) (k a b : ℕ) → (a ≡ 0) ⊎ (b ≡ 0)
    → only_if (ltb 0 (cond (eqb a 0) b a)) (record { index = index S k; segment = cond (eqb a 0) b a } ∷ [])
    ≡ map (as_data (index_of S)) (sender_if (short_record k) a ++ sender_if (long_record k) b)
data_pair S k zero b e = subst (λ (i : ℕ). only_if (ltb 0 b) (record { index = index S i; segment = b } ∷ []) ≡ map (as_data (index_of S)) (sender_if (long_record k) b)) (holder-long k) (data_is (index_of S) (long_record k) b)
data_pair S k (suc a) b (inl e) = absurd (omega arith)
data_pair S k (suc a) b (inr e) =
    rw (e, ne_eqb (suc a) 0 (λ q. omega arith))
    (subst (λ (i : ℕ). only_if (ltb 0 (suc a)) (record { index = index S i; segment = suc a } ∷ []) ≡ map (as_data (index_of S)) (sender_if (short_record k) (suc a))) (holder-short k) (data_is (index_of S) (short_record k) (suc a)))

data-by : (S : Start) (o : Option ℕ) (k h n r : ℕ) (d : Places) (f : ℕ → Condition) → (sends_in o h n r (f (short_record k)) ≡ 0) ⊎ (sends_in o h n r (f (long_record k)) ≡ 0)
    → (let a = sends_in o h n r (f (short_record k)) in let b = sends_in o h n r (f (long_record k)) in
    only_if (speaks (turn_of o d) (index S k) (cond (eqb a 0) b a)) (record { index = index S k; segment = cond (eqb a 0) b a } ∷ []))
    ≡ map (as_data (index_of S)) (senders_in o S (λ i. sends_in o h n r (f i)) k)
unfolding turn_of
data-by S none k h n r d f e =
    rw (speaks-queued d (index S k) (cond (eqb (sends_in none h n r (f (short_record k))) 0) (sends_in none h n r (f (long_record k))) (sends_in none h n r (f (short_record k)))))
    (data_pair S k (sends_in none h n r (f (short_record k))) (sends_in none h n r (f (long_record k))) e)
data-by S (some x) k h n r d f e =
    subst (λ (i : ℕ). only_if (eqb (index S k) x) (record { index = index S i; segment = 0 } ∷ []) ≡ map (as_data (index_of S)) (only_if (eqb (index S k) x) (sender_at (short_record k) 0 ∷ []))) (holder-short k)
    (map_if (as_data (index_of S)) (eqb (index S k) x) (sender_at (short_record k) 0))

-- ---- all stations

-- what is known of each station's slot: it goes through, its records are apart once the row is counted, and at most one of them sends
pub record Through (S : Start) (t : Table) (words counts : List ℕ) (heard : List Feedback) (pick : ℕ → ℕ) (k : ℕ) (s : Station) : Type 0 where
  pub slot : slot_of s words counts (pick k)
      ≡ went_by s heard (pick k)
  pub parted : Parted (table_settled_by t heard (short_record k)) (table_settled_by t heard (long_record k))
  pub lone : (table_sends t heard (table_success t heard) (table_queued t heard) (short_record k) ≡ 0) ⊎ (table_sends t heard (table_success t heard) (table_queued t heard) (long_record k) ≡ 0)
  pub held : is_fresh (t.condition (long_record k)) ≡ true → table_sends t heard (table_success t heard) (table_queued t heard) (long_record k) ≡ 0

module _ (S : Start) (t : Table) (gl : 1 ≤ t.next) (gh : t.next ≤ 8) (words counts : List ℕ) (heard : List Feedback) (pick : ℕ → ℕ) (lo : (k : ℕ) → 1 ≤ pick k) (st : Steady t heard pick) where
  abbrev pub AllThrough : ℕ → List Station → Type 0
  AllThrough j [] = Unit {0}
  AllThrough j (s ∷ l) = Through S t words counts heard pick j s × AllThrough (suc j) l

  -- the picks from station j on
  abbrev Picks : ℕ → List ℕ → Type 0
  Picks j picks = (i : ℕ) → i < length picks → get_or picks i 1 ≡ pick (j + i)

  picks-rest : (j x : ℕ) (picks : List ℕ) → Picks j (x ∷ picks) → Picks (suc j) picks
  picks-rest j x picks w i h = w (suc i) (omega arith) ∙ ap pick (omega arith)

  picks_first : (j x : ℕ) (picks : List ℕ) → Picks j (x ∷ picks) → x ≡ pick j
  picks_first j x picks w = w zero (omega arith) ∙ ap pick (omega arith)

  -- station j's slot
  module _ (j : ℕ) (s : Station) (a : IsStation S t j s) (w : Through S t words counts heard pick j s) where
    abbrev h₀ : ℕ
    h₀ = heeded (table_owner t) (table_queued t heard).urgent

    abbrev n₀ : ℕ
    n₀ = heeded (table_owner t) (table_queued t heard).long

    abbrev r₀ : ℕ
    r₀ = (table_queued t heard).resolution

    after_is : IsStation S (table_went S pick t heard (table_success t heard) (table_queued t heard)) j (slot_of s words counts (pick j)).station
    after_is =
        subst (λ (r : StationSlot). IsStation S (table_went S pick t heard (table_success t heard) (table_queued t heard)) j r.station) (sym w.slot)
        (station-is S t gl gh heard j s a pick st)

    -- what each record would do by itself
    minislot-of : (r : ℕ) (c : Condition) → c ≡ t.condition r → (acted_by s.counters heard (pick j) c).minislot ≡ request_minislot (requests r₀ t.next (table_settled_by t heard r)) (pick j)
    unfolding acted_by
    minislot-of r c e = rw (requesting-is S t gl gh heard j s a r c e (st.before r))

    condition-of : (r : ℕ) (c : Condition) → c ≡ t.condition r → holder r ≡ j → (acted_by s.counters heard (pick j) c).condition ≡ table_moved t heard false (pick j) r
    unfolding acted_by
    condition-of r c e q =
        condition-is S t gl gh heard j s a r c e (st.before r) (st.settled r) (pick j)
        (subst (λ (z : ℕ). Placed (asks false r₀ t.next (pick z) (table_settled_by t heard r))) q (st.asked r false))

    -- and has on the wire
    short-shown : (i : ℕ) → 1 ≤ i → shown (index S j) i (acted_by s.counters heard (pick j) s.short.condition) ≡ map (as_request (index_of S)) (table_request t heard pick i (short_record j))
    short-shown i lo =
        rw (kind_short j, holder-short j)
        (subst (λ (z : ℕ). shown (index S z) i (acted_by s.counters heard (pick j) s.short.condition) ≡ map (as_request (index_of S)) (request_sender false r₀ t.next (pick j) i (short_record j) (table_settled_by t heard (short_record j)))) (holder-short j)
        (rw (minislot-of (short_record j) s.short.condition a.short, condition-of (short_record j) s.short.condition a.short (holder-short j))
        (request-is (index_of S) h₀ n₀ t.next (pick j) i (short_record j) lo r₀ (table_settled_by t heard (short_record j)))))

    long-shown : (i : ℕ) → 1 ≤ i
        → shown (index S j) i (beside_by s.counters heard (pick j) s.short.condition s.long.condition) ≡ map (as_request (index_of S)) (table_request t heard pick i (long_record j))
    unfolding beside_by
    long-shown i lo =
        rw (kind_long j, holder-long j, ← a.short)
        (subst (λ (z : ℕ). shown (index S z) i (cond (is_fresh s.short.condition && is_fresh s.long.condition) (stays s.long.condition) (acted_by s.counters heard (pick j) s.long.condition))
        ≡ map (as_request (index_of S)) (request_sender (is_fresh s.short.condition) r₀ t.next (pick j) i (long_record j) (table_settled_by t heard (long_record j)))) (holder-long j)
        (request-beside (index_of S) h₀ n₀ t.next (pick j) i (long_record j) lo (is_fresh s.short.condition) r₀ s.long.condition (table_settled_by t heard (long_record j))
        (acted_by s.counters heard (pick j) s.long.condition) (minislot-of (long_record j) s.long.condition a.long) (condition-of (long_record j) s.long.condition a.long (holder-long j))
        (fresh-settled (table_success t heard) t.next heard (table_places t) (t.condition (long_record j)) ∙ ap is_fresh (sym a.long))))

    -- if the short record asks, the long one does not
    one-shown : (i : ℕ) → 1 ≤ i → eqb (acted_by s.counters heard (pick j) s.short.condition).minislot 0 ≡ false
        → shown (index S j) i (beside_by s.counters heard (pick j) s.short.condition s.long.condition) ≡ []
    one-shown i lo e =
        long-shown i lo
        ∙ rw (kind_long j, holder-long j)
        (ap (map (as_request (index_of S)))
        (subst (λ (b : Bool). request_sender b r₀ t.next (pick j) i (long_record j) (table_settled_by t heard (long_record j)) ≡ [])
        (fresh-settled (table_success t heard) t.next heard (table_places t) (t.condition (short_record j)))
        (one-asks r₀ t.next (pick j) i (long_record j) (table_settled_by t heard (short_record j)) (table_settled_by t heard (long_record j)) w.parted
        (asked (requests r₀ t.next (table_settled_by t heard (short_record j))) (sym (ap (λ (m : ℕ). eqb m 0) (minislot-of (short_record j) s.short.condition a.short)) ∙ e)))))
      where
        asked : (b : Bool) → eqb (request_minislot b (pick j)) 0 ≡ false → b ≡ true
        asked true e = refl
        asked false e = sym e

    request-of : (i : ℕ) → 1 ≤ i → request_in i (slot_of s words counts (pick j)) (slot_of s words counts (pick j)).answer
        ≡ map (as_request (index_of S)) (pair_of (table_request t heard pick i) j)
    unfolding station_after
    request-of i lo =
        ap (λ (r : StationSlot). request_in i r r.answer) w.slot
        ∙ rw a.index
        (asker-shown (index S j) i (acted_by s.counters heard (pick j) s.short.condition) (beside_by s.counters heard (pick j) s.short.condition s.long.condition) lo (one-shown i lo)
        ∙ rw (short-shown i lo, long-shown i lo) (sym (map-append (as_request (index_of S)) (table_request t heard pick i (short_record j)) (table_request t heard pick i (long_record j)))))

    -- the segment that each record sends
    short-sent : (acted_by s.counters heard (pick j) s.short.condition).segment ≡ table_sends t heard (table_success t heard) (table_queued t heard) (short_record j)
    unfolding acted_by
    short-sent = sent_is S t gl gh heard j s a (short_record j) s.short.condition a.short (st.before (short_record j)) (st.settled (short_record j))

    long-sent : (beside_by s.counters heard (pick j) s.short.condition s.long.condition).segment ≡ table_sends t heard (table_success t heard) (table_queued t heard) (long_record j)
    unfolding beside_by acted_by
    long-sent = go (is_fresh s.short.condition) (is_fresh s.long.condition) refl
      where
        go : (x y : Bool) → is_fresh s.long.condition ≡ y
            → (cond (x && y) (stays s.long.condition) (acted_by s.counters heard (pick j) s.long.condition)).segment ≡ table_sends t heard (table_success t heard) (table_queued t heard) (long_record j)
        go true true e = sym (w.held (ap is_fresh (sym a.long) ∙ e))
        go true false e = sent_is S t gl gh heard j s a (long_record j) s.long.condition a.long (st.before (long_record j)) (st.settled (long_record j))
        go false y e = sent_is S t gl gh heard j s a (long_record j) s.long.condition a.long (st.before (long_record j)) (st.settled (long_record j))

    sender-segment : (x y : Acted) → (sender x y).segment ≡ cond (eqb x.segment 0) y.segment x.segment
    sender-segment x y = go (eqb x.segment 0)
      where
        go : (b : Bool) → (cond b y x).segment ≡ cond b y.segment x.segment
        go true = refl
        go false = refl

    data_of : data_in (slot_of s words counts (pick j)) (slot_of s words counts (pick j)).answer
        ≡ map (as_data (index_of S)) (senders_in (table_owner t) S (table_sends t heard (table_success t heard) (table_queued t heard)) j)
    unfolding station_after
    data_of =
        ap (λ (r : StationSlot). data_in r r.answer) w.slot
        ∙ rw (
          a.index,
          sender-segment (acted_by s.counters heard (pick j) s.short.condition) (beside_by s.counters heard (pick j) s.short.condition s.long.condition),
          short-sent,
          long-sent,
          owner-is S t gl gh heard j s a,
        )
        (data-by S (table_owner t) j (table_queued t heard).urgent (table_queued t heard).long (table_queued t heard).resolution _ (table_settled_by t heard) w.lone)

  -- the walk
  pub walk_are : (j : ℕ) (l : List Station) (picks : List ℕ) → length picks ≡ length l → Picks j picks → AreStations S t j l → AllThrough j l
      → AreStations S (table_went S pick t heard (table_success t heard) (table_queued t heard)) j (map (λ (r : StationSlot). r.station) (slots_of words counts l picks))
  walk_are j [] picks e w a th = tt
  walk_are j (s ∷ l) [] e w a th = absurd (omega arith)
  walk_are j (s ∷ l) (x ∷ picks) e w a th =
      (rw (picks_first j x picks w) (after_is j s a.0 th.0), walk_are (suc j) l picks (omega arith) (picks-rest j x picks w) a.1 th.1)

  pub requests_are : (i : ℕ) → 1 ≤ i → (j : ℕ) (l : List Station) (picks : List ℕ) → length picks ≡ length l → Picks j picks → AreStations S t j l → AllThrough j l
      → requests_in i (slots_of words counts l picks)
      ≡ map (as_request (index_of S)) (collect (pair_of (table_request t heard pick i)) (length l) j)
  requests_are i lo j [] picks e w a th = refl
  requests_are i lo j (s ∷ l) [] e w a th = absurd (omega arith)
  requests_are i lo j (s ∷ l) (x ∷ picks) e w a th =
      rw (picks_first j x picks w, request-of j s a.0 th.0 i lo, requests_are i lo (suc j) l picks (omega arith) (picks-rest j x picks w) a.1 th.1)
      (sym (map-append (as_request (index_of S)) (pair_of (table_request t heard pick i) j) _))

  pub data_are : (j : ℕ) (l : List Station) (picks : List ℕ) → length picks ≡ length l → Picks j picks → AreStations S t j l → AllThrough j l
      → data_sent (slots_of words counts l picks)
      ≡ map (as_data (index_of S)) (collect (senders_in (table_owner t) S (table_sends t heard (table_success t heard) (table_queued t heard))) (length l) j)
  data_are j [] picks e w a th = refl
  data_are j (s ∷ l) [] e w a th = absurd (omega arith)
  data_are j (s ∷ l) (x ∷ picks) e w a th =
      rw (picks_first j x picks w, data_of j s a.0 th.0, data_are (suc j) l picks (omega arith) (picks-rest j x picks w) a.1 th.1)
      (sym (map-append (as_data (index_of S)) (senders_in (table_owner t) S (table_sends t heard (table_success t heard) (table_queued t heard)) j) _))

  -- the new row
  pub row_are : (l : List Station) (picks : List ℕ) → length picks ≡ length l → Picks 0 picks → AreStations S t 0 l → AllThrough 0 l → (n i : ℕ) → 1 ≤ i
      → new_row (slots_of words counts l picks) n i
      ≡ minislot_row (index_of S) (length l) (λ i. pair_of (table_request t heard pick i)) n i
  row_are l picks e w a th zero i lo = refl
  row_are l picks e w a th (suc n) i lo = rw (requests_are i lo 0 l picks e w a th, row_are l picks e w a th n (suc i) (omega arith))
