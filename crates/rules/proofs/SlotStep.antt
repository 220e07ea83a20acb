-- One slot that goes through, for the whole table: counters, marks, position, conditions, and the answer; the slot owned or not. Assumes
-- nothing.
use mathlib.Core.Path.{◌≡◌, refl, sym, ap, subst, ◌∙◌}
use mathlib.Core.Bool.{Bool, true, false, not, cond, ◌&&◌, ◌||◌}
use mathlib.Core.List.{List, [], ◌∷◌, ◌++◌, map}
use mathlib.Core.Option.{Option, none, some}
use Prim.Native.Nat.{ℕ, zero, suc, ◌+◌, ◌%◌, ◌≤◌, ◌<◌}
use native.Mathlib.Omega.{arith}
use mathlib.Core.Logic.{◌≢◌}
use lib.Dec.{leb, ltb, eqb}
use lib.ListN.{length, length-append, length-map}
use Rattle.rules.proofs.Newcomers.{row-lengths}
use Rattle.rules.proofs.AskedRows.{row_eq, immediate_eq}
use Rattle.rules.proofs.SettleViews.{settle-fresh}
use Rattle.rules.proofs.Records.{holder, is_long_record, holder-short, holder-long, kind_short, kind_long, holder-of}
use Rattle.rules.proofs.QueueViews.{shifted_at}
use Rattle.rules.proofs.AskViews.{held_in}
use Rattle.rules.proofs.Parting.{stands_in, no_true, slot_apart}
use Rattle.rules.proofs.OneStation.{first, later, first_ok, station_ok}
use Rattle.rules.proofs.DataSenders.{send_ok, senders-read, senders-length}
use Rattle.minislot.specs.declared.Feedback.{Feedback}
use Rattle.rules.proofs.Clauses.{less, read, settle, asks, serves, heeded, h_left, n_left, sends_in, owned_or, hearing, lone_index_of, lone_number_of}
use Rattle.rules.proofs.Relation.{lengths, Fits, Agrees, Same, Crowded, Shows, whole, fresh_of}
use Rattle.rules.proofs.Shared.{Table, table_owner, table_row, table_places, table_success, table_settled, table_condition, table_went, table_sends, table_answer, table_held, gather, sender_if, records, index_of}
use Rattle.rules.proofs.Views.{Sender, data_from, seen, nil_cons}
use Rattle.rules.specs.Calendars.{position_after}
use Rattle.rules.specs.Calls.{Start, index, Went}
use Rattle.rules.specs.Falling.{following}
use Rattle.rules.specs.Messages.{Message, Segment, of_by, of, short_record, long_record}
use Rattle.rules.specs.Plain.{Queues, Plain, join_alone, join_minislot, join_row, queues_of, plain_success, plain_settled, overflows, plain_owner, renewed, plain_mark, next_group, plain_went, plain_senders, plain_lone_index, plain_lone_segment, plain_answer, grown, plain_turn, served, sent, rest, urgent_left, long_left, asking_row, some_of}
use Rattle.rules.specs.Queueing.{queued_row, passes}
use Rattle.rules.specs.StationLimits.{Condition, Free, Held, Fresh, Asked, Resolving, Urgent, Long, records_apart}
use Rattle.rules.specs.Stepping.{is_fresh}
use Rattle.rules.specs.Turns.{Turn, OwnedTurn, UrgentTurn, LongTurn, ResolveTurn, OpenTurn, is_open, turn_of}
use Rattle.rules.specs.declared.Places.{Places}
use Rattle.rules.specs.Outcome.{successes}
use borrow.Author.Tests.{eqb-true, eqb-false, lt-ltb, le-ltb, ltb-true, ltb-false, leb-true, leb-false, not-false}

-- lengths of what is left, and the turn; an owned slot leaves both queues whole
length_rest {ℓ} : {A : Type ℓ} (l : List A) → less (length l) ≡ length (rest l)
length_rest [] = refl
length_rest (x ∷ l) = refl

length-urgent : (o : Option ℕ) (u : List Message) → h_left o (length u) ≡ length (urgent_left o u)
length-urgent (some x) u = refl
length-urgent none u = length_rest u

length-long : (o : Option ℕ) (u : List Message) (l : List Segment) → n_left o (length u) (length l) ≡ length (long_left o u l)
length-long (some x) u l = refl
length-long none [] l = length_rest l
length-long none (x ∷ u) l = refl

pub turn_eq : (o : Option ℕ) (u : List Message) (l : List Segment) (r : List (List Message))
    → turn_of o (record { urgent = length u; long = length l; resolution = length r }) ≡ plain_turn o u l r
unfolding turn_of
turn_eq (some x) u l r = refl
turn_eq none (x ∷ u) l r = rw (lt-ltb 0 (suc (length u)) (omega arith))
turn_eq none [] (x ∷ l) r = rw (lt-ltb 0 (suc (length l)) (omega arith))
turn_eq none [] [] (x ∷ r) = rw (lt-ltb 0 (suc (length r)) (omega arith))
turn_eq none [] [] [] = refl

mark_eq : (x : Turn) → is_open x ≡ plain_mark x
mark_eq (OwnedTurn x) = refl
mark_eq UrgentTurn = refl
mark_eq LongTurn = refl
mark_eq ResolveTurn = refl
mark_eq OpenTurn = refl

length-served : (o : Option ℕ) (u : List Message) (l : List Segment) → length (served o u l) ≡ serves (heeded o (length u)) (heeded o (length l))
length-served (some x) u l = refl
length-served none (x ∷ u) l = refl
length-served none [] (y ∷ l) = refl
length-served none [] [] = refl

pub length-asking : (pick : ℕ → ℕ) (l : List Message) (n j : ℕ) → length (asking_row pick l n j) ≡ n
length-asking pick l zero j = refl
length-asking pick l (suc n) j = ap suc (length-asking pick l n (suc j))

-- the history grows by the immediate successes
row_out : (b : Bool) (ix : ℕ → ℕ) (l : List (List Message)) (q : Queues) → length (join_row b l q).history ≡ length q.history + successes b (map (read ix) l)
row_out b ix [] q = omega arith
row_out b ix ([] ∷ l) q = row_out b ix l q ∙ omega arith
row_out b ix ((x ∷ []) ∷ l) q = row_out b ix l (join_alone b (eqb x.slots 1) x q) ∙ go b (eqb x.slots 1)
  where
    go : (b o : Bool) → length (join_alone b o x q).history + successes b (map (read ix) l) ≡ length q.history + (cond (b && o) 1 0 + successes b (map (read ix) l))
    go true true = rw length-append (omega arith)
    go false true = omega arith
    go true false = omega arith
    go false false = omega arith
row_out b ix ((x ∷ y ∷ z) ∷ l) q = row_out b ix l (join_minislot b (x ∷ y ∷ z) q) ∙ omega arith

-- crowds stay crowds
crowd-more : (r : List (List Message)) (x : List Message) → 2 ≤ length x → Crowded r → Crowded (r ++ (x ∷ []))
crowd-more [] x h c = (h, tt)
crowd-more (y ∷ r) x h c = (c.0, crowd-more r x h c.1)

crowd-alone : (b o : Bool) (x : Message) (q : Queues) → Crowded q.resolution → Crowded (join_alone b o x q).resolution
crowd-alone true true x q c = c
crowd-alone false true x q c = c
crowd-alone b false x q c = c

row-crowd : (b : Bool) (l : List (List Message)) (q : Queues) → Crowded q.resolution → Crowded (join_row b l q).resolution
row-crowd b [] q c = c
row-crowd b ([] ∷ l) q c = row-crowd b l q c
row-crowd b ((x ∷ []) ∷ l) q c = row-crowd b l (join_alone b (eqb x.slots 1) x q) (crowd-alone b (eqb x.slots 1) x q c)
row-crowd b ((x ∷ y ∷ z) ∷ l) q c = row-crowd b l (join_minislot b (x ∷ y ∷ z) q) (crowd-more q.resolution (x ∷ y ∷ z) (omega arith) c)

rest-crowd : (r : List (List Message)) → Crowded r → Crowded (rest r)
rest-crowd [] c = tt
rest-crowd (x ∷ r) c = c.1

asks-free : (b : Bool) (r g j : ℕ) → asks b r g j Free ≡ Free
asks-free b zero g j = refl
asks-free b (suc r) g j = refl

-- what a record's place says of its queue's length
seen-inside {ℓ κ} : {A : Type ℓ} {E : Type κ} (f : A → List E) (q : List A) (i : ℕ) (x : E) → seen f q i ≡ x ∷ [] → i < length q
seen-inside f [] i x e = absurd (nil_cons e)
seen-inside f (y ∷ q) zero x e = omega arith
seen-inside f (y ∷ q) (suc i) x e = omega (arith, seen-inside f q i x e)

some-fresh : (m : Message) (c : Condition) → some_of (fresh_of m c) ≡ is_fresh c
some-fresh m Free = refl
some-fresh m (Held t) = refl
some-fresh m (Fresh t) = refl
some-fresh m (Asked g j t) = refl
some-fresh m (Resolving g i t) = refl
some-fresh m (Urgent i) = refl
some-fresh m (Long f l t) = refl

-- the next group: the same on both sides, and within the groups
next_eq : (n g : ℕ) → g ≤ n → following n g ≡ next_group n g
next_eq n g h = go (eqb g n) refl (ltb g n) refl
  where
    go : (b : Bool) → eqb g n ≡ b → (c : Bool) → ltb g n ≡ c → cond b 1 (g + 1) ≡ cond c (g + 1) 1
    go true e true f = let w : g ≡ n = eqb-true g n e in let v : g < n = ltb-true g n f in absurd (omega arith)
    go true e false f = refl
    go false e true f = refl
    go false e false f = let w : g ≢ n = eqb-false g n e in let v : n ≤ g = ltb-false g n f in absurd (omega arith)

next_low : (n g : ℕ) → 1 ≤ next_group n g
next_low n g = go (ltb g n)
  where
    go : (b : Bool) → 1 ≤ cond b (g + 1) 1
    go true = omega arith
    go false = omega arith

next-high : (n g : ℕ) → 1 ≤ g → g ≤ n → next_group n g ≤ n
next-high n g l h = go (ltb g n) refl
  where
    go : (b : Bool) → ltb g n ≡ b → cond b (g + 1) 1 ≤ n
    go true e = let w : g < n = ltb-true g n e in omega arith
    go false e = omega arith

-- the next position: one on, 23 to 0
position_eq : (q slots : ℕ) → q ≡ slots % 24 → position_after q ≡ (slots + 1) % 24
position_eq q slots h = go (eqb q 23) refl
  where
    go : (b : Bool) → eqb q 23 ≡ b → cond b 0 (q + 1) ≡ (slots + 1) % 24
    go true e = let w : q ≡ 23 = eqb-true q 23 e in omega arith
    go false e = let w : q ≢ 23 = eqb-false q 23 e in omega arith

rest-short {ℓ} : {A : Type ℓ} (l : List A) → length (rest l) ≤ length l
rest-short [] = omega arith
rest-short (x ∷ l) = omega arith

urgent-short : (o : Option ℕ) (u : List Message) → length (urgent_left o u) ≤ length u
urgent-short (some x) u = omega arith
urgent-short none u = rest-short u

left-short : (o : Option ℕ) (u : List Message) (l : List Segment) → length (long_left o u l) ≤ length l
left-short (some x) u l = omega arith
left-short none [] l = rest-short l
left-short none (x ∷ u) l = omega arith

pub and_both : (a b : Bool) → (a && b) ≡ true → (a ≡ true) × (b ≡ true)
and_both true b e = (refl, e)
and_both false b e = (e, cc)

-- refusal 7 on both sides
limit_eq : (l x : ℕ) → ltb l x ≡ not (leb x l)
limit_eq l x = go (leb x l) refl
  where
    go : (b : Bool) → leb x l ≡ b → ltb l x ≡ not b
    go true e = le-ltb l x (leb-true x l e)
    go false e = lt-ltb l x (leb-false x l e)

not-and : (a b c : Bool) → not a || not b || not c ≡ not (a && b && c)
not-and true true c = refl
not-and true false c = refl
not-and false b c = refl

pub passes_eq : (q : Queues) → passes (lengths q) ≡ overflows q
unfolding passes
passes_eq q = limits (length q.urgent) (length q.long) (length q.resolution)
  where
    limits : (h n r : ℕ) → ltb 4095 h || ltb 65535 n || ltb 4095 r ≡ not (leb h 4095 && leb n 65535 && leb r 4095)
    limits h n r = rw (limit_eq 4095 h, limit_eq 65535 n, limit_eq 4095 r) (not-and (leb h 4095) (leb n 65535) (leb r 4095))

within_le : (q : Queues) → overflows q ≡ false → (length q.urgent ≤ 4095) × (length q.long ≤ 65535) × (length q.resolution ≤ 4095)
within_le q e =
    let (ab, r) = and_both (leb (length q.urgent) 4095 && leb (length q.long) 65535) (leb (length q.resolution) 4095) (not-false _ e) in
    let (h, n) = and_both (leb (length q.urgent) 4095) (leb (length q.long) 65535) ab in
    (leb-true (length q.urgent) 4095 h, leb-true (length q.long) 65535 n, leb-true (length q.resolution) 4095 r)

-- the number of senders, and a lone sender's index and segment, as the senders are read; of an owned slot, its owner alone, with no segment
count_eq : (o : Option ℕ) (l : List Segment) → plain_senders o l ≡ owned_or o (λ i. 1) (length l)
count_eq (some x) l = refl
count_eq none l = refl

lone-index : (S : Start) (o : Option ℕ) (l : List Segment) → plain_lone_index S o l ≡ owned_or o (λ i. i) (lone_index_of (hearing (index_of S) (map data_from l)))
lone-index S (some x) l = refl
lone-index S none [] = refl
lone-index S none (s ∷ []) = ap (index S) (sym (holder-of s.message))
lone-index S none (s ∷ t ∷ l) = refl

lone-number : (S : Start) (l : List Segment) → plain_lone_segment l ≡ lone_number_of (hearing (index_of S) (map data_from l))
lone-number S [] = refl
lone-number S (s ∷ []) = refl
lone-number S (s ∷ t ∷ l) = refl

lone-segment : (S : Start) (o : Option ℕ) (u : List Message) (l : List Segment) (r : List (List Message)) (f : List Message)
    → plain_lone_segment (sent o u l r f) ≡ owned_or o (λ i. 0) (lone_number_of (hearing (index_of S) (map data_from (sent o u l r f))))
lone-segment S (some x) u l r f = refl
lone-segment S none u l r f = lone-number S (sent none u l r f)

-- a free station sends no segment
sends-free : (o : Option ℕ) (h n r : ℕ) → sends_in o h n r Free ≡ 0
sends-free (some x) h n r = refl
sends-free none h n r = refl

-- the segments that the plain channel sends in a slot, and their senders
abbrev pub segments_sent : Plain → List Segment
segments_sent p = sent (plain_owner p) (plain_settled p).urgent (plain_settled p).long (plain_settled p).resolution p.fresh

abbrev sent_by : Plain → List Sender
sent_by p = map data_from (segments_sent p)

pub went-cong : {t t' : Turn} {n n' i i' s s' d d' : ℕ} → t ≡ t' → n ≡ n' → i ≡ i' → s ≡ s' → d ≡ d' → Went t n i s d ≡ Went t' n' i' s' d'
went-cong a b c d e = cc

module _ (S : Start) (p : Plain) (t : Table) (R : Same S p t) where
  -- whose the coming slot is, the same on both sides
  pub owner_eq : table_owner t ≡ plain_owner p
  owner_eq = rw (R.calendar, R.position)

  -- what the table hears and counts is what the plain channel has
  pub heard_eq : table_row S t ≡ map (read (index_of S)) (p.group p.next).asking
  heard_eq = rw R.next (rw (← (R.rows p.next)) (row_eq S p t.condition R.message R.outside R.agrees p.next))

  counts_eq : table_places t ≡ lengths (queues_of p (p.group p.next))
  counts_eq = rw (R.next, R.h, R.n, R.rq p.next)

  success_eq : table_success t (table_row S t) ≡ plain_success (p.group p.next)
  success_eq = rw (heard_eq, R.next, R.opened p.next) (immediate_eq (index_of S) (p.group p.next))

  -- who is held back, and places within their queue
  held_eq : (k : ℕ) → table_held t k ≡ held_in p.fresh k
  held_eq k =
      ap (λ (b : Bool). is_long_record k && b)
      (sym (ap some_of (R.agrees (short_record (holder k))).fresh ∙ some-fresh (R.message (short_record (holder k))) (t.condition (short_record (holder k)))))

  pub stands-inside : (g k i : ℕ) → stands_in g i (t.condition k) ≡ true → i ≤ t.rq g
  stands-inside g k i e = go (t.condition k) (R.agrees k) e
    where
      go : (c : Condition) → Agrees S p k (R.message k) c → stands_in g i c ≡ true → i ≤ t.rq g
      go Free a e = absurd (no_true e)
      go (Held x) a e = absurd (no_true e)
      go (Fresh x) a e = absurd (no_true e)
      go (Asked h j x) a e = absurd (no_true e)
      go (Resolving h zero x) a e = let f : Fits S (R.message k) (Resolving h zero x) = a.fits in absurd (omega arith)
      go (Resolving h (suc j) x) a e =
          let (q, w) = and_both (eqb h g) (eqb (suc j) i) e in
          let z : suc j ≡ i = eqb-true (suc j) i w in
          let l = seen-inside (of k) (p.group g).resolution j (R.message k) (a.resolution g j ∙ rw q (shifted_at j (R.message k ∷ []))) in
          rw (R.rq g) (omega arith)
      go (Urgent j) a e = absurd (no_true e)
      go (Long f l x) a e = absurd (no_true e)

  pub settled_eq : table_settled S t ≡ lengths (plain_settled p)
  settled_eq =
      ap (λ (b : Bool). queued_row b (table_places t) (table_row S t)) success_eq
      ∙ ap (λ (r : List Feedback). queued_row (plain_success (p.group p.next)) (table_places t) r) heard_eq
      ∙ ap (λ (c : Places). queued_row (plain_success (p.group p.next)) c (map (read (index_of S)) (p.group p.next).asking)) counts_eq
      ∙ sym (row-lengths (plain_success (p.group p.next)) (index_of S) (p.group p.next).asking (queues_of p (p.group p.next)))

module _ (S : Start) (pick : ℕ → ℕ) (jl : (k : ℕ) → 1 ≤ pick k) (jh : (k : ℕ) → pick k ≤ S.m) (p : Plain) (t : Table) (R : Same S p t) where
  module _ (heard : List Feedback) (b : Bool) (c : Places) (eh : heard ≡ map (read (index_of S)) (p.group p.next).asking) (eb : b ≡ plain_success (p.group p.next)) (ec : c ≡ lengths (plain_settled p)) where
    first_eq : (k : ℕ) → settle b t.next heard (table_places t) (t.condition k) ≡ first S p (t.condition k)
    first_eq k =
        ap (λ (x : Bool). settle x t.next heard (table_places t) (t.condition k)) eb
        ∙ ap (λ (x : List Feedback). settle (plain_success (p.group p.next)) t.next x (table_places t) (t.condition k)) eh
        ∙ ap (λ (x : Places). settle (plain_success (p.group p.next)) t.next (map (read (index_of S)) (p.group p.next).asking) x (t.condition k)) (counts_eq S p t R)
        ∙ ap (λ (x : ℕ). settle (plain_success (p.group p.next)) x (map (read (index_of S)) (p.group p.next).asking) (lengths (queues_of p (p.group p.next))) (t.condition k)) R.next

    condition_eq : (k : ℕ) → table_condition pick t heard b c k ≡ later pick p k (plain_settled p) (first S p (t.condition k))
    condition_eq k = rw (first_eq k, ec, R.next, owner_eq S p t R, held_eq S p t R k)

    went-same : overflows (plain_settled p) ≡ false → Same S (plain_went S pick p (plain_settled p)) (table_went S pick t heard b c)
    went-same inside =
        record {
          h = rw (ec, owner_eq S p t R) (length-urgent (plain_owner p) (plain_settled p).urgent);
          n = rw (ec, owner_eq S p t R) (length-long (plain_owner p) (plain_settled p).urgent (plain_settled p).long);
          rq = λ g. rw (ec, R.next) (go-rq g (eqb g p.next));
          opened = λ g. rw (ec, R.next, owner_eq S p t R) (go_open g (eqb g p.next));
          next = rw R.next (next_eq S.n p.next R.high);
          calendar = R.calendar;
          position = position_eq t.position p.slots R.position;
          size = R.size;
          owners = R.owners;
          free = R.free;
          low = next_low S.n p.next;
          high = next-high S.n p.next R.low R.high;
          rows = λ g. go-rows g (eqb g p.next);
          crowds = λ g. go-crowds g (eqb g p.next);
          message = R.message;
          agrees = λ k. subst (Agrees S (plain_went S pick p (plain_settled p)) k (R.message k)) (sym (condition_eq k)) (station_ok S pick p k (R.message k) R.low R.high (jl (holder k)) (jh (holder k)) (t.condition k) (R.agrees k));
          apart = λ k. stay-apart k;
          outside = λ k l. condition_eq k ∙ rw (R.outside k l, asks-free (held_in p.fresh k) (length (plain_settled p).resolution) p.next (pick (holder k)));
          strangers = R.strangers;
          numbered = R.numbered;
          idle = λ g l. go-idle g l (eqb g p.next) refl;
          hmax = omega (arith, in_limits.0, urgent-short (plain_owner p) (plain_settled p).urgent);
          nmax = omega (arith, in_limits.1, left-short (plain_owner p) (plain_settled p).urgent (plain_settled p).long);
          rmax = λ g. go-rmax g (eqb g p.next);
        }
      where
        stay-apart : (k : ℕ) → records_apart (table_condition pick t heard b c (short_record k)) (table_condition pick t heard b c (long_record k)) ≡ true
        stay-apart k =
            rw (kind_short k, kind_long k, holder-short k, holder-long k)
            (slot_apart b t.next heard (table_places t) c.resolution (pick k) (heeded (table_owner t) c.urgent) (heeded (table_owner t) c.long)
            (t.condition (short_record k)) (t.condition (long_record k))
            (stands-inside S p t R t.next (short_record k)) (stands-inside S p t R t.next (long_record k)) (R.apart k))

        go-rq : (g : ℕ) (b : Bool) → cond b (less (length (plain_settled p).resolution)) (t.rq g) ≡ length (cond b (renewed S pick p (plain_settled p)) (p.group g)).resolution
        go-rq g true = length_rest (plain_settled p).resolution
        go-rq g false = R.rq g

        go_open : (g : ℕ) (b : Bool)
            → cond b (is_open (turn_of (plain_owner p) (lengths (plain_settled p)))) (t.opened g) ≡ (cond b (renewed S pick p (plain_settled p)) (p.group g)).opened
        go_open g true =
            ap is_open (turn_eq (plain_owner p) (plain_settled p).urgent (plain_settled p).long (plain_settled p).resolution)
            ∙ mark_eq (plain_turn (plain_owner p) (plain_settled p).urgent (plain_settled p).long (plain_settled p).resolution)
        go_open g false = R.opened g

        in_limits : (length (plain_settled p).urgent ≤ 4095) × (length (plain_settled p).long ≤ 65535) × (length (plain_settled p).resolution ≤ 4095)
        in_limits = within_le (plain_settled p) inside

        go-idle : (g : ℕ) → S.n < g → (b : Bool) → eqb g p.next ≡ b
            → ((cond b (renewed S pick p (plain_settled p)) (p.group g)).resolution ≡ []) × ((cond b (renewed S pick p (plain_settled p)) (p.group g)).opened ≡ true)
        go-idle g l true e = let w : g ≡ p.next = eqb-true g p.next e in absurd (omega (arith, R.high))
        go-idle g l false e = R.idle g l

        go-rmax : (g : ℕ) (b : Bool) → length (cond b (renewed S pick p (plain_settled p)) (p.group g)).resolution ≤ 4095
        go-rmax g true = omega (arith, in_limits.2, rest-short (plain_settled p).resolution)
        go-rmax g false = R.rmax g

        go-rows : (g : ℕ) (b : Bool) → length (cond b (renewed S pick p (plain_settled p)) (p.group g)).asking ≡ S.m
        go-rows g true = length-asking pick _ S.m 1
        go-rows g false = R.rows g

        go-crowds : (g : ℕ) (b : Bool) → Crowded (cond b (renewed S pick p (plain_settled p)) (p.group g)).resolution
        go-crowds g true = rest-crowd (plain_settled p).resolution (row-crowd (plain_success (p.group p.next)) (p.group p.next).asking (queues_of p (p.group p.next)) (R.crowds p.next))
        go-crowds g false = R.crowds g

    -- the answer
    list_all : (k : ℕ) → of_by (λ s. s.position) k (sent_by p) ≡ sender_if k (table_sends t heard b c k)
    list_all k =
        rw (first_eq k, ec, owner_eq S p t R)
        (send_ok S k (R.message k) (plain_owner p) (plain_settled p).urgent (plain_settled p).long (plain_settled p).resolution p.fresh (first S p (t.condition k)) (R.agrees k).mine s.fits (s.urgent zero) (s.long zero)
        ((R.agrees k).fresh
        ∙ sym (settle-fresh (plain_success (p.group p.next)) p.next (map (read (index_of S)) (p.group p.next).asking) (lengths (queues_of p (p.group p.next))) (R.message k) (t.condition k))))
      where
        s : Shows S p.next k (R.message k) (whole (of k p.taken)) (plain_settled p) (first S p (t.condition k))
        s = first_ok S pick p k (R.message k) R.low R.high (jl (holder k)) (jh (holder k)) (t.condition k) (R.agrees k)

    silent : (k : ℕ) → records S ≤ k → table_sends t heard b c k ≡ 0
    silent k l = rw (R.outside k l) (sends-free (table_owner t) c.urgent c.long c.resolution)

    answer-senders : length (segments_sent p) ≡ length (gather (λ k. sender_if k (table_sends t heard b c k)) (records S))
    answer-senders = sym (length-map (segments_sent p) data_from) ∙ senders-length (records S) (sent_by p) (table_sends t heard b c) silent list_all

    delivered_eq :
        grown p.history ((plain_settled p).history ++ served (plain_owner p) (plain_settled p).urgent (plain_settled p).long)
        ≡ successes b heard + serves (heeded (table_owner t) c.urgent) (heeded (table_owner t) c.long)
    delivered_eq =
        rw (eb, eh, ec, owner_eq S p t R)
        (omega (arith, length-append (plain_settled p).history (served (plain_owner p) (plain_settled p).urgent (plain_settled p).long), row_out (plain_success (p.group p.next)) (index_of S) (p.group p.next).asking (queues_of p (p.group p.next)), length-served (plain_owner p) (plain_settled p).urgent (plain_settled p).long))

    -- the senders are read alike
    read_alike : hearing (index_of S) (sent_by p) ≡ hearing (index_of S) (gather (λ k. sender_if k (table_sends t heard b c k)) (records S))
    read_alike = senders-read (records S) (sent_by p) (table_sends t heard b c) silent list_all (index_of S)

    answer-same : plain_answer S p (plain_went S pick p (plain_settled p)) (plain_settled p) ≡ table_answer S t heard b c
    answer-same =
        went-cong (rw (ec, owner_eq S p t R) (sym (turn_eq (plain_owner p) (plain_settled p).urgent (plain_settled p).long (plain_settled p).resolution)))
        (rw (← answer-senders, owner_eq S p t R) (count_eq (plain_owner p) (segments_sent p)))
        (rw (← read_alike, owner_eq S p t R) (lone-index S (plain_owner p) (segments_sent p)))
        (rw (← read_alike, owner_eq S p t R)
        (lone-segment S (plain_owner p) (plain_settled p).urgent (plain_settled p).long (plain_settled p).resolution p.fresh))
        delivered_eq

  pub slot_same : overflows (plain_settled p) ≡ false → Same S (plain_went S pick p (plain_settled p)) (table_went S pick t (table_row S t) (table_success t (table_row S t)) (table_settled S t))
  slot_same = went-same (table_row S t) (table_success t (table_row S t)) (table_settled S t) (heard_eq S p t R) (success_eq S p t R) (settled_eq S p t R)

  pub slot-answer : plain_answer S p (plain_went S pick p (plain_settled p)) (plain_settled p) ≡ table_answer S t (table_row S t) (table_success t (table_row S t)) (table_settled S t)
  slot-answer = answer-same (table_row S t) (table_success t (table_row S t)) (table_settled S t) (heard_eq S p t R) (success_eq S p t R) (settled_eq S p t R)

  -- a record's condition after step 1 is its message's
  pub settled-fits : (k : ℕ) → Fits S (R.message k) (settle (table_success t (table_row S t)) t.next (table_row S t) (table_places t) (t.condition k))
  settled-fits k =
      subst (Fits S (R.message k)) (sym (first_eq (table_row S t) (table_success t (table_row S t)) (table_settled S t) (heard_eq S p t R) (success_eq S p t R) (settled_eq S p t R) k))
      (first_ok S pick p k (R.message k) R.low R.high (jl (holder k)) (jh (holder k)) (t.condition k) (R.agrees k)).fits

  -- as many records send a segment as the plain channel sends segments
  pub senders_eq : length (segments_sent p) ≡ length (gather (λ k. sender_if k (table_sends t (table_row S t) (table_success t (table_row S t)) (table_settled S t) k)) (records S))
  senders_eq = answer-senders (table_row S t) (table_success t (table_row S t)) (table_settled S t) (heard_eq S p t R) (success_eq S p t R) (settled_eq S p t R)
