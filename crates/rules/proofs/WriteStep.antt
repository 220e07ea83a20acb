-- A writing keeps the relation and answers alike, refused or not: an offer, a hold, a commit and a withdrawal alter the lists of messages held, fresh and
-- taken by one record's messages, and that record's condition. Assumes nothing.
use mathlib.Core.Path.{◌≡◌, refl, sym, ap, ◌∙◌}
use mathlib.Core.Bool.{Bool, true, false, not, cond, ◌&&◌}
use mathlib.Core.List.{List, [], ◌∷◌, ◌++◌, append-nil}
use mathlib.Core.Option.{Option, none, some}
use mathlib.Core.Logic.{◌≢◌}
use Prim.Native.Nat.{ℕ, suc, ◌+◌, ◌≤◌, ◌<◌, ◌/◌, ◌%◌}
use native.Mathlib.Omega.{arith}
use lib.Dec.{leb, eqb}
use lib.ListN.{length}
use Rattle.rules.proofs.Ledger.{used_eq, is_free_lem, whole_append, numbered_more}
use Rattle.rules.proofs.Newcomers.{of_by-append}
use Rattle.rules.proofs.AskViews.{of-those}
use Rattle.rules.proofs.SlotStep.{and_both}
use Rattle.message.specs.Message.{fits_message, fits_short, slots_for, ceiling}
use Rattle.rules.proofs.Relation.{Agrees, Numbered, Same, SameResult, whole}
use Rattle.rules.proofs.Shared.{Table, TableResult, table_refuse, table_with, table_written, table_write, records}
use Rattle.rules.proofs.Views.{eqb_self, seen}
use Rattle.listlaws.specs.Lists.{keep_if}
use Rattle.rules.specs.Calls.{Start}
use Rattle.rules.specs.Messages.{Message, Segment, of, segments_from, delivered_of, short_record, long_record, record_of}
use Rattle.rules.specs.Plain.{station_from, Plain, PlainResult, plain_refuse, plain_with, plain_takes, plain_holds, plain_offer, plain_hold, plain_new, held_else, plain_commit, plain_withdraw, plain_held, record_named, plain_writing, plain_write, in_use, newcomer}
use Rattle.rules.specs.Positions.{one, part}
use Rattle.rules.specs.Refusing.{unless, by_number}
use Rattle.rules.specs.Writing.{ShortOne, LongOne, Which, Writing, Offer, Hold, Commit, Withdraw, is_free, is_held, record_for}
use Rattle.rules.specs.StationLimits.{Condition, Free, Held, Fresh, Asked, Resolving, Urgent, Long, records_apart}
use borrow.Author.Tests.{leb-true, leb-false, le-leb, eq-eqb, eqb-true, ne_eqb, eqb-false}

-- a refused call changes nothing
pub refused : (S : Start) (p : Plain) (t : Table) (n : ℕ) → Same S p t → SameResult S (plain_refuse p n) (table_refuse t n)
refused S p t n R = record { state = R; answer = refl }

-- the same test on both sides
pub both : (S : Start) (b : Bool) (x x' : PlainResult) (y y' : TableResult) → (b ≡ true → SameResult S x y) → (b ≡ false → SameResult S x' y') → SameResult S (cond b x x') (cond b y y')
both S true x x' y y' f g = f refl
both S false x x' y y' f g = g refl

pub station-below : (l : List ℕ) (x j k : ℕ) → station_from j l x ≡ some k → k < j + length l
station-below [] x j k e = let z : ◌≡◌ {A = ℕ} 0 1 = cc in absurd (omega arith)
station-below (y ∷ l) x j k e = go (station-below l x (suc j) k) (eqb y x) e
  where
    go : (station_from (suc j) l x ≡ some k → k < suc j + length l) → (b : Bool) → cond b (some j) (station_from (suc j) l x) ≡ some k → k < j + suc (length l)
    go ih true e = let w : j ≡ k = cc in omega arith
    go ih false e = omega (arith, ih e)

-- ---- one record that asks and sends nothing

-- a record that stands in no queue: all that it was given is delivered
record Idle (p : Plain) (k : ℕ) : Type 0 where
  fresh : of k p.fresh ≡ []
  urgent : (i : ℕ) → seen (one k) p.urgent i ≡ []
  long : (i : ℕ) → seen (part k) p.long i ≡ []
  asking : (g i : ℕ) → seen (of k) (p.group g).asking i ≡ []
  resolution : (g i : ℕ) → seen (of k) (p.group g).resolution i ≡ []
  owed : delivered_of k p.history ≡ whole (of k p.taken)

idle-free : (S : Start) (p : Plain) (k : ℕ) (m : Message) → Agrees S p k m Free → Idle p k
idle-free S p k m a =
    record { fresh = a.fresh; urgent = a.urgent; long = a.long; asking = a.asking; resolution = a.resolution; owed = sym (append-nil (delivered_of k p.history)) ∙ a.owed }

idle-held : (S : Start) (p : Plain) (k t : ℕ) (m : Message) → Agrees S p k m (Held t) → Idle p k
idle-held S p k t m a =
    record { fresh = a.fresh; urgent = a.urgent; long = a.long; asking = a.asking; resolution = a.resolution; owed = sym (append-nil (delivered_of k p.history)) ∙ a.owed }

-- a message of another record, and of this one, at the end of a list
of-more : (n : Message) (k : ℕ) (b : Bool) → eqb (record_of n) k ≡ b → (l : List Message) → of k (l ++ (n ∷ [])) ≡ of k l ++ keep_if b n []
of-more n k b e l = of_by-append (λ (m : Message). record_of m) k l (n ∷ []) ∙ rw e

of-far : (n : Message) (k : ℕ) → eqb (record_of n) k ≡ false → (l : List Message) → of k (l ++ (n ∷ [])) ≡ of k l
of-far n k e l = of-more n k false e l ∙ append-nil (of k l)

of-own : (n : Message) (l : List Message) → of (record_of n) l ≡ [] → of (record_of n) (l ++ (n ∷ [])) ≡ n ∷ []
of-own n l e = of-more n (record_of n) true (eqb_self (record_of n)) l ∙ rw e

-- what is held but for one record's
else_own : (p : Plain) (k : ℕ) → of k (held_else p k) ≡ []
else_own p k = of-those (λ m. not (eqb (record_of m) k)) k false (λ m e. ap not (eq-eqb (record_of m) k e)) p.held

else_far : (p : Plain) (k i : ℕ) → eqb k i ≡ false → of i (held_else p k) ≡ of i p.held
else_far p k i f = of-those (λ m. not (eqb (record_of m) k)) i true (λ m e. ap not (ne_eqb (record_of m) k (λ w. eqb-false k i f (sym w ∙ e)))) p.held

module _ (S : Start) (p : Plain) (n : Message) (held : List Message) (some : 1 ≤ n.slots) (few : n.slots ≤ 255) (idle : Idle p (record_of n)) where
  -- it is taken
  taken_own : of (record_of n) held ≡ [] → Agrees S (plain_with p held (p.fresh ++ (n ∷ [])) (p.taken ++ (n ∷ []))) (record_of n) n (Fresh n.slots)
  taken_own e =
      record {
        mine = refl;
        some = some;
        few = few;
        held = e;
        fresh = of-own n p.fresh idle.fresh;
        urgent = idle.urgent;
        long = idle.long;
        asking = idle.asking;
        resolution = idle.resolution;
        owed =
            ap (λ (z : List Segment). z ++ segments_from n n.slots 1) idle.owed
            ∙ ap (λ (z : List Segment). whole (of (record_of n) p.taken) ++ z) (sym (append-nil (segments_from n n.slots 1)))
            ∙ sym (whole_append (of (record_of n) p.taken) (n ∷ []))
            ∙ ap whole (sym (of-more n (record_of n) true (eqb_self (record_of n)) p.taken));
        fits = refl;
      }

  -- it is held, and it is gone
  held-own : of (record_of n) held ≡ n ∷ [] → Agrees S (plain_holds p held) (record_of n) n (Held n.slots)
  held-own e =
      record {
        mine = refl;
        some = some;
        few = few;
        held = e;
        fresh = idle.fresh;
        urgent = idle.urgent;
        long = idle.long;
        asking = idle.asking;
        resolution = idle.resolution;
        owed = append-nil (delivered_of (record_of n) p.history) ∙ idle.owed;
        fits = refl;
      }

  gone_own : of (record_of n) held ≡ [] → Agrees S (plain_holds p held) (record_of n) n Free
  gone_own e =
      record {
        mine = refl;
        some = some;
        few = few;
        held = e;
        fresh = idle.fresh;
        urgent = idle.urgent;
        long = idle.long;
        asking = idle.asking;
        resolution = idle.resolution;
        owed = append-nil (delivered_of (record_of n) p.history) ∙ idle.owed;
        fits = tt;
      }

-- a condition that is apart from any other
record Calm (c : Condition) : Type 0 where
  before : (d : Condition) → records_apart c d ≡ true
  after : (d : Condition) → records_apart d c ≡ true

free-calm : Calm Free
unfolding records_apart
free-calm = record { before = λ d. refl; after = after }
  where
    after : (d : Condition) → records_apart d Free ≡ true
    after Free = refl
    after (Held x) = refl
    after (Fresh x) = refl
    after (Asked g j x) = refl
    after (Resolving g j x) = refl
    after (Urgent j) = refl
    after (Long f l x) = refl

held-calm : (t : ℕ) → Calm (Held t)
unfolding records_apart
held-calm t = record { before = λ d. refl; after = after }
  where
    after : (d : Condition) → records_apart d (Held t) ≡ true
    after Free = refl
    after (Held x) = refl
    after (Fresh x) = refl
    after (Asked g j x) = refl
    after (Resolving g j x) = refl
    after (Urgent j) = refl
    after (Long f l x) = refl

fresh-calm : (t : ℕ) → Calm (Fresh t)
unfolding records_apart
fresh-calm t = record { before = λ d. refl; after = after }
  where
    after : (d : Condition) → records_apart d (Fresh t) ≡ true
    after Free = refl
    after (Held x) = refl
    after (Fresh x) = refl
    after (Asked g j x) = refl
    after (Resolving g j x) = refl
    after (Urgent j) = refl
    after (Long f l x) = refl

-- ---- THE RELATION with one record written: the lists of messages of the other records are as they were

module _ (S : Start) (p : Plain) (t : Table) (R : Same S p t) (n : Message) (c : Condition) (held fresh taken : List Message) (inside : record_of n < records S)
    (others : (i : ℕ) → eqb (record_of n) i ≡ false → (of i held ≡ of i p.held) × (of i fresh ≡ of i p.fresh) × (of i taken ≡ of i p.taken))
    (own : Agrees S (plain_with p held fresh taken) (record_of n) n c) (calm : Calm c) (numbers : Numbered 0 taken) where
  far : (i : ℕ) → eqb i (record_of n) ≡ false → eqb (record_of n) i ≡ false
  far i e = ne_eqb (record_of n) i (λ w. eqb-false i (record_of n) e (sym w))

  written-other : (i : ℕ) → eqb i (record_of n) ≡ false → Agrees S (plain_with p held fresh taken) i (R.message i) (t.condition i)
  written-other i e =
      let a = R.agrees i in
      let o = others i (far i e) in
      record {
        mine = a.mine;
        some = a.some;
        few = a.few;
        held = o.0 ∙ a.held;
        fresh = o.1 ∙ a.fresh;
        urgent = a.urgent;
        long = a.long;
        asking = a.asking;
        resolution = a.resolution;
        owed = a.owed ∙ ap whole (sym o.2);
        fits = a.fits;
      }

  written_apart : (a b : Bool) (d e : Condition) → records_apart d e ≡ true → records_apart (cond a c d) (cond b c e) ≡ true
  written_apart true b d e h = calm.before (cond b c e)
  written_apart false true d e h = calm.after d
  written_apart false false d e h = h

  written : Same S (plain_with p held fresh taken) (table_with t (record_of n) c)
  written =
      record {
        h = R.h;
        n = R.n;
        rq = R.rq;
        opened = R.opened;
        next = R.next;
        calendar = R.calendar;
        position = R.position;
        size = R.size;
        owners = R.owners;
        free = R.free;
        low = R.low;
        high = R.high;
        rows = R.rows;
        crowds = R.crowds;
        message = λ i. cond (eqb i (record_of n)) n (R.message i);
        agrees = λ i. go i (eqb i (record_of n)) refl;
        apart = λ k. written_apart (eqb (short_record k) (record_of n)) (eqb (long_record k) (record_of n)) (t.condition (short_record k)) (t.condition (long_record k)) (R.apart k);
        outside = λ i l. rw (ne_eqb i (record_of n) (λ w. omega arith)) (R.outside i l);
        strangers = λ i l. (others i (ne_eqb (record_of n) i (λ w. omega arith))).2 ∙ R.strangers i l;
        numbered = numbers;
        idle = R.idle;
        hmax = R.hmax;
        nmax = R.nmax;
        rmax = R.rmax;
      }
    where
      go : (i : ℕ) (b : Bool) → eqb i (record_of n) ≡ b → Agrees S (plain_with p held fresh taken) i (cond b n (R.message i)) (cond b c (t.condition i))
      go i true e = rw (eqb-true i (record_of n) e) own
      go i false e = written-other i e

-- ---- the four writings, where they go through

module _ (S : Start) (p : Plain) (t : Table) (R : Same S p t) where
  -- a message taken, with what is then held
  took : (n : Message) (held : List Message) → n.serial ≡ length p.taken → record_of n < records S → Idle p (record_of n) → 1 ≤ n.slots → n.slots ≤ 255
      → of (record_of n) held ≡ [] → ((i : ℕ) → eqb (record_of n) i ≡ false → of i held ≡ of i p.held)
      → Same S (plain_with p held (p.fresh ++ (n ∷ [])) (p.taken ++ (n ∷ []))) (table_with t (record_of n) (Fresh n.slots))
  took n held serial inside idle low high empty others =
      written S p t R n (Fresh n.slots) held (p.fresh ++ (n ∷ [])) (p.taken ++ (n ∷ [])) inside
      (λ i e. (others i e, of-far n i e p.fresh, of-far n i e p.taken))
      (taken_own S p n held low high idle empty) (fresh-calm n.slots) (numbered_more p.taken 0 n (omega (arith, serial)) R.numbered)

  -- a new message of station k, in a record that is free
  module _ (n : Message) (serial : n.serial ≡ length p.taken) (inside : record_of n < records S) (some : 1 ≤ n.slots) (few : n.slots ≤ 255) (free : t.condition (record_of n) ≡ Free) where
    a : Agrees S p (record_of n) (R.message (record_of n)) Free
    a = rw free at (R.agrees (record_of n))

    idle : Idle p (record_of n)
    idle = idle-free S p (record_of n) (R.message (record_of n)) a

    offer-same : Same S (plain_takes p n) (table_with t (record_of n) (Fresh n.slots))
    offer-same = took n p.held serial inside idle some few a.held (λ i e. refl)

    hold-same : Same S (plain_holds p (p.held ++ (n ∷ []))) (table_with t (record_of n) (Held n.slots))
    hold-same =
        written S p t R n (Held n.slots) (p.held ++ (n ∷ [])) p.fresh p.taken inside (λ i e. (of-far n i e p.held, refl, refl))
        (held-own S p n (p.held ++ (n ∷ [])) some few idle (of-own n p.held a.held)) (held-calm n.slots) R.numbered

  -- a message m that is held in record k
  module _ (m : Message) (x : ℕ) (inside : record_of m < records S) (a : Agrees S p (record_of m) m (Held x)) where
    kept : Idle p (record_of m)
    kept = idle-held S p (record_of m) x m a

    commit-same : Same S (plain_commit p (record_of m) m).state (table_with t (record_of m) (Fresh m.slots))
    unfolding record_of
    commit-same =
        took (newcomer p m.station m.slots) (held_else p (record_of m)) refl inside kept a.some a.few (else_own p (record_of m)) (else_far p (record_of m))

    withdraw-same : Same S (plain_withdraw p (record_of m) m).state (table_with t (record_of m) Free)
    withdraw-same =
        written S p t R m Free (held_else p (record_of m)) p.fresh p.taken inside (λ i e. (else_far p (record_of m) i e, refl, refl))
        (gone_own S p m (held_else p (record_of m)) a.some a.few kept (else_own p (record_of m))) free-calm R.numbered

-- a message that fits takes 1 to 255 slots
pub good-size : (bytes : ℕ) → fits_message bytes ≡ true → (1 ≤ slots_for bytes) × (slots_for bytes ≤ 255)
unfolding fits_message slots_for ceiling
good-size bytes e = go (eqb (bytes % 48) 0) refl
  where
    sides : (1 ≤ bytes) × (bytes ≤ 12240)
    sides = let (a, b) = and_both (leb 1 bytes) (leb bytes 12240) e in (leb-true 1 bytes a, leb-true bytes 12240 b)

    go : (b : Bool) → eqb (bytes % 48) 0 ≡ b → (1 ≤ cond b (bytes / 48) (bytes / 48 + 1)) × (cond b (bytes / 48) (bytes / 48 + 1) ≤ 255)
    go true w = let z : bytes % 48 ≡ 0 = eqb-true (bytes % 48) 0 w in omega (arith, sides)
    go false w = let z : bytes % 48 ≢ 0 = eqb-false (bytes % 48) 0 w in omega (arith, sides)

-- the length that picks the short record is that of a message of one slot
pub short-slots : (bytes : ℕ) → fits_message bytes ≡ true → fits_short bytes ≡ eqb (slots_for bytes) 1
unfolding fits_message fits_short slots_for ceiling
short-slots bytes e = go (leb bytes 48) refl
  where
    sides : (1 ≤ bytes) × (bytes ≤ 12240)
    sides = let (a, b) = and_both (leb 1 bytes) (leb bytes 12240) e in (leb-true 1 bytes a, leb-true bytes 12240 b)

    one : bytes ≤ 48 → (b : Bool) → eqb (bytes % 48) 0 ≡ b → cond b (bytes / 48) (bytes / 48 + 1) ≡ 1
    one l true w = let z : bytes % 48 ≡ 0 = eqb-true (bytes % 48) 0 w in omega (arith, sides)
    one l false w = let z : bytes % 48 ≢ 0 = eqb-false (bytes % 48) 0 w in omega (arith, sides)

    more : 48 < bytes → (b : Bool) → eqb (bytes % 48) 0 ≡ b → cond b (bytes / 48) (bytes / 48 + 1) ≢ 1
    more l true w q = let z : bytes % 48 ≡ 0 = eqb-true (bytes % 48) 0 w in omega (arith, q)
    more l false w q = let z : bytes % 48 ≢ 0 = eqb-false (bytes % 48) 0 w in omega (arith, q)

    go : (b : Bool) → leb bytes 48 ≡ b → (leb 1 bytes && b) ≡ eqb (cond (eqb (bytes % 48) 0) (bytes / 48) (bytes / 48 + 1)) 1
    go true w = rw (le-leb 1 bytes sides.0) (sym (eq-eqb _ 1 (one (leb-true bytes 48 w) (eqb (bytes % 48) 0) refl)))
    go false w = rw (le-leb 1 bytes sides.0) (sym (ne_eqb _ 1 (more (leb-false bytes 48 w) (eqb (bytes % 48) 0) refl)))

-- so the record that a message is for is the one that holds it
taking_record : (p : Plain) (k bytes : ℕ) → fits_message bytes ≡ true → record_named k (record_for bytes) ≡ record_of (newcomer p k (slots_for bytes))
unfolding record_of
taking_record p k bytes e = named (fits_short bytes) ∙ ap (λ (b : Bool). cond b (short_record k) (long_record k)) (short-slots bytes e)
  where
    named : (b : Bool) → record_named k (cond b ShortOne LongOne) ≡ cond b (short_record k) (long_record k)
    named true = refl
    named false = refl

-- ---- EVERY WRITING, refused or not

module _ (S : Start) (p : Plain) (t : Table) (R : Same S p t) where
  -- an offer or a hold of station k: by its length and its record
  new-same : (k bytes : ℕ) → k < length S.indexes → (done : Message → PlainResult) (y : Condition → TableResult)
      → ((n : Message) → n.serial ≡ length p.taken → record_of n < records S → 1 ≤ n.slots → n.slots ≤ 255 → t.condition (record_of n) ≡ Free → n.slots ≡ slots_for bytes
      → record_named k (record_for bytes) ≡ record_of n → SameResult S (done n) (y (t.condition (record_named k (record_for bytes)))))
      → SameResult S (plain_new p k bytes done) (by_number (unless (fits_message bytes) 10 (unless (is_free (t.condition (record_named k (record_for bytes)))) 9 0)) (table_refuse t) (y (t.condition (record_named k (record_for bytes)))))
  new-same k bytes h done y through = go (fits_message bytes) refl
    where
      n : Message
      n = newcomer p k (slots_for bytes)

      c : Condition
      c = t.condition (record_named k (record_for bytes))

      inside : fits_message bytes ≡ true → record_of n < records S
      inside f = rw (← (taking_record p k bytes f)) (kept (record_for bytes))
        where
          kept : (o : Which) → record_named k o < records S
          kept ShortOne = omega (arith, h)
          kept LongOne = omega (arith, h)

      used : fits_message bytes ≡ true → (b : Bool) → is_free c ≡ b
          → SameResult S (cond (not b) (plain_refuse p 9) (done n)) (by_number (unless b 9 0) (table_refuse t) (y c))
      used f true e =
          through n refl (inside f) (good-size bytes f).0 (good-size bytes f).1 (rw (← (taking_record p k bytes f)) (is_free_lem c e)) refl (taking_record p k bytes f)
      used f false e = refused S p t 9 R

      go : (f : Bool) → fits_message bytes ≡ f
          → SameResult S (cond f (cond (in_use p (record_of n)) (plain_refuse p 9) (done n)) (plain_refuse p 10)) (by_number (unless f 10 (unless (is_free c) 9 0)) (table_refuse t) (y c))
      go true f = rw (used_eq S p t R (record_of n), ← (taking_record p k bytes f)) (used f (is_free c) refl)
      go false f = refused S p t 10 R

  -- a commit or a withdrawal of record k: by whether a message is held there
  held_same : (k : ℕ) (done : Message → PlainResult) (y : Condition → TableResult) → ((m : Message) (x : ℕ) → record_of m ≡ k → Agrees S p k m (Held x) → SameResult S (done m) (y (Held x)))
      → (c : Condition) → t.condition k ≡ c → SameResult S (plain_held p done (of k p.held)) (by_number (unless (is_held c) 22 0) (table_refuse t) (y c))
  held_same k done y through c e = go c (rw e at (R.agrees k))
    where
      none-held : (m : Message) → of k p.held ≡ [] → SameResult S (plain_held p done (of k p.held)) (table_refuse t 22)
      none-held m w = rw w (refused S p t 22 R)

      go : (c : Condition) → Agrees S p k (R.message k) c → SameResult S (plain_held p done (of k p.held)) (by_number (unless (is_held c) 22 0) (table_refuse t) (y c))
      go Free a = none-held (R.message k) a.held
      go (Held x) a = rw a.held (through (R.message k) x a.mine a)
      go (Fresh x) a = none-held (R.message k) a.held
      go (Asked g j x) a = none-held (R.message k) a.held
      go (Resolving g i x) a = none-held (R.message k) a.held
      go (Urgent i) a = none-held (R.message k) a.held
      go (Long f l x) a = none-held (R.message k) a.held

  writing-same : (k : ℕ) → k < length S.indexes → (w : Writing) → SameResult S (plain_writing p k w) (table_write t w (some k))
  writing-same k h (Offer bytes) =
      new-same k bytes h (plain_offer p) (table_written t (record_named k (record_for bytes)) (Offer bytes))
      (λ n serial inside low high free size at. rw (at, ← size) (record { state = offer-same S p t R n serial inside low high free; answer = refl }))
  writing-same k h (Hold bytes) =
      new-same k bytes h (plain_hold p) (table_written t (record_named k (record_for bytes)) (Hold bytes))
      (λ n serial inside low high free size at. rw (at, ← size) (record { state = hold-same S p t R n serial inside low high free; answer = refl }))
  writing-same k h (Commit o) =
      held_same (record_named k o) (plain_commit p (record_named k o)) (table_written t (record_named k o) (Commit o))
      (λ m x mine a. rw (← mine, (rw (← mine) at a).fits) (record { state = commit-same S p t R m x (within o m mine) (rw (← mine) at a); answer = refl }))
      (t.condition (record_named k o)) refl
    where
      within : (o : Which) (m : Message) → record_of m ≡ record_named k o → record_of m < records S
      within ShortOne m e = rw e (omega (arith, h))
      within LongOne m e = rw e (omega (arith, h))
  writing-same k h (Withdraw o) =
      held_same (record_named k o) (plain_withdraw p (record_named k o)) (table_written t (record_named k o) (Withdraw o))
      (λ m x mine a. rw (← mine, (rw (← mine) at a).fits) (record { state = withdraw-same S p t R m x (within o m mine) (rw (← mine) at a); answer = refl }))
      (t.condition (record_named k o)) refl
    where
      within : (o : Which) (m : Message) → record_of m ≡ record_named k o → record_of m < records S
      within ShortOne m e = rw e (omega (arith, h))
      within LongOne m e = rw e (omega (arith, h))

  pub write_same : (w : Writing) (o : Option ℕ) → ((k : ℕ) → o ≡ some k → k < length S.indexes) → SameResult S (plain_write p w o) (table_write t w o)
  write_same w none h = refused S p t 16 R
  write_same w (some k) h = writing-same k (h k refl) w
