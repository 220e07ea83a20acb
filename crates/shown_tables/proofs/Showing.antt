-- A SHARED TABLE IS SHOWN BY A PLAIN CHANNEL: if each place of H and of N has one record, each place of an RQ two or more, every condition is inside the table
-- and each record keeps to its kind, then the plain channel made of the table stands in the relation of demand 3 to it. What a record sees of each queue is what
-- it gave to it, since a walk over the records keeps each one's own. Assumes nothing.
use mathlib.Core.Path.{◌≡◌, refl, sym, ap, ◌∙◌}
use mathlib.Core.Bool.{true}
use mathlib.Core.List.{List, [], ◌++◌}
use Prim.Native.Nat.{ℕ, suc, ◌%◌, ◌≤◌, ◌<◌}
use native.Mathlib.Omega.{arith}
use lib.ListN.{length, length-map}
use Rattle.listlaws.specs.Lists.{tabulate}
use Rattle.rules.specs.Calls.{Start}
use Rattle.rules.specs.Messages.{Message, Segment, of_by, of, delivered_of, record_of, short_record, long_record}
use Rattle.rules.specs.Plain.{Plain, among, on_channel}
use Rattle.rules.specs.Positions.{one, part}
use Rattle.rules.specs.StationLimits.{short_within, long_within, records_apart}
use Rattle.rules.specs.declared.Condition.{Condition}
use Rattle.rules.specs.declared.Condition.TheVariants.{Free}
use Rattle.rules.proofs.Records.{is_long_record}
use Rattle.rules.proofs.Relation.{held_of, fresh_of, asked_of, resolving_of, urgent_of, long_of, remaining, whole, Fits, Agrees, Same}
use Rattle.rules.proofs.Shared.{Table, records}
use Rattle.rules.proofs.Views.{sender_at, seen}
use Rattle.channel_rules.proofs.Sounding.{TableSound, urgent_here, long_here, resolving_here, urgent-here, long-here, resolving-here}
use Rattle.shown_tables.proofs.Tabled.{length-joined, length_tabled, crowded_tabled, collect-lengths, seen-joined, seen_tabled, gathered}
use Rattle.shown_tables.proofs.Made.{message_in, taken_of, past_of, all_show, plain_made, held-own, fresh-own, taken_own, past-own, urgent-own, long-own, asked-own, resolving-own}
use Rattle.shown_tables.proofs.Fitting.{message-mine, numbered-from, slots_range, fits_in, owed_in, urgent-past, long-past, asked-past, resolving-past}

-- what is asked of the table
pub record Showable (S : Start) (t : Table) : Type 0 where
  pub sound : TableSound S t
  pub brief : (s : ℕ) → short_within (t.condition (short_record s)) ≡ true
  pub lengthy : (s : ℕ) → long_within (t.condition (long_record s)) ≡ true
  pub apart : (s : ℕ) → records_apart (t.condition (short_record s)) (t.condition (long_record s)) ≡ true
  pub outside : (k : ℕ) → records S ≤ k → t.condition k ≡ Free
  pub position : t.position ≤ 23
  pub size : length t.calendar ≡ 24
  pub owners : on_channel S.indexes t.calendar ≡ true
  pub free : among t.calendar 65535 ≡ true

module _ (S : Start) (t : Table) (W : Showable S t) where
  abbrev message : ℕ → Message
  message k = message_in t.condition k

  abbrev made : Plain
  made = plain_made S t

  mine : (k : ℕ) → record_of (message k) ≡ k
  mine = message-mine t.condition W.brief W.lengthy

  -- what all records show, by its keys
  shows : {A : Type 0} (key : A → ℕ) (show : Message → Condition → List A) → ((k : ℕ) (m : Message) → record_of m ≡ k → (c : Condition) → of_by key k (show m c) ≡ show m c) → ((m : Message) → show m Free ≡ [])
      → (k : ℕ) → of_by key k (all_show S t show) ≡ show (message k) (t.condition k)
  shows key show own none_free k =
      gathered key (λ i. show (message i) (t.condition i)) (λ i. own i (message i) (mine i) (t.condition i)) (records S) (λ i w. ap (show (message i)) (W.outside i w) ∙ none_free (message i)) k

  -- ---- the queues

  abbrev urgent_at : ℕ → List Message
  urgent_at i = all_show S t (λ m c. urgent_of m c i)

  urgent-shows : (i k : ℕ) → of k (urgent_at i) ≡ urgent_of (message k) (t.condition k) i
  urgent-shows i k = shows (λ (m : Message). record_of m) (λ m c. urgent_of m c i) (λ k m e c. urgent-own k m e i c) (λ m. refl) k

  urgent-one : (i : ℕ) → i < t.h → length (urgent_at i) ≡ 1
  urgent-one i h =
      collect-lengths (λ k. urgent_of (message k) (t.condition k) i) (λ k. urgent_here (suc i) k (t.condition k))
      (λ k. sym (length-map (urgent_of (message k) (t.condition k) i) (λ (y : Message). sender_at k 0)) ∙ ap length (urgent-here k (message k) (t.condition k) i)) (records S) 0
      ∙ W.sound.urgent i h

  urgent-seen : (k i : ℕ) → seen (one k) made.urgent i ≡ urgent_of (message k) (t.condition k) i
  urgent-seen k i =
      seen-joined (λ (m : Message). record_of m) k t.h urgent_at urgent-one (λ i w. urgent-shows i k ∙ urgent-past S t (message k) i (t.condition k) (W.sound.inside k) w) i ∙ urgent-shows i k

  abbrev long_at : ℕ → List Segment
  long_at i = all_show S t (λ m c. long_of m c i)

  long-shows : (i k : ℕ) → delivered_of k (long_at i) ≡ long_of (message k) (t.condition k) i
  long-shows i k = shows (λ (s : Segment). record_of s.message) (λ m c. long_of m c i) (λ k m e c. long-own k m e i c) (λ m. refl) k

  fits : (k : ℕ) → Fits S (message k) (t.condition k)
  fits k = fits_in S t (message k) (is_long_record k) (t.condition k) refl (W.sound.inside k)

  long-one : (i : ℕ) → i < t.n → length (long_at i) ≡ 1
  long-one i h =
      collect-lengths (λ k. long_of (message k) (t.condition k) i) (λ k. long_here (suc i) k (t.condition k))
      (λ k. sym (length-map (long_of (message k) (t.condition k) i) (λ (y : Segment). sender_at k 0)) ∙ ap length (long-here k (message k) S (t.condition k) (fits k) i)) (records S) 0
      ∙ W.sound.long i h

  long-seen : (k i : ℕ) → seen (part k) made.long i ≡ long_of (message k) (t.condition k) i
  long-seen k i =
      seen-joined (λ (s : Segment). record_of s.message) k t.n long_at long-one (λ i w. long-shows i k ∙ long-past S t (message k) i (t.condition k) (W.sound.inside k) w) i ∙ long-shows i k

  abbrev asked_at : ℕ → ℕ → List Message
  asked_at g i = all_show S t (λ m c. asked_of g m c i)

  asked-shows : (g i k : ℕ) → of k (asked_at g i) ≡ asked_of g (message k) (t.condition k) i
  asked-shows g i k = shows (λ (m : Message). record_of m) (λ m c. asked_of g m c i) (λ k m e c. asked-own k m e g i c) (λ m. refl) k

  asked-seen : (k g i : ℕ) → seen (of k) (made.group g).asking i ≡ asked_of g (message k) (t.condition k) i
  asked-seen k g i =
      seen_tabled (λ (m : Message). record_of m) k S.m (asked_at g) (λ i w. asked-shows g i k ∙ asked-past S t (message k) i g (t.condition k) (W.sound.inside k) w) i ∙ asked-shows g i k

  abbrev resolving_at : ℕ → ℕ → List Message
  resolving_at g i = all_show S t (λ m c. resolving_of g m c i)

  resolving-shows : (g i k : ℕ) → of k (resolving_at g i) ≡ resolving_of g (message k) (t.condition k) i
  resolving-shows g i k = shows (λ (m : Message). record_of m) (λ m c. resolving_of g m c i) (λ k m e c. resolving-own k m e g i c) (λ m. refl) k

  resolving-seen : (k g i : ℕ) → seen (of k) (made.group g).resolution i ≡ resolving_of g (message k) (t.condition k) i
  resolving-seen k g i =
      seen_tabled (λ (m : Message). record_of m) k (t.rq g) (resolving_at g) (λ i w. resolving-shows g i k ∙ resolving-past S t (message k) i g (t.condition k) (W.sound.inside k) w) i ∙ resolving-shows g i k

  resolving-two : (g i : ℕ) → i < t.rq g → 2 ≤ length (resolving_at g i)
  resolving-two g i h =
      omega (
        arith,
        collect-lengths (λ k. resolving_of g (message k) (t.condition k) i) (λ k. resolving_here g (suc i) k (t.condition k))
            (λ k. sym (length-map (resolving_of g (message k) (t.condition k) i) (λ (y : Message). sender_at k 0)) ∙ ap length (resolving-here k (message k) g (t.condition k) i)) (records S) 0,
        W.sound.resolution g i h,
      )

  -- ---- what each record was given

  taken-shows : (k : ℕ) → of k made.taken ≡ taken_of (message k) (t.condition k)
  taken-shows k = shows (λ (m : Message). record_of m) taken_of taken_own (λ m. refl) k

  owed : (k : ℕ) → delivered_of k made.history ++ remaining (message k) (t.condition k) ≡ whole (of k made.taken)
  owed k =
      ap (λ (z : List Segment). z ++ remaining (message k) (t.condition k)) (shows (λ (s : Segment). record_of s.message) past_of past-own (λ m. refl) k)
      ∙ owed_in S t (message k) (is_long_record k) (t.condition k) refl (W.sound.inside k)
      ∙ ap whole (sym (taken-shows k))

  agrees : (k : ℕ) → Agrees S made k (message k) (t.condition k)
  agrees k =
      let range = slots_range S t (is_long_record k) (t.condition k) (W.sound.inside k) in
      record {
        mine = mine k;
        some = range.0;
        few = range.1;
        held = shows (λ (m : Message). record_of m) held_of held-own (λ m. refl) k;
        fresh = shows (λ (m : Message). record_of m) fresh_of fresh-own (λ m. refl) k;
        urgent = urgent-seen k;
        long = long-seen k;
        asking = asked-seen k;
        resolution = resolving-seen k;
        owed = owed k;
        fits = fits k;
      }

  h-is : length made.urgent ≡ t.h
  h-is = length-joined t.h urgent_at urgent-one

  n-is : length made.long ≡ t.n
  n-is = length-joined t.n long_at long-one

  rq-is : (g : ℕ) → length (made.group g).resolution ≡ t.rq g
  rq-is g = length_tabled (t.rq g) (resolving_at g)

  -- THE RELATION
  pub shown-same : Same S (plain_made S t) t
  shown-same =
      record {
        h = sym h-is;
        n = sym n-is;
        rq = λ g. sym (rq-is g);
        opened = λ g. refl;
        next = refl;
        calendar = refl;
        position = let w : t.position ≡ t.position % 24 = omega (arith, W.position) in w;
        size = W.size;
        owners = W.owners;
        free = W.free;
        low = W.sound.low;
        high = W.sound.high;
        rows = λ g. length_tabled S.m (asked_at g);
        crowds = λ g. crowded_tabled (t.rq g) (resolving_at g) (resolving-two g);
        message = message;
        agrees = agrees;
        apart = W.apart;
        outside = W.outside;
        strangers = λ k w. taken-shows k ∙ ap (taken_of (message k)) (W.outside k w);
        numbered = numbered-from t.condition (records S) 0;
        idle = λ g w. (ap (λ (n : ℕ). tabulate n (resolving_at g)) (W.sound.idle g w).0, (W.sound.idle g w).1);
        hmax = omega (arith, h-is, W.sound.hmax);
        nmax = omega (arith, n-is, W.sound.nmax);
        rmax = λ g. omega (arith, rq-is g, W.sound.rmax g);
      }
