-- The plain channel that a shared table shows: each queue has, at each place, the messages of the records that stand there; the messages taken are one for each
-- record that is neither free nor held, numbered in the records' order; the history has the segments that a record in a stretch has behind it. Here are the
-- definitions, and what each condition shows of its own message. Assumes nothing.
use mathlib.Core.Path.{◌≡◌, refl, ap, ◌∙◌}
use mathlib.Core.Bool.{Bool, cond}
use mathlib.Core.List.{List, [], ◌∷◌}
use Prim.Native.Nat.{ℕ, zero, suc, ◌-◌}
use lib.Dec.{eqb}
use borrow.Author.Tests.{eq-eqb}
use Rattle.listlaws.specs.Lists.{keep_if, tabulate}
use Rattle.listlaws.proofs.Totals.{total}
use Rattle.rules.specs.Calls.{Start}
use Rattle.rules.specs.Messages.{Message, Segment, segment, segments_from, of, delivered_of, record_of}
use Rattle.rules.specs.Plain.{Plain}
use Rattle.rules.specs.declared.Condition.{Condition}
use Rattle.rules.specs.declared.Condition.TheVariants.{Free, Held, Fresh, Asked, Resolving, Urgent, Long}
use Rattle.rules.proofs.Records.{holder, is_long_record}
use Rattle.rules.proofs.Relation.{held_of, fresh_of, asked_of, resolving_of, urgent_of, long_of}
use Rattle.rules.proofs.Shared.{Table, gather, records}
use Rattle.rules.proofs.Views.{at_first, at_place, run}
use Rattle.shown_tables.proofs.Tabled.{joined, if_own, first-own, place-own}

-- ---- the messages

-- the slots of a record's message by its condition: 1 if a short record is free, 2 if a long one is
abbrev pub slots_in : Bool → Condition → ℕ
slots_in b Free = cond b 2 1
slots_in b (Held t) = t
slots_in b (Fresh t) = t
slots_in b (Asked g j t) = t
slots_in b (Resolving g i t) = t
slots_in b (Urgent i) = 1
slots_in b (Long f l t) = t

-- 1 if its message was taken
abbrev pub busy : Condition → ℕ
busy Free = 0
busy (Held t) = 0
busy (Fresh t) = 1
busy (Asked g j t) = 1
busy (Resolving g i t) = 1
busy (Urgent i) = 1
busy (Long f l t) = 1

-- the message of record k, numbered after those of the records before it
abbrev pub message_in : (ℕ → Condition) → ℕ → Message
message_in c k = record { serial = total k (λ i. busy (c i)); station = holder k; slots = slots_in (is_long_record k) (c k) }

-- a record's message if it was taken, and its segments that were delivered
abbrev pub taken_of : Message → Condition → List Message
taken_of m Free = []
taken_of m (Held t) = []
taken_of m (Fresh t) = m ∷ []
taken_of m (Asked g j t) = m ∷ []
taken_of m (Resolving g i t) = m ∷ []
taken_of m (Urgent i) = m ∷ []
taken_of m (Long f l t) = m ∷ []

abbrev pub past_of : Message → Condition → List Segment
past_of m Free = []
past_of m (Held t) = []
past_of m (Fresh t) = []
past_of m (Asked g j t) = []
past_of m (Resolving g i t) = []
past_of m (Urgent i) = []
past_of m (Long f l t) = segments_from m (t - l) 1

-- ---- THE PLAIN CHANNEL

-- what all records show
abbrev pub all_show {ℓ} : {A : Type ℓ} → Start → Table → (Message → Condition → List A) → List A
all_show S t show = gather (λ k. show (message_in t.condition k) (t.condition k)) (records S)

abbrev pub plain_made : Start → Table → Plain
plain_made S t =
    record {
      held = all_show S t held_of;
      fresh = all_show S t fresh_of;
      urgent = joined t.h (λ i. all_show S t (λ m c. urgent_of m c i));
      long = joined t.n (λ i. all_show S t (λ m c. long_of m c i));
      next = t.next;
      group = λ g.
          record {
            opened = t.opened g;
            asking = tabulate S.m (λ i. all_show S t (λ m c. asked_of g m c i));
            resolution = tabulate (t.rq g) (λ i. all_show S t (λ m c. resolving_of g m c i));
          };
      calendar = t.calendar;
      slots = t.position;
      taken = all_show S t taken_of;
      history = all_show S t past_of;
    }

-- ---- each condition shows entries of its own record only

module _ (k : ℕ) (m : Message) (mine : record_of m ≡ k) where
  own : of k (m ∷ []) ≡ m ∷ []
  own = ap (λ (b : Bool). keep_if b m []) (eq-eqb (record_of m) k mine)

  own-place : (j i : ℕ) → of k (at_place j (at_first (m ∷ [])) i) ≡ at_place j (at_first (m ∷ [])) i
  own-place j i = place-own (λ (x : Message). record_of x) k (at_first (m ∷ [])) (first-own (λ (x : Message). record_of x) k (m ∷ []) own) j i

  own_segments : (n s : ℕ) → delivered_of k (segments_from m n s) ≡ segments_from m n s
  own_segments zero s = refl
  own_segments (suc n) s =
      ap (λ (b : Bool). keep_if b (segment m s) (delivered_of k (segments_from m n (suc s)))) (eq-eqb (record_of m) k mine) ∙ ap (λ (z : List Segment). segment m s ∷ z) (own_segments n (suc s))

  own-run : (l s i : ℕ) → delivered_of k (run m l s i) ≡ run m l s i
  own-run zero s i = refl
  own-run (suc l) s zero = ap (λ (b : Bool). keep_if b (segment m s) []) (eq-eqb (record_of m) k mine)
  own-run (suc l) s (suc i) = own-run l (suc s) i

  pub held-own : (c : Condition) → of k (held_of m c) ≡ held_of m c
  held-own Free = refl
  held-own (Held t) = own
  held-own (Fresh t) = refl
  held-own (Asked g j t) = refl
  held-own (Resolving g i t) = refl
  held-own (Urgent i) = refl
  held-own (Long f l t) = refl

  pub fresh-own : (c : Condition) → of k (fresh_of m c) ≡ fresh_of m c
  fresh-own Free = refl
  fresh-own (Held t) = refl
  fresh-own (Fresh t) = own
  fresh-own (Asked g j t) = refl
  fresh-own (Resolving g i t) = refl
  fresh-own (Urgent i) = refl
  fresh-own (Long f l t) = refl

  pub taken_own : (c : Condition) → of k (taken_of m c) ≡ taken_of m c
  taken_own Free = refl
  taken_own (Held t) = refl
  taken_own (Fresh t) = own
  taken_own (Asked g j t) = own
  taken_own (Resolving g i t) = own
  taken_own (Urgent i) = own
  taken_own (Long f l t) = own

  pub past-own : (c : Condition) → delivered_of k (past_of m c) ≡ past_of m c
  past-own Free = refl
  past-own (Held t) = refl
  past-own (Fresh t) = refl
  past-own (Asked g j t) = refl
  past-own (Resolving g i t) = refl
  past-own (Urgent i) = refl
  past-own (Long f l t) = own_segments (t - l) 1

  pub urgent-own : (i : ℕ) (c : Condition) → of k (urgent_of m c i) ≡ urgent_of m c i
  urgent-own i Free = refl
  urgent-own i (Held t) = refl
  urgent-own i (Fresh t) = refl
  urgent-own i (Asked g j t) = refl
  urgent-own i (Resolving g j t) = refl
  urgent-own i (Urgent j) = own-place j i
  urgent-own i (Long f l t) = refl

  pub long-own : (i : ℕ) (c : Condition) → delivered_of k (long_of m c i) ≡ long_of m c i
  long-own i Free = refl
  long-own i (Held t) = refl
  long-own i (Fresh t) = refl
  long-own i (Asked g j t) = refl
  long-own i (Resolving g j t) = refl
  long-own i (Urgent j) = refl
  long-own i (Long f l t) = place-own (λ (x : Segment). record_of x.message) k (run m l (suc (t - l))) (own-run l (suc (t - l))) f i

  pub asked-own : (g i : ℕ) (c : Condition) → of k (asked_of g m c i) ≡ asked_of g m c i
  asked-own g i Free = refl
  asked-own g i (Held t) = refl
  asked-own g i (Fresh t) = refl
  asked-own g i (Asked h j t) = if_own (λ (x : Message). record_of x) k (eqb h g) (at_place j (at_first (m ∷ [])) i) (own-place j i)
  asked-own g i (Resolving h j t) = refl
  asked-own g i (Urgent j) = refl
  asked-own g i (Long f l t) = refl

  pub resolving-own : (g i : ℕ) (c : Condition) → of k (resolving_of g m c i) ≡ resolving_of g m c i
  resolving-own g i Free = refl
  resolving-own g i (Held t) = refl
  resolving-own g i (Fresh t) = refl
  resolving-own g i (Asked h j t) = refl
  resolving-own g i (Resolving h j t) = if_own (λ (x : Message). record_of x) k (eqb h g) (at_place j (at_first (m ∷ [])) i) (own-place j i)
  resolving-own g i (Urgent j) = refl
  resolving-own g i (Long f l t) = refl
