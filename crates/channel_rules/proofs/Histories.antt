-- The history, message by message: the deliveries of each message taken are its segments 1 to d in order. Assumes nothing.
use mathlib.Core.Path.{◌≡◌, refl, sym, ap, ◌∙◌}
use mathlib.Core.Bool.{Bool, true, false}
use mathlib.Core.List.Memᴰ
use mathlib.Core.List.{List, [], ◌∷◌, ◌++◌, Memᴰ, append-nil}
use mathlib.Core.Logic.{◌≢◌, ◌⊎◌, inl, inr, ⊎_elim}
use Prim.Native.Nat.{ℕ, zero, suc, ◌+◌, ◌-◌, ◌≤◌, ◌<◌}
use native.Mathlib.Omega.{arith}
use lib.ListN.{length, drop, get_or, length-append}
use Rattle.rules.proofs.QueueViews.{length_segments}
use Rattle.rules.proofs.Newcomers.{of_by-append}
use Rattle.rules.proofs.Ledger.{length_rem}
use Rattle.rules.proofs.Relation.{Same, Numbered, whole, remaining}
use Rattle.rules.proofs.Shared.{Table}
use Rattle.rules.proofs.Views.{eqb_self, nil_cons}
use Rattle.rules.specs.Calls.{Start}
use Rattle.listlaws.specs.Lists.{keep_if, only_if}
use Rattle.rules.specs.Messages.{delivered_for, Message, Segment, of, segments_from, segment, delivered_of, record_of}
use Rattle.rules.specs.Plain.{Plain}
use Rattle.rules.specs.Serving.{waiting}
use Rattle.rules.specs.declared.Condition.{Condition}
use Rattle.rules.specs.declared.Condition.TheVariants.{Free, Held, Fresh, Asked, Resolving, Urgent, Long}
use borrow.Author.Tests.{eq-eqb, ne_eqb, eqb-false}
use lib.Dec.{eqb}

-- a first part of a run is a run
prefix : (m : Message) (n s : ℕ) (a b : List Segment) → a ++ b ≡ segments_from m n s → a ≡ segments_from m (length a) s
prefix m n s [] b e = refl
prefix m zero s (x ∷ a) b e = absurd (nil_cons (sym e))
prefix m (suc n) s (x ∷ a) b e = let h : x ≡ segment m s = ap (λ (l : List Segment). get_or l 0 x) e in rw (h, ← (prefix m n (suc s) a b (ap (λ (l : List Segment). drop 1 l) e)))

-- a message's own segments, and another's
for_own : (m : Message) (x : ℕ) → eqb m.serial x ≡ true → (n s : ℕ) → delivered_for x (segments_from m n s) ≡ segments_from m n s
for_own m x e zero s = refl
for_own m x e (suc n) s = rw e (ap (λ (l : List Segment). segment m s ∷ l) (for_own m x e n (suc s)))

for_other : (m : Message) (x : ℕ) → eqb m.serial x ≡ false → (n s : ℕ) → delivered_for x (segments_from m n s) ≡ []
for_other m x e zero s = refl
for_other m x e (suc n) s = rw e (for_other m x e n (suc s))

-- serials before the numbering begins do not occur
for_none : (k x : ℕ) (l : List Message) (j : ℕ) → Numbered j l → x < j → delivered_for x (whole (of k l)) ≡ []
for_none k x [] j n h = refl
for_none k x (m ∷ l) j n h = go (for_none k x l (suc j) n.1 (omega arith)) (eqb (record_of m) k)
  where
    go : delivered_for x (whole (of k l)) ≡ [] → (b : Bool) → delivered_for x (whole (keep_if b m (of k l))) ≡ []
    go ih true = of_by-append (λ (s : Segment). s.message.serial) x (segments_from m m.slots 1) (whole (of k l)) ∙ rw (for_other m x (ne_eqb m.serial x (λ e. omega arith)) m.slots 1) ih
    go ih false = ih

for_serial : (m : Message) (l : List Message) (j : ℕ) → Numbered j l → Memᴰ m l → j ≤ m.serial
for_serial m [] j n h = absurd (Memᴰ.not-nil h)
for_serial m (y ∷ l) j n h = ⊎_elim (λ e. go e) (λ w. omega (arith, for_serial m l (suc j) n.1 w)) (Memᴰ.cases_cons h)
  where
    go : m ≡ y → j ≤ m.serial
    go e = rw e (omega arith)

-- of all segments of record k's messages, those of message m: all of m's, if m is record k's
for_whole : (k : ℕ) (m : Message) (l : List Message) (j : ℕ) → Numbered j l → Memᴰ m l → delivered_for m.serial (whole (of k l)) ≡ only_if (eqb (record_of m) k) (segments_from m m.slots 1)
for_whole k m [] j n h = absurd (Memᴰ.not-nil h)
for_whole k m (y ∷ l) j n h = ⊎_elim here (λ w. there w (for_whole k m l (suc j) n.1 w)) (Memᴰ.cases_cons h)
  where
    here : m ≡ y → delivered_for m.serial (whole (of k (y ∷ l))) ≡ only_if (eqb (record_of m) k) (segments_from m m.slots 1)
    here e = rw e (go (for_none k y.serial l (suc j) n.1 (omega arith)) (eqb (record_of y) k))
      where
        go : delivered_for y.serial (whole (of k l)) ≡ [] → (b : Bool) → delivered_for y.serial (whole (keep_if b y (of k l))) ≡ only_if b (segments_from y y.slots 1)
        go ih true =
            of_by-append (λ (s : Segment). s.message.serial) y.serial (segments_from y y.slots 1) (whole (of k l))
            ∙ rw (for_own y y.serial (eqb_self y.serial) y.slots 1, ih) (append-nil (segments_from y y.slots 1))
        go ih false = ih

    there : Memᴰ m l → delivered_for m.serial (whole (of k l)) ≡ only_if (eqb (record_of m) k) (segments_from m m.slots 1) → delivered_for m.serial (whole (of k (y ∷ l))) ≡ only_if (eqb (record_of m) k) (segments_from m m.slots 1)
    there w ih = go (eqb (record_of y) k)
      where
        go : (b : Bool) → delivered_for m.serial (whole (keep_if b y (of k l))) ≡ only_if (eqb (record_of m) k) (segments_from m m.slots 1)
        go true =
            of_by-append (λ (s : Segment). s.message.serial) m.serial (segments_from y y.slots 1) (whole (of k l))
            ∙ rw (for_other y m.serial (ne_eqb y.serial m.serial (λ e. omega (arith, for_serial m l (suc j) n.1 w))) y.slots 1) ih
        go false = ih

-- entries of one serial that no other record has are one record's
one_record : (x k : ℕ) (l : List Segment) → ((i : ℕ) → i ≢ k → delivered_for x (delivered_of i l) ≡ []) → delivered_for x l ≡ delivered_for x (delivered_of k l)
one_record x k [] h = refl
one_record x k (s ∷ l) h = go (one_record x k l (λ i ne. less_one i (eqb (record_of s.message) i) (h i ne))) (eqb s.message.serial x) refl (eqb (record_of s.message) k) refl
  where
    less_two : (i : ℕ) (c : Bool) → keep_if c s (delivered_for x (delivered_of i l)) ≡ [] → delivered_for x (delivered_of i l) ≡ []
    less_two i true e = absurd (nil_cons (sym e))
    less_two i false e = e

    less_one : (i : ℕ) (b : Bool) → delivered_for x (keep_if b s (delivered_of i l)) ≡ [] → delivered_for x (delivered_of i l) ≡ []
    less_one i true e = less_two i (eqb s.message.serial x) e
    less_one i false e = e

    go : delivered_for x l ≡ delivered_for x (delivered_of k l) → (a : Bool) → eqb s.message.serial x ≡ a → (b : Bool) → eqb (record_of s.message) k ≡ b
        → keep_if (eqb s.message.serial x) s (delivered_for x l) ≡ delivered_for x (keep_if b s (delivered_of k l))
    go ih a e true f = ap (λ (z : List Segment). keep_if (eqb s.message.serial x) s z) ih
    go ih false e false f = rw e ih
    go ih true e false f = absurd (nil_cons (sym (rw (eqb_self (record_of s.message), e) at (h (record_of s.message) (eqb-false (record_of s.message) k f)))))

none_left : (a b : List Segment) → a ++ b ≡ [] → a ≡ []
none_left [] b e = refl
none_left (x ∷ a) b e = absurd (nil_cons (sym e))

-- what remains of a message in its record is a run of its segments
pub remaining-run : (n : Message) (c : Condition) → (l : ℕ) × (s : ℕ) × (remaining n c ≡ segments_from n l s)
remaining-run n Free = (0, 1, refl)
remaining-run n (Held t) = (0, 1, refl)
remaining-run n (Fresh t) = (n.slots, 1, refl)
remaining-run n (Asked g j t) = (n.slots, 1, refl)
remaining-run n (Resolving g i t) = (n.slots, 1, refl)
remaining-run n (Urgent i) = (n.slots, 1, refl)
remaining-run n (Long f l t) = (l, suc (t - l), refl)

-- so it is all of one message
pub remaining-own : (n : Message) (x : ℕ) (c : Condition) → eqb n.serial x ≡ true → delivered_for x (remaining n c) ≡ remaining n c
remaining-own n x c e = let (l, s, q) = remaining-run n c in rw q (for_own n x e l s)

remaining-other : (n : Message) (x : ℕ) (c : Condition) → eqb n.serial x ≡ false → delivered_for x (remaining n c) ≡ []
remaining-other n x c e = let (l, s, q) = remaining-run n c in rw q (for_other n x e l s)

module _ (S : Start) (p : Plain) (t : Table) (R : Same S p t) (m : Message) (h : Memᴰ m p.taken) where
  part_of : (k : ℕ) → delivered_for m.serial (delivered_of k p.history) ++ delivered_for m.serial (remaining (R.message k) (t.condition k)) ≡ only_if (eqb (record_of m) k) (segments_from m m.slots 1)
  part_of k =
      sym (of_by-append (λ (s : Segment). s.message.serial) m.serial (delivered_of k p.history) (remaining (R.message k) (t.condition k)))
      ∙ ap (delivered_for m.serial) (R.agrees k).owed
      ∙ for_whole k m p.taken 0 R.numbered h

  -- the message's deliveries, then what waits of it in its record, are its segments
  pub own-part : (k : ℕ) → record_of m ≡ k
      → delivered_for m.serial p.history ++ delivered_for m.serial (remaining (R.message k) (t.condition k)) ≡ segments_from m m.slots 1
  own-part k e =
      rw (one_record m.serial k p.history (λ i ne. none_left _ _ (part_of i ∙ rw (ne_eqb (record_of m) i (λ w. ne (sym w ∙ e))))))
      (part_of k ∙ rw (eq-eqb (record_of m) k e))

  pub own-slots : (k : ℕ) → record_of m ≡ k
      → length (delivered_for m.serial p.history) + length (delivered_for m.serial (remaining (R.message k) (t.condition k))) ≡ m.slots
  own-slots k e =
      sym (length-append (delivered_for m.serial p.history) (delivered_for m.serial (remaining (R.message k) (t.condition k))))
      ∙ ap length (own-part k e) ∙ length_segments m m.slots 1

  -- what waits in the record is of one message
  waiting_for : (x k : ℕ) → (delivered_for x (remaining (R.message k) (t.condition k)) ≡ []) ⊎ (length (delivered_for x (remaining (R.message k) (t.condition k))) ≡ waiting (t.condition k))
  waiting_for x k = go (eqb (R.message k).serial x) refl
    where
      go : (b : Bool) → eqb (R.message k).serial x ≡ b
          → (delivered_for x (remaining (R.message k) (t.condition k)) ≡ []) ⊎ (length (delivered_for x (remaining (R.message k) (t.condition k))) ≡ waiting (t.condition k))
      go true e = inr (ap length (remaining-own (R.message k) x (t.condition k) e) ∙ length_rem S (R.message k) (t.condition k) (R.agrees k).fits)
      go false e = inl (remaining-other (R.message k) x (t.condition k) e)

  -- the message's deliveries are its first segments, in order, and the rest wait in its record
  pub history-of : (d : ℕ) × (d ≤ m.slots) × (delivered_for m.serial p.history ≡ segments_from m d 1) × (d < m.slots → waiting (t.condition (record_of m)) ≡ m.slots - d)
  history-of =
      let v = own-slots (record_of m) refl in (
        length (delivered_for m.serial p.history),
        omega arith,
        prefix m m.slots 1 (delivered_for m.serial p.history) _ (own-part (record_of m) refl),
        λ l. ⊎_elim (λ q. absurd (omega (arith, ap length q))) (λ q. omega arith) (waiting_for m.serial (record_of m)),
      )
