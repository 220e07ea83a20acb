-- The plain channel's test for 9, by totals, is what the paper says: a message of that station and kind is held or not all delivered. If the totals
-- differ, what remains in the record is of a message taken; and what is left of a message taken waits in its record. Assumes nothing.
use mathlib.Core.Path.{◌≡◌, refl, sym, ap, subst, ◌∙◌}
use mathlib.Core.Bool.{Bool, true, false, ◌||◌}
use mathlib.Core.List.{List, [], ◌∷◌, ◌++◌, Memᴰ}
use mathlib.Core.Logic.{◌⊎◌, inl, inr, ⊎_elim}
use Prim.Native.Nat.{ℕ, zero, suc, ◌-◌, ◌≤◌, ◌<◌}
use native.Mathlib.Omega.{arith}
use lib.Dec.{eqb}
use lib.ListN.{length, get_or}
use borrow.Author.Tests.{eq-eqb, ne_eqb, eqb-true, eqb-false, not-true}
use Rattle.listlaws.specs.Lists.{keep_if}
use Rattle.rules.specs.Calls.{Start}
use Rattle.rules.specs.Messages.{Message, Segment, of, segment, segments_from, delivered_of, delivered_for, record_of}
use Rattle.rules.specs.Plain.{Plain, slot_sum, some_of, waits, in_use}
use Rattle.rules.specs.Serving.{waiting}
use Rattle.rules.specs.declared.Condition.{Condition}
use Rattle.rules.specs.declared.Condition.TheVariants.{Free, Held, Fresh, Asked, Resolving, Urgent, Long}
use Rattle.channel_rules.specs.Demand3.{no_message, message_at, NotAllDelivered, IsHeld}
use Rattle.rules.proofs.Shared.{Table}
use Rattle.rules.proofs.Views.{eqb_self}
use Rattle.rules.proofs.Parting.{no_true}
use Rattle.rules.proofs.QueueViews.{length_segments}
use Rattle.rules.proofs.Relation.{Same, held_of, whole, remaining}
use Rattle.rules.proofs.Ledger.{ledger, length_rem}
use Rattle.channel_rules.proofs.Histories.{remaining-run, remaining-own, own-slots, history-of}
use Rattle.channel_rules.proofs.Following.{member}

-- ---- a segment of some messages is of one of them

in_run : (m : Message) (n s : ℕ) (x : Segment) → Memᴰ x (segments_from m n s) → x.message ≡ m
in_run m zero s x h = absurd (mathlib.Core.List.Memᴰ.not-nil h)
in_run m (suc n) s x h = ⊎_elim (λ e. ap (λ (y : Segment). y.message) e) (in_run m n (suc s) x) (mathlib.Core.List.Memᴰ.cases_cons h)

in_whole : (l : List Message) (x : Segment) → Memᴰ x (whole l) → Memᴰ x.message l
in_whole [] x h = absurd (mathlib.Core.List.Memᴰ.not-nil h)
in_whole (m ∷ l) x h =
    ⊎_elim (λ w. mathlib.Core.List.Memᴰ.head (in_run m m.slots 1 x w)) (λ w. mathlib.Core.List.Memᴰ.tail (in_whole l x w))
    (mathlib.Core.List.Memᴰ.append_cases (segments_from m m.slots 1) h)

in_own : (k : ℕ) (m : Message) (l : List Message) → Memᴰ m (of k l) → Memᴰ m l
in_own k m [] h = h
in_own k m (x ∷ l) h = go (in_own k m l) (eqb (record_of x) k) h
  where
    go : (Memᴰ m (of k l) → Memᴰ m l) → (b : Bool) → Memᴰ m (keep_if b x (of k l)) → Memᴰ m (x ∷ l)
    go ih true h = ⊎_elim (λ e. mathlib.Core.List.Memᴰ.head e) (λ w. mathlib.Core.List.Memᴰ.tail (ih w)) (mathlib.Core.List.Memᴰ.cases_cons h)
    go ih false h = mathlib.Core.List.Memᴰ.tail (ih h)

behind : (x : Segment) (a b : List Segment) → Memᴰ x (a ++ (x ∷ b))
behind x [] b = mathlib.Core.List.Memᴰ.head refl
behind x (y ∷ a) b = mathlib.Core.List.Memᴰ.tail (behind x a b)

-- a message of a list stands at a position
place_in : (m : Message) (l : List Message) → Memᴰ m l → (i : ℕ) × (i < length l) × (get_or l i no_message ≡ m)
place_in m [] h = absurd (mathlib.Core.List.Memᴰ.not-nil h)
place_in m (x ∷ l) h =
    ⊎_elim (λ e. (0, omega arith, sym e)) (λ w. let (i, lo, e) = place_in m l w in (suc i, omega arith, e)) (mathlib.Core.List.Memᴰ.cases_cons h)

-- what a record has in a list is of the record; and a message of the record in a list is one that it has there
of_record : (k : ℕ) (m : Message) (l : List Message) → Memᴰ m (of k l) → record_of m ≡ k
of_record k m [] h = absurd (mathlib.Core.List.Memᴰ.not-nil h)
of_record k m (x ∷ l) h = go (of_record k m l) (eqb (record_of x) k) refl h
  where
    go : (Memᴰ m (of k l) → record_of m ≡ k) → (b : Bool) → eqb (record_of x) k ≡ b → Memᴰ m (keep_if b x (of k l)) → record_of m ≡ k
    go ih true e h = ⊎_elim (λ w. ap record_of w ∙ eqb-true (record_of x) k e) ih (mathlib.Core.List.Memᴰ.cases_cons h)
    go ih false e h = ih h

some-own : (k : ℕ) (l : List Message) (i : ℕ) → i < length l → record_of (get_or l i no_message) ≡ k → some_of (of k l) ≡ true
some-own k [] i h e = absurd (omega arith)
some-own k (x ∷ l) zero h e = rw (eq-eqb (record_of x) k e)
some-own k (x ∷ l) (suc i) h e = go (some-own k l i (omega arith) e) (eqb (record_of x) k)
  where
    go : some_of (of k l) ≡ true → (b : Bool) → some_of (keep_if b x (of k l)) ≡ true
    go ih true = refl
    go ih false = ih

-- a record shows one message that is held, or none
pub held-once : (m : Message) (c : Condition) → length (held_of m c) ≤ 1
held-once m Free = omega arith
held-once m (Held t) = omega arith
held-once m (Fresh t) = omega arith
held-once m (Asked g j t) = omega arith
held-once m (Resolving g i t) = omega arith
held-once m (Urgent i) = omega arith
held-once m (Long f l t) = omega arith

module _ (S : Start) (p : Plain) (t : Table) (R : Same S p t) (k : ℕ) where
  -- what remains in record k is of a message taken
  holds : (l s : ℕ) → remaining (R.message k) (t.condition k) ≡ segments_from (R.message k) l s → 0 < l → Memᴰ (R.message k) p.taken
  holds zero s e h = absurd (omega arith)
  holds (suc l) s e h =
      let x = segment (R.message k) s in
      in_own k (R.message k) p.taken
      (in_whole (of k p.taken) x
      (subst (Memᴰ x) (ap (λ (z : List Segment). delivered_of k p.history ++ z) (sym e) ∙ (R.agrees k).owed)
      (behind x (delivered_of k p.history) (segments_from (R.message k) l (suc s)))))

  -- a message that has something left, by its position among those taken
  named : (m : Message) → Memᴰ m p.taken → record_of m ≡ k → length (delivered_for m.serial p.history) < m.slots → NotAllDelivered p k
  named m here own left =
      let (i, lo, at) = place_in m p.taken here in
      record {
        which = i;
        taken = lo;
        own = ap record_of at ∙ own;
        left = omega (arith, ap (λ (x : Message). length (delivered_for x.serial p.history)) at, ap (λ (x : Message). x.slots) at);
      }

  left-by-totals : waits p k ≡ true → NotAllDelivered p k
  left-by-totals w =
      let n = R.message k in
      let c = t.condition k in
      let differ = eqb-false (slot_sum (of k p.taken)) (length (delivered_of k p.history)) (not-true _ w) in
      let some : 0 < length (remaining n c) =
      omega (arith, ledger S p k n c (R.agrees k), length_rem S n c (R.agrees k).fits, differ) in
      let (l, s, e) = remaining-run n c in
      let here = holds l s e (omega (arith, ap length e, length_segments n l s)) in
      named n here (R.agrees k).mine
      (omega (arith, own-slots S p t R n here k (R.agrees k).mine, ap length (remaining-own n n.serial c (eqb_self n.serial))))

  totals-by-left : NotAllDelivered p k → waits p k ≡ true
  totals-by-left N =
      let m = message_at p N.which in
      let (d, most, order, rest) = history-of S p t R m (member p.taken N.which N.taken) in
      let few : d < m.slots = omega (arith, N.left, ap length order, length_segments m d 1) in
      let waits-here : waiting (t.condition k) ≡ m.slots - d = subst (λ (j : ℕ). waiting (t.condition j) ≡ m.slots - d) N.own (rest few) in
      rw (ne_eqb (slot_sum (of k p.taken)) (length (delivered_of k p.history))
      (λ e. omega (arith, e, few, waits-here, ledger S p k (R.message k) (t.condition k) (R.agrees k))))

  -- a message that is held, by its position among those
  held_place : some_of (of k p.held) ≡ true → IsHeld p k
  held_place w = go (of k p.held) refl w
    where
      go : (l : List Message) → of k p.held ≡ l → some_of l ≡ true → IsHeld p k
      go [] e w = absurd (no_true w)
      go (m ∷ l) e w =
          let here : Memᴰ m (of k p.held) = subst (Memᴰ m) (sym e) (mathlib.Core.List.Memᴰ.head refl) in
          let (i, lo, at) = place_in m p.held (in_own k m p.held here) in
          record { which = i; held = lo; own = ap record_of at ∙ of_record k m p.held here }

  place-held : IsHeld p k → some_of (of k p.held) ≡ true
  place-held h = some-own k p.held h.which h.held h.own

  pub nine-means : (in_use p k ≡ true → IsHeld p k ⊎ NotAllDelivered p k) × (IsHeld p k ⊎ NotAllDelivered p k → in_use p k ≡ true)
  nine-means = (λ w. either (some_of (of k p.held)) refl w, λ u. ⊎_elim (λ h. rw (place-held h)) (λ n. rw (totals-by-left n) (or_true (some_of (of k p.held)))) u)
    where
      either : (b : Bool) → some_of (of k p.held) ≡ b → (b || waits p k) ≡ true → IsHeld p k ⊎ NotAllDelivered p k
      either true e w = inl (held_place e)
      either false e w = inr (left-by-totals w)

      or_true : (b : Bool) → (b || true) ≡ true
      or_true true = refl
      or_true false = refl
