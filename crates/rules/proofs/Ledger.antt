-- THE LEDGER of one message record: the slots of its messages taken are those delivered and those that wait, so that it is in use exactly if it is not
-- free. Assumes nothing.
use mathlib.Core.Path.{◌≡◌, refl, sym, ap, ◌∙◌}
use mathlib.Core.Bool.{Bool, true, not, ◌||◌}
use mathlib.Core.List.{List, [], ◌∷◌, ◌++◌, append_assoc}
use Prim.Native.Nat.{ℕ, suc, ◌+◌, ◌-◌, ◌≤◌}
use native.Mathlib.Omega.{arith}
use lib.Dec.{eqb}
use lib.ListN.{length, length-append}
use borrow.Author.Tests.{ne_eqb}
use Rattle.rules.proofs.QueueViews.{length_segments}
use Rattle.rules.proofs.Relation.{Agrees, Numbered, Same, Fits, held_of, remaining, whole}
use Rattle.rules.proofs.Shared.{Table}
use Rattle.rules.proofs.Views.{eqb_self}
use Rattle.rules.specs.Calls.{Start}
use Rattle.rules.specs.Messages.{Message, Segment, of, segments_from, delivered_of}
use Rattle.rules.specs.Plain.{some_of, Plain, waits, in_use, slot_sum}
use Rattle.rules.specs.Serving.{waiting}
use Rattle.rules.specs.Writing.{is_free, is_held}
use Rattle.rules.specs.StationLimits.{Condition, Free, Held, Fresh, Asked, Resolving, Urgent, Long}

pub length_whole : (l : List Message) → length (whole l) ≡ slot_sum l
length_whole [] = refl
length_whole (m ∷ l) = length-append (segments_from m m.slots 1) (whole l) ∙ rw (length_segments m m.slots 1, length_whole l)

pub length_rem : (S : Start) (m : Message) (c : Condition) → Fits S m c → length (remaining m c) ≡ waiting c
length_rem S m Free f = refl
length_rem S m (Held t) f = refl
length_rem S m (Fresh t) f = length_segments m m.slots 1 ∙ sym f
length_rem S m (Asked g j t) f = length_segments m m.slots 1 ∙ sym f.0
length_rem S m (Resolving g i t) f = length_segments m m.slots 1 ∙ sym f.0
length_rem S m (Urgent i) f = length_segments m m.slots 1 ∙ f.0
length_rem S m (Long x l t) f = length_segments m l (suc (t - l))

-- THE LEDGER, one record: the slots of its messages taken are those delivered and those that wait
pub ledger : (S : Start) (p : Plain) (k : ℕ) (m : Message) (c : Condition) → Agrees S p k m c → slot_sum (of k p.taken) ≡ length (delivered_of k p.history) + waiting c
ledger S p k m c a =
    sym (length_whole (of k p.taken)) ∙ sym (ap length a.owed) ∙ length-append (delivered_of k p.history) (remaining m c)
    ∙ ap (λ (n : ℕ). length (delivered_of k p.history) + n) (length_rem S m c a.fits)

-- a record is in use exactly if it is not free: its message is held, or not all delivered
held-seen : (m : Message) (c : Condition) → some_of (held_of m c) ≡ is_held c
held-seen m Free = refl
held-seen m (Held t) = refl
held-seen m (Fresh t) = refl
held-seen m (Asked g j t) = refl
held-seen m (Resolving g i t) = refl
held-seen m (Urgent i) = refl
held-seen m (Long f l t) = refl

used_wait : (S : Start) (m : Message) (c : Condition) → 1 ≤ m.slots → Fits S m c → (a b : ℕ) → a ≡ b + waiting c → (is_held c || not (eqb a b)) ≡ not (is_free c)
used_wait S m Free h f a b e = rw (let w : a ≡ b = omega arith in w, eqb_self b)
used_wait S m (Held t) h f a b e = refl
used_wait S m (Fresh t) h f a b e = ap not (ne_eqb a b (λ w. omega arith))
used_wait S m (Asked g j t) h f a b e = ap not (ne_eqb a b (λ w. omega arith))
used_wait S m (Resolving g i t) h f a b e = ap not (ne_eqb a b (λ w. omega arith))
used_wait S m (Urgent i) h f a b e = ap not (ne_eqb a b (λ w. omega arith))
used_wait S m (Long x l t) h f a b e = ap not (ne_eqb a b (λ w. omega arith))

pub used_eq : (S : Start) (p : Plain) (t : Table) → Same S p t → (k : ℕ) → in_use p k ≡ not (is_free (t.condition k))
used_eq S p t R k =
    let a = R.agrees k in
    ap (λ (b : Bool). b || waits p k) (ap some_of a.held ∙ held-seen (R.message k) (t.condition k))
    ∙ used_wait S (R.message k) (t.condition k) a.some a.fits (slot_sum (of k p.taken)) (length (delivered_of k p.history)) (ledger S p k (R.message k) (t.condition k) a)

pub is_free_lem : (c : Condition) → is_free c ≡ true → c ≡ Free
is_free_lem Free e = refl
is_free_lem (Held t) e = cc
is_free_lem (Fresh t) e = cc
is_free_lem (Asked g j t) e = cc
is_free_lem (Resolving g i t) e = cc
is_free_lem (Urgent i) e = cc
is_free_lem (Long f l t) e = cc

pub whole_append : (a b : List Message) → whole (a ++ b) ≡ whole a ++ whole b
whole_append [] b = refl
whole_append (m ∷ a) b = ap (λ (z : List Segment). segments_from m m.slots 1 ++ z) (whole_append a b) ∙ sym (append_assoc (segments_from m m.slots 1) (whole a) (whole b))

pub numbered_more : (l : List Message) (j : ℕ) (m : Message) → m.serial ≡ j + length l → Numbered j l → Numbered j (l ++ (m ∷ []))
numbered_more [] j m e n = (omega arith, tt)
numbered_more (x ∷ l) j m e n = (n.0, numbered_more l (suc j) m (omega arith) n.1)
