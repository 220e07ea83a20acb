-- DEMAND 3 over the model: after every list of calls the table is what the plain channel shows, and every answer was the plain channel's. And the ledger.
-- Assumes nothing.
use mathlib.Core.Path.{◌≡◌, refl, sym, ap, ◌∙◌}
use mathlib.Core.Bool.{Bool, true, false}
use mathlib.Core.List.{List, [], ◌∷◌, ◌++◌, map, append-nil}
use Prim.Native.Nat.{ℕ, zero, suc, ◌+◌, ◌-◌, ◌≤◌, ◌<◌}
use native.Mathlib.Omega.{arith}
use lib.ListN.{length}
use Rattle.rules.proofs.QueueViews.{shifted-plus}
use Rattle.rules.proofs.Newcomers.{of_by-append}
use Rattle.listlaws.proofs.Totals.{total, total-cong, total-add}
use Rattle.rules.proofs.Census.{length-total}
use Rattle.rules.proofs.AskedRows.{row_eq}
use Rattle.rules.proofs.Ledger.{ledger, length_whole}
use Rattle.rules.proofs.CallStep.{call_same}
use Rattle.channel_rules.proofs.Searching.{condition_eq}
use Rattle.rules.proofs.Clauses.{read}
use Rattle.rules.proofs.Relation.{Agrees, Same, Fits, whole}
use Rattle.rules.proofs.Shared.{Table, records, index_of, table_call, asked_row, table_after, table_answers}
use Rattle.rules.proofs.Views.{sender_at, data_from, seen, run}
use Rattle.rules.specs.Calls.{Start, Call}
use Rattle.listlaws.specs.Lists.{keep_if, only_if}
use Rattle.rules.specs.Messages.{Message, Segment, of, segments_from, segment, delivered_of, record_of}
use Rattle.rules.specs.Plain.{Plain, plain_call, slot_sum, plain_after, plain_answers}
use Rattle.rules.specs.Positions.{part, condition_of}
use Rattle.rules.specs.Serving.{waiting}
use Rattle.rules.specs.declared.Condition.TheVariants.{Long}
use borrow.Author.Tests.{eqb-true}
use lib.Dec.{eqb}

module _ (S : Start) (ml : 1 ≤ S.m) where
  pub run-same : (calls : List Call) (p : Plain) (t : Table) → Same S p t → Same S (plain_after S p calls) (table_after S t calls)
  run-same [] p t R = R
  run-same (c ∷ l) p t R = run-same l (plain_call S p c).state (table_call S t c).state (call_same S ml p t R c).state

  pub run-answers : (calls : List Call) (p : Plain) (t : Table) → Same S p t → plain_answers S p calls ≡ table_answers S t calls
  run-answers [] p t R = refl
  run-answers (c ∷ l) p t R = rw ((call_same S ml p t R c).answer, run-answers l (plain_call S p c).state (table_call S t c).state (call_same S ml p t R c).state)

-- what a reader is told of a state of the table beside a state of the plain channel
pub record Shown (S : Start) (p : Plain) (t : Table) : Type 0 where
  pub h : t.h ≡ length p.urgent
  pub n : t.n ≡ length p.long
  pub rq : (g : ℕ) → t.rq g ≡ length (p.group g).resolution
  pub opened : (g : ℕ) → t.opened g ≡ (p.group g).opened
  pub next : t.next ≡ p.next
  pub condition : (k : ℕ) → t.condition k ≡ condition_of S p k
  pub stretch : (k f l s : ℕ) → t.condition k ≡ Long f l s → (i : ℕ) → i < l → seen (λ (x : Segment). data_from x ∷ []) p.long (f - 1 + i) ≡ sender_at k (s - l + 1 + i) ∷ []
  pub wire : (g : ℕ) → asked_row (index_of S) (records S) t.condition g S.m 1 ≡ map (read (index_of S)) (p.group g).asking

-- a stretch's segments, one by one
run_at : (m : Message) (l s i : ℕ) → i < l → run m l s i ≡ segment m (s + i) ∷ []
run_at m zero s i h = absurd (omega arith)
run_at m (suc l) s zero h = ap (λ (x : ℕ). segment m x ∷ []) (omega arith)
run_at m (suc l) s (suc i) h = run_at m l (suc s) i (omega arith) ∙ ap (λ (x : ℕ). segment m x ∷ []) (omega arith)

part-entry : (k : ℕ) (q : List Segment) (i : ℕ) (x : Segment) → seen (part k) q i ≡ x ∷ [] → seen (λ (y : Segment). data_from y ∷ []) q i ≡ sender_at k x.number ∷ []
part-entry k [] i x e = cc
part-entry k (y ∷ q) zero x e = go (eqb (record_of y.message) k) refl e
  where
    go : (b : Bool) → eqb (record_of y.message) k ≡ b → only_if b (y ∷ []) ≡ x ∷ [] → data_from y ∷ [] ≡ sender_at k x.number ∷ []
    go true w e = let z : y ≡ x = cc in rw (eqb-true (record_of y.message) k w, z)
    go false w e = cc
part-entry k (y ∷ q) (suc i) x e = part-entry k q i x e

stretch-at : (S : Start) (p : Plain) (k : ℕ) (m : Message) (f l s : ℕ) → Agrees S p k m (Long f l s) → (i : ℕ) → i < l
    → seen (λ (x : Segment). data_from x ∷ []) p.long (f - 1 + i) ≡ sender_at k (s - l + 1 + i) ∷ []
stretch-at S p k m zero l s a i h = let w : Fits S m (Long zero l s) = a.fits in absurd (omega arith)
stretch-at S p k m (suc f) l s a i h =
    ap (seen (λ (x : Segment). data_from x ∷ []) p.long) (let e : suc f - 1 + i ≡ f + i = omega arith in e)
    ∙ part-entry k p.long (f + i) (segment m (suc (s - l) + i)) (a.long (f + i) ∙ shifted-plus f i (run m l (suc (s - l))) ∙ run_at m l (suc (s - l)) i h)
    ∙ ap (λ (x : ℕ). sender_at k x ∷ []) (omega arith)

pub shown : (S : Start) (p : Plain) (t : Table) → Same S p t → Shown S p t
shown S p t R =
    record {
      h = R.h;
      n = R.n;
      rq = R.rq;
      opened = R.opened;
      next = R.next;
      condition = λ k. sym (condition_eq S p k (R.message k) (t.condition k) (R.agrees k));
      stretch = λ k f l s e i h. stretch-at S p k (R.message k) f l s (rw e at (R.agrees k)) i h;
      wire = λ g. rw (← (R.rows g)) (row_eq S p t.condition R.message R.outside R.agrees g);
    }

-- THE LEDGER: the slots of all messages taken are those delivered and those that wait in the records
own-from : (k : ℕ) (m : Message) → eqb (record_of m) k ≡ true → (n s : ℕ) → delivered_of k (segments_from m n s) ≡ segments_from m n s
own-from k m e zero s = refl
own-from k m e (suc n) s = rw e (ap (λ (l : List Segment). segment m s ∷ l) (own-from k m e n (suc s)))

other_from : (k : ℕ) (m : Message) → eqb (record_of m) k ≡ false → (n s : ℕ) → delivered_of k (segments_from m n s) ≡ []
other_from k m e zero s = refl
other_from k m e (suc n) s = rw e (other_from k m e n (suc s))

of-whole : (k : ℕ) (l : List Message) → delivered_of k (whole l) ≡ whole (of k l)
of-whole k [] = refl
of-whole k (m ∷ l) = of_by-append (λ (s : Segment). record_of s.message) k (segments_from m m.slots 1) (whole l) ∙ go (of-whole k l) (eqb (record_of m) k) refl
  where
    go : delivered_of k (whole l) ≡ whole (of k l) → (b : Bool) → eqb (record_of m) k ≡ b → delivered_of k (segments_from m m.slots 1) ++ delivered_of k (whole l) ≡ whole (keep_if b m (of k l))
    go ih true e = rw (own-from k m e m.slots 1, ih)
    go ih false e = rw (other_from k m e m.slots 1) ih

pub ledger-all : (S : Start) (p : Plain) (t : Table) → Same S p t → slot_sum p.taken ≡ length p.history + total (records S) (λ k. waiting (t.condition k))
ledger-all S p t R =
    sym (length_whole p.taken)
    ∙ length-total (λ (s : Segment). record_of s.message) K (whole p.taken) (λ k l. of-whole k p.taken ∙ rw (R.strangers k l))
    ∙ total-cong K _ _ (λ k. ap length (of-whole k p.taken) ∙ length_whole (of k p.taken) ∙ ledger S p k (R.message k) (t.condition k) (R.agrees k))
    ∙ total-add K (λ k. length (delivered_of k p.history)) (λ k. waiting (t.condition k))
    ∙ ap (λ (n : ℕ). n + total K (λ k. waiting (t.condition k))) (sym (length-total (λ (s : Segment). record_of s.message) K p.history quiet))
  where
    K : ℕ
    K = records S

    quiet : (k : ℕ) → records S ≤ k → delivered_of k p.history ≡ []
    quiet k l = sym (append-nil (delivered_of k p.history)) ∙ (rw (R.outside k l, R.strangers k l) at (R.agrees k).owed)
