-- Who sends a segment in a slot, nobody if it is owned: the plain channel's list and the table's have the same entries of every record.
-- Assumes nothing.
use mathlib.Core.Path.{◌≡◌, refl, sym, ap, ◌∙◌}
use mathlib.Core.Bool.{Bool, true, false, not, cond, ◌&&◌}
use mathlib.Core.List.{List, [], ◌∷◌, map}
use mathlib.Core.Option.{Option, none, some}
use Prim.Native.Nat.{ℕ, zero, suc, ◌≤◌}
use native.Mathlib.Omega.{arith}
use lib.ListN.{length}
use Rattle.listlaws.proofs.Totals.{total-cong}
use Rattle.rules.proofs.Census.{hearing_eq, gather-of, length-total, length-gather}
use Rattle.rules.proofs.AskedRows.{only_if_nil, keep_if-only_if}
use Rattle.rules.proofs.Clauses.{hearing, sends_by, sends_in}
use Rattle.rules.proofs.Relation.{Fits, fresh_of, urgent_of, long_of}
use Rattle.rules.proofs.Shared.{gather, sender_if}
use Rattle.rules.proofs.Views.{Sender, sender_at, data_from, seen}
use Rattle.rules.specs.Calls.{Start}
use Rattle.listlaws.specs.Lists.{keep_if, only_if}
use Rattle.rules.specs.Messages.{Message, Segment, segment, of_by, of, record_of}
use Rattle.rules.specs.Plain.{sent, one_slot, askers}
use Rattle.rules.proofs.AskViews.{held_in, of-asking}
use Rattle.rules.proofs.Records.{is_long_record, kind-of}
use Rattle.rules.specs.Positions.{one, part}
use Rattle.rules.specs.StationLimits.{Condition, Free, Held, Fresh, Asked, Resolving, Urgent, Long}
use borrow.Author.Tests.{eqb-true, ne_eqb}
use lib.Dec.{eqb}

abbrev keyed : ℕ → List Sender → List Sender
keyed k l = of_by (λ s. s.position) k l

-- a sender seen by its key
one_data : (k : ℕ) (x : Message) → keyed k (sender_at (record_of x) 1 ∷ []) ≡ map (λ (y : Message). sender_at k 1) (one k x)
one_data k x = go (eqb (record_of x) k) refl
  where
    go : (b : Bool) → eqb (record_of x) k ≡ b → keep_if b (sender_at (record_of x) 1) [] ≡ map (λ (y : Message). sender_at k 1) (only_if b (x ∷ []))
    go true e = rw (eqb-true (record_of x) k e)
    go false e = refl

part_data : (k : ℕ) (s : Segment) → keyed k (data_from s ∷ []) ≡ map (λ (y : Segment). sender_at k y.number) (part k s)
part_data k s = go (eqb (record_of s.message) k) refl
  where
    go : (b : Bool) → eqb (record_of s.message) k ≡ b → keep_if b (data_from s) [] ≡ map (λ (y : Segment). sender_at k y.number) (only_if b (s ∷ []))
    go true e = rw (eqb-true (record_of s.message) k e)
    go false e = refl

one_slot_data : (k : ℕ) (l : List Message) → keyed k (map data_from (map (λ (m : Message). segment m 1) (one_slot l))) ≡ map (λ (y : Message). sender_at k 1) (one_slot (of k l))
one_slot_data k [] = refl
one_slot_data k (x ∷ l) = go (one_slot_data k l) (eqb x.slots 1) refl (eqb (record_of x) k) refl
  where
    go : keyed k (map data_from (map (λ (m : Message). segment m 1) (one_slot l))) ≡ map (λ (y : Message). sender_at k 1) (one_slot (of k l)) → (b : Bool) → eqb x.slots 1 ≡ b → (c : Bool) → eqb (record_of x) k ≡ c
        → keyed k (map data_from (map (λ (m : Message). segment m 1) (keep_if b x (one_slot l)))) ≡ map (λ (y : Message). sender_at k 1) (one_slot (keep_if c x (of k l)))
    go ih true e true f = rw (f, e, eqb-true (record_of x) k f) (ap (λ (z : List Sender). sender_at k 1 ∷ z) ih)
    go ih true e false f = rw f ih
    go ih false e true f = rw e ih
    go ih false e false f = ih

module _ (S : Start) (k : ℕ) (m : Message) where
  urgent_send : (h n r : ℕ) (c : Condition) → map (λ (y : Message). sender_at k 1) (urgent_of m c zero) ≡ sender_if k (sends_by (suc h) n r c)
  urgent_send h n r Free = refl
  urgent_send h n r (Held t) = refl
  urgent_send h n r (Fresh t) = refl
  urgent_send h n r (Asked g j t) = refl
  urgent_send h n r (Resolving g i t) = refl
  urgent_send h n r (Urgent zero) = refl
  urgent_send h n r (Urgent (suc zero)) = refl
  urgent_send h n r (Urgent (suc (suc i))) = rw (ne_eqb (suc (suc i)) 1 (λ e. omega arith))
  urgent_send h n r (Long f l t) = refl

  long_send : (n r : ℕ) (c : Condition) → Fits S m c → map (λ (y : Segment). sender_at k y.number) (long_of m c zero) ≡ sender_if k (sends_by zero (suc n) r c)
  long_send n r Free w = refl
  long_send n r (Held t) w = refl
  long_send n r (Fresh t) w = refl
  long_send n r (Asked g j t) w = refl
  long_send n r (Resolving g i t) w = refl
  long_send n r (Urgent i) w = refl
  long_send n r (Long zero l t) w = refl
  long_send n r (Long (suc zero) zero t) w = absurd (omega arith)
  long_send n r (Long (suc zero) (suc l) t) w = refl
  long_send n r (Long (suc (suc f)) l t) w = rw (ne_eqb (suc (suc f)) 1 (λ e. omega arith))

  rest_send : (r : ℕ) (c : Condition) → [] ≡ sender_if k (sends_by zero zero (suc r) c)
  rest_send r Free = refl
  rest_send r (Held t) = refl
  rest_send r (Fresh t) = refl
  rest_send r (Asked g j t) = refl
  rest_send r (Resolving g i t) = refl
  rest_send r (Urgent i) = refl
  rest_send r (Long f l t) = refl

  open_send : (c : Condition) → Fits S m c → map (λ (y : Message). sender_at k 1) (one_slot (fresh_of m c)) ≡ sender_if k (sends_by zero zero zero c)
  open_send Free w = refl
  open_send (Held t) w = refl
  open_send (Fresh t) w = rw w (go (eqb m.slots 1))
    where
      go : (b : Bool) → map (λ (y : Message). sender_at k 1) (keep_if b m []) ≡ sender_if k (cond b 1 0)
      go true = refl
      go false = refl
  open_send (Asked g j t) w = refl
  open_send (Resolving g i t) w = refl
  open_send (Urgent i) w = refl
  open_send (Long f l t) w = refl

  -- a message that is held back has more than one slot
  not-one : record_of m ≡ k → is_long_record k ≡ true → eqb m.slots 1 ≡ false
  not-one e w = go (eqb m.slots 1) (sym (kind-of m) ∙ ap is_long_record e ∙ w)
    where
      go : (b : Bool) → not b ≡ true → b ≡ false
      go true q = sym q
      go false q = refl

  none_of-one : eqb m.slots 1 ≡ false → (c : Condition) → one_slot (fresh_of m c) ≡ []
  none_of-one e Free = refl
  none_of-one e (Held t) = refl
  none_of-one e (Fresh t) = rw e
  none_of-one e (Asked g j t) = refl
  none_of-one e (Resolving g i t) = refl
  none_of-one e (Urgent i) = refl
  none_of-one e (Long f l t) = refl

  one-asking : record_of m ≡ k → (f : List Message) (c : Condition) → of k f ≡ fresh_of m c → one_slot (of k (askers [] f)) ≡ one_slot (fresh_of m c)
  one-asking e f c w = go (held_in f k) refl
    where
      long : (a b : Bool) → (a && b) ≡ true → a ≡ true
      long true b q = refl
      long false b q = q

      go : (b : Bool) → held_in f k ≡ b → one_slot (of k (askers [] f)) ≡ one_slot (fresh_of m c)
      go true h = ap one_slot (of-asking k f true h) ∙ sym (none_of-one (not-one e (long (is_long_record k) _ h)) c)
      go false h = ap one_slot (of-asking k f false h ∙ w)

  pub send_ok : (o : Option ℕ) (u : List Message) (l : List Segment) (r : List (List Message)) (f : List Message) (c : Condition) → record_of m ≡ k → Fits S m c
      → seen (one k) u zero ≡ urgent_of m c zero → seen (part k) l zero ≡ long_of m c zero → of k f ≡ fresh_of m c
      → keyed k (map data_from (sent o u l r f)) ≡ sender_if k (sends_in o (length u) (length l) (length r) c)
  send_ok (some x) u l r f c q w a b e = refl
  send_ok none (x ∷ u) l r f c q w a b e = one_data k x ∙ ap (map (λ (y : Message). sender_at k 1)) a ∙ urgent_send (length u) (length l) (length r) c
  send_ok none [] (y ∷ l) r f c q w a b e = part_data k y ∙ ap (map (λ (y : Segment). sender_at k y.number)) b ∙ long_send (length l) (length r) c w
  send_ok none [] [] (x ∷ r) f c q w a b e = rest_send (length r) c
  send_ok none [] [] [] f c q w a b e = one_slot_data k (askers [] f) ∙ ap (map (λ (y : Message). sender_at k 1)) (one-asking q f c e) ∙ open_send c w

sender-own : (j s k : ℕ) → keyed k (sender_if j s) ≡ only_if (eqb j k) (sender_if j s)
sender-own j zero k = sym (only_if_nil (eqb j k))
sender-own j (suc s) k = keep_if-only_if (eqb j k) (sender_at j (suc s))

-- the two lists are read alike and have one length
module _ (K : ℕ) (x : List Sender) (s : ℕ → ℕ) (outside : (k : ℕ) → K ≤ k → s k ≡ 0) (list_all : (k : ℕ) → keyed k x ≡ sender_if k (s k)) where
  pub senders-read : (ix : ℕ → ℕ) → hearing ix x ≡ hearing ix (gather (λ k. sender_if k (s k)) K)
  senders-read ix = hearing_eq ix x (gather (λ k. sender_if k (s k)) K) (λ k. list_all k ∙ sym (gather-of (λ s. s.position) (λ k. sender_if k (s k)) (λ a b. sender-own a (s a) b) K (λ k l. rw (outside k l)) k))

  pub senders-length : length x ≡ length (gather (λ k. sender_if k (s k)) K)
  senders-length =
      length-total (λ s. s.position) K x (λ k l. list_all k ∙ rw (outside k l))
      ∙ total-cong K _ _ (λ k. ap length (list_all k))
      ∙ sym (length-gather (λ (z : Sender). z.position) (λ k. sender_if k (s k)) (λ a b. sender-own a (s a) b) K (λ k l. rw (outside k l)))
