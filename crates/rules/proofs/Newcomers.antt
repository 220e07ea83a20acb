-- Step 1: one minislot keeps what a station that did not ask there sees, and puts one that did where its station rule says; then the whole row.
-- Assumes nothing.
use mathlib.Core.Path.{◌≡◌, refl, sym, ap, subst, ◌∙◌}
use mathlib.Core.Bool.{Bool, true, false}
use mathlib.Core.List.{List, [], ◌∷◌, ◌++◌, map, append-nil}
use Prim.Native.Nat.{ℕ, zero, suc, ◌≤◌}
use native.Mathlib.Omega.{arith}
use native.Mathlib.Nat.{sub_self}
use native.Mathlib.Numerals.{add-one}
use lib.ListN.{length, length-append}
use mathlib.Core.Logic.{◌≢◌}
use Rattle.rules.proofs.QueueViews.{seen_more, seen-behind, seen_one, shifted-cong, shifted_at, first_nil, run-own, run-other, length_segments, lone-own, lone-other}
use Rattle.rules.proofs.Clauses.{read, after}
use Rattle.rules.proofs.Relation.{lengths, Shows}
use Rattle.rules.proofs.Views.{eqb_self, seen, at_first, shifted}
use Rattle.rules.specs.Calls.{Start}
use Rattle.listlaws.specs.Lists.{keep_if}
use Rattle.rules.specs.Messages.{Message, Segment, of_by, of, segment, segments_from, delivered_of, record_of}
use Rattle.rules.specs.Plain.{Queues, join_alone, join_minislot, join_row}
use Rattle.rules.specs.Positions.{one, part}
use Rattle.rules.specs.Queueing.{queued, queued_row, queued_single}
use Rattle.rules.specs.StationLimits.{Condition, Asked, Urgent}
use Rattle.rules.specs.declared.Places.{Places}
use Rattle.rules.proofs.Settled.{stands_alone, stands_after}
use borrow.Author.Tests.{eqb-true, eqb-false}
use lib.Dec.{eqb}

module _ {ℓ} {A : Type ℓ} (position : A → ℕ) (k : ℕ) where
  pub of_by-append : (a b : List A) → of_by position k (a ++ b) ≡ of_by position k a ++ of_by position k b
  of_by-append [] b = refl
  of_by-append (x ∷ a) b = go (of_by-append a b) (eqb (position x) k)
    where
      go : of_by position k (a ++ b) ≡ of_by position k a ++ of_by position k b → (t : Bool) → keep_if t x (of_by position k (a ++ b)) ≡ keep_if t x (of_by position k a) ++ of_by position k b
      go ih true = ap (λ (l : List A). x ∷ l) ih
      go ih false = ih

module _ (S : Start) (g k : ℕ) (m : Message) (A : List Segment) where
  -- a lone message of another station
  other-alone : (b o : Bool) (c : Condition) (x : Message) (q : Queues) → eqb (record_of x) k ≡ false → Shows S g k m A q c → Shows S g k m A (join_alone b o x q) c
  other-alone true true c x q e s =
      record { urgent = s.urgent; long = s.long; resolution = s.resolution; owed = rw (of_by-append (λ (s : Segment). record_of s.message) k q.history (segment x 1 ∷ []), e, append-nil) s.owed; fits = s.fits }
  other-alone false true c x q e s =
      record { urgent = λ i. seen_more (one k) q.urgent (x ∷ []) (λ j. seen_one (one k) x j ∙ rw e (first_nil j)) i ∙ s.urgent i; long = s.long; resolution = s.resolution; owed = s.owed; fits = s.fits }
  other-alone b false c x q e s =
      record {
        urgent = s.urgent;
        long = λ i. seen_more (part k) q.long (segments_from x x.slots 1) (run-other k x e x.slots 1) i ∙ s.long i;
        resolution = s.resolution;
        owed = s.owed;
        fits = s.fits;
      }

  -- the minislot is foreign to the station
  pub minislot-other : (b : Bool) (c : Condition) (l : List Message) (q : Queues) → of k l ≡ [] → Shows S g k m A q c → Shows S g k m A (join_minislot b l q) c
  minislot-other b c [] q e s = s
  minislot-other b c (x ∷ []) q e s = other-alone b (eqb x.slots 1) c x q (lone-other k x e) s
  minislot-other b c (x ∷ y ∷ l) q e s =
      record {
        urgent = s.urgent;
        long = s.long;
        resolution = λ i. seen_more (of k) q.resolution ((x ∷ y ∷ l) ∷ []) (λ j. seen_one (of k) (x ∷ y ∷ l) j ∙ ap (λ (z : List Message). at_first z j) e ∙ first_nil j) i ∙ s.resolution i;
        owed = s.owed;
        fits = s.fits;
      }

  -- the rest of the row is foreign to the station
  pub row_other : (b : Bool) (c : Condition) (row : List (List Message)) (q : Queues) → ((i : ℕ) → seen (of k) row i ≡ []) → Shows S g k m A q c → Shows S g k m A (join_row b row q) c
  row_other b c [] q e s = s
  row_other b c (l ∷ row) q e s = row_other b c row (join_minislot b l q) (λ i. e (suc i)) (minislot-other b c l q (e zero) s)

  -- the station's own message, alone in its minislot
  module _ (some : 1 ≤ m.slots) (j t : ℕ) where
    own_alone : (b o : Bool) (q : Queues) → eqb (record_of m) k ≡ true → eqb m.slots 1 ≡ o → Shows S g k m A q (Asked g j t) → Shows S g k m A (join_alone b o m q) (stands_alone b o (lengths q) m.slots)
    own_alone true true q e w s =
        let z : m.slots ≡ 1 = eqb-true m.slots 1 w in
        record {
          urgent = s.urgent;
          long = s.long;
          resolution = s.resolution;
          owed = rw (of_by-append (λ (s : Segment). record_of s.message) k q.history (segment m 1 ∷ []), e, append-nil) (ap (λ (n : ℕ). delivered_of k q.history ++ segments_from m n 1) (sym z) ∙ s.owed);
          fits = tt;
        }
    own_alone false true q e w s =
        let z : m.slots ≡ 1 = eqb-true m.slots 1 w in
        subst (λ (n : ℕ). Shows S g k m A (join_alone false true m q) (Urgent n)) (sym (add-one (length q.urgent)))
        (record {
          urgent = λ i. seen-behind (one k) q.urgent (m ∷ []) s.urgent i ∙ shifted-cong (length q.urgent) _ _ (λ j. seen_one (one k) m j ∙ rw e) i;
          long = s.long;
          resolution = s.resolution;
          owed = s.owed;
          fits = omega arith;
        })
    own_alone b false q e w s =
        rw (add-one (length q.long))
        (record {
          urgent = s.urgent;
          long = λ i. seen-behind (part k) q.long (segments_from m m.slots 1) s.long i ∙ shifted-cong (length q.long) _ _ (λ j. run-own k m e m.slots 1 j ∙ rw sub_self) i;
          resolution = s.resolution;
          owed = rw sub_self s.owed;
          fits = let z : m.slots ≢ 1 = eqb-false m.slots 1 w in omega arith;
        })

    -- the station asked in this minislot
    pub minislot-own : (b : Bool) (index : ℕ → ℕ) (l : List Message) (q : Queues) → of k l ≡ m ∷ [] → Shows S g k m A q (Asked g j t) → Shows S g k m A (join_minislot b l q) (stands_after b g (lengths q) (read index l) m.slots)
    minislot-own b index [] q e s = let z : ◌≡◌ {A = ℕ} 0 1 = cc in absurd (omega arith)
    minislot-own b index (x ∷ []) q e s =
        let (t, w) = lone-own k m x e in
        rw w (own_alone b (eqb m.slots 1) q (rw w at t) refl s)
    minislot-own b index (x ∷ y ∷ l) q e s =
        rw (add-one (length q.resolution))
        (record {
          urgent = s.urgent;
          long = s.long;
          resolution = λ i. seen-behind (of k) q.resolution ((x ∷ y ∷ l) ∷ []) s.resolution i ∙ shifted-cong (length q.resolution) _ _ (λ j. seen_one (of k) (x ∷ y ∷ l) j ∙ ap (λ (z : List Message). at_first z j) e) i ∙ rw (eqb_self g);
          owed = s.owed;
          fits = omega arith;
        })

-- the counters are the queues' lengths, minislot by minislot
pub minislot-lengths : (b : Bool) (index : ℕ → ℕ) (l : List Message) (q : Queues) → lengths (join_minislot b l q) ≡ queued b (lengths q) (read index l)
minislot-lengths b index [] q = refl
minislot-lengths b index (x ∷ []) q = alone-counts b (eqb x.slots 1)
  where
    alone-counts : (b o : Bool) → lengths (join_alone b o x q) ≡ queued_single b o x.slots (lengths q)
    alone-counts true true = refl
    alone-counts false true = simp length-append
    alone-counts b false = simp (length-append, length_segments)
minislot-lengths b index (x ∷ y ∷ l) q = simp length-append

pub row-lengths : (b : Bool) (index : ℕ → ℕ) (row : List (List Message)) (q : Queues) → lengths (join_row b row q) ≡ queued_row b (lengths q) (map (read index) row)
unfolding queued_row
row-lengths b index [] q = refl
row-lengths b index (l ∷ row) q = row-lengths b index row (join_minislot b l q) ∙ rw (minislot-lengths b index l q)

module _ (S : Start) (g k : ℕ) (m : Message) (A : List Segment) (some : 1 ≤ m.slots) (j₀ t : ℕ) where
  -- the station asked in minislot j + 1 of the row
  pub row-own : (b : Bool) (index : ℕ → ℕ) (row : List (List Message)) (q : Queues) (j : ℕ) → ((i : ℕ) → seen (of k) row i ≡ shifted j (at_first (m ∷ [])) i) → Shows S g k m A q (Asked g j₀ t)
      → Shows S g k m A (join_row b row q) (after b g (map (read index) row) (lengths q) (suc j) m.slots)
  row-own b index [] q j e s =
      let w : ◌≡◌ {A = List Message} [] (m ∷ []) = e j ∙ shifted_at j (m ∷ []) in
      let z : ◌≡◌ {A = ℕ} 0 1 = cc in
      absurd (omega arith)
  row-own b index (l ∷ row) q zero e s = row_other S g k m A b _ row (join_minislot b l q) (λ i. e (suc i)) (minislot-own S g k m A some j₀ t b index l q (e zero) s)
  row-own b index (l ∷ row) q (suc j) e s =
      subst (λ (c : Places). Shows S g k m A (join_row b row (join_minislot b l q)) (after b g (map (read index) row) c (suc j) m.slots)) (minislot-lengths b index l q)
      (row-own b index row (join_minislot b l q) j (λ i. e (suc i)) (minislot-other S g k m A b (Asked g j₀ t) l q (e zero) s))
