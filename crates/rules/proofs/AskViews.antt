-- Step 3: who asks and where, seen by one message record. Assumes nothing.
use mathlib.Core.Path.{◌≡◌, refl, sym, ap, ◌∙◌}
use mathlib.Core.Bool.{Bool, true, false, not, ◌&&◌}
use mathlib.Core.List.{List, [], ◌∷◌}
use Prim.Native.Nat.{ℕ, zero, suc, ◌+◌, ◌≤◌, ◌<◌}
use native.Mathlib.Omega.{arith}
use lib.ListN.{length}
use Rattle.rules.proofs.QueueViews.{shifted_nil}
use Rattle.rules.proofs.Records.{holder, is_long_record, holder-of, kind-of}
use Rattle.rules.proofs.Clauses.{asks, front}
use Rattle.rules.proofs.Relation.{fresh_of, asked_of, resolving_of}
use Rattle.rules.proofs.Views.{eqb_self, seen, at_first, shifted, at_place}
use Rattle.listlaws.specs.Lists.{keep_if, only_if}
use Rattle.rules.specs.Messages.{Message, of, record_of, short_record}
use Rattle.rules.specs.Plain.{askers, stays_fresh, rest, picked_in, asking_row, those, held_back, some_of}
use Rattle.rules.specs.StationLimits.{Condition, Free, Held, Fresh, Asked, Resolving, Urgent, Long}
use borrow.Author.Tests.{eqb-true, ne_eqb}
use lib.Dec.{eqb}

only_nil : (b : Bool) → only_if {A = Message} b [] ≡ []
only_nil true = refl
only_nil false = refl

-- a test that goes by a message's record keeps all of a record's messages or none
pub of-those : (test : Message → Bool) (k : ℕ) (b : Bool) → ((m : Message) → record_of m ≡ k → test m ≡ b) → (l : List Message) → of k (those test l) ≡ only_if b (of k l)
of-those test k b same [] = sym (only_nil b)
of-those test k b same (m ∷ l) = go (of-those test k b same l) (eqb (record_of m) k) refl
  where
    go : of k (those test l) ≡ only_if b (of k l) → (x : Bool) → eqb (record_of m) k ≡ x → of k (keep_if (test m) m (those test l)) ≡ only_if b (keep_if x m (of k l))
    go ih true e = rw (same m (eqb-true (record_of m) k e)) (at b ih)
      where
        at : (c : Bool) → of k (those test l) ≡ only_if c (of k l) → of k (keep_if c m (those test l)) ≡ only_if c (m ∷ of k l)
        at true ih = rw e (ap (λ (z : List Message). m ∷ z) ih)
        at false ih = ih
    go ih false e = at (test m) ∙ ih
      where
        at : (c : Bool) → of k (keep_if c m (those test l)) ≡ of k (those test l)
        at true = rw e
        at false = refl

-- whether a fresh message of record k is held back, by the fresh ones
abbrev pub held_in : List Message → ℕ → Bool
held_in fresh k = is_long_record k && some_of (of (short_record (holder k)) fresh)

held_same : (fresh : List Message) (k : ℕ) (m : Message) → record_of m ≡ k → held_back fresh m ≡ held_in fresh k
held_same fresh k m e = rw (← e, kind-of m, holder-of m)

of-held : (k : ℕ) (f : List Message) (b : Bool) → held_in f k ≡ b → of k (those (held_back f) f) ≡ only_if b (of k f)
of-held k f b h = of-those (held_back f) k b (λ m e. held_same f k m e ∙ h) f

pub of-asking : (k : ℕ) (f : List Message) (b : Bool) → held_in f k ≡ b → of k (those (λ m. not (held_back f m)) f) ≡ only_if (not b) (of k f)
of-asking k f b h = of-those (λ m. not (held_back f m)) k (not b) (λ m e. ap not (held_same f k m e ∙ h)) f

module _ (pick : ℕ → ℕ) (k : ℕ) where
  -- the test on a message's pick is a test on its record
  of-picked : (j : ℕ) (l : List Message) → of k (picked_in pick j l) ≡ only_if (eqb (pick (holder k)) j) (of k l)
  of-picked j l = of-those (λ m. eqb (pick m.station) j) k (eqb (pick (holder k)) j) (λ m e. rw (← e, holder-of m)) l

  -- past the pick's minislot
  asking-none : (l : List Message) (n j : ℕ) → pick (holder k) < j → (i : ℕ) → seen (of k) (asking_row pick l n j) i ≡ []
  asking-none l zero j h i = refl
  asking-none l (suc n) j h zero = of-picked j l ∙ rw (ne_eqb (pick (holder k)) j (λ e. omega arith))
  asking-none l (suc n) j h (suc i) = asking-none l n (suc j) (omega arith) i

  asking-shifted : (l : List Message) (n j d : ℕ) → pick (holder k) ≡ j + d → d < n → (i : ℕ) → seen (of k) (asking_row pick l n j) i ≡ shifted d (at_first (of k l)) i
  asking-shifted l zero j d e h i = absurd (omega arith)
  asking-shifted l (suc n) j zero e h zero = of-picked j l ∙ rw (let t : pick (holder k) ≡ j = omega arith in t, eqb_self j)
  asking-shifted l (suc n) j zero e h (suc i) = asking-none l n (suc j) (omega arith) i
  asking-shifted l (suc n) j (suc d) e h zero = of-picked j l ∙ rw (ne_eqb (pick (holder k)) j (λ x. omega arith))
  asking-shifted l (suc n) j (suc d) e h (suc i) = asking-shifted l n (suc j) d (omega arith) (omega arith) i

  -- the new row: the station's askers in its pick, and nothing elsewhere
  pub asking-place : (l : List Message) (n : ℕ) → 1 ≤ pick (holder k) → pick (holder k) ≤ n → (i : ℕ) → seen (of k) (asking_row pick l n 1) i ≡ at_place (pick (holder k)) (at_first (of k l)) i
  asking-place l n lo hi i = go (pick (holder k)) refl
    where
      go : (x : ℕ) → pick (holder k) ≡ x → seen (of k) (asking_row pick l n 1) i ≡ at_place x (at_first (of k l)) i
      go zero e = absurd (omega arith)
      go (suc d) e = asking-shifted l n 1 d (omega arith) (omega arith) i

  pub asking-not : (l : List Message) (n : ℕ) → 1 ≤ pick (holder k) → pick (holder k) ≤ n → of k l ≡ [] → (i : ℕ) → seen (of k) (asking_row pick l n 1) i ≡ []
  asking-not l n lo hi e i = asking-place l n lo hi i ∙ rw e (go (pick (holder k)))
    where
      go : (x : ℕ) → at_place {E = Message} x (at_first []) i ≡ []
      go zero = refl
      go (suc d) = shifted_nil d i

-- what the station's own part of step 3 must give, for a resolution queue r, fresh messages f and the condition c before it
pub record Asks (M : ℕ) (pick : ℕ → ℕ) (g k : ℕ) (m : Message) (r : List (List Message)) (f : List Message) (c : Condition) : Type 0 where
  pub fresh : of k (stays_fresh r f) ≡ fresh_of m c
  pub resolution : (i : ℕ) → seen (of k) (rest r) i ≡ resolving_of g m c i
  pub asking : (i : ℕ) → seen (of k) (asking_row pick (askers r f) M 1) i ≡ asked_of g m c i

module _ (M : ℕ) (pick : ℕ → ℕ) (g k : ℕ) (m : Message) (lo : 1 ≤ pick (holder k)) (hi : pick (holder k) ≤ M) where
  -- a record with no fresh message
  not-fresh : (b : Bool) (f : List Message) (c : Condition) → held_in f k ≡ b → of k f ≡ [] → fresh_of m c ≡ [] → ((i : ℕ) → seen (of k) [] i ≡ resolving_of g m c i) → ((i : ℕ) → asked_of g m c i ≡ [])
      → Asks M pick g k m [] f c
  not-fresh b f c h e n s a =
      record {
        fresh = of-held k f b h ∙ rw e (only_nil b) ∙ sym n;
        resolution = s;
        asking = λ i. asking-not pick k (askers [] f) M lo hi (of-asking k f b h ∙ rw e (only_nil (not b))) i ∙ sym (a i);
      }

  pub asks_ok : (b : Bool) (r : List (List Message)) (f : List Message) (c : Condition) → held_in f k ≡ b → of k f ≡ fresh_of m c → ((i : ℕ) → seen (of k) r i ≡ resolving_of g m c i) → ((i : ℕ) → asked_of g m c i ≡ [])
      → Asks M pick g k m r f (asks b (length r) g (pick (holder k)) c)
  asks_ok b [] f Free w e s a = not-fresh b f Free w e refl s a
  asks_ok b [] f (Held t) w e s a = not-fresh b f (Held t) w e refl s a
  asks_ok true [] f (Fresh t) w e s a =
      record { fresh = of-held k f true w ∙ e; resolution = s; asking = asking-not pick k (askers [] f) M lo hi (of-asking k f true w) }
  asks_ok false [] f (Fresh t) w e s a =
      record {
        fresh = of-held k f false w;
        resolution = s;
        asking = λ i. asking-place pick k (askers [] f) M lo hi i ∙ rw (of-asking k f false w ∙ e, eqb_self g);
      }
  asks_ok b [] f (Asked h j t) w e s a = not-fresh b f (Asked h j t) w e refl s a
  asks_ok b [] f (Resolving h j t) w e s a = not-fresh b f (Resolving h j t) w e refl s a
  asks_ok b [] f (Urgent j) w e s a = not-fresh b f (Urgent j) w e refl s a
  asks_ok b [] f (Long x l t) w e s a = not-fresh b f (Long x l t) w e refl s a
  asks_ok b (x ∷ r) f Free w e s a = record { fresh = e; resolution = λ i. s (suc i); asking = asking-not pick k x M lo hi (s zero) }
  asks_ok b (x ∷ r) f (Held t) w e s a = record { fresh = e; resolution = λ i. s (suc i); asking = asking-not pick k x M lo hi (s zero) }
  asks_ok b (x ∷ r) f (Fresh t) w e s a = record { fresh = e; resolution = λ i. s (suc i); asking = asking-not pick k x M lo hi (s zero) }
  asks_ok b (x ∷ r) f (Asked h j t) w e s a = record { fresh = e; resolution = λ i. s (suc i); asking = λ i. asking-not pick k x M lo hi (s zero) i ∙ sym (a i) }
  asks_ok b (x ∷ r) f (Resolving h j t) w e s a = go j (eqb h g) refl s
    where
      go : (j : ℕ) (b : Bool) → eqb h g ≡ b → ((i : ℕ) → seen (of k) (x ∷ r) i ≡ only_if b (at_place j (at_first (m ∷ [])) i)) → Asks M pick g k m (x ∷ r) f (front b g (pick (holder k)) h j t)
      go j false w s = record { fresh = e; resolution = λ i. s (suc i) ∙ rw w; asking = asking-not pick k x M lo hi (s zero) }
      go zero true w s = record { fresh = e; resolution = λ i. s (suc i) ∙ rw w; asking = asking-not pick k x M lo hi (s zero) }
      go (suc zero) true w s = record { fresh = e; resolution = λ i. s (suc i); asking = λ i. asking-place pick k x M lo hi i ∙ rw (s zero, eqb_self g) }
      go (suc (suc j)) true w s = record { fresh = e; resolution = λ i. s (suc i) ∙ rw w; asking = asking-not pick k x M lo hi (s zero) }
  asks_ok b (x ∷ r) f (Urgent j) w e s a = record { fresh = e; resolution = λ i. s (suc i); asking = asking-not pick k x M lo hi (s zero) }
  asks_ok b (x ∷ r) f (Long y l t) w e s a = record { fresh = e; resolution = λ i. s (suc i); asking = asking-not pick k x M lo hi (s zero) }
