-- The row that the records asked there make is the row of the plain channel's asking messages, and its success is immediate on both sides alike. Assumes
-- nothing.
use mathlib.Core.Path.{◌≡◌, refl, sym, ap, ◌∙◌}
use mathlib.Core.Bool.{Bool, true, false, cond, ◌&&◌}
use mathlib.Core.List.{List, [], ◌∷◌, map}
use Prim.Native.Nat.{ℕ, zero, suc, ◌+◌, ◌≤◌}
use native.Mathlib.Omega.{arith}
use lib.ListN.{length}
use Rattle.rules.proofs.QueueViews.{place_map}
use Rattle.rules.proofs.Census.{hearing_eq, gather-of}
use Rattle.minislot.specs.declared.Feedback.{Feedback}
use Rattle.rules.proofs.Clauses.{read}
use Rattle.rules.proofs.Relation.{Agrees, asked_of}
use Rattle.rules.proofs.Shared.{gather, asked_sender, asked_row, records, index_of}
use Rattle.rules.proofs.Views.{Sender, sender_at, request_from, seen, at_first, at_place}
use Rattle.rules.specs.Calls.{Start}
use Rattle.listlaws.specs.Lists.{keep_if, only_if}
use Rattle.rules.specs.Messages.{Message, of_by, of, record_of}
use Rattle.rules.specs.RowCounts.{short_singles, collides}
use Rattle.rules.specs.Queueing.{immediate}
use Rattle.rules.specs.Plain.{Group, Plain, none_met, lone_short, just_one, plain_success}
use Rattle.rules.specs.StationLimits.{Condition, Free, Held, Fresh, Asked, Resolving, Urgent, Long}
use lib.Dec.{eqb}
use borrow.Author.Tests.{ne_eqb}

pub only_if_nil {ℓ} : {A : Type ℓ} (b : Bool) → only_if {A = A} b [] ≡ []
only_if_nil true = refl
only_if_nil false = refl

pub keep_if-only_if {ℓ} : {A : Type ℓ} (b : Bool) (x : A) → keep_if b x [] ≡ only_if b (x ∷ [])
keep_if-only_if true x = refl
keep_if-only_if false x = refl

-- entries by keys, through a map that keeps the key
pub of_by-map {ℓ κ} : {A : Type ℓ} {B : Type κ} (f : A → B) (position : B → ℕ) (k : ℕ) (l : List A) → of_by position k (map f l) ≡ map f (of_by (λ a. position (f a)) k l)
of_by-map f position k [] = refl
of_by-map {B = B} f position k (x ∷ l) = go (of_by-map f position k l) (eqb (position (f x)) k)
  where
    go : of_by position k (map f l) ≡ map f (of_by (λ a. position (f a)) k l) → (b : Bool) → keep_if b (f x) (of_by position k (map f l)) ≡ map f (keep_if b x (of_by (λ a. position (f a)) k l))
    go ih true = ap (λ (z : List B). f x ∷ z) ih
    go ih false = ih

-- a station's call has the station's key
pub asked-own : (g i j k : ℕ) (c : Condition) → of_by (λ s. s.position) k (asked_sender g i j c) ≡ only_if (eqb j k) (asked_sender g i j c)
asked-own g i j k Free = sym (only_if_nil (eqb j k))
asked-own g i j k (Held t) = sym (only_if_nil (eqb j k))
asked-own g i j k (Fresh t) = sym (only_if_nil (eqb j k))
asked-own g i j k (Asked h a t) = go (eqb h g) (eqb a i)
  where
    go : (b c : Bool) → of_by (λ s. s.position) k (only_if b (only_if c (sender_at j t ∷ []))) ≡ only_if (eqb j k) (only_if b (only_if c (sender_at j t ∷ [])))
    go true true = keep_if-only_if (eqb j k) (sender_at j t)
    go true false = sym (only_if_nil (eqb j k))
    go false c = sym (only_if_nil (eqb j k))
asked-own g i j k (Resolving h a t) = sym (only_if_nil (eqb j k))
asked-own g i j k (Urgent a) = sym (only_if_nil (eqb j k))
asked-own g i j k (Long f l t) = sym (only_if_nil (eqb j k))

-- minislot i of a row that begins with minislot j
abbrev up : ℕ → ℕ → ℕ
up j zero = j
up j (suc i) = up (suc j) i

up-add : (i j : ℕ) → up j i ≡ j + i
up-add zero j = omega arith
up-add (suc i) j = up-add i (suc j) ∙ omega arith

module _ (ix : ℕ → ℕ) (K : ℕ) (condition : ℕ → Condition) (outside : (k : ℕ) → K ≤ k → condition k ≡ Free) (g : ℕ) where
  rows : (l : List (List Message)) (j : ℕ) → ((i k : ℕ) → map request_from (seen (of k) l i) ≡ asked_sender g (up j i) k (condition k)) → asked_row ix K condition g (length l) j ≡ map (read ix) l
  rows [] j h = refl
  rows (x ∷ l) j h = rw (rows l (suc j) (λ i. h (suc i))) (ap (λ (f : Feedback). f ∷ map (read ix) l) (sym (hearing_eq ix (map request_from x) (gather (λ k. asked_sender g j k (condition k)) K) list_all)))
    where
      list_all : (k : ℕ) → of_by (λ s. s.position) k (map request_from x) ≡ of_by (λ s. s.position) k (gather (λ k. asked_sender g j k (condition k)) K)
      list_all k =
          of_by-map request_from (λ s. s.position) k x ∙ h zero k
          ∙ sym (gather-of (λ s. s.position) (λ k. asked_sender g j k (condition k)) (λ a b. asked-own g j a b (condition a)) K (λ k l. rw (outside k l)) k)

-- what a station's own message shows in minislot i + 1
pub calls : (S : Start) (p : Plain) (g k : ℕ) (m : Message) (c : Condition) → Agrees S p k m c → (i : ℕ) → map request_from (asked_of g m c i) ≡ asked_sender g (suc i) k c
calls S p g k m Free a i = refl
calls S p g k m (Held t) a i = refl
calls S p g k m (Fresh t) a i = refl
calls S p g k m (Asked h j t) a i = go (eqb h g)
  where
    go : (b : Bool) → map request_from (only_if b (at_place j (at_first (m ∷ [])) i)) ≡ only_if b (only_if (eqb j (suc i)) (sender_at k t ∷ []))
    go true = place_map request_from m j i ∙ ap (λ (s : Sender). only_if (eqb j (suc i)) (s ∷ [])) (let e : record_of m ≡ k = a.mine in let f : t ≡ m.slots = a.fits.0 in cc)
    go false = refl
calls S p g k m (Resolving h j t) a i = refl
calls S p g k m (Urgent j) a i = refl
calls S p g k m (Long f l t) a i = refl

-- the whole row
pub row_eq : (S : Start) (p : Plain) (condition : ℕ → Condition) (message : ℕ → Message) → ((k : ℕ) → records S ≤ k → condition k ≡ Free) → ((k : ℕ) → Agrees S p k (message k) (condition k)) → (g : ℕ)
    → asked_row (index_of S) (records S) condition g (length (p.group g).asking) 1 ≡ map (read (index_of S)) (p.group g).asking
row_eq S p condition message outside agrees g =
    rows (index_of S) (records S) condition outside g (p.group g).asking 1
    (λ i k.
    ap (map request_from) ((agrees k).asking g i) ∙ calls S p g k (message k) (condition k) (agrees k) i
    ∙ ap (λ (j : ℕ). asked_sender g j k (condition k)) (let e = up-add i 1 in omega arith))

-- success is immediate by what is heard where it is by the messages asking: Collides are minislots where messages met, Singles of count 1 are lone messages
-- of one slot
none_collide : (ix : ℕ → ℕ) (l : List (List Message)) → eqb (collides (map (read ix) l)) 0 ≡ none_met l
unfolding collides
none_collide ix [] = refl
none_collide ix ([] ∷ l) = none_collide ix l
none_collide ix ((x ∷ []) ∷ l) = none_collide ix l
none_collide ix ((x ∷ y ∷ z) ∷ l) = ne_eqb (1 + collides (map (read ix) l)) 0 (λ e. omega arith)

short-count : (ix : ℕ → ℕ) (l : List (List Message)) → short_singles (map (read ix) l) ≡ length (lone_short l)
unfolding short_singles
short-count ix [] = refl
short-count ix ([] ∷ l) = short-count ix l
short-count ix ((x ∷ []) ∷ l) = go (eqb x.slots 1) (short-count ix l)
  where
    go : (b : Bool) → short_singles (map (read ix) l) ≡ length (lone_short l) → cond b 1 0 + short_singles (map (read ix) l) ≡ length (keep_if b x (lone_short l))
    go true ih = omega (arith, ih)
    go false ih = omega (arith, ih)
short-count ix ((x ∷ y ∷ z) ∷ l) = short-count ix l

one_just : (l : List Message) → eqb (length l) 1 ≡ just_one l
one_just [] = refl
one_just (x ∷ []) = refl
one_just (x ∷ y ∷ l) = ne_eqb (length (x ∷ y ∷ l)) 1 (λ e. omega arith)

pub immediate_eq : (ix : ℕ → ℕ) (G : Group) → immediate G.opened (map (read ix) G.asking) ≡ plain_success G
immediate_eq ix G =
    ap (λ (b : Bool). G.opened && b && eqb (short_singles (map (read ix) G.asking)) 1) (none_collide ix G.asking)
    ∙ ap (λ (b : Bool). G.opened && none_met G.asking && b) (ap (λ (n : ℕ). eqb n 1) (short-count ix G.asking) ∙ one_just (lone_short G.asking))
