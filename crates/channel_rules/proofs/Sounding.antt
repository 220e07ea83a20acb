-- The relation makes the shared table sound: each place of H and of N has exactly one station, each place of an RQ two or more, every condition is within
-- its limits. Assumes nothing.
use mathlib.Core.Path.{◌≡◌, refl, sym, ap, subst, ◌∙◌}
use mathlib.Core.Bool.{Bool, true, false, ◌&&◌}
use mathlib.Core.List.{List, [], ◌∷◌, map}
use Prim.Native.Nat.{ℕ, zero, suc, ◌+◌, ◌-◌, ◌≤◌, ◌<◌}
use native.Mathlib.Omega.{arith}
use native.Mathlib.Nat.{zero-add, suc-add}
use lib.Dec.{leb, ltb, leb-zero, leb-suc-zero, leb-suc-suc, eqb}
use lib.ListN.{length, length-map}
use Rattle.listlaws.proofs.Totals.{total-cong}
use Rattle.rules.proofs.Census.{length-total, length-gather, of_by-of_by}
use Rattle.rules.proofs.QueueViews.{shifted_at as shifted-here, shifted-plus, place_map}
use Rattle.rules.proofs.Relation.{Agrees, Same, Fits, Crowded, urgent_of, long_of, resolving_of}
use Rattle.rules.proofs.Shared.{Table, records, gather}
use Rattle.rules.proofs.Views.{Sender, sender_at, eqb_self, seen, at_first, shifted, at_place, run}
use Rattle.rules.specs.Calls.{Start}
use Rattle.listlaws.specs.Lists.{keep_if, only_if}
use Rattle.rules.specs.Messages.{Message, Segment, of_by, of, segment, record_of}
use Rattle.rules.specs.Plain.{Plain}
use Rattle.rules.specs.Positions.{one, part}
use Rattle.rules.specs.declared.Condition.{Condition}
use Rattle.rules.specs.declared.Condition.TheVariants.{Free, Held, Fresh, Asked, Resolving, Urgent, Long}
use borrow.Author.Tests.{eqb-true}

-- whether station k stands at a place, counted from 1: of H, of N, of group g's RQ
abbrev pub urgent_here : ℕ → ℕ → Condition → List Sender
urgent_here i k Free = []
urgent_here i k (Held t) = []
urgent_here i k (Fresh t) = []
urgent_here i k (Asked g j t) = []
urgent_here i k (Resolving g j t) = []
urgent_here i k (Urgent j) = only_if (eqb j i) (sender_at k 0 ∷ [])
urgent_here i k (Long f l t) = []

abbrev pub long_here : ℕ → ℕ → Condition → List Sender
long_here i k Free = []
long_here i k (Held t) = []
long_here i k (Fresh t) = []
long_here i k (Asked g j t) = []
long_here i k (Resolving g j t) = []
long_here i k (Urgent j) = []
long_here i k (Long f l t) = only_if (leb f i && ltb i (f + l)) (sender_at k 0 ∷ [])

abbrev pub resolving_here : ℕ → ℕ → ℕ → Condition → List Sender
resolving_here g i k Free = []
resolving_here g i k (Held t) = []
resolving_here g i k (Fresh t) = []
resolving_here g i k (Asked h j t) = []
resolving_here g i k (Resolving h j t) = only_if (eqb h g) (only_if (eqb j i) (sender_at k 0 ∷ []))
resolving_here g i k (Urgent j) = []
resolving_here g i k (Long f l t) = []

abbrev pub InsideTable : Start → Table → Condition → Type 0
InsideTable S t Free = Unit {0}
InsideTable S t (Held s) = (1 ≤ s) × (s ≤ 255)
InsideTable S t (Fresh s) = (1 ≤ s) × (s ≤ 255)
InsideTable S t (Asked g j s) = (1 ≤ g) × (g ≤ S.n) × (1 ≤ j) × (j ≤ S.m) × (1 ≤ s) × (s ≤ 255)
InsideTable S t (Resolving g i s) = (1 ≤ g) × (g ≤ S.n) × (1 ≤ i) × (i ≤ t.rq g) × (1 ≤ s) × (s ≤ 255)
InsideTable S t (Urgent i) = (1 ≤ i) × (i ≤ t.h)
InsideTable S t (Long f l s) = (1 ≤ f) × (f + l ≤ t.n + 1) × (1 ≤ l) × (l ≤ s) × (2 ≤ s) × (s ≤ 255)

pub record TableSound (S : Start) (t : Table) : Type 0 where
  pub urgent : (i : ℕ) → i < t.h → length (gather (λ k. urgent_here (suc i) k (t.condition k)) (records S)) ≡ 1
  pub long : (i : ℕ) → i < t.n → length (gather (λ k. long_here (suc i) k (t.condition k)) (records S)) ≡ 1
  pub resolution : (g i : ℕ) → i < t.rq g → 2 ≤ length (gather (λ k. resolving_here g (suc i) k (t.condition k)) (records S))
  pub inside : (k : ℕ) → InsideTable S t (t.condition k)
  pub hmax : t.h ≤ 4095
  pub nmax : t.n ≤ 65535
  pub rmax : (g : ℕ) → t.rq g ≤ 4095
  pub idle : (g : ℕ) → S.n < g → (t.rq g ≡ 0) × (t.opened g ≡ true)
  pub low : 1 ≤ t.next
  pub high : t.next ≤ S.n

-- as many records as entries
census : (K : ℕ) (x : List Sender) (f : ℕ → List Sender) → ((k : ℕ) → K ≤ k → f k ≡ []) → ((k : ℕ) → of_by (λ s. s.position) k x ≡ f k) → length (gather f K) ≡ length x
census K x f outside list_all =
    length-gather (λ (z : Sender). z.position) f (λ i k. subst (λ (z : List Sender). of_by (λ s. s.position) k z ≡ only_if (eqb i k) z) (list_all i) (of_by-of_by (λ (s : Sender). s.position) i k x)) K outside
    ∙ sym (length-total (λ s. s.position) K x (λ k l. list_all k ∙ outside k l) ∙ total-cong K _ _ (λ k. ap length (list_all k)))

-- a run, as a test on its ends
run-map : (x : Sender) (m : Message) (l s i : ℕ) → map (λ (y : Segment). x) (run m l s i) ≡ only_if (ltb i l) (x ∷ [])
run-map x m zero s i = rw (leb-suc-zero i)
run-map x m (suc l) s zero = rw (leb-suc-suc zero l, leb-zero l)
run-map x m (suc l) s (suc i) = run-map x m l (suc s) i ∙ rw (leb-suc-suc (suc i) l)

shifted-run : (x : Sender) (m : Message) (n l s i : ℕ) → map (λ (y : Segment). x) (shifted n (run m l s) i) ≡ only_if (leb n i && ltb i (n + l)) (x ∷ [])
shifted-run x m zero l s i = run-map x m l s i ∙ rw (leb-zero i, zero-add l)
shifted-run x m (suc n) l s zero = rw (leb-suc-zero n)
shifted-run x m (suc n) l s (suc i) = shifted-run x m n l s i ∙ rw (leb-suc-suc n i, suc-add n l, leb-suc-suc (suc i) (n + l))

-- one entry at each place of a queue of messages, or of segments
one_at : (k : ℕ) (q : List Message) (i : ℕ) → of_by (λ s. s.position) k (map (λ (m : Message). sender_at (record_of m) 0) (seen (λ (m : Message). m ∷ []) q i)) ≡ map (λ (m : Message). sender_at k 0) (seen (one k) q i)
one_at k [] i = refl
one_at k (x ∷ q) zero = go (eqb (record_of x) k) refl
  where
    go : (b : Bool) → eqb (record_of x) k ≡ b → keep_if b (sender_at (record_of x) 0) [] ≡ map (λ (m : Message). sender_at k 0) (only_if b (x ∷ []))
    go true e = rw (eqb-true (record_of x) k e)
    go false e = refl
one_at k (x ∷ q) (suc i) = one_at k q i

part_at : (k : ℕ) (q : List Segment) (i : ℕ)
    → of_by (λ s. s.position) k (map (λ (m : Segment). sender_at (record_of m.message) 0) (seen (λ (m : Segment). m ∷ []) q i)) ≡ map (λ (m : Segment). sender_at k 0) (seen (part k) q i)
part_at k [] i = refl
part_at k (x ∷ q) zero = go (eqb (record_of x.message) k) refl
  where
    go : (b : Bool) → eqb (record_of x.message) k ≡ b → keep_if b (sender_at (record_of x.message) 0) [] ≡ map (λ (m : Segment). sender_at k 0) (only_if b (x ∷ []))
    go true e = rw (eqb-true (record_of x.message) k e)
    go false e = refl
part_at k (x ∷ q) (suc i) = part_at k q i

of_tag : (k : ℕ) (l : List Message) → of_by (λ s. s.position) k (map (λ (m : Message). sender_at (record_of m) 0) l) ≡ map (λ (m : Message). sender_at k 0) (of k l)
of_tag k [] = refl
of_tag k (x ∷ l) = go (of_tag k l) (eqb (record_of x) k) refl
  where
    go : of_by (λ s. s.position) k (map (λ (m : Message). sender_at (record_of m) 0) l) ≡ map (λ (m : Message). sender_at k 0) (of k l) → (b : Bool) → eqb (record_of x) k ≡ b
        → keep_if b (sender_at (record_of x) 0) (of_by (λ s. s.position) k (map (λ (m : Message). sender_at (record_of m) 0) l)) ≡ map (λ (m : Message). sender_at k 0) (keep_if b x (of k l))
    go ih true e = rw (eqb-true (record_of x) k e) (ap (λ (z : List Sender). sender_at k 0 ∷ z) ih)
    go ih false e = ih

crowd-at : (k : ℕ) (q : List (List Message)) (i : ℕ) → of_by (λ s. s.position) k (map (λ (m : Message). sender_at (record_of m) 0) (seen (λ (l : List Message). l) q i)) ≡ map (λ (m : Message). sender_at k 0) (seen (of k) q i)
crowd-at k [] i = refl
crowd-at k (x ∷ q) zero = of_tag k x
crowd-at k (x ∷ q) (suc i) = crowd-at k q i

length-one {ℓ} : {A : Type ℓ} (q : List A) (i : ℕ) → i < length q → length (seen (λ (x : A). x ∷ []) q i) ≡ 1
length-one [] i h = absurd (omega arith)
length-one (x ∷ q) zero h = refl
length-one (x ∷ q) (suc i) h = length-one q i (omega arith)

length-crowd : (q : List (List Message)) (i : ℕ) → i < length q → Crowded q → 2 ≤ length (seen (λ (l : List Message). l) q i)
length-crowd [] i h c = absurd (omega arith)
length-crowd (x ∷ q) zero h c = c.0
length-crowd (x ∷ q) (suc i) h c = length-crowd q i (omega arith) c.1

-- what a condition says of a place, as the test of `Sound`
module _ (k : ℕ) (m : Message) where
  pub urgent-here : (c : Condition) (i : ℕ) → map (λ (y : Message). sender_at k 0) (urgent_of m c i) ≡ urgent_here (suc i) k c
  urgent-here Free i = refl
  urgent-here (Held t) i = refl
  urgent-here (Fresh t) i = refl
  urgent-here (Asked g j t) i = refl
  urgent-here (Resolving g j t) i = refl
  urgent-here (Urgent j) i = place_map (λ (y : Message). sender_at k 0) m j i
  urgent-here (Long f l t) i = refl

  pub long-here : (S : Start) (c : Condition) → Fits S m c → (i : ℕ) → map (λ (y : Segment). sender_at k 0) (long_of m c i) ≡ long_here (suc i) k c
  long-here S Free w i = refl
  long-here S (Held t) w i = refl
  long-here S (Fresh t) w i = refl
  long-here S (Asked g j t) w i = refl
  long-here S (Resolving g j t) w i = refl
  long-here S (Urgent j) w i = refl
  long-here S (Long zero l t) w i = absurd (omega arith)
  long-here S (Long (suc f) l t) w i = shifted-run (sender_at k 0) m f l (suc (t - l)) i ∙ rw (leb-suc-suc f i, suc-add f l, leb-suc-suc (suc i) (f + l))

  pub resolving-here : (g : ℕ) (c : Condition) (i : ℕ) → map (λ (y : Message). sender_at k 0) (resolving_of g m c i) ≡ resolving_here g (suc i) k c
  resolving-here g Free i = refl
  resolving-here g (Held t) i = refl
  resolving-here g (Fresh t) i = refl
  resolving-here g (Asked h j t) i = refl
  resolving-here g (Resolving h j t) i = go (eqb h g)
    where
      go : (b : Bool) → map (λ (y : Message). sender_at k 0) (only_if b (at_place j (at_first (m ∷ [])) i)) ≡ only_if b (only_if (eqb j (suc i)) (sender_at k 0 ∷ []))
      go true = place_map (λ (y : Message). sender_at k 0) m j i
      go false = refl
  resolving-here g (Urgent j) i = refl
  resolving-here g (Long f l t) i = refl

-- places lie inside their queues
seen-inside {ℓ κ} : {A : Type ℓ} {E : Type κ} (f : A → List E) (q : List A) (i : ℕ) (e : E) (l : List E) → seen f q i ≡ e ∷ l → i < length q
seen-inside f [] i e l w = let z : ◌≡◌ {A = ℕ} 0 1 = cc in absurd (omega arith)
seen-inside f (x ∷ q) zero e l w = omega arith
seen-inside f (x ∷ q) (suc i) e l w = omega (arith, seen-inside f q i e l w)

run-last : (m : Message) (l s : ℕ) → run m (suc l) s l ≡ segment m (s + l) ∷ []
run-last m zero s = ap (λ (x : ℕ). segment m x ∷ []) (omega arith)
run-last m (suc l) s = run-last m l (suc s) ∙ ap (λ (x : ℕ). segment m x ∷ []) (omega arith)

module _ (S : Start) (p : Plain) (t : Table) (R : Same S p t) where
  inside_of : (k : ℕ) (c : Condition) → Agrees S p k (R.message k) c → InsideTable S t c
  inside_of k Free a = tt
  inside_of k (Held s) a = let f : s ≡ (R.message k).slots = a.fits in omega (arith, a.some, a.few)
  inside_of k (Fresh s) a = let f : s ≡ (R.message k).slots = a.fits in omega (arith, a.some, a.few)
  inside_of k (Asked g j s) a = let f : Fits S (R.message k) (Asked g j s) = a.fits in omega (arith, a.some, a.few)
  inside_of k (Resolving g zero s) a = let f : Fits S (R.message k) (Resolving g zero s) = a.fits in absurd (omega arith)
  inside_of k (Resolving g (suc i) s) a =
      let f : Fits S (R.message k) (Resolving g (suc i) s) = a.fits in
      let w : i < length (p.group g).resolution = seen-inside (of k) (p.group g).resolution i (R.message k) [] (a.resolution g i ∙ rw (eqb_self g) (shifted-here i (R.message k ∷ []))) in
      let e : t.rq g ≡ length (p.group g).resolution = R.rq g in
      omega (arith, a.some, a.few)
  inside_of k (Urgent zero) a = let f : Fits S (R.message k) (Urgent zero) = a.fits in absurd (omega arith)
  inside_of k (Urgent (suc i)) a =
      let w : i < length p.urgent = seen-inside (one k) p.urgent i (R.message k) [] (a.urgent i ∙ shifted-here i (R.message k ∷ [])) in
      omega (arith, R.h)
  inside_of k (Long zero l s) a = let f : Fits S (R.message k) (Long zero l s) = a.fits in absurd (omega arith)
  inside_of k (Long (suc f) zero s) a = let w : Fits S (R.message k) (Long (suc f) zero s) = a.fits in absurd (omega arith)
  inside_of k (Long (suc f) (suc l) s) a =
      let v : Fits S (R.message k) (Long (suc f) (suc l) s) = a.fits in
      let w : f + l < length p.long =
      seen-inside (part k) p.long (f + l) (segment (R.message k) (suc (s - suc l) + l)) [] (a.long (f + l) ∙ shifted-plus f l (run (R.message k) (suc l) (suc (s - suc l))) ∙ run-last (R.message k) l (suc (s - suc l)))
      in
      omega (arith, R.n, a.some, a.few)

  pub sound : TableSound S t
  sound =
      record {
        urgent = λ i l.
            census (records S) (map (λ (m : Message). sender_at (record_of m) 0) (seen (λ (m : Message). m ∷ []) p.urgent i)) (λ k. urgent_here (suc i) k (t.condition k)) (λ k w. rw (R.outside k w))
            (λ k. one_at k p.urgent i ∙ ap (map (λ (m : Message). sender_at k 0)) ((R.agrees k).urgent i) ∙ urgent-here k (R.message k) (t.condition k) i)
            ∙ length-map (seen (λ (m : Message). m ∷ []) p.urgent i) (λ (m : Message). sender_at (record_of m) 0) ∙ length-one p.urgent i (rw R.h at l);
        long = λ i l.
            census (records S) (map (λ (m : Segment). sender_at (record_of m.message) 0) (seen (λ (m : Segment). m ∷ []) p.long i)) (λ k. long_here (suc i) k (t.condition k)) (λ k w. rw (R.outside k w))
            (λ k. part_at k p.long i ∙ ap (map (λ (m : Segment). sender_at k 0)) ((R.agrees k).long i) ∙ long-here k (R.message k) S (t.condition k) (R.agrees k).fits i)
            ∙ length-map (seen (λ (m : Segment). m ∷ []) p.long i) (λ (m : Segment). sender_at (record_of m.message) 0) ∙ length-one p.long i (rw R.n at l);
        resolution = λ g i l.
            rw (
              census (records S) (map (λ (m : Message). sender_at (record_of m) 0) (seen (λ (x : List Message). x) (p.group g).resolution i)) (λ k. resolving_here g (suc i) k (t.condition k)) (λ k w. rw (R.outside k w))
                  (λ k. crowd-at k (p.group g).resolution i ∙ ap (map (λ (m : Message). sender_at k 0)) ((R.agrees k).resolution g i) ∙ resolving-here k (R.message k) g (t.condition k) i),
              length-map (seen (λ (x : List Message). x) (p.group g).resolution i) (λ (m : Message). sender_at (record_of m) 0),
            )
            (length-crowd (p.group g).resolution i (rw (R.rq g) at l) (R.crowds g));
        inside = λ k. inside_of k (t.condition k) (R.agrees k);
        hmax = rw R.h R.hmax;
        nmax = rw R.n R.nmax;
        rmax = λ g. rw (R.rq g) (R.rmax g);
        idle = λ g l. (R.rq g ∙ ap length (R.idle g l).0, R.opened g ∙ (R.idle g l).1);
        low = rw R.next R.low;
        high = rw R.next R.high;
      }
