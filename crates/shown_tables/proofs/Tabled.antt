-- Queues made place by place. `joined` puts one after the other what places 0, 1, .. show: if each place shows one entry, the queue is as long as there are
-- places and is seen, place by place, as it was made. A list of crowds is tabulated, and seen likewise. A walk over the records is seen by a key as the entries
-- of that key, if each record gives entries of its own key only. By induction on the places. Assumes nothing.
use mathlib.Core.Path.{◌≡◌, refl, sym, subst, ◌∙◌}
use mathlib.Core.Bool.{Bool, true, false}
use mathlib.Core.List.{List, [], ◌∷◌, ◌++◌}
use Prim.Native.Nat.{ℕ, zero, suc, ◌+◌, ◌≤◌, ◌<◌}
use native.Mathlib.Omega.{arith}
use lib.Dec.{eqb}
use lib.ListN.{length, length-append}
use Rattle.listlaws.specs.Lists.{keep_if, only_if, tabulate}
use Rattle.rules.specs.Messages.{Message, of_by}
use Rattle.rules.proofs.Census.{of_by-of_by, gather-of}
use Rattle.rules.proofs.Relation.{Crowded}
use Rattle.rules.proofs.Shared.{collect, gather}
use Rattle.rules.proofs.Views.{seen, at_first, shifted, at_place}

-- what places 0, 1, .. below n show, joined
abbrev pub joined {ℓ} : {A : Type ℓ} → ℕ → (ℕ → List A) → List A
joined zero f = []
joined (suc n) f = f 0 ++ joined n (λ i. f (suc i))

pub length-joined {ℓ} : {A : Type ℓ} (n : ℕ) (f : ℕ → List A) → ((i : ℕ) → i < n → length (f i) ≡ 1) → length (joined n f) ≡ n
length-joined zero f h = refl
length-joined (suc n) f h = length-append (f 0) (joined n (λ i. f (suc i))) ∙ omega (arith, h 0 (omega arith), length-joined n (λ i. f (suc i)) (λ i w. h (suc i) (omega arith)))

pub length_tabled {ℓ} : {A : Type ℓ} (n : ℕ) (f : ℕ → A) → length (tabulate n f) ≡ n
length_tabled zero f = refl
length_tabled (suc n) f = omega (arith, length_tabled n (λ i. f (suc i)))

pub crowded_tabled : (n : ℕ) (f : ℕ → List Message) → ((i : ℕ) → i < n → 2 ≤ length (f i)) → Crowded (tabulate n f)
crowded_tabled zero f h = tt
crowded_tabled (suc n) f h = (h 0 (omega arith), crowded_tabled n (λ i. f (suc i)) (λ i w. h (suc i) (omega arith)))

-- walks that give as many entries at each record
pub collect-lengths {ℓ κ} : {A : Type ℓ} {B : Type κ} (f : ℕ → List A) (g : ℕ → List B) → ((k : ℕ) → length (f k) ≡ length (g k)) → (n j : ℕ) → length (collect f n j) ≡ length (collect g n j)
collect-lengths f g h zero j = refl
collect-lengths f g h (suc n) j = omega (arith, length-append (f j) (collect f n (suc j)), length-append (g j) (collect g n (suc j)), h j, collect-lengths f g h n (suc j))

module _ {ℓ} {A : Type ℓ} (key : A → ℕ) where
  abbrev single : ℕ → A → List A
  single k x = only_if (eqb (key x) k) (x ∷ [])

  module _ (k : ℕ) where
    first-seen : (l r : List A) → length l ≡ 1 → seen (single k) (l ++ r) zero ≡ of_by key k l
    first-seen [] r e = absurd (omega arith)
    first-seen (x ∷ []) r e = go (eqb (key x) k)
      where
        go : (b : Bool) → only_if b (x ∷ []) ≡ keep_if b x []
        go true = refl
        go false = refl
    first-seen (x ∷ y ∷ l) r e = absurd (omega arith)

    rest-seen : (l r : List A) (i : ℕ) → length l ≡ 1 → seen (single k) (l ++ r) (suc i) ≡ seen (single k) r i
    rest-seen [] r i e = absurd (omega arith)
    rest-seen (x ∷ []) r i e = refl
    rest-seen (x ∷ y ∷ l) r i e = absurd (omega arith)

    -- one entry a place, nothing past the end
    pub seen-joined : (n : ℕ) (f : ℕ → List A) → ((i : ℕ) → i < n → length (f i) ≡ 1) → ((i : ℕ) → n ≤ i → of_by key k (f i) ≡ []) → (i : ℕ) → seen (single k) (joined n f) i ≡ of_by key k (f i)
    seen-joined zero f one past i = sym (past i (omega arith))
    seen-joined (suc n) f one past zero = first-seen (f 0) (joined n (λ i. f (suc i))) (one 0 (omega arith))
    seen-joined (suc n) f one past (suc i) =
        rest-seen (f 0) (joined n (λ j. f (suc j))) i (one 0 (omega arith)) ∙ seen-joined n (λ j. f (suc j)) (λ j w. one (suc j) (omega arith)) (λ j w. past (suc j) (omega arith)) i

    -- a crowd a place
    pub seen_tabled : (n : ℕ) (f : ℕ → List A) → ((i : ℕ) → n ≤ i → of_by key k (f i) ≡ []) → (i : ℕ) → seen (of_by key k) (tabulate n f) i ≡ of_by key k (f i)
    seen_tabled zero f past i = sym (past i (omega arith))
    seen_tabled (suc n) f past zero = refl
    seen_tabled (suc n) f past (suc i) = seen_tabled n (λ j. f (suc j)) (λ j w. past (suc j) (omega arith)) i

    -- views that show entries of key k only
    pub if_own : (b : Bool) (l : List A) → of_by key k l ≡ l → of_by key k (only_if b l) ≡ only_if b l
    if_own true l h = h
    if_own false l h = refl

    pub first-own : (l : List A) → of_by key k l ≡ l → (i : ℕ) → of_by key k (at_first l i) ≡ at_first l i
    first-own l h zero = h
    first-own l h (suc i) = refl

    shifted-own : (v : ℕ → List A) → ((i : ℕ) → of_by key k (v i) ≡ v i) → (n i : ℕ) → of_by key k (shifted n v i) ≡ shifted n v i
    shifted-own v h zero i = h i
    shifted-own v h (suc n) zero = refl
    shifted-own v h (suc n) (suc i) = shifted-own v h n i

    pub place-own : (v : ℕ → List A) → ((i : ℕ) → of_by key k (v i) ≡ v i) → (n i : ℕ) → of_by key k (at_place n v i) ≡ at_place n v i
    place-own v h zero i = refl
    place-own v h (suc n) i = shifted-own v h n i

  -- a walk over the records, each of which gives entries of its own
  pub gathered : (f : ℕ → List A) → ((k : ℕ) → of_by key k (f k) ≡ f k) → (K : ℕ) → ((k : ℕ) → K ≤ k → f k ≡ []) → (k : ℕ) → of_by key k (gather f K) ≡ f k
  gathered f self K outside k = gather-of key f (λ j i. subst (λ (z : List A). of_by key i z ≡ only_if (eqb j i) z) (self j) (of_by-of_by key j i (f j))) K outside k

-- nothing past a place, nor past a run
pub shifted_past {ℓ} : {A : Type ℓ} (v : ℕ → List A) (l : ℕ) → ((i : ℕ) → l ≤ i → v i ≡ []) → (n i : ℕ) → n + l ≤ i → shifted n v i ≡ []
shifted_past v l h zero i w = h i (omega arith)
shifted_past v l h (suc n) zero w = refl
shifted_past v l h (suc n) (suc i) w = shifted_past v l h n i (omega arith)
