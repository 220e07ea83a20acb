-- Laws of `seen`, `shifted` and `of`: what one station sees of a queue that grew, by places. Assumes nothing.
use mathlib.Core.Path.{◌≡◌, refl, ap, ◌∙◌}
use mathlib.Core.Bool.{Bool, true, false}
use mathlib.Core.List.{List, [], ◌∷◌, ◌++◌, map}
use Prim.Native.Nat.{ℕ, zero, suc, ◌+◌}
use native.Mathlib.Omega.{arith}
use native.Mathlib.Nat.{zero-add, suc-add}
use lib.ListN.{length}
use Rattle.rules.proofs.Views.{seen, at_first, shifted, at_place, run}
use Rattle.listlaws.specs.Lists.{only_if}
use Rattle.rules.specs.Messages.{Message, of, segments_from, record_of}
use Rattle.rules.specs.Positions.{part}
use borrow.Author.Tests.{ne_eqb}
use lib.Dec.{eqb, eqb-suc-suc}

module _ {ℓ κ} {A : Type ℓ} {E : Type κ} (f : A → List E) where
  -- newcomers of which nothing is seen change nothing
  pub seen_more : (q r : List A) → ((i : ℕ) → seen f r i ≡ []) → (i : ℕ) → seen f (q ++ r) i ≡ seen f q i
  seen_more [] r h i = h i
  seen_more (x ∷ q) r h zero = refl
  seen_more (x ∷ q) r h (suc i) = seen_more q r h i

  -- behind a queue of which nothing is seen, newcomers are seen at the new last places
  pub seen-behind : (q r : List A) → ((i : ℕ) → seen f q i ≡ []) → (i : ℕ) → seen f (q ++ r) i ≡ shifted (length q) (seen f r) i
  seen-behind [] r h i = refl
  seen-behind (x ∷ q) r h zero = h zero
  seen-behind (x ∷ q) r h (suc i) = seen-behind q r (λ j. h (suc j)) i

  pub seen_one : (x : A) (i : ℕ) → seen f (x ∷ []) i ≡ at_first (f x) i
  seen_one x zero = refl
  seen_one x (suc i) = refl

module _ {ℓ} {E : Type ℓ} where
  pub shifted-cong : (n : ℕ) (u v : ℕ → List E) → ((i : ℕ) → u i ≡ v i) → (i : ℕ) → shifted n u i ≡ shifted n v i
  shifted-cong zero u v h i = h i
  shifted-cong (suc n) u v h zero = refl
  shifted-cong (suc n) u v h (suc i) = shifted-cong n u v h i

  pub shifted_at : (n : ℕ) (x : List E) → shifted n (at_first x) n ≡ x
  shifted_at zero x = refl
  shifted_at (suc n) x = shifted_at n x

  pub first_nil : (i : ℕ) → at_first {E = E} [] i ≡ []
  first_nil zero = refl
  first_nil (suc i) = refl

  pub shifted_nil : (n i : ℕ) → shifted {E = E} n (at_first []) i ≡ []
  shifted_nil zero i = first_nil i
  shifted_nil (suc n) zero = refl
  shifted_nil (suc n) (suc i) = shifted_nil n i

-- places behind a start of n
pub shifted-plus {ℓ} : {E : Type ℓ} (n i : ℕ) (v : ℕ → List E) → shifted n v (n + i) ≡ v i
shifted-plus zero i v = rw (zero-add i)
shifted-plus (suc n) i v = rw (suc-add n i) (shifted-plus n i v)

-- a place, as a test on its number
pub shifted-map {ℓ κ} : {A : Type ℓ} {B : Type κ} (f : A → B) (m : A) (n i : ℕ) → map f (shifted n (at_first (m ∷ [])) i) ≡ only_if (eqb n i) (f m ∷ [])
shifted-map f m zero zero = refl
shifted-map f m zero (suc i) = rw (ne_eqb zero (suc i) (λ e. omega arith))
shifted-map f m (suc n) zero = rw (ne_eqb (suc n) zero (λ e. omega arith))
shifted-map f m (suc n) (suc i) = shifted-map f m n i ∙ rw (eqb-suc-suc n i)

pub place_map {ℓ κ} : {A : Type ℓ} {B : Type κ} (f : A → B) (m : A) (n i : ℕ) → map f (at_place n (at_first (m ∷ [])) i) ≡ only_if (eqb n (suc i)) (f m ∷ [])
place_map f m zero i = rw (ne_eqb zero (suc i) (λ e. omega arith))
place_map f m (suc n) i = shifted-map f m n i ∙ rw (eqb-suc-suc n i)

-- a whole message's segments, seen by its own station and by another
pub run-own : (k : ℕ) (m : Message) → eqb (record_of m) k ≡ true → (n s i : ℕ) → seen (part k) (segments_from m n s) i ≡ run m n s i
run-own k m e zero s i = refl
run-own k m e (suc n) s zero = rw e
run-own k m e (suc n) s (suc i) = run-own k m e n (suc s) i

pub run-other : (k : ℕ) (m : Message) → eqb (record_of m) k ≡ false → (n s i : ℕ) → seen (part k) (segments_from m n s) i ≡ []
run-other k m e zero s i = refl
run-other k m e (suc n) s zero = rw e
run-other k m e (suc n) s (suc i) = run-other k m e n (suc s) i

pub length_segments : (m : Message) (n s : ℕ) → length (segments_from m n s) ≡ n
length_segments m zero s = refl
length_segments m (suc n) s = ap suc (length_segments m n (suc s))

-- a lone sender is the station's own, or another's
pub lone-own : (k : ℕ) (m n : Message) → of k (n ∷ []) ≡ m ∷ [] → (eqb (record_of n) k ≡ true) × (n ≡ m)
lone-own k m n e = go (eqb (record_of n) k) refl
  where
    go : (b : Bool) → eqb (record_of n) k ≡ b → (eqb (record_of n) k ≡ true) × (n ≡ m)
    go true s = (s, cc)
    go false s = let z : ◌≡◌ {A = ℕ} 0 1 = cc in absurd (omega arith)

pub lone-other : (k : ℕ) (n : Message) → of k (n ∷ []) ≡ [] → eqb (record_of n) k ≡ false
lone-other k n e = go (eqb (record_of n) k) refl
  where
    go : (b : Bool) → eqb (record_of n) k ≡ b → eqb (record_of n) k ≡ false
    go true s = cc
    go false s = s
