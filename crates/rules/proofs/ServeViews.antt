-- Steps 3 to 5 on the history and the limits, and on other groups. Assumes nothing.
use mathlib.Core.Path.{◌≡◌, refl, sym, ap, ◌∙◌}
use mathlib.Core.Bool.{Bool, true, false}
use mathlib.Core.List.{List, [], ◌∷◌, ◌++◌}
use mathlib.Core.Option.{Option, none, some}
use Prim.Native.Nat.{ℕ, zero, suc, ◌-◌, ◌≤◌}
use native.Mathlib.Omega.{arith}
use lib.ListN.{length}
use Rattle.rules.proofs.Clauses.{asks, front, falls, lower, shorter, heeded}
use Rattle.rules.proofs.FallViews.{falls-still}
use Rattle.rules.proofs.Relation.{Fits, remaining, urgent_of, long_of}
use Rattle.rules.proofs.Views.{seen}
use Rattle.rules.specs.Calls.{Start}
use Rattle.listlaws.specs.Lists.{keep_if, only_if}
use Rattle.rules.specs.Messages.{Message, Segment, segment, segments_from, delivered_of, record_of}
use Rattle.rules.specs.Plain.{served}
use Rattle.rules.specs.Positions.{one, part}
use Rattle.rules.specs.StationLimits.{Condition, Free, Held, Fresh, Asked, Resolving, Urgent, Long}
use lib.Dec.{eqb}

-- one law for each view that steps 3 to 5 leave alone
module _ (g j : ℕ) where
  module _ {ℓ} {E : Type ℓ} (W : Condition → E) (fresh : (t : ℕ) → W (Asked g j t) ≡ W (Fresh t)) (near : (h t : ℕ) → eqb h g ≡ true → W (Asked g j t) ≡ W (Resolving h 1 t))
      (down : (h i t : ℕ) → eqb h g ≡ true → W (Resolving h (suc i) t) ≡ W (Resolving h (suc (suc i)) t)) where
    pub asks_view : (b : Bool) (r : ℕ) (c : Condition) → W (asks b r g j c) ≡ W c
    asks_view b zero Free = refl
    asks_view b zero (Held t) = refl
    asks_view true zero (Fresh t) = refl
    asks_view false zero (Fresh t) = fresh t
    asks_view b zero (Asked h i t) = refl
    asks_view b zero (Resolving h i t) = refl
    asks_view b zero (Urgent i) = refl
    asks_view b zero (Long f l t) = refl
    asks_view b (suc r) Free = refl
    asks_view b (suc r) (Held t) = refl
    asks_view b (suc r) (Fresh t) = refl
    asks_view b (suc r) (Asked h i t) = refl
    asks_view b (suc r) (Resolving h i t) = go (eqb h g) refl i
      where
        go : (b : Bool) → eqb h g ≡ b → (i : ℕ) → W (front b g j h i t) ≡ W (Resolving h i t)
        go false e i = refl
        go true e zero = refl
        go true e (suc zero) = near h t e
        go true e (suc (suc i)) = down h i t e
    asks_view b (suc r) (Urgent i) = refl
    asks_view b (suc r) (Long f l t) = refl

module _ {ℓ} {E : Type ℓ} (W : Condition → E) (u : (i : ℕ) → W (Urgent i) ≡ W Free) (n : (f l t : ℕ) → W (Long f l t) ≡ W Free) where
  pub falls_view : (h k : ℕ) (c : Condition) → W (falls h k c) ≡ W c
  falls_view h k Free = refl
  falls_view h k (Held t) = refl
  falls_view h k (Fresh t) = refl
  falls_view h k (Asked g j t) = refl
  falls_view h k (Resolving g i t) = refl
  falls_view zero k (Urgent i) = refl
  falls_view (suc h) k (Urgent i) = go i
    where
      go : (i : ℕ) → W (lower i) ≡ W (Urgent i)
      go zero = refl
      go (suc zero) = sym (u 1)
      go (suc (suc i)) = u (suc i) ∙ sym (u (suc (suc i)))
  falls_view zero zero (Long f l t) = refl
  falls_view zero (suc k) (Long f l t) = go f l
    where
      go : (f l : ℕ) → W (shorter f l t) ≡ W (Long f l t)
      go zero l = refl
      go (suc zero) zero = sym (n 1 zero t)
      go (suc zero) (suc zero) = sym (n 1 1 t)
      go (suc zero) (suc (suc l)) = n 1 (suc l) t ∙ sym (n 1 (suc (suc l)) t)
      go (suc (suc f)) l = n (suc f) l t ∙ sym (n (suc (suc f)) l t)
  falls_view (suc h) k (Long f l t) = refl

-- the limits
module _ (S : Start) (g j : ℕ) (m : Message) (gl : 1 ≤ g) (gh : g ≤ S.n) (jl : 1 ≤ j) (jh : j ≤ S.m) where
  pub asks-fits : (b : Bool) (r : ℕ) (c : Condition) → Fits S m c → Fits S m (asks b r g j c)
  asks-fits b zero Free f = f
  asks-fits b zero (Held t) f = f
  asks-fits true zero (Fresh t) f = f
  asks-fits false zero (Fresh t) f = omega arith
  asks-fits b zero (Asked h i t) f = f
  asks-fits b zero (Resolving h i t) f = f
  asks-fits b zero (Urgent i) f = f
  asks-fits b zero (Long x l t) f = f
  asks-fits b (suc r) Free f = f
  asks-fits b (suc r) (Held t) f = f
  asks-fits b (suc r) (Fresh t) f = f
  asks-fits b (suc r) (Asked h i t) f = f
  asks-fits b (suc r) (Resolving h i t) f = go (eqb h g) i f
    where
      go : (b : Bool) (i : ℕ) → Fits S m (Resolving h i t) → Fits S m (front b g j h i t)
      go false i f = f
      go true zero f = f
      go true (suc zero) f = omega arith
      go true (suc (suc i)) f = omega arith
  asks-fits b (suc r) (Urgent i) f = f
  asks-fits b (suc r) (Long x l t) f = f

pub falls-fits : (S : Start) (m : Message) (h k : ℕ) (c : Condition) → Fits S m c → Fits S m (falls h k c)
falls-fits S m h k Free f = f
falls-fits S m h k (Held t) f = f
falls-fits S m h k (Fresh t) f = f
falls-fits S m h k (Asked g j t) f = f
falls-fits S m h k (Resolving g i t) f = f
falls-fits S m zero k (Urgent i) f = f
falls-fits S m (suc h) k (Urgent i) f = go i f
  where
    go : (i : ℕ) → Fits S m (Urgent i) → Fits S m (lower i)
    go zero f = f
    go (suc zero) f = tt
    go (suc (suc i)) f = omega arith
falls-fits S m zero zero (Long x l t) f = f
falls-fits S m zero (suc k) (Long x l t) f = go x l f
  where
    go : (x l : ℕ) → Fits S m (Long x l t) → Fits S m (shorter x l t)
    go zero l f = f
    go (suc zero) zero f = tt
    go (suc zero) (suc zero) f = tt
    go (suc zero) (suc (suc l)) f = omega arith
    go (suc (suc x)) l f = omega arith
falls-fits S m (suc h) k (Long x l t) f = f

-- what the queues deliver of a station is what its condition then lacks; in an owned slot they deliver nothing
module _ (k : ℕ) (m : Message) where
  not_first : (x : Message) → one k x ≡ [] → delivered_of k (segment x 1 ∷ []) ≡ []
  not_first x e = go (eqb (record_of x) k) e
    where
      go : (b : Bool) → only_if b (x ∷ []) ≡ [] → keep_if b (segment x 1) [] ≡ []
      go true e = let z : ◌≡◌ {A = ℕ} 0 1 = cc in absurd (omega arith)
      go false e = refl

  is-first : (x : Message) → one k x ≡ m ∷ [] → delivered_of k (segment x 1 ∷ []) ≡ segment m 1 ∷ []
  is-first x e = go (eqb (record_of x) k) e
    where
      go : (b : Bool) → only_if b (x ∷ []) ≡ m ∷ [] → keep_if b (segment x 1) [] ≡ segment m 1 ∷ []
      go true e = let z : x ≡ m = cc in rw z
      go false e = let z : ◌≡◌ {A = ℕ} 0 1 = cc in absurd (omega arith)

  first_part : (s : Segment) (l : List Segment) → part k s ≡ l → delivered_of k (s ∷ []) ≡ l
  first_part s l e = go (eqb (record_of s.message) k) e
    where
      go : (b : Bool) → only_if b (s ∷ []) ≡ l → keep_if b s [] ≡ l
      go true e = e
      go false e = e

  none-long : (l : List Segment) → seen (part k) l zero ≡ [] → delivered_of k (served none [] l) ≡ []
  none-long [] b = refl
  none-long (y ∷ l) b = first_part y [] b

  none-served : (u : List Message) (l : List Segment) → seen (one k) u zero ≡ [] → seen (part k) l zero ≡ [] → delivered_of k (served none u l) ≡ []
  none-served [] l a b = none-long l b
  none-served (x ∷ u) l a b = not_first x a

  module _ (S : Start) where
    pub serve-told : (o : Option ℕ) (u : List Message) (l : List Segment) (c : Condition) → Fits S m c → seen (one k) u zero ≡ urgent_of m c zero → seen (part k) l zero ≡ long_of m c zero
        → delivered_of k (served o u l) ++ remaining m (falls (heeded o (length u)) (heeded o (length l)) c) ≡ remaining m c
    serve-told (some x) u l c f a b = ap (remaining m) (falls-still c)
    serve-told none u l Free f a b = rw (none-served u l a b)
    serve-told none u l (Held t) f a b = rw (none-served u l a b)
    serve-told none u l (Fresh t) f a b = rw (none-served u l a b)
    serve-told none u l (Asked g j t) f a b = rw (none-served u l a b)
    serve-told none u l (Resolving g i t) f a b = rw (none-served u l a b)
    serve-told none [] l (Urgent i) f a b = rw (none-long l b)
    serve-told none (x ∷ u) l (Urgent zero) f a b = rw (not_first x a)
    serve-told none (x ∷ u) l (Urgent (suc zero)) f a b = rw (is-first x a) (ap (λ (n : ℕ). segments_from m n 1) (sym f.0))
    serve-told none (x ∷ u) l (Urgent (suc (suc i))) f a b = rw (not_first x a)
    serve-told none [] [] (Long x n t) f a b = refl
    serve-told none [] (y ∷ l) (Long zero n t) f a b = rw (first_part y [] b)
    serve-told none [] (y ∷ l) (Long (suc zero) zero t) f a b = rw (first_part y [] b)
    serve-told none [] (y ∷ l) (Long (suc zero) (suc zero) t) f a b = rw (first_part y _ b)
    serve-told none [] (y ∷ l) (Long (suc zero) (suc (suc n)) t) f a b =
        let e : suc (t - suc n) ≡ suc (suc (t - suc (suc n))) = omega arith in
        rw (first_part y _ b) (ap (λ (s : ℕ). segment m (suc (t - suc (suc n))) ∷ segments_from m (suc n) s) e)
    serve-told none [] (y ∷ l) (Long (suc (suc x)) n t) f a b = rw (first_part y [] b)
    serve-told none (y ∷ u) l (Long x n t) f a b = rw (not_first y a)
