-- Counting places: a list of places inside 1 to H, as long as H and without repeats, has every place once, and the other way round.
-- Assumes nothing.
use mathlib.Core.Path.{◌≡◌, refl, sym, ◌∙◌}
use mathlib.Core.Bool.{Bool, true, false, not, cond, ◌&&◌, and-eq-true_iff}
use mathlib.Core.List.{List, [], ◌∷◌, ◌++◌}
use mathlib.Core.Logic.{◌≢◌, by_cases}
use Prim.Native.Nat.{ℕ, zero, suc, ◌+◌, ◌≤◌, ◌<◌}
use native.Mathlib.Omega.{arith}
use native.Mathlib.Decide.{dec_lt}
use lib.Dec.{eqb}
use lib.ListN.{length}
use borrow.Author.Tests.{eqb-true, eqb-false, eq-eqb, ne_eqb}
use Rattle.std.specs.List.{list_all}
use Rattle.listlaws.specs.Lists.{each_pair, count_of}
use Rattle.listlaws.proofs.Totals.{total, total-add, total_zero, total-full, total-ones}
use Rattle.places.specs.Places.{differ}

-- how often a place is named
abbrev pub times : ℕ → List ℕ → ℕ
times i l = count_of (eqb i) l

-- all places of a list lie inside 1 to H
abbrev pub Inside : ℕ → List ℕ → Type 0
Inside H [] = Unit {0}
Inside H (x ∷ l) = (1 ≤ x) × (x ≤ H) × Inside H l

pub times-append : (i : ℕ) (a b : List ℕ) → times i (a ++ b) ≡ times i a + times i b
times-append i [] b = omega arith
times-append i (x ∷ a) b = omega (arith, times-append i a b)

pub inside-append : (H : ℕ) (a b : List ℕ) → Inside H a → Inside H b → Inside H (a ++ b)
inside-append H [] b p q = q
inside-append H (x ∷ a) b p q = (p.0, p.1, inside-append H a b p.2 q)

-- ---- sums over 1 to H

-- one place
hit_past : (K j : ℕ) → K < j → total K (λ i. cond (eqb (suc i) j) 1 0) ≡ 0
hit_past zero j h = refl
hit_past (suc K) j h = rw (ne_eqb (suc K) j (λ e. omega arith)) (omega (arith, hit_past K j (omega arith)))

pub hit_once : (K j : ℕ) → 1 ≤ j → j ≤ K → total K (λ i. cond (eqb (suc i) j) 1 0) ≡ 1
hit_once zero j lo hi = absurd (omega arith)
hit_once (suc K) j lo hi = go (eqb (suc K) j) refl (λ w. hit_once K j lo w)
  where
    go : (b : Bool) → eqb (suc K) j ≡ b → (j ≤ K → total K (λ i. cond (eqb (suc i) j) 1 0) ≡ 1) → cond b 1 0 + total K (λ i. cond (eqb (suc i) j) 1 0) ≡ 1
    go true e ih = let w : suc K ≡ j = eqb-true (suc K) j e in omega (arith, hit_past K j (omega arith))
    go false e ih = let w : suc K ≢ j = eqb-false (suc K) j e in omega (arith, ih (omega arith))

-- a list's length, place by place
pub length-places : (H : ℕ) (l : List ℕ) → Inside H l → length l ≡ total H (λ i. times (suc i) l)
length-places H [] p = sym (total_zero H)
length-places H (x ∷ l) p =
    omega (arith, total-add H (λ i. cond (eqb (suc i) x) 1 0) (λ i. times (suc i) l), hit_once H x p.0 p.1, length-places H l p.2)

-- a place outside is not named
pub times-outside : (H : ℕ) (l : List ℕ) → Inside H l → (i : ℕ) → H < i → times i l ≡ 0
times-outside H [] p i h = refl
times-outside H (x ∷ l) p i h = rw (ne_eqb i x (λ e. omega (arith, p.1))) (omega (arith, times-outside H l p.2 i h))

pub times_none : (H : ℕ) (l : List ℕ) → Inside H l → times 0 l ≡ 0
times_none H [] p = refl
times_none H (x ∷ l) p = rw (ne_eqb 0 x (λ e. omega (arith, p.0))) (omega (arith, times_none H l p.2))

-- ---- no two alike

pub differ-none : (x : ℕ) (l : List ℕ) → list_all (differ x) l ≡ true → times x l ≡ 0
differ-none x [] e = refl
differ-none x (y ∷ l) e = go (eqb x y) e (differ-none x l)
  where
    go : (b : Bool) → not b && list_all (differ x) l ≡ true → (list_all (differ x) l ≡ true → times x l ≡ 0) → cond b 1 0 + times x l ≡ 0
    go true e ih = cc
    go false e ih = omega (arith, ih e)

pub none_differ : (x : ℕ) (l : List ℕ) → times x l ≡ 0 → list_all (differ x) l ≡ true
none_differ x [] e = refl
none_differ x (y ∷ l) e = go (eqb x y) e (none_differ x l)
  where
    go : (b : Bool) → cond b 1 0 + times x l ≡ 0 → (times x l ≡ 0 → list_all (differ x) l ≡ true) → not b && list_all (differ x) l ≡ true
    go true e ih = absurd (omega arith)
    go false e ih = ih (omega arith)

pub pairs-once : (l : List ℕ) → each_pair differ l ≡ true → (i : ℕ) → times i l ≤ 1
pairs-once [] e i = omega arith
pairs-once (x ∷ l) e i = go (eqb i x) refl (pairs-once l ((and-eq-true_iff (list_all (differ x) l) (each_pair differ l)).0 e).1 i)
  where
    go : (b : Bool) → eqb i x ≡ b → times i l ≤ 1 → cond b 1 0 + times i l ≤ 1
    go true w ih = rw (eqb-true i x w) (omega (arith, differ-none x l ((and-eq-true_iff (list_all (differ x) l) (each_pair differ l)).0 e).0))
    go false w ih = omega arith

pub once-pairs : (l : List ℕ) → ((i : ℕ) → times i l ≤ 1) → each_pair differ l ≡ true
once-pairs [] h = refl
once-pairs (x ∷ l) h = rw (none_differ x l first) (once-pairs l (λ i. omega (arith, h i)))
  where
    first : times x l ≡ 0
    first = let w : cond (eqb x x) 1 0 + times x l ≤ 1 = h x in omega (arith, rw (eq-eqb x x refl) at w)

-- ---- EXACTLY ONE at each place: as many as places, no two alike

pub exactly_one : (H : ℕ) (l : List ℕ) → Inside H l → length l ≡ H → ((i : ℕ) → times i l ≤ 1) → (i : ℕ) → i < H → times (suc i) l ≡ 1
exactly_one H l p e o i h = total-full H (λ i. times (suc i) l) (λ i. o (suc i)) (sym (length-places H l p) ∙ e) i h

pub one_each : (H : ℕ) (l : List ℕ) → Inside H l → ((i : ℕ) → i < H → times (suc i) l ≡ 1) → (length l ≡ H) × ((i : ℕ) → times i l ≤ 1)
one_each H l p h = (length-places H l p ∙ total-ones H (λ i. times (suc i) l) h, at_most)
  where
    at_most : (i : ℕ) → times i l ≤ 1
    at_most zero = omega (arith, times_none H l p)
    at_most (suc i) = by_cases (dec_lt i H) (λ w. omega (arith, h i w)) (λ w. omega (arith, times-outside H l p (suc i) (omega arith)))
