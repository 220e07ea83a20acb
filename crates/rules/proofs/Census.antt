-- Two lists with the same entries of every key are read alike and have one length; a walk over the stations shows each station's own entries.
-- Assumes nothing.
use mathlib.Core.Path.{◌≡◌, refl, sym, ap, ◌∙◌}
use mathlib.Core.Bool.{Bool, true, false}
use mathlib.Core.List.{List, [], ◌∷◌, ◌++◌, append-nil}
use Prim.Native.Nat.{ℕ, zero, suc, ◌+◌, ◌≤◌, ◌<◌}
use native.Mathlib.Omega.{arith}
use native.Mathlib.Decide.{dec_lt}
use mathlib.Core.Logic.{by_cases, ◌≢◌}
use lib.ListN.{length, drop}
use Rattle.rules.proofs.Newcomers.{of_by-append}
use Rattle.rules.proofs.Clauses.{hearing}
use Rattle.rules.proofs.Shared.{collect, gather}
use Rattle.rules.proofs.Views.{Sender, eqb_self, nil_cons}
use Rattle.listlaws.specs.Lists.{keep_if, only_if}
use Rattle.listlaws.proofs.Totals.{total, total-cong}
use Rattle.rules.specs.Messages.{of_by}
use borrow.Author.Tests.{eqb-true, ne_eqb, eqb-false}
use lib.Dec.{eqb}

abbrev keyed : ℕ → List Sender → List Sender
keyed k l = of_by (λ s. s.position) k l

own_first : (x : Sender) (l : List Sender) → keyed x.position (x ∷ l) ≡ x ∷ keyed x.position l
own_first x l = rw (eqb_self x.position)

-- a lone entry and a crowd differ at some key: at the second's own, or at the third's
lone-crowd : (x y z : Sender) (l : List Sender) → ((k : ℕ) → keyed k (x ∷ []) ≡ keyed k (y ∷ z ∷ l)) → ⊥
lone-crowd x y z l h = go (eqb x.position y.position) refl (h y.position ∙ own_first y (z ∷ l))
  where
    go : (b : Bool) → eqb x.position y.position ≡ b → keep_if b x [] ≡ y ∷ keyed y.position (z ∷ l) → ⊥
    go false e q = nil_cons q
    go true e q = third (eqb z.position y.position) refl (ap (λ (s : List Sender). drop 1 s) q)
      where
        third : (c : Bool) → eqb z.position y.position ≡ c → [] ≡ keep_if c z (keyed y.position l) → ⊥
        third true f r = nil_cons r
        third false f r =
            let w : y.position ≢ z.position = (λ s. eqb-false z.position y.position f (sym s)) in
            nil_cons (rw (eqb-true x.position y.position e, ne_eqb y.position z.position w, eqb_self z.position) at (h z.position))

pub hearing_eq : (index : ℕ → ℕ) (a b : List Sender) → ((k : ℕ) → keyed k a ≡ keyed k b) → hearing index a ≡ hearing index b
hearing_eq index [] [] h = refl
hearing_eq index [] (y ∷ b) h = absurd (nil_cons (h y.position ∙ own_first y b))
hearing_eq index (x ∷ []) [] h = absurd (nil_cons (sym (h x.position) ∙ own_first x []))
hearing_eq index (x ∷ []) (y ∷ []) h = go (eqb x.position y.position) refl
  where
    go : (b : Bool) → eqb x.position y.position ≡ b → hearing index (x ∷ []) ≡ hearing index (y ∷ [])
    go true e = ap (hearing index) (rw (e, eqb_self y.position) at (h y.position))
    go false e = absurd (nil_cons (rw (e, eqb_self y.position) at (h y.position)))
hearing_eq index (x ∷ []) (y ∷ z ∷ b) h = absurd (lone-crowd x y z b h)
hearing_eq index (x ∷ y ∷ a) [] h = absurd (nil_cons (sym (h x.position) ∙ own_first x (y ∷ a)))
hearing_eq index (x ∷ y ∷ a) (z ∷ []) h = absurd (lone-crowd z x y a (λ k. sym (h k)))
hearing_eq index (x ∷ y ∷ a) (z ∷ w ∷ b) h = refl

abbrev bump : Bool → ℕ → ℕ
bump true n = suc n
bump false n = n

total-past : (K j : ℕ) (f : ℕ → ℕ) → K ≤ j → total K (λ k. bump (eqb j k) (f k)) ≡ total K f
total-past zero j f h = refl
total-past (suc k) j f h = rw (ne_eqb j k (λ e. omega arith), total-past k j f (omega arith))

total-bump : (K j : ℕ) (f : ℕ → ℕ) → j < K → total K (λ k. bump (eqb j k) (f k)) ≡ suc (total K f)
total-bump zero j f h = absurd (omega arith)
total-bump (suc k) j f h = go (λ l. total-bump k j f l) (eqb j k) refl
  where
    go : (j < k → total k (λ i. bump (eqb j i) (f i)) ≡ suc (total k f)) → (b : Bool) → eqb j k ≡ b → bump (eqb j k) (f k) + total k (λ i. bump (eqb j i) (f i)) ≡ suc (f k + total k f)
    go ih true e = let w : j ≡ k = eqb-true j k e in rw (e, total-past k j f (omega arith)) (omega arith)
    go ih false e = let w : j ≢ k = eqb-false j k e in rw (e, ih (omega arith)) (omega arith)

module _ {ℓ} {A : Type ℓ} (position : A → ℕ) where
  length-keep_if : (b : Bool) (x : A) (l : List A) → length (keep_if b x l) ≡ bump b (length l)
  length-keep_if true x l = refl
  length-keep_if false x l = refl

  -- a list's length, by its keys
  pub length-total : (K : ℕ) (a : List A) → ((k : ℕ) → K ≤ k → of_by position k a ≡ []) → length a ≡ total K (λ k. length (of_by position k a))
  length-total K [] h = go K
    where
      go : (K : ℕ) → 0 ≡ total K (λ k. 0)
      go zero = refl
      go (suc K) = omega (arith, go K)
  length-total K (x ∷ a) h =
      ap suc (length-total K a (λ k l. drop-keep_if (eqb (position x) k) (of_by position k a) (h k l)))
      ∙ sym (total-bump K (position x) (λ k. length (of_by position k a)) (by_cases (dec_lt (position x) K) (λ l. l) (λ l. absurd (over (h (position x) (omega arith))))))
      ∙ total-cong K _ _ (λ k. sym (length-keep_if (eqb (position x) k) x (of_by position k a)))
    where
      drop-keep_if : (b : Bool) (l : List A) → keep_if b x l ≡ [] → l ≡ []
      drop-keep_if true l e = absurd (nil_cons (sym e))
      drop-keep_if false l e = e

      over : keep_if (eqb (position x) (position x)) x (of_by position (position x) a) ≡ [] → ⊥
      over e = nil_cons (sym (rw (eqb_self (position x)) at e))

  -- entries of key j, seen by key k
  pub of_by-of_by : (j k : ℕ) (l : List A) → of_by position k (of_by position j l) ≡ only_if (eqb j k) (of_by position j l)
  of_by-of_by j k [] = go (eqb j k)
    where
      go : (b : Bool) → [] ≡ only_if {A = A} b []
      go true = refl
      go false = refl
  of_by-of_by j k (x ∷ l) = go (of_by-of_by j k l) (eqb (position x) j) refl (eqb j k) refl
    where
      go : of_by position k (of_by position j l) ≡ only_if (eqb j k) (of_by position j l) → (b : Bool) → eqb (position x) j ≡ b → (c : Bool) → eqb j k ≡ c → of_by position k (keep_if b x (of_by position j l)) ≡ only_if (eqb j k) (keep_if b x (of_by position j l))
      go ih false e c f = ih
      go ih true e true f = rw (eqb-true (position x) j e, f) (ap (λ (z : List A). x ∷ z) (rw f at ih))
      go ih true e false f = rw (eqb-true (position x) j e, f) (rw f at ih)

  -- a walk over the stations, seen by its keys: `f k` has only entries of key k
  module _ (f : ℕ → List A) (own : (j k : ℕ) → of_by position k (f j) ≡ only_if (eqb j k) (f j)) where
    collect-before : (n j k : ℕ) → k < j → of_by position k (collect f n j) ≡ []
    collect-before zero j k h = refl
    collect-before (suc n) j k h = of_by-append position k (f j) (collect f n (suc j)) ∙ rw (own j k, ne_eqb j k (λ e. omega arith), collect-before n (suc j) k (omega arith))

    collect-past : (n j k : ℕ) → j + n ≤ k → of_by position k (collect f n j) ≡ []
    collect-past zero j k h = refl
    collect-past (suc n) j k h = of_by-append position k (f j) (collect f n (suc j)) ∙ rw (own j k, ne_eqb j k (λ e. omega arith), collect-past n (suc j) k (omega arith))

    collect_in : (n j k : ℕ) → j ≤ k → k < j + n → of_by position k (collect f n j) ≡ f k
    collect_in zero j k l h = absurd (omega arith)
    collect_in (suc n) j k l h = of_by-append position k (f j) (collect f n (suc j)) ∙ go (λ a b. collect_in n (suc j) k a b) (eqb j k) refl
      where
        go : (suc j ≤ k → k < suc j + n → of_by position k (collect f n (suc j)) ≡ f k) → (b : Bool) → eqb j k ≡ b → of_by position k (f j) ++ of_by position k (collect f n (suc j)) ≡ f k
        go ih true e = let w : j ≡ k = eqb-true j k e in rw (own j k, e, collect-before n (suc j) k (omega arith), append-nil) (ap f w)
        go ih false e = let w : j ≢ k = eqb-false j k e in rw (own j k, e) (ih (omega arith) (omega arith))

    pub gather-of : (K : ℕ) → ((k : ℕ) → K ≤ k → f k ≡ []) → (k : ℕ) → of_by position k (gather f K) ≡ f k
    gather-of K h k = by_cases (dec_lt k K) (λ l. collect_in K 0 k (omega arith) (omega arith)) (λ l. collect-past K 0 k (omega arith) ∙ sym (h k (omega arith)))

    pub length-gather : (K : ℕ) → ((k : ℕ) → K ≤ k → f k ≡ []) → length (gather f K) ≡ total K (λ k. length (f k))
    length-gather K h = length-total K (gather f K) (λ k l. gather-of K h k ∙ h k l) ∙ total-cong K _ _ (λ k. ap length (gather-of K h k))
