-- The relation settles each station's condition: it is what a search of the plain queues finds. Assumes nothing.
use mathlib.Core.Path.{◌≡◌, refl, sym, ap, ◌∙◌}
use mathlib.Core.Bool.{Bool, true, false}
use mathlib.Core.List.{List, [], ◌∷◌}
use mathlib.Core.Option.{none, some}
use mathlib.Core.Logic.{◌≢◌}
use Prim.Native.Nat.{ℕ, zero, suc, ◌+◌, ◌-◌, ◌≤◌}
use native.Mathlib.Omega.{arith}
use lib.ListN.{length}
use Rattle.rules.proofs.Relation.{Agrees, Fits}
use Rattle.rules.proofs.Views.{seen, at_first, shifted, run, nil_cons}
use Rattle.rules.specs.Calls.{Start}
use Rattle.listlaws.specs.Lists.{keep_if, only_if}
use Rattle.rules.specs.Messages.{Message, Segment, of, segment, delivered_of, record_of}
use Rattle.rules.specs.Plain.{Plain}
use Rattle.rules.specs.Positions.{one, part, find, in_groups, condition_of}
use Rattle.rules.specs.declared.Condition.{Condition}
use Rattle.rules.specs.declared.Condition.TheVariants.{Free, Held, Fresh, Asked, Resolving, Urgent, Long}
use borrow.Author.Tests.{eqb-true, eqb-false}
use lib.Dec.{eqb}

shifted-first {ℓ} : {E : Type ℓ} (n : ℕ) (v : ℕ → List E) → shifted n v n ≡ v zero
shifted-first zero v = refl
shifted-first (suc n) v = shifted-first n v

module _ {ℓ κ} {A : Type ℓ} {E : Type κ} (f : A → List E) where
  find_none : (q : List A) (j : ℕ) → ((i : ℕ) → seen f q i ≡ []) → find f q j ≡ none
  find_none [] j h = refl
  find_none (x ∷ q) j h = rw (h zero) (find_none q (suc j) (λ i. h (suc i)))

  -- one entry, n places on
  find-shifted : (q : List A) (j n : ℕ) (e : E) (v : ℕ → List E) → v zero ≡ e ∷ [] → ((i : ℕ) → seen f q i ≡ shifted n v i) → find f q j ≡ some (record { at = j + n; what = e })
  find-shifted [] j n e v w h = absurd (nil_cons (h n ∙ shifted-first n v ∙ w))
  find-shifted (x ∷ q) j zero e v w h = rw (h zero, w) (ap (λ (a : ℕ). some (record { at = a; what = e })) (omega arith))
  find-shifted (x ∷ q) j (suc n) e v w h = rw (h zero) (find-shifted q (suc j) n e v w (λ i. h (suc i)) ∙ ap (λ (a : ℕ). some (record { at = a; what = e })) (omega arith))

-- the stretch is as long as the station's entries are many
count-run : (k : ℕ) (m : Message) (q : List Segment) (n l s : ℕ) → ((i : ℕ) → seen (part k) q i ≡ shifted n (run m l s) i) → length (delivered_of k q) ≡ l
count-run k m [] n zero s h = refl
count-run k m [] n (suc l) s h = absurd (nil_cons (h n ∙ shifted-first n (run m (suc l) s)))
count-run k m (x ∷ q) zero zero s h = go (eqb (record_of x.message) k) (h zero) (count-run k m q zero zero s (λ i. h (suc i)))
  where
    go : (b : Bool) → only_if b (x ∷ []) ≡ [] → length (delivered_of k q) ≡ 0 → length (keep_if b x (delivered_of k q)) ≡ 0
    go true e ih = absurd (nil_cons (sym e))
    go false e ih = ih
count-run k m (x ∷ q) zero (suc l) s h = go (eqb (record_of x.message) k) (h zero) (count-run k m q zero l (suc s) (λ i. h (suc i)))
  where
    go : (b : Bool) → only_if b (x ∷ []) ≡ segment m s ∷ [] → length (delivered_of k q) ≡ l → length (keep_if b x (delivered_of k q)) ≡ suc l
    go true e ih = ap suc ih
    go false e ih = absurd (nil_cons e)
count-run k m (x ∷ q) (suc n) l s h = go (eqb (record_of x.message) k) (h zero) (count-run k m q n l s (λ i. h (suc i)))
  where
    go : (b : Bool) → only_if b (x ∷ []) ≡ [] → length (delivered_of k q) ≡ l → length (keep_if b x (delivered_of k q)) ≡ l
    go true e ih = absurd (nil_cons (sym e))
    go false e ih = ih

module _ (S : Start) (p : Plain) (k : ℕ) (m : Message) where
  -- nothing in any group
  groups_none : ((g i : ℕ) → seen (of k) (p.group g).asking i ≡ []) → ((g i : ℕ) → seen (of k) (p.group g).resolution i ≡ []) → (n : ℕ) → in_groups p k n ≡ Free
  groups_none a r zero = refl
  groups_none a r (suc n) = rw (find_none (of k) (p.group (suc n)).asking 1 (a (suc n)), find_none (of k) (p.group (suc n)).resolution 1 (r (suc n))) (groups_none a r n)

  -- asked in one group
  groups-asked : (h j : ℕ) → 1 ≤ h → ((g i : ℕ) → seen (of k) (p.group g).asking i ≡ only_if (eqb h g) (shifted j (at_first (m ∷ [])) i)) → ((g i : ℕ) → seen (of k) (p.group g).resolution i ≡ [])
      → (n : ℕ) → h ≤ n → in_groups p k n ≡ Asked h (suc j) m.slots
  groups-asked h j lo a r zero hi = absurd (omega arith)
  groups-asked h j lo a r (suc n) hi = go (eqb h (suc n)) refl (a (suc n)) (groups-asked h j lo a r n)
    where
      go : (b : Bool) → eqb h (suc n) ≡ b → ((i : ℕ) → seen (of k) (p.group (suc n)).asking i ≡ only_if b (shifted j (at_first (m ∷ [])) i)) → (h ≤ n → in_groups p k n ≡ Asked h (suc j) m.slots)
          → in_groups p k (suc n) ≡ Asked h (suc j) m.slots
      go true e w ih = rw (find-shifted (of k) (p.group (suc n)).asking 1 j m (at_first (m ∷ [])) refl w, eqb-true h (suc n) e) (ap (λ (x : ℕ). Asked (suc n) x m.slots) (omega arith))
      go false e w ih =
          let y : h ≢ suc n = eqb-false h (suc n) e in
          rw (find_none (of k) (p.group (suc n)).asking 1 w, find_none (of k) (p.group (suc n)).resolution 1 (r (suc n))) (ih (omega arith))

  groups_res : (h j : ℕ) → 1 ≤ h → ((g i : ℕ) → seen (of k) (p.group g).asking i ≡ []) → ((g i : ℕ) → seen (of k) (p.group g).resolution i ≡ only_if (eqb h g) (shifted j (at_first (m ∷ [])) i))
      → (n : ℕ) → h ≤ n → in_groups p k n ≡ Resolving h (suc j) m.slots
  groups_res h j lo a r zero hi = absurd (omega arith)
  groups_res h j lo a r (suc n) hi = go (eqb h (suc n)) refl (r (suc n)) (groups_res h j lo a r n)
    where
      go : (b : Bool) → eqb h (suc n) ≡ b → ((i : ℕ) → seen (of k) (p.group (suc n)).resolution i ≡ only_if b (shifted j (at_first (m ∷ [])) i)) → (h ≤ n → in_groups p k n ≡ Resolving h (suc j) m.slots)
          → in_groups p k (suc n) ≡ Resolving h (suc j) m.slots
      go true e w ih =
          rw (find_none (of k) (p.group (suc n)).asking 1 (a (suc n)), find-shifted (of k) (p.group (suc n)).resolution 1 j m (at_first (m ∷ [])) refl w, eqb-true h (suc n) e)
          (ap (λ (x : ℕ). Resolving (suc n) x m.slots) (omega arith))
      go false e w ih =
          let y : h ≢ suc n = eqb-false h (suc n) e in
          rw (find_none (of k) (p.group (suc n)).asking 1 (a (suc n)), find_none (of k) (p.group (suc n)).resolution 1 w) (ih (omega arith))

  -- the station's condition is what the search finds
  pub condition_eq : (c : Condition) → Agrees S p k m c → condition_of S p k ≡ c
  condition_eq Free a =
      rw (a.held, a.fresh, find_none (one k) p.urgent 1 a.urgent, find_none (part k) p.long 1 a.long) (groups_none a.asking a.resolution S.n)
  condition_eq (Held t) a = rw a.held (ap Held (sym a.fits))
  condition_eq (Fresh t) a = rw (a.held, a.fresh) (ap Fresh (sym a.fits))
  condition_eq (Asked g zero t) a = let f : Fits S m (Asked g zero t) = a.fits in absurd (omega arith)
  condition_eq (Asked g (suc j) t) a =
      let f : Fits S m (Asked g (suc j) t) = a.fits in
      rw (a.held, a.fresh, find_none (one k) p.urgent 1 a.urgent, find_none (part k) p.long 1 a.long) (groups-asked g j f.1 a.asking a.resolution S.n f.2 ∙ ap (Asked g (suc j)) (sym f.0))
  condition_eq (Resolving g zero t) a = let f : Fits S m (Resolving g zero t) = a.fits in absurd (omega arith)
  condition_eq (Resolving g (suc j) t) a =
      let f : Fits S m (Resolving g (suc j) t) = a.fits in
      rw (a.held, a.fresh, find_none (one k) p.urgent 1 a.urgent, find_none (part k) p.long 1 a.long) (groups_res g j f.1 a.asking a.resolution S.n f.2 ∙ ap (Resolving g (suc j)) (sym f.0))
  condition_eq (Urgent zero) a = let f : Fits S m (Urgent zero) = a.fits in absurd (omega arith)
  condition_eq (Urgent (suc j)) a = rw (a.held, a.fresh, find-shifted (one k) p.urgent 1 j m (at_first (m ∷ [])) refl a.urgent) (ap Urgent (omega arith))
  condition_eq (Long zero l t) a = let f : Fits S m (Long zero l t) = a.fits in absurd (omega arith)
  condition_eq (Long (suc f) zero t) a = let w : Fits S m (Long (suc f) zero t) = a.fits in absurd (omega arith)
  condition_eq (Long (suc f) (suc l) t) a =
      rw (a.held, a.fresh, find_none (one k) p.urgent 1 a.urgent, find-shifted (part k) p.long 1 f (segment m (suc (t - suc l))) (run m (suc l) (suc (t - suc l))) refl a.long, count-run k m p.long f (suc l) (suc (t - suc l)) a.long)
      (ap (λ (x : ℕ). Long x (suc l) m.slots) (let w : 1 + f ≡ suc f = omega arith in w) ∙ ap (Long (suc f) (suc l)) (sym a.fits.0))
