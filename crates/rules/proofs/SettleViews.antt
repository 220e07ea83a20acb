-- Step 1 for a station in any condition, and what step 1 leaves alone: the fresh, and all that belongs to another group. Assumes nothing.
use mathlib.Core.Path.{◌≡◌, refl, sym, ◌∙◌}
use mathlib.Core.Bool.{Bool, true, false, cond}
use mathlib.Core.List.{List, [], ◌∷◌, map}
use Prim.Native.Nat.{ℕ, zero, suc, ◌≤◌}
use native.Mathlib.Omega.{arith}
use Rattle.rules.proofs.Newcomers.{row_other, row-own}
use Rattle.minislot.specs.declared.Feedback.{Feedback}
use Rattle.minislot.specs.declared.Feedback.TheVariants.{Empty, Single, Collide}
use Rattle.rules.proofs.Clauses.{read, after, settle}
use Rattle.rules.proofs.Relation.{lengths, Shows, Fits, held_of, fresh_of, asked_of, resolving_of}
use Rattle.rules.proofs.Views.{seen, at_first, at_place}
use Rattle.rules.specs.Calls.{Start}
use Rattle.listlaws.specs.Lists.{only_if}
use Rattle.rules.specs.Messages.{Message, Segment, of}
use Rattle.rules.specs.Plain.{Queues, join_row}
use Rattle.rules.specs.Queueing.{queued}
use Rattle.rules.specs.StationLimits.{Condition, Free, Held, Fresh, Asked, Resolving, Urgent, Long}
use Rattle.rules.specs.declared.Places.{Places}
use Rattle.rules.proofs.Settled.{stands_alone}
use borrow.Author.Tests.{eqb-true, ne_eqb, eqb-false}
use lib.Dec.{eqb}

-- an asked station ends step 1 in one of four conditions
module _ (P : Condition → Type 0) (g t : ℕ) (free : P Free) (urgent : (i : ℕ) → P (Urgent i)) (long : (f : ℕ) → P (Long f t t)) (resolution : (i : ℕ) → P (Resolving g i t)) where
  pub after_ind : (b : Bool) (row : List Feedback) (c : Places) (j : ℕ) → P (after b g row c j t)
  after_ind b [] c j = free
  after_ind b (f ∷ row) c zero = free
  after_ind b (Empty ∷ row) c (suc zero) = free
  after_ind b (Single i s ∷ row) c (suc zero) = go b (eqb s 1)
    where
      go : (b o : Bool) → P (stands_alone b o c t)
      go true true = free
      go false true = urgent _
      go b false = long _
  after_ind b (Collide ∷ row) c (suc zero) = resolution _
  after_ind b (f ∷ row) c (suc (suc j)) = after_ind b row (queued b c f) (suc j)

module _ (b : Bool) (g : ℕ) (row : List Feedback) (n : Places) (m : Message) where
  -- no station of the group is left asked
  pub settle-asked : (c : Condition) (i : ℕ) → asked_of g m (settle b g row n c) i ≡ []
  settle-asked Free i = refl
  settle-asked (Held t) i = refl
  settle-asked (Fresh t) i = refl
  settle-asked (Asked h j t) i = go (eqb h g) refl
    where
      go : (x : Bool) → eqb h g ≡ x → asked_of g m (cond x (after b g row n j t) (Asked h j t)) i ≡ []
      go true e = after_ind (λ (c : Condition). asked_of g m c i ≡ []) g t refl (λ x. refl) (λ x. refl) (λ x. refl) b row n j
      go false e = rw e
  settle-asked (Resolving h j t) i = refl
  settle-asked (Urgent j) i = refl
  settle-asked (Long f l t) i = refl

  -- what is not seen of one that is asked or queued is as it was
  settle_view : {E : Type 0} (W : Condition → E) → ((h j t : ℕ) → W (Asked h j t) ≡ W Free) → ((h i t : ℕ) → W (Resolving h i t) ≡ W Free) → ((i : ℕ) → W (Urgent i) ≡ W Free)
      → ((f l t : ℕ) → W (Long f l t) ≡ W Free) → (c : Condition) → W (settle b g row n c) ≡ W c
  settle_view W a r u l Free = refl
  settle_view W a r u l (Held t) = refl
  settle_view W a r u l (Fresh t) = refl
  settle_view W a r u l (Asked h j t) = go (eqb h g)
    where
      go : (x : Bool) → W (cond x (after b g row n j t) (Asked h j t)) ≡ W (Asked h j t)
      go true = after_ind (λ (c : Condition). W c ≡ W Free) g t refl u (λ f. l f t t) (λ i. r g i t) b row n j ∙ sym (a h j t)
      go false = refl
  settle_view W a r u l (Resolving h j t) = refl
  settle_view W a r u l (Urgent j) = refl
  settle_view W a r u l (Long f x t) = refl

  -- the fresh stay fresh
  pub settle-fresh : (c : Condition) → fresh_of m (settle b g row n c) ≡ fresh_of m c
  settle-fresh = settle_view (fresh_of m) (λ h j t. refl) (λ h i t. refl) (λ i. refl) (λ f l t. refl)

  -- and the held held
  pub settle-held : (c : Condition) → held_of m (settle b g row n c) ≡ held_of m c
  settle-held = settle_view (held_of m) (λ h j t. refl) (λ h i t. refl) (λ i. refl) (λ f l t. refl)

  -- another group's view
  module _ (o : ℕ) (ne : eqb o g ≡ false) where
    far : eqb g o ≡ false
    far = ne_eqb g o (λ e. eqb-false o g ne (sym e))

    pub settle-asked-far : (c : Condition) (i : ℕ) → asked_of o m (settle b g row n c) i ≡ asked_of o m c i
    settle-asked-far Free i = refl
    settle-asked-far (Held t) i = refl
    settle-asked-far (Fresh t) i = refl
    settle-asked-far (Asked h j t) i = go (eqb h g) refl
      where
        go : (x : Bool) → eqb h g ≡ x → asked_of o m (cond x (after b g row n j t) (Asked h j t)) i ≡ only_if (eqb h o) (at_place j (at_first (m ∷ [])) i)
        go true e =
            rw (eqb-true h g e, far)
            (after_ind (λ (c : Condition). asked_of o m c i ≡ []) g t refl (λ x. refl) (λ x. refl) (λ x. refl) b row n j)
        go false e = refl
    settle-asked-far (Resolving h j t) i = refl
    settle-asked-far (Urgent j) i = refl
    settle-asked-far (Long f l t) i = refl

    pub settle_res_far : (c : Condition) (i : ℕ) → resolving_of o m (settle b g row n c) i ≡ resolving_of o m c i
    settle_res_far Free i = refl
    settle_res_far (Held t) i = refl
    settle_res_far (Fresh t) i = refl
    settle_res_far (Asked h j t) i = go (eqb h g)
      where
        go : (x : Bool) → resolving_of o m (cond x (after b g row n j t) (Asked h j t)) i ≡ []
        go true = after_ind (λ (c : Condition). resolving_of o m c i ≡ []) g t refl (λ x. refl) (λ x. refl) (λ x. rw far) b row n j
        go false = refl
    settle_res_far (Resolving h j t) i = refl
    settle_res_far (Urgent j) i = refl
    settle_res_far (Long f l t) i = refl

-- step 1 keeps what the station shows
module _ (S : Start) (g k : ℕ) (m : Message) (A : List Segment) (some : 1 ≤ m.slots) (b : Bool) (index : ℕ → ℕ) (row : List (List Message)) (q : Queues) where
  pub settle_ok : (c : Condition) → ((i : ℕ) → seen (of k) row i ≡ asked_of g m c i) → Shows S g k m A q c → Shows S g k m A (join_row b row q) (settle b g (map (read index) row) (lengths q) c)
  settle_ok Free e s = row_other S g k m A b Free row q e s
  settle_ok (Held t) e s = row_other S g k m A b (Held t) row q e s
  settle_ok (Fresh t) e s = row_other S g k m A b (Fresh t) row q e s
  settle_ok (Asked h j t) e s = go j (eqb h g) refl e s
    where
      go : (j : ℕ) (x : Bool) → eqb h g ≡ x → ((i : ℕ) → seen (of k) row i ≡ only_if x (at_place j (at_first (m ∷ [])) i)) → Shows S g k m A q (Asked h j t)
          → Shows S g k m A (join_row b row q) (cond x (after b g (map (read index) row) (lengths q) j t) (Asked h j t))
      go j false w e s = row_other S g k m A b (Asked h j t) row q e s
      go zero true w e s = let f : Fits S m (Asked h zero t) = s.fits in absurd (omega arith)
      go (suc j) true w e s =
          let f : t ≡ m.slots = s.fits.0 in
          rw f (row-own S g k m A some (suc j) t b index row q j e (rw (eqb-true h g w) at s))
  settle_ok (Resolving h i t) e s = row_other S g k m A b (Resolving h i t) row q e s
  settle_ok (Urgent i) e s = row_other S g k m A b (Urgent i) row q e s
  settle_ok (Long f l t) e s = row_other S g k m A b (Long f l t) row q e s
