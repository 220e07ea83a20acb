-- The wire: after a slot the records asked in a minislot are those that requested there (this group) or were asked there before (other groups).
-- Assumes nothing.
use mathlib.Core.Path.{◌≡◌, refl, sym, ◌∙◌}
use mathlib.Core.Bool.{Bool, true, false, cond}
use mathlib.Core.List.{List, [], ◌∷◌}
use Prim.Native.Nat.{ℕ, zero, suc}
use native.Mathlib.Omega.{arith}
use Rattle.rules.proofs.SettleViews.{after_ind}
use Rattle.rules.proofs.ServeViews.{asks_view, falls_view}
use Rattle.minislot.specs.declared.Feedback.{Feedback}
use Rattle.rules.proofs.Clauses.{after, settle, asks, front, falls, request_sender}
use Rattle.rules.proofs.Shared.{asked_sender}
use Rattle.rules.proofs.Views.{sender_at, eqb_self}
use Rattle.listlaws.specs.Lists.{only_if}
use Rattle.rules.specs.declared.Condition.{Condition}
use Rattle.rules.specs.declared.Condition.TheVariants.{Free, Held, Fresh, Asked, Resolving, Urgent, Long}
use Rattle.rules.specs.declared.Places.{Places}
use borrow.Author.Tests.{eqb-true, ne_eqb, eqb-false}
use lib.Dec.{eqb}

-- step 1 leaves no station of the group asked, and no other group's station changed
module _ (b : Bool) (g : ℕ) (row : List Feedback) (n : Places) (j k : ℕ) where
  asked-settled : (c : Condition) → asked_sender g j k (settle b g row n c) ≡ []
  asked-settled Free = refl
  asked-settled (Held t) = refl
  asked-settled (Fresh t) = refl
  asked-settled (Asked h i t) = go (eqb h g) refl
    where
      go : (x : Bool) → eqb h g ≡ x → asked_sender g j k (cond x (after b g row n i t) (Asked h i t)) ≡ []
      go true e = after_ind (λ (c : Condition). asked_sender g j k c ≡ []) g t refl (λ x. refl) (λ x. refl) (λ x. refl) b row n i
      go false e = rw e
  asked-settled (Resolving h i t) = refl
  asked-settled (Urgent i) = refl
  asked-settled (Long f l t) = refl

  asked-far : (o : ℕ) → eqb o g ≡ false → (c : Condition) → asked_sender o j k (settle b g row n c) ≡ asked_sender o j k c
  asked-far o ne Free = refl
  asked-far o ne (Held t) = refl
  asked-far o ne (Fresh t) = refl
  asked-far o ne (Asked h i t) = go (eqb h g) refl
    where
      go : (x : Bool) → eqb h g ≡ x → asked_sender o j k (cond x (after b g row n i t) (Asked h i t)) ≡ only_if (eqb h o) (only_if (eqb i j) (sender_at k t ∷ []))
      go true e =
          rw (eqb-true h g e, ne_eqb g o (λ w. eqb-false o g ne (sym w)))
          (after_ind (λ (c : Condition). asked_sender o j k c ≡ []) g t refl (λ x. refl) (λ x. refl) (λ x. refl) b row n i)
      go false e = refl
  asked-far o ne (Resolving h i t) = refl
  asked-far o ne (Urgent i) = refl
  asked-far o ne (Long f l t) = refl

-- step 3 puts exactly the requests on the group's wire
asked-asks : (x : Bool) (r g pick j k : ℕ) (c : Condition) → asked_sender g j k c ≡ [] → asked_sender g j k (asks x r g pick c) ≡ request_sender x r g pick j k c
asked-asks x zero g pick j k Free e = refl
asked-asks x zero g pick j k (Held t) e = refl
asked-asks true zero g pick j k (Fresh t) e = refl
asked-asks false zero g pick j k (Fresh t) e = rw (eqb_self g)
asked-asks x zero g pick j k (Asked h i t) e = e
asked-asks x zero g pick j k (Resolving h i t) e = refl
asked-asks x zero g pick j k (Urgent i) e = refl
asked-asks x zero g pick j k (Long f l t) e = refl
asked-asks x (suc r) g pick j k Free e = refl
asked-asks x (suc r) g pick j k (Held t) e = refl
asked-asks x (suc r) g pick j k (Fresh t) e = refl
asked-asks x (suc r) g pick j k (Asked h i t) e = e
asked-asks x (suc r) g pick j k (Resolving h i t) e = go (eqb h g) i
  where
    go : (b : Bool) (i : ℕ) → asked_sender g j k (front b g pick h i t) ≡ only_if b (only_if (eqb i 1) (only_if (eqb pick j) (sender_at k t ∷ [])))
    go false i = refl
    go true zero = refl
    go true (suc zero) = rw (eqb_self g)
    go true (suc (suc i)) = rw (ne_eqb (suc (suc i)) 1 (λ e. omega arith))
asked-asks x (suc r) g pick j k (Urgent i) e = refl
asked-asks x (suc r) g pick j k (Long f l t) e = refl

-- THE WIRE, record by record
module _ (b : Bool) (g : ℕ) (row : List Feedback) (n : Places) (x : Bool) (h l r pick j k : ℕ) (c : Condition) where
  pub wire-here : asked_sender g j k (falls h l (asks x r g pick (settle b g row n c))) ≡ request_sender x r g pick j k (settle b g row n c)
  wire-here =
      falls_view (asked_sender g j k) (λ i. refl) (λ f x t. refl) h l (asks x r g pick (settle b g row n c))
      ∙ asked-asks x r g pick j k (settle b g row n c) (asked-settled b g row n j k c)

  pub wire-far : (o : ℕ) → eqb o g ≡ false → asked_sender o j k (falls h l (asks x r g pick (settle b g row n c))) ≡ asked_sender o j k c
  wire-far o ne =
      falls_view (asked_sender o j k) (λ i. refl) (λ f x t. refl) h l (asks x r g pick (settle b g row n c))
      ∙ asks_view g pick (asked_sender o j k) (λ t. rw far) (λ y t e. rw far) (λ y z t e. refl) x r (settle b g row n c)
      ∙ asked-far b g row n j k o ne c
    where
      far : eqb g o ≡ false
      far = ne_eqb g o (λ w. eqb-false o g ne (sym w))
