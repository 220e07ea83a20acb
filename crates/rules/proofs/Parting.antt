-- The two records of a station stay apart in a slot that goes through: never asked in one group, nor at one place of a resolution queue. By two views of a
-- condition, the group that it asked in and the place where it resolves, through steps 1, 3 and 5. Assumes nothing.
use mathlib.Core.Path.{◌≡◌, refl, sym, ap, ◌∙◌}
use mathlib.Core.Bool.{Bool, true, false, not, cond, ◌&&◌}
use mathlib.Core.List.{List, [], ◌∷◌}
use mathlib.Core.Logic.{◌⊎◌, inl, inr}
use Prim.Native.Nat.{ℕ, zero, suc, ◌+◌, ◌≤◌, ◌<◌}
use native.Mathlib.Omega.{arith}
use lib.Dec.{eqb}
use borrow.Author.Tests.{eqb-true, ne_eqb, eqb-false}
use Rattle.minislot.specs.declared.Feedback.{Feedback}
use Rattle.minislot.specs.declared.Feedback.TheVariants.{Empty, Single, Collide}
use Rattle.rules.specs.declared.Places.{Places}
use Rattle.rules.specs.Queueing.{queued}
use Rattle.rules.specs.StationLimits.{Condition, Free, Held, Fresh, Asked, Resolving, Urgent, Long, not_asked, not_at, records_apart}
use Rattle.rules.specs.Stepping.{is_fresh}
use Rattle.rules.proofs.Clauses.{after, settle, asks, front, falls}
use Rattle.rules.proofs.QueueingLaws.{queued-grows}
use Rattle.rules.proofs.ServeViews.{asks_view, falls_view}
use Rattle.rules.proofs.Settled.{stands_alone, stands_after}
use Rattle.rules.proofs.SettleViews.{after_ind}
use Rattle.rules.proofs.Views.{eqb_self}

-- asked in group g; at place i of group g's resolution queue
abbrev pub asks_in : ℕ → Condition → Bool
asks_in g Free = false
asks_in g (Held t) = false
asks_in g (Fresh t) = false
asks_in g (Asked h j t) = eqb h g
asks_in g (Resolving h i t) = false
asks_in g (Urgent i) = false
asks_in g (Long f l t) = false

abbrev pub stands_in : ℕ → ℕ → Condition → Bool
stands_in g i Free = false
stands_in g i (Held t) = false
stands_in g i (Fresh t) = false
stands_in g i (Asked h j t) = false
stands_in g i (Resolving h j t) = eqb h g && eqb j i
stands_in g i (Urgent j) = false
stands_in g i (Long f l t) = false

-- never both at once
pub record Parted (a b : Condition) : Type 0 where
  pub asked : (g : ℕ) → asks_in g a ≡ true → asks_in g b ≡ true → ⊥
  pub place : (g i : ℕ) → stands_in g i a ≡ true → stands_in g i b ≡ true → ⊥

-- ---- the test says so, both ways

pub no_true : false ≡ true → ⊥
no_true e = let z : ◌≡◌ {A = ℕ} 0 1 = cc in omega arith

not-both : (b : Bool) → not b ≡ true → b ≡ true → ⊥
not-both true e q = no_true e
not-both false e q = no_true q

and_parts : (a b : Bool) → (a && b) ≡ true → (a ≡ true) × (b ≡ true)
and_parts true b e = (refl, e)
and_parts false b e = absurd (no_true e)

asked-not : (g : ℕ) (b : Condition) → not_asked g b ≡ not (asks_in g b)
asked-not g Free = refl
asked-not g (Held t) = refl
asked-not g (Fresh t) = refl
asked-not g (Asked h j t) = refl
asked-not g (Resolving h i t) = refl
asked-not g (Urgent i) = refl
asked-not g (Long f l t) = refl

at-not : (g i : ℕ) (b : Condition) → not_at g i b ≡ not (stands_in g i b)
at-not g i Free = refl
at-not g i (Held t) = refl
at-not g i (Fresh t) = refl
at-not g i (Asked h j t) = refl
at-not g i (Resolving h j t) = refl
at-not g i (Urgent j) = refl
at-not g i (Long f l t) = refl

pub apart-parted : (a b : Condition) → records_apart a b ≡ true → Parted a b
unfolding records_apart
apart-parted Free b e = record { asked = λ g p q. no_true p; place = λ g i p q. no_true p }
apart-parted (Held t) b e = record { asked = λ g p q. no_true p; place = λ g i p q. no_true p }
apart-parted (Fresh t) b e = record { asked = λ g p q. no_true p; place = λ g i p q. no_true p }
apart-parted (Asked h j t) b e =
    record { asked = λ g p q. not-both (asks_in h b) (sym (asked-not h b) ∙ e) (ap (λ (x : ℕ). asks_in x b) (eqb-true h g p) ∙ q); place = λ g i p q. no_true p }
apart-parted (Resolving h j t) b e =
    record {
      asked = λ g p q. no_true p;
      place = λ g i p q.
          let (x, y) = and_parts (eqb h g) (eqb j i) p in
          not-both (stands_in h j b) (sym (at-not h j b) ∙ e) (ap (λ (z : ℕ). stands_in z j b) (eqb-true h g x) ∙ ap (λ (z : ℕ). stands_in g z b) (eqb-true j i y) ∙ q);
    }
apart-parted (Urgent i) b e = record { asked = λ g p q. no_true p; place = λ g j p q. no_true p }
apart-parted (Long f l t) b e = record { asked = λ g p q. no_true p; place = λ g i p q. no_true p }

refute : (b : Bool) → (b ≡ true → ⊥) → not b ≡ true
refute true h = absurd (h refl)
refute false h = refl

pub parted-apart : (a b : Condition) → Parted a b → records_apart a b ≡ true
unfolding records_apart
parted-apart Free b p = refl
parted-apart (Held t) b p = refl
parted-apart (Fresh t) b p = refl
parted-apart (Asked h j t) b p = asked-not h b ∙ refute (asks_in h b) (p.asked h (eqb_self h))
parted-apart (Resolving h j t) b p = at-not h j b ∙ refute (stands_in h j b) (p.place h j (rw (eqb_self h, eqb_self j)))
parted-apart (Urgent i) b p = refl
parted-apart (Long f l t) b p = refl

-- ---- step 1

module _ (b : Bool) (g : ℕ) where
  -- a newcomer of a resolution queue stands behind all that were there
  after-behind : (row : List Feedback) (n : Places) (j t o i : ℕ) → stands_in o i (after b g row n j t) ≡ true → n.resolution < i
  after-behind [] n j t o i e = absurd (no_true e)
  after-behind (f ∷ row) n zero t o i e = absurd (no_true e)
  after-behind (f ∷ row) n (suc zero) t o i e = here f e
    where
      alone : (b s : Bool) → stands_in o i (stands_alone b s n t) ≡ true → n.resolution < i
      alone true true e = absurd (no_true e)
      alone false true e = absurd (no_true e)
      alone true false e = absurd (no_true e)
      alone false false e = absurd (no_true e)

      here : (f : Feedback) → stands_in o i (stands_after b g n f t) ≡ true → n.resolution < i
      here Empty e = absurd (no_true e)
      here (Single x s) e = alone b (eqb s 1) e
      here Collide e =
          let w : n.resolution + 1 ≡ i = eqb-true (n.resolution + 1) i (and_parts (eqb g o) (eqb (n.resolution + 1) i) e).1 in
          omega arith
  after-behind (f ∷ row) n (suc (suc j)) t o i e =
      let w = after-behind row (queued b n f) (suc j) t o i e in
      let q = (queued-grows b n f).resolution in
      omega arith

  module _ (row : List Feedback) (n : Places) where
    pub settle-asks : (c : Condition) → asks_in g (settle b g row n c) ≡ false
    settle-asks Free = refl
    settle-asks (Held t) = refl
    settle-asks (Fresh t) = refl
    settle-asks (Asked h j t) = go (eqb h g) refl
      where
        go : (x : Bool) → eqb h g ≡ x → asks_in g (cond x (after b g row n j t) (Asked h j t)) ≡ false
        go true e = after_ind (λ (c : Condition). asks_in g c ≡ false) g t refl (λ x. refl) (λ x. refl) (λ x. refl) b row n j
        go false e = e
    settle-asks (Resolving h i t) = refl
    settle-asks (Urgent i) = refl
    settle-asks (Long f l t) = refl

    -- asked in another group, it was; at a place, it was, or it was asked in this group and stands behind all that were there
    settle-asked : (o : ℕ) (c : Condition) → asks_in o (settle b g row n c) ≡ true → asks_in o c ≡ true
    settle-asked o Free e = e
    settle-asked o (Held t) e = e
    settle-asked o (Fresh t) e = e
    settle-asked o (Asked h j t) e = go (eqb h g) e
      where
        go : (x : Bool) → asks_in o (cond x (after b g row n j t) (Asked h j t)) ≡ true → eqb h o ≡ true
        go true e = absurd (no_true (sym (after_ind (λ (c : Condition). asks_in o c ≡ false) g t refl (λ x. refl) (λ x. refl) (λ x. refl) b row n j) ∙ e))
        go false e = e
    settle-asked o (Resolving h i t) e = e
    settle-asked o (Urgent i) e = e
    settle-asked o (Long f l t) e = e

    settle-stands : (o i : ℕ) (c : Condition) → stands_in o i (settle b g row n c) ≡ true → (stands_in o i c ≡ true) ⊎ ((asks_in g c ≡ true) × (n.resolution < i) × (eqb g o ≡ true))
    settle-stands o i Free e = inl e
    settle-stands o i (Held t) e = inl e
    settle-stands o i (Fresh t) e = inl e
    settle-stands o i (Asked h j t) e = go (eqb h g) refl e
      where
        near : (x : Bool) → eqb g o ≡ x → stands_in o i (after b g row n j t) ≡ true → x ≡ true
        near true w e = refl
        near false w e =
            absurd (no_true (sym (after_ind (λ (c : Condition). stands_in o i c ≡ false) g t refl (λ x. refl) (λ x. refl) (λ x. rw w) b row n j) ∙ e))

        go : (x : Bool) → eqb h g ≡ x → stands_in o i (cond x (after b g row n j t) (Asked h j t)) ≡ true → (stands_in o i (Asked h j t) ≡ true) ⊎ ((asks_in g (Asked h j t) ≡ true) × (n.resolution < i) × (eqb g o ≡ true))
        go true w e = inr (w, after-behind row n j t o i e, near (eqb g o) refl e)
        go false w e = inl e
    settle-stands o i (Resolving h j t) e = inl e
    settle-stands o i (Urgent j) e = inl e
    settle-stands o i (Long f l t) e = inl e

    -- the places before step 1 are within the queue
    abbrev pub Bounded : Condition → Type 0
    Bounded c = (i : ℕ) → stands_in g i c ≡ true → i ≤ n.resolution

    pub settle-parted : (x y : Condition) → Bounded x → Bounded y → Parted x y → Parted (settle b g row n x) (settle b g row n y)
    settle-parted x y bx by p =
        record {
          asked = λ o u v. p.asked o (settle-asked o x u) (settle-asked o y v);
          place = λ o i u v. go o i (settle-stands o i x u) (settle-stands o i y v);
        }
      where
        go : (o i : ℕ) → (stands_in o i x ≡ true) ⊎ ((asks_in g x ≡ true) × (n.resolution < i) × (eqb g o ≡ true))
            → (stands_in o i y ≡ true) ⊎ ((asks_in g y ≡ true) × (n.resolution < i) × (eqb g o ≡ true)) → ⊥
        go o i (inl u) (inl v) = p.place o i u v
        go o i (inl u) (inr (v, w, e)) = let q = bx i (ap (λ (z : ℕ). stands_in z i x) (eqb-true g o e) ∙ u) in omega arith
        go o i (inr (u, w, e)) (inl v) = let q = by i (ap (λ (z : ℕ). stands_in z i y) (eqb-true g o e) ∙ v) in omega arith
        go o i (inr (u, w, e)) (inr (v, z, f)) = p.asked g u v

-- ---- step 3 and RQ's part of step 5

-- the place before step 3 of what stands at place i after it
abbrev above : ℕ → ℕ → ℕ
above zero i = i
above (suc r) zero = zero
above (suc r) (suc i) = suc (suc i)

module _ (g j : ℕ) where
  -- who is asked in the group now was fresh and not held back, or stood at place 1
  asks-asked : (b : Bool) (r : ℕ) (c : Condition) → asks_in g c ≡ false → asks_in g (asks b r g j c) ≡ true
      → ((r ≡ 0) × (is_fresh c ≡ true) × (b ≡ false)) ⊎ ((1 ≤ r) × (stands_in g 1 c ≡ true))
  asks-asked b zero Free n e = absurd (no_true e)
  asks-asked b zero (Held t) n e = absurd (no_true e)
  asks-asked true zero (Fresh t) n e = absurd (no_true e)
  asks-asked false zero (Fresh t) n e = inl (refl, refl, refl)
  asks-asked b zero (Asked h i t) n e = absurd (no_true (sym n ∙ e))
  asks-asked b zero (Resolving h i t) n e = absurd (no_true e)
  asks-asked b zero (Urgent i) n e = absurd (no_true e)
  asks-asked b zero (Long f l t) n e = absurd (no_true e)
  asks-asked b (suc r) Free n e = absurd (no_true e)
  asks-asked b (suc r) (Held t) n e = absurd (no_true e)
  asks-asked b (suc r) (Fresh t) n e = absurd (no_true e)
  asks-asked b (suc r) (Asked h i t) n e = absurd (no_true (sym n ∙ e))
  asks-asked b (suc r) (Resolving h i t) n e = go (eqb h g) i e
    where
      go : (x : Bool) (i : ℕ) → asks_in g (front x g j h i t) ≡ true → ((suc r ≡ 0) × (false ≡ true) × (b ≡ false)) ⊎ ((1 ≤ suc r) × ((x && eqb i 1) ≡ true))
      go false i e = absurd (no_true e)
      go true zero e = absurd (no_true e)
      go true (suc zero) e = inr (omega arith, refl)
      go true (suc (suc i)) e = absurd (no_true e)
  asks-asked b (suc r) (Urgent i) n e = absurd (no_true e)
  asks-asked b (suc r) (Long f l t) n e = absurd (no_true e)

  asks-stands : (b : Bool) (r : ℕ) (c : Condition) (i : ℕ) → stands_in g i (asks b r g j c) ≡ true → stands_in g (above r i) c ≡ true
  asks-stands b zero Free i e = e
  asks-stands b zero (Held t) i e = e
  asks-stands true zero (Fresh t) i e = e
  asks-stands false zero (Fresh t) i e = e
  asks-stands b zero (Asked h k t) i e = e
  asks-stands b zero (Resolving h k t) i e = e
  asks-stands b zero (Urgent k) i e = e
  asks-stands b zero (Long f l t) i e = e
  asks-stands b (suc r) Free i e = absurd (no_true e)
  asks-stands b (suc r) (Held t) i e = absurd (no_true e)
  asks-stands b (suc r) (Fresh t) i e = absurd (no_true e)
  asks-stands b (suc r) (Asked h k t) i e = absurd (no_true e)
  asks-stands b (suc r) (Resolving h k t) i e = go (eqb h g) refl k i e
    where
      go : (x : Bool) → eqb h g ≡ x → (k i : ℕ) → stands_in g i (front x g j h k t) ≡ true → (x && eqb k (above (suc r) i)) ≡ true
      go false w k i e = absurd (no_true (rw w at e))
      go true w zero zero e = refl
      go true w zero (suc i) e = absurd (no_true (rw (w, ne_eqb zero (suc i) (λ q. omega arith)) at e))
      go true w (suc zero) i e = absurd (no_true e)
      go true w (suc (suc k)) zero e = absurd (no_true (rw (w, ne_eqb (suc k) zero (λ q. omega arith)) at e))
      go true w (suc (suc k)) (suc i) e =
          let z : suc k ≡ suc i = eqb-true (suc k) (suc i) (and_parts (eqb h g) (eqb (suc k) (suc i)) e).1 in
          ap (λ (n : ℕ). eqb (suc n) (suc (suc i))) z ∙ eqb_self (suc (suc i))
  asks-stands b (suc r) (Urgent k) i e = absurd (no_true e)
  asks-stands b (suc r) (Long f l t) i e = absurd (no_true e)

  asks-parted : (r : ℕ) (x y : Condition) → asks_in g x ≡ false → asks_in g y ≡ false → Parted x y → Parted (asks false r g j x) (asks (is_fresh x) r g j y)
  asks-parted r x y nx ny p = record { asked = λ o u v. at-asked o (eqb o g) refl u v; place = λ o i u v. at_place o i (eqb o g) refl u v }
    where
      far : (o : ℕ) → eqb o g ≡ false → eqb g o ≡ false
      far o e = ne_eqb g o (λ w. eqb-false o g e (sym w))

      asks-far : (o : ℕ) → eqb o g ≡ false → (b : Bool) (c : Condition) → asks_in o (asks b r g j c) ≡ asks_in o c
      asks-far o e b c = asks_view g j (asks_in o) (λ t. far o e) (λ h t w. far o e) (λ h i t w. refl) b r c

      stands-far : (o i : ℕ) → eqb o g ≡ false → (b : Bool) (c : Condition) → stands_in o i (asks b r g j c) ≡ stands_in o i c
      stands-far o i e b c =
          asks_view g j (stands_in o i) (λ t. refl) (λ h t w. rw (eqb-true h g w, far o e)) (λ h k t w. rw (eqb-true h g w, far o e)) b r c

      both : ((r ≡ 0) × (is_fresh x ≡ true) × (false ≡ false)) ⊎ ((1 ≤ r) × (stands_in g 1 x ≡ true))
          → ((r ≡ 0) × (is_fresh y ≡ true) × (is_fresh x ≡ false)) ⊎ ((1 ≤ r) × (stands_in g 1 y ≡ true)) → ⊥
      both (inl (z, f, q)) (inl (w, h, n)) = no_true (sym n ∙ f)
      both (inl (z, f, q)) (inr (l, s)) = omega arith
      both (inr (l, s)) (inl (z, f, q)) = omega arith
      both (inr (l, s)) (inr (k, u)) = p.place g 1 s u

      at-asked : (o : ℕ) (b : Bool) → eqb o g ≡ b → asks_in o (asks false r g j x) ≡ true → asks_in o (asks (is_fresh x) r g j y) ≡ true → ⊥
      at-asked o true e u v =
          let q : o ≡ g = eqb-true o g e in
          both (asks-asked false r x nx (ap (λ (z : ℕ). asks_in z (asks false r g j x)) (sym q) ∙ u))
          (asks-asked (is_fresh x) r y ny (ap (λ (z : ℕ). asks_in z (asks (is_fresh x) r g j y)) (sym q) ∙ v))
      at-asked o false e u v = p.asked o (sym (asks-far o e false x) ∙ u) (sym (asks-far o e (is_fresh x) y) ∙ v)

      at_place : (o i : ℕ) (b : Bool) → eqb o g ≡ b → stands_in o i (asks false r g j x) ≡ true → stands_in o i (asks (is_fresh x) r g j y) ≡ true → ⊥
      at_place o i true e u v =
          let q : o ≡ g = eqb-true o g e in
          p.place g (above r i) (asks-stands false r x i (ap (λ (z : ℕ). stands_in z i (asks false r g j x)) (sym q) ∙ u))
          (asks-stands (is_fresh x) r y i (ap (λ (z : ℕ). stands_in z i (asks (is_fresh x) r g j y)) (sym q) ∙ v))
      at_place o i false e u v = p.place o i (sym (stands-far o i e false x) ∙ u) (sym (stands-far o i e (is_fresh x) y) ∙ v)

-- ---- steps 4 and 5 of the transmission queues

falls-parted : (h n : ℕ) (x y : Condition) → Parted x y → Parted (falls h n x) (falls h n y)
falls-parted h n x y p =
    record {
      asked = λ g u v. p.asked g (sym (falls_view (asks_in g) (λ i. refl) (λ f l t. refl) h n x) ∙ u) (sym (falls_view (asks_in g) (λ i. refl) (λ f l t. refl) h n y) ∙ v);
      place = λ g i u v. p.place g i (sym (falls_view (stands_in g i) (λ i. refl) (λ f l t. refl) h n x) ∙ u) (sym (falls_view (stands_in g i) (λ i. refl) (λ f l t. refl) h n y) ∙ v);
    }

pub fresh-settled : (b : Bool) (g : ℕ) (row : List Feedback) (n : Places) (c : Condition) → is_fresh (settle b g row n c) ≡ is_fresh c
fresh-settled b g row n Free = refl
fresh-settled b g row n (Held t) = refl
fresh-settled b g row n (Fresh t) = refl
fresh-settled b g row n (Asked h j t) = go (eqb h g)
  where
    go : (x : Bool) → is_fresh (cond x (after b g row n j t) (Asked h j t)) ≡ false
    go true = after_ind (λ (c : Condition). is_fresh c ≡ false) g t refl (λ x. refl) (λ x. refl) (λ x. refl) b row n j
    go false = refl
fresh-settled b g row n (Resolving h i t) = refl
fresh-settled b g row n (Urgent i) = refl
fresh-settled b g row n (Long f l t) = refl

-- ---- ONE SLOT: x is the short record's condition before it, y the long one's

pub slot_apart : (b : Bool) (g : ℕ) (row : List Feedback) (n : Places) (r j h l : ℕ) (x y : Condition)
    → ((i : ℕ) → stands_in g i x ≡ true → i ≤ n.resolution) → ((i : ℕ) → stands_in g i y ≡ true → i ≤ n.resolution) → records_apart x y ≡ true
    → records_apart (falls h l (asks false r g j (settle b g row n x))) (falls h l (asks (is_fresh x) r g j (settle b g row n y))) ≡ true
slot_apart b g row n r j h l x y bx by e =
    parted-apart (falls h l (asks false r g j (settle b g row n x))) (falls h l (asks (is_fresh x) r g j (settle b g row n y)))
    (falls-parted h l (asks false r g j (settle b g row n x)) (asks (is_fresh x) r g j (settle b g row n y))
    (rw (← (fresh-settled b g row n x))
    (asks-parted g j r (settle b g row n x) (settle b g row n y) (settle-asks b g row n x) (settle-asks b g row n y)
    (settle-parted b g row n x y bx by (apart-parted x y e)))))
