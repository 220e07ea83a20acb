-- What the answer of the reader of one field tells of the part that it read, and where the next part begins.
-- Assumes nothing.
use Rattle.std.specs.Prelude.{Option, Some, None}
use mathlib.Core.Bool.{Bool, true, false, cond, true≢false, false≢true}
use mathlib.Core.Path.{◌≡◌, refl, ap, ◌∙◌}
use mathlib.Core.List.{List, [], ◌∷◌}
use Prim.Native.Nat.{ℕ, suc, ◌+◌}
use native.Mathlib.Omega.{arith}
use lib.Dec.{eqb}
use lib.ListN.{length, drop}
use lib.Seq.{drop-drop}
use Rattle.fields.specs.Fields.{onto, parts, is_field, numeral}
use Rattle.fields.specs.Steps.{none, field_of}
use Rattle.fields.specs.declared.Field.{Field}

pub none_true : {A : Type 0} (l : List A) → none l ≡ true → l ≡ []
unfolding none
none_true [] e = refl
none_true (x ∷ l) e = absurd (false≢true e)

-- The parts after a comma. A byte in front moves the comma one place further.
next-onto : (b : ℕ) (l p : List ℕ) (qs ps : List (List ℕ)) → ((p' : List ℕ) → ps ≡ p' ∷ qs → parts (drop (length p' + 1) l) ≡ qs)
    → onto b ps ≡ p ∷ qs → none qs ≡ false → parts (drop (length p + 1) (b ∷ l)) ≡ qs
unfolding onto none
next-onto b l p qs [] ih e n = let z : ◌≡◌ {A = Bool} true false = cc in absurd (true≢false z)
next-onto b l p qs (p' ∷ ps) ih e n =
    let f : p ≡ b ∷ p' = cc in
    let k : suc (length p') + 1 ≡ suc (length p' + 1) = omega arith in
    rw (f, k) (ih p' (cc))

next-cond : (t : Bool) (b : ℕ) (l p : List ℕ) (qs : List (List ℕ)) → ((p' : List ℕ) → parts l ≡ p' ∷ qs → parts (drop (length p' + 1) l) ≡ qs)
    → cond t ([] ∷ parts l) (onto b (parts l)) ≡ p ∷ qs → none qs ≡ false → parts (drop (length p + 1) (b ∷ l)) ≡ qs
next-cond true b l p qs ih e n = let f : p ≡ [] = cc in rw f (cc)
next-cond false b l p qs ih e n = next-onto b l p qs (parts l) ih e n

next-parts : (l p : List ℕ) (qs : List (List ℕ)) → parts l ≡ p ∷ qs → none qs ≡ false → parts (drop (length p + 1) l) ≡ qs
unfolding parts none
next-parts [] p qs e n = let z : ◌≡◌ {A = Bool} true false = cc in absurd (true≢false z)
next-parts (b ∷ l) p qs e n = next-cond (eqb b 44) b l p qs (λ p' h. next-parts l p' qs h n) e n

pub parts-after : (l : List ℕ) (at : ℕ) (p : List ℕ) (qs : List (List ℕ)) → parts (drop at l) ≡ p ∷ qs → none qs ≡ false
    → parts (drop (at + length p + 1) l) ≡ qs
parts-after l at p qs e n =
    let k : at + length p + 1 ≡ at + (length p + 1) = omega arith in
    rw (k, ← drop-drop) (next-parts (drop at l) p qs e n)

-- a field was read: the first part is one
pub record Read (at : ℕ) (ps : List (List ℕ)) (v n : ℕ) (last : Bool) : Type 0 where
  pub part : List ℕ
  pub rest : List (List ℕ)
  pub these : ps ≡ part ∷ rest
  pub good : is_field part ≡ true
  pub value : numeral part ≡ v
  pub next : at + length part + 1 ≡ n
  pub ends : none rest ≡ last

pub was_read : (at : ℕ) (ps : List (List ℕ)) (f : Field) → field_of at ps ≡ Some f → Read at ps f.value f.next f.last
unfolding field_of
was_read at [] f e = cc
was_read at (p ∷ ps) f e = go (is_field p) refl e
  where
    go : (t : Bool) → is_field p ≡ t → cond {A = Option Field} t (Some (record { value = numeral p; next = at + length p + 1; last = none ps })) None ≡ Some f
        → Read at (p ∷ ps) f.value f.next f.last
    go true g h =
        let k : ◌≡◌ {A = Field} (record { value = numeral p; next = at + length p + 1; last = none ps }) f = cc in
        record { part = p; rest = ps; these = refl; good = g; value = ap (λ (x : Field). x.value) k; next = ap (λ (x : Field). x.next) k; ends = ap (λ (x : Field). x.last) k }
    go false g h = cc

-- no field was read: the first part, if there is one, is none
pub unread : (at : ℕ) (p : List ℕ) (ps : List (List ℕ)) → field_of at (p ∷ ps) ≡ None → is_field p ≡ false
unfolding field_of
unread at p ps e = go (is_field p) refl e
  where
    go : (t : Bool) → is_field p ≡ t → cond {A = Option Field} t (Some (record { value = numeral p; next = at + length p + 1; last = none ps })) None ≡ None → is_field p ≡ false
    go true f h = cc
    go false f h = f

-- where more parts come, they begin at the next place of the bytes
module _ (bytes : List ℕ) {at v n : ℕ} {last : Bool} (r : Read at (parts (drop at bytes)) v n last) (more : last ≡ false) where
  pub rest-next : parts (drop n bytes) ≡ r.rest
  rest-next = rw (← r.next) (parts-after bytes at r.part r.rest r.these (r.ends ∙ more))
