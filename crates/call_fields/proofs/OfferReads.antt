-- The ways of the reader of an offer's numbers, each a case of `offer_in`: by the parts alone, and then by what was read of the bytes.
-- Assumes nothing.
use Rattle.std.specs.Prelude.{Some, None}
use mathlib.Core.Bool.{Bool, true, false, and-false, true≢false}
use mathlib.Core.Path.{◌≡◌, refl, ap, sym, ◌∙◌}
use mathlib.Core.List.{List, [], ◌∷◌}
use Prim.Native.Nat.{ℕ, ◌<◌, ◌≤◌}
use borrow.Author.Tests.{le-leb, lt-leb}
use lib.ListN.{drop}
use Rattle.fields.specs.Fields.{parts, is_field, numeral}
use Rattle.fields.specs.Steps.{none, field_of}
use Rattle.fields.proofs.FieldReads.{Read, none_true, unread, rest-next}
use Rattle.number_lists.specs.NumberList.{is_number}
use Rattle.call_fields.specs.CallFields.{offer_in}

-- a part that is no field is no number, nor is one above the limit; any other is one
pub not_field : (most : ℕ) (p : List ℕ) → is_field p ≡ false → is_number most p ≡ false
unfolding is_number
not_field most p e = rw e

pub not_within : (most : ℕ) (p : List ℕ) → most < numeral p → is_number most p ≡ false
unfolding is_number
not_within most p h = rw (lt-leb (numeral p) most h, and-false (is_field p))

pub is_within : (most : ℕ) (p : List ℕ) → is_field p ≡ true → numeral p ≤ most → is_number most p ≡ true
unfolding is_number
is_within most p e h = rw (e, le-leb (numeral p) most h)

-- the first part is no index
bad-index : (p : List ℕ) (qs : List (List ℕ)) → is_number 65535 p ≡ false → offer_in (p ∷ qs) ≡ None
unfolding offer_in
bad-index p [] e = refl
bad-index p (q ∷ []) e = rw e
bad-index p (q ∷ r ∷ qs) e = refl

pub offer-unread : (at : ℕ) (ps : List (List ℕ)) → field_of at ps ≡ None → offer_in ps ≡ None
unfolding offer_in
offer-unread at [] e = refl
offer-unread at (p ∷ ps) e = bad-index p ps (not_field 65535 p (unread at p ps e))

-- the second part is no number, or there are more than two
bad_bytes : (at : ℕ) (p : List ℕ) (qs : List (List ℕ)) → none qs ≡ false → field_of at qs ≡ None → offer_in (p ∷ qs) ≡ None
unfolding offer_in none
bad_bytes at p [] n e = absurd (true≢false n)
bad_bytes at p (q ∷ []) n e = rw (unread at q [] e, and-false (is_number 65535 p))
bad_bytes at p (q ∷ r ∷ qs) n e = refl

too_many : (p q : List ℕ) (rs : List (List ℕ)) → none rs ≡ false → offer_in (p ∷ q ∷ rs) ≡ None
unfolding offer_in none
too_many p q [] n = absurd (true≢false n)
too_many p q (r ∷ rs) n = refl

both : (p q : List ℕ) → is_number 65535 p ≡ true → is_field q ≡ true → offer_in (p ∷ q ∷ []) ≡ Some (record { index = numeral p; bytes = numeral q })
unfolding offer_in
both p q e f = rw (e, f)

-- the first was read
module _ (bytes : List ℕ) {at index next : ℕ} {last : Bool} (r : Read at (parts (drop at bytes)) index next last) where
  pub offer-one : last ≡ true → offer_in (parts (drop at bytes)) ≡ None
  unfolding offer_in
  offer-one e = rw (r.these, none_true r.rest (r.ends ∙ e))

  pub offer-high : 65535 < index → offer_in (parts (drop at bytes)) ≡ None
  offer-high h = rw r.these (bad-index r.part r.rest (not_within 65535 r.part (rw r.value h)))

  module _ (more : last ≡ false) where
    pub offer-half : field_of next (parts (drop next bytes)) ≡ None → offer_in (parts (drop at bytes)) ≡ None
    offer-half e = rw r.these (bad_bytes next r.part r.rest (r.ends ∙ more) (rw (rest-next bytes r more) at e))

    -- and the second
    module _ {size after : ℕ} {done : Bool} (q : Read next (parts (drop next bytes)) size after done) where
      pub two-parts : parts (drop at bytes) ≡ r.part ∷ q.part ∷ q.rest
      two-parts = r.these ∙ ap (λ (l : List (List ℕ)). r.part ∷ l) (sym (rest-next bytes r more) ∙ q.these)

      pub offer-two : index ≤ 65535 → done ≡ true → offer_in (parts (drop at bytes)) ≡ Some (record { index = index; bytes = size })
      offer-two h e =
          rw (two-parts, none_true q.rest (q.ends ∙ e), ← r.value, ← q.value)
          (both r.part q.part (is_within 65535 r.part r.good (rw r.value h)) q.good)

      pub offer-many : done ≡ false → offer_in (parts (drop at bytes)) ≡ None
      offer-many e = rw two-parts (too_many r.part q.part q.rest (q.ends ∙ e))
