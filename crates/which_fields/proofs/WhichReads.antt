-- The ways of the reader of an index and a record's name, each a case of `which_in`: by the parts alone, and then by what was read of the bytes.
-- Assumes nothing.
use Rattle.std.specs.Prelude.{None}
use mathlib.Core.Bool.{Bool, true, false}
use mathlib.Core.Path.{◌≡◌, refl, sym, ◌∙◌}
use mathlib.Core.List.{List, [], ◌∷◌}
use Prim.Native.Nat.{ℕ, ◌<◌, ◌≤◌}
use native.Mathlib.Omega.{arith}
use lib.ListN.{length, drop, length-drop}
use Rattle.fields.specs.Fields.{onto, parts, numeral}
use Rattle.fields.specs.Steps.{field_of}
use Rattle.fields.proofs.FieldReads.{Read, none_true, unread, rest-next}
use Rattle.number_lists.specs.NumberList.{is_number}
use Rattle.call_fields.proofs.OfferReads.{not_field, not_within, is_within}
use Rattle.which_fields.specs.WhichFields.{short_name, long_name, named, which_in}
use Rattle.which_fields.proofs.WholePart.{Parted, parted, first-shorter, not-word}

-- the first part is no index
bad-index : (p : List ℕ) (qs : List (List ℕ)) → is_number 65535 p ≡ false → which_in (p ∷ qs) ≡ None
unfolding which_in
bad-index p [] e = refl
bad-index p (q ∷ []) e = rw e
bad-index p (q ∷ r ∷ qs) e = refl

pub which-unread : (at : ℕ) (ps : List (List ℕ)) → field_of at ps ≡ None → which_in ps ≡ None
unfolding which_in
which-unread at [] e = refl
which-unread at (p ∷ ps) e = bad-index p ps (not_field 65535 p (unread at p ps e))

-- the names have no comma, so a list of two parts or more is none of them
short-part : parts short_name ≡ short_name ∷ []
unfolding parts onto
short-part = refl

long-part : parts long_name ≡ long_name ∷ []
unfolding parts onto
long-part = refl

no_name : (index : ℕ) (l p q : List ℕ) (qs : List (List ℕ)) → parts l ≡ p ∷ q ∷ qs → named index l ≡ None
unfolding named
no_name index l p q qs e = rw (not-word short_name l p q qs short-part e, not-word long_name l p q qs long-part e)

-- all that stands after the index is the name
name_after : (p l : List ℕ) → is_number 65535 p ≡ true → which_in (p ∷ parts l) ≡ named (numeral p) l
unfolding which_in
name_after p l i = go (parts l) refl (parted l)
  where
    go : (qs : List (List ℕ)) → parts l ≡ qs → Parted l qs → which_in (p ∷ qs) ≡ named (numeral p) l
    go [] e h = absurd h
    go (q ∷ []) e h = rw (i, h)
    go (q ∷ r ∷ qs) e h = sym (no_name (numeral p) l q r qs e)

-- the index was read
module _ (bytes : List ℕ) {at index next : ℕ} {last : Bool} (r : Read at (parts (drop at bytes)) index next last) where
  pub which-one : last ≡ true → which_in (parts (drop at bytes)) ≡ None
  unfolding which_in
  which-one e = rw (r.these, none_true r.rest (r.ends ∙ e))

  pub which-high : 65535 < index → which_in (parts (drop at bytes)) ≡ None
  which-high h = rw r.these (bad-index r.part r.rest (not_within 65535 r.part (rw r.value h)))

  module _ (more : last ≡ false) where
    -- the place after the comma is within the bytes
    pub next-within : next ≤ length bytes
    next-within =
        let s = first-shorter (drop at bytes) r.part r.rest r.these (r.ends ∙ more) in
        let n = r.next in
        omega (arith, rw length-drop at s)

    pub which-two : index ≤ 65535 → which_in (parts (drop at bytes)) ≡ named index (drop next bytes)
    which-two h =
        rw (r.these, ← rest-next bytes r more, ← r.value)
        (name_after r.part (drop next bytes) (is_within 65535 r.part r.good (rw r.value h)))
