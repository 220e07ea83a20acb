-- The ways of the reader of the slots asked about, each a case of `coming_in`: by the parts alone, and then by what was read of the bytes.
-- Assumes nothing.
use Rattle.std.specs.Prelude.{Some, None}
use mathlib.Core.Bool.{Bool, true, false, true≢false}
use mathlib.Core.Path.{◌≡◌, refl, ◌∙◌}
use mathlib.Core.List.{List, [], ◌∷◌}
use Prim.Native.Nat.{ℕ, ◌<◌, ◌≤◌}
use Rattle.fields.specs.Steps.{none, field_of}
use Rattle.fields.proofs.FieldReads.{Read, none_true, unread}
use Rattle.number_lists.specs.NumberList.{is_number}
use Rattle.call_fields.proofs.OfferReads.{not_field, not_within, is_within}
use Rattle.coming_fields.specs.ComingFields.{coming_in}

-- the first part is no number that fits
bad-number : (p : List ℕ) (qs : List (List ℕ)) → is_number 65535 p ≡ false → coming_in (p ∷ qs) ≡ None
unfolding coming_in
bad-number p [] e = rw e
bad-number p (q ∷ qs) e = refl

pub coming-unread : (at : ℕ) (ps : List (List ℕ)) → field_of at ps ≡ None → coming_in ps ≡ None
unfolding coming_in
coming-unread at [] e = refl
coming-unread at (p ∷ ps) e = bad-number p ps (not_field 65535 p (unread at p ps e))

more_parts : (p : List ℕ) (qs : List (List ℕ)) → none qs ≡ false → coming_in (p ∷ qs) ≡ None
unfolding coming_in none
more_parts p [] n = absurd (true≢false n)
more_parts p (q ∷ qs) n = refl

-- the first was read
module _ (ps : List (List ℕ)) {at w next : ℕ} {last : Bool} (r : Read at ps w next last) where
  pub coming-high : 65535 < w → coming_in ps ≡ None
  coming-high h = rw r.these (bad-number r.part r.rest (not_within 65535 r.part (rw r.value h)))

  pub coming-one : w ≤ 65535 → last ≡ true → coming_in ps ≡ Some w
  unfolding coming_in
  coming-one h e =
      rw (r.these, none_true r.rest (r.ends ∙ e), ← r.value, is_within 65535 r.part r.good (rw r.value h))

  pub coming-many : last ≡ false → coming_in ps ≡ None
  coming-many e = rw r.these (more_parts r.part r.rest (r.ends ∙ e))
