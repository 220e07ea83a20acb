-- The ways of the reader of the first record, each a case of `first_of`.
-- Assumes nothing.
use Rattle.std.specs.Prelude.{Option, Some, None}
use mathlib.Core.Bool.{Bool, true, false, cond, and-false, true≢false}
use mathlib.Core.Path.{◌≡◌, refl, ap, sym, ◌∙◌}
use mathlib.Core.List.{List, [], ◌∷◌, map}
use Prim.Native.Nat.{ℕ, ◌<◌, ◌≤◌}
use borrow.Author.Tests.{le-leb, lt-leb}
use lib.ListN.{length, drop}
use Rattle.fields.specs.Fields.{parts, every, is_field, numeral, well_formed, fields_of}
use Rattle.fields.specs.Steps.{none, field_of}
use Rattle.fields.specs.First.{two_of, first_of}
use Rattle.fields.specs.declared.First.{First}
use Rattle.fields.proofs.FieldReads.{Read, none_true, unread, rest-next}

cond_same : {A : Type 0} (t : Bool) (x : A) → cond t x x ≡ x
cond_same true x = refl
cond_same false x = refl

-- the answer, by the parts of a record that is not too long
first_from : List (List ℕ) → Option First
first_from ps = cond (every is_field ps) (two_of (map numeral ps)) None

short : (bytes : List ℕ) → length bytes ≤ 128 → first_of bytes ≡ first_from (parts bytes)
unfolding first_of first_from well_formed fields_of
short bytes h = rw (le-leb (length bytes) 128 h)

from-unread : (at : ℕ) (ps : List (List ℕ)) → field_of at ps ≡ None → first_from ps ≡ None
unfolding first_from two_of every
from-unread at [] e = refl
from-unread at (p ∷ ps) e = rw (unread at p ps e)

from_one : (p : List ℕ) → first_from (p ∷ []) ≡ None
unfolding first_from two_of
from_one p = cond_same (every is_field (p ∷ [])) None

from-half : (at : ℕ) (p : List ℕ) (qs : List (List ℕ)) → none qs ≡ false → field_of at qs ≡ None → first_from (p ∷ qs) ≡ None
unfolding first_from every none
from-half at p [] h e = absurd (true≢false h)
from-half at p (q ∷ qs) h e = rw (unread at q qs e, and-false (is_field p))

from-two : (p q : List ℕ) → is_field p ≡ true → is_field q ≡ true → first_from (p ∷ q ∷ []) ≡ Some (record { m = numeral p; n = numeral q })
unfolding first_from two_of every
from-two p q e f = rw (e, f)

from-many : (p q : List ℕ) (rs : List (List ℕ)) → none rs ≡ false → first_from (p ∷ q ∷ rs) ≡ None
unfolding first_from two_of none
from-many p q [] h = absurd (true≢false h)
from-many p q (r ∷ rs) h = cond_same (every is_field (p ∷ q ∷ r ∷ rs)) None

module _ (bytes : List ℕ) where
  pub first-long : 128 < length bytes → first_of bytes ≡ None
  unfolding first_of well_formed
  first-long h = rw (lt-leb (length bytes) 128 h)

  pub first-unread : length bytes ≤ 128 → field_of 0 (parts bytes) ≡ None → first_of bytes ≡ None
  first-unread h e = short bytes h ∙ from-unread 0 (parts bytes) e

  module _ {m n : ℕ} {last : Bool} (h : length bytes ≤ 128) (r : Read 0 (parts bytes) m n last) where
    pub first_one : last ≡ true → first_of bytes ≡ None
    first_one e = short bytes h ∙ rw (r.these, none_true r.rest (r.ends ∙ e)) (from_one r.part)

    module _ (more : last ≡ false) where
      pub first-half : field_of n (parts (drop n bytes)) ≡ None → first_of bytes ≡ None
      first-half e = short bytes h ∙ rw r.these (from-half n r.part r.rest (r.ends ∙ more) (rw (rest-next bytes r more) at e))

      module _ {k after : ℕ} {done : Bool} (q : Read n (parts (drop n bytes)) k after done) where
        two-parts : parts bytes ≡ r.part ∷ q.part ∷ q.rest
        two-parts = r.these ∙ ap (λ (l : List (List ℕ)). r.part ∷ l) (sym (rest-next bytes r more) ∙ q.these)

        pub first_two : done ≡ true → first_of bytes ≡ Some (record { m = m; n = k })
        first_two e = short bytes h ∙ rw (two-parts, none_true q.rest (q.ends ∙ e), ← r.value, ← q.value) (from-two r.part q.part r.good q.good)

        pub first-many : done ≡ false → first_of bytes ≡ None
        first-many e = short bytes h ∙ rw two-parts (from-many r.part q.part q.rest (q.ends ∙ e))
