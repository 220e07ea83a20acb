-- The ways of the reader of a start's numbers, each a case of `start_in`: by the parts alone, and then by what was read of the bytes.
-- Assumes nothing.
use Rattle.std.specs.Prelude.{Option, Some, None, IfSome}
use mathlib.Core.Bool.{Bool, true, false, cond, ◌&&◌, and-false, true≢false}
use mathlib.Core.Path.{◌≡◌, refl, ap, sym, ◌∙◌}
use mathlib.Core.List.{List, [], ◌∷◌}
use Prim.Native.Nat.{ℕ, ◌<◌, ◌≤◌}
use lib.ListN.{length, drop}
use Rattle.fields.specs.Fields.{parts, every, numeral}
use Rattle.fields.specs.Steps.{none, field_of}
use Rattle.fields.proofs.FieldReads.{Read, none_true, unread, rest-next}
use Rattle.number_lists.specs.declared.NumberList.{NumberList}
use Rattle.number_lists.specs.NumberList.{is_number, list_with, list_of}
use Rattle.number_lists.proofs.ListLaws.{list-few, list-good}
use Rattle.call_fields.specs.declared.StartFields.{StartFields}
use Rattle.call_fields.specs.CallFields.{start_with, start_in}
use Rattle.call_fields.proofs.OfferReads.{not_field, not_within, is_within, two-parts}

-- m is no number, or n is none
bad-first : (p : List ℕ) (qs : List (List ℕ)) → is_number 255 p ≡ false → start_in (p ∷ qs) ≡ None
unfolding start_in
bad-first p [] e = refl
bad-first p (q ∷ qs) e = rw e

bad-second : (p q : List ℕ) (qs : List (List ℕ)) → is_number 255 q ≡ false → start_in (p ∷ q ∷ qs) ≡ None
unfolding start_in
bad-second p q qs e = rw (e, and-false (is_number 255 p))

pub start-unread : (at : ℕ) (ps : List (List ℕ)) → field_of at ps ≡ None → start_in ps ≡ None
unfolding start_in
start-unread at [] e = refl
start-unread at (p ∷ ps) e = bad-first p ps (not_field 255 p (unread at p ps e))

bad-half : (at : ℕ) (p : List ℕ) (qs : List (List ℕ)) → none qs ≡ false → field_of at qs ≡ None → start_in (p ∷ qs) ≡ None
unfolding none
bad-half at p [] n e = absurd (true≢false n)
bad-half at p (q ∷ qs) n e = bad-second p q qs (not_field 255 q (unread at q qs e))

-- no number after n: there are no indexes
none-listed : list_of 65535 [] ≡ Some (list_with [])
unfolding list_of every
none-listed = refl

-- the first was read
module _ (bytes : List ℕ) {m next : ℕ} {last : Bool} (r : Read 0 (parts bytes) m next last) where
  pub start-one : last ≡ true → start_in (parts bytes) ≡ None
  unfolding start_in
  start-one e = rw (r.these, none_true r.rest (r.ends ∙ e))

  pub start-high : 255 < m → start_in (parts bytes) ≡ None
  start-high h = rw r.these (bad-first r.part r.rest (not_within 255 r.part (rw r.value h)))

  module _ (more : last ≡ false) where
    pub start-half : field_of next (parts (drop next bytes)) ≡ None → start_in (parts bytes) ≡ None
    start-half e = rw r.these (bad-half next r.part r.rest (r.ends ∙ more) (rw (rest-next bytes r more) at e))

    -- and the second
    module _ {n after : ℕ} {done : Bool} (q : Read next (parts (drop next bytes)) n after done) where
      both-parts : parts bytes ≡ r.part ∷ q.part ∷ q.rest
      both-parts = two-parts bytes r more q

      pub start-many : 255 < n → start_in (parts bytes) ≡ None
      start-many h = rw both-parts (bad-second r.part q.part q.rest (not_within 255 q.part (rw q.value h)))

      module _ (w : m ≤ 255) (v : n ≤ 255) where
        read-both : start_in (parts bytes) ≡ start_with m n (list_of 65535 q.rest)
        unfolding start_in
        read-both =
            rw (
              both-parts,
              is_within 255 r.part r.good (rw r.value w),
              is_within 255 q.part q.good (rw q.value v),
              r.value,
              q.value,
            )

        pub start_none : done ≡ true → start_in (parts bytes) ≡ start_with m n (Some (list_with []))
        start_none e =
            read-both ∙ ap (λ (l : List (List ℕ)). start_with m n (list_of 65535 l)) (none_true q.rest (q.ends ∙ e)) ∙ ap (start_with m n) none-listed

        pub start-some : done ≡ false → start_in (parts bytes) ≡ start_with m n (list_of 65535 (parts (drop after bytes)))
        start-some e = read-both ∙ ap (λ (l : List (List ℕ)). start_with m n (list_of 65535 l)) (sym (rest-next bytes q e))

-- no start has more than 256 indexes
pub few-indexes : (ps : List (List ℕ)) → IfSome (start_in ps) (λ s. s.indexes.count ≤ 256)
unfolding start_in
few-indexes [] = tt
few-indexes (p ∷ []) = tt
few-indexes (p ∷ q ∷ ps) = go (is_number 255 p) (is_number 255 q) (list_of 65535 ps) (list-few 65535 ps)
  where
    go : (s t : Bool) (o : Option NumberList) → IfSome o (λ l. l.count ≤ 256)
        → IfSome (cond (s && t) (start_with (numeral p) (numeral q) o) None) (λ s. s.indexes.count ≤ 256)
    go true true None h = tt
    go true true (Some l) h = h
    go true false o h = tt
    go false t o h = tt

-- and its array has 256 numbers
room : (ps : List (List ℕ)) → IfSome (start_in ps) (λ s. length s.indexes.values ≡ 256)
unfolding start_in
room [] = tt
room (p ∷ []) = tt
room (p ∷ q ∷ ps) = go (is_number 255 p) (is_number 255 q) (list_of 65535 ps) refl
  where
    go : (s t : Bool) (o : Option NumberList) → list_of 65535 ps ≡ o
        → IfSome (cond (s && t) (start_with (numeral p) (numeral q) o) None) (λ s. length s.indexes.values ≡ 256)
    go true true None e = tt
    go true true (Some l) e = (list-good 65535 ps l e).size
    go true false o e = tt
    go false t o e = tt

pub index-room : (ps : List (List ℕ)) (s : StartFields) → start_in ps ≡ Some s → length s.indexes.values ≡ 256
index-room ps s e = rw e at (room ps)

pub start-answered : (bytes : List ℕ) {s : Option StartFields} → s ≡ start_in (parts bytes)
    → (s ≡ start_in (parts bytes)) × IfSome s (λ x. x.indexes.count ≤ 256)
start-answered bytes e = (e, rw e (few-indexes (parts bytes)))
