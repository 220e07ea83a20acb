-- What a row's reading leads to, by the tests that the code makes of it in turn: the number, the field count, m above 8, and then listening.
-- Assumes nothing.
use Rattle.std.specs.Prelude.{Some, None}
use mathlib.Core.Bool.{Bool, true, false}
use mathlib.Core.Path.{◌≡◌, refl, ap, sym, ◌∙◌}
use mathlib.Core.List.{List}
use Prim.Native.Nat.{ℕ, ◌*◌, ◌<◌, ◌≤◌}
use native.Mathlib.Omega.{arith}
use borrow.Author.Tests.{eq-eqb, ne_eqb}
use lib.ListN.{length, take, length-take}
use Rattle.fields.specs.Fields.{fields_of}
use Rattle.row_fields.specs.Row.{row_from, row_of}
use Rattle.row_fields.specs.declared.RowFields.{RowFields}
use Rattle.row_fields.proofs.RowLaws.{row-good, row-halves, Halves}
use Rattle.rules.specs.declared.Counters.{Counters}
use Rattle.rules.specs.declared.Listened.{Listened}
use Rattle.rules.specs.Limits.{within_limits}
use Rattle.rules.specs.Listening.{refused_listening, listened, listen_number_of, listening_of}
use Rattle.rules.proofs.LimitLaws.{within-limits}
use Rattle.rules.proofs.ListeningLaws.{listening_18}
use Rattle.rules.proofs.Refusals.{by-ap}
use Rattle.following.specs.declared.Follower.{Follower}
use Rattle.following.specs.RecordNumbers.{row_words, row_counts, is_row, row_number_of}
use Rattle.following.specs.Following.{refused_step, row_places}
use Rattle.following.specs.Steps.{listened_step, row_step}

-- as many as are taken are there
pub take_whole : (m : ℕ) (l : List ℕ) → length (take m l) ≡ m → m ≤ length l
take_whole m l e = omega (arith, length-take m l, e)

-- a record of more than eight minislots is outside the limits
many-minislots : (c : Counters) → 8 < c.minislots → within_limits c ≡ false
many-minislots c h = go (within_limits c) refl
  where
    go : (t : Bool) → within_limits c ≡ t → t ≡ false
    go true e = absurd (omega (arith, within-limits c e))
    go false e = refl

-- a record is a row or none
row-is : (bytes : List ℕ) → is_row bytes ≡ true → row_of bytes ≡ Some (row_from (fields_of bytes))
unfolding row_of
row-is bytes e = rw e

row-none : (bytes : List ℕ) → is_row bytes ≡ false → row_of bytes ≡ None
unfolding row_of
row-none bytes e = rw e

pub row-refused : (f : Follower) (bytes : List ℕ) → row_of bytes ≡ None → refused_step f 19 ≡ row_step f bytes
unfolding row_step row_number_of
row-refused f bytes h = go (is_row bytes) refl
  where
    go : (t : Bool) → is_row bytes ≡ t → refused_step f 19 ≡ row_step f bytes
    go true e = let s = row-is bytes e in cc
    go false e = rw e

module _ (f : Follower) (bytes : List ℕ) (r : RowFields) (whole : row_of bytes ≡ Some r) where
  field_count : r.fields ≡ length (fields_of bytes)
  unfolding row_from
  field_count = ap (λ (x : RowFields). x.fields) (row-good bytes r whole)

  is-row : is_row bytes ≡ true
  is-row = go (is_row bytes) refl
    where
      go : (t : Bool) → is_row bytes ≡ t → is_row bytes ≡ true
      go true e = e
      go false e = let n = row-none bytes e in cc

  pub other-count : (r.fields ≡ f.counters.minislots * 2 → ⊥) → refused_step f 6 ≡ row_step f bytes
  unfolding row_step row_number_of
  other-count h =
      let n : length (fields_of bytes) ≡ f.counters.minislots * 2 → ⊥ = λ e. h (field_count ∙ e) in
      rw (is-row, ne_eqb _ _ n)

  module _ (count : r.fields ≡ f.counters.minislots * 2) where
    by-listening : listened_step f (listening_of f.counters (row_words bytes) (row_counts bytes)) ≡ row_step f bytes
    unfolding listening_of listened row_places row_step row_number_of
    by-listening =
        let n : length (fields_of bytes) ≡ f.counters.minislots * 2 = sym field_count ∙ count in
        rw (is-row, eq-eqb _ _ n)
        (by-ap (listened_step f) (listen_number_of f.counters (row_words bytes) (row_counts bytes)) (refused_listening f.counters) _)

    pub outside : 8 < f.counters.minislots → refused_step f 18 ≡ row_step f bytes
    outside h =
        ap (listened_step f) (listening_18 f.counters (row_words bytes) (row_counts bytes) (many-minislots f.counters h))
        ∙ by-listening

    module _ (few : f.counters.minislots ≤ 8) where
      halves : Halves bytes f.counters.minislots r
      halves = row-halves bytes f.counters.minislots r whole count few

      pub word_count : length (take f.counters.minislots r.words) ≡ f.counters.minislots
      word_count = rw halves.words halves.all_words

      pub count-count : length (take f.counters.minislots r.counts) ≡ f.counters.minislots
      count-count = rw halves.counts halves.all-counts

      pub heard-row : (heard : Listened)
          → heard ≡ listening_of f.counters (take f.counters.minislots r.words) (take f.counters.minislots r.counts)
          → listened_step f heard ≡ row_step f bytes
      heard-row heard e = rw (e, halves.words, halves.counts) by-listening
