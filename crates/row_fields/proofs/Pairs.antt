-- The ways of the reader of a pair, each a case of `pair_of`.
-- Assumes nothing.
use Rattle.std.specs.Prelude.{Some, None}
use mathlib.Core.Bool.{Bool, true, false, true≢false}
use mathlib.Core.Path.{◌≡◌, refl, ◌∙◌}
use mathlib.Core.List.{List, [], ◌∷◌}
use Prim.Native.Nat.{ℕ, ◌<◌, ◌≤◌}
use borrow.Author.Tests.{le-leb, lt-leb}
use lib.ListN.{drop}
use Rattle.fields.specs.Fields.{parts}
use Rattle.fields.specs.Steps.{none, field_of}
use Rattle.fields.proofs.FieldReads.{none_true, Read, unread, rest-next}
use Rattle.row_fields.specs.Steps.{is_word, is_count, after_word, pair_of}
use Rattle.row_fields.specs.declared.Pair.TheVariants as pair

pub pair-unread : (at : ℕ) (ps : List (List ℕ)) → field_of at ps ≡ None → pair_of at ps ≡ None
unfolding pair_of is_word
pair-unread at [] e = refl
pair-unread at (p ∷ ps) e = rw (unread at p ps e)

after-unread : (at n : ℕ) (p : List ℕ) (qs : List (List ℕ)) → none qs ≡ false → field_of n qs ≡ None → after_word at p qs ≡ None
unfolding after_word is_count none
after-unread at n p [] h e = absurd (true≢false h)
after-unread at n p (q ∷ qs) h e = rw (unread n q qs e)

module _ {at v n : ℕ} {last : Bool} {ps : List (List ℕ)} (r : Read at ps v n last) where
  pub pair-high : 65535 < v → pair_of at ps ≡ None
  unfolding pair_of is_word
  pair-high h = rw (r.these, r.good, r.value, lt-leb v 65535 h)

  to_rest : v ≤ 65535 → pair_of at ps ≡ after_word at r.part r.rest
  unfolding pair_of is_word
  to_rest h = rw (r.these, r.good, r.value, le-leb v 65535 h)

  pub pair_odd : last ≡ true → v ≤ 65535 → pair_of at ps ≡ Some (pair.Odd v)
  unfolding after_word
  pair_odd e h = to_rest h ∙ rw (none_true r.rest (r.ends ∙ e), r.value)

  after-high : {c k : ℕ} {done : Bool} → Read n r.rest c k done → 255 < c → after_word at r.part r.rest ≡ None
  unfolding after_word is_count
  after-high {c} q h = rw (q.these, q.good, q.value, lt-leb c 255 h)

  after_both : {c k : ℕ} {done : Bool} → Read n r.rest c k done → c ≤ 255 → after_word at r.part r.rest ≡ Some (pair.Both v c k done)
  unfolding after_word is_count
  after_both {c} q h = rw (q.these, q.good, q.value, le-leb c 255 h, r.value, r.next, q.next, q.ends)

-- the same where the rest begins at the next place of the bytes
module _ (bytes : List ℕ) {at v n : ℕ} {last : Bool} (r : Read at (parts (drop at bytes)) v n last) (more : last ≡ false) where
  pub pair-half : v ≤ 65535 → field_of n (parts (drop n bytes)) ≡ None → pair_of at (parts (drop at bytes)) ≡ None
  pair-half h e = to_rest r h ∙ after-unread at n r.part r.rest (r.ends ∙ more) (rw (rest-next bytes r more) at e)

  pub pair-over : {c k : ℕ} {done : Bool} → v ≤ 65535 → Read n (parts (drop n bytes)) c k done → 255 < c → pair_of at (parts (drop at bytes)) ≡ None
  pair-over h q k = to_rest r h ∙ after-high r (rw (rest-next bytes r more) at q) k

  pub pair-both : {c k : ℕ} {done : Bool} → v ≤ 65535 → Read n (parts (drop n bytes)) c k done → c ≤ 255 → pair_of at (parts (drop at bytes)) ≡ Some (pair.Both v c k done)
  pair-both h q k = to_rest r h ∙ after_both r (rw (rest-next bytes r more) at q) k
