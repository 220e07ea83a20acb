-- A list read number by number is `list_of`. `go_list most k vs ps` is what the reader answers with k numbers read into the array vs, and the parts ps to come;
-- `list-start` says it in the words of the definition, and the laws after it say it for each way that the next part can go.
-- Assumes nothing.
use Rattle.std.specs.Prelude.{Option, Some, None}
use mathlib.Core.Bool.{Bool, true, false, cond, ◌&&◌, and-false, true≢false}
use mathlib.Core.Path.{◌≡◌, refl, ◌∙◌}
use mathlib.Core.List.{List, [], ◌∷◌, map}
use Prim.Native.Nat.{ℕ, zero, suc, ◌+◌, ◌-◌, ◌<◌, ◌≤◌}
use native.Mathlib.Numerals.{add-one}
use native.Mathlib.Omega.{arith}
use borrow.Author.Tests.{le-leb, lt-leb, leb-true}
use lib.Dec.{leb}
use lib.ListN.{length, drop, set, replicate, length-map, length-replicate}
use lib.Seq.{sets, sets-eq}
use Rattle.fields.specs.Fields.{every, numeral}
use Rattle.fields.specs.Steps.{none, field_of}
use Rattle.fields.proofs.FieldReads.{Read, none_true, unread}
use Rattle.listlaws.specs.Lists.{padded}
use Rattle.number_lists.specs.NumberList.{is_number, whole_list, list_with, list_of}
use Rattle.number_lists.specs.declared.NumberList.{NumberList}

pub go_list : ℕ → ℕ → List ℕ → List (List ℕ) → Option NumberList
go_list most k vs ps =
    cond (leb (k + length ps) 256 && every (is_number most) ps) (Some (whole_list (k + length ps) (sets vs k (map numeral ps)))) None

-- stores from the first place on, over zeros
abbrev zeros : ℕ → List ℕ
zeros n = replicate n 0

drop-zeros : (k n : ℕ) → drop k (zeros n) ≡ zeros (n - k)
drop-zeros zero n = let z : n - 0 ≡ n = omega arith in rw z
drop-zeros (suc k) zero = let z : 0 - suc k ≡ 0 = omega arith in rw z
drop-zeros (suc k) (suc n) = let z : suc n - suc k ≡ n - k = omega arith in rw z (drop-zeros k n)

pub sets-padded : (n : ℕ) (l : List ℕ) → length l ≤ n → sets (zeros n) 0 l ≡ padded n 0 l
sets-padded n l h =
    let z : 0 + length l ≡ length l = omega arith in
    let k : 0 + length l ≤ length (zeros n) = rw length-replicate (omega arith) in
    sets-eq l (zeros n) 0 k ∙ rw (z, drop-zeros (length l) n)

module _ (most : ℕ) where
  pub list-start : (ps : List (List ℕ)) → go_list most 0 (replicate 256 0) ps ≡ list_of most ps
  unfolding go_list list_of list_with
  list-start ps = go (leb (length ps) 256) refl
    where
      z : 0 + length ps ≡ length ps
      z = omega arith

      go : (t : Bool) → leb (length ps) 256 ≡ t → go_list most 0 (replicate 256 0) ps ≡ list_of most ps
      go true e = rw (z, e, sets-padded 256 (map numeral ps) (rw length-map (leb-true _ _ e)), length-map)
      go false e = rw (z, e)

  -- the ways of the next part
  pub list_odd : (k : ℕ) (vs p : List ℕ) (ps : List (List ℕ)) → is_number most p ≡ false → go_list most k vs (p ∷ ps) ≡ None
  unfolding go_list every
  list_odd k vs p ps e = rw (e, and-false)

  pub list_full : (k : ℕ) (vs : List ℕ) (ps : List (List ℕ)) → none ps ≡ false → 256 ≤ k → go_list most k vs ps ≡ None
  unfolding go_list none
  list_full k vs [] n h = absurd (true≢false n)
  list_full k vs (p ∷ ps) n h = rw (lt-leb (k + suc (length ps)) 256 (omega arith))

  pub list-next : (k : ℕ) (vs p : List ℕ) (ps : List (List ℕ)) → is_number most p ≡ true
      → go_list most k vs (p ∷ ps) ≡ go_list most (k + 1) (set vs k (numeral p)) ps
  unfolding go_list every
  list-next k vs p ps e = let z : k + suc (length ps) ≡ k + 1 + length ps = omega arith in rw (e, z, add-one k)

  pub list_end : (k : ℕ) (vs : List ℕ) → k ≤ 256 → go_list most k vs [] ≡ Some (whole_list k vs)
  unfolding go_list every
  list_end k vs h = let z : k + 0 ≡ k = omega arith in rw (z, le-leb k 256 h)

  -- the same, by what the reader of one field answered
  pub list-unread : (at k : ℕ) (vs : List ℕ) (ps : List (List ℕ)) → none ps ≡ false → field_of at ps ≡ None → go_list most k vs ps ≡ None
  unfolding is_number none
  list-unread at k vs [] h e = absurd (true≢false h)
  list-unread at k vs (p ∷ ps) h e = list_odd k vs p ps (rw (unread at p ps e))

  module _ {at v n : ℕ} {last : Bool} {ps : List (List ℕ)} (r : Read at ps v n last) (k : ℕ) (vs : List ℕ) where
    pub list-high : most < v → go_list most k vs ps ≡ None
    unfolding is_number
    list-high h = rw r.these (list_odd k vs r.part r.rest (rw (r.good, r.value, lt-leb v most h)))

    pub list-more : v ≤ most → go_list most k vs ps ≡ go_list most (k + 1) (set vs k v) r.rest
    unfolding is_number
    list-more h = rw (r.these, ← r.value) (list-next k vs r.part r.rest (rw (r.good, r.value, le-leb v most h)))

    pub list-last : v ≤ most → k < 256 → last ≡ true → go_list most k vs ps ≡ Some (whole_list (k + 1) (set vs k v))
    list-last h l e = list-more h ∙ rw (none_true r.rest (r.ends ∙ e)) (list_end (k + 1) (set vs k v) (omega arith))
