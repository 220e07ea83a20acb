-- What a caller needs of `list_of`: how many numbers there are, that a list which is answered holds the numbers of all parts in its front, and that
-- the array has 256 elements either way. Each goes by the two cases of the definition.
-- Assumes nothing.
use Rattle.std.specs.Prelude.{Some, None, IfSome}
use mathlib.Core.Bool.{Bool, true, false, cond, ◌&&◌, false≢true}
use mathlib.Core.Path.{◌≡◌, refl, subst}
use mathlib.Core.List.{List, [], ◌∷◌, map}
use Prim.Native.Nat.{ℕ, ◌≤◌}
use native.Mathlib.Omega.{arith}
use borrow.Author.Tests.{le-leb, leb-true}
use lib.Dec.{leb}
use lib.ListN.{length, take, length-append, length-map, length-replicate}
use Rattle.fields.specs.Fields.{every, is_field, numeral}
use Rattle.listlaws.proofs.Padding.{pad_used}
use Rattle.number_lists.specs.NumberList.{is_number, list_with, list_of}
use Rattle.number_lists.specs.declared.NumberList.{NumberList}

-- two tests that hold together
pub and_both : (a b : Bool) → (a && b) ≡ true → (a ≡ true) × (b ≡ true)
and_both true b e = (refl, e)
and_both false b e = absurd (false≢true e)

-- THE NUMBERS ARE IN THE FRONT OF THE ARRAY
pub list-used : (l : List ℕ) → take (length l) (list_with l).values ≡ l
unfolding list_with
list-used l = pad_used 256 0 l

-- THE ARRAY HAS 256 ELEMENTS
pub list_length : (l : List ℕ) → length l ≤ 256 → length (list_with l).values ≡ 256
unfolding list_with
list_length l h = rw (length-append, length-replicate) (omega arith)

-- the list l is of these parts, which are numbers of at most `most`, and no more than 256
pub record Listed (most : ℕ) (ps : List (List ℕ)) (l : NumberList) : Type 0 where
  pub whole : l ≡ list_with (map numeral ps)
  pub few : length ps ≤ 256
  pub list_all : every (is_number most) ps ≡ true
  pub counted : l.count ≡ length ps
  pub used : take l.count l.values ≡ map numeral ps
  pub size : length l.values ≡ 256

module _ (most : ℕ) (ps : List (List ℕ)) where
  -- the list of parts that pass the tests
  pub list-listed : length ps ≤ 256 → every (is_number most) ps ≡ true → Listed most ps (list_with (map numeral ps))
  unfolding list_with
  list-listed h e =
      let c : (list_with (map numeral ps)).count ≡ length ps = length-map ps numeral in
      record {
        whole = refl;
        few = h;
        list_all = e;
        counted = c;
        used = list-used (map numeral ps);
        size = list_length (map numeral ps) (rw length-map h);
      }

  pub list-whole : length ps ≤ 256 → every (is_number most) ps ≡ true → list_of most ps ≡ Some (list_with (map numeral ps))
  unfolding list_of
  list-whole h e = rw (le-leb (length ps) 256 h, e)

  -- A LIST THAT IS ANSWERED
  pub list-good : (l : NumberList) → list_of most ps ≡ Some l → Listed most ps l
  unfolding list_of
  list-good l e = go (leb (length ps) 256) (every (is_number most) ps) refl refl e
    where
      go : (t u : Bool) → leb (length ps) 256 ≡ t → every (is_number most) ps ≡ u → cond (t && u) (Some (list_with (map numeral ps))) None ≡ Some l → Listed most ps l
      go true true f g h =
          let k : list_with (map numeral ps) ≡ l = cc in
          subst (Listed most ps) k (list-listed (leb-true _ _ f) g)
      go true false f g h = cc
      go false u f g h = cc

  -- THERE ARE NO MORE THAN 256
  pub list-few : IfSome (list_of most ps) (λ l. l.count ≤ 256)
  unfolding list_of list_with
  list-few = go (leb (length ps) 256) (every (is_number most) ps) refl
    where
      go : (t u : Bool) → leb (length ps) 256 ≡ t → IfSome (cond (t && u) (Some (list_with (map numeral ps))) None) (λ l. l.count ≤ 256)
      go true true f = rw length-map (leb-true _ _ f)
      go true false f = tt
      go false u f = tt

-- the numbers are at most `most`
pub numbers-within : (most : ℕ) (ps : List (List ℕ)) → every (is_number most) ps ≡ true → every (λ (v : ℕ). leb v most) (map numeral ps) ≡ true
unfolding every is_number
numbers-within most [] e = refl
numbers-within most (p ∷ ps) e =
    let b = and_both (is_number most p) (every (is_number most) ps) e in
    let n = and_both (is_field p) (leb (numeral p) most) b.0 in
    rw n.1 (numbers-within most ps b.1)
