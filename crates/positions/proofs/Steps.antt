-- The place of the first station of an index, or the table's length, is how many stand before it. Assumes nothing.
use mathlib.Core.Path.{◌≡◌, refl, sym, ap, ◌∙◌}
use mathlib.Core.Bool.{Bool, true, false, cond}
use mathlib.Core.List.{List, [], ◌∷◌}
use Prim.Native.Nat.{ℕ, suc, ◌+◌, ◌≤◌}
use native.Mathlib.Omega.{arith}
use lib.Dec.{eqb, ltb}
use lib.ListN.{length}
use borrow.Author.Tests.{ltb-false}
use Rattle.std.specs.Prelude.{Some, None, unwrap_or, position}
use Rattle.std.specs.List.{position_or_len}
use Rattle.std.proofs.lemmas.List.Recursion.{is_position_or_len}
use Rattle.rules.specs.declared.Station.{Station}
use Rattle.channel_rules.specs.Soundness.{position_of}

at-most : (index : ℕ) (l : List Station) → position_of index l ≤ length l
at-most index [] = omega arith
at-most index (s ∷ l) = go (eqb s.index index) (at-most index l)
  where
    go : (b : Bool) → position_of index l ≤ length l → cond b 0 (suc (position_of index l)) ≤ suc (length l)
    go true h = omega arith
    go false h = omega arith

clip : (p n : ℕ) → p ≤ n → unwrap_or (cond (ltb p n) (Some p) None) n ≡ p
clip p n h = go (ltb p n) refl
  where
    go : (b : Bool) → ltb p n ≡ b → unwrap_or (cond b (Some p) None) n ≡ p
    go true e = refl
    go false e = let q : n ≤ p = ltb-false p n e in let w : n ≡ p = omega arith in w

module _ (index : ℕ) where
  abbrev has : Station → Bool
  has s = eqb s.index index

  counted : (l : List Station) → position_of index l ≡ position_or_len has l
  counted l = is_position_or_len (position_of index) has refl (λ (s : Station) (t : List Station). ap (cond (has s) 0) (let e : suc (position_of index t) ≡ 1 + position_of index t = omega arith in e)) l

  pub position_or : (l : List Station) → unwrap_or (position has l) (length l) ≡ position_of index l
  position_or l = clip (position_or_len has l) (length l) (rw (← counted l) (at-most index l)) ∙ sym (counted l)
