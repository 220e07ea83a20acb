-- The paper's number of what is answered of a record's end.
-- Assumes nothing.
use mathlib.Core.Bool.{Bool, true, false, cond, not, ◌||◌}
use mathlib.Core.Path.{◌≡◌, refl, ap, ◌∙◌}
use mathlib.Core.List.{List, [], ◌∷◌}
use Prim.Native.Nat.{ℕ, zero, suc, ◌+◌}
use lib.Dec.{eqb, ltb, leb-zero, leb-suc-zero, leb-suc-suc}
use lib.ListN.{length, drop}
use Rattle.records.specs.Cutting.{after_return, goes_on, begins, cut_of, cut_answer, before_end, bad_end, cut_number_of}
use Rattle.records.specs.declared.Cut.{Cut}
use Rattle.records.specs.declared.Cut.TheVariants.{Record, Broken as BrokenCut}

-- the number, where a record of `room` more bytes at most has the bytes l to come
numbered : Bool → ℕ → List ℕ → ℕ
numbered ended room l = cond (ltb room (length (before_end l)) || bad_end ended (drop (length (before_end l)) l)) 19 0

return_number : (ended : Bool) (at b : ℕ) (l : List ℕ) → eqb b 13 ≡ true → (cut_answer (after_return ended at l)).0 ≡ cond (bad_end ended (b ∷ l)) 19 0
unfolding after_return bad_end
return_number true at b [] e = rw e
return_number false at b [] e = rw e
return_number ended at b (c ∷ l) e = rw e (go (eqb c 10))
  where
    go : (t : Bool) → (cut_answer (cond t (Record at (at + 2)) BrokenCut)).0 ≡ cond (not t) 19 0
    go true = refl
    go false = refl

feed_bad : (ended : Bool) (b : ℕ) (l : List ℕ) → eqb b 13 ≡ false → bad_end ended (b ∷ l) ≡ true
unfolding bad_end
feed_bad ended b [] e = rw e
feed_bad ended b (c ∷ l) e = rw e

goes_number : (ended : Bool) (at room : ℕ) (l : List ℕ) → (cut_answer (goes_on ended at room l)).0 ≡ numbered ended room l
unfolding goes_on numbered before_end bad_end
goes_number true at room [] = rw (leb-suc-zero room)
goes_number false at room [] = rw (leb-suc-zero room)
goes_number ended at zero (b ∷ l) = go (eqb b 13) (eqb b 10) refl refl
  where
    go : (t u : Bool) → eqb b 13 ≡ t → eqb b 10 ≡ u → (cut_answer (goes_on ended at zero (b ∷ l))).0 ≡ numbered ended zero (b ∷ l)
    go true u e f = rw e (return_number ended at b l e)
    go false true e f = rw (e, f, feed_bad ended b l e)
    go false false e f = rw (e, f, leb-suc-suc 0 (length (before_end l)), leb-zero (length (before_end l)))
goes_number ended at (suc room) (b ∷ l) = go (eqb b 13) (eqb b 10) refl refl (goes_number ended (at + 1) room l)
  where
    go : (t u : Bool) → eqb b 13 ≡ t → eqb b 10 ≡ u → (cut_answer (goes_on ended (at + 1) room l)).0 ≡ numbered ended room l
        → (cut_answer (goes_on ended at (suc room) (b ∷ l))).0 ≡ numbered ended (suc room) (b ∷ l)
    go true u e f ih = rw (e, leb-suc-zero (suc room)) (return_number ended at b l e)
    go false true e f ih = rw (e, f, leb-suc-zero (suc room), feed_bad ended b l e)
    go false false e f ih = rw (e, f, leb-suc-suc (suc room) (length (before_end l))) ih

begins-number : (longest : ℕ) (ended : Bool) (at : ℕ) (l : List ℕ) → (cut_answer (begins longest ended at l)).0 ≡ numbered ended longest l
unfolding begins numbered before_end bad_end
begins-number longest true at [] = rw (leb-suc-zero longest)
begins-number longest false at [] = rw (leb-suc-zero longest)
begins-number longest ended at (b ∷ l) = goes_number ended at longest (b ∷ l)

-- an answer that is `cut_of` has the paper's number
pub cut-answered : (longest : ℕ) (bytes : List ℕ) (start : ℕ) (ended : Bool) (r : Cut) → r ≡ cut_of longest bytes start ended
    → (r ≡ cut_of longest bytes start ended) × ((cut_answer r).0 ≡ cut_number_of longest bytes start ended)
unfolding cut_of cut_number_of numbered
cut-answered longest bytes start ended r e = (e, ap (λ (x : Cut). (cut_answer x).0) e ∙ begins-number longest ended start (drop start bytes))
