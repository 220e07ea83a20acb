-- The paper's number and values of what is answered of the first record.
-- Assumes nothing.
use Rattle.std.specs.Prelude.{Option, None}
use mathlib.Core.Bool.{Bool, true, false, cond, ◌&&◌}
use mathlib.Core.Path.{◌≡◌, refl, ap, ◌∙◌}
use mathlib.Core.List.{List, [], ◌∷◌}
use Prim.Native.Nat.{ℕ}
use native.Mathlib.Omega.{arith}
use borrow.Author.Tests.{ne_eqb}
use lib.Dec.{eqb}
use lib.ListN.{length}
use Rattle.fields.specs.Fields.{well_formed, fields_of}
use Rattle.fields.specs.First.{two_of, first_of, first_answer, first_answer_of}
use Rattle.fields.specs.declared.First.{First}

first-number : (t : Bool) (l : List ℕ) → first_answer (cond t (two_of l) None) ≡ cond (t && eqb (length l) 2) (0, l) (19, [])
unfolding two_of
first-number false l = refl
first-number true [] = refl
first-number true (m ∷ []) = refl
first-number true (m ∷ n ∷ []) = refl
first-number true (m ∷ n ∷ k ∷ l) = rw (ne_eqb (length (m ∷ n ∷ k ∷ l)) 2 (λ e. omega arith))

-- an answer that is `first_of` has the paper's number and values
pub first-answered : (bytes : List ℕ) (r : Option First) → r ≡ first_of bytes → (r ≡ first_of bytes) × (first_answer r ≡ first_answer_of bytes)
unfolding first_of first_answer_of
first-answered bytes r e = (e, ap first_answer e ∙ first-number (well_formed bytes) (fields_of bytes))
