-- A loop that folds a list into a value, one element after the other: what it holds after i elements, for any list and any step.
-- Assumes nothing.
use mathlib.Core.Path.{◌≡◌, refl, ◌∙◌, sym, ap}
use mathlib.Core.List.{List, [], ◌∷◌, ◌++◌, foldl}
use Prim.Native.Nat.{ℕ, suc, ◌<◌}
use lib.ListN.{length, get_or, take}
use lib.Seq.{take-suc}

module _ {A B : Type 0} (step : B → A → B) where
  -- the last element
  pub foldl_snoc : (b : B) (l : List A) (x : A) → foldl step b (l ++ (x ∷ [])) ≡ step (foldl step b l) x
  foldl_snoc b [] x = refl
  foldl_snoc b (y ∷ l) x = foldl_snoc (step b y) l x

  -- one element more
  pub fold_more : (b : B) (l : List A) (i : ℕ) (d : A) → i < length l
      → step (foldl step b (take i l)) (get_or l i d) ≡ foldl step b (take (suc i) l)
  fold_more b l i d h = sym (ap (foldl step b) (take-suc l i d h) ∙ foldl_snoc b (take i l) (get_or l i d))
