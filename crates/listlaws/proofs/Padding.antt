-- An array that a loop fills from its front, of a list padded to the array's length: empty at first, one element more by a store behind the others, and its used
-- part is the list. Assumes nothing.
use mathlib.Core.Path.{◌≡◌, sym, ap, ◌∙◌}
use mathlib.Core.List.{List, [], ◌∷◌, ◌++◌, append_assoc}
use Prim.Native.Nat.{ℕ, zero, suc, ◌-◌, ◌≤◌, ◌<◌}
use native.Mathlib.Omega.{arith}
use lib.ListN.{length, take, set, replicate, length-append}
use lib.Seq.{set-append_seam, take-append_seam}
use Rattle.listlaws.specs.Lists.{padded}

module _ {A : Type 0} (n : ℕ) (d : A) where
  replicate_more : (k : ℕ) → 1 ≤ k → replicate k d ≡ d ∷ replicate (k - 1) d
  replicate_more zero h = absurd (omega arith)
  replicate_more (suc k) h = let e : suc k - 1 ≡ k = omega arith in rw e

  pub pad_more : (l : List A) (x : A) → length l < n → set (padded n d l) (length l) x ≡ padded n d (l ++ (x ∷ []))
  pad_more l x h =
      ap (λ (r : List A). set (l ++ r) (length l) x) (replicate_more (n - length l) (omega arith))
      ∙ set-append_seam l d (replicate (n - length l - 1) d) x
      ∙ sym (append_assoc l (x ∷ []) (replicate (n - length l - 1) d))
      ∙ ap (λ (k : ℕ). (l ++ (x ∷ [])) ++ replicate k d) e
    where
      e : n - length l - 1 ≡ n - length (l ++ (x ∷ []))
      e = rw (length-append l (x ∷ [])) (omega arith)

  pub pad_used : (l : List A) → take (length l) (padded n d l) ≡ l
  pad_used l = take-append_seam l (replicate (n - length l) d)
