-- The loop that takes a calendar's entries behind two other numbers: one store more, and all of them. Assumes nothing.
use mathlib.Core.Path.{◌≡◌, ap, ◌∙◌}
use mathlib.Core.List.{List, ◌∷◌, ◌++◌, append-nil}
use Prim.Native.Nat.{ℕ, ◌+◌, ◌<◌}
use native.Mathlib.Numerals.{add-one}
use native.Mathlib.Omega.{arith}
use lib.ListN.{length, get_or, drop, set, replicate}
use lib.Seq.{sets, sets-eq}
use Rattle.listlaws.proofs.Loops.{rest}

pub entry_more : (values entries : List ℕ) (i : ℕ) → i < length entries
    → sets (set values (i + 2) (get_or entries i 0)) (i + 1 + 2) (drop (i + 1) entries) ≡ sets values (i + 2) (drop i entries)
entry_more values entries i h =
    let z : i + 1 + 2 ≡ i + 2 + 1 = omega arith in
    rw (rest entries i 0 h, z, add-one (i + 2))

pub entries-all : (k p : ℕ) (entries : List ℕ) → length entries ≡ 24 → sets (k ∷ p ∷ replicate 24 0) 2 entries ≡ k ∷ p ∷ entries
entries-all k p entries e =
    sets-eq entries (k ∷ p ∷ replicate 24 0) 2 (omega arith)
    ∙ ap (λ (n : ℕ). k ∷ p ∷ entries ++ drop (2 + n) (k ∷ p ∷ replicate 24 0)) e
    ∙ ap (λ (l : List ℕ). k ∷ p ∷ l) (append-nil entries)
