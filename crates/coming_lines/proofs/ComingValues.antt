-- The loop that takes a room's entries behind two other numbers: one store more, and all of them; and the part of the numbers that a list
-- of so many slots takes. Assumes nothing.
use mathlib.Core.Path.{◌≡◌, ap, ◌∙◌}
use mathlib.Core.List.{List, ◌∷◌, ◌++◌, append-nil}
use Prim.Native.Nat.{ℕ, suc, ◌+◌, ◌<◌, ◌≤◌, min}
use native.Mathlib.Numerals.{add-one}
use native.Mathlib.Omega.{arith}
use lib.ListN.{length, get_or, take, drop, set, replicate, length-replicate, drop_of_length-le}
use lib.Seq.{sets, sets-eq}
use Rattle.listlaws.proofs.Loops.{rest}
use Rattle.listlaws.proofs.Beyond.{take-most}

pub entry_more : (values list : List ℕ) (i : ℕ) → i < length list
    → sets (set values (i + 2) (get_or list i 0)) (i + 1 + 2) (drop (i + 1) list) ≡ sets values (i + 2) (drop i list)
entry_more values list i h =
    let z : i + 1 + 2 ≡ i + 2 + 1 = omega arith in
    rw (rest list i 0 h, z, add-one (i + 2))

pub entries-all : (n k slots : ℕ) (list : List ℕ) → length list ≡ n → sets (k ∷ slots ∷ replicate n 0) 2 list ≡ k ∷ slots ∷ list
entries-all n k slots list e =
    let o : ℕ = 0 in
    let z : length (replicate n o) ≡ n = length-replicate n o in
    let w : length (k ∷ slots ∷ replicate n 0) ≤ 2 + length list = omega arith in
    sets-eq list (k ∷ slots ∷ replicate n 0) 2 (omega arith)
    ∙ ap (λ (l : List ℕ). k ∷ slots ∷ list ++ l) (drop_of_length-le (k ∷ slots ∷ replicate n 0) w)
    ∙ ap (λ (l : List ℕ). k ∷ slots ∷ l) (append-nil list)

pub list-part : (k slots w : ℕ) (list : List ℕ) → length list ≡ 1025 → take (min w 1025 + 2) (k ∷ slots ∷ list) ≡ k ∷ slots ∷ take w list
list-part k slots w list e =
    let z : min w 1025 + 2 ≡ suc (suc (min w 1025)) = omega arith in
    rw z (ap (λ (l : List ℕ). k ∷ slots ∷ l) (take-most w 1025 list e))
