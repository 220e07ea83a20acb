-- The numbers of a row that a loop fills in, word and count of a minislot in each turn: the first of them are the call, the group and the cells of the minislots
-- so far. By two stores at the end of what is filled in. Assumes nothing.
use mathlib.Core.Path.{◌≡◌, refl, sym, ap}
use mathlib.Core.List.{List, [], ◌∷◌, ◌++◌}
use Prim.Native.Nat.{ℕ, zero, suc, ◌+◌, ◌*◌, ◌<◌, ◌≤◌}
use native.Mathlib.Numerals.{add-one}
use native.Mathlib.Omega.{arith}
use lib.ListN.{length, get_or, set, take}
use Rattle.listlaws.proofs.Joining.{gather-more}
use Rattle.minislot.specs.declared.Minislot.{Minislot}
use Rattle.wire_lines.specs.WireLines.{cells}

two-more : (l : List ℕ) (i x y : ℕ) → suc i < length l → take (suc (suc i)) (set (set l i x) (suc i) y) ≡ take i l ++ (x ∷ y ∷ [])
two-more [] i x y h = absurd (omega arith)
two-more (v ∷ []) i x y h = absurd (omega arith)
two-more (v ∷ u ∷ l) zero x y h = refl
two-more (v ∷ u ∷ l) (suc i) x y h = ap (λ (r : List ℕ). v ∷ r) (two-more (u ∷ l) i x y (omega arith))

module _ (values : List ℕ) (call group : ℕ) (row : List Minislot) (j : ℕ) (d : Minislot) (full : length values ≡ 18) (few : length row ≤ 8) (h : j < length row) where
  pub row_next : take (2 + j * 2) values ≡ call ∷ group ∷ cells (take j row)
      → take (2 + (j + 1) * 2) (set (set values (2 + j * 2) (get_or row j d).word) (3 + j * 2) (get_or row j d).count) ≡ call ∷ group ∷ cells (take (j + 1) row)
  row_next e =
      let x = get_or row j d in
      let a : 2 + (j + 1) * 2 ≡ suc (suc (2 + j * 2)) = omega arith in
      let b : 3 + j * 2 ≡ suc (2 + j * 2) = omega arith in
      rw (a, b, two-more values (2 + j * 2) x.word x.count (omega arith), e, add-one j)
      (ap (λ (r : List ℕ). call ∷ group ∷ r) (sym (gather-more (λ (y : Minislot). y.word ∷ y.count ∷ []) row j d (omega arith))))
