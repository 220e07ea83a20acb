-- A stretch of a recording: what its test says, and that a recording which has not the stretch is refused as a short row. Assumes nothing.
use mathlib.Core.Path.{◌≡◌, refl, sym, ◌∙◌}
use mathlib.Core.Bool.{Bool, true, false, ◌&&◌, and-eq-true_iff, false≢true}
use mathlib.Core.List.{List}
use Prim.Native.Nat.{ℕ, ◌+◌, ◌≤◌}
use native.Mathlib.Omega.{arith}
use lib.Dec.{leb}
use lib.ListN.{length, take, drop, length-take, length-drop}
use borrow.Author.Tests.{le-leb, leb-true}
use Rattle.rows.specs.Row.{has_minislots, row_of}
use Rattle.rows.proofs.Row.{row-tests}
use Rattle.rows.proofs.Answers.{number_short}

module _ (m start : ℕ) (words counts : List ℕ) where
  pub inside : leb (start + m) (length words) && leb (start + m) (length counts) ≡ true → (start + m ≤ length words) × (start + m ≤ length counts)
  inside e =
      let p = (and-eq-true_iff (leb (start + m) (length words)) (leb (start + m) (length counts))).0 e in
      (leb-true (start + m) (length words) p.0, leb-true (start + m) (length counts) p.1)

  pub short : leb (start + m) (length words) && leb (start + m) (length counts) ≡ false
      → (row_of m (take m (drop start words)) (take m (drop start counts))).number ≡ 6
  short e = go (has_minislots m (take m (drop start words)) (take m (drop start counts))) refl
    where
      go : (b : Bool) → has_minislots m (take m (drop start words)) (take m (drop start counts)) ≡ b
          → (row_of m (take m (drop start words)) (take m (drop start counts))).number ≡ 6
      go false q = number_short m (take m (drop start words)) (take m (drop start counts)) q
      go true q =
          let t = row-tests m (take m (drop start words)) (take m (drop start counts)) q in
          let w : start + m ≤ length words = omega (arith, length-take m (drop start words), length-drop start words) in
          let c : start + m ≤ length counts = omega (arith, length-take m (drop start counts), length-drop start counts) in
          absurd (false≢true (sym e ∙ rw (le-leb (start + m) (length words) w, le-leb (start + m) (length counts) c)))
