-- A row of a longer recording: 6 where the recording ends too early, else that of the part from its start to its end.
-- Assumes nothing.
use mathlib.Core.Path.{◌≡◌}
use mathlib.Core.List.{List, []}
use Prim.Native.Nat.{ℕ, ◌+◌, ◌-◌, ◌≤◌, ◌<◌}
use native.Mathlib.Omega.{arith}
use lib.ListN.{length, take, drop, length-take, length-drop}
use Rattle.rows.specs.Row.{row_answer, row_of, row_at_of}
use Rattle.rows.proofs.Row.{row-short}

module _ (m start : ℕ) (words counts : List ℕ) where
  -- 6 where the recording has fewer words or fewer counts than start + m, or m is no number of minislots
  pub at-short-words : (2 ≤ m → length words < start + m) → row_at_of m start words counts ≡ row_answer 6 []
  unfolding row_at_of
  at-short-words h =
      row-short m (take m (drop start words)) (take m (drop start counts))
      (λ lo hi w c. let few = h lo in omega (arith, length-take m (drop start words), length-drop start words))

  pub at-short-counts : (2 ≤ m → length counts < start + m) → row_at_of m start words counts ≡ row_answer 6 []
  unfolding row_at_of
  at-short-counts h =
      row-short m (take m (drop start words)) (take m (drop start counts))
      (λ lo hi w c. let few = h lo in omega (arith, length-take m (drop start counts), length-drop start counts))

  -- the part from start to end
  pub row_at : (end : ℕ) → end ≡ start + m → row_of m (take (end - start) (drop start words)) (take (end - start) (drop start counts)) ≡ row_at_of m start words counts
  unfolding row_at_of
  row_at end e =
      let d : end - start ≡ m = omega arith in
      rw d
