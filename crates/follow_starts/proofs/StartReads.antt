-- A first record with a number above 8 is refused with 5, however large the number is.
-- Assumes nothing.
use mathlib.Core.Bool.{Bool, true, false, ◌&&◌}
use mathlib.Core.Path.{◌≡◌, refl}
use Prim.Native.Nat.{ℕ, ◌<◌}
use lib.Dec.{leb}
use borrow.Author.Tests.{lt-leb}
use Rattle.rules.specs.Starting.{start_number_of, start_of}
use Rattle.rules.specs.Limits.{between}
use Rattle.following.specs.declared.Follower.{Follower}
use Rattle.following.specs.Following.{refused_step}
use Rattle.following.specs.Steps.{started_step}

and-false : (b : Bool) → (b && false) ≡ false
and-false true = refl
and-false false = refl

module _ (f : Follower) (m n : ℕ) where
  pub many-minislots : 8 < m → refused_step f 5 ≡ started_step f (start_of m n)
  unfolding start_of start_number_of
  many-minislots h = rw (lt-leb m 8 h, and-false (leb 2 m))

  pub many-groups : 8 < n → refused_step f 5 ≡ started_step f (start_of m n)
  unfolding start_of start_number_of
  many-groups h = rw (lt-leb n 8 h, and-false (leb 1 n), and-false (between 2 m 8))
