-- `has_stretch` tests the place, then what is left from it. Assumes nothing.
use mathlib.Core.Path.{◌≡◌, refl, sym}
use mathlib.Core.Bool.{Bool, true, false, and-false}
use Prim.Native.Nat.{ℕ, ◌+◌, ◌-◌, ◌≤◌}
use native.Mathlib.Omega.{arith}
use lib.Dec.{leb}
use borrow.Author.Tests.{le-leb, lt-leb, leb-true, leb-false}
use Rattle.recorded_slot.proofs.has_stretch.Goals as goal

-- what is left from a place on
shifted : (start m n : ℕ) → start ≤ n → leb m (n - start) ≡ leb (start + m) n
shifted start m n h = go (leb m (n - start)) refl
  where
    go : (b : Bool) → leb m (n - start) ≡ b → b ≡ leb (start + m) n
    go true e = sym (le-leb (start + m) n (omega (arith, leb-true m (n - start) e)))
    go false e = sym (lt-leb (start + m) n (omega (arith, leb-false m (n - start) e)))

pub returns-then-words-start : goal.returns-then-words-start
returns-then-words-start c = let a = c.args in rw (lt-leb (a.start + a.m) a.words (omega arith))

pub returns-then-counts-start : goal.returns-then-counts-start
returns-then-counts-start c = let a = c.args in rw (lt-leb (a.start + a.m) a.counts (omega arith), and-false)

pub returns-then-words-start-2 : goal.returns-then-words-start-2
returns-then-words-start-2 c = let a = c.args in rw (lt-leb (a.start + a.m) a.words (omega arith))

pub returns : goal.returns
returns c =
    let a = c.args in
    rw (le-leb (a.start + a.m) a.words (omega arith)) (shifted a.start a.m a.counts (omega arith))
