-- `index_of` gives a word's index: 924 where a test fails (no pattern), else the sum of the two halves' entries, which is the index and
-- so fits.
-- Assumes nothing.
use mathlib.Core.Path.{◌≡◌, sym}
use Prim.Native.Nat.{ℕ, ◌+◌, ◌/◌, ◌%◌, ◌<◌}
use native.Mathlib.Omega.{arith}
use lib.Count.{ones}
use lib.ListN.{get_or}
use Rattle.indexing.specs.Halves.{patterns_before, rank}
use Rattle.indexing.proofs.Halves.{index_in-halves}
use Rattle.pattern.proofs.Patterns.{no_index, pattern-of}
use Rattle.indexing.proofs.index_of.Goals as goal

pub returns-then-word-gt4095 : goal.returns-then-word-gt4095
returns-then-word-gt4095 c = sym (no_index c.args.word (λ p. omega (arith, p.0)))

pub returns-then-word-ne6 : goal.returns-then-word-ne6
returns-then-word-ne6 c = sym (no_index c.args.word (λ p. c.if-word-ne6.true p.1))

-- the sum of the two entries is an index
sum_is : (w : ℕ) → w < 4096 → ones w ≡ 6 → get_or patterns_before (w / 64) 0 + get_or rank (w % 64) 0 < 924
sum_is w h e = rw (index_in-halves w h e) (pattern-of w h e).0

pub overflow_add-result : goal.overflow_add-result
unfolding patterns_before rank
overflow_add-result c = omega (arith, sum_is c.args.word (omega arith) c.if-word-ne6.false)

pub returns : goal.returns
unfolding patterns_before rank
returns c = index_in-halves c.args.word (omega arith) c.if-word-ne6.false
