-- A pattern's index is the number of patterns with a smaller upper half and of those with the same upper half and a smaller lower one: by
-- one test that is computed over the 924 patterns, and carried to each of them.
-- Assumes nothing.
use mathlib.Core.Path.{◌≡◌, refl, subst}
use mathlib.Core.Bool.{Bool, true}
use Prim.Native.Nat.{ℕ, ◌+◌, ◌/◌, ◌%◌, ◌<◌}
use borrow.Author.Tests.{eqb-true}
use lib.Count.{ones}
use lib.Dec.{eqb}
use lib.ListN.{get_or}
use Rattle.listlaws.specs.Every.{every_from}
use Rattle.listlaws.proofs.Table.{every-at}
use Rattle.pattern.specs.Patterns.{patterns, word_of, index_of}
use Rattle.pattern.proofs.Patterns.{count_of-patterns, pattern-of}
use Rattle.indexing.specs.Halves.{patterns_before, rank}

halves : ℕ → ℕ → Bool
halves i w = eqb (get_or patterns_before (w / 64) 0 + get_or rank (w % 64) 0) i

halves_of-all : every_from halves 0 patterns ≡ true
unfolding patterns halves patterns_before rank
halves_of-all = refl

pub index_in-halves : (w : ℕ) → w < 4096 → ones w ≡ 6 → get_or patterns_before (w / 64) 0 + get_or rank (w % 64) 0 ≡ index_of w
unfolding halves word_of
index_in-halves w h e =
    let p = pattern-of w h e in
    subst (λ (x : ℕ). get_or patterns_before (x / 64) 0 + get_or rank (x % 64) 0 ≡ index_of w) p.1
    (eqb-true _ _ (every-at halves 0 patterns halves_of-all (index_of w) (rw count_of-patterns p.0)))
