-- `word_at` puts the two halves of a pattern together: they are found in the word of each index, and so fit.
-- Assumes nothing.
use mathlib.Core.Path.{◌≡◌, ap, ◌∙◌}
use Prim.Native.Nat.{ℕ, ◌+◌, ◌*◌, ◌-◌, ◌≤◌, ◌<◌}
use native.Mathlib.Omega.{arith}
use lib.ListN.{get_or}
use Rattle.pattern.specs.Patterns.{word_of}
use Rattle.pattern.proofs.Patterns.{pattern-below}
use Rattle.wording.specs.Lowers.{lowers, place_of_lower}
use Rattle.wording.proofs.Lowers.{word_in_halves}
use Rattle.wording.proofs.word_at.Goals as goal

-- what is found of the index, once its upper half is reached
found : (c : goal.After-reached-upper)
    → (1 ≤ c.reached-upper.result)
    × (get_or c.args.before.now (c.reached-upper.result - 1) 0 ≤ c.args.index)
    × (place_of_lower (c.reached-upper.result - 1) (c.args.index - get_or c.args.before.now (c.reached-upper.result - 1) 0) < 64)
    × ((c.reached-upper.result - 1) * 64
    + get_or lowers (place_of_lower (c.reached-upper.result - 1) (c.args.index - get_or c.args.before.now (c.reached-upper.result - 1) 0)) 0
    ≡ word_of c.args.index)
found c = word_in_halves _ c.args.index _ c.requires.0 c.requires.1 c.reached-upper.ensures.0

pub reached-upper-requires : goal.reached-upper-requires
reached-upper-requires c = c.requires.0

pub overflow_sub-upper : goal.overflow_sub-upper
overflow_sub-upper c = (found c).0

pub bounds-before-upper : goal.bounds-before-upper
bounds-before-upper c = omega (arith, ((word_in_halves _ c.args.index _ c.requires.0 c.requires.1 c.reached-upper.ensures.0)).0)

pub overflow_sub-rank : goal.overflow_sub-rank
overflow_sub-rank c = ((word_in_halves _ c.args.index _ c.requires.0 c.requires.1 c.reached-upper.ensures.0)).1

pub lower_of-requires : goal.lower_of-requires
lower_of-requires c = (omega (arith, ((word_in_halves _ c.args.index _ c.requires.0 c.requires.1 c.reached-upper.ensures.0)).0), ((word_in_halves _ c.args.index _ c.requires.0 c.requires.1 c.reached-upper.ensures.0)).2)

pub overflow_add-result : goal.overflow_add-result
overflow_add-result c =
    let s = c in
    omega (arith, ((word_in_halves _ c.args.index _ c.requires.0 c.requires.1 c.reached-upper.ensures.0)).3, c.lower_of.ensures, pattern-below s.args.index s.requires.1)

pub returns : goal.returns
returns c =
    ap (λ (l : ℕ). (c.reached-upper.result - 1) * 64 + l) c.lower_of.ensures ∙ ((word_in_halves _ c.args.index _ c.requires.0 c.requires.1 c.reached-upper.ensures.0)).3
