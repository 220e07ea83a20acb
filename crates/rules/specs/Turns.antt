-- Step 2: the turn, and the Open mark (paper 01, "One slot of group g", 2; paper 02, T-02). Assumes nothing.
use Rattle.std.specs.Prelude.{Bool, true, false, cond, ℕ, ltb}
use Rattle.std.proofs.Math.Option.{Option, none, some}
use Rattle.rules.specs.declared.Places.{Places}
pub use Rattle.rules.specs.declared.Turn.{Turn}
pub use Rattle.rules.specs.declared.Turn.TheVariants.{Owned as OwnedTurn, Urgent as UrgentTurn, Long as LongTurn}
pub use Rattle.rules.specs.declared.Turn.TheVariants.{Resolve as ResolveTurn, Open as OpenTurn}

-- a position that has an owner: owned, and it names the owner. A free one: H > 0: urgent; else N > 0: long; else RQ > 0: resolve; else
-- open. The lengths are those after step 1
unfoldable pub turn_of : Option ℕ → Places → Turn
turn_of (some x) p = OwnedTurn x
turn_of none p = cond (ltb 0 p.urgent) UrgentTurn (cond (ltb 0 p.long) LongTurn (cond (ltb 0 p.resolution) ResolveTurn OpenTurn))

-- Open becomes yes exactly on an open turn
abbrev pub is_open : Turn → Bool
is_open (OwnedTurn x) = false
is_open UrgentTurn = false
is_open LongTurn = false
is_open ResolveTurn = false
is_open OpenTurn = true
