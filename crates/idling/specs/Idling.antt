-- A message that a slot passes by, told by one test: `idle-stays` of proofs/Passed says that by the rules it then does nothing. Assumes
-- nothing.
use Rattle.std.specs.Prelude.{Bool, true, false, not, cond, ℕ, eqb}
use Rattle.rules.specs.declared.Turn.{Turn}
use Rattle.rules.specs.declared.Turn.TheVariants.{Owned as OwnedTurn, Urgent as UrgentTurn, Long as LongTurn, Resolve as ResolveTurn, Open as OpenTurn}
use Rattle.rules.specs.declared.Condition.{Condition}
use Rattle.rules.specs.declared.Condition.TheVariants.{Free, Held, Fresh, Asked, Resolving, Urgent, Long}

abbrev pub serves_urgent : Turn → Bool
serves_urgent (OwnedTurn x) = false
serves_urgent UrgentTurn = true
serves_urgent LongTurn = false
serves_urgent ResolveTurn = false
serves_urgent OpenTurn = false

abbrev pub serves_long : Turn → Bool
serves_long (OwnedTurn x) = false
serves_long UrgentTurn = false
serves_long LongTurn = true
serves_long ResolveTurn = false
serves_long OpenTurn = false

-- by the slot's turn, its group g and the group's RQ after step 1: a fresh message while RQ is not 0, one that asked in another group, one
-- in a resolution queue that stands still, one in a transmission queue that the turn does not serve
unfoldable pub idle_in : Turn → ℕ → ℕ → Condition → Bool
idle_in t r g Free = true
idle_in t r g (Held n) = true
idle_in t r g (Fresh n) = not (eqb r 0)
idle_in t r g (Asked h j n) = not (eqb h g)
idle_in t r g (Resolving h i n) = cond (eqb h g) (eqb r 0) true
idle_in t r g (Urgent i) = not (serves_urgent t)
idle_in t r g (Long f l n) = not (serves_long t)
