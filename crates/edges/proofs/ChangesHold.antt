-- Each counter's law of change in one slot, and that listening is a function of the record and the row: equal records that hear equal rows
-- are equal after, with equal answers. By what a row adds, then by the turn.
-- Assumes nothing.
use mathlib.Core.Path.{◌≡◌, refl, ap, ◌∙◌}
use mathlib.Core.Bool.{Bool, true, false, cond}
use mathlib.Core.List.{List}
use mathlib.Core.Option.{Option, none, some}
use Prim.Native.Nat.{ℕ, ◌+◌, ◌-◌, ◌<◌}
use native.Mathlib.Omega.{arith}
use lib.Dec.{ltb}
use lib.ListN.{length}
use lib.Seq.{get_or-set_same, get_or-set_other}
use borrow.Author.Tests.{ltb-true}
use Rattle.minislot.specs.declared.Feedback.{Feedback}
use Rattle.rules.specs.declared.Counters.{Counters}
use Rattle.rules.specs.declared.Places.{Places}
use Rattle.rules.specs.Calendars.{owner_of}
use Rattle.rules.specs.Limits.{within_limits}
use Rattle.rules.specs.Queueing.{places_of, immediate_of, places_after}
use Rattle.rules.specs.declared.Turn.TheVariants.{Urgent as UrgentTurn, Long as LongTurn, Resolve as ResolveTurn, Open as OpenTurn}
use Rattle.rules.specs.Turns.{turn_of}
use Rattle.rules.specs.Falling.{fallen, urgent_falls, long_falls}
use Rattle.rules.specs.Listening.{listening_of}
use Rattle.edges.specs.Changes.{urgent_served, long_served, Changes}
use Rattle.rules.proofs.LimitLaws.{within-limits, arrays-lengths}
use Rattle.rules.proofs.QueueingLaws.{added}

-- ---- listening is a function

pub same-listening : (c d : Counters) (words words' counts counts' : List ℕ) → c ≡ d → words ≡ words' → counts ≡ counts'
    → listening_of c words counts ≡ listening_of d words' counts'
same-listening c d words words' counts counts' e w n = rw (e, w, n)

-- ---- what a turn takes

-- the turn serves a queue that holds a place
urgent-taken : (o : Option ℕ) (p : Places) → urgent_falls (turn_of o p) p.urgent + urgent_served (turn_of o p) ≡ p.urgent
unfolding turn_of
urgent-taken (some x) p = omega arith
urgent-taken none p = go (ltb 0 p.urgent) refl (ltb 0 p.long) (ltb 0 p.resolution)
  where
    go : (x : Bool) → ltb 0 p.urgent ≡ x → (y z : Bool)
        → urgent_falls (cond x UrgentTurn (cond y LongTurn (cond z ResolveTurn OpenTurn))) p.urgent
        + urgent_served (cond x UrgentTurn (cond y LongTurn (cond z ResolveTurn OpenTurn))) ≡ p.urgent
    go true e y z = omega (arith, ltb-true 0 p.urgent e)
    go false e true z = omega arith
    go false e false true = omega arith
    go false e false false = omega arith

long-taken : (o : Option ℕ) (p : Places) → long_falls (turn_of o p) p.long + long_served (turn_of o p) ≡ p.long
unfolding turn_of
long-taken (some x) p = omega arith
long-taken none p = go (ltb 0 p.urgent) (ltb 0 p.long) refl (ltb 0 p.resolution)
  where
    go : (x y : Bool) → ltb 0 p.long ≡ y → (z : Bool)
        → long_falls (cond x UrgentTurn (cond y LongTurn (cond z ResolveTurn OpenTurn))) p.long
        + long_served (cond x UrgentTurn (cond y LongTurn (cond z ResolveTurn OpenTurn))) ≡ p.long
    go true y e z = omega arith
    go false true e z = omega (arith, ltb-true 0 p.long e)
    go false false e true = omega arith
    go false false e false = omega arith

-- ---- the law of change

changes : (c : Counters) (row : List Feedback) → c.next - 1 < length c.resolution → c.next - 1 < length c.opened → Changes c row
unfolding fallen places_after
changes c row hr ho =
    let p = places_after c row in
    let a = added (immediate_of c row) (places_of c) row in
    record {
      urgent = urgent-taken (owner_of c) p ∙ a.urgent;
      long = long-taken (owner_of c) p ∙ a.long;
      resolution = get_or-set_same c.resolution (c.next - 1) (p.resolution - 1) 0 hr ∙ ap (λ (r : ℕ). r - 1) a.resolution;
      mark = get_or-set_same c.opened (c.next - 1) _ false ho;
      others = λ g h. (get_or-set_other c.resolution (c.next - 1) (g - 1) _ 0 h, get_or-set_other c.opened (c.next - 1) (g - 1) _ false h);
      next = refl;
      calendar = refl;
      position = refl;
    }

-- for every record within its limits
pub changes-within : (c : Counters) (row : List Feedback) → within_limits c ≡ true → Changes c row
changes-within c row e =
    let w = within-limits c e in
    let n = arrays-lengths c w.arrays in
    changes c row (omega (arith, n.0, w.next, w.groups)) (omega (arith, n.1, w.next, w.groups))
