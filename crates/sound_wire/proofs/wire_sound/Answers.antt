-- `wire_sound` compares one row after the other with the one that its group's requests make: each one before g is the same, and one that is not
-- fails the clause. Assumes nothing.
use mathlib.Core.Path.{◌≡◌, sym, ap, ◌∙◌}
use mathlib.Core.Bool.{Bool}
use mathlib.Core.List.{List}
use Prim.Native.Nat.{ℕ, suc, ◌+◌}
use native.Mathlib.Numerals.{add-one}
use native.Mathlib.Omega.{arith}
use borrow.Author.Rules.{rules}
use borrow.Author.Tests.{eq-eqb}
use borrow.Author.Count.{below_more}
use lib.ListN.{length, get_or}
use Rattle.listlaws.specs.Every.{every_from}
use Rattle.listlaws.proofs.Table.{every_fails, every_holds}
use Rattle.minislot.specs.declared.Minislot.{Minislot}
use Rattle.requests.specs.Together.{silent}
use Rattle.rules.specs.declared.TableMessage.{TableMessage}
use Rattle.rules.specs.declared.WireRow.{WireRow}
use Rattle.channel_rules.specs.Soundness.{same_minislot}
use Rattle.asked_rows.specs.declared.WireRequest.{WireRequest}
use Rattle.asked_rows.specs.Asked.{requests_of, carried_row}
use Rattle.sound_wire.specs.Wire.{row_carries, wire_carries}
use Rattle.drawing.proofs.Agreeing.{every-same}
use Rattle.sound_wire.proofs.Carrying.{row_carries_lem}
use Rattle.sound_wire.proofs.wire_sound.Goals as goal
use Rattle.sound_wire.proofs.wire_sound.Invariants.{empty_row, at}

-- rows compared with those that the requests drawn out of the messages make are compared with the clause's
wire_drawn : (m : List TableMessage) (asked : List WireRequest) → asked ≡ requests_of m → (wire : List WireRow) → length wire ≡ 8
    → every_from (at asked) 0 wire ≡ wire_carries m wire
unfolding wire_carries
wire_drawn m asked e wire h =
    rw (eq-eqb (length wire) 8 h)
    (every-same (at asked) (λ (i : ℕ) (row : WireRow). row_carries m (suc i) row) 0 wire
    (λ i row q. ap (λ (l : List WireRequest). at l i row) e ∙ row_carries_lem m (suc i) row))

-- one row compared
compared : (requests : List WireRequest) (i : ℕ) (row : WireRow) (b : List Minislot) (x : Bool) → b ≡ carried_row (i + 1) requests
    → (length row.minislots ≡ 8) × (x ≡ every_from (λ j slot. same_minislot slot (get_or b j silent)) 0 row.minislots) → at requests i row ≡ x
compared requests i row b x f e =
    rw (eq-eqb (length row.minislots) 8 e.0)
    (sym (e.1 ∙ ap (λ (y : List Minislot). every_from (λ j slot. same_minislot slot (get_or y j silent)) 0 row.minislots) (rw add-one at f)))

pub returns-then-not-same_minislots : goal.returns-then-not-same_minislots
returns-then-not-same_minislots c =
    let l = c.loop-g in
    let a = c.args in
    let r = c.requests-asked in
    let v : length a.wire.now ≡ 8 = search rules in
    let e = compared r.result.items l.g (get_or a.wire.now l.g empty_row) c.row_of-expected.result c.same_minislots.result (c.row_of-expected.ensures ∙ ap (carried_row (l.g + 1)) c.as_slice.ensures.value) c.same_minislots.ensures in
    sym (every_fails (at r.result.items) empty_row a.wire.now l.g (omega arith) (e ∙ c.if-not-same_minislots.true)) ∙ wire_drawn a.messages.now.items r.result.items r.ensures a.wire.now v

pub loop-g-preserved : goal.loop-g-preserved
loop-g-preserved c =
    let l = c.loop-g in
    let e = compared c.requests-asked.result.items l.g (get_or c.args.wire.now l.g empty_row) c.row_of-expected.result c.same_minislots.result (c.row_of-expected.ensures ∙ ap (carried_row (l.g + 1)) c.as_slice.ensures.value) c.same_minislots.ensures in
    below_more _ _ l.invariant (e ∙ c.if-not-same_minislots.false)

pub returns : goal.returns
returns c =
    let l = c.loop-g in
    let a = c.args in
    let r = c.requests-asked in
    let v : length a.wire.now ≡ 8 = search rules in
    sym (every_holds (at r.result.items) empty_row a.wire.now (λ k h. l.invariant k (omega arith))) ∙ wire_drawn a.messages.now.items r.result.items r.ensures a.wire.now v
