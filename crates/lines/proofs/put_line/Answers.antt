-- `put_line` meets its contract: where there is room for the line, its two halves are written one after the other.
-- Assumes nothing.
use mathlib.Core.Path.{◌≡◌, sym, ◌∙◌}
use Prim.Native.Nat.{◌+◌, ◌≤◌}
use native.Mathlib.Omega.{arith}
use lib.ListN.{length}
use borrow.Author.Tests.{leb-true}
use Rattle.lines.specs.Lines.{line_of}
use Rattle.lines.specs.Pieces.{slot_bytes, counter_bytes}
use Rattle.decimals.proofs.Stores.{Wrote, and_then, put_whole, put-none}
use Rattle.lines.proofs.LineLaws.{slot-length, counter_length, line-halves, line-length}
use Rattle.lines.proofs.put_line.Goals as goal

pub write_slot-half-requires : goal.write_slot-half-requires
write_slot-half-requires c =
    let a = c.args in
    let size = c.digits-a.result + c.digits-b.result + c.digits-c.result + c.digits-d.result + c.digits-e.result + 8 in
    let f : a.at + size ≤ length a.out.now = leb-true (a.at + size) (length a.out.now) (sym c.has_room.ensures ∙ c.if-has_room.true) in
    (c.digits-a.ensures.count, c.digits-b.ensures.count, omega (arith, f))

pub write_counters-requires : goal.write_counters-requires
write_counters-requires c =
    let a = c.args in
    let size = c.digits-a.result + c.digits-b.result + c.digits-c.result + c.digits-d.result + c.digits-e.result + 8 in
    let f : a.at + size ≤ length a.out.now = leb-true (a.at + size) (length a.out.now) (sym c.has_room.ensures ∙ c.if-has_room.true) in
    let w = c.write_slot-half in
    (c.digits-c.ensures.count, c.digits-d.ensures.count, c.digits-e.ensures.count, omega (arith, f, w.ensures.reached, w.auto.out))

pub returns-then-has_room : goal.returns-then-has_room
returns-then-has_room c =
    let a = c.args in
    let e : length (line_of a.slot a.group a.turn a.urgent a.long a.resolution)
    ≡ c.digits-a.result + c.digits-b.result + c.digits-c.result + c.digits-d.result + c.digits-e.result + 8
    = omega (arith, line-length a.slot a.group a.turn a.urgent a.long a.resolution, c.digits-a.ensures.count, c.digits-b.ensures.count, c.digits-c.ensures.count, c.digits-d.ensures.count, c.digits-e.ensures.count) in
    let vs = c.write_slot-half in
    let vc = c.write_counters in
    let first : Wrote a.out.now a.at (slot_bytes a.slot a.group a.turn) vs.new.out vs.result
    = record { stored = vs.ensures.buffer; reached = omega (arith, vs.ensures.reached, slot-length a.slot a.group a.turn, c.digits-a.ensures.count, c.digits-b.ensures.count) } in
    let second : Wrote vs.new.out vs.result (counter_bytes a.urgent a.long a.resolution) vc.new.out vc.result
    = record { stored = vc.ensures.buffer; reached = omega (arith, vc.ensures.reached, counter_length a.urgent a.long a.resolution, c.digits-c.ensures.count, c.digits-d.ensures.count, c.digits-e.ensures.count) } in
    let all_told = put_whole (rw line-halves at (and_then first second)) (rw e (sym c.has_room.ensures ∙ c.if-has_room.true)) in
    record { buffer = all_told.0; reached = all_told.1 }

pub returns-else-has_room : goal.returns-else-has_room
returns-else-has_room c =
    let a = c.args in
    let e : length (line_of a.slot a.group a.turn a.urgent a.long a.resolution)
    ≡ c.digits-a.result + c.digits-b.result + c.digits-c.result + c.digits-d.result + c.digits-e.result + 8
    = omega (arith, line-length a.slot a.group a.turn a.urgent a.long a.resolution, c.digits-a.ensures.count, c.digits-b.ensures.count, c.digits-c.ensures.count, c.digits-d.ensures.count, c.digits-e.ensures.count) in
    let all_told = put-none _ a.at (line_of a.slot a.group a.turn a.urgent a.long a.resolution) (rw e (sym c.has_room.ensures ∙ c.if-has_room.false)) in
    record { buffer = all_told.0; reached = all_told.1 }
