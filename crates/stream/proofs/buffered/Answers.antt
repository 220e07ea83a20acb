-- `buffered` meets its contract: by what a round of its loop comes to (programs/proofs/Steps). Assumes nothing.
use Rattle.std.proofs.Common.{◌≡◌, true, false, length, sym, ◌∙◌, arith}
use Rattle.programs.specs.Buffering.{room_for, reached_by}
use Rattle.programs.proofs.Steps.{begun, parts_are, no_round, no_room, went_on, stopped}
use Rattle.stream.proofs.buffered.Goals as goal

pub loop-round-init : goal.loop-round-init
loop-round-init g c =
    let a = c.args in
    begun g.P.Program.program a.state a.bytes.now a.start a.ended a.out.now a.at _ (omega arith)

pub loop-round-preserved : goal.loop-round-preserved
loop-round-preserved g c =
    let P = g.P.Program.program in
    let a = c.args in
    let l = c.loop-round in
    let v = c.next-n.ensures in
    let room : room_for P (length l.out) l.n.at ≡ true =
    rw (g.met.P.Program.room_is, ← c.ROOM.ensures) (sym c.has_room.ensures ∙ c.if-not-has_room.false) in
    let goes = sym c.goes_on.ensures ∙ c.if-not-goes_on.false in
    sym (went_on P a.bytes.now a.ended l.out (reached_by l.n) _ _ v.buffer v.answer room _ _ (omega arith) goes) ∙ l.invariant

pub returns-else-not-goes_on : goal.returns-else-not-goes_on
returns-else-not-goes_on g c =
    let P = g.P.Program.program in
    let a = c.args in
    let l = c.loop-round in
    let v = c.next-n.ensures in
    let room : room_for P (length l.out) l.n.at ≡ true =
    rw (g.met.P.Program.room_is, ← c.ROOM.ensures) (sym c.has_room.ensures ∙ c.if-not-has_room.false) in
    let goes = sym c.goes_on.ensures ∙ c.if-not-goes_on.false in
    let went = went_on P a.bytes.now a.ended l.out (reached_by l.n) _ _ v.buffer v.answer room _ 0 (omega arith) goes in
    let parts = parts_are P (sym (no_round P a.bytes.now a.ended c.next-n.new.out (reached_by c.next-n.result) 0 (omega arith)) ∙ sym went ∙ l.invariant) in
    record { buffer = parts.0; answer = parts.1 }

pub returns-then-not-goes_on : goal.returns-then-not-goes_on
returns-then-not-goes_on g c =
    let P = g.P.Program.program in
    let a = c.args in
    let l = c.loop-round in
    let v = c.next-n.ensures in
    let room : room_for P (length l.out) l.n.at ≡ true =
    rw (g.met.P.Program.room_is, ← c.ROOM.ensures) (sym c.has_room.ensures ∙ c.if-not-has_room.false) in
    let goes = sym c.goes_on.ensures ∙ c.if-not-goes_on.true in
    let parts = parts_are P (sym (stopped P a.bytes.now a.ended l.out (reached_by l.n) _ _ v.buffer v.answer room _ (omega arith) goes) ∙ l.invariant) in
    record { buffer = parts.0; answer = parts.1 }

pub returns-then-not-has_room : goal.returns-then-not-has_room
returns-then-not-has_room g c =
    let P = g.P.Program.program in
    let a = c.args in
    let l = c.loop-round in
    let room : room_for P (length l.out) l.n.at ≡ false =
    rw (g.met.P.Program.room_is, ← c.ROOM.ensures) (sym c.has_room.ensures ∙ c.if-not-has_room.true) in
    let parts = parts_are P (sym (no_room P a.bytes.now a.ended l.out (reached_by l.n) _ (omega arith) room) ∙ l.invariant) in
    record { buffer = parts.0; answer = parts.1 }

pub returns : goal.returns
returns g c =
    let P = g.P.Program.program in
    let a = c.args in
    let l = c.loop-round in
    let parts = parts_are P (sym (no_round P a.bytes.now a.ended l.out (reached_by l.n) _ (omega arith)) ∙ l.invariant) in
    record { buffer = parts.0; answer = parts.1 }
