-- `after_return` meets its contract: each of its ways is a case of `after_return`.
-- Assumes nothing.
use mathlib.Core.Path.{sym, ◌∙◌}
use Prim.Native.Nat.{◌+◌}
use Rattle.records.proofs.Cuts.{return_feed, return_other, return_last}
use Rattle.records.proofs.after_return.Goals as goal

pub returns-then-b-eq-LF : goal.returns-then-b-eq-LF
returns-then-b-eq-LF c =
    let a = c.args in
    sym (return_feed a.ended a.at (a.at + 1) a.bytes.now c.if-next-bytes.true c.if-b-eq-LF.true)

pub returns-then-next-bytes : goal.returns-then-next-bytes
returns-then-next-bytes c =
    let a = c.args in
    sym (return_other a.ended a.at _ _ c.if-next-bytes.true c.if-b-eq-LF.false)

pub returns-then-ended : goal.returns-then-ended
returns-then-ended c =
    let a = c.args in
    sym (return_last a.ended a.at _ _ c.if-next-bytes.false ∙ rw c.if-ended.true)

pub returns : goal.returns
returns c =
    let a = c.args in
    sym (return_last a.ended a.at _ _ c.if-next-bytes.false ∙ rw c.if-ended.false)
