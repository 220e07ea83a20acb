-- `cut_record` meets its contract: each way of its loop is a law of `Cuts`. Assumes nothing.
use borrow.Author.Rules.{rules}
use mathlib.Core.Path.{sym, ◌∙◌}
use native.Mathlib.Omega.{arith}
use Rattle.records.proofs.CutAnswers.{cut-answered}
use Rattle.records.proofs.Cuts.{begins-none, begins-some, ends_last, goes_open, goes_return, goes-full, goes_feed, goes-more}
use Rattle.records.proofs.cut_record.Goals as goal

pub returns-then-ended : goal.returns-then-ended
returns-then-ended c =
    let all_told = let a = c.args in
    cut-answered _ _ _ _ _ (sym (begins-none a.ended a.start _ _ c.if-bytes-start.true ∙ rw c.if-ended.true)) in
    record { cut = all_told.0; number = all_told.1 }

pub returns-then-bytes-start : goal.returns-then-bytes-start
returns-then-bytes-start c =
    let all_told = let a = c.args in
    cut-answered _ _ _ _ _ (sym (begins-none a.ended a.start _ _ c.if-bytes-start.true ∙ rw c.if-ended.false)) in
    record { cut = all_told.0; number = all_told.1 }

pub loop-at-init : goal.loop-at-init
loop-at-init c =
    let a = c.args in
    begins-some a.ended a.start _ _ c.if-bytes-start.false

pub returns-then-b-eq-CR : goal.returns-then-b-eq-CR
returns-then-b-eq-CR c =
    let all_told = let l = c.loop-at in
    cut-answered _ _ _ _ _ (c.after_return.ensures ∙ sym (goes_return _ l.at _ l.room (search rules) (search rules)) ∙ l.invariant) in
    record { cut = all_told.0; number = all_told.1 }

pub returns-then-room-eq0 : goal.returns-then-room-eq0
returns-then-room-eq0 c =
    let all_told = let l = c.loop-at in
    cut-answered _ _ _ _ _ (sym (goes-full _ l.at _ l.room (search rules) (search rules) (search rules)) ∙ l.invariant) in
    record { cut = all_told.0; number = all_told.1 }

pub returns-then-b-eq-LF : goal.returns-then-b-eq-LF
returns-then-b-eq-LF c =
    let all_told = let l = c.loop-at in
    cut-answered _ _ _ _ _ (sym (goes_feed _ l.at _ l.room (search rules) (search rules) (search rules)) ∙ l.invariant) in
    record { cut = all_told.0; number = all_told.1 }

pub loop-at-preserved : goal.loop-at-preserved
loop-at-preserved c =
    let l = c.loop-at in
    sym (goes-more _ l.at _ l.room (search rules) (search rules) (search rules) (search rules)) ∙ l.invariant

pub returns-then-ended-2 : goal.returns-then-ended-2
returns-then-ended-2 c =
    let all_told = let l = c.loop-at in
    cut-answered _ _ _ _ _ (sym (ends_last _ l.at _ l.room (omega arith) (search rules)) ∙ l.invariant) in
    record { cut = all_told.0; number = all_told.1 }

pub returns : goal.returns
returns c =
    let all_told = let l = c.loop-at in
    cut-answered _ _ _ _ _ (sym (goes_open _ l.at _ l.room (search rules) (search rules)) ∙ l.invariant) in
    record { cut = all_told.0; number = all_told.1 }
