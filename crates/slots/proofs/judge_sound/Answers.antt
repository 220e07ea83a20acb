-- `judge_sound` goes through the last tests in order, each as any sound channel with these counters does. Assumes nothing.
use mathlib.Core.Path.{◌≡◌, sym, ap, subst, ◌∙◌}
use borrow.Author.Tests.{not-true, not-false}
use Rattle.minislot.specs.declared.RowReading.{RowReading}
use Rattle.rules.specs.declared.Outcome.{Outcome}
use Rattle.rules.specs.declared.StepOne.{StepOne}
use Rattle.rules.specs.Hearing.{feedback_of, ReadRow}
use Rattle.rules.specs.Outcome.{outcome_of}
use Rattle.rules.specs.Queueing.{step_one_of}
use Rattle.wire_hearing.specs.GroupRead.{group_read}
use Rattle.slots.proofs.Rows.{row_read, on_17, on_11, on_7, on-goes}
use Rattle.slots.proofs.judge_sound.Goals as goal

pub returns-then-picks-n : goal.returns-then-picks-n
returns-then-picks-n c ch s =
    let a = c.args in
    c.refuse_slot.ensures ∙ on_17 a.c a.n a.wire a.picks.now c.requires c.if-picks-n.true ch s

pub returns-then-not-picks_within : goal.returns-then-not-picks_within
returns-then-not-picks_within c ch s =
    let a = c.args in
    c.refuse_slot-then-not-picks_within.ensures
    ∙ on_11 a.c a.n a.wire a.picks.now c.requires c.if-picks-n.false (sym c.picks_within.ensures ∙ c.if-not-picks_within.true) ch s

pub returns-then-not-one : goal.returns-then-not-one
returns-then-not-one c ch s =
    let a = c.args in
    let one : c.step_one-one.result ≡ step_one_of a.c (feedback_of a.c.minislots (group_read a.c a.wire)) =
    c.step_one-one.ensures ∙ ap (λ (row : RowReading). step_one_of a.c (feedback_of a.c.minislots row)) c.read_group-row.ensures in
    c.refuse_slot-then-not-one.ensures
    ∙ on_7 a.c a.n a.wire a.picks.now c.requires c.if-picks-n.false (sym c.picks_within.ensures ∙ c.if-not-picks_within.false)
    (sym (ap (λ (x : StepOne). x.fits) one) ∙ not-true _ c.if-not-one.true) ch s

pub outcome-requires : goal.outcome-requires
outcome-requires c =
    let a = c.args in
    record {
      within = c.requires.within;
      read = subst (λ (row : RowReading). ReadRow a.c.minislots row) (sym c.read_group-row.ensures) (row_read a.c a.n a.wire a.picks.now c.requires);
      counted = c.step_one-one.ensures;
      fits = not-false _ c.if-not-one.false;
    }

pub returns : goal.returns
returns c ch s =
    let a = c.args in
    let row : c.read_group-row.result ≡ group_read a.c a.wire = c.read_group-row.ensures in
    let one : c.step_one-one.result ≡ step_one_of a.c (feedback_of a.c.minislots (group_read a.c a.wire)) =
    c.step_one-one.ensures ∙ ap (λ (r : RowReading). step_one_of a.c (feedback_of a.c.minislots r)) row in
    ap (λ (o : Outcome). record { number = 0; steps = a.n; outcome = o })
    (c.outcome.ensures ∙ ap (λ (r : RowReading). outcome_of a.c (feedback_of a.c.minislots r)) row)
    ∙ on-goes a.c a.n a.wire a.picks.now c.requires c.if-picks-n.false (sym c.picks_within.ensures ∙ c.if-not-picks_within.false)
    (sym (ap (λ (x : StepOne). x.fits) one) ∙ not-false _ c.if-not-one.false) ch s
