-- `listen_row` is steps 1 to 5: 7 where step 1 does not fit, else the turn and the record after. Assumes nothing.
use mathlib.Core.Path.{◌≡◌, ◌∙◌, sym, ap}
use mathlib.Core.Bool.{true, false}
use native.Mathlib.Omega.{arith}
use Rattle.rules.specs.declared.StepOne.{StepOne}
use Rattle.rules.specs.Hearing.{feedback_of}
use Rattle.rules.specs.Listening.{heard_number_of, listened, listen_of}
use Rattle.rules.proofs.LimitLaws.{within-limits, calendar-in}
use Rattle.rules.proofs.QueueingLaws.{fits-says, after_is}
use borrow.Author.Rules.{rules}
use borrow.Author.Tests.{not-true, not-false}
use Rattle.listening.proofs.listen_row.Goals as goal

pub returns-then-not-one : goal.returns-then-not-one
unfolding listen_of heard_number_of listened
returns-then-not-one c =
    let one = c.step_one-one in
    let past : one.result.fits ≡ false = search (not-true, rules) in
    rw (c.refused.ensures, ap (λ (o : StepOne). o.fits) (sym one.ensures) ∙ past)

pub fall-requires : goal.fall-requires
fall-requires c =
    let a = c.args in
    let q = c.requires in
    let s = c.step_one-one.ensures in
    let row = feedback_of a.c.minislots a.row in
    let w = within-limits a.c q in
    let fit : c.step_one-one.result.fits ≡ true = search (not-false, rules) in
    let fits = ap (λ (o : StepOne). o.fits) (sym s) ∙ fit in
    ((w.next.0, omega arith, (calendar-in a.c w.calendar).position), rw (s, after_is a.c row) (fits-says a.c row fits))

pub returns : goal.returns
unfolding listen_of heard_number_of listened
returns c =
    let s = c.step_one-one.ensures in
    let fit : c.step_one-one.result.fits ≡ true = search (not-false, rules) in
    let fits = ap (λ (o : StepOne). o.fits) (sym s) ∙ fit in
    rw (c.turn.ensures, c.coming.ensures, c.fall.ensures, s, fits)
