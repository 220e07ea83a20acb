-- `immediate_success` counts what the row brings apart, in queues that are empty before it: what then stands in the resolution queue are the
-- row's Collides, in the urgent one its Singles of count 1. Assumes nothing.
use mathlib.Core.Path.{◌≡◌, refl, sym, ◌∙◌}
use mathlib.Core.Bool.{Bool, true, false, not, false≢true}
use mathlib.Core.List.{List}
use native.Mathlib.Omega.{arith}
use borrow.Author.Tests.{ne_eqb}
use lib.Dec.{eqb}
use lib.ListN.{take}
use Rattle.minislot.specs.declared.Feedback.{Feedback}
use Rattle.rows.specs.Row.{feedback_in}
use Rattle.rules.specs.declared.Places.{Places}
use Rattle.rules.specs.RowCounts.{short_singles, collides}
use Rattle.rules.specs.Queueing.{immediate, queued_row}
use Rattle.rules.proofs.QueueingLaws.{added, never-beside}
use Rattle.immediate.proofs.immediate_success.Goals as goal

-- queues that are empty
abbrev none : Places
none = record { urgent = 0; long = 0; resolution = 0 }

collides_are : (row : List Feedback) → (queued_row false none row).resolution ≡ collides row
collides_are row = (added false none row).resolution ∙ omega arith

shorts_are : (row : List Feedback) → (queued_row false none row).urgent ≡ short_singles row
shorts_are row = (added false none row).urgent ∙ omega arith

shut : (b : Bool) (row : List Feedback) → not b ≡ true → false ≡ immediate b row
shut true row e = absurd (false≢true e)
shut false row e = refl

counted : (b : Bool) (row : List Feedback) → not b ≡ false → collides row ≡ 0 → eqb (short_singles row) 1 ≡ immediate b row
counted true row e n = rw n
counted false row e n = absurd (false≢true (sym e))

pub returns-then-not-opened : goal.returns-then-not-opened
returns-then-not-opened c = shut c.args.opened (take c.args.m (feedback_in c.args.row)) c.if-not-opened.true-raw

pub returns-else-brought-eq0 : goal.returns-else-brought-eq0
returns-else-brought-eq0 c =
    let a = c.args in
    let row = take a.m (feedback_in a.row) in
    let brought : c.queue_row-brought.result.resolution ≡ collides row = rw c.queue_row-brought.ensures (collides_are row) in
    rw (ne_eqb _ _ c.if-brought-eq0.false) (sym (never-beside a.opened row (λ e. omega (arith, brought, c.if-brought-eq0.false))))

pub returns-then-brought-eq0 : goal.returns-then-brought-eq0
returns-then-brought-eq0 c =
    let a = c.args in
    let row = take a.m (feedback_in a.row) in
    let counts = c.queue_row-brought.ensures in
    let brought : c.queue_row-brought.result.resolution ≡ collides row = rw counts (collides_are row) in
    let none-met : collides row ≡ 0 = omega (arith, brought, c.if-brought-eq0.true) in
    rw (counts, shorts_are row) (counted a.opened row c.if-not-opened.false-raw none-met)
