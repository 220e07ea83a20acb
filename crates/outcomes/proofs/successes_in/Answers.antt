-- `successes_in` counts one minislot after the other: the count, and that of what is left of the row, is the row's. Assumes nothing.
use mathlib.Core.List.{List, ◌∷◌}
use mathlib.Core.Path.{◌≡◌, sym, ap, ◌∙◌}
use Prim.Native.Nat.{ℕ, ◌+◌, ◌≤◌, ◌<◌}
use native.Mathlib.Numerals.{add-one}
use native.Mathlib.Omega.{arith}
use borrow.Author.Rules.{rules}
use lib.Seq.{drop-cons}
use lib.ListN.{length, get_or, take, drop, drop_of_length-le, length-take, length-map, get_or-map}
use Rattle.minislot.specs.declared.Feedback.{Feedback}
use Rattle.minislot.specs.declared.Feedback.TheVariants.{Empty}
use Rattle.minislot.specs.declared.MinislotFeedback.{MinislotFeedback}
use Rattle.rows.specs.Row.{feedback_in}
use Rattle.rules.specs.Outcome.{success_in, successes}
use Rattle.queueing.proofs.Rows.{blank, held-first}
use Rattle.outcomes.proofs.successes_in.Goals as goal

-- what is left of a row: its next minislot and the rest
left : (row : List Feedback) (i : ℕ) → i < length row → drop i row ≡ get_or row i Empty ∷ drop (i + 1) row
left row i h = rw add-one (drop-cons row i Empty h)

pub loop-minislot-init : goal.loop-minislot-init
loop-minislot-init c = (omega arith, omega arith)

pub overflow_add-total : goal.overflow_add-total
overflow_add-total c =
    let w : length c.args.row ≡ 8 = search rules in
    let few : length (take c.held.result c.args.row) ≤ 8 = rw length-take (omega arith) in
    let one = c.success_in-total.ensures.one in
    omega arith

pub loop-minislot-preserved : goal.loop-minislot-preserved
loop-minislot-preserved c =
    let l = c.loop-minislot in
    let b = c.args.success in
    let part = take c.held.result c.args.row in
    let row = feedback_in part in
    let n : l.minislot-index < length row = rw length-map (omega arith) in
    let next : successes b (drop l.minislot-index row) ≡ success_in b (get_or row l.minislot-index Empty) + successes b (drop (l.minislot-index + 1) row) =
    ap (successes b) (left row l.minislot-index n) in
    let here : c.success_in-total.result ≡ success_in b (get_or row l.minislot-index Empty) =
    c.success_in-total.ensures.value ∙ ap (success_in b) (sym (get_or-map (λ (x : MinislotFeedback). x.feedback) part l.minislot-index blank)) in
    let one = c.success_in-total.ensures.one in
    (omega arith, omega arith)

pub returns : goal.returns
returns c =
    let l = c.loop-minislot in
    let a = c.args in
    let w : length a.row ≡ 8 = search rules in
    let row = feedback_in (take c.held.result a.row) in
    let all : length row ≤ l.minislot-index = rw length-map (omega arith) in
    let none : successes a.success (drop l.minislot-index row) ≡ 0 = ap (successes a.success) (drop_of_length-le row all) in
    let counted : l.total ≡ successes a.success row = omega arith in
    counted ∙ ap (successes a.success) (held-first c.held.result a.m a.row c.held.ensures w)
