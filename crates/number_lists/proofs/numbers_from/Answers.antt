-- `numbers_from` meets its contract. The loop's invariant: reading on from the place reached, with the numbers read, gives `list_of` of the whole.
-- Assumes nothing.
use mathlib.Core.Path.{refl, sym, ◌∙◌}
use native.Mathlib.Omega.{arith}
use lib.ListN.{length-set}
use Rattle.fields.proofs.Parts.{some-parts}
use Rattle.fields.proofs.FieldReads.{was_read, rest-next}
use Rattle.number_lists.proofs.ListLaws.{list-few}
use Rattle.number_lists.proofs.Listing.{list-start, list-unread, list-high, list_full, list-more, list-last}
use Rattle.number_lists.proofs.numbers_from.Goals as goal

pub loop-read-init : goal.loop-read-init
loop-read-init c = (refl, list-start c.args.most _)

pub returns-in_err-field : goal.returns-in_err-field
returns-in_err-field c =
    let l = c.loop-read in
    let e = c.from_residual.ensures ∙ sym (list-unread _ l.at l.read l.values _ (some-parts _) (sym c.field_at.ensures ∙ c.in_err-field.was)) ∙ l.invariant.1 in
    record { list = e; count = rw e (list-few _ _) }

pub returns-then-from-field : goal.returns-then-from-field
returns-then-from-field c =
    let l = c.loop-read in
    let r = was_read l.at _ _ (sym c.field_at.ensures ∙ c.in_ok-field.was) in
    let e = sym (list-high _ r l.read l.values (rw (← c.from.ensures) c.if-from-field.true)) ∙ l.invariant.1 in
    record { list = e; count = tt }

pub returns-then-field : goal.returns-then-field
returns-then-field c =
    let l = c.loop-read in
    let r = was_read l.at _ _ (sym c.field_at.ensures ∙ c.in_ok-field.was) in
    let e = sym (list-last _ r l.read l.values (rw (← c.from.ensures) c.if-from-field.false) (omega arith) c.if-field.true) ∙ l.invariant.1 in
    record { list = e; count = omega arith }

pub loop-read-preserved : goal.loop-read-preserved
loop-read-preserved c =
    let l = c.loop-read in
    let r = was_read l.at _ _ (sym c.field_at.ensures ∙ c.in_ok-field.was) in
    let n = rest-next _ r c.if-field.false in
    (rw length-set l.invariant.0, rw n (sym (list-more _ r l.read l.values (rw (← c.from.ensures) c.if-from-field.false))) ∙ l.invariant.1)

pub returns : goal.returns
returns c =
    let l = c.loop-read in
    let e = sym (list_full _ l.read l.values _ (some-parts _) (omega arith)) ∙ l.invariant.1 in
    record { list = e; count = tt }
