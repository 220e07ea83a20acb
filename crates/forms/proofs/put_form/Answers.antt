-- `put_form` meets its contract: where there is room for the line, it is written.
-- Assumes nothing.
use mathlib.Core.Path.{sym, ◌∙◌}
use Prim.Native.Nat.{◌+◌, ◌-◌, ◌≤◌, ◌<◌}
use native.Mathlib.Omega.{arith}
use lib.ListN.{length}
use borrow.Author.Tests.{le-leb, lt-leb, leb-true, leb-false}
use Rattle.decimals.proofs.Stores.{Wrote, put_whole, put-none}
use Rattle.forms.specs.Form.{form_of}
use Rattle.forms.proofs.put_form.Goals.{else-at-room-via-then-at-room+else-form_fits, else-at-room-via-else-at-room}
use Rattle.forms.proofs.put_form.Goals as goal

pub returns-then-form_fits : goal.returns-then-form_fits
returns-then-form_fits c =
    let a = c.args in
    let line = form_of a.form.now a.values.now in
    let f : length line ≤ length a.out.now - a.at = leb-true _ _ (sym c.form_fits.ensures ∙ c.if-form_fits.true) in
    let w = c.write_form in
    let whole : Wrote a.out.now a.at line w.new.out w.result = record { stored = w.ensures.buffer; reached = w.ensures.reached } in
    let all_told = put_whole whole (le-leb (a.at + length line) (length a.out.now) (omega arith)) in
    record { buffer = all_told.0; reached = all_told.1 }

pub returns-else-at-room : goal.returns-else-at-room
returns-else-at-room c =
    let a = c.args in
    let line = form_of a.form.now a.values.now in
    let short : length a.out.now < a.at + length line
    = elim c.else-at-room.branch [
      | else-at-room-via-then-at-room+else-form_fits w ↦
          let f : length a.out.now - a.at < length line = leb-false _ _ (sym w.form_fits.ensures ∙ w.if-form_fits.false) in
          omega arith
      | else-at-room-via-else-at-room w ↦ omega arith
    ] in
    let all_told = put-none a.out.now a.at line (lt-leb (a.at + length line) (length a.out.now) short) in
    record { buffer = all_told.0; reached = all_told.1 }
