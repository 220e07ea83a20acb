-- `fill` meets its contract. The loop's invariant: the list holds the senders of the first `i` slots. The measure is how many slots are to come.
-- Assumes nothing.
use mathlib.Core.Path.{◌≡◌, ◌∙◌}
use Prim.Native.Nat.{ℕ, ◌<◌}
use native.Mathlib.Omega.{arith}
use borrow.Author.Rules.{rules}
use lib.ListN.{length, get_or}
use Rattle.listlaws.proofs.Beyond.{get_d_any}
use Rattle.coming_rules.specs.Coming.{nobody}
use Rattle.coming_list.proofs.Listing.{listed-none, listed_free, listed-owned, listed-all}
use Rattle.coming_list.proofs.fill.Goals as goal
use Rattle.coming_list.proofs.fill.Goals.{then-sender, else-sender}

pub loop-i-init : goal.loop-i-init
loop-i-init c = listed-none _ _ _ _ (omega arith)

pub overflow_add-place : goal.overflow_add-place
overflow_add-place c = elim c.if-sender.branch [ then-sender w ↦ omega (arith, w.used-is) | else-sender w ↦ omega (arith, w.used-is) ]

pub loop-i-preserved : goal.loop-i-preserved
loop-i-preserved c =
    let l = c.loop-i in
    let a = c.args in
    let j = c.if-sender in
    let n = c.next_position-p in
    let who : ℕ → ℕ = λ (k : ℕ). get_or a.served k nobody in
    let full : length a.calendar ≡ 24 = search rules in
    let room : length a.served ≡ 1024 = search rules in
    let inside : l.place < length a.served = omega arith in
    let more : l.i < length l.list = omega arith in
    elim j.branch [
      | then-sender w ↦ listed_free a.calendar a.position who a.list.now l.list l.p l.place l.i l.invariant more full j.sender j.used n.result n.ensures w.if-sender.true (w.sender-is ∙ get_d_any a.served l.place 0 nobody inside) w.used-is
      | else-sender w ↦ listed-owned a.calendar a.position who a.list.now l.list l.p l.place l.i l.invariant more full j.sender j.used n.result n.ensures w.if-sender.false w.sender-is w.used-is
    ]

pub returns : goal.returns
returns c =
    let l = c.loop-i in
    let a = c.args in
    listed-all a.calendar a.position (λ (k : ℕ). get_or a.served k nobody) a.list.now l.list l.p l.place l.i l.invariant c.loop-i-test.false
