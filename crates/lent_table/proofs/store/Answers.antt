-- `store` writes one record in each turn (table's Loading). Assumes nothing.
use Prim.Native.Nat.{◌<◌}
use native.Mathlib.Omega.{arith}
use borrow.Author.Rules.{rules}
use mathlib.Core.Path.{◌≡◌, refl, ◌∙◌, ap}
use lib.ListN.{length}
use Rattle.table.specs.Loading.{copies_of}
use Rattle.table.proofs.Loading.{copies-fit, stored_to, stored_to-more, stored_to-all}
use Rattle.lent_table.proofs.store.Goals as goal

pub loop-i-init : goal.loop-i-init
loop-i-init c =
    let fit = copies-fit (length c.args.table.now) c.args.d.count in
    record {
      lent = omega (arith, c.copies-n.ensures);
      room = omega (arith, c.copies-n.ensures);
      turns = omega arith;
      stored = refl;
    }

pub loop-i-preserved : goal.loop-i-preserved
loop-i-preserved c =
    let a = c.args in
    let now = c.loop-i.invariant in
    let full : length a.d.stations ≡ 64 = search rules in
    let here : c.loop-i.i < length a.table.now = omega arith in
    let there : c.loop-i.i < length a.d.stations = omega arith in
    record {
      lent = now.lent;
      room = now.room;
      turns = omega arith;
      stored = rw (now.stored, c.get.ensures) (stored_to-more a.table.now a.d c.loop-i.i here there);
    }

pub returns : goal.returns
returns c =
    let a = c.args in
    let last : c.loop-i.i ≡ copies_of (length a.table.now) a.d.count = omega (arith, c.copies-n.ensures) in
    c.loop-i.invariant.stored ∙ ap (stored_to a.table.now a.d) last ∙ stored_to-all a.table.now a.d (search rules)
