-- `load` reads one record in each turn (table's Loading). Assumes nothing.
use Prim.Native.Nat.{◌<◌}
use native.Mathlib.Omega.{arith}
use mathlib.Core.List.{List}
use mathlib.Core.Path.{◌≡◌, ◌∙◌, ap}
use lib.ListN.{length}
use Rattle.rules.specs.declared.Station.{Station}
use Rattle.table.specs.declared.Loaded.{Loaded}
use Rattle.table.specs.Loading.{copies_of, of}
use Rattle.table.proofs.Loading.{copies-fit, read_to, read_to-none, read_to-count, read_to-set, read_to-all}
use Rattle.lent_table.proofs.load.Goals as goal

pub loop-i-init : goal.loop-i-init
loop-i-init c =
    let ys = c.args.table.now in
    let fit = copies-fit (length ys) 64 in
    record {
      lent = omega (arith, c.copies-end.ensures);
      room = omega (arith, c.copies-end.ensures);
      turns = omega arith;
      read = c.blanks-stations.ensures ∙ ap (λ (d : Loaded). d.stations) (read_to-none (length ys) ys);
    }

pub loop-i-preserved : goal.loop-i-preserved
loop-i-preserved c =
    let ys = c.args.table.now in
    let now = c.loop-i.invariant in
    let in_table : c.loop-i.i < length ys = omega arith in
    let in_room : c.loop-i.i < 64 = omega arith in
    record {
      lent = now.lent;
      room = now.room;
      turns = omega arith;
      read = rw now.read (read_to-set (length ys) ys c.loop-i.i in_room in_table);
    }

pub returns : goal.returns
returns c =
    let ys = c.args.table.now in
    let last : c.loop-i.i ≡ copies_of (length ys) 64 = omega (arith, c.copies-end.ensures) in
    c.hold.ensures
    ∙ ap (λ (s : List Station). of s (length ys)) c.loop-i.invariant.read
    ∙ read_to-count (length ys) ys c.loop-i.i
    ∙ ap (read_to (length ys) ys) last
    ∙ read_to-all ys
