-- `step_all` steps one station in each turn and gathers what it sends (Passes). Assumes nothing.
use Prim.Native.Nat.{◌<◌}
use native.Mathlib.Omega.{arith}
use mathlib.Core.List.{List}
use mathlib.Core.Path.{◌≡◌, refl, ◌∙◌, ap}
use lib.ListN.{length}
use Rattle.pass.specs.Rounds.{rounds_of}
use Rattle.pass.proofs.Passes.{rounds-fit, stepped_to, stepped_to-more, stepped_to-all, sent_to, sent_to-none, sent_to-more, sent_to-all}
use Rattle.pass.proofs.step_all.Goals as goal

pub loop-i-init : goal.loop-i-init
loop-i-init c =
    let fit = rounds-fit (length c.args.table.now) (length c.args.picks.now) c.args.steps in
    record {
      stations = omega (arith, c.rounds-n.ensures);
      picks = omega (arith, c.rounds-n.ensures);
      turns = omega arith;
      table = refl;
      sent = c.silence-sent.ensures ∙ sent_to-none c.args.o c.args.table.now c.args.picks.now;
    }

pub loop-i-preserved : goal.loop-i-preserved
loop-i-preserved c =
    let a = c.args in
    let now = c.loop-i.invariant in
    let station : c.loop-i.i < length a.table.now = omega arith in
    let pick : c.loop-i.i < length a.picks.now = omega arith in
    record {
      stations = now.stations;
      picks = now.picks;
      turns = omega arith;
      table = rw (c.step-r.ensures, now.table) (stepped_to-more a.o a.table.now a.picks.now c.loop-i.i station pick);
      sent = rw (c.gather-sent.ensures, c.step-r.ensures, now.table, now.sent) (sent_to-more a.o a.table.now a.picks.now c.loop-i.i station pick);
    }

pub returns : goal.returns
returns c =
    let a = c.args in
    let last : c.loop-i.i ≡ rounds_of (length a.table.now) (length a.picks.now) a.steps = omega (arith, c.rounds-n.ensures) in (
      c.loop-i.invariant.table ∙ ap (stepped_to a.o a.table.now a.picks.now) last ∙ stepped_to-all a.o a.table.now a.picks.now a.steps,
      c.loop-i.invariant.sent ∙ ap (sent_to a.o a.table.now a.picks.now) last ∙ sent_to-all a.o a.table.now a.picks.now a.steps,
    )
