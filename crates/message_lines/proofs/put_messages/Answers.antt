-- `put_messages` meets its contract, station by station. Assumes nothing.
use mathlib.Core.Path.{◌≡◌, ap}
use native.Mathlib.Omega.{arith}
use borrow.Author.Rules.{rules}
use lib.ListN.{length, take, drop_of_length-le}
use Rattle.std.specs.List.{flat_map}
use Rattle.listlaws.proofs.Beyond.{take-most}
use Rattle.programs.proofs.LineRuns.{run_none, run-whole}
use Rattle.message_lines.specs.MessageLines.{message_lines}
use Rattle.message_lines.proofs.MessageRuns.{run-station}
use Rattle.message_lines.proofs.put_messages.Goals as goal

pub loop-s-init : goal.loop-s-init
loop-s-init c =
    let a = c.args in
    let n : length a.stations ≡ 65 = search rules in
    rw (c.least.ensures, take-most a.count 65 a.stations n) (run_none _ _ _)

pub loop-s-preserved : goal.loop-s-preserved
loop-s-preserved c =
    let l = c.loop-s in
    let a = c.args in
    run-station (message_lines a.call) (take c.least.result a.stations) l.s-index _ (omega arith) l.invariant (c.put_station-to.ensures.buffer, c.put_station-to.ensures.reached)

pub returns : goal.returns
returns c =
    let l = c.loop-s in
    let a = c.args in
    let all_told = run-whole l.invariant (ap (flat_map (message_lines a.call)) (drop_of_length-le (take c.least.result a.stations) (omega arith))) in
    record { buffer = all_told.0; reached = all_told.1 }
