-- `round` meets its contract: by what its calls leave. Assumes nothing.
use Rattle.programs.specs.Buffering.{reached_by}
use Rattle.round_steps.proofs.RoundSteps.{stand-parts, round_is}
use Rattle.rounds.proofs.round.Goals as goal

pub returns : goal.returns
returns g c =
    let a = c.args in
    let n = c.buffered-n in
    let same =
    round_is g.P.Program.program a.state a.s a.input.now a.out.now _ c.count_first-filled.ensures.count _ (reached_by n.result) n.ensures.buffer
    n.ensures.answer _ _ c.after_round.ensures.input c.after_round.ensures.run in
    let parts = stand-parts same in
    record { input = parts.0; output = parts.1.0; state = parts.1.1.0; run = parts.1.1.1 }
