-- The loop of `buffered`: what is left to do from here is what was to be done at first. Assumes nothing.
use Rattle.std.proofs.Common.{◌≡◌, ◌+◌, ◌-◌, length}
use Rattle.programs.specs.Buffering.{buffered_from, buffered_of, reached_by}
use Rattle.stream.proofs.buffered.Given as goal

abbrev pub invariant-loop-round : goal.invariant-loop-round
invariant-loop-round g l =
    let program = g.P.Program.program in
    buffered_from program (length l.bytes + 1 - l.round) l.bytes l.ended l.out (reached_by l.n)
    ≡ buffered_of program l.fn.state l.bytes l.start l.ended l.fn.out l.at
