-- `recording::rows` is safe: after i rows of at most 8 minislots the place is at most 160 + 8 · i, and the recording has 480.
-- Assumes nothing.
use Rattle.std.proofs.Common.{◌+◌, ◌*◌, ◌≤◌}
use Rattle.listener_run.proofs.recording.rows.Given as goal

abbrev pub invariant-loop-i : goal.invariant-loop-i
invariant-loop-i g l = l.at ≤ 160 + 8 * l.i
