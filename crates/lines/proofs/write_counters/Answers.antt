-- `write_counters` meets its contract: three fields and a byte, one after another.
-- Assumes nothing.
use native.Mathlib.Omega.{arith}
use Rattle.decimals.proofs.Stores.{and_then, wrote_field, wrote_byte}
use Rattle.lines.specs.Pieces.{counter_bytes}
use Rattle.lines.proofs.write_counters.Goals as goal

pub returns : goal.returns
unfolding counter_bytes
returns c =
    let a = c.args in
    let pre = c.requires in
    let w =
    and_then
    (and_then
    (and_then (wrote_field a.urgent 44 (c.write_field-first.ensures.buffer, c.write_field-first.ensures.reached) pre.0) (wrote_field a.long 44 (c.write_field-second.ensures.buffer, c.write_field-second.ensures.reached) pre.1))
    (wrote_field a.resolution 13 (c.write_field-third.ensures.buffer, c.write_field-third.ensures.reached) pre.2))
    (wrote_byte _ _ 10) in record {
      buffer = w.stored;
      reached = omega arith;
    }
