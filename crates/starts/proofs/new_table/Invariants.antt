-- `new_table` makes one record after the other, over blank ones. Assumes nothing.
use mathlib.Core.Path.{◌≡◌}
use Prim.Native.Nat.{◌≤◌}
use lib.ListN.{length}
use Rattle.channel_rules.specs.ChannelCalls.{new_stations}
use Rattle.table.specs.Loading.{of}
use Rattle.table.proofs.Loading.{read_to}
use Rattle.starts.proofs.new_table.Given as goal

abbrev pub invariant-loop-i : goal.invariant-loop-i
invariant-loop-i l = (l.i ≤ length l.indexes) × (of l.stations (length l.indexes) ≡ read_to (length l.indexes) (new_stations l.m l.n l.indexes) l.i)
