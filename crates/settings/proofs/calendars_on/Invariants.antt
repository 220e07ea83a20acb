-- `calendars_on` sets one record after the other. Assumes nothing.
use mathlib.Core.Path.{◌≡◌}
use Prim.Native.Nat.{◌≤◌}
use lib.ListN.{length}
use Rattle.rules.specs.Settings.{calendar_on}
use Rattle.settings.proofs.Mapped.{mapped_to}
use Rattle.settings.proofs.calendars_on.Given as goal

abbrev pub invariant-loop-i : goal.invariant-loop-i
invariant-loop-i l = (l.i ≤ 64) × (length l.after ≡ 64) × (l.after ≡ mapped_to (calendar_on l.entries) l.i l.fn.stations)
