-- `requests` stores the request of each message asked behind the others. Assumes nothing.
use mathlib.Core.Path.{◌≡◌}
use Prim.Native.Nat.{◌≤◌}
use lib.ListN.{length, take}
use Rattle.asked_rows.specs.Asked.{requests_of}
use Rattle.asked_rows.proofs.requests.Given as goal

abbrev pub invariant-loop-m : goal.invariant-loop-m
invariant-loop-m l = (length l.requests.items ≤ l.m-index) × (l.requests.items ≡ requests_of (take l.m-index l.messages.items))
