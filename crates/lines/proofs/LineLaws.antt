-- The line of a row as the pieces that are written one after another, and how long it is.
-- Assumes nothing.
use mathlib.Core.Path.{◌≡◌}
use mathlib.Core.List.{◌++◌, append_assoc}
use Prim.Native.Nat.{ℕ, ◌+◌, ◌<◌, ◌≤◌}
use native.Mathlib.Omega.{arith}
use lib.ListN.{length, length-append}
use Rattle.decimals.specs.Decimal.{digits_of}
use Rattle.decimals.specs.Printing.{record_of}
use Rattle.decimals.proofs.Decimals.{digits-few}
use Rattle.lines.specs.Lines.{line_of}
use Rattle.lines.specs.Pieces.{slot_bytes, counter_bytes}

pub slot-length : (slot group turn : ℕ) → length (slot_bytes slot group turn) ≡ length (digits_of slot) + length (digits_of group) + 4
unfolding slot_bytes
slot-length slot group turn = simp length-append (omega arith)

pub counter_length : (urgent long resolution : ℕ)
    → length (counter_bytes urgent long resolution) ≡ length (digits_of urgent) + length (digits_of long) + length (digits_of resolution) + 4
unfolding counter_bytes
counter_length urgent long resolution = simp length-append (omega arith)

module _ (slot group turn urgent long resolution : ℕ) where
  pub line-halves : slot_bytes slot group turn ++ counter_bytes urgent long resolution ≡ line_of slot group turn urgent long resolution
  unfolding slot_bytes counter_bytes line_of record_of
  line-halves = simp append_assoc

  pub line-length : length (line_of slot group turn urgent long resolution)
      ≡ length (digits_of slot) + length (digits_of group) + length (digits_of urgent) + length (digits_of long) + length (digits_of resolution) + 8
  unfolding line_of record_of
  line-length = simp length-append (omega arith)

-- ---- HOW LONG A LINE CAN BE

-- a slot number of 64 bits, a group below 1,000 and counters below 100,000
pub line-within : (slot group turn urgent long resolution : ℕ) → slot ≤ 18446744073709551615 → group < 1000 → urgent < 100000 → long < 100000
    → resolution < 100000 → length (line_of slot group turn urgent long resolution) ≤ 46
line-within slot group turn urgent long resolution s g u l r =
    omega (
      arith,
      line-length slot group turn urgent long resolution,
      digits-few 19 slot (omega arith),
      digits-few 2 group g,
      digits-few 4 urgent u,
      digits-few 4 long l,
      digits-few 4 resolution r,
    )
