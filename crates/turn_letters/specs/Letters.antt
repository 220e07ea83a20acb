-- The letter that stands for a turn in a line (paper 01, "`follow`": "turn (u, l, r or o)"), and w for an owned one. Letters are ASCII.
-- Assumes nothing.
use Rattle.std.specs.Prelude.{ℕ}
use Rattle.rules.specs.declared.Turn.{Turn}
use Rattle.rules.specs.declared.Turn.TheVariants.{Owned, Urgent, Long, Resolve, Open}

abbrev pub letter_of : Turn → ℕ
letter_of (Owned x) = 119
letter_of Urgent = 117
letter_of Long = 108
letter_of Resolve = 114
letter_of Open = 111
