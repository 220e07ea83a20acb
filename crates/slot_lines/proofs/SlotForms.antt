-- The line of a slot's form is the slot's line: by computation, turn by turn. Assumes nothing.
use mathlib.Core.Path.{◌≡◌, refl}
use mathlib.Core.List.{[], ◌∷◌}
use Prim.Native.Nat.{ℕ, ◌-◌}
use lib.ListN.{get_or}
use Rattle.decimals.specs.Printing.{record_of}
use Rattle.forms.specs.Form.{form_of, left_of}
use Rattle.turn_letters.specs.Letters.{letter_of}
use Rattle.rules.specs.declared.Counters.{Counters}
use Rattle.rules.specs.declared.Turn.{Turn}
use Rattle.rules.specs.declared.Turn.TheVariants as turn
use Rattle.slot_lines.specs.SlotLine.{slot_line}

module _ (k group : ℕ) (c : Counters) where
  pub slot-form : (t : Turn) (senders index segment delivered : ℕ)
      → form_of (35 ∷ 44 ∷ 115 ∷ 108 ∷ 111 ∷ 116 ∷ 44 ∷ 35 ∷ 44 ∷ letter_of t ∷ [])
      (k ∷ group ∷ senders ∷ index ∷ segment ∷ delivered ∷ c.urgent ∷ c.long ∷ get_or c.resolution (group - 1) 0 ∷ [])
      ≡ slot_line k group c t senders index segment delivered
  unfolding form_of left_of record_of
  slot-form (turn.Owned x) senders index segment delivered = refl
  slot-form turn.Urgent senders index segment delivered = refl
  slot-form turn.Long senders index segment delivered = refl
  slot-form turn.Resolve senders index segment delivered = refl
  slot-form turn.Open senders index segment delivered = refl
