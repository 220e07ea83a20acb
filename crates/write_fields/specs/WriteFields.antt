-- The index of a station and what is written there, by what was read of an offer or a hold, and of a commit or a withdrawal. A record that
-- breaks the form is answered 19. Assumes nothing.
use Rattle.std.specs.Prelude.{Option, Some, None, ℕ}
use Rattle.call_fields.specs.declared.OfferFields.{OfferFields}
use Rattle.which_fields.specs.declared.WhichFields.{WhichFields}
use Rattle.rules.specs.declared.Which.{Which}
use Rattle.rules.specs.declared.Writing.{Writing}
use Rattle.write_fields.specs.declared.WriteFields.{WriteFields}

-- a new message, by its bytes: an offer or a hold
unfoldable pub new_by : (ℕ → Writing) → Option OfferFields → Option WriteFields
new_by w (Some o) = Some (record { index = o.index; writing = w o.bytes })
new_by w None = None

-- a message that is held, by its record's name: a commit or a withdrawal
unfoldable pub held_by : (Which → Writing) → Option WhichFields → Option WriteFields
held_by w (Some h) = Some (record { index = h.index; writing = w h.which })
held_by w None = None
