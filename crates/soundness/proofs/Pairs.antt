-- The messages of a table, two for each station: those of one station more. Assumes nothing.
use mathlib.Core.Path.{◌≡◌, sym, ◌∙◌}
use mathlib.Core.List.{List, [], ◌∷◌, ◌++◌, append_assoc}
use Prim.Native.Nat.{ℕ, ◌+◌, ◌<◌}
use native.Mathlib.Numerals.{add-one}
use lib.ListN.{length, get_or, take}
use Rattle.listlaws.proofs.Joining.{gather-more}
use Rattle.rules.specs.declared.Station.{Station}
use Rattle.rules.specs.declared.TableMessage.{TableMessage}
use Rattle.channel_rules.specs.Soundness.{messages_in, messages_of}

-- a station's two records as messages
abbrev pub short_of : Station → TableMessage
short_of s = record { index = s.index; condition = s.short.condition }

abbrev pub long_of : Station → TableMessage
long_of s = record { index = s.index; condition = s.long.condition }

-- one station more: its short record, then its long one
pub station_more : (l : List Station) (i : ℕ) (x : Station) → i < length l
    → (messages_of (take i l) ++ (short_of (get_or l i x) ∷ [])) ++ (long_of (get_or l i x) ∷ []) ≡ messages_of (take (i + 1) l)
station_more l i x h = append_assoc (messages_of (take i l)) (short_of (get_or l i x) ∷ []) (long_of (get_or l i x) ∷ []) ∙ sym (rw (add-one i) (gather-more messages_in l i x h))
