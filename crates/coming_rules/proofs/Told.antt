-- The definition of who sends in the coming slots answers the number of its own list, and with 0 the slots that specs/Coming tells: what goes
-- by the number goes by it alone. Assumes nothing.
use mathlib.Core.Path.{◌≡◌}
use mathlib.Core.List.{List}
use Prim.Native.Nat.{ℕ}
use lib.ListN.{length}
use Rattle.rules.proofs.Refusals.{by-ap}
use Rattle.channel_rules.specs.ChannelCalls.{Channel}
use Rattle.coming_rules.specs.Coming.{ComingResult, coming_number_of, refused_coming, coming_of, coming_told, coming_told_of}

pub coming-told : (ch : Channel) (list : List ℕ) → coming_told (coming_of ch list).answer ≡ coming_told_of ch (length list)
unfolding coming_of coming_told_of
coming-told ch list = by-ap (λ (r : ComingResult). coming_told r.answer) (coming_number_of ch (length list)) (refused_coming list) _
