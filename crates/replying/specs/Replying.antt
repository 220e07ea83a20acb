-- What a slot comes back with, once it is judged and its stations have stepped. Assumes nothing.
use Rattle.std.specs.Prelude.{◌≡◌, List, ◌+◌, ◌≤◌}
use Rattle.rules.specs.declared.Sent.{Sent}
use Rattle.rules.specs.declared.WireRow.{WireRow}
use Rattle.rules.specs.Refusing.{by_number}
use Rattle.channel_rules.specs.ChannelCalls.{slot_answer, wire_after}
use Rattle.calls.specs.declared.CallReply.{CallReply}
use Rattle.calls.specs.Replies.{refused_reply}
use Rattle.calls.specs.declared.Judged.{Judged}

-- the number of the refusal and the wire as it came; or, by the outcome, the answer and the wire with the group's new row
unfoldable pub reply_of : Judged → List WireRow → Sent → CallReply
reply_of j wire sent =
    by_number j.number (refused_reply wire)
    (record { answer = slot_answer j.outcome sent; wire = wire_after wire j.outcome sent })

-- what is asked for where the slot goes through: the slots delivered can be counted
pub record Answerable (j : Judged) (sent : Sent) : Type 0 where
  pub delivered : j.number ≡ 0 → j.outcome.delivered + sent.senders ≤ 255
