-- `slot` judges a copy of the lent table, which is judged as the table itself, and steps the lent stations: the reply can be made, what is left is
-- the channel's definition, by slots' law of a slot, and the answer is told as the definition's is. Assumes nothing.
use mathlib.Core.Path.{◌≡◌, ◌∙◌, ap}
use mathlib.Core.List.{List}
use Prim.Native.Nat.{ℕ}
use Rattle.rules.specs.declared.Station.{Station}
use Rattle.rules.specs.declared.WireRow.{WireRow}
use Rattle.rules.specs.Calls.{Slot}
use Rattle.rules.specs.Numbers.{call_told}
use Rattle.channel_rules.specs.ChannelCalls.{ChannelResult, channel_slot_of}
use Rattle.channel_rules.proofs.NumbersHold.{channel-told}
use Rattle.table.specs.declared.Loaded.{Loaded}
use Rattle.table.specs.Loading.{load_of}
use Rattle.calls.specs.ByValue.{channel_of, array_channel}
use Rattle.calls.specs.declared.Judged.{Judged}
use Rattle.slots.specs.Judging.{judged_of}
use Rattle.slots.proofs.Slot.{slot_is, answerable, judged-loaded}
use Rattle.channel.specs.Leaving.{leaves}
use Rattle.channel_slot.proofs.slot.Goals as goal

-- what is judged of the copy is what is judged of the lent table
judged-lent : (ys : List Station) (wire : List WireRow) (picks : List ℕ) (d : Loaded) (j : Judged)
    → d ≡ load_of ys → j ≡ judged_of (array_channel d.stations d.count wire) picks → j ≡ judged_of (channel_of ys wire) picks
judged-lent ys wire picks d j p q = q ∙ rw p (judged-loaded ys wire picks)

pub reply-requires : goal.reply-requires
reply-requires c =
    let a = c.args in
    let j = judged-lent a.table.now a.wire a.picks.now c.load-d.result c.judge-j.result c.load-d.ensures c.judge-j.ensures in
    rw (c.step_all-sent.ensures.1, j) (answerable a.table.now a.wire a.picks.now)

pub returns : goal.returns
returns c =
    let a = c.args in
    let j = judged-lent a.table.now a.wire a.picks.now c.load-d.result c.judge-j.result c.load-d.ensures c.judge-j.ensures in
    let left : leaves c.step_all-sent.new.table c.reply.result ≡ channel_slot_of (channel_of a.table.now a.wire) a.picks.now =
    rw (c.reply.ensures, c.step_all-sent.ensures.0, c.step_all-sent.ensures.1, j) (slot_is a.table.now a.wire a.picks.now) in
    (left, ap (λ (z : ChannelResult). call_told z.answer) left ∙ channel-told (channel_of a.table.now a.wire) (Slot a.picks.now))
