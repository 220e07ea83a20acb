-- `ask_coming` puts the line of the channel's answer. Assumes nothing.
use mathlib.Core.Path.{◌≡◌}
use Prim.Native.Nat.{◌-◌}
use lib.ListN.{length, take}
use Rattle.local_channel.specs.Local.{lent_by}
use Rattle.rehearse_coming.proofs.Asking.{lent-size, asked-line}
use Rattle.rehearse_coming.proofs.ask_coming.Goals as goal

pub slice_bounds-coming-end : goal.slice_bounds-coming-end
slice_bounds-coming-end c =
    let a = c.args in
    lent-size a.w c.entries_for-count.result c.no_entries-list.result c.entries_for-count.ensures c.no_entries-list.ensures

pub returns : goal.returns
returns c =
    let a = c.args in
    let count = c.entries_for-count in
    let room = c.no_entries-list in
    let answer = c.coming-answer in
    let size : length answer.new.list ≡ length (take count.result room.result) = answer.auto.list in
    let asked =
    asked-line a.w count.result room.result count.ensures room.ensures (a.r.place - 1) (lent_by a.r.channel) answer.new.list answer.result size
    answer.ensures.0 in
    let buffer = rw (c.past_first.ensures, asked) at c.put_coming-after.ensures.buffer in
    let reached = rw (c.past_first.ensures, asked) at c.put_coming-after.ensures.reached in
    record { buffer = buffer; answer = rw (c.place_following.ensures, reached) }
