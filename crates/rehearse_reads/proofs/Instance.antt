-- No record of `rehearse` prints more than 24,576 bytes, whatever it is, and its number stays in 64 bits: so `rehearse` is lawful, and what
-- holds of any lawful program holds of it. A refusal's number is at most 19; of a channel that began with a start that went through the line of
-- a call has at most 233 bytes, that of who sends in the coming slots at most 6,194, and all that is shown at most 23,854.
-- Assumes nothing.
use Rattle.std.specs.Prelude.{Option, Some, None}
use mathlib.Core.Bool.{Bool, true, false, cond, ◌&&◌}
use mathlib.Core.Path.{◌≡◌, refl, sym, ap, subst}
use mathlib.Core.List.{List, [], append-nil}
use Prim.Native.Nat.{ℕ, ◌-◌, ◌<◌, ◌≤◌, min}
use native.Mathlib.Omega.{arith}
use borrow.Author.Tests.{ltb-true}
use lib.Dec.{ltb, eqb}
use lib.ListN.{length, take, drop, replicate}
use Rattle.std.specs.List.{list_all}
use Rattle.listlaws.specs.Lists.{each_pair}
use Rattle.fields.specs.Fields.{parts}
use Rattle.number_lists.specs.declared.NumberList.{NumberList}
use Rattle.number_lists.specs.NumberList.{list_of}
use Rattle.call_records.specs.declared.Kind.{Kind}
use Rattle.call_records.specs.declared.Kind.TheVariants as kind
use Rattle.call_records.specs.Words.{kind_of}
use Rattle.call_fields.specs.declared.StartFields.{StartFields}
use Rattle.call_fields.specs.CallFields.{offer_in, start_in}
use Rattle.which_fields.specs.WhichFields.{which_in}
use Rattle.write_fields.specs.declared.WriteFields.{WriteFields}
use Rattle.write_fields.specs.WriteFields.{new_by, held_by}
use Rattle.calendar_fields.specs.CalendarFields.{calendar_in}
use Rattle.coming_fields.specs.ComingFields.{coming_in}
use Rattle.answer_lines.specs.AnswerLines.{answer_line}
use Rattle.coming_lines.specs.ComingLines.{coming_line}
use Rattle.show_lines.specs.ShowLines.{show_lines}
use Rattle.refusals.proofs.RefusalLaws.{refusal-within}
use Rattle.programs.proofs.Whole.{whole-input-written}
use Rattle.programs.specs.Advancing.{joined}
use Rattle.programs.proofs.Places.{next_place}
use Rattle.rules.proofs.Refusals.{unless-low}
use Rattle.programs.specs.Program.{Result, Ends}
use Rattle.rules.specs.declared.Counters.{Counters}
use Rattle.rules.specs.declared.StartAnswer.{StartAnswer}
use Rattle.rules.specs.declared.StartAnswer.TheVariants.{Ready, Refused}
use Rattle.rules.specs.declared.Writing.TheVariants.{Offer, Hold, Commit, Withdraw}
use Rattle.rules.specs.Calls.{Call, Write, Slot, Calendar}
use Rattle.rules.specs.Limits.{between}
use Rattle.rules.specs.Refusing.{by_number}
use Rattle.rules.specs.Starting.{in_ranges}
use Rattle.rules.specs.StationCalls.{is_index}
use Rattle.places.specs.Places.{differ}
use Rattle.channel_rules.specs.ChannelCalls.{Channel, refused_beginning, new_channel, channel_start_number_of, channel_start_of, channel_call}
use Rattle.coming_rules.specs.Coming.{coming_of}
use Rattle.local_channel.specs.declared.LocalChannel.{LocalChannel}
use Rattle.local_channel.specs.Local.{lent_by, local_after, local_called, local_start_of, local_write_of, local_slot_of, local_calendar_of}
use Rattle.rehearsing.specs.declared.Rehearsal.{Rehearsal}
use Rattle.rehearsing.specs.Rehearsing.{blank_channel, counters_of, indexes_of, started_by, started_result, start_of, start_result}
use Rattle.rehearsing.specs.Rehearsing.{called_result, write_result, slot_result, bare_result, calendar_result, coming_with, coming_result, show_result, call_by, rehearse_record}
use Rattle.rehearsing.specs.Rehearse.{rehearse_program}
use Rattle.reads.specs.Lawful.{Allowed, Lawful}
use Rattle.reads.proofs.InReads.{in_pieces}
use Rattle.rehearse_reads.specs.Rehearsed.{RehearseInPieces, RehearseWhole}
use Rattle.rehearse_reads.proofs.LineBounds.{In64}
use Rattle.rehearse_reads.proofs.ShowBounds.{show_within}
use Rattle.rehearse_reads.proofs.AnswerBounds.{call-small, answer-line}
use Rattle.rehearse_reads.proofs.ComingBounds.{coming-line}
use Rattle.rehearse_reads.proofs.GoodKept.{Begun, begun-sound, first-lent, begun-within, call_kept, start-begun}

-- what holds of all that `rehearse` may come to know
abbrev pub Good : Rehearsal → Type 0
Good r = In64 r.place × (1 < r.place → Begun r.channel)

-- ---- numbers

channel-start-low : (count m n : ℕ) (indexes : List ℕ) → channel_start_number_of count m n indexes ≤ 19
unfolding channel_start_number_of
channel-start-low count m n indexes =
    unless-low (in_ranges m n) 5 _ (omega arith)
    (unless-low (between 1 count 64 && eqb (length indexes) count) 14 _ (omega arith)
    (unless-low (list_all is_index indexes) 8 _ (omega arith) (unless-low (each_pair differ indexes) 15 0 (omega arith) (omega arith))))

-- a start's answer: it went through, or its number is at most 19
abbrev StartLow : StartAnswer → Type 0
StartLow Ready = Unit {0}
StartLow (Refused number) = number ≤ 19

started-low : (ch : Channel) (m n : ℕ) (indexes : List ℕ) → StartLow (channel_start_of ch m n indexes).answer
unfolding channel_start_of
started-low ch m n indexes =
    go (channel_start_number_of (length ch.stations) m n indexes) (channel-start-low (length ch.stations) m n indexes)
  where
    by : (k : ℕ) → k ≤ 19 → (b : Bool) → StartLow (cond b (record { state = new_channel m n indexes; answer = Ready }) (refused_beginning ch k)).answer
    by k h true = tt
    by k h false = h

    go : (k : ℕ) → k ≤ 19 → StartLow (by_number k (refused_beginning ch) (record { state = new_channel m n indexes; answer = Ready })).answer
    go k h = by k h (eqb k 0)

-- ---- EVERY RECORD

module _ (r : Rehearsal) (good : Good r) where
  -- a result that may be
  abbrev Fits : Result Rehearsal → Type 0
  Fits = Allowed rehearse_program Good r

  ends-fit : (n : ℕ) → n ≤ 19 → Fits (Ends n)
  ends-fit n h = omega (arith, refusal-within n r.place (omega arith) good.0)

  started-fits : (s : StartFields) → Fits (started_result r (start_of s))
  unfolding local_start_of
  started-fits s =
      let c = blank_channel s.indexes.count in
      let started = local_start_of c s.m s.n (indexes_of s.indexes) in
      go started.channel started.answer (started-low (lent_by c) s.m s.n (indexes_of s.indexes))
      (start-begun s.indexes.count s.m s.n (indexes_of s.indexes))
    where
      go : (channel : LocalChannel) (answer : StartAnswer) → StartLow answer → (answer ≡ Ready → Begun channel) → Fits (started_by r channel answer)
      go channel Ready low b = ((next_place r.place good.0, λ w. b refl), omega arith)
      go channel (Refused number) low b = ends-fit number low

  start_fits : (fields : Option StartFields) → Fits (start_result r fields)
  unfolding start_result
  start_fits None = ends-fit 19 (omega arith)
  start_fits (Some s) = started-fits s

  -- a call of a channel that began
  module _ (b : Begun r.channel) where
    called-fits : (call : Call) → Fits (called_result r (local_called r.channel (channel_call (lent_by r.channel) call)))
    called-fits call =
        let c = r.channel in
        let after = local_after c (channel_call (lent_by c) call).state in
        let answer = (channel_call (lent_by c) call).answer in
        let kept = call_kept c b call in
        let w = begun-within c b in
        let k = r.place - 1 in
        let line = answer_line k (counters_of c).next (counters_of after) answer in
        let small = call-small (lent_by c) (begun-sound c b) call in
        let l = answer-line k (counters_of c).next (counters_of after) answer (omega (arith, good.0)) (omega (arith, w.next, w.groups))
        (begun-within after kept) small in (
          (next_place r.place good.0, λ z. kept),
          omega (arith, l, ap length (append-nil line)),
        )

    write-fits : (f : Option WriteFields) → Fits (write_result r f)
    unfolding write_result local_write_of
    write-fits (Some w) = called-fits (Write w.index w.writing)
    write-fits None = ends-fit 19 (omega arith)

    slot-fits : (list : Option NumberList) → Fits (slot_result r list)
    unfolding slot_result local_slot_of
    slot-fits None = ends-fit 19 (omega arith)
    slot-fits (Some picks) = called-fits (Slot (take picks.count picks.values))

    bare_fits : Fits (bare_result r)
    unfolding bare_result local_slot_of
    bare_fits = called-fits (Slot [])

    calendar-fits : (fields : Option (List ℕ)) → Fits (calendar_result r fields)
    unfolding calendar_result local_calendar_of
    calendar-fits None = ends-fit 19 (omega arith)
    calendar-fits (Some entries) = called-fits (Calendar entries)

    -- the channel stays as it was
    asked-fits : (w : ℕ) → Fits (coming_with r w)
    asked-fits w =
        let coming = coming_of (lent_by r.channel) (replicate (min w 1025) 0) in
        let k = r.place - 1 in
        let l = coming-line (lent_by r.channel) (replicate (min w 1025) 0) k (omega (arith, good.0)) in (
          (next_place r.place good.0, λ z. b),
          omega (arith, l, ap length (append-nil (coming_line k coming.answer coming.list))),
        )

    coming-fits : (fields : Option ℕ) → Fits (coming_result r fields)
    unfolding coming_result
    coming-fits None = ends-fit 19 (omega arith)
    coming-fits (Some w) = asked-fits w

    show_fits : Fits (show_result r)
    unfolding show_result
    show_fits =
        let c = r.channel in (
          (next_place r.place good.0, λ z. b),
          subst (λ (x : Counters). length (joined (show_lines (r.place - 1) x (take c.count c.stations) c.wire)) ≤ 24576) (sym (first-lent c b))
              (omega (arith, show_within (lent_by c) (begun-sound c b) (r.place - 1) (omega (arith, good.0)))),
        )

    call_fits : (bytes : List ℕ) (k : Kind) → Fits (call_by r bytes k)
    call_fits bytes kind.Offer = write-fits (new_by Offer (offer_in (parts (drop 6 bytes))))
    call_fits bytes kind.Hold = write-fits (new_by Hold (offer_in (parts (drop 5 bytes))))
    call_fits bytes kind.Commit = write-fits (held_by Commit (which_in (parts (drop 7 bytes))))
    call_fits bytes kind.Withdraw = write-fits (held_by Withdraw (which_in (parts (drop 9 bytes))))
    call_fits bytes kind.Slot = slot-fits (list_of 255 (parts (drop 5 bytes)))
    call_fits bytes kind.BareSlot = bare_fits
    call_fits bytes kind.Calendar = calendar-fits (calendar_in (parts (drop 9 bytes)))
    call_fits bytes kind.Show = show_fits
    call_fits bytes kind.Coming = coming-fits (coming_in (parts (drop 7 bytes)))
    call_fits bytes kind.Unknown = ends-fit 19 (omega arith)

  record_fits : (bytes : List ℕ) → Fits (rehearse_record r bytes)
  unfolding rehearse_record
  record_fits bytes = go (ltb 1 r.place) refl
    where
      go : (t : Bool) → ltb 1 r.place ≡ t → Fits (cond t (call_by r bytes (kind_of bytes)) (start_result r (start_in (parts bytes))))
      go true e = call_fits (good.1 (ltb-true 1 r.place e)) bytes (kind_of bytes)
      go false e = start_fits (start_in (parts bytes))

-- ---- THE PROGRAM

pub rehearse_lawful : Lawful rehearse_program
rehearse_lawful =
    record {
      Good = Good;
      begins = (omega arith, λ w. absurd (omega arith));
      steps = record_fits;
      broken = λ r good. ends-fit r good 19 (omega arith);
    }

-- THE THEOREMS
pub rehearse_in_pieces : RehearseInPieces
rehearse_in_pieces = in_pieces rehearse_program rehearse_lawful

pub rehearse_whole : RehearseWhole
rehearse_whole = whole-input-written rehearse_program
