-- DEMAND 3, proved: the relation between plain channel, shared table and records is kept along every list of calls, and the statement is read off it.
-- Assumes nothing.
use mathlib.Core.Path.{◌≡◌, refl, sym, ap, subst, ◌∙◌}
use mathlib.Core.Bool.{Bool, true, false, cond}
use mathlib.Core.List.{List, [], ◌∷◌}
use Prim.Native.Nat.{ℕ, suc, ◌+◌, ◌-◌, ◌≤◌, ◌<◌}
use native.Mathlib.Omega.{arith}
use native.Mathlib.Nat.{zero-add}
use lib.Dec.{eqb}
use lib.ListN.{length, get_or}
use Rattle.requests.specs.Together.{silent}
use Rattle.rules.specs.declared.WireRow.{WireRow}
use Rattle.rules.specs.declared.Condition.TheVariants.{Long}
use Rattle.rules.specs.Serving.{waiting}
use Rattle.channel_rules.specs.SoundMeaning.{station_at}
use Rattle.channel_rules.specs.ChannelCalls.{Channel, new_channel, channel_call, channel_after, channel_answers}
use Rattle.rules.specs.Calls.{Start, Call, Write, Slot, Calendar}
use Rattle.rules.specs.Messages.{Message, Segment, short_record, long_record, record_of}
use Rattle.rules.specs.Plain.{Plain, plain_owner, plain_start, plain_call, plain_after, plain_answers}
use Rattle.channel_rules.specs.Demand3.{no_message, segment_at, message_at, holder_of, SendersAre, SenderRule, MessageShows, Demand3After, Demand3Holds}
use Rattle.rules.proofs.Views.{sender_at, data_from, seen}
use Rattle.rules.proofs.Shared.{Table, table_start, table_call, table_after, table_answers, gather, records, index_of, asked_pair}
use Rattle.rules.proofs.Records.{holder, holder-of, holder-long}
use Rattle.rules.proofs.Relation.{Same, Fits}
use Rattle.listlaws.proofs.Totals.{total}
use Rattle.rules.proofs.SlotStep.{owner_eq, settled_eq}
use Rattle.rules.proofs.CallStep.{begin-same, call_same}
use Rattle.channel_rules.proofs.ListStep.{run-same, run-answers, Shown, shown, ledger-all}
use Rattle.channel_rules.proofs.Histories.{history-of}
use Rattle.rules.proofs.WireRows.{leaves, row_at}
use Rattle.rules.proofs.Walking.{IsStation}
use Rattle.channel_rules.proofs.Embody.{Embodies, Embodied, GoodStart, same_length}
use Rattle.channel_rules.proofs.EmbodyCalls.{own-heard, counted, owner-counted, call-embodied}
use Rattle.channel_rules.proofs.SoundKept.{counters-same, is_at, meaning, stays-sound}
use Rattle.channel_rules.proofs.Starts.{started, new_embodies}
use Rattle.channel_rules.proofs.Following.{member, serial-at, station-of, waiting-sum, entry_at, wire-shows, sender_rule, never_comes, books_taken, books_delivered}
use Rattle.channel_rules.proofs.Undelivered.{held-once, nine-means}

module _ (S : Start) (G : GoodStart S) where
  ml : 1 ≤ S.m
  ml = omega (arith, G.m-low)

  -- one call
  step : (p : Plain) (t : Table) (ch : Channel) → Same S p t → Embodies S t ch → (c : Call) → Embodied S (table_call S t c) (channel_call ch c)
  step p t ch R E c = call-embodied S G p t R ch E (stays-sound S G p t R ch E) c

  -- every list
  pub run_embodies : (calls : List Call) (p : Plain) (t : Table) (ch : Channel) → Same S p t → Embodies S t ch → Embodies S (table_after S t calls) (channel_after ch calls)
  run_embodies [] p t ch R E = E
  run_embodies (c ∷ l) p t ch R E =
      run_embodies l (plain_call S p c).state (table_call S t c).state (channel_call ch c).state (call_same S ml p t R c).state (step p t ch R E c).state

  run-told : (calls : List Call) (p : Plain) (t : Table) (ch : Channel) → Same S p t → Embodies S t ch → channel_answers ch calls ≡ table_answers S t calls
  run-told [] p t ch R E = refl
  run-told (c ∷ l) p t ch R E =
      rw ((step p t ch R E c).answer, run-told l (plain_call S p c).state (table_call S t c).state (channel_call ch c).state (call_same S ml p t R c).state (step p t ch R E c).state)

  run-senders : (calls : List Call) (p : Plain) (t : Table) (ch : Channel) → Same S p t → Embodies S t ch → SenderRule ch calls
  run-senders [] p t ch R E = tt
  run-senders (Write x w ∷ l) p t ch R E =
      run-senders l (plain_call S p (Write x w)).state (table_call S t (Write x w)).state (channel_call ch (Write x w)).state (call_same S ml p t R (Write x w)).state (step p t ch R E (Write x w)).state
  run-senders (Slot picks ∷ l) p t ch R E = (
    λ turn n i s d e.
        rw (owner-counted S G p t R ch E (stays-sound S G p t R ch E), owner_eq S p t R)
        (subst (λ c. SendersAre (plain_owner p) c n i s) (sym (counted S G p t R ch E (stays-sound S G p t R ch E) ∙ settled_eq S p t R))
        (sender_rule S p picks turn n i s d ((call_same S ml p t R (Slot picks)).answer ∙ sym (step p t ch R E (Slot picks)).answer ∙ e))),
    run-senders l (plain_call S p (Slot picks)).state (table_call S t (Slot picks)).state (channel_call ch (Slot picks)).state (call_same S ml p t R (Slot picks)).state (step p t ch R E (Slot picks)).state,
  )
  run-senders (Calendar entries ∷ l) p t ch R E =
      run-senders l (plain_call S p (Calendar entries)).state (table_call S t (Calendar entries)).state (channel_call ch (Calendar entries)).state (call_same S ml p t R (Calendar entries)).state
      (step p t ch R E (Calendar entries)).state

  -- the statement, of the channel that the start made
  module _ (calls : List Call) where
    abbrev begun : Channel
    begun = new_channel S.m S.n S.indexes

    abbrev plain : Plain
    plain = plain_after S (plain_start S) calls

    abbrev table : Table
    table = table_after S table_start calls

    abbrev after : Channel
    after = channel_after (new_channel S.m S.n S.indexes) calls

    first : Same S (plain_start S) table_start
    first = begin-same S G.n-low

    R : Same S plain table
    R = run-same S ml calls (plain_start S) table_start first

    E : Embodies S table after
    E = run_embodies calls (plain_start S) table_start begun first (new_embodies S)

    w : Shown S plain table
    w = shown S plain table R

    told : channel_answers begun calls ≡ plain_answers S (plain_start S) calls
    told = run-told calls (plain_start S) table_start begun first (new_embodies S) ∙ sym (run-answers S ml calls (plain_start S) table_start first)

    as_many : length after.stations ≡ length S.indexes
    as_many = same_length S table after E

    is : (k : ℕ) → k < length S.indexes → IsStation S table k (station_at after.stations k)
    is k h = is_at S G plain table R after E k (omega (arith, as_many))

    stretch-shows : (k f l t i : ℕ) → k < length S.indexes → (station_at after.stations k).long.condition ≡ Long f l t → i < l
        → ((segment_at plain (f + i)).message.station ≡ k) × ((segment_at plain (f + i)).number ≡ t - l + 1 + i)
    stretch-shows k f l t i h e hi =
        let r = long_record k in
        let q : table.condition r ≡ Long f l t = sym (is k h).long ∙ e in
        let fit : Fits S (R.message r) (Long f l t) = subst (Fits S (R.message r)) q (R.agrees r).fits in
        let at : f - 1 + i ≡ f + i - 1 = omega arith in
        let v = entry_at plain.long (f + i - 1) (record { message = no_message; number = 0 }) (sender_at r (t - l + 1 + i))
        (ap (seen (λ (x : Segment). data_from x ∷ []) plain.long) (sym at) ∙ w.stretch r f l t q i hi) in
        (sym (holder-of (segment_at plain (f + i)).message) ∙ ap (λ s. holder s.position) v ∙ holder-long k, ap (λ s. s.value) v)

    -- the condition of the record that holds a message
    holder-is : (m : Message) → m.station < length S.indexes → holder_of after m ≡ table.condition (record_of m)
    unfolding record_of
    holder-is m h = go (eqb m.slots 1)
      where
        go : (b : Bool) → cond b (station_at after.stations m.station).short.condition (station_at after.stations m.station).long.condition
            ≡ table.condition (cond b (short_record m.station) (long_record m.station))
        go true = (is m.station h).short
        go false = (is m.station h).long

    message-shows : (i : ℕ) → i < length plain.taken → MessageShows plain after (message_at plain i)
    message-shows i h =
        let here = member plain.taken i h in
        let (d, most, order, left) = history-of S plain table R (message_at plain i) here in
        record {
          delivered = d;
          most = most;
          order = order;
          rest = λ l. ap waiting (holder-is (message_at plain i) (station-of S plain table R (message_at plain i) here)) ∙ left l;
        }

    claim : Demand3After S begun calls
    claim =
        record {
          stations = as_many;
          indexes = λ k h. (is k h).index;
          counters = λ k h.
              record {
                minislots = (is k h).minislots;
                groups = (is k h).groups;
                next = (is k h).next ∙ w.next;
                urgent = (is k h).urgent ∙ w.h;
                long = (is k h).long-queue ∙ w.n;
                resolution = λ g lo hi. (is k h).resolution g lo hi ∙ w.rq g;
                opened = λ g lo hi. (is k h).mark g lo hi ∙ w.opened g;
                calendar = (is k h).calendar ∙ R.calendar;
                position = (is k h).position ∙ R.position;
              };
          equal = λ i k hi hk. counters-same S G plain table R i k (station_at after.stations i) (station_at after.stations k) (is i hi) (is k hk);
          short = λ k h. (is k h).short ∙ w.condition (short_record k);
          long = λ k h. (is k h).long ∙ w.condition (long_record k);
          stretch = stretch-shows;
          wire = λ g j gl gh jl jh.
              ap (λ (r : WireRow). get_or r.minislots (j - 1) silent) (E.wire g gl gh)
              ∙ row_at (index_of S) (length S.indexes) (asked_pair g table.condition) 8 1 (j - 1) silent (omega arith)
              ∙ ap (λ (z : ℕ). leaves (index_of S) (gather (asked_pair g table.condition z) (length S.indexes))) (let v : 1 + (j - 1) ≡ suc (j - 1) = omega arith in v)
              ∙ wire-shows S plain table R g (j - 1);
          answers = told;
          never14 = rw told (never_comes 14 refl refl refl refl refl refl refl refl refl S (plain_start S) calls);
          never18 = rw told (never_comes 18 refl refl refl refl refl refl refl refl refl S (plain_start S) calls);
          never12 = rw told (never_comes 12 refl refl refl refl refl refl refl refl refl S (plain_start S) calls);
          hears = λ k h. own-heard S G plain table R after E (stays-sound S G plain table R after E) k (station_at after.stations k) h (is k h);
          sound = meaning S G plain table R after E;
          senders = run-senders calls (plain_start S) table_start begun first (new_embodies S);
          apart = λ i h. serial-at plain.taken 0 R.numbered i h ∙ zero-add i;
          messages = message-shows;
          nine = nine-means S plain table R;
          once = λ k. rw (R.agrees k).held (held-once (R.message k) (table.condition k));
          taken = rw told (sym (books_taken S calls (plain_start S) ∙ zero-add _));
          delivered = rw told (sym (books_delivered S calls (plain_start S) ∙ zero-add _));
          ledger =
              ledger-all S plain table R
              ∙ ap (λ (n : ℕ). length plain.history + n)
              (let v = waiting-sum S table 0 after.stations E.stations in
              sym (omega (arith, v, ap (λ (n : ℕ). total n (λ k. waiting (table.condition k))) (let z : (0 + length after.stations) + (0 + length after.stations) ≡ records S = omega (arith, as_many) in z))));
        }

-- THE THEOREM
pub demand3 : Demand3Holds
demand3 before m n indexes e calls =
    let (G, q) = started before m n indexes e in
    subst (λ (ch : Channel). Demand3After (record { m = m; n = n; indexes = indexes }) ch calls) (sym q) (claim (record { m = m; n = n; indexes = indexes }) G calls)
