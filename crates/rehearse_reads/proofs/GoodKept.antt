-- What holds of every channel that `rehearse` comes to hold: the part of its room that is lent is what a start that went through and a list of
-- calls after it leave. A start that goes through gives such a channel, and a call, refused or not, is one more of the list; and demand 3
-- says that such a channel is sound and has as many stations as the start has indexes.
-- Assumes nothing.
use mathlib.Core.Path.{◌≡◌, refl, sym, ap, subst, ◌∙◌}
use mathlib.Core.Bool.{◌&&◌}
use mathlib.Core.List.{List, [], ◌∷◌, ◌++◌}
use Prim.Native.Nat.{ℕ}
use native.Mathlib.Omega.{arith}
use lib.Dec.{eqb}
use lib.ListN.{length, drop, replicate, length-take, length-replicate}
use lib.Seq.{take_at, get_or-take}
use borrow.Author.Tests.{eqb-true}
use Rattle.rules.specs.declared.Station.{Station}
use Rattle.rules.specs.declared.StartAnswer.TheVariants.{Ready}
use Rattle.rules.specs.Calls.{Call}
use Rattle.rules.specs.Limits.{between}
use Rattle.rules.specs.Starting.{in_ranges}
use Rattle.rules.specs.StationCalls.{no_station}
use Rattle.rules.proofs.LimitLaws.{Within}
use Rattle.rules.proofs.Refusals.{through-only, test_passed}
use Rattle.rules.proofs.SlotStep.{and_both}
use Rattle.channel_rules.specs.Soundness.{table_counters}
use Rattle.channel_rules.specs.ChannelCalls.{Channel, ChannelStarted, refused_beginning, channel_start_number_of, channel_start_of, channel_call, channel_after}
use Rattle.channel_rules.proofs.Starts.{started}
use Rattle.channel_rules.proofs.Theorem.{demand3}
use Rattle.local_channel.specs.declared.LocalChannel.{LocalChannel}
use Rattle.local_channel.specs.Local.{lent_by, local_after, local_start_of}
use Rattle.rehearsing.specs.Rehearsing.{blank_channel, counters_of}
use Rattle.rehearse_reads.specs.Bounds.{SoundChannel}
use Rattle.rehearse_reads.proofs.ShowBounds.{counters-within}

-- a channel that began with a start that went through, and took calls since
pub record Begun (c : LocalChannel) : Type 0 where
  pub before : Channel
  pub m : ℕ
  pub n : ℕ
  pub indexes : List ℕ
  pub ready : (channel_start_of before m n indexes).answer ≡ Ready
  pub calls : List Call
  -- a station for each index is lent
  pub count : c.count ≡ length indexes
  pub lent : lent_by c ≡ channel_after (channel_start_of before m n indexes).state calls

-- ---- it is sound

pub begun-sound : (c : LocalChannel) → Begun c → SoundChannel (lent_by c)
begun-sound c b =
    let d = demand3 b.before b.m b.n b.indexes b.ready b.calls in
    let G = (started b.before b.m b.n b.indexes b.ready).0 in
    subst SoundChannel (sym b.lent)
    (record { some = omega (arith, d.stations, G.some); few = omega (arith, d.stations, G.few); sound = d.sound })

-- and its first station is the first that is lent
pub first-lent : (c : LocalChannel) → Begun c → counters_of c ≡ table_counters (lent_by c).stations
first-lent c b =
    let G = (started b.before b.m b.n b.indexes b.ready).0 in
    ap (λ (s : Station). s.counters) (sym (get_or-take c.count c.stations 0 no_station (omega (arith, b.count, G.some))))

pub begun-within : (c : LocalChannel) → Begun c → Within (counters_of c)
begun-within c b = subst Within (sym (first-lent c b)) (counters-within (lent_by c) (begun-sound c b))

-- ---- it is kept

-- what a call leaves is what is lent after it
lent-after : (c : LocalChannel) (after : Channel) → length after.stations ≡ c.count → lent_by (local_after c after) ≡ after
lent-after c after e =
    ap (λ (l : List Station). record { stations = l; wire = after.wire }) (take_at after.stations (drop c.count c.stations) c.count e)

-- one call more
after_last : (ch : Channel) (calls : List Call) (call : Call) → channel_after ch (calls ++ (call ∷ [])) ≡ (channel_call (channel_after ch calls) call).state
after_last ch [] call = refl
after_last ch (x ∷ calls) call = after_last (channel_call ch x).state calls call

pub call_kept : (c : LocalChannel) → Begun c → (call : Call) → Begun (local_after c (channel_call (lent_by c) call).state)
call_kept c b call =
    let begun = (channel_start_of b.before b.m b.n b.indexes).state in
    let after = (channel_call (lent_by c) call).state in
    let e : after ≡ channel_after begun (b.calls ++ (call ∷ [])) = ap (λ (ch : Channel). (channel_call ch call).state) b.lent ∙ sym (after_last begun b.calls call) in
    let d = demand3 b.before b.m b.n b.indexes b.ready (b.calls ++ (call ∷ [])) in
    let size : length after.stations ≡ c.count = ap (λ (ch : Channel). length ch.stations) e ∙ d.stations ∙ sym b.count in
    record {
      before = b.before;
      m = b.m;
      n = b.n;
      indexes = b.indexes;
      ready = b.ready;
      calls = b.calls ++ (call ∷ []);
      count = b.count;
      lent = lent-after c after size ∙ e;
    }

-- ---- a start gives it

-- a start that goes through has an index for each record of its table
start-counts : (before : Channel) (m n : ℕ) (indexes : List ℕ) → (channel_start_of before m n indexes).answer ≡ Ready
    → length indexes ≡ length before.stations
unfolding channel_start_of channel_start_number_of
start-counts before m n indexes e =
    let count = length before.stations in
    let none =
    through-only (λ (r : ChannelStarted). r.answer ≡ Ready) (channel_start_number_of count m n indexes) (refused_beginning before) _
    (λ k q. let z : ◌≡◌ {A = ℕ} 0 1 = cc in absurd (omega arith)) e in
    let (_, after5) = test_passed (in_ranges m n) 5 _ refl none in
    let (e14, _) = test_passed (between 1 count 64 && eqb (length indexes) count) 14 _ refl after5 in
    eqb-true (length indexes) count (and_both (between 1 count 64) (eqb (length indexes) count) e14).1

pub start-begun : (count m n : ℕ) (indexes : List ℕ) → (local_start_of (blank_channel count) m n indexes).answer ≡ Ready
    → Begun (local_start_of (blank_channel count) m n indexes).channel
unfolding local_start_of
start-begun count m n indexes e =
    let before = lent_by (blank_channel count) in
    let state = (channel_start_of before m n indexes).state in
    let G = (started before m n indexes e).0 in
    let d = demand3 before m n indexes e [] in
    let same : count ≡ length indexes
    = omega (arith, start-counts before m n indexes e, G.few, length-take count (replicate 65 no_station), length-replicate 65 no_station) in
    record {
      before = before;
      m = m;
      n = n;
      indexes = indexes;
      ready = e;
      calls = [];
      count = same;
      lent = lent-after (blank_channel count) state (d.stations ∙ sym same);
    }
