-- HOW LONG A PLACE WAITS, put together: of every sound table and every list of calls, so of every list after a start, and of every run of the code. Assumes nothing.
use mathlib.Core.Path.{◌≡◌, sym, subst, ◌∙◌}
use mathlib.Core.Bool.{true}
use mathlib.Core.List.{List, map}
use Prim.Native.Nat.{ℕ, ◌-◌, ◌≤◌}
use native.Mathlib.Omega.{arith}
use lib.ListN.{length, take}
use borrow.Author.Tests.{le-leb}
use Rattle.rules.specs.declared.Answer.{Answer}
use Rattle.rules.specs.declared.Condition.{Condition}
use Rattle.rules.specs.declared.Condition.TheVariants.{Urgent, Long}
use Rattle.rules.specs.Calls.{Call}
use Rattle.rules.specs.StationLimits.{condition_within}
use Rattle.channel_rules.specs.Soundness.{table_counters, sound_table}
use Rattle.channel_rules.specs.ChannelCalls.{Channel, ChannelResult, has_stations, channel_start_of, channel_after, channel_answers}
use Rattle.rules.proofs.LimitLaws.{between-bounds}
use Rattle.channel_rules.proofs.SoundMeans.{all_in, says-sound}
use Rattle.channel_rules.proofs.Starts.{started}
use Rattle.channel_rules.proofs.Theorem.{demand3}
use Rattle.shown_tables.proofs.Theorem.{sound-kept, slot-goes}
use Rattle.channel_runs.specs.Runs.{Ran, finally}
use Rattle.channel_runs.proofs.Chain.{run-state}
use Rattle.place_waits.specs.Continuing.{short_at, long_at, unowned_answers, urgent_turns}
use Rattle.place_waits.specs.Waits.{LongSends, PlacesWait, PlacesWaitHolds, PlacesWaitEver}
use Rattle.place_waits.proofs.LoneSender.{within-at}
use Rattle.place_waits.proofs.UrgentSteps.{urgent-inside}
use Rattle.place_waits.proofs.UrgentRuns.{sends, before, waits}
use Rattle.place_waits.proofs.UrgentOrder.{in_order}
use Rattle.place_waits.proofs.LongSteps.{long-inside}
use Rattle.place_waits.proofs.Conditions.{stretch_in}
use Rattle.place_waits.proofs.LongRuns.{Stretch}
use Rattle.place_waits.proofs.LongRuns.{sends as long-sends, none-sends, waits as long-waits}
use Rattle.place_waits.proofs.LongOrder.{behind}
use Rattle.place_waits.proofs.LongOrder.{in_order as long-in-order}
use Rattle.place_waits.proofs.RowOrder.{urgent-row, long-row}
use Rattle.place_waits.proofs.FreeBounds.{soon, until_soon}

module _ (ch : Channel) (here : has_stations ch.stations ≡ true) (sound : sound_table ch.stations ch.wire ≡ true) where
  -- a place of H is 1 or more, and what is known of a stretch of N
  low : (k p : ℕ) → short_at ch k ≡ Urgent p → 1 ≤ p
  unfolding condition_within
  low k p e =
      (between-bounds 1 p (table_counters ch.stations).urgent
      (subst (λ (x : Condition). condition_within (table_counters ch.stations) x ≡ true) e (within-at (table_counters ch.stations) ch.stations (all_in ch.stations ch.wire sound) k (urgent-inside ch k p e)).short)).0

  stretch : (k f l t : ℕ) → long_at ch k ≡ Long f l t → Stretch k ch f l t
  stretch k f l t e =
      let lies =
      stretch_in (table_counters ch.stations) f l t
      (subst (λ (x : Condition). condition_within (table_counters ch.stations) x ≡ true) e (within-at (table_counters ch.stations) ch.stations (all_in ch.stations ch.wire sound) k (long-inside ch k f l t e)).long) in
      record { stands = e; first = lies.first; left = lies.left; most = lies.most }

  -- its number without urgent turns is its place
  place_is : (x s p : ℕ) (answers : List Answer) (u : LongSends x s p answers) → u.slot - urgent_turns (take u.slot answers) ≡ p
  place_is x s p answers u = let w = u.number in omega (arith, w)

  holds : (calls : List Call) → PlacesWait ch calls
  holds calls =
      record {
        urgent-sends = λ k p e h. sends k calls ch p e (low k p e) h;
        urgent-before = λ k p i e lo less hi. before k calls ch p i e lo less hi;
        urgent-waits = λ k p e h. waits k calls ch p e h;
        long-sends = λ k f l t p e lo hi h. long-sends k calls ch f l t p (stretch k f l t e) lo hi h;
        long-before = λ k f l t p i e lo hi few a b. none-sends k calls ch f l t p i (stretch k f l t e) lo hi few a b;
        long-waits = λ k f l t e h. long-waits k calls ch f l t (stretch k f l t e) h;
        urgent-order = λ a b p r more e out w h. in_order a b ch calls more p r (low a p e) e out w h;
        long-behind = λ a b f l t g m n e out w. let s = stretch a f l t e in behind a b calls ch f l t g m n s.first s.left e out w;
        long_order = λ a b f l t g m n p q more e out w lo hi lo' hi' u v.
            let s = stretch a f l t e in
            let h = behind a b calls ch f l t g m n s.first s.left e out w in
            long-in-order ch calls more _ _ p _ _ q (omega (arith, h, hi, lo')) u v;
        urgent-row = λ a b g i j s t p q picks taken. urgent-row ch picks taken a b g i j s t p q;
        long-row = λ a b g i j s t p l m q k n picks taken. long-row ch picks taken a b g i j s t p l m q k n;
        urgent-same = λ k p others e h h'. (sends k calls ch p e (low k p e) h, sends k others ch p e (low k p e) h');
        long_same = λ x s p others u v. place_is x s p (unowned_answers ch calls) u ∙ sym (place_is x s p (unowned_answers ch others) v);
        sound = sound-kept ch here sound calls;
        goes = slot-goes ch here sound calls;
        soon = soon ch here sound calls;
        until_soon = until_soon ch here sound;
      }

-- THE THEOREM
pub places_wait : PlacesWaitHolds
places_wait = holds

-- after any list of calls from a start that goes through: the table is sound, by demand 3
pub places_wait_ever : PlacesWaitEver
places_wait_ever prior m n indexes ready earlier calls =
    let begun = (channel_start_of prior m n indexes).state in
    let d = demand3 prior m n indexes ready earlier in
    let good = (started prior m n indexes ready).0 in
    places_wait (channel_after begun earlier)
    (rw (le-leb 1 (length (channel_after begun earlier).stations) (omega (arith, d.stations, good.some)), le-leb (length (channel_after begun earlier).stations) 64 (omega (arith, d.stations, good.few)))) (says-sound (channel_after begun earlier).stations (channel_after begun earlier).wire d.sound) calls

-- ---- OF THE CODE: of every run of the calls by their contracts, from any sound table

pub record WaitsOfCode (ch : Channel) (calls : List Call) (left : List ChannelResult) : Type 0 where
  -- the table and the wire after the list, and every answer, are the channel's
  pub after : finally ch left ≡ channel_after ch calls
  pub answers : map (λ (r : ChannelResult). r.answer) left ≡ channel_answers ch calls
  -- of which it holds how long a place waits
  pub claim : PlacesWait ch calls

pub waits-of_code : (ch : Channel) → has_stations ch.stations ≡ true → sound_table ch.stations ch.wire ≡ true → (calls : List Call) (left : List ChannelResult) → Ran ch calls left → WaitsOfCode ch calls left
waits-of_code ch here sound calls left w =
    let (x, y) = run-state ch calls left w in
    record { after = x; answers = y; claim = places_wait ch here sound calls }
