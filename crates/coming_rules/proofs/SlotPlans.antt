-- The run of the quieted channel is what places and calendar say: slot by slot, whoever sends is the owner or the station whose place it is, and the places
-- that are left fall by one in each slot that no stream owns. So the list of senders and the number of slots until both transmission queues are empty are
-- those of specs/Planned. Assumes nothing.
use mathlib.Core.Path.{◌≡◌, refl, sym, ap, ◌∙◌}
use mathlib.Core.Bool.{Bool, true, false, cond}
use mathlib.Core.List.{List, ◌∷◌, map}
use mathlib.Core.Option.{none, some}
use Prim.Native.Nat.{ℕ, zero, suc, ◌+◌, ◌-◌, ◌≤◌}
use native.Mathlib.Omega.{arith}
use native.Mathlib.Nat.{zero-add}
use lib.Dec.{eqb, ltb}
use lib.ListN.{length, replicate, length-map}
use borrow.Author.Tests.{ltb-true, ltb-false}
use Rattle.listlaws.specs.Lists.{tabulate}
use Rattle.listlaws.proofs.Tabulating.{tabulate-cong}
use Rattle.rules.specs.declared.Counters.{Counters}
use Rattle.rules.specs.declared.Condition.{Condition}
use Rattle.rules.specs.declared.Turn.TheVariants.{Owned as OwnedTurn, Urgent as UrgentTurn, Long as LongTurn}
use Rattle.rules.specs.declared.Turn.TheVariants.{Open as OpenTurn}
use Rattle.rules.specs.Calendars.{free_entry, owner_of, position_after}
use Rattle.rules.specs.Calls.{Slot}
use Rattle.rules.specs.Falling.{urgent_falls, long_falls}
use Rattle.rules.specs.Serving.{moved}
use Rattle.rules.specs.Turns.{turn_of}
use Rattle.channel_rules.specs.Soundness.{table_counters}
use Rattle.channel_rules.specs.ChannelCalls.{Channel, ChannelResult, channel_after, channel_answers}
use Rattle.channel_rules.proofs.SoundLists.{AllWithin}
use Rattle.channel_rules.proofs.SoundMeans.{all_in}
use Rattle.sound_slots.proofs.Passing.{some-stations}
use Rattle.coming_rules.specs.Coming.{sender_in, places_in}
use Rattle.coming_rules.specs.Planned.{has_place, holders_of, first_of, served_at, entry_in, free_in, planned_at}
use Rattle.coming_rules.specs.ComingHolds.{Picks}
use Rattle.coming_rules.proofs.Redone.{redone, counters-redone}
use Rattle.coming_rules.proofs.Quieted.{Quiet}
use Rattle.coming_rules.proofs.QuietMoves.{shifted, urgent-is, long-is, calendar-is, minislots-is, position-is}
use Rattle.coming_rules.proofs.QuietSlots.{turn_here, counters_next, quiet_next, answer_here, slot_is, quiet_next_lem}
use Rattle.coming_rules.proofs.Served.{quiet-place, urgent_shift, long_shift, no_place-at, holders_redone}
use Rattle.coming_rules.proofs.Sending.{urgent-turn, long-turn, open_turn, sender-served, sender-owner}
use Rattle.coming_rules.proofs.FreeSlots.{entry_next, free-next}

-- ---- one slot: what it leaves of counters, picks and places

-- on an open turn nobody moves
open_place : (c : Counters) (h n : ℕ) (k : Condition) → has_place h n (shifted OpenTurn k) ≡ has_place h n k
unfolding moved
open_place c h n k = quiet-place h n k

module _ (ch : Channel) (q : Quiet ch) where
  there : 1 ≤ length ch.stations
  there = some-stations ch.stations q.some

  all : AllWithin (table_counters ch.stations) ch.stations
  all = all_in ch.stations ch.wire q.sound

  pub counters-next : table_counters (quiet_next ch).stations ≡ counters_next ch
  counters-next = counters-redone (counters_next ch) (shifted (turn_here ch)) ch.stations there

  pub calendar-next : (table_counters (quiet_next ch).stations).calendar ≡ (table_counters ch.stations).calendar
  calendar-next = ap (λ (d : Counters). d.calendar) counters-next ∙ calendar-is (table_counters ch.stations)

  pub position-next : (table_counters (quiet_next ch).stations).position ≡ position_after (table_counters ch.stations).position
  position-next = ap (λ (d : Counters). d.position) counters-next ∙ position-is (table_counters ch.stations)

  pub urgent-next : (table_counters (quiet_next ch).stations).urgent ≡ urgent_falls (turn_here ch) (table_counters ch.stations).urgent
  urgent-next = ap (λ (d : Counters). d.urgent) counters-next ∙ urgent-is (table_counters ch.stations)

  pub long-next : (table_counters (quiet_next ch).stations).long ≡ long_falls (turn_here ch) (table_counters ch.stations).long
  long-next = ap (λ (d : Counters). d.long) counters-next ∙ long-is (table_counters ch.stations)

  -- picks that it takes are picks that the next slot takes
  pub picks-next : (picks : List ℕ) → Picks ch picks → Picks (quiet_next ch) picks
  picks-next picks p =
      record {
        all = p.all ∙ sym (length-map ch.stations (redone (counters_next ch) (shifted (turn_here ch))));
        within = rw (counters-next, minislots-is (table_counters ch.stations)) p.within;
      }

  -- in an owned slot every place stays
  module _ (x : ℕ) (owned : owner_of (table_counters ch.stations) ≡ some x) where
    turn-owned : turn_here ch ≡ OwnedTurn x
    unfolding turn_of
    turn-owned = rw owned

    stays-place : (h n : ℕ) (k : Condition) → has_place h n (shifted (OwnedTurn x) k) ≡ has_place h n k
    unfolding moved
    stays-place h n k = quiet-place h n k

    pub served-owned : (n : ℕ) → served_at (table_counters (quiet_next ch).stations).urgent (quiet_next ch).stations n ≡ served_at (table_counters ch.stations).urgent ch.stations n
    unfolding served_at
    served-owned n =
        rw (urgent-next, turn-owned)
        (ap first_of (holders_redone (counters_next ch) (shifted (OwnedTurn x)) (table_counters ch.stations) (table_counters ch.stations).urgent n (table_counters ch.stations).urgent n
        (λ k e. stays-place (table_counters ch.stations).urgent n k) ch.stations all))

    pub places-owned : places_in (quiet_next ch) ≡ places_in ch
    places-owned = rw (urgent-next, long-next, turn-owned)

  -- in any other the first place is served, and the others move down
  module _ (free : owner_of (table_counters ch.stations) ≡ none) where
    pub served-free : (n : ℕ) → served_at (table_counters (quiet_next ch).stations).urgent (quiet_next ch).stations n ≡ served_at (table_counters ch.stations).urgent ch.stations (suc n)
    unfolding served_at
    served-free n = go (ltb 0 (table_counters ch.stations).urgent) refl (ltb 0 (table_counters ch.stations).long) refl
      where
        Shifts : Type 0
        Shifts = first_of (holders_of (table_counters (quiet_next ch).stations).urgent n (quiet_next ch).stations) ≡ first_of (holders_of (table_counters ch.stations).urgent (suc n) ch.stations)

        go : (a : Bool) → ltb 0 (table_counters ch.stations).urgent ≡ a → (b : Bool) → ltb 0 (table_counters ch.stations).long ≡ b → Shifts
        go true e b w =
            let c = table_counters ch.stations in
            let lo = ltb-true 0 c.urgent e in
            rw (urgent-next, urgent-turn ch q free e)
            (ap first_of (holders_redone (counters_next ch) (shifted UrgentTurn) c (c.urgent - 1) n c.urgent (suc n) (urgent_shift c n (omega (arith, lo))) ch.stations all))
        go false e true w =
            let c = table_counters ch.stations in
            let z : c.urgent ≡ 0 = omega (arith, ltb-false 0 c.urgent e) in
            rw (urgent-next, long-turn ch q free e w)
            (ap first_of (holders_redone (counters_next ch) (shifted LongTurn) c c.urgent n c.urgent (suc n) (λ k i. rw z (long_shift c n z k i)) ch.stations all))
        go false e false w =
            let c = table_counters ch.stations in
            let z : c.urgent ≡ 0 = omega (arith, ltb-false 0 c.urgent e) in
            let y : c.long ≡ 0 = omega (arith, ltb-false 0 c.long w) in
            rw (urgent-next, open_turn ch q free e w)
            (ap first_of (holders_redone (counters_next ch) (shifted OpenTurn) c c.urgent n c.urgent (suc n) (λ k i. open_place c c.urgent n k ∙ no_place-at c n c.urgent z y k i ∙ sym (no_place-at c (suc n) c.urgent z y k i)) ch.stations all))

    pub places-free : places_in (quiet_next ch) ≡ places_in ch - 1
    places-free = go (ltb 0 (table_counters ch.stations).urgent) refl (ltb 0 (table_counters ch.stations).long) refl
      where
        go : (a : Bool) → ltb 0 (table_counters ch.stations).urgent ≡ a → (b : Bool) → ltb 0 (table_counters ch.stations).long ≡ b → places_in (quiet_next ch) ≡ places_in ch - 1
        go true e b w = rw (urgent-next, long-next, urgent-turn ch q free e) (let lo = ltb-true 0 (table_counters ch.stations).urgent e in omega (arith, lo))
        go false e true w = rw (urgent-next, long-next, long-turn ch q free e w) (let lo = ltb-false 0 (table_counters ch.stations).urgent e in let hi = ltb-true 0 (table_counters ch.stations).long w in omega (arith, lo, hi))
        go false e false w = rw (urgent-next, long-next, open_turn ch q free e w) (let lo = ltb-false 0 (table_counters ch.stations).urgent e in let hi = ltb-false 0 (table_counters ch.stations).long w in omega (arith, lo, hi))

-- ---- EVERY RUN, with the same picks in each slot

-- the entry of the coming slot
abbrev pub entry_now : Channel → ℕ
entry_now ch = entry_in (table_counters ch.stations).calendar (table_counters ch.stations).position 0

pub owner-free : (ch : Channel) → eqb (entry_now ch) free_entry ≡ true → owner_of (table_counters ch.stations) ≡ none
owner-free ch e = rw e

pub owner-named : (ch : Channel) → eqb (entry_now ch) free_entry ≡ false → owner_of (table_counters ch.stations) ≡ some (entry_now ch)
owner-named ch e = rw e

abbrev pub plan_of : Channel → ℕ → ℕ
plan_of ch = planned_at (table_counters ch.stations).calendar (table_counters ch.stations).position (served_at (table_counters ch.stations).urgent ch.stations)

-- the first slot of the plan, and the rest of it as the plan of what the slot leaves
plan_first : (ch : Channel) (q : Quiet ch) → sender_in (answer_here ch q) ≡ plan_of ch 0
plan_first ch q = go (eqb (entry_now ch) free_entry) refl
  where
    go : (b : Bool) → eqb (entry_now ch) free_entry ≡ b → sender_in (answer_here ch q) ≡ cond b (served_at (table_counters ch.stations).urgent ch.stations 0) (entry_now ch)
    go true e = sender-served ch q (owner-free ch e)
    go false e = sender-owner ch q (entry_now ch) (owner-named ch e)

plan_rest : (ch : Channel) (q : Quiet ch) (i : ℕ) → plan_of (quiet_next ch) i ≡ plan_of ch (suc i)
plan_rest ch q i =
    let c = table_counters ch.stations in
    rw (calendar-next ch q, position-next ch q, entry_next c.calendar c.position i, free-next c.calendar c.position i)
    (ap (λ (n : ℕ). cond (eqb (entry_in c.calendar (position_after c.position) i) free_entry) n (entry_in c.calendar (position_after c.position) i))
    (go (free_in c.calendar (position_after c.position) i) (eqb (entry_now ch) free_entry) refl))
  where
    go : (n : ℕ) (b : Bool) → eqb (entry_now ch) free_entry ≡ b
        → served_at (table_counters (quiet_next ch).stations).urgent (quiet_next ch).stations n ≡ served_at (table_counters ch.stations).urgent ch.stations (cond b 1 0 + n)
    go n true e = served-free ch q (owner-free ch e) n ∙ ap (served_at (table_counters ch.stations).urgent ch.stations) (let z : suc n ≡ 1 + n = omega arith in z)
    go n false e = served-owned ch q (entry_now ch) (owner-named ch e) n ∙ ap (served_at (table_counters ch.stations).urgent ch.stations) (sym (zero-add n))

pub senders-planned : (w : ℕ) (ch : Channel) → Quiet ch → (picks : List ℕ) → Picks ch picks → map sender_in (channel_answers ch (replicate w (Slot picks))) ≡ tabulate w (plan_of ch)
senders-planned zero ch q picks p = refl
senders-planned (suc w) ch q picks p =
    ap (λ (r : ChannelResult). sender_in r.answer ∷ map sender_in (channel_answers r.state (replicate w (Slot picks)))) (slot_is ch q picks p)
    ∙ (λ i. plan_first ch q i ∷ (senders-planned w (quiet_next ch) (quiet_next_lem ch q) picks (picks-next ch q picks p) ∙ tabulate-cong w (plan_of (quiet_next ch)) (λ n. plan_of ch (suc n)) (λ n h. plan_rest ch q n)) i)

-- as many places are left as are not served by the slots that no stream owns
pub places-left : (n : ℕ) (ch : Channel) → Quiet ch → (picks : List ℕ) → Picks ch picks
    → places_in (channel_after ch (replicate n (Slot picks))) ≡ places_in ch - free_in (table_counters ch.stations).calendar (table_counters ch.stations).position n
places-left zero ch q picks p = omega arith
places-left (suc n) ch q picks p =
    let c = table_counters ch.stations in
    ap (λ (r : ChannelResult). places_in (channel_after r.state (replicate n (Slot picks)))) (slot_is ch q picks p)
    ∙ places-left n (quiet_next ch) (quiet_next_lem ch q) picks (picks-next ch q picks p)
    ∙ rw (calendar-next ch q, position-next ch q, free-next c.calendar c.position n) (go (free_in c.calendar (position_after c.position) n) (eqb (entry_now ch) free_entry) refl)
  where
    go : (m : ℕ) (b : Bool) → eqb (entry_now ch) free_entry ≡ b → places_in (quiet_next ch) - m ≡ places_in ch - (cond b 1 0 + m)
    go m true e = let z = places-free ch q (owner-free ch e) in omega (arith, z)
    go m false e = let z = places-owned ch q (entry_now ch) (owner-named ch e) in omega (arith, z)
