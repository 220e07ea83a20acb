-- What is shown of the run (specs/ComingHolds), and that list and number of the call are those of places and calendar. The quieted channel has the places,
-- the calendar and the position of the channel; each slot of it leaves a quiet channel, whatever the picks. Assumes nothing.
use mathlib.Core.Path.{◌≡◌, refl, sym, ap, subst, ◌∙◌}
use mathlib.Core.Bool.{Bool, true, false}
use mathlib.Core.List.{List, [], ◌∷◌, map}
use mathlib.Core.Logic.{by_cases}
use Prim.Native.Nat.{ℕ, zero, suc, ◌+◌, ◌-◌, ◌*◌, ◌≤◌, ◌<◌}
use native.Mathlib.Omega.{arith}
use native.Mathlib.Decide.{dec_lt}
use lib.Dec.{eqb}
use lib.ListN.{length, replicate, length-map}
use borrow.Author.Tests.{eq-eqb, ne_eqb}
use Rattle.listlaws.proofs.Tabulating.{tabulate-cong}
use Rattle.rules.specs.declared.Answer.{Answer}
use Rattle.rules.specs.declared.Answer.TheVariants.{Went}
use Rattle.rules.specs.declared.Station.{Station}
use Rattle.rules.specs.declared.Turn.{Turn}
use Rattle.rules.specs.Calendars.{free_entry}
use Rattle.rules.specs.Calls.{Slot}
use Rattle.channel_rules.specs.Soundness.{table_counters, sound_table}
use Rattle.channel_rules.specs.ChannelCalls.{Channel, ChannelResult, has_stations, data_sent, outcome_heard, channel_slot_of, channel_after, channel_answers}
use Rattle.rules.proofs.LimitLaws.{calendar-in}
use Rattle.sound_slots.proofs.ChannelLaws.{limits}
use Rattle.sound_slots.proofs.OwnedSlotsHold.{owned-slots}
use Rattle.sound_slots.proofs.Passing.{some-stations, Passed, slot-passed}
use Rattle.coming_rules.specs.Quiet.{quiet_counters, quiet_station, quieted}
use Rattle.coming_rules.specs.Coming.{slots_on, quiet_after, coming_senders, places_in, first_from, coming_until}
use Rattle.coming_rules.specs.Planned.{holders_of, first_of, served_at, free_in, planned_at, planned_list, planned_until}
use Rattle.coming_rules.specs.ComingHolds.{Picks, AllPicks, ComingHolds, ComingHold}
use Rattle.coming_rules.proofs.Quieted.{Quiet, quieted-quiet}
use Rattle.coming_rules.proofs.QuietSlots.{calm_step, quiet_next, slot-number, answer_here, slot_is, quiet_next_lem}
use Rattle.coming_rules.proofs.Served.{quiet-place, most-one}
use Rattle.coming_rules.proofs.Sending.{free-alone, ones-picks}
use Rattle.coming_rules.proofs.FreeSlots.{until_serves, until_first, until_most}
use Rattle.coming_rules.proofs.SlotPlans.{picks-next, entry_now, owner-free, owner-named, senders-planned, places-left}

-- ---- any number of slots of a quiet channel

pub quiet-after : (n : ℕ) (ch : Channel) → Quiet ch → (picks : List ℕ) → Picks ch picks → Quiet (channel_after ch (replicate n (Slot picks)))
quiet-after zero ch q picks p = q
quiet-after (suc n) ch q picks p =
    subst (λ (r : ChannelResult). Quiet (channel_after r.state (replicate n (Slot picks)))) (sym (slot_is ch q picks p)) (quiet-after n (quiet_next ch) (quiet_next_lem ch q) picks (picks-next ch q picks p))

picks-after : (n : ℕ) (ch : Channel) → Quiet ch → (picks : List ℕ) → Picks ch picks → (others : List ℕ) → Picks ch others → Picks (channel_after ch (replicate n (Slot picks))) others
picks-after zero ch q picks p others o = o
picks-after (suc n) ch q picks p others o =
    subst (λ (r : ChannelResult). Picks (channel_after r.state (replicate n (Slot picks))) others) (sym (slot_is ch q picks p))
    (picks-after n (quiet_next ch) (quiet_next_lem ch q) picks (picks-next ch q picks p) others (picks-next ch q others o))

-- the picks don't matter
all-next : (ch : Channel) → Quiet ch → (lists : List (List ℕ)) → AllPicks ch lists → AllPicks (quiet_next ch) lists
all-next ch q [] a = tt
all-next ch q (picks ∷ lists) a = (picks-next ch q picks a.0, all-next ch q lists a.1)

answers-any : (lists : List (List ℕ)) (ch : Channel) → Quiet ch → AllPicks ch lists → (picks : List ℕ) → Picks ch picks → channel_answers ch (map Slot lists) ≡ channel_answers ch (replicate (length lists) (Slot picks))
answers-any [] ch q a picks p = refl
answers-any (l ∷ lists) ch q a picks p =
    ap (λ (r : ChannelResult). r.answer ∷ channel_answers r.state (map Slot lists)) (slot_is ch q l a.0)
    ∙ ap (λ (z : List Answer). answer_here ch q ∷ z) (answers-any lists (quiet_next ch) (quiet_next_lem ch q) (all-next ch q lists a.1) picks (picks-next ch q picks p))
    ∙ sym (ap (λ (r : ChannelResult). r.answer ∷ channel_answers r.state (replicate (length lists) (Slot picks))) (slot_is ch q picks p))

after_any : (lists : List (List ℕ)) (ch : Channel) → Quiet ch → AllPicks ch lists → (picks : List ℕ) → Picks ch picks → channel_after ch (map Slot lists) ≡ channel_after ch (replicate (length lists) (Slot picks))
after_any [] ch q a picks p = refl
after_any (l ∷ lists) ch q a picks p =
    ap (λ (r : ChannelResult). channel_after r.state (map Slot lists)) (slot_is ch q l a.0)
    ∙ after_any lists (quiet_next ch) (quiet_next_lem ch q) (all-next ch q lists a.1) picks (picks-next ch q picks p)
    ∙ sym (ap (λ (r : ChannelResult). channel_after r.state (replicate (length lists) (Slot picks))) (slot_is ch q picks p))

-- one sender at most
alone-here : (ch : Channel) → Quiet ch → (picks : List ℕ) (turn : Turn) (senders i s d : ℕ) → (channel_slot_of ch picks).answer ≡ Went turn senders i s d → senders ≤ 1
alone-here ch q picks turn senders i s d went = go (eqb (entry_now ch) free_entry) refl
  where
    passed : Passed ch picks
    passed = slot-passed ch picks turn senders i s d went

    same : answer_here ch q ≡ Went turn senders i s d
    same = sym (ap (λ (r : ChannelResult). r.answer) (slot_is ch q picks (record { all = passed.picked; within = passed.within }))) ∙ went

    go : (b : Bool) → eqb (entry_now ch) free_entry ≡ b → senders ≤ 1
    go true e = let z : length (data_sent (map (calm_step (outcome_heard ch)) ch.stations)) ≡ senders = cc same in omega (arith, z, free-alone ch q (owner-free ch e))
    go false e = omega (arith, (owned-slots ch picks (entry_now ch) (owner-named ch e) turn senders i s d went).alone)

-- ---- the first number that passes a test

first-is : (test : ℕ → Bool) (tries k n : ℕ) → k ≤ n → n ≤ k + tries → test n ≡ true → ((j : ℕ) → k ≤ j → j < n → test j ≡ false) → first_from test tries k ≡ n
first-is test zero k n lo hi here before = omega (arith, lo, hi)
first-is test (suc tries) k n lo hi here before =
    by_cases (dec_lt k n)
    (λ e. rw (before k (omega arith) e) (first-is test tries (suc k) n (omega (arith, e)) (omega (arith, hi)) here (λ j a b. before j (omega (arith, a)) b)))
    (λ e. let z : k ≡ n = omega (arith, lo, e) in rw (subst (λ (j : ℕ). test j ≡ true) (sym z) here) z)

-- ---- THE QUIETED CHANNEL OF A SOUND ONE

first-quiet : (l : List Station) → 1 ≤ length l → table_counters (map quiet_station l) ≡ quiet_counters (table_counters l)
first-quiet [] h = absurd (omega (arith, h))
first-quiet (s ∷ l) h = refl

holders_quiet : (h n : ℕ) (l : List Station) → holders_of h n (map quiet_station l) ≡ holders_of h n l
holders_quiet h n [] = refl
holders_quiet h n (s ∷ l) = rw (quiet-place h n s.short.condition, quiet-place h n s.long.condition, holders_quiet h n l)

module _ (ch : Channel) (here : has_stations ch.stations ≡ true) (sound : sound_table ch.stations ch.wire ≡ true) where
  there : 1 ≤ length ch.stations
  there = some-stations ch.stations here

  q : Quiet (quieted ch)
  q = quieted-quiet ch here sound

  abbrev ones : List ℕ
  ones = replicate (length ch.stations) 1

  same-counters : table_counters (quieted ch).stations ≡ quiet_counters (table_counters ch.stations)
  same-counters = first-quiet ch.stations there

  picked : Picks (quieted ch) ones
  picked = subst (λ (n : ℕ). Picks (quieted ch) (replicate n 1)) (length-map ch.stations quiet_station) (ones-picks (quieted ch) q)

  -- picks of the channel are picks of it
  picks-quieted : (picks : List ℕ) → Picks ch picks → Picks (quieted ch) picks
  picks-quieted picks p = record { all = p.all ∙ sym (length-map ch.stations quiet_station); within = rw same-counters p.within }

  all-quieted : (lists : List (List ℕ)) → AllPicks ch lists → AllPicks (quieted ch) lists
  all-quieted [] a = tt
  all-quieted (picks ∷ lists) a = (picks-quieted picks a.0, all-quieted lists a.1)

  -- EACH PLACE HAS ONE HOLDER AT MOST
  pub one-holder : (k : ℕ) → length (holders_of (table_counters ch.stations).urgent k ch.stations) ≤ 1
  one-holder k = most-one ch.stations ch.wire sound k

  -- WHO SENDS is planned by places and calendar
  pub planned-senders : (w : ℕ) → coming_senders ch w ≡ planned_list (table_counters ch.stations).calendar (table_counters ch.stations).position (served_at (table_counters ch.stations).urgent ch.stations) w
  unfolding coming_senders planned_list served_at
  planned-senders w =
      senders-planned w (quieted ch) q ones picked
      ∙ tabulate-cong w _ _ (λ i h. rw same-counters
      (ap (λ (f : ℕ → ℕ). planned_at (table_counters ch.stations).calendar (table_counters ch.stations).position f i)
      (λ j n. first_of (holders_quiet (table_counters ch.stations).urgent n ch.stations j))))

  -- how many places are left after n slots
  left_after : (n : ℕ) → places_in (quiet_after ch n) ≡ places_in ch - free_in (table_counters ch.stations).calendar (table_counters ch.stations).position n
  unfolding quiet_after
  left_after n = places-left n (quieted ch) q ones picked ∙ rw same-counters

  -- HOW LONG is planned by places and calendar
  abbrev planned : ℕ
  planned = planned_until (table_counters ch.stations).calendar (table_counters ch.stations).position ((table_counters ch.stations).urgent + (table_counters ch.stations).long)

  served_then : free_in (table_counters ch.stations).calendar (table_counters ch.stations).position planned ≡ places_in ch
  served_then =
      let c = table_counters ch.stations in
      let k = calendar-in c (limits ch.stations ch.wire there sound).calendar in
      until_serves c.calendar c.position (c.urgent + c.long) k.position k.size k.free

  not-before : (j : ℕ) → j < planned → free_in (table_counters ch.stations).calendar (table_counters ch.stations).position j < places_in ch
  not-before j h =
      let c = table_counters ch.stations in
      let k = calendar-in c (limits ch.stations ch.wire there sound).calendar in
      until_first c.calendar c.position (c.urgent + c.long) k.position k.size k.free j h

  pub planned-until : coming_until ch ≡ planned
  unfolding coming_until
  planned-until =
      let c = table_counters ch.stations in
      let k = calendar-in c (limits ch.stations ch.wire there sound).calendar in
      first-is (λ n. eqb (places_in (quiet_after ch n)) 0) (24 * places_in ch) 0 planned (omega arith) (omega (arith, until_most c.calendar c.position (c.urgent + c.long) k.position k.size k.free))
      (eq-eqb _ 0 (left_after planned ∙ (let z = served_then in omega (arith, z))))
      (λ j a b. ne_eqb _ 0 (λ e. let z = sym (left_after j) ∙ e in let w = not-before j b in omega (arith, z, w)))

  holds : ComingHolds ch
  unfolding quiet_after
  holds =
      record {
        sound = q.sound;
        goes = λ n picks p. slot-number (channel_after (quieted ch) (slots_on ch n)) (quiet-after n (quieted ch) q ones picked) picks (picks-after n (quieted ch) q ones picked picks (picks-quieted picks p));
        answers = λ lists a. answers-any lists (quieted ch) q (all-quieted lists a) ones picked;
        leaves = λ lists a. after_any lists (quieted ch) q (all-quieted lists a) ones picked;
        alone = λ n. alone-here (channel_after (quieted ch) (slots_on ch n)) (quiet-after n (quieted ch) q ones picked);
        owner = λ n x picks turn senders i s d e went. let o = owned-slots (channel_after (quieted ch) (slots_on ch n)) picks x e turn senders i s d went in (o.alone, o.owner);
        ends = rw planned-until (left_after planned ∙ (let z = served_then in omega (arith, z)));
        first = λ k h e. let z = sym (left_after k) ∙ e in let w = not-before k (subst (λ (n : ℕ). k < n) planned-until h) in omega (arith, z, w);
      }

-- THE RUN
pub coming-holds : ComingHold
coming-holds = holds
