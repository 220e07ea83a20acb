-- One call and a stretch of N: it stays where it is, unless the call is a slot that goes through and has no stream owner. On an urgent turn it yields; else it
-- moves one place down while another sends, or it begins at place 1 and sends its next segment. Assumes nothing.
use mathlib.Core.Path.{◌≡◌, refl, sym, ap, subst, ◌∙◌}
use mathlib.Core.Bool.{Bool, true, false, cond}
use mathlib.Core.List.{List}
use mathlib.Core.Option.{Option, none, some}
use Prim.Native.Nat.{ℕ, zero, suc, ◌-◌, ◌≤◌, ◌<◌}
use native.Mathlib.Omega.{arith}
use lib.Dec.{eqb}
use lib.ListN.{length, get_or}
use Rattle.rules.specs.declared.Acted.{Acted}
use Rattle.rules.specs.declared.Counters.{Counters}
use Rattle.rules.specs.declared.Station.{Station}
use Rattle.rules.specs.declared.Condition.{Condition}
use Rattle.rules.specs.declared.Condition.TheVariants.{Free, Long}
use Rattle.rules.specs.declared.Turn.TheVariants.{Long as LongTurn}
use Rattle.rules.specs.Calendars.{owner_of}
use Rattle.rules.specs.Calls.{Call, Write, Slot, Calendar}
use Rattle.rules.specs.PlaceSteps.{acts_in}
use Rattle.rules.specs.Queueing.{places_after}
use Rattle.rules.specs.StationLimits.{condition_within}
use Rattle.rules.specs.Stepping.{is_fresh}
use Rattle.channel_rules.specs.Soundness.{table_counters}
use Rattle.channel_rules.specs.ChannelCalls.{Channel, ChannelResult, feedback_heard, outcome_heard, channel_call}
use Rattle.rules.proofs.PlaceLaws.{turn-urgent, turn-long, long-there}
use Rattle.coming_rules.specs.Quiet.{quiet_condition}
use Rattle.sound_slots.proofs.Passing.{Passed}
use Rattle.place_waits.specs.Continuing.{long_at, index_at, is_taken, is_counted, Tells, is_urgent_turn, on_urgent}
use Rattle.place_waits.proofs.SlotLeaves.{taken-passed, all-within, laws, result-is, long_after}
use Rattle.place_waits.proofs.CallLeaves.{long_same}
use Rattle.place_waits.proofs.Conditions.{quiet_is, StretchIn, stretch_in}
use Rattle.place_waits.proofs.LoneSender.{within-at, tells-long, first-long}
use Rattle.place_waits.proofs.UrgentSteps.{inside-by, same_index, one_index, counted-free, counted-owned}

pub long-inside : (ch : Channel) (k f l t : ℕ) → long_at ch k ≡ Long f l t → k < length ch.stations
long-inside ch k f l t e = inside-by ch k (λ q. let z : Free ≡ Long f l t = sym (ap (λ (s : Station). s.long.condition) q) ∙ e in let y : ◌≡◌ {A = ℕ} 0 1 = cc in omega arith)

pub quiet_long-is : (k : Condition) (f l t : ℕ) → quiet_condition k ≡ Long f l t → k ≡ Long f l t
quiet_long-is k f l t = quiet_is k (Long f l t) (λ e. let y : ◌≡◌ {A = ℕ} 0 1 = cc in omega arith)

-- a slot's answer has the turn of its outcome
pub turn-told : (ch : Channel) (picks : List ℕ) → Passed ch picks → on_urgent (channel_call ch (Slot picks)).answer ≡ is_urgent_turn (outcome_heard ch).turn
turn-told ch picks passed = ap (λ (r : ChannelResult). on_urgent r.answer) (result-is ch picks passed)

-- ---- ONE CALL

pub data LongStep (ch : Channel) (c : Call) (k f l t : ℕ) : Type 0 where
  Stays : is_counted ch c ≡ false → long_at (channel_call ch c).state k ≡ Long f l t → LongStep ch c k f l t
  Yields : is_counted ch c ≡ true → on_urgent (channel_call ch c).answer ≡ true → long_at (channel_call ch c).state k ≡ Long f l t → LongStep ch c k f l t
  Moves : is_counted ch c ≡ true → on_urgent (channel_call ch c).answer ≡ false → (g : ℕ) → f ≡ suc g → 1 ≤ g → long_at (channel_call ch c).state k ≡ Long g l t
      → ((s : ℕ) → Tells LongTurn (index_at ch k) s (channel_call ch c).answer → ⊥) → LongStep ch c k f l t
  Sends : is_counted ch c ≡ true → on_urgent (channel_call ch c).answer ≡ false → f ≡ 1 → long_at (channel_call ch c).state k ≡ cond (eqb l 1) Free (Long 1 (l - 1) t)
      → Tells LongTurn (index_at ch k) (t - (l - 1)) (channel_call ch c).answer → LongStep ch c k f l t

pub long-limits : (ch : Channel) (picks : List ℕ) → Passed ch picks → (k f l t : ℕ) → long_at ch k ≡ Long f l t → StretchIn (table_counters ch.stations).long f l t
long-limits ch picks passed k f l t e =
    stretch_in (table_counters ch.stations) f l t
    (subst (λ (x : Condition). condition_within (table_counters ch.stations) x ≡ true) e (within-at (table_counters ch.stations) ch.stations (all-within ch picks passed) k (long-inside ch k f l t e)).long)

module _ (ch : Channel) (k f l t : ℕ) (e : long_at ch k ≡ Long f l t) where
  abbrev c : Counters
  c = table_counters ch.stations

  module _ (picks : List ℕ) (taken : is_taken ch (Slot picks) ≡ true) where
    passed : Passed ch picks
    passed = taken-passed ch picks taken

    acts : long_at (channel_call ch (Slot picks)).state k ≡ (acts_in c (feedback_heard ch) (Long f l t) (get_or picks k 0)).condition
    acts =
        long_after ch picks passed k (long-inside ch k f l t e) (ap is_fresh e)
        ∙ ap (λ (x : Condition). (acts_in c (feedback_heard ch) x (get_or picks k 0)).condition) e

    lies : StretchIn c.long f l t
    lies = long-limits ch picks passed k f l t e

    some-long : 1 ≤ c.long
    some-long = omega (arith, lies.first, lies.left, lies.last)

    served : owner_of c ≡ none → (places_after c (feedback_heard ch)).urgent ≡ 0 → (g : ℕ) → f ≡ g → LongStep ch (Slot picks) k f l t
    served owner quiet zero q = absurd (omega (arith, lies.first, q))
    served owner quiet (suc zero) q =
        Sends (counted-free ch picks taken owner) (turn-told ch picks passed ∙ ap is_urgent_turn (turn-long c (feedback_heard ch) owner quiet (long-there c (feedback_heard ch) some-long))) q
        (acts ∙ ap (λ (x : ℕ). (acts_in c (feedback_heard ch) (Long x l t) (get_or picks k 0)).condition) q
        ∙ ap (λ (y : Acted). y.condition) ((laws ch picks passed).long-first l t (get_or picks k 0) owner quiet some-long))
        (tells-long ch picks passed owner quiet some-long k l t (long-inside ch k f l t e) (e ∙ ap (λ (x : ℕ). Long x l t) q))
    served owner quiet (suc (suc g)) q =
        let first = first-long ch picks passed owner quiet some-long in
        Moves (counted-free ch picks taken owner) (turn-told ch picks passed ∙ ap is_urgent_turn (turn-long c (feedback_heard ch) owner quiet (long-there c (feedback_heard ch) some-long))) (suc g) q (omega arith)
        (acts ∙ ap (λ (x : ℕ). (acts_in c (feedback_heard ch) (Long x l t) (get_or picks k 0)).condition) q
        ∙ ap (λ (y : Acted). y.condition) ((laws ch picks passed).long-next (suc g) l t (get_or picks k 0) owner quiet some-long (omega arith)))
        (λ s told.
        let same = same_index LongTurn (index_at ch k) (index_at ch first.0) s _ _ told (tells-long ch picks passed owner quiet some-long first.0 first.2.left first.2.total first.1 first.2.stands) in
        let one = one_index ch picks passed k first.0 (long-inside ch k f l t e) first.1 same in
        let z : Long f l t ≡ Long 1 first.2.left first.2.total = sym e ∙ ap (long_at ch) one ∙ first.2.stands in
        let y : f ≡ 1 = cc in omega (arith, y, q))

    slot_step : (o : Option ℕ) → owner_of c ≡ o → (h : ℕ) → (places_after c (feedback_heard ch)).urgent ≡ h → LongStep ch (Slot picks) k f l t
    slot_step (some x) owner h q = Stays (counted-owned ch picks taken x owner) (acts ∙ ap (λ (y : Acted). y.condition) ((laws ch picks passed).long-owned x f l t (get_or picks k 0) owner))
    slot_step none owner zero q = served owner q f refl
    slot_step none owner (suc h) q =
        Yields (counted-free ch picks taken owner) (turn-told ch picks passed ∙ ap is_urgent_turn (turn-urgent c (feedback_heard ch) owner (omega (arith, q))))
        (acts ∙ ap (λ (y : Acted). y.condition) ((laws ch picks passed).long-waits f l t (get_or picks k 0) owner (omega (arith, q))))

  pub long-step : (call : Call) → LongStep ch call k f l t
  long-step (Write x w) = Stays refl (quiet_long-is _ f l t (long_same ch (Write x w) refl k ∙ ap quiet_condition e))
  long-step (Calendar entries) = Stays refl (quiet_long-is _ f l t (long_same ch (Calendar entries) refl k ∙ ap quiet_condition e))
  long-step (Slot picks) = go (is_taken ch (Slot picks)) refl
    where
      go : (b : Bool) → is_taken ch (Slot picks) ≡ b → LongStep ch (Slot picks) k f l t
      go true q = slot_step picks q (owner_of c) refl (places_after c (feedback_heard ch)).urgent refl
      go false q = Stays (rw q) (quiet_long-is _ f l t (long_same ch (Slot picks) q k ∙ ap quiet_condition e))
