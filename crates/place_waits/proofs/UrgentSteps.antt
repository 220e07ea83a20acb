-- One call and a message in H: it stays where it is, unless the call is a slot that goes through and has no stream owner; then it moves one place down while
-- another is sent, or it is at place 1 and is sent. Assumes nothing.
use mathlib.Core.Path.{◌≡◌, refl, sym, ap, subst, ◌∙◌}
use mathlib.Core.Bool.{Bool, true, false, ◌&&◌}
use mathlib.Core.List.{List}
use mathlib.Core.Logic.{by_cases}
use mathlib.Core.Option.{Option, none, some}
use Prim.Native.Nat.{ℕ, zero, suc, ◌≤◌, ◌<◌}
use native.Mathlib.Omega.{arith}
use native.Mathlib.Decide.{dec_lt}
use lib.ListN.{length, get_or, get_or-eq_default}
use Rattle.rules.specs.declared.Acted.{Acted}
use Rattle.rules.specs.declared.Answer.{Answer}
use Rattle.rules.specs.declared.Answer.TheVariants.{Went}
use Rattle.rules.specs.declared.Station.{Station}
use Rattle.rules.specs.declared.Condition.{Condition}
use Rattle.rules.specs.declared.Condition.TheVariants.{Free, Urgent}
use Rattle.rules.specs.declared.Turn.{Turn}
use Rattle.rules.specs.declared.Turn.TheVariants.{Urgent as UrgentTurn}
use Rattle.rules.specs.Calendars.{owner_of}
use Rattle.rules.specs.Calls.{Call, Write, Slot, Calendar}
use Rattle.rules.specs.PlaceSteps.{acts_in}
use Rattle.rules.specs.StationCalls.{no_station}
use Rattle.rules.specs.StationLimits.{condition_within}
use Rattle.channel_rules.specs.Soundness.{table_counters}
use Rattle.channel_rules.specs.SoundMeaning.{station_at}
use Rattle.channel_rules.specs.ChannelCalls.{Channel, feedback_heard, channel_call}
use Rattle.rules.proofs.LimitLaws.{between-bounds}
use Rattle.coming_rules.specs.Quiet.{quiet_condition}
use Rattle.sound_slots.proofs.Passing.{Passed}
use Rattle.place_waits.specs.Continuing.{short_at, index_at, is_taken, nobodys, unowned, is_counted, Tells, on_urgent}
use Rattle.place_waits.proofs.SlotLeaves.{taken-passed, all-within, means, laws, index-after, short-after, past_after}
use Rattle.place_waits.proofs.CallLeaves.{short-same, index_same}
use Rattle.place_waits.proofs.Conditions.{quiet_is}
use Rattle.place_waits.proofs.LoneSender.{within-at, tells-urgent, first-urgent}

-- ---- stations and their messages

past_end : (l : List Station) (k : ℕ) → length l ≤ k → station_at l k ≡ no_station
past_end l k h = get_or-eq_default l no_station h

-- a station whose record holds a message is on the table
pub inside-by : (ch : Channel) (k : ℕ) → (station_at ch.stations k ≡ no_station → ⊥) → k < length ch.stations
inside-by ch k other = by_cases (dec_lt k (length ch.stations)) (λ h. h) (λ h. absurd (other (past_end ch.stations k (omega arith))))

pub urgent-inside : (ch : Channel) (k p : ℕ) → short_at ch k ≡ Urgent p → k < length ch.stations
urgent-inside ch k p e = inside-by ch k (λ q. let z : Free ≡ Urgent p = sym (ap (λ (s : Station). s.short.condition) q) ∙ e in let y : ◌≡◌ {A = ℕ} 0 1 = cc in omega arith)

-- what shows as a place of H is one
pub quiet-urgent-is : (k : Condition) (p : ℕ) → quiet_condition k ≡ Urgent p → k ≡ Urgent p
quiet-urgent-is k p = quiet_is k (Urgent p) (λ e. let y : ◌≡◌ {A = ℕ} 0 1 = cc in omega arith)

-- every call keeps the indexes
pub index-any : (ch : Channel) (c : Call) (k : ℕ) → index_at (channel_call ch c).state k ≡ index_at ch k
index-any ch (Write x w) k = index_same ch (Write x w) refl k
index-any ch (Calendar entries) k = index_same ch (Calendar entries) refl k
index-any ch (Slot picks) k = go (is_taken ch (Slot picks)) refl
  where
    go : (b : Bool) → is_taken ch (Slot picks) ≡ b → index_at (channel_call ch (Slot picks)).state k ≡ index_at ch k
    go false e = index_same ch (Slot picks) e k
    go true e =
        let passed = taken-passed ch picks e in
        by_cases (dec_lt k (length ch.stations)) (index-after ch picks passed k)
        (λ h. ap (λ (s : Station). s.index) (past_after ch picks passed k (omega arith) ∙ sym (past_end ch.stations k (omega arith))))

-- ---- what an answer tells

pub same_index : (turn : Turn) (x y s r : ℕ) (a : Answer) → Tells turn x s a → Tells turn y r a → x ≡ y
same_index turn x y s r a u v = let e : Went turn 1 x s u.delivered ≡ Went turn 1 y r v.delivered = sym u.told ∙ v.told in cc

pub tells-urgent-turn : (x s : ℕ) (a : Answer) → Tells UrgentTurn x s a → on_urgent a ≡ true
tells-urgent-turn x s a u = ap on_urgent u.told

-- two stations of one index are one
pub one_index : (ch : Channel) (picks : List ℕ) → Passed ch picks → (j k : ℕ) → j < length ch.stations → k < length ch.stations → index_at ch j ≡ index_at ch k → j ≡ k
one_index ch picks passed j k a b e = (means ch picks passed).distinct j k a b e

-- a slot that goes through is counted unless a stream owns it
module _ (ch : Channel) (picks : List ℕ) (taken : is_taken ch (Slot picks) ≡ true) where
  pub counted-free : owner_of (table_counters ch.stations) ≡ none → is_counted ch (Slot picks) ≡ true
  counted-free owner = ap (λ (b : Bool). b && unowned ch) taken ∙ ap nobodys owner

  pub counted-owned : (x : ℕ) → owner_of (table_counters ch.stations) ≡ some x → is_counted ch (Slot picks) ≡ false
  counted-owned x owner = ap (λ (b : Bool). b && unowned ch) taken ∙ ap nobodys owner

-- ---- ONE CALL

pub data UrgentStep (ch : Channel) (c : Call) (k p : ℕ) : Type 0 where
  Stays : is_counted ch c ≡ false → short_at (channel_call ch c).state k ≡ Urgent p → UrgentStep ch c k p
  Moves : is_counted ch c ≡ true → (q : ℕ) → p ≡ suc q → 1 ≤ q → short_at (channel_call ch c).state k ≡ Urgent q
      → (Tells UrgentTurn (index_at ch k) 1 (channel_call ch c).answer → ⊥) → UrgentStep ch c k p
  Sends : is_counted ch c ≡ true → p ≡ 1 → short_at (channel_call ch c).state k ≡ Free → Tells UrgentTurn (index_at ch k) 1 (channel_call ch c).answer → UrgentStep ch c k p

-- a message of H lies within it
pub urgent-limits : (ch : Channel) (picks : List ℕ) → Passed ch picks → (k p : ℕ) → short_at ch k ≡ Urgent p → (1 ≤ p) × (p ≤ (table_counters ch.stations).urgent)
unfolding condition_within
urgent-limits ch picks passed k p e =
    between-bounds 1 p (table_counters ch.stations).urgent
    (subst (λ (x : Condition). condition_within (table_counters ch.stations) x ≡ true) e (within-at (table_counters ch.stations) ch.stations (all-within ch picks passed) k (urgent-inside ch k p e)).short)

module _ (ch : Channel) (k : ℕ) where
  acts : (picks : List ℕ) (passed : Passed ch picks) (p : ℕ) → short_at ch k ≡ Urgent p → short_at (channel_call ch (Slot picks)).state k ≡ (acts_in (table_counters ch.stations) (feedback_heard ch) (Urgent p) (get_or picks k 0)).condition
  acts picks passed p e =
      short-after ch picks passed k (urgent-inside ch k p e) ∙ ap (λ (x : Condition). (acts_in (table_counters ch.stations) (feedback_heard ch) x (get_or picks k 0)).condition) e

  slot_step : (picks : List ℕ) → is_taken ch (Slot picks) ≡ true → (o : Option ℕ) → owner_of (table_counters ch.stations) ≡ o → (p : ℕ) → short_at ch k ≡ Urgent p → UrgentStep ch (Slot picks) k p
  slot_step picks taken (some x) owner p e =
      let passed = taken-passed ch picks taken in
      Stays (counted-owned ch picks taken x owner) (acts picks passed p e ∙ ap (λ (y : Acted). y.condition) ((laws ch picks passed).urgent-owned x p (get_or picks k 0) owner))
  slot_step picks taken none owner zero e = let lo = urgent-limits ch picks (taken-passed ch picks taken) k 0 e in absurd (omega (arith, lo))
  slot_step picks taken none owner (suc zero) e =
      let passed = taken-passed ch picks taken in
      let lo = urgent-limits ch picks passed k 1 e in
      Sends (counted-free ch picks taken owner) refl (acts picks passed 1 e ∙ ap (λ (y : Acted). y.condition) ((laws ch picks passed).urgent-first (get_or picks k 0) owner (omega (arith, lo)))) (tells-urgent ch picks passed owner (omega (arith, lo)) k (urgent-inside ch k 1 e) e)
  slot_step picks taken none owner (suc (suc q)) e =
      let passed = taken-passed ch picks taken in
      let lo = urgent-limits ch picks passed k (suc (suc q)) e in
      let first = first-urgent ch picks passed owner (omega (arith, lo)) in
      Moves (counted-free ch picks taken owner) (suc q) refl (omega arith)
      (acts picks passed (suc (suc q)) e ∙ ap (λ (y : Acted). y.condition) ((laws ch picks passed).urgent-next (suc q) (get_or picks k 0) owner (omega (arith, lo)) (omega arith)))
      (λ told.
      let same = same_index UrgentTurn (index_at ch k) (index_at ch first.0) 1 1 _ told (tells-urgent ch picks passed owner (omega (arith, lo)) first.0 first.1 first.2) in
      let one = one_index ch picks passed k first.0 (urgent-inside ch k (suc (suc q)) e) first.1 same in
      let z : Urgent (suc (suc q)) ≡ Urgent 1 = sym e ∙ ap (short_at ch) one ∙ first.2 in
      let y : suc (suc q) ≡ 1 = cc in omega arith)

  pub urgent-step : (c : Call) (p : ℕ) → short_at ch k ≡ Urgent p → UrgentStep ch c k p
  urgent-step (Write x w) p e = Stays refl (quiet-urgent-is _ p (short-same ch (Write x w) refl k ∙ ap quiet_condition e))
  urgent-step (Calendar entries) p e = Stays refl (quiet-urgent-is _ p (short-same ch (Calendar entries) refl k ∙ ap quiet_condition e))
  urgent-step (Slot picks) p e = go (is_taken ch (Slot picks)) refl
    where
      go : (b : Bool) → is_taken ch (Slot picks) ≡ b → UrgentStep ch (Slot picks) k p
      go true q = slot_step picks q (owner_of (table_counters ch.stations)) refl p e
      go false q = Stays (rw q) (quiet-urgent-is _ p (short-same ch (Slot picks) q k ∙ ap quiet_condition e))
