-- A channel's slot that went through passed every test of its list of numbers. Assumes nothing.
use mathlib.Core.Path.{◌≡◌, refl}
use mathlib.Core.Bool.{true}
use mathlib.Core.List.{List}
use Prim.Native.Nat.{ℕ, ◌≤◌}
use native.Mathlib.Omega.{arith}
use lib.Dec.{eqb, leb}
use lib.ListN.{length}
use borrow.Author.Tests.{eqb-true, leb-true}
use Rattle.std.specs.List.{list_all}
use Rattle.rules.specs.declared.Station.{Station}
use Rattle.rules.specs.declared.Turn.{Turn}
use Rattle.rules.specs.declared.Answer.TheVariants.{Went}
use Rattle.rules.specs.Limits.{between}
use Rattle.rules.specs.Queueing.{step_one_of}
use Rattle.channel_rules.specs.Soundness.{table_counters, sound_table}
use Rattle.channel_rules.specs.ChannelCalls.{Channel, ChannelResult, has_stations, refused, feedback_heard, channel_slot_number_of, channel_slot_of}
use Rattle.rules.proofs.SlotStep.{and_both}
use Rattle.rules.proofs.Refusals.{through-only, test_passed}

pub some-stations : (l : List Station) → has_stations l ≡ true → 1 ≤ length l
some-stations l e = leb-true 1 (length l) (and_both (leb 1 (length l)) (leb (length l) 64) e).0

pub record Passed (ch : Channel) (picks : List ℕ) : Type 0 where
  pub number : channel_slot_number_of ch picks ≡ 0
  pub stations : has_stations ch.stations ≡ true
  pub sound : sound_table ch.stations ch.wire ≡ true
  pub picked : length picks ≡ length ch.stations
  pub within : list_all (λ (pick : ℕ). between 1 pick (table_counters ch.stations).minislots) picks ≡ true
  pub fits : (step_one_of (table_counters ch.stations) (feedback_heard ch)).fits ≡ true

-- by its number, and by its answer
pub number_passed : (ch : Channel) (picks : List ℕ) → channel_slot_number_of ch picks ≡ 0 → Passed ch picks
unfolding channel_slot_number_of
number_passed ch picks none =
    let (e14, after14) = test_passed (has_stations ch.stations) 14 _ refl none in
    let (e18, after18) = test_passed (sound_table ch.stations ch.wire) 18 _ refl after14 in
    let (e17, after17) = test_passed (eqb (length picks) (length ch.stations)) 17 _ refl after18 in
    let (e11, after11) = test_passed (list_all (λ (pick : ℕ). between 1 pick (table_counters ch.stations).minislots) picks) 11 _ refl after17 in
    let (e7, after7) = test_passed (step_one_of (table_counters ch.stations) (feedback_heard ch)).fits 7 _ refl after11 in
    record { number = none; stations = e14; sound = e18; picked = eqb-true (length picks) (length ch.stations) e17; within = e11; fits = e7 }

pub slot-passed : (ch : Channel) (picks : List ℕ) (turn : Turn) (n i s d : ℕ) → (channel_slot_of ch picks).answer ≡ Went turn n i s d → Passed ch picks
unfolding channel_slot_of
slot-passed ch picks turn n i s d went =
    number_passed ch picks
    (through-only (λ (r : ChannelResult). r.answer ≡ Went turn n i s d) (channel_slot_number_of ch picks) (refused ch) _
    (λ k q. let z : ◌≡◌ {A = ℕ} 0 1 = cc in absurd (omega arith)) went)
