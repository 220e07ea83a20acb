-- THE LAW OF A SLOT: judged, its stations stepped one after the other and what they send gathered, the table, the wire and the answer are those of the
-- channel's definition. A table that was loaded is judged as the table itself; and the reply's needs are met. Assumes nothing.
use mathlib.Core.Path.{◌≡◌, refl, sym, ap, ◌∙◌}
use mathlib.Core.Bool.{Bool, true, false, cond, false≢true}
use mathlib.Core.List.{List, map, foldl}
use mathlib.Core.Logic.{by_cases}
use Prim.Native.Nat.{ℕ}
use native.Mathlib.Omega.{arith}
use native.Mathlib.Decide.{dec_lt}
use lib.Dec.{eqb}
use lib.ListN.{length, take}
use lib.Seq.{take_all}
use borrow.Author.Tests.{eqb-true}
use Rattle.listlaws.specs.Steps.{all_steps, each_with}
use Rattle.listlaws.proofs.Steps.{all_steps-none}
use Rattle.rules.specs.declared.Sent.{Sent}
use Rattle.rules.specs.declared.Station.{Station}
use Rattle.rules.specs.declared.StationSlot.{StationSlot}
use Rattle.rules.specs.declared.WireRow.{WireRow}
use Rattle.rules.specs.Stepping.{step_of}
use Rattle.channel_rules.specs.ChannelCalls.{refused, outcome_heard, slots_heard, sent_of, slot_through, channel_slot_number_of, channel_slot_of}
use Rattle.table.specs.Loading.{load_of}
use Rattle.sending.specs.Gathered.{silence, gathered}
use Rattle.calls.specs.ByValue.{channel_of, array_channel}
use Rattle.calls.proofs.ByValue.{many_false, array-loaded, array-many}
use Rattle.calls.specs.declared.Judged.{Judged}
use Rattle.slots.specs.Judging.{no_outcome, judged_refused, judged_of}
use Rattle.replying.specs.Replying.{reply_of, Answerable}
use Rattle.slots.specs.Stepped.{station_after, stepped_of, gathered_of, slot_left}
use Rattle.slots.proofs.Numbers.{Passed, slot-passed, slot_14}
use Rattle.slots.proofs.Goes.{stations_are, sent_is, senders-most, delivered-most}

module _ (ys : List Station) (wire : List WireRow) (picks : List ℕ) where
  abbrev through : Judged
  through = record { number = 0; steps = length ys; outcome = outcome_heard (channel_of ys wire) }

  abbrev number : ℕ
  number = channel_slot_number_of (channel_of ys wire) picks

  -- ---- a slot that goes through

  module _ (passed : Passed (channel_of ys wire) picks) where
    picks-all : take (length ys) picks ≡ picks
    picks-all = take_all (length ys) picks (omega (arith, passed.same))

    stepped-through : stepped_of (outcome_heard (channel_of ys wire)) (length ys) ys picks ≡ map (λ (r : StationSlot). r.station) (slots_heard (channel_of ys wire) picks)
    unfolding stepped_of
    stepped-through = ap (all_steps (station_after (outcome_heard (channel_of ys wire))) ys) picks-all ∙ stations_are ys wire picks passed

    gathered-through : gathered_of (outcome_heard (channel_of ys wire)) (length ys) ys picks ≡ sent_of (slots_heard (channel_of ys wire) picks)
    unfolding gathered_of
    gathered-through =
        ap (λ (ks : List ℕ). foldl gathered silence (each_with (step_of (outcome_heard (channel_of ys wire))) ys ks)) picks-all ∙ sent_is ys wire picks passed

    goes : slot_left through ys wire picks ≡ slot_through (channel_of ys wire) (outcome_heard (channel_of ys wire)) (slots_heard (channel_of ys wire) picks)
    unfolding reply_of
    goes = rw (stepped-through, gathered-through)

  -- ---- a refusal

  stays : (k : ℕ) → eqb k 0 ≡ false → slot_left (judged_refused k) ys wire picks ≡ refused (channel_of ys wire) k
  unfolding reply_of stepped_of
  stays k e = rw (e, all_steps-none (station_after no_outcome) ys)

  -- ---- THE LAW

  pub slot_is : slot_left (judged_of (channel_of ys wire) picks) ys wire picks ≡ channel_slot_of (channel_of ys wire) picks
  unfolding judged_of channel_slot_of
  slot_is = go (eqb number 0) refl
    where
      go : (b : Bool) → eqb number 0 ≡ b
          → slot_left (cond b through (judged_refused number)) ys wire picks
          ≡ cond b (slot_through (channel_of ys wire) (outcome_heard (channel_of ys wire)) (slots_heard (channel_of ys wire) picks)) (refused (channel_of ys wire) number)
      go true e = goes (slot-passed (channel_of ys wire) picks (eqb-true number 0 e))
      go false e = stays number e

  -- ---- the reply's needs

  pub answerable : Answerable (judged_of (channel_of ys wire) picks)
      (gathered_of (judged_of (channel_of ys wire) picks).outcome (judged_of (channel_of ys wire) picks).steps ys picks)
  unfolding judged_of
  answerable = go (eqb number 0) refl
    where
      go : (b : Bool) → eqb number 0 ≡ b → Answerable (cond b through (judged_refused number))
          (gathered_of (cond b through (judged_refused number)).outcome (cond b through (judged_refused number)).steps ys picks)
      go true e =
          let p = slot-passed (channel_of ys wire) picks (eqb-true number 0 e) in
          record { delivered = λ _. omega (arith, ap (λ (s : Sent). s.senders) (gathered-through p), senders-most ys wire picks p, delivered-most ys wire picks p) }
      go false e =
          let nonzero : number ≡ 0 → ⊥ = λ z. false≢true (sym e ∙ ap (λ (k : ℕ). eqb k 0) z) in
          record { delivered = λ z. absurd (nonzero z) }

  -- ---- a table that was loaded

  pub judged-loaded : judged_of (array_channel (load_of ys).stations (load_of ys).count wire) picks ≡ judged_of (channel_of ys wire) picks
  judged-loaded =
      by_cases (dec_lt 64 (length ys))
      (λ h. sym (slot_14 (array_channel (load_of ys).stations (load_of ys).count wire) picks (rw (array-many ys) (many_false (length ys) h)))
      ∙ slot_14 (channel_of ys wire) picks (many_false (length ys) h))
      (λ h. ap (λ (l : List Station). judged_of (channel_of l wire) picks) (array-loaded ys (omega arith)))
