-- What the pass over a table has done after i stations: the table, and what is gathered. Assumes nothing.
use mathlib.Core.Path.{◌≡◌, refl, sym, ◌∙◌, ap}
use mathlib.Core.List.{List, foldl}
use mathlib.Core.Logic.{◌⊎◌, inl, inr, by_cases}
use Prim.Native.Nat.{ℕ, ◌+◌, ◌≤◌, ◌<◌, min}
use native.Mathlib.Decide.{dec_lt}
use native.Mathlib.Numerals.{add-one}
use native.Mathlib.Omega.{arith}
use lib.ListN.{length, get_or, set, take}
use Rattle.listlaws.specs.Steps.{first_steps, each_with}
use Rattle.listlaws.proofs.Steps.{length-first_steps, first_steps-at, set-first_steps, first_steps-take, within-each_with, each_with-at, each_with-take}
use Rattle.listlaws.proofs.Fold.{fold_more}
use Rattle.rules.specs.declared.Station.{Station}
use Rattle.rules.specs.declared.StationSlot.{StationSlot}
use Rattle.rules.specs.declared.Outcome.{Outcome}
use Rattle.rules.specs.declared.Sent.{Sent}
use Rattle.sending.specs.Gathered.{silence, gathered}
use Rattle.table.specs.Loading.{absent}
use Rattle.rules.specs.Stepping.{step_of}
use Rattle.pass.specs.Rounds.{rounds_of}
use Rattle.slots.specs.Stepped.{station_after, stepped_of, gathered_of}

-- ---- how many stations take their step

pub record Rounds (n m steps k : ℕ) : Type 0 where
  pub stations : k ≤ n
  pub picks : k ≤ m
  pub most : k ≤ steps
  pub far : (n ≤ k) ⊎ ((steps ≤ k) ⊎ (m ≤ k))

pub rounds-fit : (n m steps : ℕ) → Rounds n m steps (rounds_of n m steps)
unfolding rounds_of
rounds-fit n m steps = record {
  stations = omega arith;
  picks = omega arith;
  most = omega arith;
  far = by_cases (dec_lt (min n m) steps) (λ b. by_cases (dec_lt n m) (λ a. inl (omega arith)) (λ a. inr (inr (omega arith)))) (λ b. inr (inl (omega arith)));
}

module _ (o : Outcome) (table : List Station) (picks : List ℕ) where
  -- ---- the table

  abbrev pub stepped_to : ℕ → List Station
  stepped_to i = first_steps (station_after o) i table picks

  pub length-stepped_to : (i : ℕ) → length (stepped_to i) ≡ length table
  length-stepped_to i = length-first_steps (station_after o) i table picks

  pub stepped_to-more : (i : ℕ) → i < length table → i < length picks
      → set (stepped_to i) i (step_of o (get_or (stepped_to i) i absent) (get_or picks i 0)).station ≡ stepped_to (i + 1)
  stepped_to-more i l m = set-first_steps (station_after o) i table picks absent 0 l m ∙ ap stepped_to (sym (add-one i))

  -- ---- what is gathered. It is shut, since at i = 0 it would compute to a row wherever a walk compares two contexts

  unfoldable pub sent_to : ℕ → Sent
  sent_to i = foldl gathered silence (take i (each_with (step_of o) table picks))

  pub sent_to-none : silence ≡ sent_to 0
  unfolding sent_to
  sent_to-none = refl

  pub sent_to-more : (i : ℕ) → i < length table → i < length picks → gathered (sent_to i) (step_of o (get_or (stepped_to i) i absent) (get_or picks i 0)) ≡ sent_to (i + 1)
  unfolding sent_to
  sent_to-more i l m =
      ap (λ (s : Station). gathered (sent_to i) (step_of o s (get_or picks i 0))) (first_steps-at (station_after o) i table picks absent)
      ∙ ap (λ (r : StationSlot). gathered (sent_to i) r) (sym (each_with-at (step_of o) i table picks absent 0 none l m))
      ∙ fold_more gathered silence (each_with (step_of o) table picks) i none (within-each_with (step_of o) i table picks l m)
      ∙ ap sent_to (sym (add-one i))
    where
      none : StationSlot
      none = step_of o absent 0

  -- ---- at the end

  module _ (steps : ℕ) where
    pub stepped_to-all : stepped_to (rounds_of (length table) (length picks) steps) ≡ stepped_of o steps table picks
    unfolding stepped_of
    stepped_to-all = let w = rounds-fit (length table) (length picks) steps in
        first_steps-take (station_after o) (rounds_of (length table) (length picks) steps) steps table picks w.most w.far

    pub sent_to-all : sent_to (rounds_of (length table) (length picks) steps) ≡ gathered_of o steps table picks
    unfolding sent_to gathered_of
    sent_to-all = let w = rounds-fit (length table) (length picks) steps in
        ap (foldl gathered silence) (each_with-take (step_of o) (rounds_of (length table) (length picks) steps) steps table picks w.most w.far)
