-- The closed form of the number of slots, over the array that holds the free ones of a round. Assumes nothing.
use mathlib.Core.Path.{◌≡◌, ap, sym, ◌∙◌}
use mathlib.Core.Bool.{true, cond}
use mathlib.Core.Logic.{◌≢◌}
use mathlib.Core.List.{List}
use Prim.Native.Nat.{ℕ, ◌+◌, ◌-◌, ◌*◌, ◌/◌, ◌%◌, ◌≤◌, ◌<◌}
use native.Mathlib.Nat.{mod-lt}
use native.Mathlib.Omega.{arith}
use borrow.Author.Tests.{ne_eqb}
use lib.Dec.{eqb}
use lib.ListN.{length, get_or, replicate, get_or-append}
use Rattle.rules.specs.declared.Counters.{Counters}
use Rattle.rules.specs.Calendars.{calendar_within}
use Rattle.rules.proofs.LimitLaws.{calendar-in}
use Rattle.coming_rules.specs.Planned.{free_in, free_slots, planned_until}
use Rattle.coming_rules.proofs.FreeSlots.{free-length, free-most, free-some, until_most}
use Rattle.free_slots.specs.Round.{free_round, slots_with}
use Rattle.free_slots.specs.declared.FreeSlots.{FreeSlots}

-- over any slots in the front of the array
closed : (l : List ℕ) (f : FreeSlots) (places : ℕ) → f ≡ slots_with l → 1 ≤ length l → places ≢ 0
    → 24 * ((places - 1) / f.count) + get_or f.slots ((places - 1) % f.count) 0 + 1
    ≡ cond (eqb places 0) 0 (24 * ((places - 1) / length l) + get_or l ((places - 1) % length l) 0 + 1)
closed l f places e h n =
    let r : (places - 1) % length l < length l = mod-lt (places - 1) h in
    rw (e, ne_eqb places 0 n, get_or-append l (replicate (24 - length l) 0) 0 ((places - 1) % length l) r)

module _ (c : Counters) (h : calendar_within c ≡ true) {f : FreeSlots} (e : f ≡ free_round c.calendar c.position) where
  counted : f.count ≡ free_in c.calendar c.position 24
  unfolding free_round
  counted = ap (λ (x : FreeSlots). x.count) e ∙ free-length c.calendar c.position 24

  -- some are free, and no more than 24: each is in the array
  pub count-some : 1 ≤ f.count
  count-some =
      let k = calendar-in c h in
      rw counted (free-some c.calendar c.position k.position k.size k.free)

  count-few : f.count ≤ 24
  count-few = rw counted (free-most c.calendar c.position 24)

  pub nth_within : (m : ℕ) → m % f.count < 24
  nth_within m = omega (arith, mod-lt m count-some, count-few)

  -- THE CLOSED FORM, for some place
  pub until_closed : (places : ℕ) → places ≢ 0
      → 24 * ((places - 1) / f.count) + get_or f.slots ((places - 1) % f.count) 0 + 1 ≡ planned_until c.calendar c.position places
  unfolding free_round planned_until
  until_closed places n = closed (free_slots c.calendar c.position 24) f places e (rw (sym (ap (λ (x : FreeSlots). x.count) e)) count-some) n

  -- so it is small
  pub until_small : (places : ℕ) → places ≢ 0 → 24 * ((places - 1) / f.count) + get_or f.slots ((places - 1) % f.count) 0 + 1 ≤ 24 * places
  until_small places n =
      let k = calendar-in c h in
      rw (until_closed places n) (until_most c.calendar c.position places k.position k.size k.free)
