-- No line of `follow` is longer than 46 bytes, whatever the record, and a record's number stays in 64 bits: so it is lawful. A refusal's number is one of the paper's, at
-- most 19; a row that goes through has passed the test of the limits, so its group is at most 8, and step 1's test, so H and RQ are at most
-- 4,095 and N at most 65,535.
-- Assumes nothing.
use mathlib.Core.Bool.{Bool, true, false, cond}
use mathlib.Core.Path.{◌≡◌, refl, ap}
use mathlib.Core.List.{List, [], ◌++◌, append-nil}
use Prim.Native.Nat.{ℕ, ◌+◌, ◌-◌, ◌<◌, ◌≤◌}
use native.Mathlib.Omega.{arith}
use borrow.Author.Tests.{eqb-true}
use lib.Dec.{ltb, eqb}
use lib.ListN.{length, get_or}
use lib.Seq.{get_or-set_same}
use Rattle.lines.specs.Lines.{line_of}
use Rattle.lines.proofs.LineLaws.{line-within}
use Rattle.refusals.proofs.RefusalLaws.{refusal-within}
use Rattle.rules.specs.declared.Turn.{Turn}
use Rattle.rules.specs.declared.Turn.TheVariants as turn
use Rattle.rules.specs.Refusing.{by_number}
use Rattle.rules.specs.Calendars.{owner_of}
use Rattle.rules.specs.Turns.{turn_of}
use Rattle.rules.specs.Falling.{urgent_falls, long_falls, fallen}
use Rattle.rules.specs.Starting.{in_ranges, start_number_of}
use Rattle.rules.proofs.LimitLaws.{within-limits, arrays-lengths, none_passes}
use Rattle.following.specs.declared.Follower.{Follower}
use Rattle.following.specs.declared.Step.{Step}
use Rattle.following.specs.RecordNumbers.{is_first, first_minislots, first_groups, first_number_of, row_number_of, record_number_of}
use Rattle.turn_letters.specs.Letters.{letter_of}
use Rattle.programs.proofs.Places.{next_place}
use Rattle.following.specs.Following.{refused_step, first_went, row_places, row_went, follow_record}
use Rattle.following.specs.FollowProgram.{result_of, follow_program}
use Rattle.rules.proofs.Refusals.{unless-low}
use Rattle.following.proofs.RowNumbers.{row_low, row_within}
use Rattle.reads.specs.Lawful.{Allowed, Lawful}

-- the numbers of the first record's list are at most 19
first-low : (bytes : List ℕ) → first_number_of bytes ≤ 19
unfolding first_number_of start_number_of
first-low bytes =
    unless-low (is_first bytes) 19 _ (omega arith) (unless-low (in_ranges (first_minislots bytes) (first_groups bytes)) 5 0 (omega arith) (omega arith))

-- a counter that falls is not above what it was
urgent-less : (t : Turn) (h : ℕ) → urgent_falls t h ≤ h
urgent-less (turn.Owned x) h = omega arith
urgent-less turn.Urgent h = omega arith
urgent-less turn.Long h = omega arith
urgent-less turn.Resolve h = omega arith
urgent-less turn.Open h = omega arith

long-less : (t : Turn) (n : ℕ) → long_falls t n ≤ n
long-less (turn.Owned x) n = omega arith
long-less turn.Urgent n = omega arith
long-less turn.Long n = omega arith
long-less turn.Resolve n = omega arith
long-less turn.Open n = omega arith

-- ---- EVERY STEP

-- what holds of all that `follow` may come to know
abbrev Counted : Follower → Type 0
Counted f = f.place ≤ 18446744073709551615

-- the line of a row by itself
row-alone : (slot group letter urgent long resolution : ℕ) → slot ≤ 18446744073709551615 → group < 1000 → urgent < 100000 → long < 100000
    → resolution < 100000 → length (line_of slot group letter urgent long resolution ++ []) ≤ 128
row-alone slot group letter urgent long resolution s g u l r =
    omega (
      arith,
      ap length (append-nil (line_of slot group letter urgent long resolution)),
      line-within slot group letter urgent long resolution s g u l r,
    )

module _ (f : Follower) (near : Counted f) where
  -- a step that may be
  abbrev Fits : Step → Type 0
  Fits s = Allowed follow_program Counted f (result_of s)

  by_both : (n : ℕ) (through : Step) → Fits (refused_step f n) → (n ≡ 0 → Fits through) → Fits (by_number n (refused_step f) through)
  by_both n through r t = go (eqb n 0) refl
    where
      go : (b : Bool) → eqb n 0 ≡ b → Fits (cond b through (refused_step f n))
      go true e = t (eqb-true n 0 e)
      go false e = r

  refused-fits : (n : ℕ) → n ≤ 19 → Fits (refused_step f n)
  refused-fits n h = omega (arith, refusal-within n f.place (omega arith) near)

  first_fits : (bytes : List ℕ) → Fits (first_went f bytes)
  first_fits bytes = (next_place f.place near, omega arith)

  row_fits : (bytes : List ℕ) → row_number_of f bytes ≡ 0 → Fits (row_went f bytes)
  unfolding fallen
  row_fits bytes z =
      let c = f.counters in
      let p = row_places f bytes in
      let after = fallen c p in
      let t = turn_of (owner_of c) p in
      let in_limits = row_within f bytes z in
      let w = within-limits c in_limits.0 in
      let l = arrays-lengths c w.arrays in
      let b = none_passes p in_limits.1 in
      let r = get_or-set_same c.resolution (c.next - 1) (p.resolution - 1) 0 (omega (arith, l.0, w.next, w.groups)) in (
        next_place f.place near,
        row-alone (f.place - 1) c.next (letter_of t) after.urgent after.long (get_or after.resolution (c.next - 1) 0)
            (omega arith) (omega (arith, w.next, w.groups)) (omega (arith, urgent-less t p.urgent, b.0))
            (omega (arith, long-less t p.long, b.1)) (omega (arith, r, b.2)),
      )

  record_fits : (bytes : List ℕ) → Fits (follow_record f bytes)
  unfolding follow_record record_number_of
  record_fits bytes = go (ltb 1 f.place)
    where
      go : (t : Bool) → Fits (by_number (cond t (row_number_of f bytes) (first_number_of bytes)) (refused_step f) (cond t (row_went f bytes) (first_went f bytes)))
      go true = by_both (row_number_of f bytes) (row_went f bytes) (refused-fits _ (row_low f bytes)) (row_fits bytes)
      go false = by_both (first_number_of bytes) (first_went f bytes) (refused-fits _ (first-low bytes)) (λ z. first_fits bytes)

-- ---- THE PROGRAM

pub follow_lawful : Lawful follow_program
follow_lawful =
    record {
      Good = Counted;
      begins = omega arith;
      steps = record_fits;
      broken = λ f near. refused-fits f near 19 (omega arith);
    }
