-- No slot of `follow` is owned. Every position is free at the start of a listener, and a row leaves the calendar as it is: so it is free after any records, by
-- induction on them. Then the turn is that of a free position, and the line of a row that goes through is `free_line`, by the turn's cases. Assumes nothing.
use mathlib.Core.Bool.{Bool, true, false, cond}
use mathlib.Core.List.{List, [], ◌∷◌}
use mathlib.Core.Option.{none}
use mathlib.Core.Path.{◌≡◌, refl, ap, ◌∙◌}
use Prim.Native.Nat.{ℕ, zero, suc, ◌-◌, ◌<◌}
use native.Mathlib.Omega.{arith}
use borrow.Author.Tests.{lt-ltb, ltb-true, ltb-false}
use lib.Dec.{ltb, eqb}
use lib.ListN.{get_or, replicate}
use lib.Seq.{get_or-set_same}
use Rattle.rules.specs.declared.Counters.{Counters}
use Rattle.rules.specs.Calendars.{free_entry, free_calendar, owner_in, owner_of}
use Rattle.rules.specs.declared.Turn.{Turn}
use Rattle.rules.specs.declared.Turn.TheVariants as turn
use Rattle.rules.specs.Turns.{turn_of}
use Rattle.rules.specs.Falling.{urgent_falls, long_falls, fallen}
use Rattle.rules.proofs.LimitLaws.{within-limits, arrays-lengths}
use Rattle.turn_letters.specs.Letters.{letter_of}
use Rattle.following.specs.declared.Follower.{Follower}
use Rattle.following.specs.RecordNumbers.{row_number_of, record_number_of}
use Rattle.following.specs.Following.{at_begin, refused_step, first_went, row_places, row_went, follow_record}
use Rattle.following.proofs.RowNumbers.{row_within}
use Rattle.follow_reads.specs.FreeSlots.{known_from, known_after, free_line, FollowFree}

-- ---- the calendar

-- once a listener has started, all positions are free
abbrev AllFree : Follower → Type 0
AllFree f = 1 < f.place → f.counters.calendar ≡ free_calendar

free-kept : (f : Follower) (bytes : List ℕ) → AllFree f → AllFree (follow_record f bytes).follower
unfolding follow_record fallen
free-kept f bytes h = go (eqb (record_number_of f bytes) 0) (ltb 1 f.place) refl
  where
    go : (none-refuses rows : Bool) → ltb 1 f.place ≡ rows
        → AllFree (cond none-refuses (cond rows (row_went f bytes) (first_went f bytes)) (refused_step f (record_number_of f bytes))).follower
    go true true e w = h (ltb-true 1 f.place e)
    go true false e w = refl
    go false rows e w = h w

free-after : (records : List (List ℕ)) (f : Follower) → AllFree f → AllFree (known_from f records)
free-after [] f h = h
free-after (bytes ∷ records) f h = free-after records (follow_record f bytes).follower (free-kept f bytes h)

-- a position of a calendar that is all free has no owner
free-entry : (n i d : ℕ) → get_or (replicate n d) i d ≡ d
free-entry zero i d = refl
free-entry (suc n) zero d = refl
free-entry (suc n) (suc i) d = free-entry n i d

no_owner : (c : Counters) → c.calendar ≡ free_calendar → owner_of c ≡ none
no_owner c e = ap (λ (l : List ℕ). owner_in (get_or l c.position free_entry)) e ∙ ap owner_in (free-entry 24 c.position free_entry)

-- ---- the line

-- the letter, H and N by the turn of a free position; the tests of H, N and RQ are u, l and r
abbrev turn_by : Bool → Bool → Bool → Turn
turn_by u l r = cond u turn.Urgent (cond l turn.Long (cond r turn.Resolve turn.Open))

letter-by : (u l r : Bool) → letter_of (turn_by u l r) ≡ cond u 117 (cond l 108 (cond r 114 111))
letter-by true l r = refl
letter-by false true r = refl
letter-by false false true = refl
letter-by false false false = refl

urgent-by : (u l r : Bool) (h : ℕ) → ltb 0 h ≡ u → urgent_falls (turn_by u l r) h ≡ h - 1
urgent-by true l r h e = refl
urgent-by false true r h e = omega (arith, ltb-false 0 h e)
urgent-by false false true h e = omega (arith, ltb-false 0 h e)
urgent-by false false false h e = omega (arith, ltb-false 0 h e)

long-by : (u l r : Bool) (n : ℕ) → ltb 0 n ≡ l → long_falls (turn_by u l r) n ≡ cond u n (n - 1)
long-by true l r n e = refl
long-by false true r n e = refl
long-by false false true n e = omega (arith, ltb-false 0 n e)
long-by false false false n e = omega (arith, ltb-false 0 n e)

module _ (f : Follower) (bytes : List ℕ) (rows : 1 < f.place) (free : f.counters.calendar ≡ free_calendar) where
  row_line : row_number_of f bytes ≡ 0 → (row_went f bytes).line ≡ free_line f (row_places f bytes)
  unfolding turn_of fallen
  row_line z =
      let c = f.counters in
      let p = row_places f bytes in
      let w = within-limits c (row_within f bytes z).0 in
      let a = arrays-lengths c w.arrays in
      rw (
        no_owner c free,
        letter-by (ltb 0 p.urgent) (ltb 0 p.long) (ltb 0 p.resolution),
        urgent-by (ltb 0 p.urgent) (ltb 0 p.long) (ltb 0 p.resolution) p.urgent refl,
        long-by (ltb 0 p.urgent) (ltb 0 p.long) (ltb 0 p.resolution) p.long refl,
        get_or-set_same c.resolution (c.next - 1) (p.resolution - 1) 0 (omega (arith, a.0, w.next, w.groups)),
      )

  record-line : row_number_of f bytes ≡ 0 → (follow_record f bytes).line ≡ free_line f (row_places f bytes)
  unfolding follow_record record_number_of
  record-line z = rw (lt-ltb 1 f.place rows, z) (row_line z)

-- THE THEOREM
pub follow_free : FollowFree
follow_free records rows bytes =
    let f = known_after records in
    let free = free-after records at_begin (λ w. absurd (omega arith)) rows in
    record { calendar = free; unowned = no_owner f.counters free; line = record-line f bytes rows free }
