-- The general forms of the edges that the paper marks P hold: readings and slot totals by their own laws; rows by induction on their Empty
-- minislots, or by what a row adds; a resolve slot's mark because the slots of the other groups leave it alone until the group is next
-- again.
-- Assumes nothing.
use mathlib.Core.Path.{◌≡◌, refl, ap, ◌∙◌, subst, sym}
use mathlib.Core.Bool.{Bool, true, false, cond, and-false, and-eq-true_iff}
use mathlib.Core.List.{List, [], ◌∷◌, ◌++◌}
use mathlib.Core.Logic.{◌⊎◌, inr, ⊎_elim}
use Prim.Native.Nat.{ℕ, zero, suc, ◌+◌, ◌-◌, ◌*◌, ◌≤◌, ◌<◌}
use native.Mathlib.Omega.{arith}
use lib.Dec.{eqb}
use lib.ListN.{length, replicate}
use lib.Seq.{get_or-set_same, get_or-set_other}
use borrow.Author.Tests.{ne_eqb}
use Rattle.pattern.specs.Patterns.{word_of}
use Rattle.pattern.proofs.Ones.{ones_of_zero}
use Rattle.pattern.proofs.Patterns.{pattern-below, pattern-ones, index_of-word}
use Rattle.minislot.specs.declared.Feedback.{Feedback}
use Rattle.minislot.specs.declared.Feedback.TheVariants.{Empty, Single, Collide}
use Rattle.minislot.specs.declared.Reading.TheVariants.{Heard}
use Rattle.minislot.specs.Reading.{reading_of}
use Rattle.minislot.proofs.Readings.{reads_1, reads-click, reads-empty, reads-single, reads_collide}
use Rattle.message.specs.declared.SlotTotal.TheVariants.{Slots}
use Rattle.message.specs.Message.{slot_total_of}
use Rattle.message.proofs.Totals.{fits, fits-none, fits-over, slots-least, taken, refused}
use Rattle.rules.specs.declared.Counters.{Counters}
use Rattle.rules.specs.declared.Places.{Places}
use Rattle.rules.specs.declared.ListenAnswer.TheVariants.{Went}
use Rattle.rules.specs.Calendars.{owner_of}
use Rattle.rules.specs.RowCounts.{short_singles, long_slots, collides}
use Rattle.rules.specs.Queueing.{queued, queued_row, immediate_of, opened_of, places_of, places_after, step_one_of}
use Rattle.rules.specs.declared.Turn.{Turn}
use Rattle.rules.specs.declared.Turn.TheVariants.{Resolve as ResolveTurn}
use Rattle.rules.specs.Turns.{turn_of, is_open}
use Rattle.rules.specs.Falling.{fallen, following}
use Rattle.rules.specs.Listening.{listened, heard_number_of, refused_listening, listen_of}
use Rattle.edges.specs.Changes.{resolution_of, mark_of}
use Rattle.edges.specs.EdgesAny.{places, one_heard, two_heard, after_rows, goes_through, all_go_through, ResolveRound, JoinsUrgent, EdgesAny}
use Rattle.rules.proofs.LimitLaws.{within-limits, arrays-lengths}
use Rattle.rules.proofs.QueueingLaws.{added, never-beside}
use Rattle.edges.proofs.GroupRounds.{NextAfter, following_in, one_fewer, other}

-- ---- readings and slot totals

pattern-reads : (i count : ℕ) → i < 924 → 1 ≤ count → reading_of (word_of i) count ≡ Heard (Single i count)
pattern-reads i count h some =
    reads-single (word_of i) count (pattern-below i h) (pattern-ones i h) ∙ rw (ne_eqb count 0 (λ e. omega arith), index_of-word i h)

slots_are : (bytes k : ℕ) → 1 ≤ bytes → bytes ≤ 12240 → bytes ≤ 48 * k → 48 * k < bytes + 48 → slot_total_of bytes ≡ Slots k
slots_are bytes k some few lo hi = taken bytes (fits bytes some few) ∙ ap Slots (slots-least bytes k lo hi)

-- ---- Empty minislots add nothing

skip_queued : (b : Bool) (p : Places) (x : ℕ) (row : List Feedback) → queued_row b p (replicate x Empty ++ row) ≡ queued_row b p row
unfolding queued_row
skip_queued b p zero row = refl
skip_queued b p (suc x) row = skip_queued b p x row

skip_collides : (x : ℕ) (row : List Feedback) → collides (replicate x Empty ++ row) ≡ collides row
unfolding collides
skip_collides zero row = refl
skip_collides (suc x) row = skip_collides x row

end_queued : (b : Bool) (p : Places) (y : ℕ) → queued_row b p (replicate y Empty) ≡ p
unfolding queued_row
end_queued b p zero = refl
end_queued b p (suc y) = end_queued b p y

one-queued : (b : Bool) (p : Places) (x : ℕ) (f : Feedback) (y : ℕ) → queued_row b p (one_heard x f y) ≡ queued b p f
unfolding queued_row
one-queued b p x f y = skip_queued b p x (f ∷ replicate y Empty) ∙ end_queued b (queued b p f) y

-- ---- a Single and a Collide

places_are : (p : Places) {h n r : ℕ} → p.urgent ≡ h → p.long ≡ n → p.resolution ≡ r → p ≡ places h n r
places_are p a b c = rw (← a, ← b, ← c)

-- beside a Collide there is no immediate success, whatever the mark
collided : (c : Counters) (row : List Feedback) → 1 ≤ collides row → immediate_of c row ≡ false
unfolding immediate_of
collided c row h = never-beside (opened_of c) row (λ e. omega arith)

two-places : (c : Counters) (x : ℕ) (f : Feedback) (y : ℕ) (g : Feedback) (z : ℕ) → 1 ≤ collides (f ∷ one_heard y g z)
    → places_after c (two_heard x f y g z) ≡ queued false (queued false (places_of c) f) g
unfolding places_after queued_row
two-places c x f y g z h =
    rw (collided c (two_heard x f y g z) (rw (skip_collides x (f ∷ one_heard y g z)) h))
    (skip_queued false (places_of c) x (f ∷ one_heard y g z) ∙ one-queued false (queued false (places_of c) f) y g z)

collide_last : (i y z : ℕ) → 1 ≤ collides (Single i 1 ∷ one_heard y Collide z)
unfolding collides
collide_last i y z = rw (skip_collides y (Collide ∷ replicate z Empty)) (omega arith)

collide_first : (i y z : ℕ) → 1 ≤ collides (Collide ∷ one_heard y (Single i 1) z)
unfolding collides
collide_first i y z = omega arith

-- ---- one slot that goes through

module _ (c : Counters) (row : List Feedback) where
  counters-after : goes_through (listen_of c row).answer ≡ true → (listen_of c row).counters ≡ fallen c (places_after c row)
  unfolding listen_of listened step_one_of
  counters-after e = go (eqb (heard_number_of c row) 0) e
    where
      go : (b : Bool) → goes_through (cond b (listened c row) (refused_listening c (heard_number_of c row))).answer ≡ true
          → (cond b (listened c row) (refused_listening c (heard_number_of c row))).counters ≡ fallen c (places_after c row)
      go true e = refl
      go false e = cc

  turn_is : (t : Turn) → (listen_of c row).answer ≡ Went t → turn_of (owner_of c) (places_after c row) ≡ t
  unfolding listen_of listened step_one_of
  turn_is t e = go (eqb (heard_number_of c row) 0) e
    where
      go : (b : Bool) → (cond b (listened c row) (refused_listening c (heard_number_of c row))).answer ≡ Went t → turn_of (owner_of c) (places_after c row) ≡ t
      go true e = cc
      go false e = cc

-- ---- the slots of the other groups, until a group is next again

module _ (n g : ℕ) (low : 1 ≤ g) (high : g ≤ n) where
  -- group g's mark is no, and one of the n groups is next
  record Marked (c : Counters) : Type 0 where
    groups : c.groups ≡ n
    next : (1 ≤ c.next) × (c.next ≤ n)
    mark : mark_of c g ≡ false

  after-slot : (c : Counters) (row : List Feedback) → c.groups ≡ n → c.next ≤ n → mark_of (fallen c (places_after c row)) g ≡ false
      → Marked (fallen c (places_after c row))
  unfolding fallen
  after-slot c row e hh m =
      record {
        groups = e;
        next = subst (λ (k : ℕ). (1 ≤ following k c.next) × (following k c.next ≤ n)) (sym e) (following_in n g low high c.next hh);
        mark = m;
      }

  -- another group's slot leaves the mark alone
  mark-stays : (c : Counters) (row : List Feedback) → (g - 1 ≡ c.next - 1 → ⊥) → mark_of (fallen c (places_after c row)) g ≡ mark_of c g
  unfolding fallen
  mark-stays c row ne = get_or-set_other c.opened (c.next - 1) (g - 1) (is_open (turn_of (owner_of c) (places_after c row))) false ne

  next-fallen : (c : Counters) (row : List Feedback) (k : ℕ) → c.groups ≡ n → c.next ≤ n → NextAfter n g c.next (suc k)
      → NextAfter n g (fallen c (places_after c row)).next k
  unfolding fallen
  next-fallen c row k e hh a = subst (λ (j : ℕ). NextAfter n g (following j c.next) k) (sym e) (one_fewer n g low high c.next k hh a)

  -- the slots of the other groups, until g is next again
  others_pass : (others : List (List Feedback)) (c : Counters) → Marked c → length others < n → NextAfter n g c.next (length others)
      → all_go_through c others ≡ true → ((after_rows c others).next ≡ g) × (mark_of (after_rows c others) g ≡ false)
  others_pass [] c M few a t = (⊎_elim (λ x. omega arith) (λ x. absurd (omega (arith, M.next))) a, M.mark)
  others_pass (row ∷ others) c M few a t =
      let b = (and-eq-true_iff (goes_through (listen_of c row).answer) (all_go_through (listen_of c row).counters others)).0 t in
      let e = counters-after c row b.0 in
      let ne = other n g low high c.next (length others) M.next.0 few a in
      others_pass others (listen_of c row).counters
      (subst Marked (sym e) (after-slot c row M.groups M.next.1 (mark-stays c row ne ∙ M.mark)))
      (omega arith)
      (subst (λ (d : Counters). NextAfter n g d.next (length others)) (sym e) (next-fallen c row (length others) M.groups M.next.1 a))
      b.1

-- ---- a resolve slot, then a lone Single of 1

-- a resolve slot's mark is no
resolve-mark : (c : Counters) (row : List Feedback) → c.next - 1 < length c.opened → turn_of (owner_of c) (places_after c row) ≡ ResolveTurn
    → mark_of (fallen c (places_after c row)) c.next ≡ false
unfolding fallen
resolve-mark c row h e = get_or-set_same c.opened (c.next - 1) (is_open (turn_of (owner_of c) (places_after c row))) false h ∙ ap is_open e

round : (c : Counters) (row : List Feedback) (others : List (List Feedback)) → ResolveRound c row others
    → ((after_rows c (row ∷ others)).next ≡ c.next) × (mark_of (after_rows c (row ∷ others)) c.next ≡ false)
round c row others H =
    let w = within-limits c H.within in
    let n = c.groups in
    let g = c.next in
    let e = counters-after c row (ap goes_through H.resolve) in
    let here : g - 1 < length c.opened = omega (arith, (arrays-lengths c w.arrays).1, w.next, w.groups) in
    let m = resolve-mark c row here (turn_is c row ResolveTurn H.resolve) in
    others_pass n g w.next.0 w.next.1 others (listen_of c row).counters
    (subst (Marked n g w.next.0 w.next.1) (sym e) (after-slot n g w.next.0 w.next.1 c row refl w.next.1 m))
    (omega (arith, H.all))
    (subst (λ (d : Counters). NextAfter n g d.next (length others)) (sym e)
    (next-fallen n g w.next.0 w.next.1 c row (length others) refl w.next.1 (inr (omega (arith, H.all)))))
    H.through

-- where the mark is no there is no immediate success
pub shut : (c : Counters) (row : List Feedback) → opened_of c ≡ false → immediate_of c row ≡ false
unfolding immediate_of
shut c row m = rw m

unmarked : (c : Counters) → opened_of c ≡ false → (i x y : ℕ) → JoinsUrgent c (one_heard x (Single i 1) y)
unfolding places_after
unmarked c m i x y =
    let no = shut c (one_heard x (Single i 1) y) m in
    record { no_success = no; urgent = rw no (one-queued false (places_of c) x (Single i 1) y) }

-- ---- one Single of 1 among Singles of more

among-long : (c : Counters) (row : List Feedback) → opened_of c ≡ true → collides row ≡ 0 → short_singles row ≡ 1
    → (immediate_of c row ≡ true) × (places_after c row ≡ places c.urgent (c.long + long_slots row) (resolution_of c c.next))
unfolding immediate_of places_after
among-long c row o n s =
    let yes : immediate_of c row ≡ true = rw (o, n, s) in
    let a = added true (places_of c) row in
    (yes, rw yes (places_are (queued_row true (places_of c) row) (a.urgent ∙ omega arith) a.long (a.resolution ∙ omega (arith, n))))

crowd : (c : Counters) (row : List Feedback) → 2 ≤ short_singles row → immediate_of c row ≡ false
unfolding immediate_of
crowd c row h = rw (ne_eqb (short_singles row) 1 (λ e. omega arith), and-false)

without_success : (c : Counters) (row : List Feedback) → (opened_of c ≡ false) ⊎ (1 ≤ collides row) ⊎ (2 ≤ short_singles row)
    → (immediate_of c row ≡ false) × ((places_after c row).urgent ≡ c.urgent + short_singles row)
unfolding places_after
without_success c row h =
    let no = ⊎_elim (shut c row) (⊎_elim (collided c row) (crowd c row)) h in
    (no, rw no (added false (places_of c) row).urgent)

pub edges-any : EdgesAny
edges-any =
    record {
      above_bit_11 = λ word count h. reads_1 word count h;
      click = λ word count k. reads-click word count k.twelve k.some (omega (arith, k.few));
      seven_or-more = λ word count small h. reads_collide word count small h;
      pattern = pattern-reads;
      pattern_0 = λ i h. reads-single (word_of i) 0 (pattern-below i h) (pattern-ones i h);
      word_0_0 = reads-empty 0 0 (omega arith) ones_of_zero;
      word_0 = λ count h. reads-empty 0 count (omega arith) ones_of_zero ∙ rw (ne_eqb count 0 (λ e. omega arith));
      full-slots = λ k lo hi. slots_are (48 * k) k (omega arith) (omega arith) (omega arith) (omega arith);
      one-byte-more = λ k h. slots_are (48 * k + 1) (k + 1) (omega arith) (omega arith) (omega arith) (omega arith);
      no_bytes = refused 0 (fits-none 0 refl);
      too_many_bytes = λ bytes h. refused bytes (fits-over bytes h);
      single-and_collide = λ c i x y z. two-places c x (Single i 1) y Collide z (collide_last i y z);
      collide_and-single = λ c i x y z. two-places c x Collide y (Single i 1) z (collide_first i y z);
      short-among-long = among-long;
      no_success = without_success;
      resolve_then_single = λ c row others H.
          let (next, mark) = round c row others H in
          (next, unmarked (after_rows c (row ∷ others)) (rw next mark));
    }
