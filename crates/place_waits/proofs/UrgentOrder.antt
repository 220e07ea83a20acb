-- No overtaking in H: one that joins comes to stand behind all that are there, whatever call it is that it joins by, and from then on both move alike. So
-- the number of its slot is above theirs, counted from the same slot. Assumes nothing.
use mathlib.Core.Path.{◌≡◌, refl, sym, ap, subst, ◌∙◌}
use mathlib.Core.Bool.{Bool, true, false, cond, false≢true}
use mathlib.Core.List.{List, [], ◌∷◌, ◌++◌}
use mathlib.Core.Logic.{by_cases}
use mathlib.Core.Option.{Option, none, some}
use Prim.Native.Nat.{ℕ, ◌+◌, ◌-◌, ◌≤◌, ◌<◌}
use native.Mathlib.Omega.{arith}
use native.Mathlib.Decide.{dec_lt}
use lib.Dec.{eqb}
use lib.ListN.{length, get_or, length-append}
use borrow.Author.Tests.{eqb-false}
use Rattle.minislot.specs.declared.Feedback.{Feedback}
use Rattle.rules.specs.declared.Answer.{Answer}
use Rattle.rules.specs.declared.Counters.{Counters}
use Rattle.rules.specs.declared.Station.{Station}
use Rattle.rules.specs.declared.Condition.{Condition}
use Rattle.rules.specs.declared.Condition.TheVariants.{Free, Held, Fresh, Asked, Resolving, Urgent, Long}
use Rattle.rules.specs.declared.Turn.{Turn}
use Rattle.rules.specs.declared.Turn.TheVariants.{Owned as OwnedTurn, Urgent as UrgentTurn, Long as LongTurn}
use Rattle.rules.specs.declared.Turn.TheVariants.{Resolve as ResolveTurn, Open as OpenTurn}
use Rattle.rules.specs.Calendars.{owner_of}
use Rattle.rules.specs.Calls.{Call, Write, Slot, Calendar}
use Rattle.rules.specs.Outcome.{outcome_of}
use Rattle.rules.specs.PlaceSteps.{acts_in, settles_in, PlaceSteps}
use Rattle.rules.specs.Requesting.{requested}
use Rattle.rules.specs.Serving.{moved}
use Rattle.rules.specs.Stepping.{settled_in, acts_of}
use Rattle.channel_rules.specs.Soundness.{table_counters}
use Rattle.channel_rules.specs.ChannelCalls.{Channel, feedback_heard, outcome_heard, channel_call, channel_after}
use Rattle.coming_rules.specs.Quiet.{quiet_condition}
use Rattle.rules.proofs.PlaceLaws.{turn-owned}
use Rattle.sound_slots.proofs.Passing.{Passed}
use Rattle.place_waits.specs.Continuing.{short_at, index_at, is_taken, is_counted, unowned_answers, numbered, Tells, is_urgent_turn}
use Rattle.place_waits.specs.Waits.{in_urgent, InOrder}
use Rattle.place_waits.proofs.Conditions.{requested_out, moved_out}
use Rattle.place_waits.proofs.SlotLeaves.{taken-passed, laws, short-after, past_after}
use Rattle.place_waits.proofs.CallLeaves.{short-same}
use Rattle.place_waits.proofs.UrgentSteps.{urgent-limits, counted-free, quiet-urgent-is, UrgentStep, Stays, Moves, Sends, urgent-step}
use Rattle.place_waits.proofs.Counting.{counted, passed-by, answers-append, index_ever, number-after}
use Rattle.place_waits.proofs.UrgentRuns.{sends, waits}

-- ---- conditions in H and out of it

pub in_urgent-is : (k : Condition) → in_urgent k ≡ true → (p : ℕ) × (k ≡ Urgent p)
in_urgent-is Free e = absurd (false≢true e)
in_urgent-is (Held t) e = absurd (false≢true e)
in_urgent-is (Fresh t) e = absurd (false≢true e)
in_urgent-is (Asked g j t) e = absurd (false≢true e)
in_urgent-is (Resolving g i t) e = absurd (false≢true e)
in_urgent-is (Urgent i) e = (i, refl)
in_urgent-is (Long f l t) e = absurd (false≢true e)

pub not_urgent-is : (k : Condition) (p : ℕ) → in_urgent k ≡ false → k ≡ Urgent p → ⊥
not_urgent-is k p e w = false≢true (sym e ∙ ap in_urgent w)

-- steps 3 to 5 bring nobody into H
by-queue : (k : Condition) → in_urgent (quiet_condition k) ≡ in_urgent k
by-queue Free = refl
by-queue (Held t) = refl
by-queue (Fresh t) = refl
by-queue (Asked g j t) = refl
by-queue (Resolving g i t) = refl
by-queue (Urgent i) = refl
by-queue (Long f l t) = refl

none-joins : (turn : Turn) (r g pick : ℕ) (k : Condition) → in_urgent k ≡ false → in_urgent (moved turn (requested r g pick k)) ≡ false
none-joins turn r g pick k e =
    moved_out in_urgent by-queue refl (λ i j. refl) (λ f l t g m n. refl) turn (requested r g pick k) (requested_out in_urgent by-queue refl (λ i j. refl) (λ f l t g m n. refl) r g pick k ∙ e)

-- one that is in H after them was there, at its place or, on an urgent turn, one above
pub moved-from : (turn : Turn) (q r : ℕ) → 1 ≤ q → moved turn (Urgent q) ≡ Urgent r → (1 ≤ r) × (r + cond (is_urgent_turn turn) 1 0 ≡ q)
unfolding moved
moved-from (OwnedTurn x) q r lo e = let z : q ≡ r = cc in (omega (arith, lo, z), omega (arith, z))
moved-from UrgentTurn q r lo e = go (eqb q 1) refl e
  where
    go : (b : Bool) → eqb q 1 ≡ b → cond b Free (Urgent (q - 1)) ≡ Urgent r → (1 ≤ r) × (r + 1 ≡ q)
    go true w e = let z : ◌≡◌ {A = ℕ} 0 1 = cc in absurd (omega arith)
    go false w e = let y = eqb-false q 1 w in let z : q - 1 ≡ r = cc in (omega (arith, lo, z), omega (arith, lo, z))
moved-from LongTurn q r lo e = let z : q ≡ r = cc in (omega (arith, lo, z), omega (arith, z))
moved-from ResolveTurn q r lo e = let z : q ≡ r = cc in (omega (arith, lo, z), omega (arith, z))
moved-from OpenTurn q r lo e = let z : q ≡ r = cc in (omega (arith, lo, z), omega (arith, z))

-- ---- JOINING

-- only one that asked comes into H by step 1, behind all that are there
module _ (c : Counters) (row : List Feedback) (steps : PlaceSteps c row) where
  settles-behind : (k : Condition) → in_urgent k ≡ false → (q : ℕ) → settles_in c row k ≡ Urgent q → c.urgent < q
  unfolding settled_in
  settles-behind Free out q e = absurd (not_urgent-is Free q out e)
  settles-behind (Held t) out q e = absurd (not_urgent-is (Held t) q out e)
  settles-behind (Fresh t) out q e = absurd (not_urgent-is (Fresh t) q out e)
  settles-behind (Asked g j t) out q e = steps.joins-urgent g j t q e
  settles-behind (Resolving g i t) out q e = absurd (not_urgent-is (Resolving g i t) q out e)
  settles-behind (Urgent i) out q e = absurd (false≢true (sym out))
  settles-behind (Long f l t) out q e = absurd (not_urgent-is (Long f l t) q out e)

  pub acts-from : (k : Condition) (pick r : ℕ) → (acts_in c row k pick).condition ≡ Urgent r → (q : ℕ) × (settles_in c row k ≡ Urgent q) × (moved (outcome_of c row).turn (Urgent q) ≡ Urgent r)
  unfolding acts_of requested
  acts-from k pick r e = go (in_urgent (settles_in c row k)) refl
    where
      go : (b : Bool) → in_urgent (settles_in c row k) ≡ b → (q : ℕ) × (settles_in c row k ≡ Urgent q) × (moved (outcome_of c row).turn (Urgent q) ≡ Urgent r)
      go true w =
          let (q, z) = in_urgent-is (settles_in c row k) w in
          (q, z, ap (λ (x : Condition). moved (outcome_of c row).turn (requested (outcome_of c row).resolution (outcome_of c row).group pick x)) (sym z) ∙ e)
      go false w = absurd (not_urgent-is _ r (none-joins (outcome_of c row).turn (outcome_of c row).resolution (outcome_of c row).group pick (settles_in c row k) w) e)

  pub joins-behind : (k : Condition) (pick r : ℕ) → in_urgent k ≡ false → (acts_in c row k pick).condition ≡ Urgent r → (1 ≤ r) × (c.urgent < r + cond (is_urgent_turn (outcome_of c row).turn) 1 0)
  joins-behind k pick r out e =
      let (q, z, w) = acts-from k pick r e in
      let h = settles-behind k out q z in
      let m = moved-from (outcome_of c row).turn q r (omega (arith, h)) w in
      (m.0, omega (arith, h, m.1))

-- of a call
pub record Joined (ch : Channel) (c : Call) (r : ℕ) : Type 0 where
  pub picks : List ℕ
  pub passed : Passed ch picks
  pub low : 1 ≤ r
  pub behind : (table_counters ch.stations).urgent < r + cond (is_counted ch c) 1 0

urgent-counted : (ch : Channel) (picks : List ℕ) → is_taken ch (Slot picks) ≡ true → cond (is_urgent_turn (outcome_heard ch).turn) 1 0 ≤ cond (is_counted ch (Slot picks)) 1 0
urgent-counted ch picks taken = go (owner_of (table_counters ch.stations)) refl
  where
    most : (b : Bool) → cond b 1 0 ≤ 1
    most true = omega arith
    most false = omega arith

    go : (o : Option ℕ) → owner_of (table_counters ch.stations) ≡ o → cond (is_urgent_turn (outcome_heard ch).turn) 1 0 ≤ cond (is_counted ch (Slot picks)) 1 0
    go none e = rw (counted-free ch picks taken e) (most (is_urgent_turn (outcome_heard ch).turn))
    go (some x) e = rw (turn-owned (table_counters ch.stations) (feedback_heard ch) x e) (omega arith)

module _ (b : ℕ) where
  pub joined : (ch : Channel) (c : Call) (r : ℕ) → in_urgent (short_at ch b) ≡ false → short_at (channel_call ch c).state b ≡ Urgent r → Joined ch c r
  joined ch c r out e = go c (is_taken ch c) refl e
    where
      outside : (c : Call) → is_taken ch c ≡ false → short_at (channel_call ch c).state b ≡ Urgent r → Joined ch c r
      outside c n e = absurd (not_urgent-is (short_at ch b) r out (quiet-urgent-is (short_at ch b) r (sym (short-same ch c n b) ∙ ap quiet_condition e)))

      go : (c : Call) (t : Bool) → is_taken ch c ≡ t → short_at (channel_call ch c).state b ≡ Urgent r → Joined ch c r
      go c false n e = outside c n e
      go (Write x w) true n e = absurd (false≢true n)
      go (Calendar entries) true n e = absurd (false≢true n)
      go (Slot picks) true n e =
          let passed = taken-passed ch picks n in
          by_cases (dec_lt b (length ch.stations))
          (λ h.
          let j = joins-behind (table_counters ch.stations) (feedback_heard ch) (laws ch picks passed) (short_at ch b) (get_or picks b 0) r out (sym (short-after ch picks passed b h) ∙ e) in
          record { picks = picks; passed = passed; low = j.0; behind = omega (arith, j.1, urgent-counted ch picks n) })
          (λ h. let z : Free ≡ Urgent r = sym (ap (λ (s : Station). s.short.condition) (past_after ch picks passed b (omega arith))) ∙ e in let y : ◌≡◌ {A = ℕ} 0 1 = cc in absurd (omega arith))

  -- its place is never 0
  abbrev Placed : Channel → Type 0
  Placed ch = (i : ℕ) → short_at ch b ≡ Urgent i → 1 ≤ i

  placed-call : (ch : Channel) (c : Call) → Placed ch → Placed (channel_call ch c).state
  placed-call ch c placed i e = go (in_urgent (short_at ch b)) refl
    where
      by-step : (p : ℕ) → 1 ≤ p → UrgentStep ch c b p → 1 ≤ i
      by-step p lo (Stays n w) = let z : Urgent p ≡ Urgent i = sym w ∙ e in let y : p ≡ i = cc in omega (arith, lo, y)
      by-step p lo (Moves n q x low w other) = let z : Urgent q ≡ Urgent i = sym w ∙ e in let y : q ≡ i = cc in omega (arith, low, y)
      by-step p lo (Sends n x w told) = let z : Free ≡ Urgent i = sym w ∙ e in let y : ◌≡◌ {A = ℕ} 0 1 = cc in absurd (omega arith)

      go : (t : Bool) → in_urgent (short_at ch b) ≡ t → 1 ≤ i
      go true w = let (p, z) = in_urgent-is (short_at ch b) w in by-step p (placed p z) (urgent-step ch b c p z)
      go false w = (joined ch c i w e).low

  pub placed_ever : (calls : List Call) (ch : Channel) → Placed ch → Placed (channel_after ch calls)
  placed_ever [] ch placed = placed
  placed_ever (c ∷ l) ch placed = placed_ever l (channel_call ch c).state (placed-call ch c placed)

-- ---- BEHIND

module _ (a b : ℕ) where
  -- both in H
  both_wait : (calls : List Call) (ch : Channel) (q r s : ℕ) → q < r → short_at ch b ≡ Urgent r → short_at (channel_after ch calls) b ≡ Urgent s → q < length (unowned_answers ch calls) + s
  both_wait calls ch q r s less e w =
      by_cases (dec_lt (length (unowned_answers ch calls)) r)
      (λ h. let z : Urgent (r - length (unowned_answers ch calls)) ≡ Urgent s = sym (waits b calls ch r e h) ∙ w in let y : r - length (unowned_answers ch calls) ≡ s = cc in omega (arith, less, h, y))
      (λ h. omega (arith, less, h))

  pub behind : (calls : List Call) (ch : Channel) (p s : ℕ) → short_at ch a ≡ Urgent p → in_urgent (short_at ch b) ≡ false → short_at (channel_after ch calls) b ≡ Urgent s → p < length (unowned_answers ch calls) + s
  behind [] ch p s e out w = absurd (not_urgent-is (short_at ch b) s out w)
  behind (c ∷ l) ch p s e out w = go (behind l (channel_call ch c).state) (in_urgent (short_at (channel_call ch c).state b)) refl (urgent-step ch a c p e)
    where
      Claim : List Answer → Type 0
      Claim answers = p < length answers + s

      later : 1 ≤ s
      later = placed_ever b l (channel_call ch c).state (placed-call b ch c (λ i q. absurd (not_urgent-is (short_at ch b) i out q))) s w

      go : ((p s : ℕ) → short_at (channel_call ch c).state a ≡ Urgent p → in_urgent (short_at (channel_call ch c).state b) ≡ false → short_at (channel_after (channel_call ch c).state l) b ≡ Urgent s → p < length (unowned_answers (channel_call ch c).state l) + s)
          → (t : Bool) → in_urgent (short_at (channel_call ch c).state b) ≡ t → UrgentStep ch c a p → p < length (unowned_answers ch (c ∷ l)) + s
      go ih false x (Stays n y) = subst Claim (sym (passed-by ch c l n)) (ih p s y x w)
      go ih false x (Moves n q z low y other) = subst Claim (sym (counted ch c l n)) (let k = ih q s y x w in omega (arith, k, z))
      go ih false x (Sends n z y told) = subst Claim (sym (counted ch c l n)) (let k = later in omega (arith, z, k))
      go ih true x step =
          let (r, v) = in_urgent-is (short_at (channel_call ch c).state b) x in
          let j = joined b ch c r out v in
          let hi = (urgent-limits ch j.picks j.passed a p e).1 in
          by-step r v j.behind j.low hi step
        where
          by-step : (r : ℕ) → short_at (channel_call ch c).state b ≡ Urgent r → (table_counters ch.stations).urgent < r + cond (is_counted ch c) 1 0 → 1 ≤ r → p ≤ (table_counters ch.stations).urgent
              → UrgentStep ch c a p → p < length (unowned_answers ch (c ∷ l)) + s
          by-step r v less low hi (Stays n y) = subst Claim (sym (passed-by ch c l n)) (both_wait l (channel_call ch c).state p r s (let k = rw n at less in omega (arith, k, hi)) v w)
          by-step r v less low hi (Moves n q z lo y other) =
              subst Claim (sym (counted ch c l n)) (let k = both_wait l (channel_call ch c).state q r s (let m = rw n at less in omega (arith, m, hi, z)) v w in omega (arith, k, z))
          by-step r v less low hi (Sends n z y told) = subst Claim (sym (counted ch c l n)) (let k = later in omega (arith, z, k))

  -- so both are sent, a before b
  pub in_order : (ch : Channel) (calls more : List Call) (p s : ℕ) → 1 ≤ p → short_at ch a ≡ Urgent p → in_urgent (short_at ch b) ≡ false → short_at (channel_after ch calls) b ≡ Urgent s
      → length (unowned_answers ch calls) + s ≤ length (unowned_answers ch (calls ++ more))
      → InOrder (index_at ch a) p (index_at ch b) (length (unowned_answers ch calls) + s) (unowned_answers ch (calls ++ more))
  in_order ch calls more p s lo e out w hi =
      let less = behind calls ch p s e out w in
      let low = placed_ever b calls ch (λ i q. absurd (not_urgent-is (short_at ch b) i out q)) s w in
      record {
        less = less;
        first = sends a (calls ++ more) ch p e lo (omega (arith, less, hi));
        second = subst (λ (answers : List Answer). length (unowned_answers ch calls) + s ≤ length answers → Tells UrgentTurn (index_at ch b) 1 (numbered answers (length (unowned_answers ch calls) + s))) (sym (answers-append ch calls more))
            (λ h. subst (λ (z : Answer). Tells UrgentTurn (index_at ch b) 1 z) (sym (number-after (unowned_answers ch calls) (unowned_answers (channel_after ch calls) more) s low))
            (subst (λ (x : ℕ). Tells UrgentTurn x 1 (numbered (unowned_answers (channel_after ch calls) more) s)) (index_ever ch calls b)
            (sends b more (channel_after ch calls) s w low (omega (arith, h, length-append (unowned_answers ch calls) (unowned_answers (channel_after ch calls) more)))))) hi;
      }
