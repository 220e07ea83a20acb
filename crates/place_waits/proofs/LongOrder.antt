-- No overtaking in N: one that joins comes to stand, with all its slots, behind all that are there, and from then on both move alike. Counted without urgent
-- turns from the same slot, its first segment comes after the last of any that was there; and so it does counted with them. Assumes nothing.
use mathlib.Core.Path.{◌≡◌, refl, sym, ap, ◌∙◌}
use mathlib.Core.Bool.{Bool, true, false, cond, false≢true}
use mathlib.Core.List.{List, [], ◌∷◌, ◌++◌}
use mathlib.Core.Logic.{◌⊎◌, inl, inr, by_cases}
use mathlib.Core.Option.{Option, none, some}
use Prim.Native.Nat.{ℕ, zero, suc, ◌+◌, ◌-◌, ◌≤◌, ◌<◌}
use native.Mathlib.Omega.{arith}
use native.Mathlib.Decide.{dec_lt}
use lib.Dec.{eqb}
use lib.ListN.{length, get_or, take}
use lib.Seq.{take-append-add}
use borrow.Author.Tests.{eqb-true, eqb-false, ne_eqb}
use Rattle.minislot.specs.declared.Feedback.{Feedback}
use Rattle.rules.specs.declared.Answer.{Answer}
use Rattle.rules.specs.declared.Counters.{Counters}
use Rattle.rules.specs.declared.Station.{Station}
use Rattle.rules.specs.declared.Condition.{Condition}
use Rattle.rules.specs.declared.Condition.TheVariants.{Free, Held, Fresh, Asked, Resolving, Urgent, Long}
use Rattle.rules.specs.declared.Turn.{Turn}
use Rattle.rules.specs.declared.Turn.TheVariants.{Owned as OwnedTurn, Urgent as UrgentTurn, Long as LongTurn}
use Rattle.rules.specs.declared.Turn.TheVariants.{Resolve as ResolveTurn, Open as OpenTurn}
use Rattle.rules.specs.Calendars.{owner_of}
use Rattle.rules.specs.Calls.{Call, Write, Slot, Calendar}
use Rattle.rules.specs.Outcome.{outcome_of}
use Rattle.rules.specs.PlaceSteps.{acts_in, settles_in, PlaceSteps}
use Rattle.rules.specs.Requesting.{requested}
use Rattle.rules.specs.Serving.{moved}
use Rattle.rules.specs.Stepping.{settled_in, acts_of}
use Rattle.channel_rules.specs.Soundness.{table_counters}
use Rattle.channel_rules.specs.ChannelCalls.{Channel, feedback_heard, outcome_heard, channel_call, channel_after}
use Rattle.coming_rules.specs.Quiet.{quiet_condition}
use Rattle.rules.proofs.PlaceLaws.{turn-owned}
use Rattle.sound_slots.proofs.Passing.{Passed}
use Rattle.place_waits.specs.Continuing.{long_at, is_taken, is_counted, unowned_answers, is_urgent_turn, on_urgent, urgent_turns, other_turns}
use Rattle.place_waits.specs.Waits.{in_long, LongSends}
use Rattle.place_waits.proofs.Conditions.{requested_out, moved_out}
use Rattle.place_waits.proofs.SlotLeaves.{taken-passed, laws, long-cases, past_after}
use Rattle.place_waits.proofs.CallLeaves.{long_same}
use Rattle.place_waits.proofs.UrgentSteps.{counted-free}
use Rattle.place_waits.proofs.LongSteps.{quiet_long-is, turn-told, LongStep, Stays, Yields, Moves, Sends, long-limits, long-step}
use Rattle.place_waits.proofs.Counting.{counted, passed-by, answers-append, urgent-most, urgent-append}
use Rattle.place_waits.proofs.LongRuns.{other_yields, other-counts}

-- ---- conditions in N and out of it

pub record InN (k : Condition) : Type 0 where
  pub first : ℕ
  pub left : ℕ
  pub total : ℕ
  pub stands : k ≡ Long first left total

pub in_long-is : (k : Condition) → in_long k ≡ true → InN k
in_long-is Free e = absurd (false≢true e)
in_long-is (Held t) e = absurd (false≢true e)
in_long-is (Fresh t) e = absurd (false≢true e)
in_long-is (Asked g j t) e = absurd (false≢true e)
in_long-is (Resolving g i t) e = absurd (false≢true e)
in_long-is (Urgent i) e = absurd (false≢true e)
in_long-is (Long f l t) e = record { first = f; left = l; total = t; stands = refl }

pub not_long-is : (k : Condition) (f l t : ℕ) → in_long k ≡ false → k ≡ Long f l t → ⊥
not_long-is k f l t e w = false≢true (sym e ∙ ap in_long w)

-- steps 3 to 5 bring nobody into N
by-queue : (k : Condition) → in_long (quiet_condition k) ≡ in_long k
by-queue Free = refl
by-queue (Held t) = refl
by-queue (Fresh t) = refl
by-queue (Asked g j t) = refl
by-queue (Resolving g i t) = refl
by-queue (Urgent i) = refl
by-queue (Long f l t) = refl

none-joins : (turn : Turn) (r g pick : ℕ) (k : Condition) → in_long k ≡ false → in_long (moved turn (requested r g pick k)) ≡ false
none-joins turn r g pick k e =
    moved_out in_long by-queue refl (λ i j. refl) (λ f l t g m n. refl) turn (requested r g pick k) (requested_out in_long by-queue refl (λ i j. refl) (λ f l t g m n. refl) r g pick k ∙ e)

abbrev pub is_long_turn : Turn → Bool
is_long_turn (OwnedTurn x) = false
is_long_turn UrgentTurn = false
is_long_turn LongTurn = true
is_long_turn ResolveTurn = false
is_long_turn OpenTurn = false

-- a stretch after them: as it was, or on a long turn one place down, or at place 1 with one slot fewer
pub data MovedFrom (turn : Turn) (f l t g m n : ℕ) : Type 0 where
  AsIt : is_long_turn turn ≡ false → f ≡ g → l ≡ m → t ≡ n → MovedFrom turn f l t g m n
  Down : is_long_turn turn ≡ true → f ≡ suc g → l ≡ m → t ≡ n → MovedFrom turn f l t g m n
  Sent : is_long_turn turn ≡ true → f ≡ 1 → g ≡ 1 → m ≡ l - 1 → t ≡ n → MovedFrom turn f l t g m n

pub moved-from : (turn : Turn) (f l t g m n : ℕ) → 1 ≤ f → moved turn (Long f l t) ≡ Long g m n → MovedFrom turn f l t g m n
unfolding moved
moved-from (OwnedTurn x) f l t g m n lo e = AsIt refl (cc) (cc) (cc)
moved-from UrgentTurn f l t g m n lo e = AsIt refl (cc) (cc) (cc)
moved-from LongTurn f l t g m n lo e = go (eqb f 1) refl (eqb l 1) e
  where
    go : (a : Bool) → eqb f 1 ≡ a → (b : Bool) → cond a (cond b Free (Long 1 (l - 1) t)) (Long (f - 1) l t) ≡ Long g m n → MovedFrom LongTurn f l t g m n
    go true w true e = let z : ◌≡◌ {A = ℕ} 0 1 = cc in absurd (omega arith)
    go true w false e = Sent refl (eqb-true f 1 w) (let z : 1 ≡ g = cc in sym z) (let z : l - 1 ≡ m = cc in sym z) (cc)
    go false w b e = let y = eqb-false f 1 w in let z : f - 1 ≡ g = cc in Down refl (omega (arith, lo, z)) (cc) (cc)
moved-from ResolveTurn f l t g m n lo e = AsIt refl (cc) (cc) (cc)
moved-from OpenTurn f l t g m n lo e = AsIt refl (cc) (cc) (cc)

-- ---- JOINING

module _ (c : Counters) (row : List Feedback) (steps : PlaceSteps c row) where
  settles-behind : (k : Condition) → in_long k ≡ false → (f l t : ℕ) → settles_in c row k ≡ Long f l t → (c.long < f) × (l ≡ t)
  unfolding settled_in
  settles-behind Free out f l t e = absurd (not_long-is Free f l t out e)
  settles-behind (Held u) out f l t e = absurd (not_long-is (Held u) f l t out e)
  settles-behind (Fresh u) out f l t e = absurd (not_long-is (Fresh u) f l t out e)
  settles-behind (Asked g j u) out f l t e = let w = steps.joins_long g j u f l t e in (w.0, w.1 ∙ sym w.2)
  settles-behind (Resolving g i u) out f l t e = absurd (not_long-is (Resolving g i u) f l t out e)
  settles-behind (Urgent i) out f l t e = absurd (not_long-is (Urgent i) f l t out e)
  settles-behind (Long g m u) out f l t e = absurd (false≢true (sym out))

  pub acts-from : (k : Condition) (pick g m n : ℕ) → (acts_in c row k pick).condition ≡ Long g m n
      → (w : InN (settles_in c row k)) × (moved (outcome_of c row).turn (Long w.first w.left w.total) ≡ Long g m n)
  unfolding acts_of requested
  acts-from k pick g m n e = go (in_long (settles_in c row k)) refl
    where
      go : (b : Bool) → in_long (settles_in c row k) ≡ b → (w : InN (settles_in c row k)) × (moved (outcome_of c row).turn (Long w.first w.left w.total) ≡ Long g m n)
      go true q =
          let w = in_long-is (settles_in c row k) q in
          (w, ap (λ (x : Condition). moved (outcome_of c row).turn (requested (outcome_of c row).resolution (outcome_of c row).group pick x)) (sym w.stands) ∙ e)
      go false q = absurd (not_long-is _ g m n (none-joins (outcome_of c row).turn (outcome_of c row).resolution (outcome_of c row).group pick (settles_in c row k) q) e)

  pub joins-behind : (k : Condition) (pick g m n : ℕ) → in_long k ≡ false → (acts_in c row k pick).condition ≡ Long g m n → n - m + c.long < g + cond (is_long_turn (outcome_of c row).turn) 1 0
  joins-behind k pick g m n out e =
      let r = acts-from k pick g m n e in
      let w = r.0 in
      let h = settles-behind k out w.first w.left w.total w.stands in
      go w.first w.left w.total h.0 h.1 (moved-from (outcome_of c row).turn w.first w.left w.total g m n (omega (arith, h.0)) r.1)
    where
      go : (f l t : ℕ) → c.long < f → l ≡ t → MovedFrom (outcome_of c row).turn f l t g m n → n - m + c.long < g + cond (is_long_turn (outcome_of c row).turn) 1 0
      go f l t h same (AsIt turn x y z) = rw turn (omega (arith, h, same, x, y, z))
      go f l t h same (Down turn x y z) = rw turn (omega (arith, h, same, x, y, z))
      go f l t h same (Sent turn x w y z) = rw turn (omega (arith, h, same, x, w, y, z))

-- ---- turns of a call that are not urgent

abbrev pub turn_other : Channel → Call → ℕ
turn_other ch c = cond (is_counted ch c) (cond (on_urgent (channel_call ch c).answer) 0 1) 0

pub others-first : (ch : Channel) (c : Call) (l : List Call) → other_turns (unowned_answers ch (c ∷ l)) ≡ turn_other ch c + other_turns (unowned_answers (channel_call ch c).state l)
others-first ch c l = go (is_counted ch c) refl
  where
    go : (b : Bool) → is_counted ch c ≡ b → other_turns (unowned_answers ch (c ∷ l)) ≡ cond b (cond (on_urgent (channel_call ch c).answer) 0 1) 0 + other_turns (unowned_answers (channel_call ch c).state l)
    go true e = ap other_turns (counted ch c l e) ∙ by (on_urgent (channel_call ch c).answer) refl
      where
        by : (u : Bool) → on_urgent (channel_call ch c).answer ≡ u → other_turns ((channel_call ch c).answer ∷ unowned_answers (channel_call ch c).state l) ≡ cond u 0 1 + other_turns (unowned_answers (channel_call ch c).state l)
        by true w = let z = other_yields (channel_call ch c).answer (unowned_answers (channel_call ch c).state l) w in omega (arith, z)
        by false w = let z = other-counts (channel_call ch c).answer (unowned_answers (channel_call ch c).state l) w in omega (arith, z)
    go false e = let z = ap other_turns (passed-by ch c l e) in omega (arith, z)

long-other : (ch : Channel) (picks : List ℕ) → is_taken ch (Slot picks) ≡ true → cond (is_long_turn (outcome_heard ch).turn) 1 0 ≤ turn_other ch (Slot picks)
long-other ch picks taken = go (owner_of (table_counters ch.stations)) refl
  where
    by : (t : Turn) → cond (is_long_turn t) 1 0 ≤ cond (is_urgent_turn t) 0 1
    by (OwnedTurn x) = omega arith
    by UrgentTurn = omega arith
    by LongTurn = omega arith
    by ResolveTurn = omega arith
    by OpenTurn = omega arith

    go : (o : Option ℕ) → owner_of (table_counters ch.stations) ≡ o → cond (is_long_turn (outcome_heard ch).turn) 1 0 ≤ turn_other ch (Slot picks)
    go none e = rw (counted-free ch picks taken e, turn-told ch picks (taken-passed ch picks taken)) (by (outcome_heard ch).turn)
    go (some x) e = rw (turn-owned (table_counters ch.stations) (feedback_heard ch) x e) (omega arith)

pub record Joined (ch : Channel) (c : Call) (g m n : ℕ) : Type 0 where
  pub picks : List ℕ
  pub passed : Passed ch picks
  pub behind : n - m + (table_counters ch.stations).long < g + turn_other ch c

pub joined : (b : ℕ) (ch : Channel) (c : Call) (g m n : ℕ) → in_long (long_at ch b) ≡ false → long_at (channel_call ch c).state b ≡ Long g m n → Joined ch c g m n
joined b ch c g m n out e = go c (is_taken ch c) refl e
  where
    go : (c : Call) (t : Bool) → is_taken ch c ≡ t → long_at (channel_call ch c).state b ≡ Long g m n → Joined ch c g m n
    go c false n' e = absurd (not_long-is (long_at ch b) g m n out (quiet_long-is (long_at ch b) g m n (sym (long_same ch c n' b) ∙ ap quiet_condition e)))
    go (Write x w) true n' e = absurd (false≢true n')
    go (Calendar entries) true n' e = absurd (false≢true n')
    go (Slot picks) true n' e =
        let passed = taken-passed ch picks n' in
        by_cases (dec_lt b (length ch.stations))
        (λ h. by passed (long-cases ch picks passed b h))
        (λ h. let z : Free ≡ Long g m n = sym (ap (λ (s : Station). s.long.condition) (past_after ch picks passed b (omega arith))) ∙ e in let y : ◌≡◌ {A = ℕ} 0 1 = cc in absurd (omega arith))
      where
        by : Passed ch picks → (long_at (channel_call ch (Slot picks)).state b ≡ long_at ch b) ⊎ (long_at (channel_call ch (Slot picks)).state b ≡ (acts_in (table_counters ch.stations) (feedback_heard ch) (long_at ch b) (get_or picks b 0)).condition) → Joined ch (Slot picks) g m n
        by passed (inl same) = absurd (not_long-is (long_at ch b) g m n out (sym same ∙ e))
        by passed (inr acts) =
            let j = joins-behind (table_counters ch.stations) (feedback_heard ch) (laws ch picks passed) (long_at ch b) (get_or picks b 0) g m n out (sym acts ∙ e) in
            record { picks = picks; passed = passed; behind = omega (arith, j, long-other ch picks n') }

-- ---- BEHIND: e is the last place of a's stretch, counted without urgent turns from the slot that S such turns ago was the next

module _ (a b e : ℕ) where
  -- while the S turns are fewer than e, a waits, and its last place is e less them
  abbrev Waiting : Channel → ℕ → Type 0
  Waiting ch S = S < e → (w : InN (long_at ch a)) × (S + (w.first + w.left) ≡ e + 1) × (1 ≤ w.first) × (1 ≤ w.left)

  -- where b stands in N, its first segment comes after e
  abbrev After : Channel → ℕ → Type 0
  After ch S = (g m n : ℕ) → long_at ch b ≡ Long g m n → e + (n - m) < S + g

  abbrev in_n : (k : Condition) (f l t : ℕ) → k ≡ Long f l t → InN k
  in_n k f l t q = record { first = f; left = l; total = t; stands = q }

  waiting-call : (ch : Channel) (c : Call) (S : ℕ) → Waiting ch S → Waiting (channel_call ch c).state (S + turn_other ch c)
  waiting-call ch c S wait less =
      let r = wait (omega (arith, less)) in
      go r.0.first r.0.left r.0.total r.1 r.2 r.3 (long-step ch a r.0.first r.0.left r.0.total r.0.stands c) less
    where
      go : (f l t : ℕ) → S + (f + l) ≡ e + 1 → 1 ≤ f → 1 ≤ l → LongStep ch c a f l t → S + turn_other ch c < e
          → (w : InN (long_at (channel_call ch c).state a)) × (S + turn_other ch c + (w.first + w.left) ≡ e + 1) × (1 ≤ w.first) × (1 ≤ w.left)
      go f l t sum lo left (Stays n q) less = (in_n _ f l t q, rw n (omega (arith, sum)), lo, left)
      go f l t sum lo left (Yields n u q) less = (in_n _ f l t q, rw (n, u) (omega (arith, sum)), lo, left)
      go f l t sum lo left (Moves n u g z low q other) less = (in_n _ g l t q, rw (n, u) (omega (arith, sum, z)), low, left)
      go f l t sum lo left (Sends n u one q told) less =
          let h = rw (n, u) at less in
          let two : 2 ≤ l = omega (arith, h, sum, one) in
          let long : long_at (channel_call ch c).state a ≡ Long 1 (l - 1) t = q ∙ ap (λ (x : Bool). cond x Free (Long 1 (l - 1) t)) (ne_eqb l 1 (λ w. omega (arith, two, w))) in
          (in_n _ 1 (l - 1) t long, rw (n, u) (omega (arith, sum, one, two)), omega arith, omega (arith, two))

  after_call : (ch : Channel) (c : Call) (S : ℕ) → Waiting ch S → After ch S → After (channel_call ch c).state (S + turn_other ch c)
  after_call ch c S wait after g m n q = by (in_long (long_at ch b)) refl
    where
      stays : (f l t : ℕ) → e + (t - l) < S + f → LongStep ch c b f l t → e + (n - m) < S + turn_other ch c + g
      stays f l t h (Stays k w) = let z : Long f l t ≡ Long g m n = sym w ∙ q in let x : f ≡ g = cc in let y : l ≡ m = cc in let v : t ≡ n = cc in rw k (omega (arith, h, x, y, v))
      stays f l t h (Yields k u w) = let z : Long f l t ≡ Long g m n = sym w ∙ q in let x : f ≡ g = cc in let y : l ≡ m = cc in let v : t ≡ n = cc in rw (k, u) (omega (arith, h, x, y, v))
      stays f l t h (Moves k u r z low w other) =
          let y : Long r l t ≡ Long g m n = sym w ∙ q in
          let x : r ≡ g = cc in
          let y : l ≡ m = cc in
          let v : t ≡ n = cc in
          rw (k, u) (omega (arith, h, z, x, y, v))
      stays f l t h (Sends k u one w told) = go (eqb l 1) (sym w ∙ q)
        where
          go : (x : Bool) → cond x Free (Long 1 (l - 1) t) ≡ Long g m n → e + (n - m) < S + turn_other ch c + g
          go true z = let y : ◌≡◌ {A = ℕ} 0 1 = cc in absurd (omega arith)
          go false z = let x : 1 ≡ g = cc in let y : l - 1 ≡ m = cc in let v : t ≡ n = cc in rw (k, u) (omega (arith, h, one, x, y, v))

      joins : Joined ch c g m n → e + (n - m) < S + turn_other ch c + g
      joins j =
          by_cases (dec_lt S e)
          (λ less.
          let r = wait less in
          let lies = long-limits ch j.picks j.passed a r.0.first r.0.left r.0.total r.0.stands in
          omega (arith, j.behind, lies.last, r.1))
          (λ more. omega (arith, j.behind, more))

      by : (x : Bool) → in_long (long_at ch b) ≡ x → e + (n - m) < S + turn_other ch c + g
      by true w = let r = in_long-is (long_at ch b) w in stays r.first r.left r.total (after r.first r.left r.total r.stands) (long-step ch b r.first r.left r.total r.stands c)
      by false w = joins (joined b ch c g m n w q)

  after_ever : (calls : List Call) (ch : Channel) (S : ℕ) → Waiting ch S → After ch S → After (channel_after ch calls) (S + other_turns (unowned_answers ch calls))
  after_ever [] ch S wait after g m n q = let h = after g m n q in omega (arith, h)
  after_ever (c ∷ l) ch S wait after g m n q =
      let h = after_ever l (channel_call ch c).state (S + turn_other ch c) (waiting-call ch c S wait) (after_call ch c S wait after) g m n q in
      omega (arith, h, others-first ch c l)

pub behind : (a b : ℕ) (calls : List Call) (ch : Channel) (f l t g m n : ℕ) → 1 ≤ f → 1 ≤ l → long_at ch a ≡ Long f l t → in_long (long_at ch b) ≡ false → long_at (channel_after ch calls) b ≡ Long g m n
    → f + l + (n - m) ≤ other_turns (unowned_answers ch calls) + g
behind a b calls ch f l t g m n lo left stands out joins =
    let h =
    after_ever a b (f + l - 1) calls ch 0 (λ less. (record { first = f; left = l; total = t; stands = stands }, omega (arith, lo), lo, left)) (λ g m n q. absurd (not_long-is (long_at ch b) g m n out q)) g m n joins in
    omega (arith, h, lo, left)

-- ---- and so with urgent turns

-- of more slots no more turns are urgent than there are slots more
urgent-take : (l : List Answer) (i j : ℕ) → i ≤ j → urgent_turns (take j l) ≤ urgent_turns (take i l) + (j - i)
urgent-take [] zero zero h = omega arith
urgent-take [] zero (suc j) h = omega arith
urgent-take [] (suc i) zero h = omega arith
urgent-take [] (suc i) (suc j) h = omega arith
urgent-take (x ∷ l) zero zero h = omega arith
urgent-take (x ∷ l) zero (suc j) h = go (on_urgent x) (urgent-take l zero j (omega arith))
  where
    go : (u : Bool) → urgent_turns (take j l) ≤ urgent_turns (take zero l) + (j - 0) → cond u 1 0 + urgent_turns (take j l) ≤ 0 + (suc j - 0)
    go true w = omega (arith, w)
    go false w = omega (arith, w)
urgent-take (x ∷ l) (suc i) zero h = absurd (omega arith)
urgent-take (x ∷ l) (suc i) (suc j) h = let w = urgent-take l i j (omega arith) in omega (arith, w)

pub in_order : (ch : Channel) (calls more : List Call) (x s p y r q : ℕ) → p < other_turns (unowned_answers ch calls) + q → (u : LongSends x s p (unowned_answers ch (calls ++ more)))
    (v : LongSends y r q (unowned_answers (channel_after ch calls) more)) → u.slot < length (unowned_answers ch calls) + v.slot
in_order ch calls more x s p y r q less u v =
    by_cases (dec_lt u.slot (length (unowned_answers ch calls) + v.slot)) (λ h. h)
    (λ h.
    let all = answers-append ch calls more in
    let front : urgent_turns (take (length (unowned_answers ch calls) + v.slot) (unowned_answers ch (calls ++ more))) ≡ urgent_turns (unowned_answers ch calls) + urgent_turns (take v.slot (unowned_answers (channel_after ch calls) more))
    = ap (λ (l : List Answer). urgent_turns (take (length (unowned_answers ch calls) + v.slot) l)) all
    ∙ ap urgent_turns (take-append-add (unowned_answers ch calls) (unowned_answers (channel_after ch calls) more) v.slot)
    ∙ urgent-append (unowned_answers ch calls) (take v.slot (unowned_answers (channel_after ch calls) more)) in
    absurd (omega (arith, less, h, front, u.number, v.number, urgent-most (unowned_answers ch calls), urgent-take (unowned_answers ch (calls ++ more)) (length (unowned_answers ch calls) + v.slot) u.slot (omega (arith, h)))))
