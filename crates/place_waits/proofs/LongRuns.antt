-- A stretch of N over a list of calls, by induction on it: an urgent turn leaves it, any other turn of a slot that no stream owns moves it one place down or sends
-- its next segment. So the segment at place p is sent by the p-th of these. Assumes nothing.
use mathlib.Core.Path.{◌≡◌, refl, sym, ap, subst, ◌∙◌}
use mathlib.Core.Bool.{Bool, true, false, cond, false≢true}
use mathlib.Core.List.{List, [], ◌∷◌}
use mathlib.Core.Logic.{by_cases}
use Prim.Native.Nat.{ℕ, zero, suc, ◌+◌, ◌-◌, ◌≤◌, ◌<◌}
use native.Mathlib.Omega.{arith}
use native.Mathlib.Decide.{dec_lt}
use lib.Dec.{eqb}
use lib.ListN.{length, take}
use borrow.Author.Tests.{lt-ltb, le-ltb, ne_eqb}
use Rattle.rules.specs.declared.Answer.{Answer}
use Rattle.rules.specs.declared.Answer.TheVariants.{Went}
use Rattle.rules.specs.declared.Condition.TheVariants.{Free, Long}
use Rattle.rules.specs.declared.Turn.TheVariants.{Long as LongTurn}
use Rattle.rules.specs.Calls.{Call}
use Rattle.channel_rules.specs.ChannelCalls.{Channel, channel_call, channel_after}
use Rattle.place_waits.specs.Continuing.{long_at, index_at, is_counted, unowned_answers, numbered, Tells, on_urgent, urgent_turns, other_turns}
use Rattle.place_waits.specs.Waits.{segment_in, stretch_after, LongSends}
use Rattle.place_waits.proofs.UrgentSteps.{index-any}
use Rattle.place_waits.proofs.LongSteps.{LongStep, Stays, Yields, Moves, Sends, long-step}
use Rattle.place_waits.proofs.Counting.{counted, passed-by, number-next, urgent-most}

-- ---- what is told of a list with one slot more in front

-- a long turn is no urgent one
not-urgent : (x s : ℕ) (a : Answer) → on_urgent a ≡ true → Tells LongTurn x s a → ⊥
not-urgent x s a e told = false≢true (sym (ap on_urgent told.told) ∙ e)

module _ (x s : ℕ) (a : Answer) (l : List Answer) where
  -- none before, with a slot more that tells nothing of it
  none_more : (n : ℕ) → (Tells LongTurn x s a → ⊥) → ((i : ℕ) → 1 ≤ i → i < n → Tells LongTurn x s (numbered l i) → ⊥) → (i : ℕ) → 1 ≤ i → i < suc n → Tells LongTurn x s (numbered (a ∷ l) i) → ⊥
  none_more n other none zero lo hi told = absurd (omega arith)
  none_more n other none (suc zero) lo hi told = other told
  none_more n other none (suc (suc i)) lo hi told = none (suc i) (omega arith) (omega arith) (subst (λ (b : Answer). Tells LongTurn x s b) (number-next a l (suc i) (omega arith)) told)

  more : (p q : ℕ) → (Tells LongTurn x s a → ⊥) → q ≡ p + (1 - cond (on_urgent a) 1 0) → LongSends x s p l → LongSends x s q (a ∷ l)
  more p q other e w =
      record {
        slot = suc w.slot;
        low = omega arith;
        there = omega (arith, w.there);
        number = go (on_urgent a) e;
        sends = subst (λ (b : Answer). Tells LongTurn x s b) (sym (number-next a l w.slot w.low)) w.sends;
        before = none_more w.slot other w.before;
      }
    where
      go : (b : Bool) → q ≡ p + (1 - cond b 1 0) → suc w.slot ≡ q + (cond b 1 0 + urgent_turns (take w.slot l))
      go true e = omega (arith, e, w.number)
      go false e = omega (arith, e, w.number)

  first : on_urgent a ≡ false → Tells LongTurn x s a → LongSends x s 1 (a ∷ l)
  first e told = record { slot = 1; low = omega arith; there = omega arith; number = rw e; sends = told; before = λ i lo hi w. omega (arith, lo, hi) }

-- ---- places and segments

-- the segment at a place stays what it is while the stretch moves and sends
segment-moves : (g l t p : ℕ) → suc g ≤ p → segment_in (suc g) l t p ≡ segment_in g l t (p - 1)
segment-moves g l t p h = omega (arith, h)

segment-sends : (l t p : ℕ) → 2 ≤ p → 2 ≤ l → l ≤ t → segment_in 1 l t p ≡ segment_in 1 (l - 1) t (p - 1)
segment-sends l t p a b c = omega (arith, a, b, c)

segment-first : (l t : ℕ) → 1 ≤ l → l ≤ t → segment_in 1 l t 1 ≡ t - (l - 1)
segment-first l t a b = omega (arith, a, b)

-- a stretch before it begins to send, and after
stretch-before : (f l t n : ℕ) → n < f → stretch_after f l t n ≡ Long (f - n) l t
stretch-before f l t n h = let z : l - (n + 1 - f) ≡ l = omega (arith, h) in rw (lt-ltb n f h, z)

stretch-begun : (f l t n : ℕ) → f ≤ n → stretch_after f l t n ≡ Long 1 (l - (n + 1 - f)) t
stretch-begun f l t n h = rw (le-ltb n f h)

stretch-moves : (g l t n : ℕ) → stretch_after g l t n ≡ stretch_after (suc g) l t (suc n)
stretch-moves g l t n =
    by_cases (dec_lt n g)
    (λ h. stretch-before g l t n h ∙ ap (λ (x : ℕ). Long x l t) (let z : g - n ≡ suc g - suc n = omega arith in z) ∙ sym (stretch-before (suc g) l t (suc n) (omega arith)))
    (λ h. stretch-begun g l t n (omega arith) ∙ ap (λ (x : ℕ). Long 1 x t) (let z : l - (n + 1 - g) ≡ l - (suc n + 1 - suc g) = omega arith in z) ∙ sym (stretch-begun (suc g) l t (suc n) (omega arith)))

stretch-sends : (l t n : ℕ) → stretch_after 1 (l - 1) t n ≡ stretch_after 1 l t (suc n)
stretch-sends l t zero =
    stretch-before 1 (l - 1) t 0 (omega arith) ∙ ap (λ (x : ℕ). Long 1 x t) (let z : l - 1 ≡ l - (1 + 1 - 1) = omega arith in z) ∙ sym (stretch-begun 1 l t 1 (omega arith))
stretch-sends l t (suc n) =
    stretch-begun 1 (l - 1) t (suc n) (omega arith) ∙ ap (λ (x : ℕ). Long 1 x t) (let z : l - 1 - (suc n + 1 - 1) ≡ l - (suc (suc n) + 1 - 1) = omega arith in z) ∙ sym (stretch-begun 1 l t (suc (suc n)) (omega arith))

-- ---- turns that are not urgent

pub other_yields : (a : Answer) (l : List Answer) → on_urgent a ≡ true → other_turns (a ∷ l) ≡ other_turns l
other_yields a l e = rw e (omega arith)

pub other-counts : (a : Answer) (l : List Answer) → on_urgent a ≡ false → other_turns (a ∷ l) ≡ suc (other_turns l)
other-counts a l e = rw e (omega (arith, urgent-most l))

-- ---- ITS SLOTS

module _ (k : ℕ) where
  -- what is known of a stretch
  pub record Stretch (ch : Channel) (f l t : ℕ) : Type 0 where
    pub stands : long_at ch k ≡ Long f l t
    pub first : 1 ≤ f
    pub left : 1 ≤ l
    pub most : l ≤ t

  -- after its first slot is sent, if one is left
  sent-one : (ch : Channel) (l t : ℕ) → long_at ch k ≡ cond (eqb l 1) Free (Long 1 (l - 1) t) → 2 ≤ l → l ≤ t → Stretch ch 1 (l - 1) t
  sent-one ch l t e lo hi =
      record { stands = e ∙ ap (λ (b : Bool). cond b Free (Long 1 (l - 1) t)) (ne_eqb l 1 (λ q. omega (arith, lo, q))); first = omega arith; left = omega (arith, lo); most = omega (arith, hi) }

  pub sends : (calls : List Call) (ch : Channel) (f l t p : ℕ) → Stretch ch f l t → f ≤ p → p < f + l → p + urgent_turns (unowned_answers ch calls) ≤ length (unowned_answers ch calls)
      → LongSends (index_at ch k) (segment_in f l t p) p (unowned_answers ch calls)
  sends [] ch f l t p w lo hi enough = absurd (omega (arith, w.first, lo, enough))
  sends (c ∷ calls) ch f l t p w lo hi enough = go (sends calls (channel_call ch c).state) (long-step ch k f l t w.stands c)
    where
      Claim : List Answer → Type 0
      Claim answers = p + urgent_turns answers ≤ length answers → LongSends (index_at ch k) (segment_in f l t p) p answers

      After : ℕ → ℕ → Type 0
      After s q = LongSends (index_at ch k) s q (unowned_answers (channel_call ch c).state calls)

      here : (s q : ℕ) → LongSends (index_at (channel_call ch c).state k) s q (unowned_answers (channel_call ch c).state calls) → After s q
      here s q = subst (λ (x : ℕ). LongSends x s q (unowned_answers (channel_call ch c).state calls)) (index-any ch c k)

      sent : (n : is_counted ch c ≡ true) → on_urgent (channel_call ch c).answer ≡ false → f ≡ 1 → long_at (channel_call ch c).state k ≡ cond (eqb l 1) Free (Long 1 (l - 1) t)
          → Tells LongTurn (index_at ch k) (t - (l - 1)) (channel_call ch c).answer
          → ((g m u q : ℕ) → Stretch (channel_call ch c).state g m u → g ≤ q → q < g + m → q + urgent_turns (unowned_answers (channel_call ch c).state calls) ≤ length (unowned_answers (channel_call ch c).state calls)
          → LongSends (index_at (channel_call ch c).state k) (segment_in g m u q) q (unowned_answers (channel_call ch c).state calls))
          → (q : ℕ) → p ≡ q → Claim ((channel_call ch c).answer ∷ unowned_answers (channel_call ch c).state calls)
      sent n urgent one e told ih zero z h = absurd (omega (arith, w.first, lo, z))
      sent n urgent one e told ih (suc zero) z h =
          let segment : t - (l - 1) ≡ segment_in f l t p = sym (segment-first l t w.left w.most) ∙ (λ i. segment_in (sym one i) l t (sym z i)) in
          subst (λ (q : ℕ). LongSends (index_at ch k) (segment_in f l t p) q ((channel_call ch c).answer ∷ unowned_answers (channel_call ch c).state calls)) (sym z)
          (first (index_at ch k) (segment_in f l t p) (channel_call ch c).answer (unowned_answers (channel_call ch c).state calls) urgent (subst (λ (s : ℕ). Tells LongTurn (index_at ch k) s (channel_call ch c).answer) segment told))
      sent n urgent one e told ih (suc (suc q)) z h =
          let two : 2 ≤ l = omega (arith, hi, one, z) in
          let same : segment_in 1 (l - 1) t (p - 1) ≡ segment_in f l t p = sym (segment-sends l t p (omega (arith, z)) two w.most) ∙ ap (λ (g : ℕ). segment_in g l t p) (sym one) in
          more (index_at ch k) (segment_in f l t p) (channel_call ch c).answer (unowned_answers (channel_call ch c).state calls) (p - 1) p
          (λ v.
          let y : Went LongTurn 1 (index_at ch k) (t - (l - 1)) told.delivered ≡ Went LongTurn 1 (index_at ch k) (segment_in f l t p) v.delivered = sym told.told ∙ v.told in
          let x : t - (l - 1) ≡ segment_in f l t p = cc in omega (arith, x, one, z, w.left, w.most))
          (rw urgent (omega (arith, z)))
          (subst (λ (s : ℕ). LongSends (index_at ch k) s (p - 1) (unowned_answers (channel_call ch c).state calls)) same
          (here (segment_in 1 (l - 1) t (p - 1)) (p - 1) (ih 1 (l - 1) t (p - 1) (sent-one (channel_call ch c).state l t e two w.most) (omega (arith, z)) (omega (arith, hi, one, two))
          (let u = rw urgent at h in omega (arith, u, z)))))

      go : ((g m u q : ℕ) → Stretch (channel_call ch c).state g m u → g ≤ q → q < g + m → q + urgent_turns (unowned_answers (channel_call ch c).state calls) ≤ length (unowned_answers (channel_call ch c).state calls)
          → LongSends (index_at (channel_call ch c).state k) (segment_in g m u q) q (unowned_answers (channel_call ch c).state calls))
          → LongStep ch c k f l t → LongSends (index_at ch k) (segment_in f l t p) p (unowned_answers ch (c ∷ calls))
      go ih (Stays n e) = subst Claim (sym (passed-by ch c calls n)) (λ h. here (segment_in f l t p) p (ih f l t p (record { stands = e; first = w.first; left = w.left; most = w.most }) lo hi h)) enough
      go ih (Yields n urgent e) =
          subst Claim (sym (counted ch c calls n))
          (λ h. more (index_at ch k) (segment_in f l t p) (channel_call ch c).answer (unowned_answers (channel_call ch c).state calls) p p (not-urgent (index_at ch k) (segment_in f l t p) (channel_call ch c).answer urgent) (rw urgent (omega arith))
          (here (segment_in f l t p) p (ih f l t p (record { stands = e; first = w.first; left = w.left; most = w.most }) lo hi (let u = rw urgent at h in omega (arith, u))))) enough
      go ih (Moves n urgent g z low e other) =
          subst Claim (sym (counted ch c calls n))
          (λ h. more (index_at ch k) (segment_in f l t p) (channel_call ch c).answer (unowned_answers (channel_call ch c).state calls) (p - 1) p (other (segment_in f l t p)) (rw urgent (omega (arith, lo, z)))
          (subst (λ (s : ℕ). LongSends (index_at ch k) s (p - 1) (unowned_answers (channel_call ch c).state calls)) (sym (ap (λ (x : ℕ). segment_in x l t p) z ∙ segment-moves g l t p (omega (arith, lo, z))))
          (here (segment_in g l t (p - 1)) (p - 1) (ih g l t (p - 1) (record { stands = e; first = low; left = w.left; most = w.most }) (omega (arith, lo, z)) (omega (arith, hi, z, lo)) (let u = rw urgent at h in omega (arith, u, lo, z)))))) enough
      go ih (Sends n urgent one e told) = subst Claim (sym (counted ch c calls n)) (sent n urgent one e told ih p refl) enough

  -- and no slot of a list that is not long enough sends it
  pub none-sends : (calls : List Call) (ch : Channel) (f l t p i : ℕ) → Stretch ch f l t → f ≤ p → p < f + l → length (unowned_answers ch calls) < p + urgent_turns (unowned_answers ch calls)
      → 1 ≤ i → i ≤ length (unowned_answers ch calls) → Tells LongTurn (index_at ch k) (segment_in f l t p) (numbered (unowned_answers ch calls) i) → ⊥
  none-sends [] ch f l t p i w lo hi few low high = absurd (omega (arith, low, high))
  none-sends (c ∷ calls) ch f l t p i w lo hi few low high = go (none-sends calls (channel_call ch c).state) (long-step ch k f l t w.stands c)
    where
      -- the slots of the rest tell nothing
      None : ℕ → List Answer → Type 0
      None s answers = (i : ℕ) → 1 ≤ i → i < suc (length answers) → Tells LongTurn (index_at ch k) s (numbered answers i) → ⊥

      Claim : List Answer → Type 0
      Claim answers = length answers < p + urgent_turns answers → 1 ≤ i → i ≤ length answers → Tells LongTurn (index_at ch k) (segment_in f l t p) (numbered answers i) → ⊥

      Rest : Type 0
      Rest = (g m u q i : ℕ) → Stretch (channel_call ch c).state g m u → g ≤ q → q < g + m → length (unowned_answers (channel_call ch c).state calls) < q + urgent_turns (unowned_answers (channel_call ch c).state calls)
          → 1 ≤ i → i ≤ length (unowned_answers (channel_call ch c).state calls) → Tells LongTurn (index_at (channel_call ch c).state k) (segment_in g m u q) (numbered (unowned_answers (channel_call ch c).state calls) i) → ⊥

      here : Rest → (g m u q : ℕ) → Stretch (channel_call ch c).state g m u → g ≤ q → q < g + m → length (unowned_answers (channel_call ch c).state calls) < q + urgent_turns (unowned_answers (channel_call ch c).state calls)
          → None (segment_in g m u q) (unowned_answers (channel_call ch c).state calls)
      here ih g m u q v a b d i x y told = ih g m u q i v a b d x (omega (arith, y)) (subst (λ (x : ℕ). Tells LongTurn x (segment_in g m u q) (numbered (unowned_answers (channel_call ch c).state calls) i)) (sym (index-any ch c k)) told)

      -- nor does the first
      both : (Tells LongTurn (index_at ch k) (segment_in f l t p) (channel_call ch c).answer → ⊥) → None (segment_in f l t p) (unowned_answers (channel_call ch c).state calls)
          → 1 ≤ i → i ≤ suc (length (unowned_answers (channel_call ch c).state calls)) → Tells LongTurn (index_at ch k) (segment_in f l t p) (numbered ((channel_call ch c).answer ∷ unowned_answers (channel_call ch c).state calls) i) → ⊥
      both other none x y =
          none_more (index_at ch k) (segment_in f l t p) (channel_call ch c).answer (unowned_answers (channel_call ch c).state calls) (suc (length (unowned_answers (channel_call ch c).state calls))) other none i x (omega (arith, y))

      sent : on_urgent (channel_call ch c).answer ≡ false → f ≡ 1 → long_at (channel_call ch c).state k ≡ cond (eqb l 1) Free (Long 1 (l - 1) t)
          → Tells LongTurn (index_at ch k) (t - (l - 1)) (channel_call ch c).answer → Rest → (q : ℕ) → p ≡ q → Claim ((channel_call ch c).answer ∷ unowned_answers (channel_call ch c).state calls)
      sent urgent one e told ih zero z h = absurd (omega (arith, w.first, lo, z))
      sent urgent one e told ih (suc zero) z h = let u = rw urgent at h in absurd (let m = urgent-most (unowned_answers (channel_call ch c).state calls) in omega (arith, u, z, m))
      sent urgent one e told ih (suc (suc q)) z h =
          let two : 2 ≤ l = omega (arith, hi, one, z) in
          let same : segment_in 1 (l - 1) t (p - 1) ≡ segment_in f l t p = sym (segment-sends l t p (omega (arith, z)) two w.most) ∙ ap (λ (g : ℕ). segment_in g l t p) (sym one) in
          both
          (λ v.
          let y : Went LongTurn 1 (index_at ch k) (t - (l - 1)) told.delivered ≡ Went LongTurn 1 (index_at ch k) (segment_in f l t p) v.delivered = sym told.told ∙ v.told in
          let x : t - (l - 1) ≡ segment_in f l t p = cc in omega (arith, x, one, z, w.left, w.most))
          (subst (λ (s : ℕ). None s (unowned_answers (channel_call ch c).state calls)) same
          (here ih 1 (l - 1) t (p - 1) (sent-one (channel_call ch c).state l t e two w.most) (omega (arith, z)) (omega (arith, hi, one, two)) (let u = rw urgent at h in omega (arith, u, z))))

      go : Rest → LongStep ch c k f l t → Tells LongTurn (index_at ch k) (segment_in f l t p) (numbered (unowned_answers ch (c ∷ calls)) i) → ⊥
      go ih (Stays n e) =
          subst Claim (sym (passed-by ch c calls n)) (λ h x y. here ih f l t p (record { stands = e; first = w.first; left = w.left; most = w.most }) lo hi h i x (omega (arith, y))) few low high
      go ih (Yields n urgent e) =
          subst Claim (sym (counted ch c calls n))
          (λ h. both (not-urgent (index_at ch k) (segment_in f l t p) (channel_call ch c).answer urgent)
          (here ih f l t p (record { stands = e; first = w.first; left = w.left; most = w.most }) lo hi (let u = rw urgent at h in omega (arith, u)))) few low high
      go ih (Moves n urgent g z lo' e other) =
          subst Claim (sym (counted ch c calls n))
          (λ h. both (other (segment_in f l t p))
          (subst (λ (s : ℕ). None s (unowned_answers (channel_call ch c).state calls)) (sym (ap (λ (x : ℕ). segment_in x l t p) z ∙ segment-moves g l t p (omega (arith, lo, z))))
          (here ih g l t (p - 1) (record { stands = e; first = lo'; left = w.left; most = w.most }) (omega (arith, lo, z)) (omega (arith, hi, z, lo)) (let u = rw urgent at h in omega (arith, u, lo, z))))) few low high
      go ih (Sends n urgent one e told) = subst Claim (sym (counted ch c calls n)) (sent urgent one e told ih p refl) few low high

  -- WHERE IT STANDS until its last slot
  pub waits : (calls : List Call) (ch : Channel) (f l t : ℕ) → Stretch ch f l t → other_turns (unowned_answers ch calls) + 1 < f + l → long_at (channel_after ch calls) k ≡ stretch_after f l t (other_turns (unowned_answers ch calls))
  waits [] ch f l t w h = w.stands ∙ sym (stretch-before f l t 0 (omega (arith, w.first)) ∙ ap (λ (x : ℕ). Long x l t) (let z : f - 0 ≡ f = omega arith in z))
  waits (c ∷ calls) ch f l t w h = go (waits calls (channel_call ch c).state) (long-step ch k f l t w.stands c)
    where
      Claim : List Answer → Type 0
      Claim answers = other_turns answers + 1 < f + l → long_at (channel_after (channel_call ch c).state calls) k ≡ stretch_after f l t (other_turns answers)

      Turns : ℕ → Type 0
      Turns n = n + 1 < f + l → long_at (channel_after (channel_call ch c).state calls) k ≡ stretch_after f l t n

      go : ((g m u : ℕ) → Stretch (channel_call ch c).state g m u → other_turns (unowned_answers (channel_call ch c).state calls) + 1 < g + m
          → long_at (channel_after (channel_call ch c).state calls) k ≡ stretch_after g m u (other_turns (unowned_answers (channel_call ch c).state calls)))
          → LongStep ch c k f l t → long_at (channel_after (channel_call ch c).state calls) k ≡ stretch_after f l t (other_turns (unowned_answers ch (c ∷ calls)))
      go ih (Stays n e) = subst Claim (sym (passed-by ch c calls n)) (ih f l t (record { stands = e; first = w.first; left = w.left; most = w.most })) h
      go ih (Yields n urgent e) =
          subst Claim (sym (counted ch c calls n))
          (subst Turns (sym (other_yields (channel_call ch c).answer (unowned_answers (channel_call ch c).state calls) urgent)) (ih f l t (record { stands = e; first = w.first; left = w.left; most = w.most }))) h
      go ih (Moves n urgent g z low e other) =
          subst Claim (sym (counted ch c calls n))
          (subst Turns (sym (other-counts (channel_call ch c).answer (unowned_answers (channel_call ch c).state calls) urgent))
          (λ less. ih g l t (record { stands = e; first = low; left = w.left; most = w.most }) (omega (arith, less, z)) ∙ stretch-moves g l t (other_turns (unowned_answers (channel_call ch c).state calls)) ∙ ap (λ (x : ℕ). stretch_after x l t (suc (other_turns (unowned_answers (channel_call ch c).state calls)))) (sym z))) h
      go ih (Sends n urgent one e told) =
          subst Claim (sym (counted ch c calls n))
          (subst Turns (sym (other-counts (channel_call ch c).answer (unowned_answers (channel_call ch c).state calls) urgent))
          (λ less.
          let two : 2 ≤ l = omega (arith, less, one) in
          ih 1 (l - 1) t (sent-one (channel_call ch c).state l t e two w.most) (omega (arith, less, one, two)) ∙ stretch-sends l t (other_turns (unowned_answers (channel_call ch c).state calls)) ∙ ap (λ (x : ℕ). stretch_after x l t (suc (other_turns (unowned_answers (channel_call ch c).state calls)))) (sym one))) h
