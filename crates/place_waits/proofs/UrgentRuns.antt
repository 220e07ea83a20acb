-- A message in H over a list of calls, by induction on it: each slot that goes through and has no stream owner moves it one place down, and the one that finds it
-- at place 1 sends it. One that joins later stands behind it, and stays there. Assumes nothing.
use mathlib.Core.Path.{◌≡◌, sym, ap, subst, ◌∙◌}
use mathlib.Core.List.{List, [], ◌∷◌}
use Prim.Native.Nat.{ℕ, zero, suc, ◌-◌, ◌≤◌, ◌<◌}
use native.Mathlib.Omega.{arith}
use lib.ListN.{length}
use Rattle.rules.specs.declared.Answer.{Answer}
use Rattle.rules.specs.declared.Condition.TheVariants.{Urgent}
use Rattle.rules.specs.declared.Turn.TheVariants.{Urgent as UrgentTurn}
use Rattle.rules.specs.Calls.{Call}
use Rattle.channel_rules.specs.ChannelCalls.{Channel, channel_call, channel_after}
use Rattle.place_waits.specs.Continuing.{short_at, index_at, unowned_answers, numbered, Tells}
use Rattle.place_waits.proofs.UrgentSteps.{index-any, UrgentStep, Stays, Moves, Sends, urgent-step}
use Rattle.place_waits.proofs.Counting.{counted, passed-by, number-next}

-- ---- ITS SLOT

module _ (k : ℕ) where
  -- what is told of the station stays, since its index does
  told-after : (ch : Channel) (c : Call) (a : Answer) → Tells UrgentTurn (index_at (channel_call ch c).state k) 1 a → Tells UrgentTurn (index_at ch k) 1 a
  told-after ch c a = subst (λ (x : ℕ). Tells UrgentTurn x 1 a) (index-any ch c k)

  told-before : (ch : Channel) (c : Call) (a : Answer) → Tells UrgentTurn (index_at ch k) 1 a → Tells UrgentTurn (index_at (channel_call ch c).state k) 1 a
  told-before ch c a = subst (λ (x : ℕ). Tells UrgentTurn x 1 a) (sym (index-any ch c k))

  pub sends : (calls : List Call) (ch : Channel) (p : ℕ) → short_at ch k ≡ Urgent p → 1 ≤ p → p ≤ length (unowned_answers ch calls) → Tells UrgentTurn (index_at ch k) 1 (numbered (unowned_answers ch calls) p)
  sends [] ch p e lo hi = absurd (omega arith)
  sends (c ∷ l) ch p e lo hi = go (sends l (channel_call ch c).state) (urgent-step ch k c p e)
    where
      Claim : List Answer → Type 0
      Claim answers = p ≤ length answers → Tells UrgentTurn (index_at ch k) 1 (numbered answers p)

      go : ((p : ℕ) → short_at (channel_call ch c).state k ≡ Urgent p → 1 ≤ p → p ≤ length (unowned_answers (channel_call ch c).state l)
          → Tells UrgentTurn (index_at (channel_call ch c).state k) 1 (numbered (unowned_answers (channel_call ch c).state l) p)) → UrgentStep ch c k p → Tells UrgentTurn (index_at ch k) 1 (numbered (unowned_answers ch (c ∷ l)) p)
      go ih (Stays n w) = subst Claim (sym (passed-by ch c l n)) (λ h. told-after ch c _ (ih p w lo h)) hi
      go ih (Moves n q z low w other) =
          subst Claim (sym (counted ch c l n))
          (λ h. subst (λ (a : Answer). Tells UrgentTurn (index_at ch k) 1 a) (sym (number-next _ (unowned_answers (channel_call ch c).state l) q low) ∙ ap (numbered ((channel_call ch c).answer ∷ unowned_answers (channel_call ch c).state l)) (sym z))
          (told-after ch c _ (ih q w low (omega (arith, h, z))))) hi
      go ih (Sends n z w told) =
          subst Claim (sym (counted ch c l n))
          (λ h. subst (λ (i : ℕ). Tells UrgentTurn (index_at ch k) 1 (numbered ((channel_call ch c).answer ∷ unowned_answers (channel_call ch c).state l) i)) (sym z) told) hi

  pub before : (calls : List Call) (ch : Channel) (p i : ℕ) → short_at ch k ≡ Urgent p → 1 ≤ i → i < p → i ≤ length (unowned_answers ch calls) → Tells UrgentTurn (index_at ch k) 1 (numbered (unowned_answers ch calls) i) → ⊥
  before [] ch p i e lo less hi = absurd (omega arith)
  before (c ∷ l) ch p i e lo less hi = go (before l (channel_call ch c).state) (urgent-step ch k c p e)
    where
      Claim : List Answer → Type 0
      Claim answers = i ≤ length answers → Tells UrgentTurn (index_at ch k) 1 (numbered answers i) → ⊥

      later : (j q : ℕ) → i ≡ suc j → p ≡ suc q → (Tells UrgentTurn (index_at ch k) 1 (channel_call ch c).answer → ⊥)
          → ((j : ℕ) → 1 ≤ j → j < q → j ≤ length (unowned_answers (channel_call ch c).state l) → Tells UrgentTurn (index_at (channel_call ch c).state k) 1 (numbered (unowned_answers (channel_call ch c).state l) j) → ⊥)
          → Claim ((channel_call ch c).answer ∷ unowned_answers (channel_call ch c).state l)
      later zero q x z other ih h told = other (subst (λ (i : ℕ). Tells UrgentTurn (index_at ch k) 1 (numbered ((channel_call ch c).answer ∷ unowned_answers (channel_call ch c).state l) i)) x told)
      later (suc j) q x z other ih h told =
          ih (suc j) (omega arith) (omega (arith, less, x, z)) (omega (arith, h, x))
          (told-before ch c _ (subst (λ (a : Answer). Tells UrgentTurn (index_at ch k) 1 a) (ap (numbered ((channel_call ch c).answer ∷ unowned_answers (channel_call ch c).state l)) x ∙ number-next _ (unowned_answers (channel_call ch c).state l) (suc j) (omega arith)) told))

      go : ((p i : ℕ) → short_at (channel_call ch c).state k ≡ Urgent p → 1 ≤ i → i < p → i ≤ length (unowned_answers (channel_call ch c).state l)
          → Tells UrgentTurn (index_at (channel_call ch c).state k) 1 (numbered (unowned_answers (channel_call ch c).state l) i) → ⊥) → UrgentStep ch c k p → Tells UrgentTurn (index_at ch k) 1 (numbered (unowned_answers ch (c ∷ l)) i) → ⊥
      go ih (Stays n w) = subst Claim (sym (passed-by ch c l n)) (λ h told. ih p i w lo less h (told-before ch c _ told)) hi
      go ih (Moves n q z low w other) = subst Claim (sym (counted ch c l n)) (later (i - 1) q (omega (arith, lo)) z other (λ j a b d. ih q j w a b d)) hi
      go ih (Sends n z w told) = absurd (omega (arith, lo, less, z))

  pub waits : (calls : List Call) (ch : Channel) (p : ℕ) → short_at ch k ≡ Urgent p → length (unowned_answers ch calls) < p → short_at (channel_after ch calls) k ≡ Urgent (p - length (unowned_answers ch calls))
  waits [] ch p e h = e ∙ ap Urgent (let z : p ≡ p - 0 = omega arith in z)
  waits (c ∷ l) ch p e h = go (waits l (channel_call ch c).state) (urgent-step ch k c p e)
    where
      Claim : List Answer → Type 0
      Claim answers = length answers < p → short_at (channel_after (channel_call ch c).state l) k ≡ Urgent (p - length answers)

      go : ((p : ℕ) → short_at (channel_call ch c).state k ≡ Urgent p → length (unowned_answers (channel_call ch c).state l) < p
          → short_at (channel_after (channel_call ch c).state l) k ≡ Urgent (p - length (unowned_answers (channel_call ch c).state l))) → UrgentStep ch c k p
          → short_at (channel_after (channel_call ch c).state l) k ≡ Urgent (p - length (unowned_answers ch (c ∷ l)))
      go ih (Stays n w) = subst Claim (sym (passed-by ch c l n)) (ih p w) h
      go ih (Moves n q z low w other) =
          subst Claim (sym (counted ch c l n)) (λ less. ih q w (omega (arith, less, z)) ∙ ap Urgent (let y : q - length (unowned_answers (channel_call ch c).state l) ≡ p - suc (length (unowned_answers (channel_call ch c).state l)) = omega (arith, z) in y)) h
      go ih (Sends n z w told) = absurd (subst (λ (answers : List Answer). length answers < p → ⊥) (sym (counted ch c l n)) (λ less. omega (arith, less, z)) h)
