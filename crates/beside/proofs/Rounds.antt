-- The two messages of a station one after the other, as a loop takes them: what they do once the first so many have acted, the others as they
-- are. Assumes nothing.
use mathlib.Core.Path.{◌≡◌, refl, ◌∙◌}
use mathlib.Core.Bool.{true, false, ◌&&◌}
use mathlib.Core.List.{List, [], ◌∷◌}
use Prim.Native.Nat.{ℕ, zero, suc, ◌+◌, ◌<◌}
use native.Mathlib.Omega.{arith}
use lib.ListN.{get_or, set}
use Rattle.rules.specs.declared.Acted.{Acted}
use Rattle.rules.specs.declared.Condition.{Condition}
use Rattle.rules.specs.declared.Condition.TheVariants.{Free}
use Rattle.rules.specs.declared.Outcome.{Outcome}
use Rattle.rules.specs.Stepping.{stays, is_fresh, acts_of, acts_beside}
use Rattle.idling.specs.Idling.{idle_in}
use Rattle.idling.proofs.Passed.{idle-stays}

-- the condition of a message, by its place
abbrev pub condition_at : List Condition → ℕ → Condition
condition_at messages i = get_or messages i Free

abbrev pub round : Outcome → ℕ → List Condition → ℕ → List Acted
round o pick messages zero = stays (condition_at messages 0) ∷ stays (condition_at messages 1) ∷ []
round o pick messages (suc zero) = acts_of o (condition_at messages 0) pick ∷ stays (condition_at messages 1) ∷ []
round o pick messages (suc (suc n)) = acts_of o (condition_at messages 0) pick ∷ acts_of o (condition_at messages 1) pick ∷ []

module _ (o : Outcome) (pick : ℕ) (messages : List Condition) where
  rounds-on : (i : ℕ) → i < 2 → set (round o pick messages i) i (acts_of o (condition_at messages i) pick) ≡ round o pick messages (i + 1)
  rounds-on zero h = refl
  rounds-on (suc zero) h = refl
  rounds-on (suc (suc n)) h = absurd (omega arith)

  module _ {after : List Acted} (i : ℕ) (h : i < 2) (e : after ≡ round o pick messages i) where
    -- one more acts
    pub acted : {x : Acted} → x ≡ acts_of o (condition_at messages i) pick → set after i x ≡ round o pick messages (i + 1)
    acted q = rw (e, q) (rounds-on i h)

    -- one that the slot passes by is left as it is
    pub passed : idle_in o.turn o.resolution o.group (condition_at messages i) ≡ true → after ≡ round o pick messages (i + 1)
    passed q = e ∙ go i h q
      where
        go : (i : ℕ) → i < 2 → idle_in o.turn o.resolution o.group (condition_at messages i) ≡ true
            → round o pick messages i ≡ round o pick messages (i + 1)
        go zero h q = rw (idle-stays o (condition_at messages 0) pick q)
        go (suc zero) h q = rw (idle-stays o (condition_at messages 1) pick q)
        go (suc (suc n)) h q = absurd (omega arith)

-- all that act have acted: both, or of two fresh ones the first
module _ (o : Outcome) (pick : ℕ) (short long : Condition) where
  abbrev pub pair : List Condition
  pair = short ∷ long ∷ []

  abbrev pub whole : List Acted
  whole = acts_of o short pick ∷ acts_beside o short long pick ∷ []

  pub first-acts : (i : ℕ) → i ≡ 1 → is_fresh short && is_fresh long ≡ true → round o pick pair i ≡ whole
  unfolding acts_beside
  first-acts i q e = rw (q, e)

  pub both_act : (i : ℕ) → i ≡ 2 → is_fresh short && is_fresh long ≡ false → round o pick pair i ≡ whole
  unfolding acts_beside
  both_act i q e = rw (q, e)
