-- The answers of the slots that no stream owns, call by call and list by list. Assumes nothing.
use mathlib.Core.Path.{◌≡◌, refl, sym, ap, ◌∙◌}
use mathlib.Core.Bool.{Bool, true, false, cond}
use mathlib.Core.List.{List, [], ◌∷◌, ◌++◌, append_assoc}
use Prim.Native.Nat.{ℕ, zero, suc, ◌+◌, ◌-◌, ◌≤◌}
use native.Mathlib.Omega.{arith}
use lib.ListN.{length, get_or, get_or-append}
use lib.Seq.{get_or-append-add}
use Rattle.listlaws.specs.Lists.{only_if}
use Rattle.rules.specs.declared.Answer.{Answer}
use Rattle.rules.specs.declared.Answer.TheVariants.{Refused}
use Rattle.rules.specs.Calls.{Call}
use Rattle.channel_rules.specs.ChannelCalls.{Channel, channel_call, channel_after}
use Rattle.place_waits.specs.Continuing.{index_at, is_counted, unowned_answers, numbered, on_urgent, urgent_turns}
use Rattle.place_waits.proofs.UrgentSteps.{index-any}

-- ---- a call and the rest

module _ (ch : Channel) (c : Call) (l : List Call) where
  pub counted : is_counted ch c ≡ true → unowned_answers ch (c ∷ l) ≡ (channel_call ch c).answer ∷ unowned_answers (channel_call ch c).state l
  counted e = ap (λ (b : Bool). only_if b ((channel_call ch c).answer ∷ []) ++ unowned_answers (channel_call ch c).state l) e

  pub passed-by : is_counted ch c ≡ false → unowned_answers ch (c ∷ l) ≡ unowned_answers (channel_call ch c).state l
  passed-by e = ap (λ (b : Bool). only_if b ((channel_call ch c).answer ∷ []) ++ unowned_answers (channel_call ch c).state l) e

-- ---- a list and what follows it

pub answers-append : (ch : Channel) (calls more : List Call) → unowned_answers ch (calls ++ more) ≡ unowned_answers ch calls ++ unowned_answers (channel_after ch calls) more
answers-append ch [] more = refl
answers-append ch (c ∷ l) more =
    ap (λ (z : List Answer). only_if (is_counted ch c) ((channel_call ch c).answer ∷ []) ++ z) (answers-append (channel_call ch c).state l more)
    ∙ sym (append_assoc (only_if (is_counted ch c) ((channel_call ch c).answer ∷ [])) (unowned_answers (channel_call ch c).state l) (unowned_answers (channel_after (channel_call ch c).state l) more))

pub index_ever : (ch : Channel) (calls : List Call) (k : ℕ) → index_at (channel_after ch calls) k ≡ index_at ch k
index_ever ch [] k = refl
index_ever ch (c ∷ l) k = index_ever (channel_call ch c).state l k ∙ index-any ch c k

-- ---- numbers

pub number-first : (a : Answer) (l : List Answer) → numbered (a ∷ l) 1 ≡ a
number-first a l = refl

pub number-next : (a : Answer) (l : List Answer) (i : ℕ) → 1 ≤ i → numbered (a ∷ l) (suc i) ≡ numbered l i
number-next a l zero h = absurd (omega arith)
number-next a l (suc i) h =
    let x : suc (suc i) - 1 ≡ suc i = omega arith in
    let y : suc i - 1 ≡ i = omega arith in
    ap (λ (n : ℕ). get_or (a ∷ l) n (Refused 0)) x ∙ sym (ap (λ (n : ℕ). get_or l n (Refused 0)) y)

pub number-front : (l m : List Answer) (i : ℕ) → 1 ≤ i → i ≤ length l → numbered (l ++ m) i ≡ numbered l i
number-front l m i lo hi = get_or-append l m (Refused 0) (i - 1) (omega arith)

pub number-after : (l m : List Answer) (i : ℕ) → 1 ≤ i → numbered (l ++ m) (length l + i) ≡ numbered m i
number-after l m i lo =
    let e : length l + i - 1 ≡ length l + (i - 1) = omega arith in
    ap (λ (n : ℕ). get_or (l ++ m) n (Refused 0)) e ∙ get_or-append-add l m (i - 1) (Refused 0)

-- ---- urgent turns

pub urgent-most : (l : List Answer) → urgent_turns l ≤ length l
urgent-most [] = omega arith
urgent-most (a ∷ l) = go (on_urgent a) (urgent-most l)
  where
    go : (b : Bool) → urgent_turns l ≤ length l → cond b 1 0 + urgent_turns l ≤ suc (length l)
    go true h = omega (arith, h)
    go false h = omega (arith, h)

pub urgent-append : (l m : List Answer) → urgent_turns (l ++ m) ≡ urgent_turns l + urgent_turns m
urgent-append [] m = omega arith
urgent-append (a ∷ l) m = omega (arith, urgent-append l m)
