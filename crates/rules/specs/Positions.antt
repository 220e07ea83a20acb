-- The condition of a message record as the plain channel shows it (paper 01, "Demand 3's list": "its condition its message's: fresh, asked,
-- or its position in its queue (a stretch: its segments there); free if none waits"; paper 02, T-04 and T-06: held if it is kept apart): a
-- search of all that is held and of every queue. Records are numbered as in specs/Messages. Assumes nothing.
use Rattle.std.specs.Prelude.{List, [], ◌∷◌, ℕ, zero, suc, eqb, length}
use Rattle.std.proofs.Math.Option.{Option, none, some}
use Rattle.listlaws.specs.Lists.{only_if}
use Rattle.rules.specs.Messages.{Message, Segment, record_of, of, delivered_of}
use Rattle.rules.specs.StationLimits.{Condition, Free, Held, Fresh, Asked, Resolving, Urgent, Long}
use Rattle.rules.specs.Calls.{Start}
use Rattle.rules.specs.Plain.{Plain}

-- a message, a segment, if it is record k's
abbrev pub one : ℕ → Message → List Message
one k m = only_if (eqb (record_of m) k) (m ∷ [])

abbrev pub part : ℕ → Segment → List Segment
part k s = only_if (eqb (record_of s.message) k) (s ∷ [])

-- the first place of a queue, counted from j, where `f` shows an entry
pub record Found {ℓ} (E : Type ℓ) : Type ℓ where
  pub at : ℕ
  pub what : E

module _ {ℓ κ} {A : Type ℓ} {E : Type κ} (f : A → List E) where
  abbrev pub spotted : List E → ℕ → Option (Found E) → Option (Found E)
  spotted [] j o = o
  spotted (e ∷ l) j o = some (record { at = j; what = e })

  abbrev pub find : List A → ℕ → Option (Found E)
  find [] j = none
  find (x ∷ q) j = spotted (f x) j (find q (suc j))

abbrev pub or_else : Option Condition → Condition → Condition
or_else none c = c
or_else (some d) c = d

abbrev pub held_at : List Message → Option Condition
held_at [] = none
held_at (m ∷ l) = some (Held m.slots)

abbrev pub fresh_at : List Message → Option Condition
fresh_at [] = none
fresh_at (m ∷ l) = some (Fresh m.slots)

abbrev pub asked_at : ℕ → Option (Found Message) → Option Condition
asked_at g none = none
asked_at g (some x) = some (Asked g x.at x.what.slots)

abbrev pub resolving_at : ℕ → Option (Found Message) → Option Condition
resolving_at g none = none
resolving_at g (some x) = some (Resolving g x.at x.what.slots)

abbrev pub urgent_at : Option (Found Message) → Option Condition
urgent_at none = none
urgent_at (some x) = some (Urgent x.at)

-- a stretch: where its first segment stands, and how many segments it has there
abbrev pub long_at : ℕ → Option (Found Segment) → Option Condition
long_at n none = none
long_at n (some x) = some (Long x.at n x.what.message.slots)

-- the groups n, n - 1, .. 1
abbrev pub in_groups : Plain → ℕ → ℕ → Condition
in_groups p k zero = Free
in_groups p k (suc g) =
    or_else (asked_at (suc g) (find (of k) (p.group (suc g)).asking 1))
    (or_else (resolving_at (suc g) (find (of k) (p.group (suc g)).resolution 1)) (in_groups p k g))

-- the condition of record k
abbrev pub condition_of : Start → Plain → ℕ → Condition
condition_of S p k =
    or_else (held_at (of k p.held))
    (or_else (fresh_at (of k p.fresh))
    (or_else (urgent_at (find (one k) p.urgent 1))
    (or_else (long_at (length (delivered_of k p.long)) (find (part k) p.long 1)) (in_groups p k S.n))))
