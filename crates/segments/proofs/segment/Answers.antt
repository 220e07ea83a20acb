-- `segment` meets its contract: what `slots` answers says whether the message fits and how many slots it takes, and each return cites the law of its case.
-- The part starts within the message, since one slot fewer than the total would not hold it.
-- Assumes nothing.
use Prim.Native.Nat.{ℕ, ◌+◌, ◌*◌, ◌-◌, ◌≤◌, ◌<◌, min}
use native.Mathlib.Omega.{arith}
use mathlib.Core.Path.{◌≡◌, sym, ◌∙◌}
use mathlib.Core.Bool.{true}
use mathlib.Core.List.{List, []}
use lib.ListN.{length, take, drop}
use Rattle.message.specs.Message.{fits_message, slots_for}
use Rattle.segments.specs.Segment.{segment_number, segment_of}
use Rattle.message.proofs.Totals.{taken-from, refused-from, slots-hold}
use Rattle.segments.proofs.Cuts.{number_size, number-none, number-over, number-given, segment-refused, segment-given, take_to}
use Rattle.segments.proofs.segment.Goals as goal

-- what a return has to show, of the part and the number handed back
Answer : List ℕ → ℕ → List ℕ → ℕ → Type 0
Answer message j part number = (part ≡ segment_of message j) × (number ≡ segment_number (length message) j)

-- a refusal's number, with an empty part
refused : (message : List ℕ) (j number : ℕ) → segment_number (length message) j ≡ number → (number ≡ 0 → ⊥)
    → (part : List ℕ) (set : ℕ) → (part ≡ []) × (set ≡ number) → Answer message j part set
unfolding Answer
refused message j number e h part set p =
    (p.0 ∙ sym (segment-refused message j (λ z. h (sym e ∙ z))), p.1 ∙ sym e)

-- a part up to 48 bytes on or the end, whichever comes first
given : (message : List ℕ) (j : ℕ) → fits_message (length message) ≡ true → (1 ≤ j) × (j ≤ slots_for (length message))
    → (end : ℕ) → end ≡ min (48 * (j - 1) + 48) (length message)
    → Answer message j (take (end - 48 * (j - 1)) (drop (48 * (j - 1)) message)) 0
unfolding Answer
given message j f w end h =
    let e : segment_number (length message) j ≡ 0 = number-given (length message) j f w.0 w.1 in
    (take_to (48 * (j - 1)) 48 end message h ∙ sym (segment-given message j e w.0), sym e)

-- a segment up to the slot total starts within the message
starts : (bytes j total : ℕ) → (fits_message bytes ≡ true) × (slots_for bytes ≡ total) → j ≤ total → 1 ≤ j → 48 * (j - 1) < bytes
starts bytes j total t low high = omega (arith, t, slots-hold bytes)

pub returns-in_default : goal.returns-in_default
unfolding Answer
returns-in_default c =
    let u = (refused-from _ _ (sym c.slots.ensures.answer ∙ c.in_default.is)).0 in
    let told = refused _ _ 10 (number_size _ _ u) (omega arith) _ _ (c.refuse.ensures.part, c.refuse.ensures.told) in
    record { part = told.0; told = told.1 }

pub returns-then-j-eq0 : goal.returns-then-j-eq0
unfolding Answer
returns-then-j-eq0 c =
    let t = taken-from _ _ (sym c.slots.ensures.answer ∙ c.in-Slots.is) in
    let told = refused _ _ 13 (number-none _ _ t.0 (omega arith)) (omega arith) _ _ (c.refuse-then-j-eq0.ensures.part, c.refuse-then-j-eq0.ensures.told) in
    record { part = told.0; told = told.1 }

pub returns-then-j-total : goal.returns-then-j-total
unfolding Answer
returns-then-j-total c =
    let t = taken-from _ _ (sym c.slots.ensures.answer ∙ c.in-Slots.is) in
    let told = refused _ _ 13 (number-over _ _ t.0 (omega (arith, t))) (omega arith) _ _ (c.refuse-then-j-total.ensures.part, c.refuse-then-j-total.ensures.told) in
    record { part = told.0; told = told.1 }

pub slice_bounds-result-count : goal.slice_bounds-result-count
slice_bounds-result-count c =
    let t = taken-from _ _ (sym c.slots.ensures.answer ∙ c.in-Slots.is) in
    omega (arith, starts _ c.args.j _ t (omega arith) (omega arith))

pub slice_bounds-result-start : goal.slice_bounds-result-start
slice_bounds-result-start c =
    let t = taken-from _ _ (sym c.slots.ensures.answer ∙ c.in-Slots.is) in
    omega (arith, starts _ c.args.j _ t (omega arith) (omega arith))

pub returns : goal.returns
unfolding Answer
returns c =
    let t = taken-from _ _ (sym c.slots.ensures.answer ∙ c.in-Slots.is) in
    let told = given _ _ t.0 (omega arith, omega (arith, t)) c.min-end.result (omega arith) in
    record { part = told.0; told = told.1 }
