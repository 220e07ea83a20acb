-- A row as an array of eight holds it: how many minislots its first m are, and the feedback of each. Assumes nothing.
use mathlib.Core.Path.{◌≡◌, sym, ◌∙◌}
use mathlib.Core.List.{List}
use Prim.Native.Nat.{ℕ, ◌<◌, min}
use lib.ListN.{length, get_or, take, length-map, length-take, get_or-map}
use lib.Seq.{get_or-take}
use Rattle.std.proofs.lemmas.List.{take-map}
use Rattle.listlaws.proofs.Beyond.{take-most}
use Rattle.minislot.specs.declared.Feedback.{Feedback}
use Rattle.minislot.specs.declared.Feedback.TheVariants.{Empty}
use Rattle.minislot.specs.declared.MinislotFeedback.{MinislotFeedback}
use Rattle.rows.specs.Row.{feedback_in}

-- what is read beyond the end
abbrev pub blank : MinislotFeedback
blank = record { feedback = Empty }

-- the feedback of the first m
abbrev pub first : ℕ → List MinislotFeedback → List Feedback
first m row = take m (feedback_in row)

pub first-length : (m : ℕ) (row : List MinislotFeedback) → length (first m row) ≡ min m (length row)
first-length m row = length-take m (feedback_in row) ∙ rw length-map

pub feedback-at : (m n : ℕ) (row : List MinislotFeedback) → n < m → get_or (first m row) n Empty ≡ (get_or row n blank).feedback
feedback-at m n row h = get_or-take m (feedback_in row) n Empty h ∙ get_or-map (λ (x : MinislotFeedback). x.feedback) row n blank

-- the first of them that the array holds are the first m
pub held-first : (n m : ℕ) (row : List MinislotFeedback) → n ≡ min m 8 → length row ≡ 8 → feedback_in (take n row) ≡ first m row
held-first n m row e w = sym (take-map (λ (x : MinislotFeedback). x.feedback) n row) ∙ rw e (take-most m 8 (feedback_in row) (rw length-map w))
