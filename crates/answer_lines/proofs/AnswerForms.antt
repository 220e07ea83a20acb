-- The line of each form is the line that the definition gives: by computation. Assumes nothing.
use mathlib.Core.Path.{◌≡◌, refl}
use mathlib.Core.List.{[], ◌∷◌}
use Prim.Native.Nat.{ℕ}
use Rattle.decimals.specs.Printing.{record_of}
use Rattle.forms.specs.Form.{form_of, left_of}
use Rattle.slot_lines.specs.SlotLine.{slot_line}
use Rattle.call_records.specs.Words.{offer_word, hold_word, commit_word, withdraw_word, calendar_word}
use Rattle.rules.specs.declared.Counters.{Counters}
use Rattle.rules.specs.declared.Turn.{Turn}
use Rattle.rules.specs.declared.Answer.TheVariants.{Refused, Taken, OnHold, Committed, Withdrawn, Set, Went}
use Rattle.answer_lines.specs.AnswerLines.{refused_word, answer_line}

module _ (k group : ℕ) (c : Counters) where
  pub refused-form : (number : ℕ) → form_of (35 ∷ 44 ∷ refused_word) (k ∷ number ∷ []) ≡ answer_line k group c (Refused number)
  unfolding form_of left_of answer_line record_of
  refused-form number = refl

  pub offer-form : (total : ℕ) → form_of (35 ∷ 44 ∷ offer_word) (k ∷ total ∷ []) ≡ answer_line k group c (Taken total)
  unfolding form_of left_of answer_line record_of
  offer-form total = refl

  pub hold-form : (total : ℕ) → form_of (35 ∷ 44 ∷ hold_word) (k ∷ total ∷ []) ≡ answer_line k group c (OnHold total)
  unfolding form_of left_of answer_line record_of
  hold-form total = refl

  pub commit-form : (total : ℕ) → form_of (35 ∷ 44 ∷ commit_word) (k ∷ total ∷ []) ≡ answer_line k group c (Committed total)
  unfolding form_of left_of answer_line record_of
  commit-form total = refl

  pub withdraw-form : (total : ℕ) → form_of (35 ∷ 44 ∷ withdraw_word) (k ∷ total ∷ []) ≡ answer_line k group c (Withdrawn total)
  unfolding form_of left_of answer_line record_of
  withdraw-form total = refl

  pub calendar-form : form_of (35 ∷ 44 ∷ calendar_word) (k ∷ []) ≡ answer_line k group c Set
  unfolding form_of left_of answer_line record_of
  calendar-form = refl

  pub slot-line : (t : Turn) (senders index segment delivered : ℕ)
      → slot_line k group c t senders index segment delivered ≡ answer_line k group c (Went t senders index segment delivered)
  unfolding answer_line
  slot-line t senders index segment delivered = refl
