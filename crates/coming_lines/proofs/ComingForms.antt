-- The line of each form is the line that the definition gives, by the laws on forms. Assumes nothing.
use mathlib.Core.Path.{◌≡◌, refl}
use mathlib.Core.List.{List, [], ◌∷◌}
use Prim.Native.Nat.{ℕ}
use Rattle.forms.specs.Form.{form_of}
use Rattle.forms.proofs.FormLines.{word-form}
use Rattle.call_records.specs.Words.{coming_word}
use Rattle.answer_lines.specs.AnswerLines.{refused_word}
use Rattle.coming_rules.specs.declared.ComingAnswer.TheVariants.{Until, Refused}
use Rattle.coming_lines.specs.ComingLines.{coming_line}

module _ (k : ℕ) (list : List ℕ) where
  pub until_form : (slots : ℕ) → form_of (35 ∷ 44 ∷ coming_word) (k ∷ slots ∷ list) ≡ coming_line k (Until slots) list
  unfolding coming_line
  until_form slots = word-form coming_word (slots ∷ list) k refl

  pub refused-form : (number : ℕ) → form_of (35 ∷ 44 ∷ refused_word) (k ∷ number ∷ []) ≡ coming_line k (Refused number) list
  unfolding coming_line
  refused-form number = word-form refused_word (number ∷ []) k refl
