-- The line of the form of each condition is the line that the definition gives: field by field, by the laws on forms. Assumes nothing.
use mathlib.Core.Path.{◌≡◌, refl, ap, ◌∙◌}
use mathlib.Core.Bool.{true}
use mathlib.Core.List.{List, [], ◌∷◌, ◌++◌, map}
use Prim.Native.Nat.{ℕ}
use Rattle.decimals.specs.Decimal.{digits_of}
use Rattle.decimals.specs.Printing.{record_of}
use Rattle.forms.specs.Form.{form_of}
use Rattle.forms.proofs.FormLines.{is_text, field_number, field_text, word-form}
use Rattle.rules.specs.declared.Condition.TheVariants as condition
use Rattle.condition_lines.specs.ConditionLines.{message_word, condition_line}

-- `#,message,#,`, and then a condition's word
abbrev message_form : List ℕ → List ℕ
message_form word = 35 ∷ 44 ∷ 109 ∷ 101 ∷ 115 ∷ 115 ∷ 97 ∷ 103 ∷ 101 ∷ 44 ∷ 35 ∷ 44 ∷ word

module _ (k index : ℕ) where
  message-form : (word vs : List ℕ) → is_text word ≡ true
      → form_of (message_form word) (k ∷ index ∷ vs) ≡ record_of (digits_of k ∷ message_word ∷ digits_of index ∷ word ∷ map digits_of vs)
  unfolding record_of
  message-form word vs h =
      field_number (message_word ++ (44 ∷ 35 ∷ 44 ∷ word)) (index ∷ vs) k
      ∙ ap (λ (l : List ℕ). digits_of k ++ (44 ∷ l))
      (field_text message_word (35 ∷ 44 ∷ word) (index ∷ vs) refl ∙ ap (λ (l : List ℕ). message_word ++ (44 ∷ l)) (word-form word vs index h))

  pub free-form : form_of (message_form (102 ∷ 114 ∷ 101 ∷ 101 ∷ [])) (k ∷ index ∷ [])
      ≡ condition_line k index condition.Free
  unfolding condition_line
  free-form = message-form _ ([]) refl

  pub fresh-form : (total : ℕ) → form_of (message_form (102 ∷ 114 ∷ 101 ∷ 115 ∷ 104 ∷ [])) (k ∷ index ∷ total ∷ [])
      ≡ condition_line k index (condition.Fresh total)
  unfolding condition_line
  fresh-form total = message-form _ (total ∷ []) refl

  pub asked-form : (group minislot total : ℕ) → form_of (message_form (97 ∷ 115 ∷ 107 ∷ 101 ∷ 100 ∷ [])) (k ∷ index ∷ group ∷ minislot ∷ total ∷ [])
      ≡ condition_line k index (condition.Asked group minislot total)
  unfolding condition_line
  asked-form group minislot total = message-form _ (group ∷ minislot ∷ total ∷ []) refl

  pub resolving-form : (group place total : ℕ) → form_of (message_form (114 ∷ 101 ∷ 115 ∷ 111 ∷ 108 ∷ 118 ∷ 105 ∷ 110 ∷ 103 ∷ [])) (k ∷ index ∷ group ∷ place ∷ total ∷ [])
      ≡ condition_line k index (condition.Resolving group place total)
  unfolding condition_line
  resolving-form group place total = message-form _ (group ∷ place ∷ total ∷ []) refl

  pub urgent-form : (place : ℕ) → form_of (message_form (117 ∷ 114 ∷ 103 ∷ 101 ∷ 110 ∷ 116 ∷ [])) (k ∷ index ∷ place ∷ [])
      ≡ condition_line k index (condition.Urgent place)
  unfolding condition_line
  urgent-form place = message-form _ (place ∷ []) refl

  pub long-form : (first left total : ℕ) → form_of (message_form (108 ∷ 111 ∷ 110 ∷ 103 ∷ [])) (k ∷ index ∷ first ∷ left ∷ total ∷ [])
      ≡ condition_line k index (condition.Long first left total)
  unfolding condition_line
  long-form first left total = message-form _ (first ∷ left ∷ total ∷ []) refl

  pub held-form : (total : ℕ) → form_of (message_form (104 ∷ 101 ∷ 108 ∷ 100 ∷ [])) (k ∷ index ∷ total ∷ [])
      ≡ condition_line k index (condition.Held total)
  unfolding condition_line
  held-form total = message-form _ (total ∷ []) refl
