-- The line of each form is the line that the definition gives: field by field, by the laws on forms. Assumes nothing.
use mathlib.Core.Path.{◌≡◌, refl, ap, ◌∙◌}
use mathlib.Core.Bool.{true, false}
use mathlib.Core.List.{List, [], ◌∷◌, ◌++◌}
use Prim.Native.Nat.{ℕ, ◌-◌}
use lib.ListN.{get_or}
use Rattle.decimals.specs.Decimal.{digits_of}
use Rattle.decimals.specs.Printing.{record_of}
use Rattle.forms.specs.Form.{form_of}
use Rattle.forms.proofs.FormLines.{is_text, field_number, field_text, word-form}
use Rattle.rules.specs.declared.Counters.{Counters}
use Rattle.counter_lines.specs.CounterLines.{counters_word, owners_word, group_word, counters_line, owners_line, group_line}

module _ (k : ℕ) (c : Counters) where
  pub counters-form : form_of (35 ∷ 44 ∷ counters_word) (k ∷ c.minislots ∷ c.groups ∷ c.next ∷ c.urgent ∷ c.long ∷ []) ≡ counters_line k c
  unfolding counters_line
  counters-form = word-form counters_word _ k refl

  pub owners-form : form_of (35 ∷ 44 ∷ owners_word) (k ∷ c.position ∷ c.calendar) ≡ owners_line k c
  unfolding owners_line
  owners-form = word-form owners_word _ k refl

  -- `#,group,#,#,` and then the mark's word
  group-form : (g rq : ℕ) (mark : List ℕ) → is_text mark ≡ true
      → form_of (35 ∷ 44 ∷ 103 ∷ 114 ∷ 111 ∷ 117 ∷ 112 ∷ 44 ∷ 35 ∷ 44 ∷ 35 ∷ 44 ∷ mark) (k ∷ g ∷ rq ∷ [])
      ≡ record_of (digits_of k ∷ group_word ∷ digits_of g ∷ digits_of rq ∷ mark ∷ [])
  unfolding record_of
  group-form g rq mark h =
      field_number (group_word ++ (44 ∷ 35 ∷ 44 ∷ 35 ∷ 44 ∷ mark)) (g ∷ rq ∷ []) k
      ∙ ap (λ (l : List ℕ). digits_of k ++ (44 ∷ l))
      (field_text group_word (35 ∷ 44 ∷ 35 ∷ 44 ∷ mark) (g ∷ rq ∷ []) refl
      ∙ ap (λ (l : List ℕ). group_word ++ (44 ∷ l)) (field_number (35 ∷ 44 ∷ mark) (rq ∷ []) g
      ∙ ap (λ (l : List ℕ). digits_of g ++ (44 ∷ l)) (word-form mark [] rq h)))

  module _ (g : ℕ) where
    pub yes_form : get_or c.opened (g - 1) true ≡ true
        → form_of (35 ∷ 44 ∷ 103 ∷ 114 ∷ 111 ∷ 117 ∷ 112 ∷ 44 ∷ 35 ∷ 44 ∷ 35 ∷ 44 ∷ 121 ∷ 101 ∷ 115 ∷ []) (k ∷ g ∷ get_or c.resolution (g - 1) 0 ∷ [])
        ≡ group_line k c g
    unfolding group_line
    yes_form e = group-form g _ (121 ∷ 101 ∷ 115 ∷ []) refl ∙ rw e

    pub no_form : get_or c.opened (g - 1) true ≡ false
        → form_of (35 ∷ 44 ∷ 103 ∷ 114 ∷ 111 ∷ 117 ∷ 112 ∷ 44 ∷ 35 ∷ 44 ∷ 35 ∷ 44 ∷ 110 ∷ 111 ∷ []) (k ∷ g ∷ get_or c.resolution (g - 1) 0 ∷ [])
        ≡ group_line k c g
    unfolding group_line
    no_form e = group-form g _ (110 ∷ 111 ∷ []) refl ∙ rw e
