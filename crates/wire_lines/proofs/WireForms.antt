-- The line of a wire row's form is the line that the definition gives, for any numbers: by the laws on forms.
-- Assumes nothing.
use mathlib.Core.Path.{◌≡◌, refl}
use mathlib.Core.List.{List, ◌∷◌}
use Prim.Native.Nat.{ℕ, ◌-◌, min}
use lib.ListN.{length, get_or, take}
use Rattle.listlaws.proofs.Beyond.{take-most}
use Rattle.forms.specs.Form.{form_of}
use Rattle.forms.proofs.FormLines.{word-form}
use Rattle.rules.specs.declared.WireRow.{WireRow}
use Rattle.channel_rules.specs.ChannelCalls.{blank_row}
use Rattle.wire_lines.specs.WireLines.{wire_word, cells, wire_line}

-- the form with the numbers of a group's row: `values` is what the loop filled in, of `held` minislots
pub row_line : (k m g : ℕ) (wire : List WireRow) (row : WireRow) (held : ℕ) (values : List ℕ) → row ≡ get_or wire (g - 1) blank_row → held ≡ min m 8
    → length row.minislots ≡ 8 → values ≡ k ∷ g ∷ cells (take held row.minislots) → form_of (35 ∷ 44 ∷ wire_word) values ≡ wire_line k m wire g
unfolding wire_line
row_line k m g wire row held values e f h v =
    rw (v, word-form wire_word (g ∷ cells (take held row.minislots)) k refl, f, take-most m 8 row.minislots h, e)
