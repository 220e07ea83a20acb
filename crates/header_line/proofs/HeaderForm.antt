-- The line of the header's form is the header: by computation. Assumes nothing.
use mathlib.Core.Path.{◌≡◌, refl}
use mathlib.Core.List.{List, [], ◌∷◌}
use Prim.Native.Nat.{ℕ}
use Rattle.decimals.specs.Printing.{record_of}
use Rattle.forms.specs.Form.{form_of, left_of}
use Rattle.answer_lines.specs.AnswerLines.{header_of}

-- `call,kind,group,turn,senders,index,segment,delivered,H,N,RQ`
abbrev pub header_form : List ℕ
header_form =
    99 ∷ 97 ∷ 108 ∷ 108 ∷ 44 ∷ 107 ∷ 105 ∷ 110 ∷ 100 ∷ 44 ∷ 103 ∷ 114 ∷ 111 ∷ 117 ∷ 112 ∷ 44 ∷ 116 ∷ 117 ∷ 114 ∷ 110 ∷ 44
    ∷ 115 ∷ 101 ∷ 110 ∷ 100 ∷ 101 ∷ 114 ∷ 115 ∷ 44 ∷ 105 ∷ 110 ∷ 100 ∷ 101 ∷ 120 ∷ 44 ∷ 115 ∷ 101 ∷ 103 ∷ 109 ∷ 101 ∷ 110 ∷ 116 ∷ 44
    ∷ 100 ∷ 101 ∷ 108 ∷ 105 ∷ 118 ∷ 101 ∷ 114 ∷ 101 ∷ 100 ∷ 44 ∷ 72 ∷ 44 ∷ 78 ∷ 44 ∷ 82 ∷ 81 ∷ []

pub header-form : form_of header_form [] ≡ header_of
unfolding form_of left_of header_of record_of
header-form = refl
