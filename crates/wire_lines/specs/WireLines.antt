-- The lines that `show` of `rehearse` prints of a channel's wire: each group's row. A line begins with the call's number in the list.
-- Bytes are numbers: letters are ASCII. Assumes nothing.
use Rattle.std.specs.Prelude.{List, [], ◌∷◌, map, ℕ, ◌+◌, ◌-◌, get_or, take}
use Rattle.std.specs.List.{flat_map}
use Rattle.listlaws.specs.Lists.{tabulate}
use Rattle.decimals.specs.Decimal.{digits_of}
use Rattle.decimals.specs.Printing.{record_of}
use Rattle.minislot.specs.declared.Minislot.{Minislot}
use Rattle.rules.specs.declared.WireRow.{WireRow}
use Rattle.channel_rules.specs.ChannelCalls.{blank_row}

-- `wire`
abbrev pub wire_word : List ℕ
wire_word = 119 ∷ 105 ∷ 114 ∷ 101 ∷ []

-- word and count of each minislot
abbrev pub cells : List Minislot → List ℕ
cells row = flat_map (λ (x : Minislot). x.word ∷ x.count ∷ []) row

-- `k,wire,g,word,count,word,count,..` of the first m minislots of group g's row
unfoldable pub wire_line : ℕ → ℕ → List WireRow → ℕ → List ℕ
wire_line k m wire g =
    record_of (digits_of k ∷ wire_word ∷ digits_of g ∷ map digits_of (cells (take m (get_or wire (g - 1) blank_row).minislots)))

-- a line for each of the groups 1 to n
abbrev pub groups_lines : ℕ → (ℕ → List ℕ) → List (List ℕ)
groups_lines n line = tabulate n (λ (i : ℕ). line (i + 1))
