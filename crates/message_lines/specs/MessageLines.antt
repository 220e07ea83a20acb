-- The lines that `show` of `rehearse` prints of a station: its two message records, the short one's first. Assumes nothing.
use Rattle.std.specs.Prelude.{List, [], ◌∷◌, ℕ}
use Rattle.rules.specs.declared.Station.{Station}
use Rattle.condition_lines.specs.ConditionLines.{condition_line}

-- `k,message,index,condition..` of each
unfoldable pub message_lines : ℕ → Station → List (List ℕ)
message_lines k s = condition_line k s.index s.short.condition ∷ condition_line k s.index s.long.condition ∷ []
