-- The line that `rehearse` prints of who sends in the coming slots (paper 02, T-07). It begins with the call's number in the list of
-- calls. Bytes are numbers: letters are ASCII. Assumes nothing.
use Rattle.std.specs.Prelude.{List, [], ◌∷◌, map, ℕ}
use Rattle.decimals.specs.Decimal.{digits_of}
use Rattle.decimals.specs.Printing.{record_of}
use Rattle.call_records.specs.Words.{coming_word}
use Rattle.answer_lines.specs.AnswerLines.{refused_word}
use Rattle.coming_rules.specs.declared.ComingAnswer.{ComingAnswer}
use Rattle.coming_rules.specs.declared.ComingAnswer.TheVariants.{Until, Refused}

-- THE LINE OF AN ANSWER to call `k`: `k,coming,slots,entry,entry,..`, the slots until both transmission queues are empty and then whoever
-- sends in each of the coming ones; or `k,refused,number`
unfoldable pub coming_line : ℕ → ComingAnswer → List ℕ → List ℕ
coming_line k (Until slots) list = record_of (digits_of k ∷ coming_word ∷ digits_of slots ∷ map digits_of list)
coming_line k (Refused number) list = record_of (digits_of k ∷ refused_word ∷ digits_of number ∷ [])
