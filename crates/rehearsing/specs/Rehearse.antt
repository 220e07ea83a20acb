-- `rehearse` as a program that reads records and prints lines, and what is answered of a record whose lines are put into a buffer.
-- Assumes nothing.
use Rattle.std.specs.Prelude.{List, ℕ}
use Rattle.answer_lines.specs.AnswerLines.{header_of}
use Rattle.programs.specs.Program.{Result, Program}
use Rattle.programs.specs.Advancing.{Advance, step_advance}
use Rattle.programs.specs.Buffering.{Reached, Buffered, put_lines, reached}
use Rattle.rehearsing.specs.declared.Rehearsal.{Rehearsal}
use Rattle.rehearsing.specs.declared.Next.{Next}
use Rattle.rehearsing.specs.Rehearsing.{at_start, rehearse_record}

-- records of 512 bytes at most; the lines of a record take no more than 24,576 bytes
abbrev pub rehearse_program : Program Rehearsal
rehearse_program =
    record {
      longest = 512;
      room = 24576;
      header = header_of;
      begin = at_start;
      place = λ (r : Rehearsal). r.place;
      step = rehearse_record;
    }

-- what was reached, as a program reaches it
abbrev pub reached_by : Next → Reached Rehearsal
reached_by n = record { progress = n.progress; state = n.rehearsal; next = n.next; at = n.at }

-- an advance's lines put into a buffer from place `at` on
abbrev pub written_by : Advance Rehearsal → List ℕ → ℕ → Buffered Rehearsal
written_by a buffer at = record { buffer = put_lines buffer at a.lines; answer = reached a buffer at }

-- what a record leads to, put into a buffer; the next record begins at place `next`
abbrev pub result_by : Rehearsal → Result Rehearsal → ℕ → List ℕ → ℕ → Buffered Rehearsal
result_by r result next buffer at = written_by (step_advance rehearse_program r result next) buffer at
