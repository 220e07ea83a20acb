-- `follow` as a program that reads records and prints lines (paper 01, "`follow`": "records have at most 128 bytes before CR LF"; "The
-- header comes first"). What is printed for a recording is then `printed_of follow_program`. Assumes nothing.
use Rattle.std.specs.Prelude.{[], ◌∷◌}
use Rattle.lines.specs.Lines.{line_of, header_of}
use Rattle.programs.specs.Program.{Result, Goes, Ends, Program}
use Rattle.following.specs.declared.Follower.{Follower}
use Rattle.following.specs.declared.Step.{Step}
use Rattle.following.specs.declared.Line.{Line}
use Rattle.following.specs.declared.Line.TheVariants.{Nothing, Row, Refusal}
use Rattle.following.specs.Following.{at_begin, follow_record}

-- what a record leads to, by its line and by what is known after it: a refusal's number ends the output
abbrev pub result_by : Follower → Line → Result Follower
result_by f Nothing = Goes f []
result_by f (Row slot group letter urgent long resolution) = Goes f (line_of slot group letter urgent long resolution ∷ [])
result_by f (Refusal number place) = Ends number

abbrev pub result_of : Step → Result Follower
result_of s = result_by s.follower s.line

-- THE PROGRAM: no line has more than 128 bytes
abbrev pub follow_program : Program Follower
follow_program =
    record {
      longest = 128;
      room = 128;
      header = header_of;
      begin = at_begin;
      place = λ f. f.place;
      step = λ f bytes. result_of (follow_record f bytes);
    }
