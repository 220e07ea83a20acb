-- What asking for the coming senders leaves, as its definition has it: the list after, and the answer. Assumes nothing.
use Rattle.std.specs.Prelude.{List, ℕ}
use Rattle.coming_rules.specs.declared.ComingAnswer.{ComingAnswer}
use Rattle.coming_rules.specs.Coming.{ComingResult}

abbrev pub leaves_coming : List ℕ → ComingAnswer → ComingResult
leaves_coming list r = record { list = list; answer = r }
