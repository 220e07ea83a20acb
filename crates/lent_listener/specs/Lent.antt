-- What listening with the record lent leaves. Assumes nothing.
use Rattle.rules.specs.declared.Counters.{Counters}
use Rattle.rules.specs.declared.Listened.{Listened}
use Rattle.rules.specs.declared.ListenAnswer.{ListenAnswer}

-- the answer, and the lent record after
abbrev pub leaves : ListenAnswer → Counters → Listened
leaves answer after = record { answer = answer; counters = after }
