-- What each way of a record comes to, as the definition has it: the first record is the start, a later one goes by its word. Assumes nothing.
use mathlib.Core.Path.{◌≡◌}
use mathlib.Core.List.{List}
use Prim.Native.Nat.{ℕ, ◌≤◌, ◌<◌}
use borrow.Author.Tests.{lt-ltb, le-ltb}
use Rattle.fields.specs.Fields.{parts}
use Rattle.call_records.specs.declared.Kind.{Kind}
use Rattle.call_records.specs.Words.{kind_of}
use Rattle.call_fields.specs.CallFields.{start_in}
use Rattle.rehearsing.specs.declared.Rehearsal.{Rehearsal}
use Rattle.rehearsing.specs.Rehearsing.{start_result, call_by, rehearse_record}

module _ (r : Rehearsal) (bytes : List ℕ) where
  pub first-starts : r.place ≤ 1 → start_result r (start_in (parts bytes)) ≡ rehearse_record r bytes
  unfolding rehearse_record
  first-starts h = rw (le-ltb 1 r.place h)

  pub later-calls : {k : Kind} → 1 < r.place → kind_of bytes ≡ k → call_by r bytes k ≡ rehearse_record r bytes
  unfolding rehearse_record
  later-calls h e = rw (lt-ltb 1 r.place h, e)
