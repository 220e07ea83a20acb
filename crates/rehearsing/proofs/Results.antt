-- What each way of a record comes to, as the definition has it: by what was read of the record, and by the channel's call. Assumes nothing.
use Rattle.std.specs.Prelude.{Option, Some, None}
use mathlib.Core.Path.{◌≡◌, sym, subst, ◌∙◌}
use mathlib.Core.List.{List, [], map}
use Prim.Native.Nat.{ℕ, ◌≤◌}
use native.Mathlib.Omega.{arith}
use lib.ListN.{length, take, length-map}
use lib.Seq.{length-take-le}
use Rattle.number_lists.specs.declared.NumberList.{NumberList}
use Rattle.number_lists.specs.NumberList.{list_of, low_byte}
use Rattle.number_lists.proofs.ListLaws.{list-good}
use Rattle.number_lists.proofs.LowBytes.{low-used}
use Rattle.call_fields.specs.declared.StartFields.{StartFields}
use Rattle.write_fields.specs.declared.WriteFields.{WriteFields}
use Rattle.local_channel.specs.declared.LocalCalled.{LocalCalled}
use Rattle.local_channel.specs.declared.LocalStarted.{LocalStarted}
use Rattle.local_channel.specs.Local.{local_write_of, local_slot_of, local_calendar_of}
use Rattle.programs.specs.Program.{Result, Ends}
use Rattle.programs.specs.Buffering.{Reached}
use Rattle.rehearsing.specs.declared.Rehearsal.{Rehearsal}
use Rattle.rehearsing.specs.Rehearsing.{called_result, started_result, start_of, start_result, write_result, slot_result, bare_result, calendar_result}
use Rattle.rehearsing.specs.Rehearse.{result_by}

-- so many numbers of an array that has them
pub enough : (l : List ℕ) (n : ℕ) → length l ≡ 256 → n ≤ 256 → n ≡ length (take n l)
enough l n e h = sym (length-take-le n l (omega arith))

pub low-room : (ps : List (List ℕ)) (l : NumberList) → list_of 255 ps ≡ Some l → length (map low_byte l.values) ≡ 256
low-room ps l h = length-map l.values low_byte ∙ (list-good 255 ps l h).size

-- what was written for one result was written for an equal one
pub as_result : (r : Rehearsal) (next : ℕ) (buffer : List ℕ) (at : ℕ) {out : List ℕ} {n : Reached Rehearsal} {x y : Result Rehearsal} → x ≡ y
    → (out ≡ (result_by r x next buffer at).buffer) × (n ≡ (result_by r x next buffer at).answer)
    → (out ≡ (result_by r y next buffer at).buffer) × (n ≡ (result_by r y next buffer at).answer)
as_result r next buffer at {out} {n} e w =
    subst (λ (z : Result Rehearsal). (out ≡ (result_by r z next buffer at).buffer) × (n ≡ (result_by r z next buffer at).answer)) e w

module _ (r : Rehearsal) where
  pub write-broken : {fields : Option WriteFields} → fields ≡ None → Ends 19 ≡ write_result r fields
  unfolding write_result
  write-broken e = rw e

  pub write-called : {fields : Option WriteFields} {called : LocalCalled} {w : WriteFields} → fields ≡ Some w
      → called ≡ local_write_of r.channel w.index w.writing → called_result r called ≡ write_result r fields
  unfolding write_result
  write-called e f = rw (e, f)

  pub slot-broken : {picks : Option NumberList} → picks ≡ None → Ends 19 ≡ slot_result r picks
  unfolding slot_result
  slot-broken e = rw e

  -- the picks as bytes are the picks that were read
  pub slot-called : (ps : List (List ℕ)) (l : NumberList) {called : LocalCalled} → list_of 255 ps ≡ Some l
      → called ≡ local_slot_of r.channel (take l.count (map low_byte l.values))
      → called_result r called ≡ slot_result r (list_of 255 ps)
  unfolding slot_result
  slot-called ps l h f =
      let g = list-good 255 ps l h in
      rw (h, f, low-used (omega arith) g, g.used)

  pub bare_called : {called : LocalCalled} → called ≡ local_slot_of r.channel [] → called_result r called ≡ bare_result r
  unfolding bare_result
  bare_called f = rw f

  pub calendar-broken : {fields : Option (List ℕ)} → fields ≡ None → Ends 19 ≡ calendar_result r fields
  unfolding calendar_result
  calendar-broken e = rw e

  pub calendar-called : {fields : Option (List ℕ)} {entries : List ℕ} {called : LocalCalled} → fields ≡ Some entries
      → called ≡ local_calendar_of r.channel entries → called_result r called ≡ calendar_result r fields
  unfolding calendar_result
  calendar-called e f = rw (e, f)

  pub start-broken : {fields : Option StartFields} → fields ≡ None → Ends 19 ≡ start_result r fields
  unfolding start_result
  start-broken e = rw e

  pub start-made : {fields : Option StartFields} {s : StartFields} {started : LocalStarted} → fields ≡ Some s → started ≡ start_of s
      → started_result r started ≡ start_result r fields
  unfolding start_result
  start-made e f = rw (e, f)
