-- `write_bytes` meets its contract: a copy into the part of the buffer is one run of stores. Assumes nothing.
use mathlib.Core.Path.{refl, sym, ◌∙◌}
use mathlib.Core.List.{append_assoc}
use Prim.Native.Nat.{◌+◌, ◌-◌}
use native.Mathlib.Omega.{arith}
use lib.ListN.{length, take, drop}
use lib.Seq.{sets-eq}
use Rattle.std.proofs.lemmas.List.Edits.{paste_all}
use Rattle.std.proofs.lemmas.Slice.{put_mid-paste}
use Rattle.decimals.proofs.write_bytes.Goals as goal

pub returns-clause-buffer : goal.returns-clause-buffer
returns-clause-buffer c =
    let a = c.args in
    let n = length a.bytes.now in
    put_mid-paste a.at (a.at + n - a.at) a.out.now _ a.bytes.now n c.copy_from_slice.ensures.after (omega arith) refl
    ∙ paste_all a.out.now a.at a.bytes.now n refl
    ∙ sym (append_assoc (take a.at a.out.now) a.bytes.now (drop (a.at + n) a.out.now))
    ∙ sym (sets-eq a.bytes.now a.out.now a.at (omega arith))
