-- `put_header` meets its contract: the header's bytes are those of `header_of`, and they are copied where they fit.
-- Assumes nothing.
use mathlib.Core.Path.{◌≡◌, sym, ◌∙◌}
use Prim.Native.Nat.{◌+◌}
use lib.ListN.{length}
use lib.Seq.{sets}
use borrow.Author.Tests.{leb-true}
use Rattle.decimals.specs.Printing.{record_of}
use Rattle.lines.specs.Lines.{header_of}
use Rattle.decimals.proofs.Stores.{put-fits, put-none}
use Rattle.follow_header.proofs.put_header.Goals as goal

pub write_bytes-requires : goal.write_bytes-requires
write_bytes-requires c =
    let a = c.args in
    leb-true (a.at + 24) (length a.out.now) (sym c.has_room.ensures ∙ c.if-has_room.true)

pub returns-then-has_room : goal.returns-then-has_room
unfolding header_of record_of
returns-then-has_room c =
    let a = c.args in
    let e : c.write_bytes.new.out ≡ sets a.out.now a.at header_of = c.write_bytes.ensures.buffer in
    let p = put-fits _ a.at header_of (sym c.has_room.ensures ∙ c.if-has_room.true) in record {
      buffer = e ∙ p.0;
      reached = c.write_bytes.ensures.reached ∙ p.1;
    }

pub returns : goal.returns
unfolding header_of record_of
returns c =
    let all_told = put-none _ c.args.at header_of (sym c.has_room.ensures ∙ c.if-has_room.false) in
    record { buffer = all_told.0; reached = all_told.1 }
