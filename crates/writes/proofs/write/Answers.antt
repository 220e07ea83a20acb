-- `write` goes by the writing's number. Assumes nothing.
use mathlib.Core.Path.{◌≡◌, sym, ◌∙◌}
use native.Mathlib.Omega.{arith}
use lib.ListN.{length}
use borrow.Author.Rules.{rules}
use Rattle.writes.specs.Written.{decided_of}
use Rattle.write_numbers.proofs.Numbers.{passed-most, passed-found, passed-known, passed-takes}
use Rattle.writes.proofs.write.Goals as goal

pub write_at-requires : goal.write_at-requires
write_at-requires c =
    let a = c.args in
    let full : length a.stations ≡ 64 = search rules in
    let none = sym c.write_number-number.ensures ∙ c.if-number-ne0.false in
    let most = passed-most a.stations a.n a.wire a.index a.w full none in
    let known = passed-known a.stations a.n a.wire a.index a.w full none c.position_of-k.result c.position_of-k.ensures in
    (omega (arith, most, known), passed-takes a.stations a.n a.wire a.index a.w full none c.position_of-k.result c.position_of-k.ensures)

pub returns : goal.returns
unfolding decided_of
returns c =
    let a = c.args in
    let full : length a.stations ≡ 64 = search rules in
    let none = sym c.write_number-number.ensures ∙ c.if-number-ne0.false in
    let found = passed-found a.stations a.n a.wire a.index a.w full none c.position_of-k.result c.position_of-k.ensures in
    c.write_at.ensures ∙ rw (none, found)
