-- A wire of 8 rows of 8 minislots, each the OR over the messages asked there. Assumes nothing.
use Rattle.std.specs.Prelude.{Bool, ◌&&◌, List, map, ℕ, suc, eqb, length}
use Rattle.listlaws.specs.Every.{every_from}
use Rattle.requests.specs.Together.{carries, together}
use Rattle.rules.specs.declared.TableMessage.{TableMessage}
use Rattle.rules.specs.declared.WireRow.{WireRow}
use Rattle.channel_rules.specs.Soundness.{asked_requests, same_minislot}

abbrev pub row_carries : List TableMessage → ℕ → WireRow → Bool
row_carries messages g row =
    eqb (length row.minislots) 8
    && every_from (λ i slot. same_minislot slot (together (map carries (asked_requests g (suc i) messages)))) 0 row.minislots

unfoldable pub wire_carries : List TableMessage → List WireRow → Bool
wire_carries messages wire = eqb (length wire) 8 && every_from (λ i row. row_carries messages (suc i) row) 0 wire
