-- A row compared with the one that the requests of a table's messages make is compared with the clause's. Assumes nothing.
use mathlib.Core.Path.{◌≡◌, ap, ◌∙◌}
use mathlib.Core.Bool.{Bool, ◌&&◌}
use mathlib.Core.List.{List, map}
use Prim.Native.Nat.{ℕ, suc}
use native.Mathlib.Omega.{arith}
use borrow.Author.Tests.{eqb-true}
use lib.Dec.{eqb}
use lib.ListN.{length, get_or}
use Rattle.listlaws.specs.Every.{every_from}
use Rattle.listlaws.proofs.Tabulating.{tabulate-at}
use Rattle.minislot.specs.declared.Minislot.{Minislot}
use Rattle.requests.specs.Together.{carries, silent, together}
use Rattle.rules.specs.declared.TableMessage.{TableMessage}
use Rattle.rules.specs.declared.WireRow.{WireRow}
use Rattle.channel_rules.specs.Soundness.{asked_requests, same_minislot}
use Rattle.drawing.proofs.Agreeing.{and_same, every-same}
use Rattle.asked_rows.specs.declared.WireRequest.{WireRequest}
use Rattle.asked_rows.specs.Asked.{minislot_of, carried_row, requests_of}
use Rattle.asked_rows.proofs.Rows.{minislot-asked}
use Rattle.sound_wire.specs.Wire.{row_carries}

-- a row of 8 minislots, those that the requests make
abbrev pub row_like : List WireRequest → ℕ → WireRow → Bool
row_like requests g row =
    eqb (length row.minislots) 8 && every_from (λ j slot. same_minislot slot (get_or (carried_row g requests) j silent)) 0 row.minislots

pub row_carries_lem : (l : List TableMessage) (g : ℕ) (row : WireRow) → row_like (requests_of l) g row ≡ row_carries l g row
row_carries_lem l g row =
    and_same (eqb (length row.minislots) 8) _ _
    (λ e.
    every-same (λ (j : ℕ) (slot : Minislot). same_minislot slot (get_or (carried_row g (requests_of l)) j silent)) (λ (j : ℕ) (slot : Minislot). same_minislot slot (together (map carries (asked_requests g (suc j) l)))) 0 row.minislots
    (λ j slot q. ap (same_minislot slot) (tabulate-at 8 (λ j. minislot_of g (suc j) (requests_of l)) j silent (omega (arith, eqb-true (length row.minislots) 8 e)) ∙ minislot-asked g (suc j) l)))
