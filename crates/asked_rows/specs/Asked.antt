-- The requests of a table's messages, and the row that one group's make. Assumes nothing.
use Rattle.std.specs.Prelude.{◌&&◌, List, [], ◌∷◌, map, ℕ, suc, eqb}
use Rattle.std.specs.List.{flat_map}
use Rattle.listlaws.specs.Lists.{only_if, tabulate}
use Rattle.minislot.specs.declared.Minislot.{Minislot}
use Rattle.requests.specs.Together.{Request, carries, together}
use Rattle.rules.specs.declared.TableMessage.{TableMessage}
use Rattle.rules.specs.declared.Condition.{Condition}
use Rattle.rules.specs.declared.Condition.TheVariants.{Free, Held, Fresh, Asked, Resolving, Urgent, Long}
use Rattle.asked_rows.specs.declared.WireRequest.{WireRequest}

-- ---- requests, each with its group and minislot

-- the request of a condition, for a station's index
abbrev pub request_of : ℕ → Condition → List WireRequest
request_of index Free = []
request_of index (Held t) = []
request_of index (Fresh t) = []
request_of index (Asked g j t) = record { group = g; minislot = j; index = index; total = t } ∷ []
request_of index (Resolving g i t) = []
request_of index (Urgent i) = []
request_of index (Long f l t) = []

abbrev pub requests_of : List TableMessage → List WireRequest
requests_of messages = flat_map (λ (m : TableMessage). request_of m.index m.condition) messages

-- ---- one group's row

-- the request, if it is of minislot j of group g
abbrev pub request_at : ℕ → ℕ → WireRequest → List Request
request_at g j a = only_if (eqb a.group g && eqb a.minislot j) (record { index = a.index; total = a.total } ∷ [])

unfoldable pub minislot_of : ℕ → ℕ → List WireRequest → Minislot
minislot_of g j requests = together (map carries (flat_map (request_at g j) requests))

abbrev pub carried_row : ℕ → List WireRequest → List Minislot
carried_row g requests = tabulate 8 (λ j. minislot_of g (suc j) requests)
