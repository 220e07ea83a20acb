-- The row of one group's requests: none, one request more, and what its minislots are for the messages of a table. Assumes nothing.
use mathlib.Core.Path.{◌≡◌, refl, sym, ap, ◌∙◌}
use mathlib.Core.Bool.{Bool, true, false, ◌&&◌, cond}
use mathlib.Core.List.{List, [], ◌∷◌, ◌++◌, append-nil, map, map-append}
use mathlib.Core.Logic.{◌≢◌}
use Prim.Native.Nat.{ℕ, zero, suc, ◌+◌, ◌<◌}
use native.Mathlib.Numerals.{add-one}
use native.Mathlib.Omega.{arith}
use lib.Dec.{eqb, eqb-zero-suc}
use lib.ListN.{length, get_or, take, replicate}
use lib.Seq.{take-suc}
use borrow.Author.Tests.{eq-eqb, ne_eqb}
use Rattle.std.specs.List.{flat_map}
use Rattle.listlaws.specs.Lists.{only_if}
use Rattle.listlaws.proofs.Joining.{gather_append, gather-last}
use Rattle.listlaws.proofs.Tabulating.{tabulate-at, tabulate-cong, tabulate-set}
use Rattle.minislot.specs.declared.Minislot.{Minislot}
use Rattle.requests.specs.Together.{Request, carries, silent, joined, together, placed}
use Rattle.requests.proofs.Senders.{joined_comm, joined-silent, together-append}
use Rattle.rules.specs.declared.Condition.{Condition}
use Rattle.rules.specs.declared.Condition.TheVariants.{Free, Held, Fresh, Asked, Resolving, Urgent, Long}
use Rattle.rules.specs.declared.TableMessage.{TableMessage}
use Rattle.channel_rules.specs.Soundness.{asked_request, asked_requests}
use Rattle.asked_rows.specs.declared.WireRequest.{WireRequest}
use Rattle.asked_rows.specs.Asked.{request_at, request_of, minislot_of, carried_row, requests_of}

joined-none : (a : Minislot) → joined a silent ≡ a
joined-none a = joined_comm a silent ∙ joined-silent a

alone : (b : Bool) (r : Request) → together (map carries (only_if b (r ∷ []))) ≡ cond b (carries r) silent
unfolding together
alone true r = joined-none (carries r)
alone false r = refl

pub row-none : (g : ℕ) → replicate 8 silent ≡ carried_row g []
unfolding minislot_of together
row-none g = refl

-- what a read past the end of a list of requests would give
abbrev pub no_request : WireRequest
no_request = record { group = 0; minislot = 0; index = 0; total = 0 }

-- ---- one request more

-- what a request carries
abbrev pub sent : WireRequest → Minislot
sent a = carries (record { index = a.index; total = a.total })

minislot-more : (g j : ℕ) (l : List WireRequest) (a : WireRequest)
    → minislot_of g j (l ++ (a ∷ [])) ≡ joined (minislot_of g j l) (cond (eqb a.group g && eqb a.minislot j) (sent a) silent)
unfolding minislot_of
minislot-more g j l a =
    ap (λ (r : List Request). together (map carries r)) (gather-last (request_at g j) l a)
    ∙ ap together (map-append carries (flat_map (request_at g j) l) (request_at g j a))
    ∙ together-append (map carries (flat_map (request_at g j) l)) (map carries (request_at g j a))
    ∙ ap (joined (together (map carries (flat_map (request_at g j) l)))) (alone (eqb a.group g && eqb a.minislot j) (record { index = a.index; total = a.total }))

module _ (g : ℕ) (l : List WireRequest) (a : WireRequest) where
  abbrev before : ℕ → Minislot
  before j = minislot_of g (suc j) l

  abbrev after : ℕ → Minislot
  after j = minislot_of g (suc j) (l ++ (a ∷ []))

  -- of another group
  other_row : eqb a.group g ≡ false → carried_row g l ≡ carried_row g (l ++ (a ∷ []))
  other_row e = tabulate-cong 8 before after (λ j h. sym (minislot-more g (suc j) l a ∙ rw e (joined-none (before j))))

  -- of this group: it joins its minislot
  same_row : eqb a.group g ≡ true → (n : ℕ) → a.minislot ≡ n → placed n (sent a) (carried_row g l) ≡ carried_row g (l ++ (a ∷ []))
  same_row e zero m =
      tabulate-cong 8 before after (λ j h. sym (minislot-more g (suc j) l a ∙ rw (e, m, eqb-zero-suc j) (joined-none (before j))))
  same_row e (suc n) m =
      tabulate-set 8 before after n (joined (get_or (carried_row g l) n silent) (sent a))
      (λ h. ap (λ (x : Minislot). joined x (sent a)) (tabulate-at 8 before n silent h) ∙ sym (minislot-more g (suc n) l a ∙ rw (e, m, eq-eqb (suc n) (suc n) refl)))
      (λ i d. sym (minislot-more g (suc i) l a ∙ rw (e, m, ne_eqb (suc n) (suc i) (λ z. d (omega arith))) (joined-none (before i))))

module _ (g : ℕ) (l : List WireRequest) (i : ℕ) (d : WireRequest) (h : i < length l) where
  pub row_same : (get_or l i d).group ≢ g → carried_row g (take i l) ≡ carried_row g (take (i + 1) l)
  row_same e = rw (add-one, take-suc l i d h) (other_row g (take i l) (get_or l i d) (ne_eqb _ g e))

  pub row_more : (get_or l i d).group ≡ g → placed (get_or l i d).minislot (sent (get_or l i d)) (carried_row g (take i l)) ≡ carried_row g (take (i + 1) l)
  row_more e = rw (add-one, take-suc l i d h) (same_row g (take i l) (get_or l i d) (eq-eqb _ g e) (get_or l i d).minislot refl)

-- ---- the row of a table's messages

request-asked : (g j index : ℕ) (k : Condition) → flat_map (request_at g j) (request_of index k) ≡ asked_request g j index k
request-asked g j index Free = refl
request-asked g j index (Held t) = refl
request-asked g j index (Fresh t) = refl
request-asked g j index (Asked h i t) = append-nil (only_if (eqb h g && eqb i j) (record { index = index; total = t } ∷ []))
request-asked g j index (Resolving h i t) = refl
request-asked g j index (Urgent i) = refl
request-asked g j index (Long f l t) = refl

pub requests-asked : (g j : ℕ) (l : List TableMessage) → flat_map (request_at g j) (requests_of l) ≡ asked_requests g j l
requests-asked g j [] = refl
requests-asked g j (m ∷ l) =
    gather_append (request_at g j) (request_of m.index m.condition) (requests_of l) ∙ rw (request-asked g j m.index m.condition, requests-asked g j l)

pub minislot-asked : (g j : ℕ) (l : List TableMessage) → minislot_of g j (requests_of l) ≡ together (map carries (asked_requests g j l))
unfolding minislot_of
minislot-asked g j l = ap (λ (r : List Request). together (map carries r)) (requests-asked g j l)
