-- One slot that goes through, for one message record: what it shows before is kept by the station rules and the plain channel. Assumes nothing.
use mathlib.Core.Path.{◌≡◌, refl, sym, ap, ◌∙◌}
use mathlib.Core.Bool.{Bool, true, false, cond}
use mathlib.Core.List.{List, [], ◌++◌, map, append_assoc}
use Prim.Native.Nat.{ℕ, zero, ◌≤◌}
use lib.ListN.{length}
use Rattle.rules.proofs.Newcomers.{of_by-append}
use Rattle.rules.proofs.SettleViews.{settle_ok, settle-asked, settle-fresh, settle-held, settle-asked-far, settle_res_far}
use Rattle.rules.proofs.Records.{holder}
use Rattle.rules.proofs.AskViews.{Asks, held_in, asks_ok}
use Rattle.rules.proofs.FallViews.{Left, Falls, falls_ok}
use Rattle.rules.proofs.ServeViews.{asks_view, falls_view, asks-fits, falls-fits, serve-told}
use Rattle.minislot.specs.declared.Feedback.{Feedback}
use Rattle.rules.proofs.Clauses.{read, settle, asks, falls, heeded}
use Rattle.rules.proofs.Relation.{lengths, Shows, Agrees, Fits, remaining, whole, held_of, fresh_of, asked_of, resolving_of, urgent_of, long_of}
use Rattle.rules.proofs.Views.{seen}
use Rattle.rules.specs.Calls.{Start}
use Rattle.rules.proofs.Shared.{index_of}
use Rattle.rules.specs.Messages.{Message, Segment, of, delivered_of, record_of}
use Rattle.rules.specs.Plain.{Queues, Plain, queues_of, plain_success, plain_settled, plain_owner, renewed, plain_went, served}
use Rattle.rules.specs.StationLimits.{Condition, Free, Held, Fresh, Asked, Resolving, Urgent, Long}
use Rattle.rules.specs.declared.Places.{Places}
use borrow.Author.Tests.{eqb-true, ne_eqb, eqb-false}
use lib.Dec.{eqb}

fits-left : (S : Start) (m : Message) (c : Condition) → Fits S m c → Left c
fits-left S m Free f = tt
fits-left S m (Held t) f = tt
fits-left S m (Fresh t) f = tt
fits-left S m (Asked g j t) f = tt
fits-left S m (Resolving g i t) f = tt
fits-left S m (Urgent i) f = tt
fits-left S m (Long x l t) f = f.3

-- the record's condition after step 1 and after the slot, from the row, the counters and the slot's owner in the plain channel
abbrev pub first : Start → Plain → Condition → Condition
first S p c = settle (plain_success (p.group p.next)) p.next (map (read (index_of S)) (p.group p.next).asking) (lengths (queues_of p (p.group p.next))) c

abbrev pub later : (ℕ → ℕ) → Plain → ℕ → Queues → Condition → Condition
later pick p k q c =
    falls (heeded (plain_owner p) (length q.urgent)) (heeded (plain_owner p) (length q.long))
    (asks (held_in p.fresh k) (length q.resolution) p.next (pick (holder k)) c)

module _ (S : Start) (pick : ℕ → ℕ) (p : Plain) (k : ℕ) (m : Message) (gl : 1 ≤ p.next) (gh : p.next ≤ S.n) (jl : 1 ≤ pick (holder k)) (jh : pick (holder k) ≤ S.m) where
  pub first_ok : (c : Condition) → Agrees S p k m c → Shows S p.next k m (whole (of k p.taken)) (plain_settled p) (first S p c)
  first_ok c a =
      settle_ok S p.next k m (whole (of k p.taken)) a.some (plain_success (p.group p.next)) (index_of S) (p.group p.next).asking (queues_of p (p.group p.next)) c (a.asking p.next)
      (record { urgent = a.urgent; long = a.long; resolution = a.resolution p.next; owed = a.owed; fits = a.fits })

  module _ (c : Condition) (a : Agrees S p k m c) where
    slot_ok : (q : Queues) (c₁ : Condition) → Shows S p.next k m (whole (of k p.taken)) q c₁ → held_of m c₁ ≡ held_of m c → of k p.fresh ≡ fresh_of m c₁ → ((i : ℕ) → asked_of p.next m c₁ i ≡ [])
        → ((g : ℕ) → eqb g p.next ≡ false → (i : ℕ) → asked_of g m c₁ i ≡ asked_of g m c i)
        → ((g : ℕ) → eqb g p.next ≡ false → (i : ℕ) → resolving_of g m c₁ i ≡ resolving_of g m c i)
        → Agrees S (plain_went S pick p q) k m (later pick p k q c₁)
    slot_ok q c₁ s d f n fa fr =
        record {
          mine = a.mine;
          some = a.some;
          few = a.few;
          held =
              a.held ∙ sym d
              ∙ sym (asks_view p.next (pick (holder k)) (held_of m) (λ t. refl) (λ h t e. refl) (λ h x t e. refl) (held_in p.fresh k) (length q.resolution) c₁)
              ∙ sym (falls_view (held_of m) (λ i. refl) (λ x l t. refl) h₂ n₂ c₂);
          fresh = A.fresh ∙ sym (falls_view (fresh_of m) (λ i. refl) (λ x l t. refl) h₂ n₂ c₂);
          urgent = F.urgent;
          long = F.long;
          asking = λ g i. at-asked g i (eqb g p.next) refl;
          resolution = λ g i. at_res g i (eqb g p.next) refl;
          owed =
              ap (λ (z : List Segment). z ++ remaining m (later pick p k q c₁)) (of_by-append (λ (z : Segment). record_of z.message) k q.history (served (plain_owner p) q.urgent q.long))
              ∙ append_assoc (delivered_of k q.history) (delivered_of k (served (plain_owner p) q.urgent q.long)) (remaining m (later pick p k q c₁))
              ∙ ap (λ (z : List Segment). delivered_of k q.history ++ z)
              (serve-told k m S (plain_owner p) q.urgent q.long c₂ fit (s.urgent zero ∙ sym (u₂ zero)) (s.long zero ∙ sym (l₂ zero))
              ∙ asks_view p.next (pick (holder k)) (remaining m) (λ t. refl) (λ h t e. refl) (λ h x t e. refl) (held_in p.fresh k) (length q.resolution) c₁)
              ∙ s.owed;
          fits = falls-fits S m h₂ n₂ c₂ fit;
        }
      where
        A : Asks S.m pick p.next k m q.resolution p.fresh (asks (held_in p.fresh k) (length q.resolution) p.next (pick (holder k)) c₁)
        A = asks_ok S.m pick p.next k m jl jh (held_in p.fresh k) q.resolution p.fresh c₁ refl f s.resolution n

        -- H and N as this slot's data heeds them
        h₂ : ℕ
        h₂ = heeded (plain_owner p) (length q.urgent)

        n₂ : ℕ
        n₂ = heeded (plain_owner p) (length q.long)

        c₂ : Condition
        c₂ = asks (held_in p.fresh k) (length q.resolution) p.next (pick (holder k)) c₁

        far : (g : ℕ) → eqb g p.next ≡ false → eqb p.next g ≡ false
        far g e = ne_eqb p.next g (λ y. eqb-false g p.next e (sym y))

        fit : Fits S m (asks (held_in p.fresh k) (length q.resolution) p.next (pick (holder k)) c₁)
        fit = asks-fits S p.next (pick (holder k)) m gl gh jl jh (held_in p.fresh k) (length q.resolution) c₁ s.fits

        u₂ : (i : ℕ) → urgent_of m (asks (held_in p.fresh k) (length q.resolution) p.next (pick (holder k)) c₁) i ≡ urgent_of m c₁ i
        u₂ i = asks_view p.next (pick (holder k)) (λ (c : Condition). urgent_of m c i) (λ t. refl) (λ h t e. refl) (λ h x t e. refl) (held_in p.fresh k) (length q.resolution) c₁

        l₂ : (i : ℕ) → long_of m (asks (held_in p.fresh k) (length q.resolution) p.next (pick (holder k)) c₁) i ≡ long_of m c₁ i
        l₂ i = asks_view p.next (pick (holder k)) (λ (c : Condition). long_of m c i) (λ t. refl) (λ h t e. refl) (λ h x t e. refl) (held_in p.fresh k) (length q.resolution) c₁

        F : Falls k m (plain_owner p) q.urgent q.long (later pick p k q c₁)
        F =
            falls_ok k m (plain_owner p) q.urgent q.long (asks (held_in p.fresh k) (length q.resolution) p.next (pick (holder k)) c₁) (fits-left S m (asks (held_in p.fresh k) (length q.resolution) p.next (pick (holder k)) c₁) fit)
            (λ i. s.urgent i ∙ sym (u₂ i))
            (λ i. s.long i ∙ sym (l₂ i))

        at-asked : (g i : ℕ) (b : Bool) → eqb g p.next ≡ b → seen (of k) (cond b (renewed S pick p q) (p.group g)).asking i ≡ asked_of g m (later pick p k q c₁) i
        at-asked g i true e =
            rw (eqb-true g p.next e) (A.asking i ∙ sym (falls_view (λ (c : Condition). asked_of p.next m c i) (λ x. refl) (λ x l t. refl) h₂ n₂ c₂))
        at-asked g i false e =
            a.asking g i ∙ sym (fa g e i)
            ∙ sym (asks_view p.next (pick (holder k)) (λ (c : Condition). asked_of g m c i) (λ t. rw (far g e)) (λ h t w. rw (far g e)) (λ h x t w. refl) (held_in p.fresh k) (length q.resolution) c₁)
            ∙ sym (falls_view (λ (c : Condition). asked_of g m c i) (λ x. refl) (λ x l t. refl) h₂ n₂ c₂)

        at_res : (g i : ℕ) (b : Bool) → eqb g p.next ≡ b → seen (of k) (cond b (renewed S pick p q) (p.group g)).resolution i ≡ resolving_of g m (later pick p k q c₁) i
        at_res g i true e =
            rw (eqb-true g p.next e) (A.resolution i ∙ sym (falls_view (λ (c : Condition). resolving_of p.next m c i) (λ x. refl) (λ x l t. refl) h₂ n₂ c₂))
        at_res g i false e =
            a.resolution g i ∙ sym (fr g e i)
            ∙ sym (asks_view p.next (pick (holder k)) (λ (c : Condition). resolving_of g m c i) (λ t. refl) (λ h t w. rw (eqb-true h p.next w, far g e)) (λ h x t w. rw (eqb-true h p.next w, far g e)) (held_in p.fresh k) (length q.resolution) c₁)
            ∙ sym (falls_view (λ (c : Condition). resolving_of g m c i) (λ x. refl) (λ x l t. refl) h₂ n₂ c₂)

    -- one slot, this record
    pub station_ok : Agrees S (plain_went S pick p (plain_settled p)) k m (later pick p k (plain_settled p) (first S p c))
    station_ok =
        slot_ok (plain_settled p) (first S p c) (first_ok c a) (settle-held b₀ p.next row₀ n₀ m c) (a.fresh ∙ sym (settle-fresh b₀ p.next row₀ n₀ m c)) (settle-asked b₀ p.next row₀ n₀ m c)
        (λ g e. settle-asked-far b₀ p.next row₀ n₀ m g e c)
        (λ g e. settle_res_far b₀ p.next row₀ n₀ m g e c)
      where
        b₀ : Bool
        b₀ = plain_success (p.group p.next)

        row₀ : List Feedback
        row₀ = map (read (index_of S)) (p.group p.next).asking

        n₀ : Places
        n₀ = lengths (queues_of p (p.group p.next))
