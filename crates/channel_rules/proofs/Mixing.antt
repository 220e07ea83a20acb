-- The wire, for any way to put senders together that is commutative and associative (the OR of words and of counts is one): what the stations asked in a
-- minislot make together is what the plain channel's messages asking there make. Assumes the laws of `mix`, as parameters.
use mathlib.Core.Path.{◌≡◌, refl, sym, ap, subst, ◌∙◌}
use mathlib.Core.Bool.{Bool, true, false}
use mathlib.Core.List.{List, [], ◌∷◌, map}
use mathlib.Core.Logic.{◌≢◌, by_cases}
use Prim.Native.Nat.{ℕ, zero, suc, ◌≤◌, ◌<◌}
use native.Mathlib.Omega.{arith}
use native.Mathlib.Decide.{dec_lt}
use Rattle.rules.proofs.Census.{gather-of, of_by-of_by}
use Rattle.rules.proofs.AskedRows.{calls, of_by-map}
use Rattle.rules.proofs.Relation.{Same}
use Rattle.rules.proofs.Shared.{Table, gather, records, asked_sender}
use Rattle.rules.proofs.Views.{Sender, request_from, eqb_self, seen}
use Rattle.rules.specs.Calls.{Start}
use Rattle.listlaws.specs.Lists.{keep_if, only_if}
use Rattle.rules.specs.Messages.{Message, of_by, of}
use Rattle.rules.specs.Plain.{Plain}
use borrow.Author.Tests.{eqb-true, ne_eqb, eqb-false}
use lib.Dec.{eqb}

module _ {ℓ} {I : Type ℓ} (blank : I) (mix : I → I → I) where
  abbrev pub blend : (Sender → I) → List Sender → I
  blend carry [] = blank
  blend carry (x ∷ l) = mix (carry x) (blend carry l)

  abbrev over : ℕ → (ℕ → I) → I
  over zero f = blank
  over (suc k) f = mix (f k) (over k f)

  abbrev put : Bool → I → I → I
  put true x a = mix x a
  put false x a = a

  module _ (unit : (a : I) → mix blank a ≡ a) (assoc : (a b c : I) → mix (mix a b) c ≡ mix a (mix b c)) (comm : (a b : I) → mix a b ≡ mix b a) (carry : Sender → I) where
    swap : (a b c : I) → mix a (mix b c) ≡ mix b (mix a c)
    swap a b c = sym (assoc a b c) ∙ ap (λ (z : I). mix z c) (comm a b) ∙ assoc b a c

    over-cong : (K : ℕ) (f g : ℕ → I) → ((k : ℕ) → f k ≡ g k) → over K f ≡ over K g
    over-cong zero f g h = refl
    over-cong (suc k) f g h = rw (h k, over-cong k f g h)

    over-past : (K j : ℕ) (x : I) (f : ℕ → I) → K ≤ j → over K (λ k. put (eqb j k) x (f k)) ≡ over K f
    over-past zero j x f h = refl
    over-past (suc k) j x f h = rw (ne_eqb j k (λ e. omega arith), over-past k j x f (omega arith))

    over-put : (K j : ℕ) (x : I) (f : ℕ → I) → j < K → over K (λ k. put (eqb j k) x (f k)) ≡ mix x (over K f)
    over-put zero j x f h = absurd (omega arith)
    over-put (suc k) j x f h = go (λ l. over-put k j x f l) (eqb j k) refl
      where
        go : (j < k → over k (λ i. put (eqb j i) x (f i)) ≡ mix x (over k f)) → (b : Bool) → eqb j k ≡ b → mix (put b x (f k)) (over k (λ i. put (eqb j i) x (f i))) ≡ mix x (mix (f k) (over k f))
        go ih true e = let w : j ≡ k = eqb-true j k e in rw (over-past k j x f (omega arith)) (assoc x (f k) (over k f))
        go ih false e = let w : j ≢ k = eqb-false j k e in rw (ih (omega arith)) (swap (f k) x (over k f))

    over-blank : (K : ℕ) → over K (λ k. blank) ≡ blank
    over-blank zero = refl
    over-blank (suc K) = unit _ ∙ over-blank K

    blend_keep : (b : Bool) (x : Sender) (l : List Sender) → blend carry (keep_if b x l) ≡ put b (carry x) (blend carry l)
    blend_keep true x l = refl
    blend_keep false x l = refl

    blend-over : (K : ℕ) (a : List Sender) → ((k : ℕ) → K ≤ k → of_by (λ s. s.position) k a ≡ []) → blend carry a ≡ over K (λ k. blend carry (of_by (λ s. s.position) k a))
    blend-over K [] h = sym (over-blank K)
    blend-over K (x ∷ a) h =
        ap (mix (carry x)) (blend-over K a (λ k l. drop-keep_if (eqb x.position k) (of_by (λ s. s.position) k a) (h k l)))
        ∙ sym (over-put K x.position (carry x) (λ k. blend carry (of_by (λ s. s.position) k a)) below)
        ∙ over-cong K _ _ (λ k. sym (blend_keep (eqb x.position k) x (of_by (λ s. s.position) k a)))
      where
        drop-keep_if : (b : Bool) (l : List Sender) → keep_if b x l ≡ [] → l ≡ []
        drop-keep_if true l e = cc
        drop-keep_if false l e = e

        below : x.position < K
        below =
            by_cases (dec_lt x.position K) (λ l. l) (λ l. let z : ◌≡◌ {A = ℕ} 0 1 = cc (h x.position (omega arith), eqb_self x.position) in absurd (omega arith))

    -- two lists with the same entries of every key blend alike
    blend_eq : (K : ℕ) (x : List Sender) (f : ℕ → List Sender) → ((k : ℕ) → K ≤ k → f k ≡ []) → ((k : ℕ) → of_by (λ s. s.position) k x ≡ f k) → blend carry (gather f K) ≡ blend carry x
    blend_eq K x f outside list_all =
        blend-over K (gather f K) (λ k l. list_all' k ∙ outside k l)
        ∙ over-cong K _ _ (λ k. ap (blend carry) (list_all' k ∙ sym (list_all k)))
        ∙ sym (blend-over K x (λ k l. list_all k ∙ outside k l))
      where
        list_all' : (k : ℕ) → of_by (λ s. s.position) k (gather f K) ≡ f k
        list_all' = gather-of (λ s. s.position) f (λ i k. subst (λ (z : List Sender). of_by (λ s. s.position) k z ≡ only_if (eqb i k) z) (list_all i) (of_by-of_by (λ (s : Sender). s.position) i k x)) K outside

    place_of : (k : ℕ) (q : List (List Message)) (i : ℕ) → of_by (λ s. s.position) k (map request_from (seen (λ (l : List Message). l) q i)) ≡ map request_from (seen (of k) q i)
    place_of k [] i = refl
    place_of k (x ∷ q) zero = of_by-map request_from (λ s. s.position) k x
    place_of k (x ∷ q) (suc i) = place_of k q i

    -- each wire minislot is the blend of the messages asking there
    pub wire-blend : (S : Start) (p : Plain) (t : Table) → Same S p t → (g i : ℕ)
        → blend carry (gather (λ k. asked_sender g (suc i) k (t.condition k)) (records S)) ≡ blend carry (map request_from (seen (λ (l : List Message). l) (p.group g).asking i))
    wire-blend S p t R g i =
        blend_eq (records S) (map request_from (seen (λ (l : List Message). l) (p.group g).asking i)) (λ k. asked_sender g (suc i) k (t.condition k)) (λ k w. rw (R.outside k w))
        (λ k. place_of k (p.group g).asking i ∙ ap (map request_from) ((R.agrees k).asking g i) ∙ calls S p g k (R.message k) (t.condition k) (R.agrees k) i)
