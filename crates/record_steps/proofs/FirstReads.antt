-- What a first record's reading leads to: 19 where it is broken, and else what its two numbers lead to.
-- Assumes nothing.
use Rattle.std.specs.Prelude.{Option, Some, None}
use mathlib.Core.Bool.{Bool, true, false, cond}
use mathlib.Core.Path.{◌≡◌, refl, ap, sym, ◌∙◌}
use mathlib.Core.List.{List, [], ◌∷◌}
use Prim.Native.Nat.{ℕ}
use native.Mathlib.Omega.{arith}
use Rattle.fields.specs.Fields.{fields_of}
use Rattle.fields.specs.First.{first_of, first_answer, first_answer_of}
use Rattle.fields.specs.declared.First.{First}
use Rattle.fields.proofs.FirstAnswers.{first-answered}
use Rattle.rules.specs.Starting.{refused_listener, start_number_of, start_of}
use Rattle.rules.proofs.Refusals.{by-ap}
use Rattle.following.specs.declared.Follower.{Follower}
use Rattle.following.specs.RecordNumbers.{is_first, first_number_of}
use Rattle.following.specs.Following.{refused_step}
use Rattle.following.specs.Steps.{started_step, first_step}

-- number and values of the first record
abbrev Answer : Type 0
Answer = ℕ × List ℕ

module _ (f : Follower) (bytes : List ℕ) (first : Option First) (read : first ≡ first_of bytes) where
  answered : first_answer first ≡ cond (is_first bytes) (0, fields_of bytes) (19, [])
  unfolding first_answer_of
  answered = (first-answered bytes first read).1

  pub first-broken : first ≡ None → refused_step f 19 ≡ first_step f bytes
  unfolding first_step first_number_of
  first-broken b = go (is_first bytes) refl (ap first_answer (sym b) ∙ answered)
    where
      go : (t : Bool) → is_first bytes ≡ t → ◌≡◌ {A = Answer} (19, []) (cond t (0, fields_of bytes) (19, [])) → refused_step f 19 ≡ first_step f bytes
      go true e z = absurd (omega (arith, ap (λ (p : Answer). p.0) z))
      go false e z = rw e

  pub first-numbers : (x : First) → first ≡ Some x → started_step f (start_of x.m x.n) ≡ first_step f bytes
  unfolding start_of first_step first_number_of
  first-numbers x b = go (is_first bytes) refl (ap first_answer (sym b) ∙ answered)
    where
      go : (t : Bool) → is_first bytes ≡ t → ◌≡◌ {A = Answer} (0, x.m ∷ x.n ∷ []) (cond t (0, fields_of bytes) (19, []))
          → started_step f (start_of x.m x.n) ≡ first_step f bytes
      go true e z =
          let l : x.m ∷ x.n ∷ [] ≡ fields_of bytes = ap (λ (p : Answer). p.1) z in
          rw (e, ← l) (by-ap (started_step f) (start_number_of x.m x.n) refused_listener _)
      go false e z = absurd (omega (arith, ap (λ (p : Answer). p.0) z))
