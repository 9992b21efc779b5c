-- What is derived of all that a check asks about is derived of what has each term that the proof's text assumes: so of the core, and of the assumptions that it rests on.
use Rattle.std.proofs.Common.{◌≡◌, ℕ, zero, suc, ◌+◌, ◌<◌, Bool, true, false, cond, not, ◌&&◌, List, [], ◌∷◌, ◌++◌, length, get_or, Some, Contains, inl, inr, refl, sym, ap, ◌∙◌, subst, arith}
use Rattle.std.specs.List.{slice_get}
use Rattle.std.proofs.lemmas.Bool.{false≢true}
use Rattle.std.proofs.lemmas.Option.{slice_get-get_or}
use Rattle.std.proofs.lemmas.List.Elements.{Contains-append_left, Contains-append_right, Contains-append_cases}
use Rattle.spec_text.specs.Bytes.{Name}
use Rattle.spec_text.proofs.Members.{first, later, cases}
use Rattle.spec_sorts.specs.Terms.{Term}
use Rattle.spec_sorts.specs.Subterms.{has_term}
use Rattle.spec_commands.specs.Labels.{label_of}
use Rattle.spec_commands.specs.Stack.{Assertion, signature_of, assertions_of, terms_asserted}
use Rattle.spec_commands.specs.Checks.{Check, asked}
use Rattle.spec_checking.specs.Commands.{known_at}
use Rattle.spec_checking.specs.Assumes.{assumed_in}
use Rattle.spec_derivations.specs.Derivations.{Inference, «assumption», by_rule, no_inference, inference_at, DependsOn, AssumesAmong, IsDerivedFrom}
use Rattle.spec_proof_texts.specs.Plans.{terms_planned}
use Rattle.spec_proof_texts.specs.ReadBack.{AreScriptNames}
use Rattle.spec_proof_texts.proofs.Numbers.{planned_there}
use Rattle.spec_proof_texts.proofs.Assumed.{assumes_planned}
use Rattle.spec_sessions.specs.Refutations.{IsProofOf}
use Rattle.spec_sessions.specs.Cores.{literals_from, core_of, assumptions_of, stays, without_others, asked_by_core, asked_by_assumptions}
use Rattle.spec_sessions.proofs.Cored.{core_has, assumptions_have}

-- no number is marked beyond the marks
marked_below : (marks : List Bool) (k : ℕ) → get_or marks k false ≡ true → k < length marks
marked_below [] k e = absurd (false≢true e)
marked_below (m ∷ ms) zero e = omega arith
marked_below (m ∷ ms) (suc k) e = let lt = marked_below ms k e in omega arith

module _ (x : Check) (names : AreScriptNames (signature_of x.stack)) (p : List ℕ) (h : IsProofOf x p) where
  -- what the text assumes is what is planned
  assumed_is : assumed_in (known_at x) p ≡ terms_planned h.derivation h.plan.inferences
  assumed_is = ap (assumed_in (known_at x)) h.written ∙ assumes_planned (signature_of x.stack) h.terms (terms_asserted (asked x)) h.derivation h.number h.plan names h.printable h.over h.right h.derived h.planned

  -- each assumption on which the empty clause depends
  assumed_there : (m : ℕ) (t : Term) → DependsOn h.derivation h.number m → inference_at h.derivation m ≡ «assumption» t → Contains (assumed_in (known_at x) p) t
  assumed_there m t r e =
      let q = h.planned in
      let marked = q.is_support.each m r in
      let within : m < length h.derivation = omega (arith, marked_below q.support m marked, q.is_support.up_to, h.derived.there) in
      let at : slice_get h.derivation m ≡ Some («assumption» t) = slice_get-get_or h.derivation m no_inference within ∙ ap Some e in
      subst (λ ts. Contains ts t) (sym (assumed_is ∙ ap (terms_planned h.derivation) q.inferences)) (planned_there 1 1 q.support h.derivation m t marked at)

  -- what has each of them suffices
  suffices : (some : List Assertion) → ((t : Term) → Contains (assumed_in (known_at x) p) t → Contains (terms_asserted (asked x)) t → Contains (terms_asserted some) t) → IsDerivedFrom (terms_asserted some) h.derivation h.number
  suffices some has = record { there = h.derived.there; assumptions = λ m r. go m r (inference_at h.derivation m) refl (h.derived.assumptions m r) }
    where
      go : (m : ℕ) → DependsOn h.derivation h.number m → (y : Inference) → inference_at h.derivation m ≡ y → AssumesAmong (terms_asserted (asked x)) y → AssumesAmong (terms_asserted some) y
      go m r («assumption» t) e among = has t (assumed_there m t r e) among
      go m r (by_rule rule premises arguments c) e among = tt

  pub core_suffices : IsDerivedFrom (terms_asserted (asked_by_core x p)) h.derivation h.number
  core_suffices = suffices (asked_by_core x p) (core_has (assumed_in (known_at x) p) (assertions_of x.stack) x.assumptions)

  pub assumptions_suffice : IsDerivedFrom (terms_asserted (asked_by_assumptions x p)) h.derivation h.number
  assumptions_suffice = suffices (asked_by_assumptions x p) (assumptions_have (assumed_in (known_at x) p) (assertions_of x.stack) x.assumptions)

-- what stays was there
from_kept : (b : Bool) (a : Assertion) (axs bs : List Assertion) (c : Assertion) → (Contains axs c → Contains bs c) → Contains (cond b (a ∷ axs) axs) c → Contains (a ∷ bs) c
from_kept true a axs bs c rest k = elim (cases a axs c k) [ inl e ↦ subst (Contains (a ∷ bs)) e (first a bs) | inr r ↦ later a bs c (rest r) ]
from_kept false a axs bs c rest k = later a bs c (rest k)

of_assertions : (names : List Name) (axs : List Assertion) (c : Assertion) → Contains (without_others names axs) c → Contains axs c
of_assertions names [] c k = k
of_assertions names (a ∷ axs) c k = from_kept (stays names (label_of a.text)) a (without_others names axs) axs c (of_assertions names axs c) k

of_literals : (assumed seen : List Term) (ls : List Assertion) (c : Assertion) → Contains (literals_from assumed seen ls) c → Contains ls c
unfolding literals_from
of_literals assumed seen [] c k = k
of_literals assumed seen (l ∷ ls) c k = from_kept (has_term assumed l.term && not (has_term seen l.term)) l (literals_from assumed (l.term ∷ seen) ls) ls c (of_literals assumed (l.term ∷ seen) ls c) k

in_both : (axs bs xs ys : List Assertion) (c : Assertion) → (Contains axs c → Contains xs c) → (Contains bs c → Contains ys c) → Contains (axs ++ bs) c → Contains (xs ++ ys) c
in_both axs bs xs ys c one other k = elim (Contains-append_cases axs bs c k) [
  | inl i ↦ Contains-append_left xs ys c (one i)
  | inr i ↦ Contains-append_right xs ys c (other i)
]

pub core_is_asked : (x : Check) (p : List ℕ) (c : Assertion) → Contains (asked_by_core x p) c → Contains (asked x) c
core_is_asked x p c = in_both (without_others (core_of x p) (assertions_of x.stack)) x.assumptions (assertions_of x.stack) x.assumptions c (of_assertions (core_of x p) (assertions_of x.stack) c) (λ k. k)

pub assumptions_are_asked : (x : Check) (p : List ℕ) (c : Assertion) → Contains (asked_by_assumptions x p) c → Contains (asked x) c
assumptions_are_asked x p c = in_both (assertions_of x.stack) (assumptions_of x p) (assertions_of x.stack) x.assumptions c (λ k. k) (of_literals (assumed_in (known_at x) p) (terms_asserted (assertions_of x.stack)) x.assumptions c)
