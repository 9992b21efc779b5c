-- What the rule `la_generic` says of a clause with the weights of reasons.
use Rattle.std.proofs.Common.{◌≡◌, true, List, [], ◌∷◌, map, refl, sym, ap, ◌∙◌, subst, arith}
use Rattle.std.specs.Prelude.{All, Ok, Err}
use Rattle.spec_numbers.specs.Fractions.{IsReduced}
use Rattle.spec_numbers.specs.Bounds.{fits}
use Rattle.spec_sorts.specs.Terms.{Term}
use Rattle.spec_arithmetic.specs.Contradictions.{Coefficient, given, shape, no_contradiction, la_generic}
use Rattle.spec_simplex.specs.Weights.{Summand, IsSummand, CannotHold, denial, denials, arguments_of, IsTakenOrWide}
use Rattle.spec_derivations.specs.Derivations.{FollowsFrom}
use Rattle.ratio128.specs.declared.ratio.Ratio.{Ratio}
use Rattle.ratio128.specs.Meant.{fraction}
use Rattle.linear_form.specs.declared.coeff.Coeff.TheVariants.{Number}
use Rattle.linear_form.specs.Coefficients.{coefficients_meant}
use Rattle.rule_bool.specs.Arguments.{fractions_of}
use Rattle.rule_bool.proofs.CoefficientsRead.{fractions_read}
use Rattle.term_core.specs.declared.ids.TermId.{TermId}
use Rattle.term_core.specs.Tables.{TableView, clause_at}
use Rattle.proof_log.specs.Logs.{Logged, inference_of, derivation_in}
use Rattle.simplex_explain.specs.declared.weighted.Weighted.{Weighted}
use Rattle.simplex_explain.specs.Reasons.{Refutes, denials_meant, arguments_meant}
use Rattle.simplex_explain.specs.Steps.{judged, refuting}

-- the clause of summands is that of their literals
denials_are : (xs : List Summand) → denials xs ≡ map denial (map (λ (x : Summand). x.literal) xs)
denials_are [] = refl
denials_are (x ∷ xs) = ap (λ (ts : List Term). denial x.literal ∷ ts) (denials_are xs)

-- and so are the arguments those of their weights
arguments_are : (xs : List Summand) → arguments_of xs ≡ map given (map (λ (x : Summand). x.weight) xs)
arguments_are [] = refl
arguments_are (x ∷ xs) = ap (λ (cs : List Coefficient). given x.weight ∷ cs) (arguments_are xs)

-- literals that cannot all hold by their weights make a clause that the rule takes, or whose sum is wide
pub refuted_taken : (t : TableView) (rs : List Weighted) → ((xs : List Summand) → All IsSummand xs → CannotHold xs → IsTakenOrWide (la_generic (denials xs) (arguments_of xs)))
    → Refutes t rs → IsTakenOrWide (judged t rs)
refuted_taken t rs law h =
    let clause : denials h.summands ≡ denials_meant t rs = denials_are h.summands ∙ ap (map denial) h.literals in
    let weights : arguments_of h.summands ≡ arguments_meant rs = arguments_are h.summands ∙ ap (map given) h.weights in
    subst (λ (cs : List Coefficient). IsTakenOrWide (la_generic (denials_meant t rs) cs)) weights
    (subst (λ (ts : List Term). IsTakenOrWide (la_generic ts (arguments_of h.summands))) clause (law h.summands h.fit h.contradiction))

-- so its shape is right, and the sum is a contradiction
pub not_shape : (t : TableView) (rs : List Weighted) → IsTakenOrWide (judged t rs) → judged t rs ≡ Err shape → ⊥
not_shape t rs taken is = subst IsTakenOrWide is taken

pub not_contradicted : (t : TableView) (rs : List Weighted) → IsTakenOrWide (judged t rs) → judged t rs ≡ Err no_contradiction → ⊥
not_contradicted t rs taken is = subst IsTakenOrWide is taken

-- the arguments as the code has them
pub given_arguments : (rs : List Weighted) → coefficients_meant (map (λ (r : Weighted). Number r.weight) rs) ≡ arguments_meant rs
given_arguments [] = refl
given_arguments (r ∷ rs) = ap (λ (cs : List Coefficient). given (fraction r.weight) ∷ cs) (given_arguments rs)

-- numbers as arguments
given_numbers : (qs : List Ratio) → coefficients_meant (map Number qs) ≡ map given (fractions_of qs)
given_numbers [] = refl
given_numbers (q ∷ qs) = ap (λ (cs : List Coefficient). given (fraction q) ∷ cs) (given_numbers qs)

-- the step follows by the rule, since what is printed of a number is read as it
pub step_follows : (t : TableView) (log : List Logged) (qs : List Ratio) (ids : List TermId) → ((q : Ratio) → IsReduced (fraction q)) → ((q : Ratio) → fits (fraction q) ≡ true)
    → la_generic (clause_at t ids) (map given (fractions_of qs)) ≡ Ok tt → FollowsFrom (derivation_in t log) (inference_of t (refuting qs ids))
step_follows t log qs ids reduced bounded taken = (
  λ k d lt. absurd (omega (arith, lt)),
  subst (λ (cs : List Coefficient). la_generic (clause_at t ids) cs ≡ Ok tt) (sym (given_numbers qs) ∙ fractions_read qs reduced bounded) taken,
)
