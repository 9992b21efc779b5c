-- Steps by the rule `la_generic`, with two numbers as arguments.
use Rattle.std.proofs.Common.{◌≡◌, true, List, [], ◌∷◌, sym, ◌∙◌, subst, arith}
use Rattle.std.specs.Prelude.{Ok}
use Rattle.spec_numbers.specs.Fractions.{IsReduced, one_fraction}
use Rattle.spec_numbers.specs.Bounds.{fits}
use Rattle.spec_proofs.specs.declared.Rule.TheVariants.{LaGeneric}
use Rattle.spec_arithmetic.specs.Contradictions.{Coefficient, given, la_generic}
use Rattle.spec_derivations.specs.Derivations.{FollowsFrom}
use Rattle.ratio128.specs.declared.ratio.Ratio.{Ratio}
use Rattle.ratio128.specs.Meant.{fraction}
use Rattle.rule_bool.specs.Arguments.{fractions_of}
use Rattle.rule_bool.proofs.CoefficientsRead.{fractions_read}
use Rattle.term_core.specs.declared.ids.TermId.{TermId}
use Rattle.term_core.specs.Tables.{TableView, clause_at}
use Rattle.proof_log.specs.Logs.{Logged, stepped, inference_of, derivation_in}
use Rattle.clausify.specs.Orders.{arguments_by}

-- the step follows by the rule, since what is printed of a number is read as it
pub step_follows : (t : TableView) (log : List Logged) (w one : Ratio) (ids : List TermId) → fraction one ≡ one_fraction → ((q : Ratio) → IsReduced (fraction q)) → ((q : Ratio) → fits (fraction q) ≡ true)
    → la_generic (clause_at t ids) (arguments_by w) ≡ Ok tt → FollowsFrom (derivation_in t log) (inference_of t (stepped LaGeneric [] (fractions_of (w ∷ one ∷ [])) ids))
step_follows t log w one ids is reduced bounded taken =
    let same : arguments_by w ≡ given (fraction w) ∷ given (fraction one) ∷ [] = λ i. given (fraction w) ∷ given (sym is i) ∷ [] in (
      λ k d lt. absurd (omega (arith, lt)),
      subst (λ (cs : List Coefficient). la_generic (clause_at t ids) cs ≡ Ok tt) (same ∙ fractions_read (w ∷ one ∷ []) reduced bounded) taken,
    )
