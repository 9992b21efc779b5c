-- That an operation which leaves the bound before a search begins justifies that nothing was found out.
use Rattle.std.proofs.Common.{◌⊎◌, inl, inr, List, [], length, sym, ap, subst, arith}
use Rattle.std.specs.Prelude.{Some, None}
use Rattle.std.proofs.lemmas.List.Elements.{All-nil}
use Rattle.spec_derivations.specs.Problems.{Problem, terms_of_problem, subterms_in}
use Rattle.spec_derivations.specs.Orders.{whole_terms}
use Rattle.spec_derivations.specs.Derivations.{AssumesAmong}
use Rattle.spec_derivations.specs.Spent.{IsLearnedFrom, IsOverAtoms}
use Rattle.spec_causes.specs.Causes.{OverflowsForm}
use Rattle.spec_interfaces.specs.Interfaces.{StandsApart}
use Rattle.spec_causes.specs.Checks.{IsOverflowAmong}
use Rattle.ratio128.specs.declared.wide.Wide.{Wide}
use Rattle.ratio128.specs.Meant.{overflow}
use Rattle.term_core.specs.Tables.{TableView}
use Rattle.sat_budget.specs.declared.limits.Limits.{Limits}
use Rattle.sat_budget.specs.declared.limits.Strain.{Strain}
use Rattle.sat_budget.specs.declared.limits.Reason.TheVariants.{Overflow}
use Rattle.sat_budget.specs.Budgets.{BudgetView}
use Rattle.proof_log.specs.Logs.{Logged, inference_of, derivation_in, IsLogOf}
use Rattle.search_loop.specs.declared.cdcl.Answer.{Answer}
use Rattle.search_loop.specs.declared.cdcl.Answer.TheVariants.{Unknown}
use Rattle.search_loop.specs.Stops.{IsOverflowed, forming, ordering}
use Rattle.search_loop.specs.Rounds.{nothing, HasEvidence, IsLearning, HasMade}
use Rattle.solve_core.specs.declared.outcome.Outcome.{Outcome}
use Rattle.solve_core.specs.Forms.{FindsOverflow}
use Rattle.solve_core.specs.Decisions.{IsJustified, IsOverflowedBy}
use Rattle.solve_core.proofs.SearchForms.{overflows_first}

module _ (t : TableView) (p : Problem) (limits : Limits) (empty : IsLogOf t []) where
  -- nothing was logged or learned
  nothing_learned : (s : Strain) → IsLearning t p [] [] (Unknown (Overflow s)) []
  nothing_learned s = record {
    assumes = All-nil (λ (l : Logged). AssumesAmong (terms_of_problem p) (inference_of t l));
    learns = record {
      right = empty.right;
      derived = All-nil (IsLearnedFrom p (derivation_in t []));
      atoms = All-nil (IsOverAtoms p);
      new = tt;
      exact = tt;
    };
    apart = All-nil (StandsApart p);
    logged = nothing;
  }

  pub overflowed_justified : (w : Wide) (d : Outcome) → IsOverflowedBy limits w d → FindsOverflow t p (Some w) ⊎ (FindsOverflow t p None × IsOverflowAmong (whole_terms p) (overflow w)) → IsJustified t p limits d
  overflowed_justified w d h cause =
      let is = ap overflow h.is in
      let unspent = ap (λ (b : BudgetView). b.exchanges) h.budget in
      let none = ap (λ (b : BudgetView). b.learned) h.budget in
      let shown : IsOverflowed p (length d.budget.learned) d.budget.exchanges h.strain = elim cause [
        | inl f ↦ forming (ap length none) unspent (subst (OverflowsForm (subterms_in p)) (sym is) (overflows_first t (subterms_in p) w f)) h.basis
        | inr o ↦ ordering (ap length none) unspent (subst (IsOverflowAmong (whole_terms p)) (sym is) o.1) h.basis
      ] in
      record {
        log_right = subst (IsLogOf t) (sym h.log) empty;
        limit_is = ap (λ (b : BudgetView). b.limit) h.budget;
        learned_within = omega (arith, ap length none);
        forms = elim cause [ inl f ↦ inr (w, f, h) | inr o ↦ inl o.0 ];
        evidence = subst (HasEvidence t p d.log [] d.budget) (sym h.answer) shown;
        learning = subst (λ (a : Answer). IsLearning t p d.log [] a d.budget.learned) (sym h.answer)
            (subst (λ (log : List Logged). IsLearning t p log [] (Unknown (Overflow h.strain)) d.budget.learned) (sym h.log)
            (subst (IsLearning t p [] [] (Unknown (Overflow h.strain))) (sym none) (nothing_learned h.strain)));
        exchanged = subst (HasMade p d.budget) (sym h.answer) tt;
      }
