-- That a search begins with the terms that are asked about, and that what it answers decides them.
use Rattle.std.proofs.Common.{◌≡◌, ◌≤◌, List, [], length, inl, inr, refl, ap, ◌∙◌, subst}
use Rattle.std.specs.Prelude.{None}
use Rattle.std.proofs.lemmas.List.Elements.{All-weaker, All-nil}
use Rattle.spec_sorts.specs.Terms.{Term}
use Rattle.spec_derivations.specs.Problems.{subterms_in}
use Rattle.spec_derivations.specs.Orders.{whole_terms}
use Rattle.spec_derivations.specs.Examples.{asserting, speaking}
use Rattle.spec_interfaces.specs.Interfaces.{IsInterfaceEquality}
use Rattle.spec_causes.specs.Checks.{IsOverflowAmong}
use Rattle.ratio128.specs.declared.wide.Wide.{Wide}
use Rattle.ratio128.specs.Meant.{overflow}
use Rattle.term_core.specs.declared.ids.TermId.{TermId}
use Rattle.term_core.specs.Tables.{TableView, IsIn, AreIn, clause_at}
use Rattle.term_core.proofs.TermsExtend.{clause_at-kept}
use Rattle.term_clauses.proofs.Speaking.{formulas_kept}
use Rattle.sat_budget.specs.declared.limits.Limits.{Limits}
use Rattle.sat_budget.specs.Budgets.{BudgetView}
use Rattle.proof_log.specs.Logs.{IsFormulaIn, AreFormulasIn, IsLogOf}
use Rattle.search_loop.specs.declared.search.Search.{Search}
use Rattle.search_loop.specs.declared.cdcl.Answer.{Answer}
use Rattle.search_loop.specs.Asking.{state}
use Rattle.search_loop.specs.Growing.{IsEmptySearch, IsBegun, GrowsTo, HasGrown, begins}
use Rattle.solve_core.specs.Answering.{IsAnswered}
use Rattle.solve_core.specs.Forms.{FindsOverflow}
use Rattle.solve_core.specs.Decisions.{HasDecision, IsOverflowedBy}
use Rattle.solve_core.specs.declared.outcome.Outcome.{Outcome}
use Rattle.solve_core.proofs.SearchOverflowed.{overflowed_justified}

-- formulas of a table are terms of it
formulas_in : (t : TableView) (roots : List TermId) → AreFormulasIn t roots → AreIn t roots
formulas_in t roots formulas = All-weaker (IsFormulaIn t) (IsIn t) (λ id f. f.0) roots formulas

module _ (t : TableView) (roots : List TermId) (limits : Limits) (x : Search) (e : IsEmptySearch limits x) where
  abbrev asked : List Term
  asked = clause_at t roots

  -- a search that speaks of nothing grows to them
  pub grows_to : GrowsTo t x roots [] [] (asserting asked)
  grows_to = begins e.blank refl refl

  -- an operation left the bound before that
  pub decided_overflow : IsLogOf t [] → (w : Wide) (d : Outcome) → IsOverflowedBy limits w d → FindsOverflow t (asserting asked) None → IsOverflowAmong (whole_terms (asserting asked)) (overflow w) → HasDecision t asked limits d
  decided_overflow empty w d by forms order = record {
    interface = [];
    equalities = All-nil (IsInterfaceEquality (subterms_in (asserting asked)));
    justified = overflowed_justified t (asserting asked) limits empty w d by (inr (forms, order));
  }

  module _ (formulas : AreFormulasIn t roots) (w : TableView) (y : Search) (grown : HasGrown (state t x) (state w y) roots []) where
    pub roots_in : AreFormulasIn w roots
    roots_in = formulas_kept t w (record { terms = grown.table; declared = grown.declared }) roots formulas

    pub same_asked : clause_at w roots ≡ asked
    same_asked = clause_at-kept t w grown.table roots (formulas_in t roots formulas)

    -- so it begins
    pub begun : IsBegun w (speaking (clause_at w roots) []) [] y
    begun = record {
      ready = grown.ready;
      empty = grown.trail.literals ∙ e.empty;
      level = grown.trail.level ∙ e.level;
      fed = grown.fed ∙ e.fed;
      search = grown.search (speaking (clause_at w roots) []) [] (begins e.blank refl (ap (λ (ts : List Term). speaking ts []) same_asked));
      unlearned = ap (λ (b : BudgetView). b.learned) grown.budget ∙ e.blank.learned;
      unspent = ap (λ (b : BudgetView). b.exchanges) grown.budget ∙ e.unspent;
    }

    -- and what it answers decides them
    pub decided_answer : (u : TableView) (z : Search) (a : Answer) → FindsOverflow t (asserting asked) None → length z.budget.learned ≤ z.budget.limit → IsAnswered (clause_at w roots) y.budget.limit (state u z) a
        → HasDecision u asked limits (record { answer = a; log = z.log; budget = z.budget })
    decided_answer u z a forms within answered =
        let h = subst (λ (ts : List Term). IsAnswered ts y.budget.limit (state u z) a) same_asked answered in
        record {
          interface = h.interface;
          equalities = h.equalities;
          justified = record {
            log_right = h.right;
            limit_is = h.limit_is ∙ ap (λ (b : BudgetView). b.limit) grown.budget ∙ e.limit_is;
            learned_within = within;
            forms = inl forms;
            evidence = h.evidence;
            learning = h.learning;
            exchanged = h.exchanged;
          };
        }
