-- Leads over a table that grew, and what is stated of one.
use Rattle.std.proofs.Common.{◌≡◌, ℕ, ◌<◌, inl, inr, Bool, true, false, List, [], ◌∷◌, length, get_or, All, sym, ap, ◌∙◌, subst, arith, length-append}
use Rattle.std.proofs.lemmas.Bool.{cases_lt, false≢true}
use Rattle.std.proofs.lemmas.List.{get_or_append_left, get_or_past}
use Rattle.std.proofs.lemmas.List.Elements.{All-weaker}
use Rattle.spec_sorts.specs.Terms.{Or, Symbol, Term, app, no_term, of, pair, negated, Equal}
use Rattle.spec_sorts.specs.WellSorted.{IsFormulaOver}
use Rattle.spec_sorts.specs.Subterms.{subterms_of}
use Rattle.spec_derivations.specs.Lemmas.{IsMadeOf, given, is_equality, is_negation}
use Rattle.spec_interfaces.specs.Interfaces.{IsElementEquality}
use Rattle.term_core.specs.declared.ids.TermId.{TermId}
use Rattle.term_core.specs.Tables.{TableView, term_at, IsIn, AreIn, clause_at, Extends}
use Rattle.term_core.proofs.TermsExtend.{IsIn-kept, term_at-kept, clause_at-kept}
use Rattle.proof_log.specs.declared.premises.StepId.{StepId}
use Rattle.proof_log.specs.Logs.{Logged, named, no_logged, logged_at, AreFormulasIn}
use Rattle.proof_log.specs.Theories.{Derived}
use Rattle.term_clauses.specs.Stating.{Widens, NamesTerm}
use Rattle.term_clauses.specs.Choices.{AreComparable, equality_at}
use Rattle.term_clauses.proofs.Arguments.{Widens-trans}
use Rattle.term_clauses.proofs.Parts.{symbols_same, formula_kept, formula_negated}
use Rattle.term_clauses.proofs.Choosing.{comparable_kept, equality_formula}
use Rattle.case_equalities.specs.declared.equalities.CaseEquality.{CaseEquality}
use Rattle.case_equalities.specs.declared.lead.Chain.{Chain}
use Rattle.case_equalities.specs.declared.lead.Lead.{Lead}
use Rattle.case_equalities.specs.Leads.{asserted_below, IsChainOver, IsAssertedDisjunction, IsLeadOver, IsCaseEquality}
use Rattle.case_equalities.specs.Stating.{Batch, Origin, batch_of, Continues, GoesOn, IsMade, IsDenialOf, StatesBoth, IsChainOf}

-- a formula and its negation
pub negation_made : (b : Batch) (t u : TableView) → Widens t u → (id denial : TermId) → IsMade b t id → NamesTerm u (negated (term_at t id)) denial → IsDenialOf b u id denial
negation_made b t u wider id denial h put = (
  (
    (put.0, subst (λ (fs : List Symbol). IsFormulaOver fs (term_at u denial)) (sym (symbols_same t u wider)) (subst (IsFormulaOver t.symbols) (sym put.1) (formula_negated t.symbols (term_at t id) h.0.1))),
    subst (IsMadeOf b.terms) (sym put.1) (is_negation (term_at t id) h.1),
  ),
  put.1 ∙ ap negated (sym (term_at-kept t u wider.terms id h.0.0)),
)

-- a chain of a lead
chain_of : (o : Origin) (c : Chain) → IsChainOver o.start.table (asserted_below o.start.table o.roots) c → IsChainOf (batch_of o) c
chain_of o c h = record {
  case = (h.formula, given (term_at o.start.table c.case) h.case.1);
  equalities = λ k d lt. (h.formulas k d lt, given (term_at o.start.table (get_or c.equalities.items k d)) (h.equalities k d lt).1);
}

module _ (o : Origin) (x : Lead) (lead : IsLeadOver o.start.table o.roots x) where
  abbrev ts : List Term
  ts = asserted_below o.start.table o.roots

  pub chains_of : All (IsChainOf (batch_of o)) x.chains.items
  chains_of = All-weaker (IsChainOver o.start.table ts) (IsChainOf (batch_of o)) (chain_of o) x.chains.items lead.chains

  pub disjunction_made : IsMade (batch_of o) o.start.table x.disjunction
  disjunction_made = (lead.formula, given (term_at o.start.table x.disjunction) lead.disjunction.1)

  comparable : AreComparable o.start.table x.left x.right
  comparable = record { one = lead.left.0; other = lead.right.0; sort = lead.left_sort ∙ sym lead.right_sort }

  module _ (t : TableView) (since : Widens o.start.table t) where
    -- the two terms are of one sort
    pub comparable_there : AreComparable t x.left x.right
    comparable_there = comparable_kept o.start.table t since x.left x.right comparable

    -- the equality of both
    pub equality_made : (u : TableView) → Widens t u → (e : TermId) → NamesTerm u (equality_at t x.left x.right) e
        → IsMade (batch_of o) u e × (term_at u e ≡ equality_at o.start.table x.left x.right)
    equality_made u wider e put =
        let same : equality_at t x.left x.right ≡ equality_at o.start.table x.left x.right =
        (λ i. pair Equal (term_at-kept o.start.table t since.terms x.left lead.left.0.0 i) (term_at-kept o.start.table t since.terms x.right lead.right.0.0 i)) in
        let is = put.1 ∙ same in
        let one = term_at o.start.table x.left in
        let other = term_at o.start.table x.right in
        let formula = equality_formula o.start.table.symbols one other lead.left.0.1 lead.right.0.1 comparable.sort in
        let wide = Widens-trans o.start.table t u since wider in (
          (
            (put.0, subst (λ (fs : List Symbol). IsFormulaOver fs (term_at u e)) (sym (symbols_same o.start.table u wide)) (subst (IsFormulaOver o.start.table.symbols) (sym is) formula)),
            subst (IsMadeOf ts) (sym is) (is_equality one other (given one lead.left.1) (given other lead.right.1)),
          ),
          is,
        )

  -- what is stated of it
  module _ (formulas : AreFormulasIn o.start.table o.roots) (w : TableView) (since : Extends o.start.table w) where
    roots_same : clause_at w o.roots ≡ clause_at o.start.table o.roots
    roots_same = clause_at-kept o.start.table w since o.roots (λ k d lt. (formulas k d lt).0)

    pub case_stated : (log : List Logged) (e denied : TermId) (step : StepId) → IsMade (batch_of o) w e → term_at w e ≡ equality_at o.start.table x.left x.right
        → IsDenialOf (batch_of o) w x.disjunction denied → StatesBoth (batch_of o) log denied e step
        → IsCaseEquality w log o.roots (record { disjunction = x.disjunction; equality = e; step = step })
    case_stated log e denied step made is denies states = record {
      asserted = subst (λ (us : List Term). IsAssertedDisjunction us (term_at w x.disjunction)) (sym roots_same)
          (subst (IsAssertedDisjunction (clause_at o.start.table o.roots)) (sym (term_at-kept o.start.table w since x.disjunction lead.formula.0)) lead.asserted);
      formula = made.0;
      elements = subst (λ (us : List Term). IsElementEquality (subterms_of us) (term_at w e)) (sym roots_same) (record {
        left = term_at o.start.table x.left;
        left_in = lead.left.1;
        right = term_at o.start.table x.right;
        right_in = lead.right.1;
        sort = lead.sort;
        left_sort = lead.left_sort;
        right_sort = lead.right_sort;
        is = is;
      });
      there = states.0.1;
      says = ap (clause_at w) states.1 ∙ (λ i. denies.1 i ∷ term_at w e ∷ []);
    }

-- no disjunction has a number that the table has not
is_or : Term → Bool
is_or (app Or us) = true
is_or t = false

pub disjunction_there : (t : TableView) (id : TermId) (cases : List Term) → term_at t id ≡ of Or cases → IsIn t id
unfolding is_or
disjunction_there t id cases is = elim (cases_lt id.0 (length t.terms)) [
  | inl lt ↦ lt
  | inr past ↦ absurd (false≢true (ap is_or (sym (get_or_past t.terms id.0 no_term past) ∙ is)))
]

-- what was found is found still, where lemmas came
pub case_kept : (b : Batch) (roots : List TermId) (old new : Derived) → Continues b old → AreIn old.table roots → GoesOn b old new → (x : CaseEquality) → IsCaseEquality old.table old.log roots x → IsCaseEquality new.table new.log roots x
case_kept b roots old new d roots_in goes x h =
    let t = old.table in
    let u = new.table in
    let more = goes.wider.terms in
    let roots_same : clause_at u roots ≡ clause_at t roots = clause_at-kept t u more roots roots_in in
    let disjunction_same = term_at-kept t u more x.disjunction (disjunction_there t x.disjunction h.asserted.cases h.asserted.is) in
    let equality_same = term_at-kept t u more x.equality h.formula.0 in
    let logged_same : logged_at new.log x.step ≡ logged_at old.log x.step = ap (λ (l : List Logged). get_or l x.step.0 no_logged) goes.log ∙ get_or_append_left old.log goes.more no_logged x.step.0 h.there in
    let clause_in : AreIn t (named (logged_at old.log x.step)) = λ k e lt. (d.right.formulas x.step.0 no_logged h.there k e lt).0 in
    record {
      asserted = subst (λ (us : List Term). IsAssertedDisjunction us (term_at u x.disjunction)) (sym roots_same) (subst (IsAssertedDisjunction (clause_at t roots)) (sym disjunction_same) h.asserted);
      formula = formula_kept t u goes.wider x.equality h.formula;
      elements = subst (λ (us : List Term). IsElementEquality (subterms_of us) (term_at u x.equality)) (sym roots_same) (subst (IsElementEquality (subterms_of (clause_at t roots))) (sym equality_same) h.elements);
      there = omega (arith, h.there, ap length goes.log, length-append old.log goes.more);
      says = ap (λ (l : Logged). clause_at u (named l)) logged_same ∙ clause_at-kept t u more (named (logged_at old.log x.step)) clause_in ∙ h.says ∙ (λ i. negated (sym disjunction_same i) ∷ sym equality_same i ∷ []);
    }

-- one of some chains
pub chain_at : (b : Batch) (cs : List Chain) → All (IsChainOf b) cs → (i : ℕ) (c : Chain) → i < length cs → c ≡ get_or cs i c → IsChainOf b c
chain_at b cs h i c lt is = subst (IsChainOf b) (sym is) (h i c lt)

-- so are all
pub found_kept : (o : Origin) (old new : Derived) → Continues (batch_of o) old → AreFormulasIn o.start.table o.roots → GoesOn (batch_of o) old new
    → (xs : List CaseEquality) → All (IsCaseEquality old.table old.log o.roots) xs → All (IsCaseEquality new.table new.log o.roots) xs
found_kept o old new d formulas goes =
    let roots_in : AreIn old.table o.roots = λ k e lt. IsIn-kept o.start.table old.table d.table (get_or o.roots k e) (formulas k e lt).0 in
    All-weaker (IsCaseEquality old.table old.log o.roots) (IsCaseEquality new.table new.log o.roots) (case_kept (batch_of o) o.roots old new d roots_in goes)
