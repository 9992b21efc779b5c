-- Lemmas after lemmas, the last of which states the equality.
use Rattle.std.proofs.Common.{List, Vec, Global, ◌∙◌, sym, subst}
use Rattle.std.specs.Prelude.{All}
use Rattle.term_core.specs.Tables.{TableView}
use Rattle.term_core.proofs.TermsExtend.{term_at-kept}
use Rattle.proof_log.specs.declared.premises.StepId.{StepId}
use Rattle.proof_log.specs.Logs.{Logged}
use Rattle.proof_log.specs.Theories.{derived}
use Rattle.term_clauses.specs.Stating.{Widens}
use Rattle.term_clauses.proofs.Arguments.{Widens-trans}
use Rattle.case_equalities.specs.declared.lead.Chain.{Chain}
use Rattle.case_equalities.specs.Stating.{Origin, batch_of, Continues, GoesOn, AreStepsIn, StatesBoth, IsChainOf}
use Rattle.case_equalities.proofs.Batches.{since_start, made_kept, denial_kept, both_made, goes_after, goes_wider, some_is}
use Rattle.case_equalities.proofs.Leading.{chains_of, disjunction_made, comparable_there, equality_made, case_stated}
use Rattle.case_equalities.proofs.stating.state.Goals as goal

pub equality-requires : goal.equality-requires
equality-requires g c = comparable_there g.origin c.args.lead.now c.requires.1.1 c.args.table.now (since_start (batch_of g.origin) (derived c.args.table.now c.args.log.now) c.requires.0)

pub denial-requires : goal.denial-requires
denial-requires g c =
    let t = c.args.table.now in
    let u = c.equality.new.table in
    let b = batch_of g.origin in
    let since = since_start b (derived t c.args.log.now) c.requires.0 in
    made_kept b b.start.table u (Widens-trans b.start.table t u since c.equality.ensures.wider) c.args.lead.now.disjunction (disjunction_made g.origin c.args.lead.now c.requires.1.1)

pub returns-in_err-equality-clause-goes : goal.returns-in_err-equality-clause-goes
returns-in_err-equality-clause-goes g c = goes_wider (batch_of g.origin) c.args.table.now c.equality.new.table c.args.log.now c.requires.0 c.equality.ensures.wider

pub returns-in_err-denied-clause-goes : goal.returns-in_err-denied-clause-goes
returns-in_err-denied-clause-goes g c =
    goes_wider (batch_of g.origin) c.args.table.now c.denial.new.table c.args.log.now c.requires.0 (Widens-trans c.args.table.now c.equality.new.table c.denial.new.table c.equality.ensures.wider c.denial.ensures.wider)

pub state_cases-requires : goal.state_cases-requires
state_cases-requires g c =
    let t = c.args.table.now in
    let u = c.equality.new.table in
    let v = c.denial.new.table in
    let b = batch_of g.origin in
    let lead = c.args.lead.now in
    let e = c.in_ok-equality.equality in
    let wide = Widens-trans t u v c.equality.ensures.wider c.denial.ensures.wider in
    let made = equality_made g.origin lead c.requires.1.1 t (since_start b (derived t c.args.log.now) c.requires.0) u c.equality.ensures.wider e c.in_ok-equality.ensures.means in (
      (goes_wider b t v c.args.log.now c.requires.0 wide).derives,
      (
        subst (λ (cs : List Chain). All (IsChainOf b) cs) (sym c.deref.ensures.value) (chains_of g.origin lead c.requires.1.1),
        (c.in_ok-denied.ensures.means.0, made_kept b u v c.denial.ensures.wider e made.0),
      ),
    )

pub resolve-requires : goal.resolve-requires
resolve-requires g c =
    let t = c.args.table.now in
    let u = c.equality.new.table in
    let v = c.denial.new.table in
    let w = c.state_cases.new.table in
    let b = batch_of g.origin in
    let lead = c.args.lead.now in
    let e = c.in_ok-equality.equality in
    let made = equality_made g.origin lead c.requires.1.1 t (since_start b (derived t c.args.log.now) c.requires.0) u c.equality.ensures.wider e c.in_ok-equality.ensures.means in
    let goes = c.state_cases.ensures.goes in (
      goes.derives,
      (
        both_made b w c.in_ok-denied.denied e (made_kept b v w goes.wider c.in_ok-denied.denied c.in_ok-denied.ensures.means.0) (made_kept b v w goes.wider e (made_kept b u v c.denial.ensures.wider e made.0)),
        some_is (λ (steps : Vec StepId Global). AreStepsIn b c.state_cases.new.log steps.items) c.in_ok-steps.field-0 c.in-Some.steps c.in-Some.is c.in_ok-steps.ensures.put,
      ),
    )

pub returns-in_err-steps-clause-goes : goal.returns-in_err-steps-clause-goes
returns-in_err-steps-clause-goes g c =
    let t = c.args.table.now in
    let v = c.denial.new.table in
    let log = c.args.log.now in
    let b = batch_of g.origin in
    goes_after b (derived t log) (derived v log) (derived c.state_cases.new.table c.state_cases.new.log) (goes_wider b t v log c.requires.0 (Widens-trans t c.equality.new.table v c.equality.ensures.wider c.denial.ensures.wider)) c.state_cases.ensures.goes

pub returns-in_default-clause-goes : goal.returns-in_default-clause-goes
returns-in_default-clause-goes g c =
    let t = c.args.table.now in
    let v = c.denial.new.table in
    let log = c.args.log.now in
    let b = batch_of g.origin in
    goes_after b (derived t log) (derived v log) (derived c.state_cases.new.table c.state_cases.new.log) (goes_wider b t v log c.requires.0 (Widens-trans t c.equality.new.table v c.equality.ensures.wider c.denial.ensures.wider)) c.state_cases.ensures.goes

-- after all steps
ends : (o : Origin) (t u v w : TableView) (log some all : List Logged) → Continues (batch_of o) (derived t log) → Widens t u → Widens u v → GoesOn (batch_of o) (derived v log) (derived w some) → GoesOn (batch_of o) (derived w some) (derived w all) → GoesOn (batch_of o) (derived t log) (derived w all)
ends o t u v w log some all d one other cases last =
    let b = batch_of o in
    goes_after b (derived t log) (derived w some) (derived w all) (goes_after b (derived t log) (derived v log) (derived w some) (goes_wider b t v log d (Widens-trans t u v one other)) cases) last

pub returns-in_err-step-clause-goes : goal.returns-in_err-step-clause-goes
returns-in_err-step-clause-goes g c =
    ends g.origin c.args.table.now c.equality.new.table c.denial.new.table c.state_cases.new.table c.args.log.now c.state_cases.new.log c.resolve.new.log c.requires.0 c.equality.ensures.wider c.denial.ensures.wider c.state_cases.ensures.goes c.resolve.ensures.goes

pub returns-in_default-2-clause-goes : goal.returns-in_default-2-clause-goes
returns-in_default-2-clause-goes g c =
    ends g.origin c.args.table.now c.equality.new.table c.denial.new.table c.state_cases.new.table c.args.log.now c.state_cases.new.log c.resolve.new.log c.requires.0 c.equality.ensures.wider c.denial.ensures.wider c.state_cases.ensures.goes c.resolve.ensures.goes

pub returns-clause-goes : goal.returns-clause-goes
returns-clause-goes g c =
    ends g.origin c.args.table.now c.equality.new.table c.denial.new.table c.state_cases.new.table c.args.log.now c.state_cases.new.log c.resolve.new.log c.requires.0 c.equality.ensures.wider c.denial.ensures.wider c.state_cases.ensures.goes c.resolve.ensures.goes

pub returns-clause-found : goal.returns-clause-found
returns-clause-found g c =
    let t = c.args.table.now in
    let u = c.equality.new.table in
    let v = c.denial.new.table in
    let w = c.state_cases.new.table in
    let b = batch_of g.origin in
    let start = b.start.table in
    let lead = c.args.lead.now in
    let id = lead.disjunction in
    let e = c.in_ok-equality.equality in
    let since = since_start b (derived t c.args.log.now) c.requires.0 in
    let made = equality_made g.origin lead c.requires.1.1 t since u c.equality.ensures.wider e c.in_ok-equality.ensures.means in
    let goes = c.state_cases.ensures.goes in
    let wide = Widens-trans u v w c.denial.ensures.wider goes.wider in
    let there = (made_kept b start v (Widens-trans start t v since (Widens-trans t u v c.equality.ensures.wider c.denial.ensures.wider)) id (disjunction_made g.origin lead c.requires.1.1)).0.0 in
    case_stated g.origin lead c.requires.1.1 c.requires.1.0 w goes.derives.table c.resolve.new.log e c.in_ok-denied.denied c.in-Some-2.step (made_kept b u w wide e made.0) (term_at-kept u w wide.terms e made.0.0.0 ∙ made.1)
    (denial_kept b v w goes.wider id c.in_ok-denied.denied there c.in_ok-denied.ensures.means)
    (some_is (StatesBoth b c.resolve.new.log c.in_ok-denied.denied e) c.in_ok-step.field-0 c.in-Some-2.step c.in-Some-2.is c.in_ok-step.ensures.put)
