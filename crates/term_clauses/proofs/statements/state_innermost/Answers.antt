-- There is one clause, or none.
use Rattle.std.proofs.Common.{◌≡◌, List, ◌∷◌, [], sym, ap, ◌∙◌, subst}
use Rattle.std.proofs.lemmas.List.Elements.{All-nil, All-cons}
use Rattle.std.proofs.lemmas.Result.{on_ok_weaker}
use Rattle.spec_sorts.specs.Subsets.{arguments_of}
use Rattle.spec_rules.specs.Schemes.{innermost}
use Rattle.term_core.specs.declared.ids.TermId.{TermId}
use Rattle.term_core.specs.Tables.{term_at, clause_at}
use Rattle.proof_log.specs.Logs.{IsFormulaIn, AreFormulasIn}
use Rattle.term_clauses.specs.Stating.{before}
use Rattle.term_clauses.proofs.Parts.{innermost_formula}
use Rattle.term_clauses.proofs.Growing.{Grows-self, Tells-same}
use Rattle.term_clauses.proofs.statements.state_innermost.Goals as goal

pub returns-in_default-clause-grows : goal.returns-in_default-clause-grows
returns-in_default-clause-grows c = Grows-self [] c.args.table.now c.args.log.now c.requires.log

pub returns-in_err-clause-clause-grows : goal.returns-in_err-clause-clause-grows
returns-in_err-clause-clause-grows c = Grows-self [] c.args.table.now c.args.log.now c.requires.log

pub state-requires-clause-clause : goal.state-requires-clause-clause
state-requires-clause-clause c =
    let t = c.args.table.now in
    let front = c.args.front in
    let inner = c.in-Some.inner in
    let args = arguments_of (term_at t c.args.id) in
    let inside : IsFormulaIn t inner = (c.in-Some.ensures.0, innermost_formula t.symbols args c.requires.there.arguments (term_at t inner) c.in-Some.ensures.1) in
    subst (AreFormulasIn t) (sym c.in_ok-clause.ensures.items)
    (All-cons (IsFormulaIn t) front (inner ∷ []) c.requires.there.first (All-cons (IsFormulaIn t) inner [] inside (All-nil (IsFormulaIn t))))

pub returns-clause-tells : goal.returns-clause-tells
returns-clause-tells c =
    let t = c.args.table.now in
    let front = term_at t c.args.front in
    let clauses = innermost (arguments_of (term_at t c.args.id)) in
    let same : clause_at t c.in_ok-clause.clause.items ∷ [] ≡ before front clauses = ap (λ (ids : List TermId). clause_at t ids ∷ []) c.in_ok-clause.ensures.items ∙ ap (before front) (sym c.in-Some.ensures.1) in
    on_ok_weaker c.state.result (Tells-same t t c.args.log.now c.state.new.log c.args.steps.now.items c.state.new.steps.items (clause_at t c.in_ok-clause.clause.items ∷ []) (before front clauses) same) c.state.ensures.tells
