-- The clause is made, which may make the table wider, and then stated.
use Rattle.std.proofs.Common.{◌≡◌, List, ◌∷◌, [], All, sym, ap, subst}
use Rattle.std.proofs.lemmas.List.Elements.{All-cons}
use Rattle.spec_sorts.specs.Terms.{Symbol}
use Rattle.spec_sorts.specs.WellSorted.{IsFormulaOver}
use Rattle.std.proofs.lemmas.Result.{on_ok_weaker}
use Rattle.spec_sorts.specs.Literals.{Clause}
use Rattle.spec_sorts.specs.Subsets.{arguments_of}
use Rattle.term_core.specs.Tables.{term_at, clause_at}
use Rattle.term_clauses.specs.Stating.{single}
use Rattle.term_clauses.proofs.Parts.{single_formulas, symbols_same, formulas_in}
use Rattle.term_clauses.proofs.Growing.{Grows-wider, Grows-made, Tells-made, Tells-same}
use Rattle.term_clauses.proofs.statements.state_single.Goals as goal

pub returns-in_err-clause-clause-grows : goal.returns-in_err-clause-clause-grows
returns-in_err-clause-clause-grows c =
    let wider = c.with_rest.ensures.wider in
    Grows-wider [] c.args.table.now c.with_rest.new.table c.args.log.now wider (c.logs_hold_in_grown_tables.ensures.right c.args.table.now c.with_rest.new.table c.args.log.now c.requires.log wider.terms)

pub state-requires-clause-log : goal.state-requires-clause-log
state-requires-clause-log c = c.logs_hold_in_grown_tables.ensures.right c.args.table.now c.with_rest.new.table c.args.log.now c.requires.log c.with_rest.ensures.wider.terms

pub state-requires-clause-clause : goal.state-requires-clause-clause
state-requires-clause-clause c =
    let t = c.args.table.now in
    let u = c.with_rest.new.table in
    let wider = c.with_rest.ensures.wider in
    let ids = c.in_ok-clause.clause.items in
    let made = c.in_ok-clause.ensures.means in
    let args = arguments_of (term_at t c.args.id) in
    let whole : All (IsFormulaOver t.symbols) (term_at t c.args.front ∷ single c.args.rest args) =
    All-cons (IsFormulaOver t.symbols) (term_at t c.args.front) (single c.args.rest args) c.requires.there.first.1 (single_formulas t.symbols c.args.rest args c.requires.there.arguments c.requires.places) in
    formulas_in u ids made.0 (subst (λ (fs : List Symbol). All (IsFormulaOver fs) (clause_at u ids)) (sym (symbols_same t u wider)) (subst (λ (ls : Clause). All (IsFormulaOver t.symbols) ls) (sym made.1) whole))

pub returns-clause-grows : goal.returns-clause-grows
returns-clause-grows c =
    let t = c.args.table.now in
    let u = c.with_rest.new.table in
    let wider = c.with_rest.ensures.wider in
    Grows-made t u u wider c.args.log.now c.state.new.log c.requires.log (c.logs_hold_in_grown_tables.ensures.right t u c.args.log.now c.requires.log wider.terms) c.state.ensures.grows

pub returns-clause-tells : goal.returns-clause-tells
returns-clause-tells c =
    let t = c.args.table.now in
    let u = c.with_rest.new.table in
    let old = c.args.log.now in
    let new = c.state.new.log in
    let steps = c.args.steps.now.items in
    let all = c.state.new.steps.items in
    let wider = c.with_rest.ensures.wider in
    let still = c.logs_hold_in_grown_tables.ensures.right t u old c.requires.log wider.terms in
    let clause = term_at t c.args.front ∷ single c.args.rest (arguments_of (term_at t c.args.id)) in
    let same : clause_at u c.in_ok-clause.clause.items ≡ clause = c.in_ok-clause.ensures.means.1 in
    on_ok_weaker c.state.result (λ tells. Tells-made t u u wider old new c.requires.log still steps all (clause ∷ []) (Tells-same u u old new steps all (clause_at u c.in_ok-clause.clause.items ∷ []) (clause ∷ []) (ap (λ (ls : Clause). ls ∷ []) same) tells)) c.state.ensures.tells
