-- The fact is put, which may make the table wider, and then its clause is stated.
use Rattle.std.proofs.Common.{◌≡◌, [], ◌∷◌, sym, ap, ◌∙◌, subst}
use Rattle.std.proofs.lemmas.List.Elements.{All-nil, All-cons}
use Rattle.std.proofs.lemmas.Result.{on_ok_weaker}
use Rattle.spec_text.specs.Trees.{none}
use Rattle.spec_sorts.specs.Terms.{Term}
use Rattle.spec_sorts.specs.Literals.{Clause}
use Rattle.spec_proofs.specs.declared.Rule.TheVariants.{LaDisequality}
use Rattle.spec_rules.specs.Rules.{IsRight}
use Rattle.spec_derivations.specs.Orders.{order_fact}
use Rattle.term_core.specs.Tables.{term_at, clause_at}
use Rattle.proof_log.specs.Logs.{IsFormulaIn, AreFormulasIn, IsLogOf}
use Rattle.term_clauses.proofs.Growing.{Grows-wider, Grows-made, Tells-made, Tells-same}
use Rattle.clausify.proofs.Equalities.{fact_right, fact_in}
use Rattle.clausify.proofs.orders.state_fact.Goals as goal
use Rattle.clausify.proofs.orders.state_fact.Goals.{After-order_fact, In_ok-clause}

-- the log is in the wider table
still : (c : After-order_fact) → IsLogOf c.order_fact.new.table c.args.log.now
still c = c.logs_hold_in_grown_tables.ensures.right c.args.table.now c.order_fact.new.table c.args.log.now c.requires.log c.order_fact.ensures.wider.terms

pub returns-in_err-fact-clause-grows : goal.returns-in_err-fact-clause-grows
returns-in_err-fact-clause-grows c = Grows-wider [] c.args.table.now c.order_fact.new.table c.args.log.now c.order_fact.ensures.wider (still (goal.at.returns-in_err-fact-clause-grows c).After-order_fact)

pub returns-in_err-clause-clause-grows : goal.returns-in_err-clause-clause-grows
returns-in_err-clause-clause-grows c = Grows-wider [] c.args.table.now c.order_fact.new.table c.args.log.now c.order_fact.ensures.wider (still (goal.at.returns-in_err-clause-clause-grows c).After-order_fact)

pub state-requires-clause-log : goal.state-requires-clause-log
state-requires-clause-log c = still (goal.at.state-requires-clause-log c).After-order_fact

-- the clause is the fact alone
clause_is : (c : In_ok-clause) → clause_at c.order_fact.new.table c.in_ok-clause.clause.items ≡ order_fact (term_at c.args.table.now c.args.sides.left) (term_at c.args.table.now c.args.sides.right) ∷ []
clause_is c = ap (clause_at c.order_fact.new.table) c.in_ok-clause.ensures.items ∙ ap (λ (x : Term). x ∷ []) c.in_ok-fact.ensures.means.1

pub state-requires-clause-clause : goal.state-requires-clause-clause
state-requires-clause-clause c =
    let u = c.order_fact.new.table in
    let fact = c.in_ok-fact.fact in
    let inside = fact_in c.args.table.now u c.order_fact.ensures.wider c.args.id c.args.sides fact c.requires.there c.requires.sides c.in_ok-fact.ensures.means in
    subst (AreFormulasIn u) (sym c.in_ok-clause.ensures.items) (All-cons (IsFormulaIn u) fact [] inside (All-nil (IsFormulaIn u)))

pub state-requires-clause-right : goal.state-requires-clause-right
state-requires-clause-right c =
    subst (λ (ls : Clause). IsRight LaDisequality [] none ls) (sym (clause_is (goal.at.state-requires-clause-right c).In_ok-clause))
    (fact_right c.args.table.now c.args.id c.args.sides c.requires.there c.requires.sides)

pub returns-clause-grows : goal.returns-clause-grows
returns-clause-grows c =
    let t = c.args.table.now in
    let u = c.order_fact.new.table in
    Grows-made t u u c.order_fact.ensures.wider c.args.log.now c.state.new.log c.requires.log (still (goal.at.returns-clause-grows c).After-order_fact) c.state.ensures.grows

pub returns-clause-tells : goal.returns-clause-tells
returns-clause-tells c =
    let t = c.args.table.now in
    let u = c.order_fact.new.table in
    let old = c.args.log.now in
    let new = c.state.new.log in
    let steps = c.args.steps.now.items in
    let all = c.state.new.steps.items in
    let clause : Clause = order_fact (term_at t c.args.sides.left) (term_at t c.args.sides.right) ∷ [] in
    let same = clause_is (goal.at.returns-clause-tells c).In_ok-clause in
    let right = still (goal.at.returns-clause-tells c).After-order_fact in
    on_ok_weaker c.state.result
    (λ tells. Tells-made t u u c.order_fact.ensures.wider old new c.requires.log right steps all (clause ∷ [])
    (Tells-same u u old new steps all (clause_at u c.in_ok-clause.clause.items ∷ []) (clause ∷ []) (ap (λ (ls : Clause). ls ∷ []) same) tells))
    c.state.ensures.tells
