-- The denied equality and the order are put, which may make the table wider, and then their clause is stated.
use Rattle.std.proofs.Common.{◌≡◌, false, [], ◌∷◌, sym, ap, ◌∙◌, subst}
use Rattle.std.specs.Prelude.{Err, IfErr}
use Rattle.std.proofs.lemmas.List.Elements.{All-nil, All-cons}
use Rattle.std.proofs.lemmas.Result.{on_ok_weaker}
use Rattle.spec_sorts.specs.Terms.{negated}
use Rattle.spec_sorts.specs.Literals.{Clause}
use Rattle.spec_arithmetic.specs.Contradictions.{wide, la_generic}
use Rattle.spec_simplex.specs.Weights.{IsTakenOrWide}
use Rattle.term_core.specs.Tables.{term_at, clause_at}
use Rattle.term_core.proofs.TermsExtend.{term_at-kept}
use Rattle.proof_log.specs.Logs.{IsFormulaIn, AreFormulasIn, IsLogOf}
use Rattle.term_clauses.specs.Stating.{Widens}
use Rattle.term_clauses.proofs.Arguments.{Widens-trans}
use Rattle.term_clauses.proofs.Parts.{formula_kept, signed_in}
use Rattle.term_clauses.proofs.Growing.{Grows-wider, Grows-made, Tells-made, Tells-same}
use Rattle.clausify.specs.Orders.{order_at, order_clause, arguments_by}
use Rattle.clausify.specs.Overflows.{OnClauseOverflow}
use Rattle.clausify.proofs.Equalities.{number_kept, order_kept, order_in}
use Rattle.clausify.proofs.orders.state_order.Goals as goal
use Rattle.clausify.proofs.orders.state_order.Goals.{After-at_most, In_ok-clause}

-- the table is wider
wide_table : (c : After-at_most) → Widens c.args.table.now c.at_most.new.table
wide_table c = Widens-trans c.args.table.now c.signed.new.table c.at_most.new.table c.signed.ensures.wider c.at_most.ensures.wider

-- the log is in it
still : (c : After-at_most) → IsLogOf c.at_most.new.table c.args.log.now
still c = c.logs_hold_in_grown_tables.ensures.right c.args.table.now c.at_most.new.table c.args.log.now c.requires.log (wide_table c).terms

pub returns-in_err-denied-clause-grows : goal.returns-in_err-denied-clause-grows
returns-in_err-denied-clause-grows c =
    let t = c.args.table.now in
    let u = c.signed.new.table in
    let wider = c.signed.ensures.wider in
    Grows-wider [] t u c.args.log.now wider (c.logs_hold_in_grown_tables.ensures.right t u c.args.log.now c.requires.log wider.terms)

pub at_most-requires-clause-left : goal.at_most-requires-clause-left
at_most-requires-clause-left c = number_kept c.args.table.now c.signed.new.table c.signed.ensures.wider c.args.a c.requires.left

pub at_most-requires-clause-right : goal.at_most-requires-clause-right
at_most-requires-clause-right c = number_kept c.args.table.now c.signed.new.table c.signed.ensures.wider c.args.b c.requires.right

pub returns-in_err-order-clause-grows : goal.returns-in_err-order-clause-grows
returns-in_err-order-clause-grows c =
    let at = (goal.at.returns-in_err-order-clause-grows c).After-at_most in
    Grows-wider [] c.args.table.now c.at_most.new.table c.args.log.now (wide_table at) (still at)

pub returns-in_err-clause-clause-grows : goal.returns-in_err-clause-clause-grows
returns-in_err-clause-clause-grows c =
    let at = (goal.at.returns-in_err-clause-clause-grows c).After-at_most in
    Grows-wider [] c.args.table.now c.at_most.new.table c.args.log.now (wide_table at) (still at)

pub state_judged-requires-clause-log : goal.state_judged-requires-clause-log
state_judged-requires-clause-log c = still (goal.at.state_judged-requires-clause-log c).After-at_most

-- the clause is of both
clause_is : (c : In_ok-clause) → clause_at c.at_most.new.table c.in_ok-clause.clause.items ≡ order_clause c.args.table.now c.args.id c.args.a c.args.b
clause_is c =
    let t = c.args.table.now in
    let u = c.signed.new.table in
    let v = c.at_most.new.table in
    let denied = c.in_ok-denied.ensures.means in
    let one : term_at v c.in_ok-denied.denied ≡ negated (term_at t c.args.id) = term_at-kept u v c.at_most.ensures.wider.terms c.in_ok-denied.denied denied.0 ∙ denied.1 in
    let two : term_at v c.in_ok-order.order ≡ order_at t c.args.a c.args.b = c.in_ok-order.ensures.means.1 ∙ order_kept t u c.signed.ensures.wider c.args.a c.args.b c.requires.left c.requires.right in
    ap (clause_at v) c.in_ok-clause.ensures.items ∙ (λ i. one i ∷ two i ∷ [])

pub state_judged-requires-clause-clause : goal.state_judged-requires-clause-clause
state_judged-requires-clause-clause c =
    let t = c.args.table.now in
    let u = c.signed.new.table in
    let v = c.at_most.new.table in
    let later = c.at_most.ensures.wider in
    let denied = c.in_ok-denied.denied in
    let order = c.in_ok-order.order in
    let means = c.in_ok-denied.ensures.means in
    let one = formula_kept u v later denied (signed_in t u c.signed.ensures.wider false c.args.id denied c.requires.there means.0 means.1) in
    let two = order_in u v later c.args.a c.args.b order
    (number_kept t u c.signed.ensures.wider c.args.a c.requires.left) (number_kept t u c.signed.ensures.wider c.args.b c.requires.right) c.in_ok-order.ensures.means in
    subst (AreFormulasIn v) (sym c.in_ok-clause.ensures.items) (All-cons (IsFormulaIn v) denied (order ∷ []) one (All-cons (IsFormulaIn v) order [] two (All-nil (IsFormulaIn v))))

pub state_judged-requires-clause-taken : goal.state_judged-requires-clause-taken
state_judged-requires-clause-taken c =
    subst (λ (ls : Clause). IsTakenOrWide (la_generic ls (arguments_by c.args.weight))) (sym (clause_is (goal.at.state_judged-requires-clause-taken c).In_ok-clause)) c.requires.taken

pub returns-clause-grows : goal.returns-clause-grows
returns-clause-grows c =
    let at = (goal.at.returns-clause-grows c).After-at_most in
    let v = c.at_most.new.table in
    Grows-made c.args.table.now v v (wide_table at) c.args.log.now c.state_judged.new.log c.requires.log (still at) c.state_judged.ensures.grows

pub returns-clause-tells : goal.returns-clause-tells
returns-clause-tells c =
    let at = (goal.at.returns-clause-tells c).After-at_most in
    let t = c.args.table.now in
    let v = c.at_most.new.table in
    let old = c.args.log.now in
    let new = c.state_judged.new.log in
    let steps = c.args.steps.now.items in
    let all = c.state_judged.new.steps.items in
    let clause = order_clause t c.args.id c.args.a c.args.b in
    let same = clause_is (goal.at.returns-clause-tells c).In_ok-clause in
    on_ok_weaker c.state_judged.result
    (λ tells. Tells-made t v v (wide_table at) old new c.requires.log (still at) steps all (clause ∷ [])
    (Tells-same v v old new steps all (clause_at v c.in_ok-clause.clause.items ∷ []) (clause ∷ []) (ap (λ (ls : Clause). ls ∷ []) same) tells))
    c.state_judged.ensures.tells

pub returns-clause-wide : goal.returns-clause-wide
returns-clause-wide c =
    subst (λ (ls : Clause). IfErr c.state_judged.result (OnClauseOverflow (λ o. la_generic ls (arguments_by c.args.weight) ≡ Err (wide o)))) (clause_is (goal.at.returns-clause-wide c).In_ok-clause)
    c.state_judged.ensures.wide
