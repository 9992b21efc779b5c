-- The fact comes first, then one order, and then the other.
use Rattle.std.proofs.Common.{◌≡◌, List, [], ◌∷◌, sym, ap, ◌∙◌, subst}
use Rattle.std.specs.Prelude.{Err}
use Rattle.std.proofs.lemmas.Result.{on_ok_weaker}
use Rattle.spec_numbers.specs.Fractions.{opposite}
use Rattle.spec_sorts.specs.Literals.{Clause}
use Rattle.spec_arithmetic.specs.Contradictions.{wide, la_generic}
use Rattle.spec_derivations.specs.Orders.{order_fact, order_clauses}
use Rattle.term_core.specs.Tables.{TableView, term_at}
use Rattle.proof_log.specs.Logs.{Logged}
use Rattle.term_clauses.specs.Growth.{Grows}
use Rattle.term_clauses.specs.Stating.{Widens}
use Rattle.term_clauses.proofs.Arguments.{Widens-trans}
use Rattle.term_clauses.proofs.Parts.{formula_kept}
use Rattle.term_clauses.proofs.Growing.{Grows-self, Grows-trans, Tells-none, Tells-trans, Tells-same}
use Rattle.clausify.specs.Orders.{order_clause, arguments_by}
use Rattle.spec_causes.specs.Checks.{IsOverflowAmong}
use Rattle.clausify.proofs.Equalities.{equality_formula, clauses_are, number_kept, sides_kept, forth_judged, back_judged, clause_kept}
use Rattle.clausify.proofs.Overflowing.{wide_weaker, passed_on, forth_leaves, back_leaves}
use Rattle.clausify.proofs.orders.state_orders.Goals as goal
use Rattle.clausify.proofs.orders.state_orders.Goals.{After-state_fact, After-state_order}

-- the table is wider
widened : (t u : TableView) (a b : List Logged) → Grows [] t u a b → Widens t u
widened t u a b g = record { terms = g.table; declared = g.declared }

first_wide : (c : After-state_fact) → Widens c.args.table.now c.state_fact.new.table
first_wide c = widened c.args.table.now c.state_fact.new.table c.args.log.now c.state_fact.new.log c.state_fact.ensures.grows

second_wide : (c : After-state_order) → Widens c.args.table.now c.state_order.new.table
second_wide c =
    let t = c.args.table.now in
    let u = c.state_fact.new.table in
    let v = c.state_order.new.table in
    Widens-trans t u v (widened t u c.args.log.now c.state_fact.new.log c.state_fact.ensures.grows) (widened u v c.state_fact.new.log c.state_order.new.log c.state_order.ensures.grows)

pub returns-in_default-clause-grows : goal.returns-in_default-clause-grows
returns-in_default-clause-grows c = Grows-self [] c.args.table.now c.args.log.now c.requires.log

pub returns-in_default-clause-tells : goal.returns-in_default-clause-tells
returns-in_default-clause-tells c =
    let t = c.args.table.now in
    let log = c.args.log.now in
    let steps = c.args.steps.now.items in
    Tells-same t t log log steps steps [] (order_clauses (term_at t c.args.id)) (sym c.in_default.ensures.1) (Tells-none t log steps)

-- the first order
pub state_order-requires-clause-there : goal.state_order-requires-clause-there
state_order-requires-clause-there c =
    let t = c.args.table.now in
    formula_kept t c.state_fact.new.table (first_wide (goal.at.state_order-requires-clause-there c).After-state_fact) c.args.id (equality_formula t c.args.id c.in-Some.sides c.requires.there c.in-Some.ensures)

pub state_order-requires-clause-left : goal.state_order-requires-clause-left
state_order-requires-clause-left c = number_kept c.args.table.now c.state_fact.new.table (first_wide (goal.at.state_order-requires-clause-left c).After-state_fact) c.in-Some.sides.left c.in-Some.ensures.left

pub state_order-requires-clause-right : goal.state_order-requires-clause-right
state_order-requires-clause-right c = number_kept c.args.table.now c.state_fact.new.table (first_wide (goal.at.state_order-requires-clause-right c).After-state_fact) c.in-Some.sides.right c.in-Some.ensures.right

pub state_order-requires-clause-taken : goal.state_order-requires-clause-taken
state_order-requires-clause-taken c =
    let t = c.args.table.now in
    let u = c.state_fact.new.table in
    let x = c.in-Some.sides in
    forth_judged u c.args.id x c.one-weight.result (sides_kept t u (first_wide (goal.at.state_order-requires-clause-taken c).After-state_fact) c.args.id x c.requires.there.0 c.in-Some.ensures) c.one-weight.ensures

pub returns-in_err-state_order-clause-grows : goal.returns-in_err-state_order-clause-grows
returns-in_err-state_order-clause-grows c =
    Grows-trans [] c.args.table.now c.state_fact.new.table c.state_order.new.table c.args.log.now c.state_fact.new.log c.state_order.new.log c.state_fact.ensures.grows c.state_order.ensures.grows

pub returns-in_err-state_order-clause-wide : goal.returns-in_err-state_order-clause-wide
returns-in_err-state_order-clause-wide c =
    let t = c.args.table.now in
    let u = c.state_fact.new.table in
    let id = c.args.id in
    let x = c.in-Some.sides in
    let is = c.in-Some.ensures in
    let w = c.one-weight.result in
    let same = clause_kept t u (first_wide (goal.at.returns-in_err-state_order-clause-wide c).After-state_fact) id x.left x.right c.requires.there.0 is.left is.right in
    passed_on (λ o. la_generic (order_clause u id x.left x.right) (arguments_by w) ≡ Err (wide o)) (IsOverflowAmong (term_at t id ∷ [])) c.from_residual-in_err-state_order.result c.in_err-state_order.field-0.0 c.from_residual-in_err-state_order.ensures.1
    (λ o e. forth_leaves t id x is w c.one-weight.ensures o (subst (λ (ls : Clause). la_generic ls (arguments_by w) ≡ Err (wide o)) same e)) c.in_err-state_order.ensures.wide

-- and the other
pub state_order-requires-2-clause-there : goal.state_order-requires-2-clause-there
state_order-requires-2-clause-there c =
    let t = c.args.table.now in
    formula_kept t c.state_order.new.table (second_wide (goal.at.state_order-requires-2-clause-there c).After-state_order) c.args.id (equality_formula t c.args.id c.in-Some.sides c.requires.there c.in-Some.ensures)

pub state_order-requires-2-clause-left : goal.state_order-requires-2-clause-left
state_order-requires-2-clause-left c = number_kept c.args.table.now c.state_order.new.table (second_wide (goal.at.state_order-requires-2-clause-left c).After-state_order) c.in-Some.sides.right c.in-Some.ensures.right

pub state_order-requires-2-clause-right : goal.state_order-requires-2-clause-right
state_order-requires-2-clause-right c = number_kept c.args.table.now c.state_order.new.table (second_wide (goal.at.state_order-requires-2-clause-right c).After-state_order) c.in-Some.sides.left c.in-Some.ensures.left

pub state_order-requires-2-clause-taken : goal.state_order-requires-2-clause-taken
state_order-requires-2-clause-taken c =
    let t = c.args.table.now in
    let v = c.state_order.new.table in
    let x = c.in-Some.sides in
    back_judged v c.args.id x c.neg.result (sides_kept t v (second_wide (goal.at.state_order-requires-2-clause-taken c).After-state_order) c.args.id x c.requires.there.0 c.in-Some.ensures) (c.neg.ensures ∙ ap opposite c.one-weight.ensures)

pub returns-clause-grows : goal.returns-clause-grows
returns-clause-grows c =
    let t = c.args.table.now in
    let u = c.state_fact.new.table in
    let v = c.state_order.new.table in
    let w = c.state_order-2.new.table in
    let a = c.args.log.now in
    let b = c.state_fact.new.log in
    let d = c.state_order.new.log in
    let e = c.state_order-2.new.log in
    Grows-trans [] t u w a b e c.state_fact.ensures.grows (Grows-trans [] u v w b d e c.state_order.ensures.grows c.state_order-2.ensures.grows)

pub returns-clause-tells : goal.returns-clause-tells
returns-clause-tells c =
    let at = goal.at.returns-clause-tells c in
    let t = c.args.table.now in
    let u = c.state_fact.new.table in
    let v = c.state_order.new.table in
    let w = c.state_order-2.new.table in
    let a = c.args.log.now in
    let b = c.state_fact.new.log in
    let d = c.state_order.new.log in
    let e = c.state_order-2.new.log in
    let id = c.args.id in
    let x = c.in-Some.sides in
    let is = c.in-Some.ensures in
    let start = c.args.steps.now.items in
    let some = c.state_fact.new.steps.items in
    let more = c.state_order.new.steps.items in
    let all = c.state_order-2.new.steps.items in
    let fact : Clause = order_fact (term_at t x.left) (term_at t x.right) ∷ [] in
    let one = order_clause u id x.left x.right in
    let two = order_clause v id x.right x.left in
    let one_is = clause_kept t u (first_wide at.After-state_fact) id x.left x.right c.requires.there.0 is.left is.right in
    let two_is = clause_kept t v (second_wide at.After-state_order) id x.right x.left c.requires.there.0 is.right is.left in
    let same : fact ∷ one ∷ two ∷ [] ≡ order_clauses (term_at t id) = (λ i. fact ∷ one_is i ∷ two_is i ∷ []) ∙ sym (clauses_are t id x c.requires.there is) in
    on_ok_weaker c.state_order-2.result
    (λ tells. Tells-same t w a e start all (fact ∷ one ∷ two ∷ []) (order_clauses (term_at t id)) same
    (Tells-trans t u w a b e start some all (fact ∷ []) (one ∷ two ∷ []) c.in_ok-state_fact.ensures.tells
    (Tells-trans u v w b d e some more all (one ∷ []) (two ∷ []) c.in_ok-state_order.ensures.tells tells)))
    c.state_order-2.ensures.tells

pub returns-clause-wide : goal.returns-clause-wide
returns-clause-wide c =
    let t = c.args.table.now in
    let v = c.state_order.new.table in
    let id = c.args.id in
    let x = c.in-Some.sides in
    let is = c.in-Some.ensures in
    let w = c.neg.result in
    let same = clause_kept t v (second_wide (goal.at.returns-clause-wide c).After-state_order) id x.right x.left c.requires.there.0 is.right is.left in
    wide_weaker c.state_order-2.result (λ o. la_generic (order_clause v id x.right x.left) (arguments_by w) ≡ Err (wide o)) (IsOverflowAmong (term_at t id ∷ []))
    (λ o e. back_leaves t id x is w (c.neg.ensures ∙ ap opposite c.one-weight.ensures) o (subst (λ (ls : Clause). la_generic ls (arguments_by w) ≡ Err (wide o)) same e)) c.state_order-2.ensures.wide
