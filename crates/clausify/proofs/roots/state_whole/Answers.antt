-- The clauses of any search come first, and then those of the orders.
use Rattle.std.proofs.Common.{[], ◌∷◌, ap, subst}
use Rattle.std.specs.Prelude.{IfErr}
use Rattle.std.proofs.lemmas.Result.{on_ok_weaker}
use Rattle.spec_sorts.specs.Terms.{Term}
use Rattle.spec_derivations.specs.Base.{defining_clauses}
use Rattle.spec_derivations.specs.Orders.{order_clauses}
use Rattle.term_core.specs.Tables.{term_at}
use Rattle.term_core.proofs.TermsExtend.{term_at-kept}
use Rattle.term_clauses.proofs.Choosing.{term_kept}
use Rattle.term_clauses.proofs.Growing.{Grows-trans, Tells-trans, Tells-same}
use Rattle.clausify.specs.Overflows.{OnClauseOverflow}
use Rattle.spec_causes.specs.Checks.{IsOverflowAmong}
use Rattle.clausify.proofs.roots.state_whole.Goals as goal

pub state_orders-requires-clause-there : goal.state_orders-requires-clause-there
state_orders-requires-clause-there c =
    let g = c.define.ensures.grows in
    term_kept c.args.table.now c.define.new.table (record { terms = g.table; declared = g.declared }) c.args.id c.requires.there

pub returns-clause-grows : goal.returns-clause-grows
returns-clause-grows c = Grows-trans [] c.args.table.now c.define.new.table c.state_orders.new.table c.args.log.now c.define.new.log c.state_orders.new.log c.define.ensures.grows c.state_orders.ensures.grows

pub returns-clause-tells : goal.returns-clause-tells
returns-clause-tells c =
    let t = c.args.table.now in
    let u = c.define.new.table in
    let v = c.state_orders.new.table in
    let a = c.args.log.now in
    let b = c.define.new.log in
    let d = c.state_orders.new.log in
    let id = c.args.id in
    let start = c.args.steps.now.items in
    let some = c.define.new.steps.items in
    let all = c.state_orders.new.steps.items in
    let same = ap order_clauses (term_at-kept t u c.define.ensures.grows.table id c.requires.there.0) in
    on_ok_weaker c.state_orders.result
    (λ tells. Tells-trans t u v a b d start some all (defining_clauses (term_at t id)) (order_clauses (term_at t id)) c.in_ok-define.ensures.tells
    (Tells-same u v b d some all (order_clauses (term_at u id)) (order_clauses (term_at t id)) same tells))
    c.state_orders.ensures.tells

pub returns-clause-wide : goal.returns-clause-wide
returns-clause-wide c =
    subst (λ (e : Term). IfErr c.state_orders.result (OnClauseOverflow (IsOverflowAmong (e ∷ []))))
    (term_at-kept c.args.table.now c.define.new.table c.define.ensures.grows.table c.args.id c.requires.there.0) c.state_orders.ensures.wide
