-- The equality and both negations are formulas, and the disjunction is made of them.
use Rattle.std.proofs.Common.{◌≡◌, [], ◌∷◌, ap, ◌∙◌}
use Rattle.std.proofs.lemmas.Result.{IfOk-weaker}
use Rattle.spec_sorts.specs.Terms.{Or, Equal, of, pair, negated}
use Rattle.spec_derivations.specs.Orders.{order_fact}
use Rattle.term_core.specs.Tables.{term_at, IsIn, head_meant, clause_at, node_term}
use Rattle.term_core.proofs.TermsExtend.{term_at-kept}
use Rattle.term_clauses.specs.Stating.{Widens, NamesTerm}
use Rattle.term_clauses.proofs.Arguments.{Widens-trans}
use Rattle.term_clauses.proofs.Parts.{formula_kept}
use Rattle.clausify.specs.Orders.{order_at}
use Rattle.clausify.proofs.Equalities.{equality_formula, number_kept, order_kept, denied_in, or_fits}
use Rattle.clausify.proofs.sides.order_fact.Goals as goal
use Rattle.clausify.proofs.sides.order_fact.Goals.{In_ok-back, In_ok-node}

-- the table is wider
wide : (c : In_ok-back) → Widens c.args.table.now c.not_at_most-2.new.table
wide c = Widens-trans c.args.table.now c.not_at_most.new.table c.not_at_most-2.new.table c.not_at_most.ensures.wider c.not_at_most-2.ensures.wider

pub put-requires : goal.put-requires
put-requires c =
    let t = c.args.table.now in
    let u = c.not_at_most.new.table in
    let v = c.not_at_most-2.new.table in
    let x = c.args.sides in
    let is = c.requires.sides in
    let forth = denied_in t u c.not_at_most.ensures.wider x.left x.right c.in_ok-forth.forth is.left is.right c.in_ok-forth.ensures.means in
    let later = c.not_at_most-2.ensures.wider in
    let back = denied_in u v later x.right x.left c.in_ok-back.back
    (number_kept t u c.not_at_most.ensures.wider x.right is.right) (number_kept t u c.not_at_most.ensures.wider x.left is.left) c.in_ok-back.ensures.means in
    or_fits v c.in_ok-node.node c.args.id c.in_ok-forth.forth c.in_ok-back.back c.in_ok-node.ensures.0 c.in_ok-node.ensures.1
    (formula_kept t v (wide (goal.at.put-requires c).In_ok-back) c.args.id (equality_formula t c.args.id x c.requires.there is))
    (formula_kept u v later c.in_ok-forth.forth forth) back

pub returns-clause-wider : goal.returns-clause-wider
returns-clause-wider c =
    let kept = c.put.ensures.kept in
    Widens-trans c.args.table.now c.not_at_most-2.new.table c.put.new.self (wide (goal.at.returns-clause-wider c).In_ok-back) (record { terms = kept.0; declared = kept.1 })

-- what the node means
node_is : (c : In_ok-node) → node_term c.not_at_most-2.new.table c.in_ok-node.node ≡ order_fact (term_at c.args.table.now c.args.sides.left) (term_at c.args.table.now c.args.sides.right)
node_is c =
    let t = c.args.table.now in
    let u = c.not_at_most.new.table in
    let v = c.not_at_most-2.new.table in
    let x = c.args.sides in
    let is = c.requires.sides in
    let made = c.in_ok-node.ensures in
    let whole = Widens-trans t u v c.not_at_most.ensures.wider c.not_at_most-2.ensures.wider in
    let one : term_at v c.args.id ≡ pair Equal (term_at t x.left) (term_at t x.right) = term_at-kept t v whole.terms c.args.id c.requires.there.0 ∙ is.means in
    let two : term_at v c.in_ok-forth.forth ≡ negated (order_at t x.left x.right) = term_at-kept u v c.not_at_most-2.ensures.wider.terms c.in_ok-forth.forth c.in_ok-forth.ensures.means.0 ∙ c.in_ok-forth.ensures.means.1 in
    let three : term_at v c.in_ok-back.back ≡ negated (order_at t x.right x.left) = c.in_ok-back.ensures.means.1 ∙ ap negated (order_kept t u c.not_at_most.ensures.wider x.right x.left is.right is.left) in
    (λ i. of (head_meant v (made.0 i)) (clause_at v (made.1 i))) ∙ (λ i. of Or (one i ∷ two i ∷ three i ∷ []))

pub returns-clause-means : goal.returns-clause-means
returns-clause-means c =
    let t = c.args.table.now in
    let w = c.put.new.self in
    let x = c.args.sides in
    let means = node_is (goal.at.returns-clause-means c).In_ok-node in
    IfOk-weaker c.put.result (λ id. IsIn w id × (term_at w id ≡ node_term c.not_at_most-2.new.table c.in_ok-node.node)) (NamesTerm w (order_fact (term_at t x.left) (term_at t x.right)))
    (λ id put. (put.0, put.1 ∙ means)) c.put.ensures.there
