-- A term of sort Bool is none; else the node has the parts.
use Rattle.std.proofs.Common.{◌≡◌, [], ◌∷◌, length, get_or, sym, ap, ◌∙◌, subst, arith}
use Rattle.spec_sorts.specs.Terms.{Ite, of}
use Rattle.term_core.specs.Tables.{term_at, AreIn, clause_at, head_meant, shape_of}
use Rattle.term_core.proofs.FactsOfNodes.{ite_fits}
use Rattle.term_clauses.proofs.Arguments.{no_number}
use Rattle.term_clauses.proofs.Choosing.{no_choice, choice_made, three_of_length}
use Rattle.term_clauses.proofs.choices.choice_of.Goals as goal

pub returns-then-is_formula : goal.returns-then-is_formula
returns-then-is_formula c = no_choice (term_at c.args.table.now c.args.id) (rw c.if-is_formula.true at c.is_formula.ensures)

pub returns-in-Ite : goal.returns-in-Ite
returns-in-Ite c =
    let t = c.args.table.now in
    let s = shape_of c.node-node.result.now in
    let ids = c.as_slice-arguments.result.now in
    let same : ids ≡ s.arguments = c.as_slice-arguments.ensures in
    let count : length ids ≡ 3 = ap length same ∙ ite_fits t s c.node-node.ensures.placed c.in-Ite.is in
    let parts : ids ≡ get_or ids 0 no_number ∷ get_or ids 1 no_number ∷ get_or ids 2 no_number ∷ [] = three_of_length ids no_number count in
    let there : AreIn t ids = subst (AreIn t) (sym same) c.node-node.ensures.placed.arguments in
    choice_made t c.args.id _ c.requires (there 0 no_number (omega (arith, count))) (there 1 no_number (omega (arith, count))) (there 2 no_number (omega (arith, count)))
    (c.node-node.ensures.means ∙ (λ i. of (head_meant t (c.in-Ite.is i)) (clause_at t (sym same i))) ∙ ap (λ xs. of Ite (clause_at t xs)) parts)
    (rw c.if-is_formula.false at c.is_formula.ensures)
