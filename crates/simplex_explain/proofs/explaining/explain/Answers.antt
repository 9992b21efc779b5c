-- The rule takes the clause, unless an operation leaves the bound on numbers.
use Rattle.simplex_explain.proofs.Judged.{refuted_taken, not_shape, not_contradicted}
use Rattle.simplex_explain.proofs.explaining.explain.Goals as goal

pub unreachable-requires : goal.unreachable-requires
unreachable-requires g c =
    not_shape c.args.table.now c.args.reasons.now (refuted_taken c.args.table.now c.args.reasons.now c.weights_refute_constraints.ensures c.requires.1.1)
    (rw c.in-Err-Shape.field-0-is at c.in-Err-Shape.ensures.fault)

pub unreachable-requires-in-Err-NoContradiction : goal.unreachable-requires-in-Err-NoContradiction
unreachable-requires-in-Err-NoContradiction g c =
    not_contradicted c.args.table.now c.args.reasons.now (refuted_taken c.args.table.now c.args.reasons.now c.weights_refute_constraints.ensures c.requires.1.1)
    (rw c.in-Err-NoContradiction.field-0-is at c.in-Err-NoContradiction.ensures.fault)
