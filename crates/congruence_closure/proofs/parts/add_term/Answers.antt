-- Classes have terms up to this one, the forest and the room no fewer.
use Rattle.std.proofs.Common.{suc, length, ap, arith}
use Rattle.explain_forest.specs.Forest.{ForestState}
use Rattle.class_table.proofs.Joined.{length-with_terms}
use Rattle.congruence_closure.proofs.parts.add_term.Goals as goal

pub returns-clause-fits : goal.returns-clause-fits
returns-clause-fits c = λ le.
    omega (arith, le, ap length c.in_ok-add-3.ensures.ok, length-with_terms c.args.classes.now.numbers (suc c.args.t.0), ap (λ (f : ForestState). f.terms) c.in_ok-add.ensures.ok)

pub returns-clause-room : goal.returns-clause-room
returns-clause-room c = λ le.
    omega (arith, le, ap length c.in_ok-add-3.ensures.ok, length-with_terms c.args.classes.now.numbers (suc c.args.t.0), c.in_ok-add-2.ensures.ok, c.in_ok-add-2.ensures.kept)

pub returns-clause-ok : goal.returns-clause-ok
returns-clause-ok c = omega (arith, ap length c.in_ok-add-3.ensures.ok, length-with_terms c.args.classes.now.numbers (suc c.args.t.0))
