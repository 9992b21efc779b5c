-- A term more is watched.
use Rattle.std.proofs.Common.{sym, subst}
use Rattle.term_core.specs.Tables.{shape_of}
use Rattle.congruence_relation.specs.Relation.{AreFactsOf}
use Rattle.congruence_closure.specs.Closure.{ClosureState, ClosureView}
use Rattle.congruence.proofs.Terms.{more_listed}
use Rattle.congruence.proofs.theory.CongruenceTheory.watch_term.Goals as goal

pub returns-clause-with : goal.returns-clause-with
returns-clause-with c = subst (λ (s : ClosureState). AreFactsOf c.args.table.now s.facts) (sym c.in_ok-watch.ensures.ok)
    (more_listed c.args.table.now c.self.inside.closure.now.facts (record { term = c.args.id; shape = shape_of c.node.result.now; takes_part = c.takes_part-part.result }) (subst (λ (v : ClosureView). AreFactsOf c.args.table.now v.now.facts) (sym c.self.view_is) c.requires.with) c.requires.term.0 c.node.ensures.placed (sym c.node.ensures.means) c.takes_part-part.ensures)
