-- One part after the other.
use Rattle.clause_store.proofs.Atwork.{works_on}
use Rattle.clause_store.proofs.parts.StoreParts.attach_all.Goals as goal

pub returns-in_err-attach_next-clause-goes : goal.returns-in_err-attach_next-clause-goes
returns-in_err-attach_next-clause-goes c = works_on c.args.self.now c.clauses.self c.attach_next.new.self c.args.trail.now c.clauses.trail c.attach_next.new.trail c.clauses.invariant.goes c.attach_next.ensures.goes

pub returns-then-branch-clause-goes : goal.returns-then-branch-clause-goes
returns-then-branch-clause-goes c = works_on c.args.self.now c.clauses.self c.attach_next.new.self c.args.trail.now c.clauses.trail c.attach_next.new.trail c.clauses.invariant.goes c.attach_next.ensures.goes

pub clauses-preserved : goal.clauses-preserved
clauses-preserved c = record {
  work = c.attach_next.ensures.work;
  goes = works_on c.args.self.now c.clauses.self c.attach_next.new.self c.args.trail.now c.clauses.trail c.attach_next.new.trail c.clauses.invariant.goes c.attach_next.ensures.goes;
}
