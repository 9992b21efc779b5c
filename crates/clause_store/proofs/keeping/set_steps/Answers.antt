-- Each has its step.
use Rattle.std.proofs.Common.{length, ap, arith}
use Rattle.clause_store.specs.Entries.{steps_of}
use Rattle.clause_store.proofs.Chosen.{chosen_steps}
use Rattle.clause_store.proofs.Places.{some_within}
use Rattle.clause_store.proofs.Stored.{clause_count, step_count}
use Rattle.clause_store.proofs.keeping.set_steps.Goals as goal

pub returns-clause-steps : goal.returns-clause-steps
returns-clause-steps c =
    let es = c.entries.entries.items in
    let i = c.entries.invariant in
    chosen_steps c.args.kept.now (steps_of es) (omega (arith, c.requires, step_count es, clause_count es, clause_count c.args.entries.now.items, ap length i.clauses))
    (λ j s e. i.given j s (omega (arith, some_within c.args.kept.now j s e, c.requires, c.entries-test.false, c.len-at-end.ensures, c.args.entries.now.ok.0)) e)
