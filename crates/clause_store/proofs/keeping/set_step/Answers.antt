-- The literals are as they were.
use Rattle.std.proofs.Common.{◌∙◌, [], sym, ap}
use Rattle.std.proofs.lemmas.List.{get_or-map, map-set}
use Rattle.clause_store.specs.declared.entry.StoredClause.{StoredClause}
use Rattle.clause_store.specs.Entries.{steps_of}
use Rattle.clause_store.specs.Keeping.{with_step}
use Rattle.clause_store.proofs.Kept.{same_literals}
use Rattle.clause_store.proofs.keeping.set_step.Goals as goal

pub returns-in-Some-clause-clauses : goal.returns-in-Some-clause-clauses
returns-in-Some-clause-clauses c =
    let es = c.args.entries.now.items in
    same_literals es c.args.at _ (ap (λ (e : StoredClause). e.literals.items) c.index_mut.ensures.value ∙ sym (get_or-map (λ (e : StoredClause). e.literals.items) es c.args.at c.index_mut.result.now [] c.requires))

pub returns-in-Some-clause-steps : goal.returns-in-Some-clause-steps
returns-in-Some-clause-steps c = map-set (λ (e : StoredClause). e.step) c.args.entries.now.items c.args.at _ ∙ ap (with_step (steps_of c.args.entries.now.items) c.args.at) (sym c.in-Some.is)
