-- What a store's entries mean.
use Rattle.std.specs.Prelude.{List, [], map}
use Rattle.term_core.specs.declared.ids.Lit.{Lit}
use Rattle.proof_log.specs.declared.premises.StepId.{StepId}
use Rattle.clause_store.specs.declared.entry.StoredClause.{StoredClause}
use Rattle.clause_store.specs.Stores.{StoreView}

-- the clauses of entries, in order
abbrev pub clauses_of : List StoredClause → List (List Lit)
clauses_of es = map (λ e. e.literals.items) es

-- their steps, in order
abbrev pub steps_of : List StoredClause → List StepId
steps_of es = map (λ e. e.step) es

-- the store of entries, which relies on nothing that was seen and watches nothing
abbrev pub bare : List StoredClause → StoreView
bare es = record { clauses = clauses_of es; steps = steps_of es; seen = []; pairs = [] }
