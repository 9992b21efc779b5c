-- The laws, each by its lemma.
use Rattle.std.proofs.Common.{◌<◌, List, subst, sym}
use Rattle.std.specs.Prelude.{All}
use Rattle.term_core.specs.declared.ids.Lit.{Lit}
use Rattle.clause_store.proofs.Places.{stays_at, stays_from}
use Rattle.clause_store.proofs.Kept.{all_chosen}
use Rattle.clause_store.proofs.laws.kept_clauses_go_by_places.Goals as goal

pub returns-clause-each : goal.returns-clause-each
returns-clause-each c kept clauses n count lt = stays_at kept clauses count n lt

pub returns-clause-all : goal.returns-clause-all
returns-clause-all c kept clauses m s count e = stays_from kept clauses count m s e

pub returns-clause-known : goal.returns-clause-known
returns-clause-known c kept s n vars count h e = subst (λ (cs : List (List Lit)). All (All (λ (l : Lit). l.term.0 < vars)) cs) (sym e) (all_chosen kept (All (λ (l : Lit). l.term.0 < vars)) s.clauses count h)
