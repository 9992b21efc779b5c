-- The batch goes on, and what was found is found still.
use Rattle.std.specs.Prelude.{All}
use Rattle.proof_log.specs.Theories.{derived}
use Rattle.case_equalities.specs.Leads.{IsCaseEquality}
use Rattle.case_equalities.specs.Stating.{batch_of, GoesOn}
use Rattle.case_equalities.proofs.stating.state_all.Given as goal

abbrev pub ghost-state : goal.ghost-state
ghost-state g a = g.origin

abbrev pub invariant-leads : goal.invariant-leads
invariant-leads g l = record {
  goes : GoesOn (batch_of g.origin) (derived l.fn.table l.fn.log) (derived l.table l.log);
  found : All (IsCaseEquality l.table l.log g.origin.roots) l.found.items;
}
