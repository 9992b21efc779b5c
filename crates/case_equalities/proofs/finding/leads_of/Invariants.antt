-- The leads up to here are right.
use Rattle.std.proofs.Common.{All}
use Rattle.case_equalities.specs.Leads.{IsLeadOver}
use Rattle.case_equalities.proofs.finding.leads_of.Given as goal

abbrev pub invariant-disjunctions : goal.invariant-disjunctions
invariant-disjunctions l = All (IsLeadOver l.table l.roots) l.leads.items
