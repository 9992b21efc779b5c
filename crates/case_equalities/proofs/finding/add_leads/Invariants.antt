-- The leads up to here came of the disjunction.
use Rattle.case_equalities.specs.Finding.{AddsLeads}
use Rattle.case_equalities.proofs.finding.add_leads.Given as goal

abbrev pub invariant-pairs : goal.invariant-pairs
invariant-pairs l = AddsLeads l.table l.marks l.disjunction l.fn.leads.items l.leads.items
