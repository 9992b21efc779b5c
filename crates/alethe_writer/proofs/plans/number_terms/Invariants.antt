-- The numbers up to here, and those to come.
use Rattle.std.proofs.Common.{◌≡◌, ◌+◌, ◌≤◌, ◌++◌, drop}
use Rattle.spec_proof_texts.specs.Plans.{counted, definition_marks}
use Rattle.alethe_writer.proofs.plans.number_terms.Given as goal

abbrev pub invariant-terms : goal.invariant-terms
invariant-terms l = record {
  so_far : l.numbers.items ++ counted l.counter.next (drop l.number (definition_marks l.table.terms l.printed l.heights)) ≡ counted 1 (definition_marks l.table.terms l.printed l.heights);
  below : l.counter.next ≤ l.number + 1;
}
