-- The parts that are made, before those of what is left.
use Rattle.std.proofs.Common.{◌≡◌, drop}
use Rattle.spec_arithmetic.specs.Contradictions.{parts_of}
use Rattle.linear_form.specs.Making.{with_front}
use Rattle.linear_form.specs.Sums.{parts_meant, HaveVariablesOf}
use Rattle.linear_form.specs.Clauses.{numbered_meant}
use Rattle.linear_form.proofs.clauses.make_parts.Given as goal

abbrev pub invariant-loop-pair : goal.invariant-loop-pair
invariant-loop-pair l = record {
  comes : parts_of (numbered_meant l.table l.numbers) ≡ with_front (parts_meant l.table l.parts.items) (parts_of (numbered_meant l.table (drop l.pair-index l.numbers)));
  there : HaveVariablesOf l.table l.parts.items;
}
