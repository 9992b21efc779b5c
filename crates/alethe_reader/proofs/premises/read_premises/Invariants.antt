-- The premises are those before, and those that are left.
use Rattle.std.proofs.Common.{◌≡◌}
use Rattle.spec_checking.specs.Reading.{premises_of}
use Rattle.smt_sexpr.specs.Items.{trees_meant, size_of}
use Rattle.alethe_reader.specs.Holding.{clauses_numbered, AreNumbers}
use Rattle.alethe_reader.specs.Parts.{known_entries}
use Rattle.alethe_reader.proofs.PremiseLists.{with_front}
use Rattle.alethe_reader.proofs.premises.read_premises.Given as goal

abbrev pub invariant-premises : goal.invariant-premises
invariant-premises l = record {
  gives : with_front (clauses_numbered l.state l.made.items) (premises_of (known_entries l.state) (trees_meant l.rest)) ≡ premises_of (known_entries l.state) (trees_meant l.trees);
  there : AreNumbers l.state l.made.items;
}

abbrev pub decreases-premises : goal.decreases-premises
decreases-premises l = size_of l.rest
