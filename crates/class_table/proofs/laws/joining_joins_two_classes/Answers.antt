-- Either class is renumbered, and the same terms are together.
use Rattle.class_table.proofs.Joined.{length-joined, joined_same}
use Rattle.class_table.proofs.laws.joining_joins_two_classes.Goals as goal

pub returns-clause-count : goal.returns-clause-count
returns-clause-count c = length-joined

pub returns-clause-same : goal.returns-clause-same
returns-clause-same c = joined_same
