use Rattle.std.proofs.Common.{◌≡◌}
use Rattle.spec_sorts.specs.Forms.{are_attributes, a_keyword}
use Rattle.smt_sexpr.specs.Items.{trees_meant, size_of}
use Rattle.term_reader.specs.Forms.{next_meant}
use Rattle.term_reader.proofs.attributes.are_attributes.Given as goal

abbrev pub invariant-attributes : goal.invariant-attributes
invariant-attributes l = are_attributes a_keyword (trees_meant l.fn.attributes) ≡ are_attributes (next_meant l.next) (trees_meant l.rest)

abbrev pub decreases-attributes : goal.decreases-attributes
decreases-attributes l = size_of l.rest
