-- The first of all names is the first of those that are left.
use Rattle.std.proofs.Common.{◌≡◌}
use Rattle.spec_sorts.specs.Forms.{a_keyword, named_words}
use Rattle.spec_commands.specs.Labels.{first_name_of}
use Rattle.smt_sexpr.specs.Items.{trees_meant, size_of}
use Rattle.term_reader.specs.Forms.{next_meant}
use Rattle.assertion_stack.proofs.labels.first_named.Given as goal

abbrev pub invariant-attributes : goal.invariant-attributes
invariant-attributes l = first_name_of (named_words a_keyword (trees_meant l.attributes)) ≡ first_name_of (named_words (next_meant l.next) (trees_meant l.rest))

abbrev pub decreases-attributes : goal.decreases-attributes
decreases-attributes l = size_of l.rest
