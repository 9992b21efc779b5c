-- One of all names is at the offset where one of those that are left does.
use Rattle.std.proofs.Common.{◌≡◌}
use Rattle.spec_sorts.specs.Forms.{a_keyword, named_words}
use Rattle.spec_checking.specs.Reading.{one_is_at}
use Rattle.smt_sexpr.specs.Items.{trees_meant, size_of}
use Rattle.term_reader.specs.Forms.{next_meant}
use Rattle.alethe_reader.proofs.naming.attributes_name_at.Given as goal

abbrev pub invariant-attributes : goal.invariant-attributes
invariant-attributes l = one_is_at (named_words a_keyword (trees_meant l.attributes)) l.at ≡ one_is_at (named_words (next_meant l.next) (trees_meant l.rest)) l.at

abbrev pub decreases-attributes : goal.decreases-attributes
decreases-attributes l = size_of l.rest
