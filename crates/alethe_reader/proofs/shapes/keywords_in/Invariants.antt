-- What all keywords say is what those that are left say after those before.
use Rattle.std.proofs.Common.{◌≡◌}
use Rattle.spec_checking.specs.Commands.{no_keywords, keywords_in}
use Rattle.smt_sexpr.specs.Items.{trees_meant, size_of}
use Rattle.alethe_reader.specs.Shapes.{keywords_view}
use Rattle.alethe_reader.proofs.shapes.keywords_in.Given as goal

abbrev pub invariant-keywords : goal.invariant-keywords
invariant-keywords l = keywords_in no_keywords (trees_meant l.trees) ≡ keywords_in (keywords_view l.keywords) (trees_meant l.rest)

abbrev pub decreases-keywords : goal.decreases-keywords
decreases-keywords l = size_of l.rest
