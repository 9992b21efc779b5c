use Rattle.spec_sorts.specs.Signatures.{Signature}
use Rattle.smt_sexpr.specs.Items.{trees_meant}
use Rattle.term_core.specs.Tables.{TableView}
use Rattle.term_reader.specs.Names.{setting_meant}
use Rattle.term_reader.specs.Scopes.{ScopeMeans}
use Rattle.sort_check.specs.Walks.{sizes}
use Rattle.sort_check.proofs.Parameters.{AreRead}
use Rattle.sort_check.proofs.defining.read_parameters.Given as goal

abbrev pub invariant-parameters : goal.invariant-parameters
invariant-parameters l =
    (t : TableView) (s : Signature) → ScopeMeans t l.fn.scope s → AreRead (setting_meant l.fn.setting) s (trees_meant l.fn.parameters) (trees_meant l.rest) t l.names l.sorts.items

abbrev pub decreases-parameters : goal.decreases-parameters
decreases-parameters l = sizes (trees_meant l.rest)
