-- A definition in a list, or another text.
use Rattle.std.proofs.Common.{sym, subst}
use Rattle.spec_model_files.specs.declared.ModelKind.TheVariants.{BadShape}
use Rattle.spec_model_files.specs.Faults.{ReadModel}
use Rattle.spec_model_files.specs.Definitions.{DefinedSymbol, definition_read}
use Rattle.smt_sexpr.specs.Items.{trees_meant, tree_meant}
use Rattle.model_read.specs.Shapes.{definition_view}
use Rattle.model_read.specs.Values.{GivesAs}
use Rattle.model_read.specs.Definitions.{definition_meant}
use Rattle.model_read.proofs.Stopping.{fault_there}
use Rattle.model_read.proofs.DefinitionTexts.{definition_parted, definition_none, definition_atom}
use Rattle.model_read.proofs.definitions.definition.Goals as goal

pub returns-in-Atom-clause-reads : goal.returns-in-Atom-clause-reads
returns-in-Atom-clause-reads c g names m marked =
    fault_there (definition_read g names (tree_meant c.args.text)) c.fault_at.result c.from.result c.in-Atom.at BadShape c.fault_at.ensures c.from.ensures (definition_atom g names (tree_meant c.args.text) c.in-Atom.at _ _ c.in-Atom.ensures.seen)

pub returns-in-Some-clause-reads : goal.returns-in-Some-clause-reads
returns-in-Some-clause-reads c g names m marked =
    subst (λ (r : ReadModel DefinedSymbol). GivesAs (definition_meant c.args.table.now) c.definition_by.result r)
    (sym (definition_parted g names (tree_meant c.args.text) c.in-List.at c.in-List.field-2 (trees_meant c.in-List.inside) c.in-List.ensures.seen (definition_view c.in-Some.parts) c.in-Some.ensures))
    (c.definition_by.ensures.reads g names m marked)

pub returns-in-None-clause-reads : goal.returns-in-None-clause-reads
returns-in-None-clause-reads c g names m marked =
    fault_there (definition_read g names (tree_meant c.args.text)) c.fault_at-in-None.result c.from-in-None.result c.in-List.at BadShape c.fault_at-in-None.ensures c.from-in-None.ensures
    (definition_none g names (tree_meant c.args.text) c.in-List.at c.in-List.field-2 (trees_meant c.in-List.inside) c.in-List.ensures.seen c.in-None.ensures)
