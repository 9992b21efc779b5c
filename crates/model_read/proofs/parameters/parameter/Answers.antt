-- A parameter in a list of two, or another text.
use Rattle.std.proofs.Common.{sym, ◌∙◌}
use Rattle.spec_model_files.specs.declared.ModelKind.TheVariants.{BadShape}
use Rattle.spec_model_files.specs.Definitions.{parameter_read}
use Rattle.smt_sexpr.specs.Items.{trees_meant, tree_meant}
use Rattle.term_core.specs.Symbols.{sort_meant}
use Rattle.model_read.proofs.Stopping.{fault_there}
use Rattle.model_read.proofs.ParameterTexts.{parameter_paired, parameter_none, parameter_atom}
use Rattle.model_read.proofs.parameters.parameter.Goals as goal

pub returns-in-Atom-clause-reads : goal.returns-in-Atom-clause-reads
returns-in-Atom-clause-reads c g m =
    let s = sort_meant c.args.table.now.sorts c.args.sort in
    sym (fault_there (parameter_read g c.args.names.now s (tree_meant c.args.text)) c.fault_at.result c.from.result c.in-Atom.at BadShape c.fault_at.ensures c.from.ensures (parameter_atom g c.args.names.now s (tree_meant c.args.text) c.in-Atom.at _ _ c.in-Atom.ensures.seen))

pub returns-in-Some-clause-reads : goal.returns-in-Some-clause-reads
returns-in-Some-clause-reads c g m =
    let s = sort_meant c.args.table.now.sorts c.args.sort in
    c.parameter_by.ensures.reads g m
    ∙ sym (parameter_paired g c.args.names.now s (tree_meant c.args.text) c.in-List.at c.in-List.field-2 (trees_meant c.in-List.inside) c.in-List.ensures.seen (tree_meant c.in-Some.name, tree_meant c.in-Some.sort_text) c.in-Some.ensures)

pub returns-in-None-clause-reads : goal.returns-in-None-clause-reads
returns-in-None-clause-reads c g m =
    let s = sort_meant c.args.table.now.sorts c.args.sort in
    sym (fault_there (parameter_read g c.args.names.now s (tree_meant c.args.text)) c.fault_at-in-None.result c.from-in-None.result c.in-List.at BadShape c.fault_at-in-None.ensures c.from-in-None.ensures
    (parameter_none g c.args.names.now s (tree_meant c.args.text) c.in-List.at c.in-List.field-2 (trees_meant c.in-List.inside) c.in-List.ensures.seen c.in-None.ensures))
