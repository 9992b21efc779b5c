-- A list of as many parameters, or another text.
use Rattle.std.proofs.Common.{◌∙◌, ◌==◌, ℕ, sym, ap, subst, length}
use Rattle.std.proofs.lemmas.List.{length-map}
use Rattle.spec_model_files.specs.declared.ModelKind.TheVariants.{BadShape, WrongSort}
use Rattle.spec_model_files.specs.Faults.{ReadModel}
use Rattle.spec_model_files.specs.Bodies.{tree_count, Parameters}
use Rattle.spec_model_files.specs.Definitions.{parameter_list_read}
use Rattle.smt_sexpr.specs.Items.{trees_meant, tree_meant}
use Rattle.term_core.specs.Symbols.{sort_meant, sorts_meant}
use Rattle.model_read.specs.Bodies.{named_sorts}
use Rattle.model_read.specs.Values.{GivesAs}
use Rattle.model_read.proofs.Stopping.{fault_there}
use Rattle.model_read.proofs.Counts.{count_is}
use Rattle.model_read.proofs.ParameterTexts.{list_many, list_other, list_atom}
use Rattle.model_read.proofs.parameters.parameter_list.Goals as goal

pub returns-in-Atom-clause-reads : goal.returns-in-Atom-clause-reads
returns-in-Atom-clause-reads c g m =
    let ss = sorts_meant c.args.table.now.sorts c.args.sorts.now in
    fault_there (parameter_list_read g ss (tree_meant c.args.text)) c.fault_at.result c.from.result c.in-Atom.at BadShape c.fault_at.ensures c.from.ensures (list_atom g (tree_meant c.args.text) c.in-Atom.at _ _ ss c.in-Atom.ensures.seen)

pub parameters-requires-clause-count : goal.parameters-requires-clause-count
parameters-requires-clause-count c = count_is (trees_meant c.in-List.inside) (length c.args.sorts.now) (sym c.are_many.ensures ∙ c.if-are_many.true)

pub returns-then-are_many-clause-reads : goal.returns-then-are_many-clause-reads
returns-then-are_many-clause-reads c g m =
    let ss = sorts_meant c.args.table.now.sorts c.args.sorts.now in
    let long = length-map c.args.sorts.now (sort_meant c.args.table.now.sorts) in
    subst (λ (r : ReadModel Parameters). GivesAs (λ n. named_sorts n ss) c.parameters.result r)
    (sym (list_many g (tree_meant c.args.text) c.in-List.at c.in-List.field-2 (trees_meant c.in-List.inside) ss c.in-List.ensures.seen
    (ap (λ (n : ℕ). tree_count (trees_meant c.in-List.inside) == n) long ∙ sym c.are_many.ensures ∙ c.if-are_many.true))) (c.parameters.ensures.reads g m)

pub returns-else-are_many-clause-reads : goal.returns-else-are_many-clause-reads
returns-else-are_many-clause-reads c g m =
    let ss = sorts_meant c.args.table.now.sorts c.args.sorts.now in
    let long = length-map c.args.sorts.now (sort_meant c.args.table.now.sorts) in
    fault_there (parameter_list_read g ss (tree_meant c.args.text)) c.fault_at-in-List.result c.from-in-List.result c.in-List.at WrongSort c.fault_at-in-List.ensures c.from-in-List.ensures
    (list_other g (tree_meant c.args.text) c.in-List.at c.in-List.field-2 (trees_meant c.in-List.inside) ss c.in-List.ensures.seen
    (ap (λ (n : ℕ). tree_count (trees_meant c.in-List.inside) == n) long ∙ sym c.are_many.ensures ∙ c.if-are_many.false))
