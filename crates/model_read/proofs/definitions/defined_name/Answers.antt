-- A name that is declared, and not yet defined.
use Rattle.std.proofs.Common.{ap, sym, ◌∙◌, arith}
use Rattle.spec_text.specs.Bytes.{among}
use Rattle.spec_sorts.specs.Signatures.{known_as}
use Rattle.smt_sexpr.specs.Items.{tree_meant}
use Rattle.smt_sexpr.specs.Views.{word_view}
use Rattle.term_core.specs.Symbols.{symbol_at}
use Rattle.term_reader.specs.Scopes.{function_under}
use Rattle.model_read.proofs.DefinitionTexts.{declared_means, undeclared_means, declared_name, name_is, name_twice, name_unknown, name_fails}
use Rattle.model_read.proofs.definitions.defined_name.Goals as goal

pub is_marked-requires : goal.is_marked-requires
is_marked-requires c =
    let n = c.in-Ok.word.bytes.now in
    let d = declared_means c.args.table.now (function_under c.args.scope.now n) (known_as c.requires.known.0 n) c.in-Some.id (c.requires.known.1.functions n) (sym c.in-Some.ensures) in
    let there = d.0 in
    omega (arith, there, c.requires.marks)

pub returns-then-is_marked-clause-reads : goal.returns-then-is_marked-clause-reads
returns-then-is_marked-clause-reads c g names m marked =
    let t = c.args.table.now in
    let w = word_view c.in-Ok.word in
    let d = declared_means t (function_under c.args.scope.now w.bytes) (known_as g w.bytes) c.in-Some.id (m.functions w.bytes) (sym c.in-Some.ensures) in
    name_twice g names (tree_meant c.args.text) w (symbol_at t.symbols c.in-Some.id) c.fault_at.result (sym c.in-Ok.ensures) d.1
    (ap (among names) (sym (declared_name g w.bytes (symbol_at t.symbols c.in-Some.id) d.1)) ∙ sym (marked c.in-Some.id d.0) ∙ sym c.is_marked.ensures ∙ c.if-is_marked.true) c.fault_at.ensures

pub returns-else-is_marked-clause-reads : goal.returns-else-is_marked-clause-reads
returns-else-is_marked-clause-reads c g names m marked =
    let t = c.args.table.now in
    let w = word_view c.in-Ok.word in
    let d = declared_means t (function_under c.args.scope.now w.bytes) (known_as g w.bytes) c.in-Some.id (m.functions w.bytes) (sym c.in-Some.ensures) in
    name_is g names (tree_meant c.args.text) w (symbol_at t.symbols c.in-Some.id) (sym c.in-Ok.ensures) d.1
    (ap (among names) (sym (declared_name g w.bytes (symbol_at t.symbols c.in-Some.id) d.1)) ∙ sym (marked c.in-Some.id d.0) ∙ sym c.is_marked.ensures ∙ c.if-is_marked.false)

pub returns-else-is_marked-clause-symbol : goal.returns-else-is_marked-clause-symbol
returns-else-is_marked-clause-symbol c =
    let n = c.in-Ok.word.bytes.now in
    (declared_means c.args.table.now (function_under c.args.scope.now n) (known_as c.requires.known.0 n) c.in-Some.id (c.requires.known.1.functions n) (sym c.in-Some.ensures)).0

pub returns-else-is_marked-clause-unmarked : goal.returns-else-is_marked-clause-unmarked
returns-else-is_marked-clause-unmarked c = sym c.is_marked.ensures ∙ c.if-is_marked.false

pub returns-in-None-clause-reads : goal.returns-in-None-clause-reads
returns-in-None-clause-reads c g names m marked =
    let w = word_view c.in-Ok.word in
    name_unknown g names (tree_meant c.args.text) w c.fault_at-in-None.result (sym c.in-Ok.ensures)
    (undeclared_means c.args.table.now (function_under c.args.scope.now w.bytes) (known_as g w.bytes) (m.functions w.bytes) (sym c.in-None.ensures)) c.fault_at-in-None.ensures

pub returns-in-Err-clause-reads : goal.returns-in-Err-clause-reads
returns-in-Err-clause-reads c g names m marked = name_fails g names (tree_meant c.args.text) _ (sym c.in-Err.ensures)
