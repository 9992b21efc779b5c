-- The pieces of the line, one after the other.
use Rattle.world_io.proofs.Chains.{next, fails, last}
use Rattle.term_core.specs.Symbols.{symbol_at}
use Rattle.term_walks.specs.Valuations.{table_meant}
use Rattle.model_text.proofs.Texts.{definition_start}
use Rattle.model_text.proofs.definitions.write_definition.Goals as goal

pub returns-in_err-write_all : goal.returns-in_err-write_all
returns-in_err-write_all g c =
    let s0 = definition_start (symbol_at c.args.symbols.now.symbols c.args.id) (table_meant c.args.symbols.now.sorts c.args.table.now) _ in
    fails _ s0 c.in_err-write_all.ensures c.from_residual.ensures.0

pub returns-in_err-name : goal.returns-in_err-name
returns-in_err-name g c =
    let s0 = definition_start (symbol_at c.args.symbols.now.symbols c.args.id) (table_meant c.args.symbols.now.sorts c.args.table.now) _ in
    let s1 = next s0 c.in_ok-write_all.ensures in
    fails _ s1 (rw c.name.ensures at c.in_err-name.ensures) c.from_residual-in_err-name.ensures.0

pub returns-in_err-write_all-2 : goal.returns-in_err-write_all-2
returns-in_err-write_all-2 g c =
    let s0 = definition_start (symbol_at c.args.symbols.now.symbols c.args.id) (table_meant c.args.symbols.now.sorts c.args.table.now) _ in
    let s1 = next s0 c.in_ok-write_all.ensures in
    let s2 = next s1 (rw c.name.ensures at c.in_ok-name.ensures) in
    fails _ s2 c.in_err-write_all-2.ensures c.from_residual-in_err-write_all-2.ensures.0

pub returns-in_err-write_parameters : goal.returns-in_err-write_parameters
returns-in_err-write_parameters g c =
    let s0 = definition_start (symbol_at c.args.symbols.now.symbols c.args.id) (table_meant c.args.symbols.now.sorts c.args.table.now) _ in
    let s1 = next s0 c.in_ok-write_all.ensures in
    let s2 = next s1 (rw c.name.ensures at c.in_ok-name.ensures) in
    let s3 = next s2 c.in_ok-write_all-2.ensures in
    fails _ s3 (rw c.parameters.ensures.means at c.in_err-write_parameters.ensures) c.from_residual-in_err-write_parameters.ensures.0

pub returns-in_err-write_all-3 : goal.returns-in_err-write_all-3
returns-in_err-write_all-3 g c =
    let s0 = definition_start (symbol_at c.args.symbols.now.symbols c.args.id) (table_meant c.args.symbols.now.sorts c.args.table.now) _ in
    let s1 = next s0 c.in_ok-write_all.ensures in
    let s2 = next s1 (rw c.name.ensures at c.in_ok-name.ensures) in
    let s3 = next s2 c.in_ok-write_all-2.ensures in
    let s4 = next s3 (rw c.parameters.ensures.means at c.in_ok-write_parameters.ensures) in
    fails _ s4 c.in_err-write_all-3.ensures c.from_residual-in_err-write_all-3.ensures.0

pub returns-in_err-write_sort : goal.returns-in_err-write_sort
returns-in_err-write_sort g c =
    let s0 = definition_start (symbol_at c.args.symbols.now.symbols c.args.id) (table_meant c.args.symbols.now.sorts c.args.table.now) _ in
    let s1 = next s0 c.in_ok-write_all.ensures in
    let s2 = next s1 (rw c.name.ensures at c.in_ok-name.ensures) in
    let s3 = next s2 c.in_ok-write_all-2.ensures in
    let s4 = next s3 (rw c.parameters.ensures.means at c.in_ok-write_parameters.ensures) in
    let s5 = next s4 c.in_ok-write_all-3.ensures in
    fails _ s5 (rw c.result.ensures.means at c.in_err-write_sort.ensures) c.from_residual-in_err-write_sort.ensures.0

pub returns-in_err-write_all-4 : goal.returns-in_err-write_all-4
returns-in_err-write_all-4 g c =
    let s0 = definition_start (symbol_at c.args.symbols.now.symbols c.args.id) (table_meant c.args.symbols.now.sorts c.args.table.now) _ in
    let s1 = next s0 c.in_ok-write_all.ensures in
    let s2 = next s1 (rw c.name.ensures at c.in_ok-name.ensures) in
    let s3 = next s2 c.in_ok-write_all-2.ensures in
    let s4 = next s3 (rw c.parameters.ensures.means at c.in_ok-write_parameters.ensures) in
    let s5 = next s4 c.in_ok-write_all-3.ensures in
    let s6 = next s5 (rw c.result.ensures.means at c.in_ok-write_sort.ensures) in
    fails _ s6 c.in_err-write_all-4.ensures c.from_residual-in_err-write_all-4.ensures.0

pub returns-in_err-write_body : goal.returns-in_err-write_body
returns-in_err-write_body g c =
    let s0 = definition_start (symbol_at c.args.symbols.now.symbols c.args.id) (table_meant c.args.symbols.now.sorts c.args.table.now) _ in
    let s1 = next s0 c.in_ok-write_all.ensures in
    let s2 = next s1 (rw c.name.ensures at c.in_ok-name.ensures) in
    let s3 = next s2 c.in_ok-write_all-2.ensures in
    let s4 = next s3 (rw c.parameters.ensures.means at c.in_ok-write_parameters.ensures) in
    let s5 = next s4 c.in_ok-write_all-3.ensures in
    let s6 = next s5 (rw c.result.ensures.means at c.in_ok-write_sort.ensures) in
    let s7 = next s6 c.in_ok-write_all-4.ensures in
    fails _ s7 c.in_err-write_body.ensures c.from_residual-in_err-write_body.ensures.0

pub returns : goal.returns
returns g c =
    let s0 = definition_start (symbol_at c.args.symbols.now.symbols c.args.id) (table_meant c.args.symbols.now.sorts c.args.table.now) _ in
    let s1 = next s0 c.in_ok-write_all.ensures in
    let s2 = next s1 (rw c.name.ensures at c.in_ok-name.ensures) in
    let s3 = next s2 c.in_ok-write_all-2.ensures in
    let s4 = next s3 (rw c.parameters.ensures.means at c.in_ok-write_parameters.ensures) in
    let s5 = next s4 c.in_ok-write_all-3.ensures in
    let s6 = next s5 (rw c.result.ensures.means at c.in_ok-write_sort.ensures) in
    let s7 = next s6 c.in_ok-write_all-4.ensures in
    let s8 = next s7 c.in_ok-write_body.ensures in
    last _ _ s8 c.write_all-5.ensures
