-- Terms, the model, and then their values.
use Rattle.std.proofs.Common.{sym, ap, ◌∙◌, subst}
use Rattle.spec_text.specs.declared.Fault.TheVariants.{WrongMode}
use Rattle.spec_commands.specs.Stack.{signature_of}
use Rattle.smt_sexpr.specs.Items.{trees_meant}
use Rattle.term_core.specs.Symbols.{SymbolsView}
use Rattle.term_core.specs.Tables.{clause_at}
use Rattle.assertion_stack.specs.declared.stack.Stack.{Stack as CodeStack}
use Rattle.assertion_stack.specs.Stacks.{over_table, IsStack}
use Rattle.smt_reply.specs.Pairs.{EndsPairs, pairs_after, pairs_of}
use Rattle.smt_reply.proofs.Asked.{refuses}
use Rattle.smt_reply.proofs.ReadValues.{terms_fail, no_model, some_model, pairs_same, tables_kept, symbol_tables_kept}
use Rattle.smt_reply.proofs.values.values_read.Goals as goal

pub returns-in-Err-clause-ends : goal.returns-in-Err-clause-ends
returns-in-Err-clause-ends c limit budget s held kept =
    terms_fail limit c.args.at s (trees_meant c.args.trees) c.args.table.now.sorts c.in-Err.stop (c.in-Err.ensures.ends (signature_of s.stack) held.states.scope)

pub returns-in-None-clause-ends : goal.returns-in-None-clause-ends
returns-in-None-clause-ends c limit budget s held kept =
    let ts = trees_meant c.args.trees in
    let r = c.in-Ok.ensures.ends (signature_of s.stack) held.states.scope in
    refuses (pairs_of limit c.args.at s ts) c.refused.result c.args.at WrongMode c.refused.ensures (no_model limit c.args.at s ts c.args.table.now.sorts r.readings r.read (c.in-None.ensures.found c.args.table.now budget s.answer kept))

pub enabled_values-requires-clause-tables : goal.enabled_values-requires-clause-tables
enabled_values-requires-clause-tables c = tables_kept c.args.table.now c.terms_read.new.table c.in-Ok.ensures.keeps c.in-Some.interp.now (c.in-Some.ensures.fits c.args.table.now c.requires.shown)

pub returns-clause-ends : goal.returns-clause-ends
returns-clause-ends c limit budget s held kept =
    let ts = trees_meant c.args.trees in
    let old = c.args.table.now in
    let new = c.terms_read.new.table in
    let r = c.in-Ok.ensures.ends (signature_of s.stack) held.states.scope in
    let m = c.in-Some.ensures.found old budget s.answer kept in
    let us = clause_at new c.deref.result.now in
    let terms = ap (clause_at new) c.deref.ensures.value ∙ r.terms in
    let same = ap (λ v. record c.args.stack.now { scope = v }) c.in-Ok.ensures.same in
    let grown = c.stacks_hold_in_grown_tables.ensures limit old new c.args.stack.now s.stack held c.in-Ok.ensures.keeps in
    let there = subst (λ (x : CodeStack). IsStack limit (over_table new x) s.stack) (sym same) grown in
    let ends = c.enabled_values.ensures limit s.stack m.0 there (symbol_tables_kept old new c.in-Ok.ensures.keeps c.in-Some.interp.now m.0 m.2) in
    let by = some_model limit c.args.at s ts old.sorts r.readings r.read m.0 m.1 us terms in
    pairs_same old.sorts (pairs_after limit c.args.at s.stack m.0 ts us) (pairs_of limit c.args.at s ts) c.enabled_values.result by
    (subst (λ (d : SymbolsView). EndsPairs d.sorts (pairs_after limit c.args.at s.stack m.0 ts us) c.enabled_values.result) c.in-Ok.ensures.keeps.declared ends)
