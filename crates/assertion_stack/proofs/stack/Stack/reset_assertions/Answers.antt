-- All is taken back but the options, and what is global.
use Rattle.std.proofs.Common.{◌≡◌, [], true, false, refl, sym, ap, ◌∙◌, subst}
use Rattle.std.proofs.lemmas.List.Elements.{All-nil}
use Rattle.spec_commands.specs.Stack.{did, emptied}
use Rattle.term_core.specs.Tables.{TableView}
use Rattle.term_core.specs.Uses.{UsesDeclared}
use Rattle.term_reader.specs.Scopes.{IsScope, ScopeMeans}
use Rattle.assertion_stack.specs.Levels.{no_mark, global_mark, cut_to}
use Rattle.assertion_stack.specs.Stacks.{OverTable, over_table, contents, cut_back, IsStack}
use Rattle.assertion_stack.proofs.Globals.{uses_left, global_left}
use Rattle.assertion_stack.proofs.Leveled.{emptied_stack}
use Rattle.assertion_stack.proofs.stack.Stack.reset_assertions.Goals as goal

pub cut_back-requires : goal.cut_back-requires
cut_back-requires c =
    let old = contents (over_table c.args.table.now c.args.self.now) in
    let mark = c.global_mark-mark.ensures ∙ ap (λ m. global_mark m old) c.none.ensures in
    subst (λ m. UsesDeclared (cut_to m old).table) (sym mark) (uses_left no_mark old c.uses_what_is_declared.ensures)

pub returns-then-self : goal.returns-then-self
returns-then-self c = record {
  performs = λ limit at s h.
      let old = over_table c.args.table.now c.args.self.now in
      let v = c.args.self.now.scope in
      let long : IsScope v.sort_names v.sorts v.names v.functions = record { each_sort = c.each_name_means_something.ensures.sorts; each_function = c.each_name_means_something.ensures.functions } in
      let mark = c.global_mark-mark.ensures ∙ ap (λ m. global_mark m (contents old)) c.none.ensures in
      let on : s.options.global_declarations ≡ true = sym (ap (λ o. o.global_declarations) h.options) ∙ c.if-self.true in (
        did (emptied s),
        refl,
        refl,
        subst (λ (y : OverTable). IsStack limit y (emptied s)) (sym (c.cut_back.ensures ∙ ap (λ m. cut_back 0 m old) mark)) (global_left limit old s h long on),
      );
}

pub returns : goal.returns
returns c = record {
  performs = λ limit at s h.
      let new = record c.args.self.now { scope = c.new-2.result; assertions = c.new-3.result; marks = c.new-4.result } in
      let scope : ScopeMeans c.new.result c.new-2.result [] = subst (λ v. ScopeMeans c.new.result v []) (sym c.new-2.ensures) (record { sorts = λ n. tt; functions = λ n. tt; count = refl; sorted = All-nil _ }) in
      let off : s.options.global_declarations ≡ false = sym (ap (λ o. o.global_declarations) h.options) ∙ c.if-self.false in (
        did (emptied s),
        refl,
        refl,
        emptied_stack limit c.args.table.now c.args.self.now s h off c.new.result new scope (ap (λ (t : TableView). t.sorts) c.new.ensures) (ap (λ (t : TableView). t.symbols) c.new.ensures)
            (λ i. record c.args.self.now { scope = c.new-2.result; assertions = c.new-3.ensures i; marks = c.new-4.ensures i }),
      );
}
