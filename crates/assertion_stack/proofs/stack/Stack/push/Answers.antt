-- Levels more, where there may be so many.
use Rattle.std.proofs.Common.{true, ◌++◌, length, replicate, refl, sym, ap, ◌∙◌, subst}
use Rattle.spec_commands.specs.Stack.{did, begun, with_levels}
use Rattle.term_reader.specs.Scopes.{IsScope}
use Rattle.assertion_stack.specs.Stacks.{over_table, IsStack}
use Rattle.assertion_stack.proofs.Leveled.{push_full, push_opens, opened_stack}
use Rattle.assertion_stack.proofs.stack.Stack.push.Goals as goal

pub returns-then-not-has_levels-clause-performs : goal.returns-then-not-has_levels-clause-performs
returns-then-not-has_levels-clause-performs c limit s h = rw c.refused.ensures (push_full limit c.args.at c.args.n s (length c.args.self.now.marks) h.marked.count (sym c.if-not-has_levels.ensures))

pub returns-in-Ok-clause-performs : goal.returns-in-Ok-clause-performs
returns-in-Ok-clause-performs c limit s h =
    let t = c.args.table.now in
    let x = c.args.self.now in
    let n = c.args.n in
    let next = begun (with_levels n s) in
    let marks = c.in-Ok.ensures.added ∙ ap (λ m. x.marks ++ replicate n m) c.mark-mark.ensures in
    let long : IsScope x.scope.sort_names x.scope.sorts x.scope.names x.scope.functions = record { each_sort = c.each_name_means_something.ensures.sorts; each_function = c.each_name_means_something.ensures.functions } in (
      did next,
      push_opens limit c.args.at n s (length x.marks) h.marked.count (sym c.if-not-has_levels.ensures),
      refl,
      subst (λ ms. IsStack limit (over_table t (record x { marks = ms; started = true })) next) (sym marks) (opened_stack limit t x s h n long c.uses_what_is_declared.ensures),
    )
