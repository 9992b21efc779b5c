-- Levels less, where so many are open.
use Rattle.std.proofs.Common.{◌≡◌, ◌-◌, ◌<◌, length, true, refl, sym, ap, ◌∙◌, subst, arith}
use Rattle.spec_commands.specs.Stack.{did, begun, up_to_level, levels_open}
use Rattle.term_core.specs.Uses.{UsesDeclared}
use Rattle.term_reader.specs.Scopes.{IsScope}
use Rattle.assertion_stack.specs.Levels.{cut_to}
use Rattle.assertion_stack.specs.Stacks.{OverTable, over_table, contents, cut_back, closed_to, IsStack}
use Rattle.assertion_stack.proofs.Stacks.{begun_stack}
use Rattle.assertion_stack.proofs.Leveled.{pop_far, pop_closes, same_closed}
use Rattle.assertion_stack.proofs.Globals.{closed_stack, closed_uses}
use Rattle.assertion_stack.proofs.stack.Stack.pop.Goals as goal

pub returns-then-n-levels-clause-performs : goal.returns-then-n-levels-clause-performs
returns-then-n-levels-clause-performs c limit s h =
    let open_now = c.len-levels.ensures ∙ h.marked.count in
    rw c.refused.ensures (pop_far limit c.args.at c.args.n s c.len-levels.result open_now c.if-n-levels.true)

pub returns-then-n-eq0-clause-performs : goal.returns-then-n-eq0-clause-performs
returns-then-n-eq0-clause-performs c limit s h =
    let k = c.len-levels.result in
    let open_now = c.len-levels.ensures ∙ h.marked.count in
    let none : k - c.args.n ≡ levels_open s.levels = omega (arith, open_now, c.if-n-eq0.true) in (
      did (begun (up_to_level (k - c.args.n) s)),
      pop_closes limit c.args.at c.args.n s k open_now c.if-n-levels.false,
      refl,
      same_closed limit c.args.table.now c.args.self.now s h (k - c.args.n) none,
    )

pub cut_back-requires : goal.cut_back-requires
cut_back-requires c =
    let level = c.len-levels.result - c.args.n in
    let old = over_table c.args.table.now c.args.self.now in
    let lower : level < length c.args.self.now.marks = omega (arith, c.len-levels.ensures, c.if-n-eq0.false, c.if-n-levels.false) in
    subst (λ m. UsesDeclared (cut_to m (contents old)).table) (sym c.level_mark-mark.ensures) (closed_uses c.requires.0 old c.requires.1 level c.requires.2 c.uses_what_is_declared.ensures lower)

pub returns-clause-performs : goal.returns-clause-performs
returns-clause-performs c limit s h =
    let k = c.len-levels.result in
    let level = k - c.args.n in
    let open_now = c.len-levels.ensures ∙ h.marked.count in
    let old = over_table c.args.table.now c.args.self.now in
    let v = c.args.self.now.scope in
    let long : IsScope v.sort_names v.sorts v.names v.functions = record { each_sort = c.each_name_means_something.ensures.sorts; each_function = c.each_name_means_something.ensures.functions } in
    let closed = closed_stack limit old s level h long (omega (arith, c.len-levels.ensures, c.if-n-eq0.false, c.if-n-levels.false)) in
    let z = closed_to level old in (
      did (begun (up_to_level level s)),
      pop_closes limit c.args.at c.args.n s k open_now c.if-n-levels.false,
      refl,
      subst (λ (y : OverTable). IsStack limit (over_table y.table (record y.stack { started = true })) (begun (up_to_level level s))) (sym (c.cut_back.ensures ∙ ap (λ m. cut_back level m old) c.level_mark-mark.ensures))
          (begun_stack limit z.table z.stack (up_to_level level s) closed),
    )
