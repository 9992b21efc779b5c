-- What is read as a command is performed; a fault is in its s-expression.
use Rattle.std.proofs.Common.{◌≡◌, ◌≤◌, ◌<◌, length, ap, sym, subst, ◌∙◌}
use Rattle.std.specs.Prelude.{Err}
use Rattle.spec_text.specs.Trees.{offset_of}
use Rattle.spec_commands.specs.Stack.{step}
use Rattle.smt_sexpr.specs.Items.{tree_of, text_of, start_of}
use Rattle.term_reader.specs.declared.faults.TermFault.{TermFault}
use Rattle.smt_command.specs.Commands.{command_view}
use Rattle.assertion_stack.specs.Views.{Fails}
use Rattle.assertion_stack.specs.Stacks.{over_table}
use Rattle.assertion_stack.proofs.Checking.{keeps_stepped}
use Rattle.assertion_stack.proofs.Steps.{not_taken, step_done, step_fails, placed_fault}
use Rattle.assertion_stack.proofs.stack.Stack.command.Goals as goal

pub returns-in-Err-clause-steps : goal.returns-in-Err-clause-steps
returns-in-Err-clause-steps c limit s h = not_taken limit s c.args.sexpr.now c.in-Err.refused (over_table c.args.table.now c.args.self.now) c.in-Err.ensures

pub returns-in-Ok-perform-clause-steps : goal.returns-in-Ok-perform-clause-steps
returns-in-Ok-perform-clause-steps c limit s h =
    let p = c.in-Ok-perform.ensures.performs limit s h in
    let at = c.offset.ensures ∙ ap offset_of c.trees.ensures.tree in
    (p.0, step_done limit s (tree_of c.args.sexpr.now) (command_view c.in-Ok.command) c.offset.result c.in-Ok.ensures at p.0 p.1, p.2, p.3)

pub returns-in-Ok-perform-clause-check : goal.returns-in-Ok-perform-clause-check
returns-in-Ok-perform-clause-check c = keeps_stepped _ _ c.in-Ok-perform.effect c.in-Ok-perform.ensures.check

pub returns-in-Err-Fault-clause-steps : goal.returns-in-Err-Fault-clause-steps
returns-in-Err-Fault-clause-steps c limit s h =
    let p = c.in-Err-Fault.ensures.performs limit s h in
    let at = c.offset.ensures ∙ ap offset_of c.trees.ensures.tree in
    let x = c.args.sexpr.now in
    let refused = step_fails limit s (tree_of x) (command_view c.in-Ok.command) c.offset.result c.in-Ok.ensures at c.in-Err-Fault.field-0 p in
    let fails = subst (λ e. Fails e (step limit s (tree_of x))) c.in-Err-Fault.field-0-is refused in
    let place = subst (λ (f : TermFault). start_of x ≤ f.offset → f.offset < length (text_of x) → c.place_in.result.offset ≡ f.offset) c.in-Err-Fault.fault-is c.place_in.ensures.offset in
    let placed = placed_fault limit s x c.in-Err-Fault.fault.offset c.in-Err-Fault.fault.fault c.place_in.result fails c.faults_are_in_their_command.ensures c.offsets_have_places.ensures place in (
      subst (λ (f : TermFault). step limit s (tree_of x) ≡ Err (record { offset = c.place_in.result.offset; fault = f.fault })) (sym c.in-Err-Fault.fault-is) placed,
      c.place_in.ensures.place,
    )
