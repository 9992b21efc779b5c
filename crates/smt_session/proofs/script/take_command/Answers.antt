-- By what the command came to.
use Rattle.std.proofs.Common.{◌≡◌, refl}
use Rattle.spec_commands.specs.Stack.{done, unsupported, say, leave}
use Rattle.spec_commands.specs.Checks.{Check}
use Rattle.spec_sessions.specs.Responses.{success, not_supported, echoed, ended}
use Rattle.assertion_stack.specs.Stacks.{OverTable, over_table}
use Rattle.check_evidence.specs.Evidence.{limits_meant}
use Rattle.smt_session.specs.declared.script.Script.{Script}
use Rattle.smt_session.proofs.Taking.{held_next, check_held, done_so, found_so, on_error, refused_as, refused_keeps, refused_script}
use Rattle.smt_session.proofs.script.take_command.Goals as goal

pub returns-in-Ok-Done-clause-takes : goal.returns-in-Ok-Done-clause-takes
returns-in-Ok-Done-clause-takes c = λ s i none.
    let x = c.args.sexpr.now in
    let l = limits_meant c.args.limits.now in
    let old : Script = c.args.script.now in
    let new : Script = record { table = c.command.new.table; stack = c.command.new.self; budget = old.budget; answer = c.leave_answer.new.answer; assumed = old.assumed } in
    let d = rw c.in-Ok-Done.field-0-is at (c.in-Ok-Done.ensures.steps l.terms s.stack i.stack.stack) in
    let held = held_next c.commands_keep_stacks.ensures.next c.commands_leave_script_names.ensures.next c.commands_leave_readable_definitions.ensures.next l.terms s.stack x d.0 (over_table old.table old.stack) (over_table new.table new.stack) d.1 i.stack d.3 in
    done_so l s x old new d.0 none d.1 held i c.states_nothing-keeps.result c.states_nothing-keeps.ensures c.in-Ok-Done.ensures.settings refl c.leave_answer.ensures refl _ success done d.2 refl refl refl tt tt tt

pub returns-in-Ok-Unsupported-clause-takes : goal.returns-in-Ok-Unsupported-clause-takes
returns-in-Ok-Unsupported-clause-takes c = λ s i none.
    let x = c.args.sexpr.now in
    let l = limits_meant c.args.limits.now in
    let old : Script = c.args.script.now in
    let new : Script = record { table = c.command.new.table; stack = c.command.new.self; budget = old.budget; answer = c.leave_answer-in-Ok-Unsupported.new.answer; assumed = old.assumed } in
    let d = rw c.in-Ok-Unsupported.field-0-is at (c.in-Ok-Unsupported.ensures.steps l.terms s.stack i.stack.stack) in
    let held = held_next c.commands_keep_stacks.ensures.next c.commands_leave_script_names.ensures.next c.commands_leave_readable_definitions.ensures.next l.terms s.stack x d.0 (over_table old.table old.stack) (over_table new.table new.stack) d.1 i.stack d.3 in
    done_so l s x old new d.0 none d.1 held i c.states_nothing-keeps.result c.states_nothing-keeps.ensures c.in-Ok-Unsupported.ensures.settings refl c.leave_answer-in-Ok-Unsupported.ensures refl _ not_supported unsupported d.2 refl refl refl tt tt tt

pub returns-in-Ok-Say-clause-takes : goal.returns-in-Ok-Say-clause-takes
returns-in-Ok-Say-clause-takes c = λ s i none.
    let x = c.args.sexpr.now in
    let l = limits_meant c.args.limits.now in
    let old : Script = c.args.script.now in
    let new : Script = record { table = c.command.new.table; stack = c.command.new.self; budget = old.budget; answer = c.leave_answer-in-Ok-Say.new.answer; assumed = old.assumed } in
    let text = c.in-Ok-Say.text.now in
    let d = rw c.in-Ok-Say.field-0-is at (c.in-Ok-Say.ensures.steps l.terms s.stack i.stack.stack) in
    let held = held_next c.commands_keep_stacks.ensures.next c.commands_leave_script_names.ensures.next c.commands_leave_readable_definitions.ensures.next l.terms s.stack x d.0 (over_table old.table old.stack) (over_table new.table new.stack) d.1 i.stack d.3 in
    done_so l s x old new d.0 none d.1 held i c.states_nothing-keeps.result c.states_nothing-keeps.ensures c.in-Ok-Say.ensures.settings refl c.leave_answer-in-Ok-Say.ensures refl _ (echoed text) (say text) d.2 refl refl refl tt tt tt

pub returns-in-Ok-Exit-clause-takes : goal.returns-in-Ok-Exit-clause-takes
returns-in-Ok-Exit-clause-takes c = λ s i none.
    let x = c.args.sexpr.now in
    let l = limits_meant c.args.limits.now in
    let old : Script = c.args.script.now in
    let new : Script = record { table = c.command.new.table; stack = c.command.new.self; budget = old.budget; answer = c.leave_answer-in-Ok-Exit.new.answer; assumed = old.assumed } in
    let d = rw c.in-Ok-Exit.field-0-is at (c.in-Ok-Exit.ensures.steps l.terms s.stack i.stack.stack) in
    let held = held_next c.commands_keep_stacks.ensures.next c.commands_leave_script_names.ensures.next c.commands_leave_readable_definitions.ensures.next l.terms s.stack x d.0 (over_table old.table old.stack) (over_table new.table new.stack) d.1 i.stack d.3 in
    done_so l s x old new d.0 none d.1 held i c.states_nothing-keeps.result c.states_nothing-keeps.ensures c.in-Ok-Exit.ensures.settings refl c.leave_answer-in-Ok-Exit.ensures refl _ ended leave d.2 refl refl refl tt tt tt

pub find-requires : goal.find-requires
find-requires c =
    let x = c.args.sexpr.now in
    let terms = c.args.limits.now.terms in
    let s = c.requires.0 in
    let i = c.requires.1 in
    let old : OverTable = over_table c.args.script.now.table c.args.script.now.stack in
    let new : OverTable = over_table c.command.new.table c.command.new.self in
    let d = rw c.in-Ok-Check.field-0-is at (c.in-Ok-Check.ensures.steps terms s.stack i.stack.stack) in
    let held = held_next c.commands_keep_stacks.ensures.next c.commands_leave_script_names.ensures.next c.commands_leave_readable_definitions.ensures.next terms s.stack x d.0 old new d.1 i.stack d.3 in
    let asked : Check = record { stack = d.0.stack; assumptions = d.2.0 } in
    let h = check_held c.assumptions_are_read.ensures.taken terms s.stack x d.0 c.in-Ok-Check.field-0-0 c.in-Ok-Check.assumed new d.1 d.2 held in
    record { held = (asked, h) }

pub returns-in-Ok-clause-takes : goal.returns-in-Ok-clause-takes
returns-in-Ok-clause-takes c = λ s i none.
    let x = c.args.sexpr.now in
    let l = limits_meant c.args.limits.now in
    let old : OverTable = over_table c.args.script.now.table c.args.script.now.stack in
    let new : OverTable = over_table c.command.new.table c.command.new.self in
    let d = rw c.in-Ok-Check.field-0-is at (c.in-Ok-Check.ensures.steps l.terms s.stack i.stack.stack) in
    let held = held_next c.commands_keep_stacks.ensures.next c.commands_leave_script_names.ensures.next c.commands_leave_readable_definitions.ensures.next l.terms s.stack x d.0 old new d.1 i.stack d.3 in
    let asked : Check = record { stack = d.0.stack; assumptions = d.2.0 } in
    let q = check_held c.assumptions_are_read.ensures.taken l.terms s.stack x d.0 c.in-Ok-Check.field-0-0 c.in-Ok-Check.assumed new d.1 d.2 held in
    let k = c.in-Ok.ensures.checks asked q in
    found_so l s x c.find.new.script d.0 c.in-Ok-Check.field-0-0 c.in-Ok-Check.assumed new none d.1 d.2 q k c.in-Ok.ensures.grows c.in-Ok.ensures.kept

pub returns-in-Err-clause-takes : goal.returns-in-Err-clause-takes
returns-in-Err-clause-takes c = λ s i none.
    let same = c.in-Err.ensures.same in
    let old : Script = c.args.script.now in
    let new : Script = record old { table = c.command.new.table; stack = c.command.new.self } in
    refused_as (limits_meant c.args.limits.now) s c.args.sexpr.now c.in-Err.stop old new c.rejected.result none i (λ j. record old { table = same.1 j; stack = same.0 j }) (c.in-Err.ensures.steps c.args.limits.now.terms s.stack i.stack.stack) c.rejected.ensures

pub returns-in-Err-clause-memory : goal.returns-in-Err-clause-memory
returns-in-Err-clause-memory c =
    let same = c.in-Err.ensures.same in
    let old : Script = c.args.script.now in
    let new : Script = record old { table = c.command.new.table; stack = c.command.new.self } in
    on_error c.rejected.result (new ≡ old) (λ j. record old { table = same.1 j; stack = same.0 j })

pub returns-in-Err-clause-budget : goal.returns-in-Err-clause-budget
returns-in-Err-clause-budget c =
    let same = c.in-Err.ensures.same in
    let old : Script = c.args.script.now in
    refused_keeps c.in-Err.stop old (record old { table = c.command.new.table; stack = c.command.new.self }) c.rejected.result (λ j. record old { table = same.1 j; stack = same.0 j }) c.rejected.ensures

pub returns-in-Err-clause-kept : goal.returns-in-Err-clause-kept
returns-in-Err-clause-kept c =
    let same = c.in-Err.ensures.same in
    let old : Script = c.args.script.now in
    refused_script c.in-Err.stop old (record old { table = c.command.new.table; stack = c.command.new.self }) c.rejected.result (λ j. record old { table = same.1 j; stack = same.0 j }) c.rejected.ensures
