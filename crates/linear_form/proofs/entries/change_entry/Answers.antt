-- What is dead or becomes so is left out, and the rest comes last.
use Rattle.std.proofs.Common.{sym}
use Rattle.std.proofs.lemmas.Result.{on_ok_weaker}
use Rattle.ratio128.specs.Meant.{fraction, overflow}
use Rattle.linear_form.specs.Entries.{live, variables_meant}
use Rattle.linear_form.specs.Making.{change_meant}
use Rattle.linear_form.proofs.Joining.{comes_err, has_push}
use Rattle.linear_form.proofs.Steps.{changed_dead, changed_wide, changed_zero, changed_number, lacks_push, has_one}
use Rattle.linear_form.proofs.entries.change_entry.Goals as goal

pub returns-then-is_zero-clause-comes : goal.returns-then-is_zero-clause-comes
returns-then-is_zero-clause-comes c t = changed_dead t (change_meant c.args.change) (variables_meant t (live c.args.entries.now.items)) c.args.entry (sym c.if-is_zero.ensures)

pub returns-in_err-number-clause-comes : goal.returns-in_err-number-clause-comes
returns-in_err-number-clause-comes c t =
    comes_err _ c.from_residual.result _ _ (changed_wide t (change_meant c.args.change) (variables_meant t (live c.args.entries.now.items)) c.args.entry (overflow c.in_err-number.field-0.0) (sym c.if-is_zero.ensures) (sym c.in_err-number.ensures)) c.from_residual.ensures.1

pub returns-then-is_zero-2-clause-comes : goal.returns-then-is_zero-2-clause-comes
returns-then-is_zero-2-clause-comes c t = changed_zero t (change_meant c.args.change) (variables_meant t (live c.args.entries.now.items)) c.args.entry (fraction c.in_ok-number.number) (sym c.if-is_zero.ensures) (sym c.in_ok-number.ensures) (sym c.if-is_zero-2.ensures)

pub returns-clause-comes : goal.returns-clause-comes
returns-clause-comes c t = changed_number t (change_meant c.args.change) c.args.entries.now.items c.push_entry.new.entries.items c.args.entry c.in_ok-number.number c.push_entry.result (sym c.if-is_zero.ensures) (sym c.in_ok-number.ensures) (sym c.if-is_zero-2.ensures) c.push_entry.ensures.pushed c.push_entry.ensures.stop

pub returns-clause-new : goal.returns-clause-new
returns-clause-new c = on_ok_weaker c.push_entry.result (λ e q h k. lacks_push c.args.entries.now.items c.push_entry.new.entries.items c.args.entry c.in_ok-number.number q (sym c.if-is_zero.ensures) (sym c.if-is_zero-2.ensures) e h k) c.push_entry.ensures.pushed

pub returns-clause-there : goal.returns-clause-there
returns-clause-there c = on_ok_weaker c.push_entry.result (λ e t has one. has_push t c.args.entry.0 c.in_ok-number.number c.args.entries.now.items c.push_entry.new.entries.items e (has_one t c.args.entry (sym c.if-is_zero.ensures) one) has) c.push_entry.ensures.pushed
