-- That one reading gives one check.
use Rattle.std.proofs.Common.{◌≡◌, Some, None, sym, ap, ◌∙◌}
use Rattle.spec_commands.specs.Stack.{empty_stack}
use Rattle.spec_commands.specs.Checks.{current_at}
use Rattle.spec_commands.proofs.texts_have_one_check_of_a_number.Goals as goal

pub returns-clause-one : goal.returns-clause-one
returns-clause-one c = λ limit text k x y a b.
    let trees = (c.a_text_is_read_up_to_one_end.ensures text a.commands b.commands a.end b.end a.read b.read).0 in
    let both : Some x ≡ Some y = sym a.here ∙ ap (current_at limit empty_stack k) trees ∙ b.here in
    cc

pub returns-clause-other : goal.returns-clause-other
returns-clause-other c = λ limit text k x a b.
    let trees = (c.a_text_is_read_up_to_one_end.ensures text a.commands b.commands a.end b.end a.read b.read).0 in
    let both : Some x ≡ None = sym a.here ∙ ap (current_at limit empty_stack k) trees ∙ b.none_here in
    cc
