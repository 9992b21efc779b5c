-- One form after the other is taken.
use Rattle.std.proofs.Common.{◌++◌, ◌∷◌, [], sym, ap, ◌∙◌, append_assoc}
use Rattle.linear_form.proofs.KnownSteps.{gathered_more, gathered_stop, named_more}
use Rattle.linear_form.proofs.known.forms_in.Goals as goal

pub arguments-preserved : goal.arguments-preserved
arguments-preserved c = record {
  same = λ t. gathered_more t c.arguments.yielded c.arguments.forms.items c.push_form.new.forms.items c.in-Some.known c.in-Form.form (c.arguments.invariant.same t) c.in-Form.is c.in_ok-push_form-in-Form.ensures;
  there = λ t. named_more t c.arguments.yielded c.arguments.forms.items c.push_form.new.forms.items c.in-Some.known c.in-Form.form (c.arguments.invariant.there t) c.in-Form.is c.in_ok-push_form-in-Form.ensures;
  left = c.arguments.invariant.left ∙ ap (λ l. c.arguments.yielded ++ l) c.in-Some.ensures.steps.0 ∙ sym (append_assoc c.arguments.yielded (c.in-Some.known ∷ []) c.next.new.self.rest.items);
}

pub returns-in-Wide-clause-comes : goal.returns-in-Wide-clause-comes
returns-in-Wide-clause-comes c t = gathered_stop t c.args.arguments.items c.arguments.yielded c.next.new.self.rest.items c.arguments.forms.items c.in-Some.known c.in-Wide.term c.in-Wide.wide (c.arguments.invariant.same t) c.in-Wide.is (c.arguments.invariant.left ∙ ap (λ l. c.arguments.yielded ++ l) c.in-Some.ensures.steps.0)
