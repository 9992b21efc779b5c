-- What the last check found, where it found a model and the option is on.
use Rattle.std.proofs.Common.{sym, ap, ◌∙◌}
use Rattle.spec_text.specs.declared.Fault.TheVariants.{WrongMode, NotEnabled}
use Rattle.spec_commands.specs.Stack.{Options}
use Rattle.spec_sessions.specs.Questions.{for_model}
use Rattle.spec_sessions.specs.Replies.{reply_to}
use Rattle.smt_reply.proofs.Asked.{refuses, no_model, models_off, model_shown}
use Rattle.smt_reply.proofs.replies.model_reply.Goals as goal

pub returns-then-not-found_model : goal.returns-then-not-found_model
returns-then-not-found_model c limit t budget s held kept =
    let none = sym (c.found_model.ensures t budget s.answer kept) ∙ c.if-not-found_model.true in
    refuses (reply_to limit c.args.at s for_model) c.refused.result c.args.at WrongMode c.refused.ensures (no_model limit c.args.at s none)

pub returns-then-not-stack : goal.returns-then-not-stack
returns-then-not-stack c limit t budget s held kept =
    let some = sym (c.found_model.ensures t budget s.answer kept) ∙ c.if-not-found_model.false in
    let off = sym (ap (λ (o : Options). o.models) held.options) ∙ c.if-not-stack.true in
    refuses (reply_to limit c.args.at s for_model) c.refused-then-not-stack.result c.args.at NotEnabled c.refused-then-not-stack.ensures (models_off limit c.args.at s some off)

pub returns : goal.returns
returns c limit t budget s held kept =
    let some = sym (c.found_model.ensures t budget s.answer kept) ∙ c.if-not-found_model.false in
    let on = sym (ap (λ (o : Options). o.models) held.options) ∙ c.if-not-stack.false in
    model_shown limit c.args.at s t budget c.args.stack.now c.args.answer.now kept (sym held.states.symbols) some on
