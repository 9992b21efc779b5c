-- The assertions, where the option is on.
use Rattle.std.proofs.Common.{sym, ap, ◌∙◌}
use Rattle.spec_text.specs.declared.Fault.TheVariants.{NotEnabled}
use Rattle.spec_commands.specs.Stack.{Options}
use Rattle.spec_sessions.specs.Questions.{for_assertions}
use Rattle.spec_sessions.specs.Replies.{reply_to}
use Rattle.assertion_stack.specs.Stacks.{over_table}
use Rattle.smt_reply.proofs.Asked.{refuses, assertions_off, assertions_told}
use Rattle.smt_reply.proofs.replies.assertions_reply.Goals as goal

pub returns-then-not-stack : goal.returns-then-not-stack
returns-then-not-stack c limit t answer s held =
    let off = sym (ap (λ (o : Options). o.assertions) held.options) ∙ c.if-not-stack.true in
    refuses (reply_to limit c.args.at s for_assertions) c.refused.result c.args.at NotEnabled c.refused.ensures (assertions_off limit c.args.at s off)

pub returns : goal.returns
returns c limit t answer s held =
    let on = sym (ap (λ (o : Options). o.assertions) held.options) ∙ c.if-not-stack.false in
    assertions_told limit c.args.at s t c.args.stack.now answer held (c.each_assertion_has_its_text.ensures limit (over_table t c.args.stack.now) s.stack held) on
