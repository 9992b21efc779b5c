-- The core of the last check, where it found a proof and the option is on.
use Rattle.std.proofs.Common.{sym, ap, ◌∙◌}
use Rattle.spec_text.specs.declared.Fault.TheVariants.{WrongMode, NotEnabled}
use Rattle.spec_commands.specs.Stack.{Options}
use Rattle.spec_sessions.specs.Questions.{for_core}
use Rattle.spec_sessions.specs.Replies.{reply_to}
use Rattle.smt_reply.specs.Replies.{in_context}
use Rattle.smt_reply.specs.Cores.{planned, planned_terms}
use Rattle.smt_reply.proofs.Asked.{refuses}
use Rattle.smt_reply.proofs.CoreAsked.{no_core, cores_off, core_told}
use Rattle.smt_reply.proofs.replies.core_reply.Goals as goal

pub returns-in_default : goal.returns-in_default
returns-in_default c limit budget a s held kept asked =
    let none = rw c.in_default.is at (c.proof_of.ensures.found c.args.table.now budget s.answer kept) in
    refuses (reply_to limit c.args.at s for_core) c.refused.result c.args.at WrongMode c.refused.ensures (no_core limit c.args.at s none)

pub returns-then-not-stack : goal.returns-then-not-stack
returns-then-not-stack c limit budget a s held kept asked =
    let t = c.args.table.now in
    let f = c.in-Some.ensures.found t budget s.answer kept in
    let off = sym (ap (λ (o : Options). o.unsat_cores) held.options) ∙ c.if-not-stack.true in
    refuses (reply_to limit c.args.at s for_core) c.refused-then-not-stack.result c.args.at NotEnabled c.refused-then-not-stack.ensures (cores_off limit c.args.at s (planned_terms t (planned c.in-Some.log.now c.in-Some.plan.now)) f off)

pub returns-in-Ok : goal.returns-in-Ok
returns-in-Ok c limit budget a s held kept asked =
    let t = c.args.table.now in
    let f = c.in-Some.ensures.found t budget s.answer kept in
    let on = sym (ap (λ (o : Options). o.unsat_cores) held.options) ∙ c.if-not-stack.false in
    core_told limit c.args.at s (planned_terms t (planned c.in-Some.log.now c.in-Some.plan.now)) f t a (in_context t c.args.stack.now c.args.answer.now) asked c.in-Ok.names (c.in-Ok.ensures limit s.stack held) on

pub core_names-requires-clause-log : goal.core_names-requires-clause-log
core_names-requires-clause-log c = (c.in-Some.ensures.fits c.args.table.now c.requires.shown).0

pub core_names-requires-clause-fits : goal.core_names-requires-clause-fits
core_names-requires-clause-fits c = (c.in-Some.ensures.fits c.args.table.now c.requires.shown).1
