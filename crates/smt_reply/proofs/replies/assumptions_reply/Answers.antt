-- The assumptions of the last check that its proof rests on, where it found one and the option is on.
use Rattle.std.proofs.Common.{sym, ap, ◌∙◌}
use Rattle.spec_text.specs.declared.Fault.TheVariants.{WrongMode, NotEnabled}
use Rattle.spec_commands.specs.Stack.{Options}
use Rattle.spec_sessions.specs.Questions.{for_assumptions}
use Rattle.spec_sessions.specs.Replies.{reply_to}
use Rattle.smt_reply.specs.Replies.{in_context}
use Rattle.smt_reply.specs.Cores.{planned, planned_terms}
use Rattle.smt_reply.proofs.Asked.{refuses}
use Rattle.smt_reply.proofs.CoreAsked.{assumed_there, no_assumptions, assumptions_off, assumptions_told}
use Rattle.smt_reply.proofs.replies.assumptions_reply.Goals as goal

pub returns-in_default : goal.returns-in_default
returns-in_default c limit budget s held kept asked =
    let none = rw c.in_default.is at (c.proof_of.ensures.found c.args.table.now budget s.answer kept) in
    refuses (reply_to limit c.args.at s for_assumptions) c.refused.result c.args.at WrongMode c.refused.ensures (no_assumptions limit c.args.at s none)

pub returns-then-not-stack : goal.returns-then-not-stack
returns-then-not-stack c limit budget s held kept asked =
    let t = c.args.table.now in
    let f = c.in-Some.ensures.found t budget s.answer kept in
    let off = sym (ap (λ (o : Options). o.unsat_assumptions) held.options) ∙ c.if-not-stack.true in
    refuses (reply_to limit c.args.at s for_assumptions) c.refused-then-not-stack.result c.args.at NotEnabled c.refused-then-not-stack.ensures (assumptions_off limit c.args.at s (planned_terms t (planned c.in-Some.log.now c.in-Some.plan.now)) f off)

pub returns-in-Ok : goal.returns-in-Ok
returns-in-Ok c limit budget s held kept asked =
    let t = c.args.table.now in
    let f = c.in-Some.ensures.found t budget s.answer kept in
    let k = asked _ f.is in
    let on = sym (ap (λ (o : Options). o.unsat_assumptions) held.options) ∙ c.if-not-stack.false in
    assumptions_told limit c.args.at s (planned_terms t (planned c.in-Some.log.now c.in-Some.plan.now)) f t c.args.assumed.now (in_context t c.args.stack.now c.args.answer.now) asked c.in-Ok.texts (c.in-Ok.ensures limit s.stack f.check.assumptions held k.literals k.texts) on

pub assumptions_used-requires-clause-inside : goal.assumptions_used-requires-clause-inside
assumptions_used-requires-clause-inside c =
    let t = c.args.table.now in
    (assumed_there t c.args.answer.now c.args.assumed.now (planned_terms t (planned c.in-Some.log.now c.in-Some.plan.now)) c.requires.assumed (λ budget last is. c.in-Some.ensures.found t budget last is)).0

pub assumptions_used-requires-clause-texts : goal.assumptions_used-requires-clause-texts
assumptions_used-requires-clause-texts c =
    let t = c.args.table.now in
    (assumed_there t c.args.answer.now c.args.assumed.now (planned_terms t (planned c.in-Some.log.now c.in-Some.plan.now)) c.requires.assumed (λ budget last is. c.in-Some.ensures.found t budget last is)).1

pub assumptions_used-requires-clause-log : goal.assumptions_used-requires-clause-log
assumptions_used-requires-clause-log c = (c.in-Some.ensures.fits c.args.table.now c.requires.shown).0

pub assumptions_used-requires-clause-fits : goal.assumptions_used-requires-clause-fits
assumptions_used-requires-clause-fits c = (c.in-Some.ensures.fits c.args.table.now c.requires.shown).1
