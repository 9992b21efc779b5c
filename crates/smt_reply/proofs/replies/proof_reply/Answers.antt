-- What the last check found, where it found a proof and the option is on.
use Rattle.std.proofs.Common.{sym, ap, ◌∙◌}
use Rattle.spec_text.specs.declared.Fault.TheVariants.{WrongMode, NotEnabled}
use Rattle.spec_commands.specs.Stack.{Options}
use Rattle.spec_sessions.specs.Questions.{for_proof}
use Rattle.spec_sessions.specs.Replies.{reply_to}
use Rattle.smt_reply.proofs.Asked.{refuses, no_proof, proofs_off, proof_shown}
use Rattle.smt_reply.proofs.replies.proof_reply.Goals as goal

pub returns-then-not-found_proof : goal.returns-then-not-found_proof
returns-then-not-found_proof c limit t budget s held kept =
    let none = sym (c.found_proof.ensures t budget s.answer kept) ∙ c.if-not-found_proof.true in
    refuses (reply_to limit c.args.at s for_proof) c.refused.result c.args.at WrongMode c.refused.ensures (no_proof limit c.args.at s none)

pub returns-then-not-stack : goal.returns-then-not-stack
returns-then-not-stack c limit t budget s held kept =
    let some = sym (c.found_proof.ensures t budget s.answer kept) ∙ c.if-not-found_proof.false in
    let off = sym (ap (λ (o : Options). o.proofs) held.options) ∙ c.if-not-stack.true in
    refuses (reply_to limit c.args.at s for_proof) c.refused-then-not-stack.result c.args.at NotEnabled c.refused-then-not-stack.ensures (proofs_off limit c.args.at s some off)

pub returns : goal.returns
returns c limit t budget s held kept =
    let some = sym (c.found_proof.ensures t budget s.answer kept) ∙ c.if-not-found_proof.false in
    let on = sym (ap (λ (o : Options). o.proofs) held.options) ∙ c.if-not-stack.false in
    proof_shown limit c.args.at s t budget c.args.stack.now c.args.answer.now kept (sym held.states.symbols) some on
