-- What answers a question, or its fault with its place.
use Rattle.std.proofs.Common.{◌≡◌, ◌≤◌, ◌<◌, length, sym, ap, ◌∙◌, subst}
use Rattle.std.specs.Prelude.{Ok}
use Rattle.spec_text.specs.Faults.{Located}
use Rattle.spec_text.specs.Offsets.{at_offset}
use Rattle.spec_text.specs.Trees.{offset_of}
use Rattle.spec_sessions.specs.Replies.{reply_to}
use Rattle.smt_sexpr.specs.Items.{text_of, start_of, tree_of}
use Rattle.smt_question.specs.Questions.{question_view}
use Rattle.term_reader.specs.Names.{located_of}
use Rattle.smt_session.specs.declared.script.Script.{Script}
use Rattle.smt_session.specs.Sessions.{AnswersCommand}
use Rattle.smt_session.specs.declared.responses.Response.TheVariants as responses
use Rattle.smt_session.proofs.Taking.{asked_fault, replied_as, unanswered_as, holds_answer, holds_assumed}
use Rattle.smt_session.proofs.script.take_question.Goals as goal

pub returns-in-Ok-clause-takes : goal.returns-in-Ok-clause-takes
returns-in-Ok-clause-takes c = λ limits s i is.
    let x = c.args.sexpr.now in
    let old : Script = c.args.script.now in
    let q = question_view c.args.asked in
    let at : c.offset-at.result ≡ offset_of (tree_of x) = c.offset-at.ensures ∙ ap offset_of c.trees.ensures.tree in
    let same : old ≡ record old { table = c.reply_to.new.table; stack = c.reply_to.new.stack } = λ j. record old { table = sym c.reply_to.ensures.table j; stack = sym c.reply_to.ensures.stack j } in
    let r = rw c.in-Ok.reply-is at (c.in-Ok.ensures.replies limits.terms old.budget s i.stack i.answer i.asked) in
    subst (λ y. AnswersCommand limits s x (responses.Replied c.in-Ok.reply) y) same
    (replied_as limits s x q old is i c.in-Ok.reply r.0 (ap (λ n. reply_to limits.terms n s q) (sym at) ∙ r.1) r.2)

pub returns-in-Err-Fault-clause-takes : goal.returns-in-Err-Fault-clause-takes
returns-in-Err-Fault-clause-takes c = λ limits s i is.
    let x = c.args.sexpr.now in
    let old : Script = c.args.script.now in
    let q = question_view c.args.asked in
    let at : c.offset-at.result ≡ offset_of (tree_of x) = c.offset-at.ensures ∙ ap offset_of c.trees.ensures.tree in
    let same : old ≡ record old { table = c.reply_to.new.table; stack = c.reply_to.new.stack } = λ j. record old { table = sym c.reply_to.ensures.table j; stack = sym c.reply_to.ensures.stack j } in
    let r = rw c.in-Err-Fault.field-0-is at (c.in-Err-Fault.ensures.replies limits.terms old.budget s i.stack i.answer i.asked) in
    let f : Located = located_of c.in-Err-Fault.fault in
    let wanted = ap (λ n. reply_to limits.terms n s q) (sym at) ∙ r in
    let inside = at_offset (λ n. (start_of x ≤ n) × (n < length (text_of x))) (tree_of x) f.offset c.offsets_have_places.ensures (c.faults_are_in_their_question.ensures limits s (tree_of x) (Ok q) f is (asked_fault limits s (offset_of (tree_of x)) q f wanted)) in
    let place = c.place_in.ensures.offset inside.0 inside.1 in
    subst (λ y. AnswersCommand limits s x (responses.Rejected (record { place = c.place_in.result; fault = c.in-Err-Fault.fault.fault })) y) same
    (unanswered_as limits s x q old is i (record { place = c.place_in.result; fault = c.in-Err-Fault.fault.fault }) f wanted (λ j. record { offset = sym place j; fault = f.fault }) c.place_in.ensures.place)

pub reply_to-requires : goal.reply_to-requires
reply_to-requires c =
    let old : Script = c.args.script.now in
    let s = c.requires.1.0 in
    let i = c.requires.1.1 in
    record {
      held = (c.requires.0.terms, (s.stack, i.stack));
      shown = holds_answer old.table old.budget old.answer s.answer i.answer;
      assumed = holds_assumed old.table old.budget old.answer old.assumed s i.answer i.asked;
    }
