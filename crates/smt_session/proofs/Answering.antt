-- What the answer to a command means, and what it says of a session.
use Rattle.std.proofs.Common.{◌≡◌, ℕ, List, Option, Some, None, sym, ap, subst}
use Rattle.std.specs.Prelude.{Ok, Err}
use Rattle.spec_text.specs.Answers.{Answer}
use Rattle.spec_text.specs.Trees.{Tree, offset_of}
use Rattle.spec_commands.specs.Commands.{command_of}
use Rattle.spec_commands.specs.Stack.{Stack, Effect, check, done, unsupported, say, leave, Taken, step}
use Rattle.spec_commands.specs.Checks.{Check}
use Rattle.spec_sessions.specs.Evidence.{Limits, Found, Checked, Justifies}
use Rattle.spec_sessions.specs.States.{State, states_nothing}
use Rattle.spec_sessions.specs.Questions.{Question, question_of}
use Rattle.spec_sessions.specs.Replies.{Reply, says, not_known}
use Rattle.spec_sessions.specs.Responses.{answered, response_of, answer_to, Answered, Responds, AnswersBy, AnswersTree, Answers}
use Rattle.spec_sessions.specs.Meaning.{IsKeptCheck, MeansAt}
use Rattle.smt_sexpr.specs.declared.sexpr.Sexpr.{Sexpr}
use Rattle.smt_sexpr.specs.Items.{text_of, tree_of}
use Rattle.check_evidence.specs.declared.evidence.Evidence.{Evidence}
use Rattle.check_evidence.specs.Evidence.{limits_meant, IsEvidence}
use Rattle.smt_reply.specs.Replies.{OnAnswer}
use Rattle.smt_session.specs.declared.script.Script.{Script}
use Rattle.smt_session.specs.declared.responses.Response.{Response as CodeResponse}
use Rattle.smt_session.specs.declared.responses.Response.TheVariants as responses
use Rattle.smt_session.specs.Sessions.{SessionView, IsResponse, IsResponseOf, IsKeptAnswer, LearnsBy, KeepsBudget, KeepsScript, AnswersCommand, HasLists, RefusedKeeps, AskedKeeps, ResponseMeans, IsAnswered}

-- the script that a session holds, with what else it holds
abbrev pub session_over : SessionView → Script → SessionView
session_over old x = record old { script = x }

-- what a response says of the lists of a budget
keeps_lists : (text : List ℕ) (r : CodeResponse) (a : Answered) (old : SessionView) (x : Script) → IsResponse x text r a.response → LearnsBy (limits_meant old.limits) x a.response → KeepsBudget (Ok r) old.script x → HasLists a.response old (session_over old x)
keeps_lists text responses.Success a old x is learned keeps = subst (λ y. HasLists y old (session_over old x)) (sym is) keeps
keeps_lists text responses.Unsupported a old x is learned keeps = subst (λ y. HasLists y old (session_over old x)) (sym is) keeps
keeps_lists text (responses.Echoed s) a old x is learned keeps = subst (λ y. HasLists y old (session_over old x)) (sym is) keeps
keeps_lists text responses.Ended a old x is learned keeps = subst (λ y. HasLists y old (session_over old x)) (sym is) keeps
keeps_lists text (responses.Rejected f) a old x is learned keeps = subst (λ y. HasLists y old (session_over old x)) (sym is.0) keeps
keeps_lists text (responses.Replied reply) a old x (y, of, is) learned keeps = subst (λ z. HasLists z old (session_over old x)) (sym is) (by y)
  where
    by : (z : Reply) → HasLists (response_of (Ok z)) old (session_over old x)
    by (says lines) = keeps
    by not_known = keeps
keeps_lists text responses.Answered a old x is learned keeps = by x.answer is
  where
    by : (e : Option Evidence) → OnAnswer e (λ z. (c : Checked) × IsEvidence x.table x.budget z c.found × (a.response ≡ answered c)) → HasLists a.response old (session_over old x)
    by None h = absurd h
    by (Some e) (c, evidence, same) = subst (λ y. HasLists y old (session_over old x)) (sym same) (subst (LearnsBy (limits_meant old.limits) x) same learned)

-- nor does what is refused, or asks, change anything else
keeps_session : (text : List ℕ) (r : CodeResponse) (a : Answered) (old : SessionView) (x : Script) → IsResponse x text r a.response → KeepsScript (Ok r) old.script x → RefusedKeeps a.response old (session_over old x)
keeps_session text responses.Success a old x is kept = subst (λ y. RefusedKeeps y old (session_over old x)) (sym is) tt
keeps_session text responses.Unsupported a old x is kept = subst (λ y. RefusedKeeps y old (session_over old x)) (sym is) tt
keeps_session text (responses.Echoed s) a old x is kept = subst (λ y. RefusedKeeps y old (session_over old x)) (sym is) tt
keeps_session text responses.Ended a old x is kept = subst (λ y. RefusedKeeps y old (session_over old x)) (sym is) tt
keeps_session text responses.Answered a old x is kept = by x.answer is
  where
    by : (e : Option Evidence) → OnAnswer e (λ z. (c : Checked) × IsEvidence x.table x.budget z c.found × (a.response ≡ answered c)) → RefusedKeeps a.response old (session_over old x)
    by None h = absurd h
    by (Some e) (c, evidence, same) = subst (λ y. RefusedKeeps y old (session_over old x)) (sym same) tt
keeps_session text (responses.Replied reply) a old x (y, of, is) kept = subst (λ z. RefusedKeeps z old (session_over old x)) (sym is) (by y)
  where
    by : (z : Reply) → RefusedKeeps (response_of (Ok z)) old (session_over old x)
    by (says lines) = ap (session_over old) kept
    by not_known = tt
keeps_session text (responses.Rejected f) a old x is kept = subst (λ y. RefusedKeeps y old (session_over old x)) (sym is.0) (ap (session_over old) kept)

-- the law on what was found
abbrev pub MeansSo : Type 0
MeansSo = (limits : Limits) (c : Check) (f : Found) → IsKeptCheck limits.terms c → Justifies limits c f → MeansAt c f

-- what an answer means, of what a tree is to be answered
means_so : MeansSo → (limits : Limits) (s : State) (t : Tree) (a : Answered) → Answers limits s t a → IsKeptAnswer limits.terms a.response → ResponseMeans a.response
means_so law limits s t a answers kept = by_tree (question_of t) answers
  where
    of_found : (c : Check) (f : Found) → Justifies limits c f → a.response ≡ answered (record { check = c; found = f }) → ResponseMeans a.response
    of_found c f shown is = subst ResponseMeans (sym is) (law limits c f (subst (IsKeptAnswer limits.terms) is kept) shown)

    by_effect : (d : Stack) (e : Effect) → Responds limits d e a.response → ResponseMeans a.response
    by_effect d done is = subst ResponseMeans (sym is) tt
    by_effect d unsupported is = subst ResponseMeans (sym is) tt
    by_effect d (check place assumptions) (f, shown, is) = of_found (record { stack = d; assumptions = assumptions }) f shown is
    by_effect d (say text) is = subst ResponseMeans (sym is) tt
    by_effect d leave is = subst ResponseMeans (sym is) tt

    by_step : (r : Answer Taken) → AnswersBy limits s (states_nothing (command_of t)) r a → ResponseMeans a.response
    by_step (Ok d) (responds, same) = by_effect d.stack d.effect responds
    by_step (Err f) (is, same) = subst ResponseMeans (sym is) tt

    by_reply : (x : Answer Reply) → ResponseMeans (response_of x)
    by_reply (Ok (says lines)) = tt
    by_reply (Ok not_known) = tt
    by_reply (Err f) = tt

    by_tree : (q : Option (Answer Question)) → AnswersTree limits s t q a → ResponseMeans a.response
    by_tree None h = by_step (step limits.terms s.stack t) h
    by_tree (Some asked) (is, same) = subst ResponseMeans (sym is) (by_reply (answer_to limits s (offset_of t) asked))

-- what is asked changes nothing else, either
asked_session : (q : Option (Answer Question)) (old : SessionView) (x : Script) → AskedKeeps q old.script x → AskedKeeps q old (session_over old x)
asked_session None old x h = tt
asked_session (Some asked) old x h = ap (session_over old) h

-- what is not changed is kept, whatever is asked, and so is it where nothing is
pub asked_kept : (q : Option (Answer Question)) (old new : Script) → new ≡ old → AskedKeeps q old new
asked_kept None old new h = tt
asked_kept (Some asked) old new h = h

-- a command that was taken is answered
pub is_answered : MeansSo → (s : State) (c : Sexpr) (r : CodeResponse) (old : SessionView) (x : Script) (taken : AnswersCommand (limits_meant old.limits) s c r x) → KeepsBudget (Ok r) old.script x → KeepsScript (Ok r) old.script x → AskedKeeps (question_of (tree_of c)) old.script x → IsAnswered s c old (session_over old x) taken.a
is_answered law s c r old x taken budget kept asked = record {
  answers = taken.answers;
  represents = taken.represents;
  asked = taken.asked;
  means = means_so law (limits_meant old.limits) s (tree_of c) taken.a taken.answers taken.kept;
  lists = keeps_lists (text_of c) r taken.a old x taken.is taken.learned budget;
  refused = keeps_session (text_of c) r taken.a old x taken.is kept;
  question = asked_session (question_of (tree_of c)) old x asked;
}

-- what is written for it is its response
pub is_response : (limits : Limits) (s : State) (c : Sexpr) (r : CodeResponse) (x : Script) (taken : AnswersCommand limits s c r x) → IsResponseOf x (text_of c) r taken.a
is_response limits s c r x taken = record {
  is = taken.is;
  asked = taken.asked;
  symbols = sym taken.represents.stack.stack.states.symbols;
  option = sym (ap (λ o. o.print_success) taken.represents.stack.stack.options);
}
