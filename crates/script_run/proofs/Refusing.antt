-- A refusal is written by lines and columns of the bytes that the command is in, which no later byte changes.
use Rattle.std.proofs.Common.{◌≡◌, ◌≤◌, ℕ, Bool, List, ◌++◌, length, Option, Some, None, refl, sym, ap, ◌∙◌}
use Rattle.std.specs.Prelude.{Ok, Err}
use Rattle.spec_text.specs.declared.Place.{Place}
use Rattle.spec_text.specs.Answers.{Answer}
use Rattle.spec_text.specs.Faults.{Located}
use Rattle.spec_text.specs.Offsets.{HasOffset}
use Rattle.spec_text.specs.Places.{line_of, column_of, name_of}
use Rattle.spec_text.specs.Readings.{kept}
use Rattle.spec_text.specs.Trees.{Tree, offset_of}
use Rattle.spec_models.specs.Replies.{error_text}
use Rattle.spec_commands.specs.Stack.{Stack, Taken, Effect, done, unsupported, check, say, leave, step}
use Rattle.spec_commands.specs.Commands.{command_of}
use Rattle.spec_sessions.specs.Evidence.{Limits}
use Rattle.spec_sessions.specs.States.{State, states_nothing}
use Rattle.spec_sessions.specs.Questions.{Question, question_of}
use Rattle.spec_sessions.specs.Replies.{Reply, says, not_known}
use Rattle.spec_sessions.specs.Responses.{Mode, Response, success, not_supported, answered, echoed, ended, replied, rejected, Answered, Responds, AnswersBy, AnswersTree, Answers, answer_to, response_of, fault_text, text_for, response_text}
use Rattle.sexpr_stream.proofs.Continuing.{place_stays}

-- the law on commands
abbrev pub CommandLaw : Type 0
CommandLaw = (limit : ℕ) (s : Stack) (t : Tree) (f : Located) → step limit s t ≡ Err f → HasOffset t f.offset

-- the law on questions
abbrev pub QuestionLaw : Type 0
QuestionLaw = (limits : Limits) (s : State) (t : Tree) (asked : Answer Question) (f : Located) → question_of t ≡ Some asked → answer_to limits s (offset_of t) asked ≡ Err f → HasOffset t f.offset

module _ (limits : Limits) (command_law : CommandLaw) (question_law : QuestionLaw) (s : State) (t : Tree) (a : Answered) (f : Located) (e : a.response ≡ rejected f) where
  -- what is taken is not refused
  not_taken : (n : Stack) (x : Effect) → Responds limits n x a.response → HasOffset t f.offset
  not_taken n done h = cc
  not_taken n unsupported h = cc
  not_taken n (check place assumptions) h = let c = h.2 in cc
  not_taken n (say text) h = cc
  not_taken n leave h = cc

  by_command : (r : Answer Taken) → step limits.terms s.stack t ≡ r → AnswersBy limits s (states_nothing (command_of t)) r a → HasOffset t f.offset
  by_command (Ok d) is h = not_taken d.stack d.effect h.0
  by_command (Err g) is h = let same : g ≡ f = let k = sym h.0 ∙ e in cc in command_law limits.terms s.stack t f (is ∙ ap Err same)

  by_reply : (asked : Answer Question) (r : Answer Reply) → question_of t ≡ Some asked → answer_to limits s (offset_of t) asked ≡ r → a.response ≡ response_of r → HasOffset t f.offset
  by_reply asked (Ok (says lines)) q is h = cc
  by_reply asked (Ok not_known) q is h = cc
  by_reply asked (Err g) q is h = let same : g ≡ f = let k = sym h ∙ e in cc in question_law limits s t asked f q (is ∙ ap Err same)

  by_question : (asked : Option (Answer Question)) → question_of t ≡ asked → AnswersTree limits s t asked a → HasOffset t f.offset
  by_question None is h = by_command (step limits.terms s.stack t) refl h
  by_question (Some asked) is h = by_reply asked (answer_to limits s (offset_of t) asked) is refl h.0

  -- a refusal stands at an atom or a list of its command
  pub refused_within : Answers limits s t a → HasOffset t f.offset
  refused_within h = by_question (question_of t) refl h

-- the line of a fault of bytes is that of a text that goes on so
fault_stays : (bytes rest : List ℕ) (f : Located) → f.offset ≤ length (kept bytes) → fault_text (kept bytes) f ≡ fault_text (kept (bytes ++ rest)) f
fault_stays bytes rest f le =
    let p : Place = record { offset = f.offset; line = line_of (kept bytes) f.offset; col = column_of (kept bytes) f.offset } in
    let q = place_stays bytes rest p (record { within = le; line = refl; col = refl }) in
    ap (λ n. error_text n (column_of (kept bytes) f.offset) (name_of f.fault)) q.line ∙ ap (λ n. error_text (line_of (kept (bytes ++ rest)) f.offset) n (name_of f.fault)) q.col

module _ (mode : Mode) (bytes rest : List ℕ) (print : Bool) where
  text_stays : (r : Response) → ((f : Located) → r ≡ rejected f → f.offset ≤ length (kept bytes)) → text_for mode (kept bytes) print r ≡ text_for mode (kept (bytes ++ rest)) print r
  text_stays success h = refl
  text_stays not_supported h = refl
  text_stays (answered c) h = refl
  text_stays (echoed text) h = refl
  text_stays ended h = refl
  text_stays (replied lines) h = refl
  text_stays (rejected f) h = fault_stays bytes rest f (h f refl)

-- so is the response to a command in the bytes
pub response_stays : (mode : Mode) (bytes rest : List ℕ) (a : Answered) → ((f : Located) → a.response ≡ rejected f → f.offset ≤ length (kept bytes)) → response_text mode (kept bytes) a ≡ response_text mode (kept (bytes ++ rest)) a
response_stays mode bytes rest a h = text_stays mode bytes rest a.state.stack.options.print_success a.response h
