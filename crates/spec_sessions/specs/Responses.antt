-- What commands are answered, and what is written for that. Source: SMT-LIB 2.6, sections 3.9 and 4.2; the evidence
-- after an answer is own.
use Rattle.std.specs.Prelude.{◌≡◌, ℕ, Bool, true, false, List, [], ◌∷◌, ◌++◌, Option, Some, None, Ok, Err}
use Rattle.std.specs.Prelude.{if◌then◌else◌}
use Rattle.spec_text.specs.Places.{line_of, column_of, name_of}
use Rattle.spec_text.specs.Faults.{Located}
use Rattle.spec_text.specs.Answers.{Answer, ◌>>=◌}
use Rattle.spec_text.specs.Trees.{Tree, offset_of}
use Rattle.spec_sorts.specs.Signatures.{symbols_in}
use Rattle.spec_commands.specs.Commands.{command_of}
use Rattle.spec_commands.specs.Stack.{Stack, Effect, done, unsupported, check, say, leave, Taken, signature_of, step}
use Rattle.spec_commands.specs.Checks.{Check}
use Rattle.spec_models.specs.declared.ResponseWord.TheVariants.{Success, Unsupported, Sat, Unsat, Unknown}
use Rattle.spec_models.specs.Replies.{conflicts, overflow, error_text, word_line, reason_line}
use Rattle.spec_models.specs.Models.{model_text}
use Rattle.spec_sessions.specs.Evidence.{Limits, Found, model, proof, spent, overflowed, Checked}
use Rattle.spec_sessions.specs.Evidence.{Justifies}
use Rattle.spec_sessions.specs.States.{State, states_nothing, answer_kept}
use Rattle.spec_sessions.specs.Questions.{Question, question_of}
use Rattle.spec_sessions.specs.Replies.{Reply, says, not_known, reply_to}

-- How much is written.
pub data Mode : Type 0 where
  -- the standard's responses
  solve : Mode
  -- with these, after the answer of a check, what shows it
  certify : Mode

-- What a command is answered.
pub data Response : Type 0 where
  -- it was done
  success : Response
  -- its option is not known
  not_supported : Response
  -- this was found at its check
  answered : Checked → Response
  -- its text is written, which is here without its quotes
  echoed : List ℕ → Response
  -- it was done, and the script ends
  ended : Response
  -- these lines answer what was asked
  replied : List ℕ → Response
  -- it was refused, for this fault
  rejected : Located → Response

-- What a command is answered, and what comes after it.
pub record Answered : Type 0 where
  -- the response
  pub response : Response
  -- the state after the command
  pub state : State

-- a check is decided: this was found at it, and shows what it should
abbrev pub IsDecided : Limits → Check → Response → Type 0
IsDecided limits c r = (f : Found) × Justifies limits c f × (r ≡ answered (record { check = c; found = f }))

-- what a command that was taken is answered, where this stack comes after it
abbrev pub Responds : Limits → Stack → Effect → Response → Type 0
Responds limits s done r = r ≡ success
Responds limits s unsupported r = r ≡ not_supported
Responds limits s (check place assumptions) r = IsDecided limits (record { stack = s; assumptions = assumptions }) r
Responds limits s (say text) r = r ≡ echoed text
Responds limits s leave r = r ≡ ended

-- the last answer after a response: that of a check, or what is kept of the one before; what is refused keeps it
abbrev pub answer_after : Bool → Option Checked → Response → Option Checked
answer_after keeps old (answered c) = Some c
answer_after keeps old (rejected f) = old
answer_after keeps old r = answer_kept keeps old

-- the state after a command that was taken in a state, where it leaves this stack and is answered so
abbrev pub state_after : Bool → State → Stack → Response → State
state_after keeps s n r = record { stack = n; answer = answer_after keeps s.answer r }

-- what a command is answered in a state, where it states nothing or does: a command that is refused changes nothing
abbrev pub AnswersBy : Limits → State → Bool → Answer Taken → Answered → Type 0
AnswersBy limits s keeps (Ok d) a =
    Responds limits d.stack d.effect a.response × (a.state ≡ state_after keeps s d.stack a.response)
AnswersBy limits s keeps (Err f) a = (a.response ≡ rejected f) × (a.state ≡ s)

-- the response to a question, by what answers it or by its first fault
abbrev pub response_of : Answer Reply → Response
response_of (Ok (says lines)) = replied lines
response_of (Ok not_known) = not_supported
response_of (Err f) = rejected f

-- what answers a question in a state, by a command at an offset, or its first fault: that of its shape comes first
abbrev pub answer_to : Limits → State → ℕ → Answer Question → Answer Reply
answer_to limits s at asked = asked >>= λ q. reply_to limits.terms at s q

-- what a tree is answered in a state, where it asks this or is a command: what is asked changes nothing
abbrev pub AnswersTree : Limits → State → Tree → Option (Answer Question) → Answered → Type 0
AnswersTree limits s t (Some asked) a =
    (a.response ≡ response_of (answer_to limits s (offset_of t) asked)) × (a.state ≡ s)
AnswersTree limits s t None a = AnswersBy limits s (states_nothing (command_of t)) (step limits.terms s.stack t) a

-- the same of what the tree is
abbrev pub Answers : Limits → State → Tree → Answered → Type 0
Answers limits s t a = AnswersTree limits s t (question_of t) a

-- the line of a fault of a text
abbrev pub fault_text : List ℕ → Located → List ℕ
fault_text text f = error_text (line_of text f.offset) (column_of text f.offset) (name_of f.fault)

-- the line of an answer
abbrev pub answer_text : Found → List ℕ
answer_text (model i) = word_line Sat
answer_text (proof text) = word_line Unsat
answer_text (spent n d learned) = word_line Unknown
answer_text (overflowed o k) = word_line Unknown

-- what shows it, in print
abbrev pub evidence_text : Checked → List ℕ
evidence_text c = by c.found
  where
    by : Found → List ℕ
    by (model i) = model_text i (symbols_in (signature_of c.check.stack))
    by (proof text) = text
    by (spent n d learned) = reason_line (conflicts n)
    by (overflowed o k) = reason_line (overflow o)

-- what is written after the line of an answer
abbrev pub shown_text : Mode → Checked → List ℕ
shown_text solve c = []
shown_text certify c = evidence_text c

-- `success`, where it is printed
abbrev pub success_by : Bool → List ℕ
success_by print = if print then word_line Success else []

-- a string as it is in a script, on a line
abbrev pub string_line : List ℕ → List ℕ
string_line text = 34 ∷ text ++ 34 ∷ 10 ∷ []

-- what is written for a response to a command of a text, where `success` is printed after it or not
abbrev pub text_for : Mode → List ℕ → Bool → Response → List ℕ
text_for mode text print success = success_by print
text_for mode text print not_supported = word_line Unsupported
text_for mode text print (answered c) = answer_text c.found ++ shown_text mode c
text_for mode text print (echoed s) = string_line s
text_for mode text print ended = success_by print
text_for mode text print (replied lines) = lines
text_for mode text print (rejected f) = fault_text text f

-- what is written for what a command of a text is answered
abbrev pub response_text : Mode → List ℕ → Answered → List ℕ
response_text mode text a = text_for mode text a.state.stack.options.print_success a.response

-- whether the command was refused
abbrev pub is_rejected : Response → Bool
is_rejected (rejected f) = true
is_rejected _ = false

-- whether the script ends after it
abbrev pub is_end : Response → Bool
is_end ended = true
is_end _ = false
