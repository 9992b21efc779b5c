-- Sessions: what one represents, and what a command comes to. Source: SMT-LIB 2.6, section 4.2.
use Rattle.std.specs.Prelude.{◌≡◌, ℕ, Bool, true, false, List, [], Option, Some, None, Result, Ok, Err, IsErr}
use Rattle.no_memory.specs.declared.NoMemory.{NoMemory}
use Rattle.world_io.specs.declared.fault.Failed.{Failed}
use Rattle.world_io.specs.Writing.{SinkView, Sent, NotSent}
use Rattle.spec_text.specs.Answers.{Answer}
use Rattle.spec_text.specs.Places.{IsPlaceOf}
use Rattle.spec_sorts.specs.Signatures.{symbols_in}
use Rattle.spec_commands.specs.Stack.{signature_of}
use Rattle.spec_commands.specs.Checks.{Check}
use Rattle.spec_sessions.specs.Evidence.{Limits, Checked}
use Rattle.spec_sessions.specs.States.{State, ExecutionMode, start_mode, assert_mode, sat_mode, unsat_mode}
use Rattle.spec_sessions.specs.States.{unknown_mode}
use Rattle.spec_sessions.specs.Questions.{Question, question_of}
use Rattle.spec_sessions.specs.Replies.{Reply}
use Rattle.spec_sessions.specs.Responses.{Mode, solve, certify, Response, success, not_supported, answered, echoed}
use Rattle.spec_sessions.specs.Responses.{ended, replied, rejected, response_of, Answered, Answers, response_text}
use Rattle.spec_sessions.specs.Meaning.{IsKeptCheck, MeansAt}
use Rattle.smt_lexer.specs.declared.Refused.{Refused}
use Rattle.smt_lexer.specs.declared.Refused.TheVariants as refusals
use Rattle.smt_sexpr.specs.declared.sexpr.Sexpr.{Sexpr}
use Rattle.smt_sexpr.specs.Items.{text_of, tree_of}
use Rattle.sat_budget.specs.declared.limits.Limits.{Limits as CodeLimits}
use Rattle.assertion_stack.specs.Stacks.{OverTable, over_table}
use Rattle.check_evidence.specs.declared.evidence.Evidence.{Evidence}
use Rattle.check_evidence.specs.declared.evidence.Evidence.TheVariants as found
use Rattle.check_evidence.specs.Evidence.{limits_meant, IsHeld, IsEvidence, HasLearned, HasChecked}
use Rattle.smt_reply.specs.Replies.{Context, in_context, OnAnswer, IsLastAnswer, IsReply}
use Rattle.smt_reply.specs.Cores.{KeepsAsked}
use Rattle.smt_session.specs.declared.mode.Mode.{Mode as CodeMode}
use Rattle.smt_session.specs.declared.mode.Mode.TheVariants as modes
use Rattle.smt_session.specs.declared.mode.ExecutionMode.{ExecutionMode as CodeExecution}
use Rattle.smt_session.specs.declared.mode.ExecutionMode.TheVariants as executions
use Rattle.smt_session.specs.declared.script.Script.{Script}
use Rattle.smt_session.specs.declared.responses.Response.{Response as CodeResponse}
use Rattle.smt_session.specs.declared.responses.Response.TheVariants as responses
use Rattle.smt_session.specs.declared.session.After.{After}
use Rattle.smt_session.specs.declared.session.After.TheVariants as afters
use Rattle.smt_session.specs.declared.session.Halt.{Halt}
use Rattle.smt_session.specs.declared.session.Halt.TheVariants as halts

-- how much is written
abbrev pub mode_meant : CodeMode → Mode
mode_meant modes.Solve = solve
mode_meant modes.Certify = certify

-- the mode to which what a check found leads, and that in which there is nothing
abbrev pub evidence_mode : Option Evidence → ExecutionMode
evidence_mode None = assert_mode
evidence_mode (Some (found.Model interp)) = sat_mode
evidence_mode (Some (found.Proof log plan)) = unsat_mode
evidence_mode (Some (found.Reason reason)) = unknown_mode

-- a mode in the words of the definitions
abbrev pub execution_meant : CodeExecution → ExecutionMode
execution_meant executions.Start = start_mode
execution_meant executions.Assert = assert_mode
execution_meant executions.Sat = sat_mode
execution_meant executions.Unsat = unsat_mode
execution_meant executions.Unknown = unknown_mode

-- what was stated, with the table of its terms
abbrev pub stated : Script → OverTable
stated x = over_table x.table x.stack

-- what questions are answered over
abbrev pub context : Script → Context
context x = in_context x.table x.stack x.answer

-- What a session holds of a script represents a state, under a limit on terms and names.
pub record IsScript (terms : ℕ) (x : Script) (s : State) : Type 0 where
  -- its stack
  pub stack : IsHeld terms (stated x) s.stack
  -- and what the last check found, while its answer counts
  pub answer : IsLastAnswer x.table x.budget x.answer s.answer
  -- and what that check asked about
  pub asked : KeepsAsked x.table x.assumed s

-- it represents some state
abbrev pub HoldsScript : ℕ → Script → Type 0
HoldsScript terms x = (s : State) × IsScript terms x s

-- the response is this, in the words of the definitions, to a command of a text
abbrev pub IsResponse : Script → List ℕ → CodeResponse → Response → Type 0
IsResponse x text responses.Success r = r ≡ success
IsResponse x text responses.Unsupported r = r ≡ not_supported
IsResponse x text responses.Answered r =
    OnAnswer x.answer (λ e. (c : Checked) × IsEvidence x.table x.budget e c.found × (r ≡ answered c))
IsResponse x text (responses.Echoed s) r = r ≡ echoed s.now
IsResponse x text responses.Ended r = r ≡ ended
IsResponse x text (responses.Replied reply) r = (y : Reply) × IsReply (context x) reply y × (r ≡ response_of (Ok y))
IsResponse x text (responses.Rejected f) r =
    (r ≡ rejected (record { offset = f.place.offset; fault = f.fault })) × IsPlaceOf text f.place

-- a check that is answered is one of the stack
abbrev pub IsAskedOf : Response → State → Type 0
IsAskedOf (answered c) s = c.check.stack ≡ s.stack
IsAskedOf _ s = Unit {0}

-- a check that is answered is one that commands left under a limit on terms and names
abbrev pub IsKeptAnswer : ℕ → Response → Type 0
IsKeptAnswer terms (answered c) = IsKeptCheck terms c.check
IsKeptAnswer terms _ = Unit {0}

-- The response of a script, to a command of a text, is this, after which the script is a stack.
pub record IsResponseOf (x : Script) (text : List ℕ) (response : CodeResponse) (a : Answered) : Type 0 where
  -- it is this
  pub is : IsResponse x text response a.response
  -- a check is one of the stack
  pub asked : IsAskedOf a.response a.state
  -- what is declared
  pub symbols : symbols_in (signature_of a.state.stack) ≡ x.table.symbols
  -- the option
  pub option : a.state.stack.options.print_success ≡ x.stack.options.print_success

-- the response means something
abbrev pub IsSomeResponse : Script → CodeResponse → Type 0
IsSomeResponse x response = (text : List ℕ) × (r : Response) × IsResponse x text response r

-- what was learned at a check, where the response is to one
abbrev pub LearnsBy : Limits → Script → Response → Type 0
LearnsBy limits x (answered c) = HasLearned limits x.table c.check c.found x.budget
LearnsBy limits x _ = Unit {0}

-- no other command than a check changes the budget
abbrev pub KeepsBudget : Result CodeResponse NoMemory → Script → Script → Type 0
KeepsBudget (Ok responses.Answered) old new = Unit {0}
KeepsBudget _ old new = new.budget ≡ old.budget

-- what is refused, and what is asked, changes nothing
abbrev pub KeepsScript : Result CodeResponse NoMemory → Script → Script → Type 0
KeepsScript (Ok (responses.Rejected r)) old new = new ≡ old
KeepsScript (Ok (responses.Replied r)) old new = new ≡ old
KeepsScript _ old new = Unit {0}

-- what the last check found, where the command states nothing, and else nothing
abbrev pub answer_left : Bool → Option Evidence → Option Evidence
answer_left true old = old
answer_left false old = None

-- A command is answered in a state, and the script represents the state after it.
pub record AnswersCommand (limits : Limits) (s : State) (c : Sexpr) (response : CodeResponse) (x : Script)
    : Type 0 where
  -- what it is answered
  pub a : Answered
  -- that is so
  pub answers : Answers limits s (tree_of c) a
  -- the response says this
  pub is : IsResponse x (text_of c) response a.response
  -- a check is one of the stack
  pub asked : IsAskedOf a.response a.state
  -- which commands left
  pub kept : IsKeptAnswer limits.terms a.response
  -- what the script represents
  pub represents : IsScript limits.terms x a.state
  -- what was learned
  pub learned : LearnsBy limits x a.response

-- a command is answered in a state; or memory ran out
abbrev pub TakesScriptCommand : Limits → State → Sexpr → Result CodeResponse NoMemory → Script → Type 0
TakesScriptCommand limits s c (Ok response) x = AnswersCommand limits s c response x
TakesScriptCommand limits s c (Err _) x = Unit {0}

-- What a check found is kept, and the script represents the same stack.
pub record HasFound (limits : Limits) (c : Check) (x : Script) : Type 0 where
  -- what is kept
  pub evidence : Evidence
  pub kept : x.answer ≡ Some evidence
  -- it is what the check found
  pub checked : HasChecked limits c evidence (stated x) x.budget

-- a check found something, which is kept; or memory ran out
abbrev pub Finds : Limits → Check → Result (Unit {0}) NoMemory → Script → Type 0
Finds limits c (Ok _) x = HasFound limits c x
Finds limits c (Err _) x = Unit {0}

-- a command that was not taken is refused with its fault, or memory ran out
abbrev pub Rejects : Refused → Result CodeResponse NoMemory → Type 0
Rejects (refusals.Fault r) x = x ≡ Ok (responses.Rejected r)
Rejects refusals.Memory x = IsErr x

-- what comes after a response
abbrev pub after_meant : Response → After
after_meant ended = afters.Ended
after_meant (rejected f) = afters.Refused
after_meant _ = afters.Went

-- What a session holds.
pub record SessionView : Type 0 where
  -- what it holds of a script
  pub script : Script
  -- what each search of a check may spend, and a script name
  pub limits : CodeLimits
  -- how much is written
  pub mode : CodeMode

-- the session represents a state
abbrev pub IsSession : SessionView → State → Type 0
IsSession x s = IsScript x.limits.terms x.script s

-- what was learned at a check is in the budget: it is that of the decision that found what is answered; no other
-- command changes it
abbrev pub HasLists : Response → SessionView → SessionView → Type 0
HasLists (answered c) old new =
    HasLearned (limits_meant old.limits) new.script.table c.check c.found new.script.budget
HasLists _ old new = new.script.budget ≡ old.script.budget

-- what is refused changes nothing of a session, nor does what is answered by lines
abbrev pub RefusedKeeps : Response → SessionView → SessionView → Type 0
RefusedKeeps (rejected f) old new = new ≡ old
RefusedKeeps (replied lines) old new = new ≡ old
RefusedKeeps _ old new = Unit {0}

-- what is asked changes nothing, whatever it is answered
abbrev pub AskedKeeps : {A : Type 0} → Option (Answer Question) → A → A → Type 0
AskedKeeps None old new = Unit {0}
AskedKeeps (Some asked) old new = new ≡ old

-- what the answer of a check means, where the response is one
abbrev pub ResponseMeans : Response → Type 0
ResponseMeans (answered c) = MeansAt c.check c.found
ResponseMeans _ = Unit {0}

-- a command is answered in a state, and the session then represents the state after it
pub record IsAnswered (s : State) (x : Sexpr) (old new : SessionView) (a : Answered) : Type 0 where
  -- it is what the command is to be answered
  pub answers : Answers (limits_meant old.limits) s (tree_of x) a
  -- the session represents what is so after the command
  pub represents : IsSession new a.state
  -- a check is one of the stack
  pub asked : IsAskedOf a.response a.state
  -- what its answer means
  pub means : ResponseMeans a.response
  -- the lists of its budget
  pub lists : HasLists a.response old new
  -- where it is refused, the whole session is as it was
  pub refused : RefusedKeeps a.response old new
  -- so it is where it asks, whatever the answer is
  pub question : AskedKeeps (question_of (tree_of x)) old new

-- what is written for the response to a command
abbrev pub written_for : SessionView → Sexpr → Answered → List ℕ
written_for x c a = response_text (mode_meant x.mode) (text_of c) a

-- what a call that writes a text and passes it on does to a sink, by its result: with `Ok` nothing waits in a buffer
abbrev pub Delivers : List ℕ → Result (Unit {0}) Failed → SinkView → SinkView → Type 0
Delivers text (Ok _) old new = Sent text old new × (new.pending ≡ [])
Delivers text (Err _) old new = NotSent text old new

-- what a step comes to, by its result: the response is written, and nothing waits; or memory ran out, and neither the
-- session nor the sink is changed; or the sink failed, and the session is as after the command
abbrev pub Stepped : SessionView → SessionView → Sexpr → Result After Halt → SinkView → SinkView → Type 0
Stepped old new x (Ok after) out next = (s : State) → IsSession old s
    → (a : Answered) × IsAnswered s x old new a × (after ≡ after_meant a.response)
    × Delivers (written_for old x a) (Ok tt) out next
Stepped old new x (Err halts.Memory) out next = (next ≡ out) × (new ≡ old)
Stepped old new x (Err halts.Sink) out next = (s : State) → IsSession old s
    → (a : Answered) × IsAnswered s x old new a × NotSent (written_for old x a) out next
