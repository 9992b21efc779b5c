-- What a session holds of a script: what was stated, and the last check while its answer counts. Source: SMT-LIB 2.6,
-- sections 4.1.1 and 4.1.2; that `unknown` has a mode of its own is own.
use Rattle.std.specs.Prelude.{Bool, true, false, Option, Some, None, Ok, Err, if◌then◌else◌}
use Rattle.spec_text.specs.Answers.{Answer}
use Rattle.spec_commands.specs.Commands.{Command, SetOption, SetInfo, Echo, Exit}
use Rattle.spec_commands.specs.Stack.{Stack, empty_stack}
use Rattle.spec_sessions.specs.Evidence.{Found, model, proof, spent, overflowed, Checked}

-- What is so after some commands of a session.
pub record State : Type 0 where
  -- what they stated
  pub stack : Stack
  -- the last check, with what was found at it, where nothing was stated or taken back since
  pub answer : Option Checked

-- before the first command
abbrev pub first_state : State
first_state = record { stack = empty_stack; answer = None }

-- The modes in which a session is.
pub data ExecutionMode : Type 0 where
  -- no command has set the logic or come without one
  start_mode : ExecutionMode
  -- something was stated or taken back since the last check, or there was none
  assert_mode : ExecutionMode
  -- the last check was answered so
  sat_mode unsat_mode unknown_mode : ExecutionMode

-- the mode after a check at which this was found
abbrev pub mode_found : Found → ExecutionMode
mode_found (model i) = sat_mode
mode_found (proof text) = unsat_mode
mode_found (spent n d learned) = unknown_mode
mode_found (overflowed o k) = unknown_mode

-- the mode after the start, by the last check whose answer counts
abbrev pub mode_answered : Option Checked → ExecutionMode
mode_answered None = assert_mode
mode_answered (Some c) = mode_found c.found

-- the mode in a state
abbrev pub mode_of : State → ExecutionMode
mode_of s = if s.stack.started then mode_answered s.answer else start_mode

-- the command states nothing, nor takes anything back: the answer of the last check counts after it
abbrev pub keeps_answer : Command → Bool
keeps_answer (SetOption k v) = true
keeps_answer SetInfo = true
keeps_answer (Echo text) = true
keeps_answer Exit = true
keeps_answer c = false

-- so does the command that a tree is
abbrev pub states_nothing : Answer Command → Bool
states_nothing (Ok c) = keeps_answer c
states_nothing (Err f) = false

-- the last answer after a command that is no check, where it states nothing or does
abbrev pub answer_kept : Bool → Option Checked → Option Checked
answer_kept true old = old
answer_kept false old = None
