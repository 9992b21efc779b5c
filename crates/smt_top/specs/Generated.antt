-- A script that is made by its size: what its check finds, and the line that says so.
use Rattle.std.specs.Prelude.{◌≡◌, ℕ, false, List, [], ◌∷◌, ◌++◌, length, codes, decimal, Some, None, Result, Ok, Err}
use Rattle.std.specs.Prelude.{⊤}
use Rattle.world_io.specs.Writing.{SinkView, NotSent}
use Rattle.spec_sessions.specs.Evidence.{Limits, Found, Checked}
use Rattle.spec_sessions.specs.States.{State, ExecutionMode, start_mode, assert_mode, sat_mode, unsat_mode}
use Rattle.spec_sessions.specs.States.{unknown_mode, mode_found, mode_of}
use Rattle.spec_sessions.specs.Responses.{certify, answer_text, evidence_text}
use Rattle.spec_sessions.specs.Transcripts.{IsTranscript, checks_in}
use Rattle.spec_sessions.specs.Statements.{AnswersSay}
use Rattle.term_core.specs.Tables.{TableView}
use Rattle.sat_budget.specs.Budgets.{BudgetView}
use Rattle.check_evidence.specs.Evidence.{HasLearned}
use Rattle.smt_session.specs.Sessions.{SessionView, IsSession, Delivers}
use Rattle.alethe_reader.specs.declared.errors.ProofStop.{ProofStop}
use Rattle.alethe_reader.specs.declared.errors.ProofStop.TheVariants as stops
use Rattle.script_run.specs.declared.status.Status.{Status}
use Rattle.script_run.specs.declared.status.Status.TheVariants.{Done, Memory, WriteFault}
use Rattle.gen_script.specs.Scripts.{script}
use Rattle.smt_top.specs.Arguments.{limits_by, usual_conflicts}

-- what a search of such a script may spend, and how much the script may name
abbrev pub usual_limits : Limits
usual_limits = limits_by usual_conflicts

-- the word of an answer, by the mode after it; before an answer there is none
abbrev pub letters_of : ExecutionMode → List ℕ
letters_of start_mode = []
letters_of assert_mode = []
letters_of sat_mode = codes "sat"
letters_of unsat_mode = codes "unsat"
letters_of unknown_mode = codes "unknown"

-- the line of a script of a size: what was found at its check, how many clauses were learned and how many pivots made,
-- and of how many bytes the evidence is
abbrev pub generated_line : ℕ → Found → (conflicts pivots bytes : ℕ) → List ℕ
generated_line n f conflicts pivots bytes =
    decimal n ++ (codes " " ++ (letters_of (mode_found f) ++ (codes " conflicts " ++ (decimal conflicts
    ++ (codes " pivots " ++ (decimal pivots ++ (codes " bytes " ++ (decimal bytes ++ codes "\n"))))))))

-- All commands of a text were answered, with nothing refused, and this was written. Where the last answer is still that
-- of a check, it is the one check of the text, and nothing was written but its answer and its evidence.
pub record IsAnsweredAll (limits : Limits) (text : List ℕ) (x : SessionView) (out : List ℕ) : Type 0 where
  -- it is what is to be written
  pub transcript : IsTranscript limits certify text out false
  -- what the session represents
  pub state : State
  pub represents : IsSession x state
  -- the last answer is that of the one check, all of what was written is for it, and the budget is that of its search
  pub one : (c : Checked) → state.answer ≡ Some c → (checks_in transcript.answers ≡ c ∷ [])
      × (out ≡ answer_text c.found ++ evidence_text c)
      × HasLearned limits x.script.table c.check c.found x.script.budget

-- The script of a size was run, and this was found at its one check.
pub record IsChecked (n : ℕ) (c : Checked) : Type 0 where
  -- the answer and the evidence are all that is to be written for the script, and nothing in it is refused
  pub transcript : IsTranscript usual_limits certify (script n) (answer_text c.found ++ evidence_text c) false
  -- it has no other check
  pub only : checks_in transcript.answers ≡ c ∷ []
  -- what the answer says is so
  pub says : AnswersSay usual_limits (script n) transcript.answers

-- The line is that of the script of a size.
pub record IsLineOf (n : ℕ) (line : List ℕ) : Type 0 where
  -- what was found
  pub checked : Checked
  -- it was found at the check of the script
  pub is_checked : IsChecked n checked
  -- a budget of a search that found it
  pub table : TableView
  pub budget : BudgetView
  pub learned : HasLearned usual_limits table checked.check checked.found budget
  -- the line has its numbers
  pub is : line ≡ generated_line n checked.found (length budget.learned) (length budget.exchanges)
      (length (evidence_text checked))

-- how a run of the script of a size ends, by its status: its line was written, or a prefix of it; where memory ran out,
-- nothing was
abbrev pub GenMeans : Status → ℕ → SinkView → SinkView → Type 0
GenMeans Done n old new = (line : List ℕ) × IsLineOf n line × Delivers line (Ok tt) old new
GenMeans Memory n old new = new ≡ old
GenMeans WriteFault n old new = (line : List ℕ) × IsLineOf n line × NotSent line old new
GenMeans _ n old new = ⊥

-- the mode is that after the answer of a check
abbrev pub IsAnsweredMode : ExecutionMode → Type 0
IsAnsweredMode start_mode = ⊥
IsAnsweredMode assert_mode = ⊥
IsAnsweredMode sat_mode = ⊤
IsAnsweredMode unsat_mode = ⊤
IsAnsweredMode unknown_mode = ⊤

-- the last check of a session was answered, and its answer counts still
abbrev pub HasAnswer : SessionView → Type 0
HasAnswer x = (s : State) × IsSession x s × IsAnsweredMode (mode_of s)

-- The script of a size was run in a session: this was found at its check, with evidence of so many bytes, and the
-- budget is that of its search.
pub record Solves (n bytes : ℕ) (x : SessionView) : Type 0 where
  -- what the session represents
  pub state : State
  pub represents : IsSession x state
  -- the last answer
  pub checked : Checked
  pub answer : state.answer ≡ Some checked
  pub mode : IsAnsweredMode (mode_of state)
  -- it is that of the check of the script
  pub is_checked : IsChecked n checked
  pub learned : HasLearned usual_limits x.script.table checked.check checked.found x.script.budget
  -- the evidence has so many bytes
  pub size : bytes ≡ length (evidence_text checked)

-- no proof was found to have a fault
abbrev pub IsNoFault : {A : Type 0} → Result A ProofStop → Type 0
IsNoFault (Ok a) = ⊤
IsNoFault (Err (stops.Fault f)) = ⊥
IsNoFault (Err stops.Memory) = ⊤

-- A sink that keeps what is written.
pub record KeptBytes : Type 0 where
  -- what was written
  pub written : List ℕ
  -- how many writes failed
  pub faults : ℕ

-- it as contracts over all sinks see it: nothing waits, and no room is promised
abbrev pub seen_bytes : KeptBytes → SinkView
seen_bytes s = record { known = Some s.written; faults = s.faults; pending = []; room = None }
