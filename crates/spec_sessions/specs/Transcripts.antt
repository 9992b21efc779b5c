-- What is written for a script. Source: SMT-LIB 2.6, section 4.2; that a run goes on after a command that is refused is
-- one of the standard's two ways.
use Rattle.std.specs.Prelude.{◌≡◌, ℕ, Bool, true, false, ◌||◌, List, [], ◌∷◌, ◌++◌, flat_map, Option, Some, None, ◌⊎◌}
use Rattle.std.specs.List.{list_any}
use Rattle.spec_text.specs.Faults.{Located}
use Rattle.spec_text.specs.Trees.{Trees, none, more}
use Rattle.spec_text.specs.Readings.{kept, IsReadUpTo}
use Rattle.spec_sessions.specs.Evidence.{Limits, Checked}
use Rattle.spec_sessions.specs.States.{State, first_state}
use Rattle.spec_sessions.specs.Responses.{Mode, Response, answered, ended, Answered, Answers, response_text, fault_text}
use Rattle.spec_sessions.specs.Responses.{is_rejected, is_end}

-- after a command that ends the script nothing is answered
abbrev pub Follows : Response → (List Answered → Type 0) → List Answered → Type 0
Follows ended rest given = given ≡ []
Follows _ rest given = rest given

-- what the commands are answered, one after the other, up to one that ends the script, or all of them
unfoldable pub Runs : Limits → State → Trees → List Answered → Type 0
Runs limits s none given = given ≡ []
Runs limits s (more t ts) [] = ⊥
Runs limits s (more t ts) (a ∷ given) = Answers limits s t a × Follows a.response (Runs limits a.state ts) given

-- what the first of the commands are answered, any number of them
unfoldable pub Begins : Limits → State → Trees → List Answered → Type 0
Begins limits s ts [] = Unit {0}
Begins limits s none (a ∷ given) = ⊥
Begins limits s (more t ts) (a ∷ given) = Answers limits s t a × Follows a.response (Begins limits a.state ts) given

-- the state in which answers leave a script
abbrev pub state_left : State → List Answered → State
state_left s [] = s
state_left s (a ∷ given) = state_left a.state given

-- what is written for the answers
abbrev pub answers_text : Mode → List ℕ → List Answered → List ℕ
answers_text mode text given = flat_map (response_text mode text) given

-- nothing where a command ended the script
abbrev pub closing_by : Bool → Option Located → Option Located
closing_by true end = None
closing_by false end = end

-- what ends the reading of a script's text; nothing does where a command ended the script before
abbrev pub closing : List Answered → Option Located → Option Located
closing given end = closing_by (list_any (λ (a : Answered). is_end a.response) given) end

-- the line of what ends it, where it is a fault
abbrev pub closing_text : List ℕ → Option Located → List ℕ
closing_text text None = []
closing_text text (Some f) = fault_text text f

-- whether it is a fault
abbrev pub is_fault : Option Located → Bool
is_fault None = false
is_fault (Some f) = true

-- The text's commands were answered so, and this was written. The last says whether a command was refused, or a fault
-- ended the run. Lines and columns are counted in the bytes that are read, where all faults are.
pub record IsTranscript (limits : Limits) (mode : Mode) (text : List ℕ) (out : List ℕ) (refused : Bool) : Type 0 where
  -- the commands
  pub commands : Trees
  -- what ends them
  pub end : Option Located
  -- they are those of the text
  pub read : IsReadUpTo text commands end
  -- what they are answered
  pub answers : List Answered
  -- it is what they are to be answered
  pub runs : Runs limits first_state commands answers
  -- it is written, and the line of a fault that ends the run
  pub written : out ≡ answers_text mode (kept text) answers ++ closing_text (kept text) (closing answers end)
  -- whether one was refused
  pub told : refused ≡ (list_any (λ (a : Answered). is_rejected a.response) answers || is_fault (closing answers end))

-- The first of the text's commands were answered so, or all of them and the line of a fault that ended the run; this
-- was written for them.
pub record IsBegun (limits : Limits) (mode : Mode) (text : List ℕ) (out : List ℕ) : Type 0 where
  -- the commands
  pub commands : Trees
  -- what ends them
  pub end : Option Located
  -- they are those of the text
  pub read : IsReadUpTo text commands end
  -- what the first of them are answered
  pub answers : List Answered
  -- it is what they are to be answered
  pub begins : Begins limits first_state commands answers
  -- it is written, and nothing else but, where all were answered, the line of a fault that ends the run
  pub written : (out ≡ answers_text mode (kept text) answers) ⊎ (Runs limits first_state commands answers
      × (out ≡ answers_text mode (kept text) answers ++ closing_text (kept text) (closing answers end)))

-- a check more before it, where it was one
abbrev pub with_check : Response → List Checked → List Checked
with_check (answered c) later = c ∷ later
with_check _ later = later

-- the checks in their order, with what was found at each
abbrev pub checks_in : List Answered → List Checked
checks_in [] = []
checks_in (a ∷ given) = with_check a.response (checks_in given)
