-- Answers that are computed are those of the commands, if what was found shows what it should.
use Rattle.std.proofs.Common.{◌≡◌, ℕ, Bool, ◌||◌, List, [], ◌∷◌, ◌++◌, length, All, Option, Some, None, refl, ap, ◌∙◌, subst, arith}
use Rattle.std.specs.Prelude.{Ok, Err}
use Rattle.std.specs.List.{list_any}
use Rattle.std.proofs.lemmas.List.Elements.{All-nil, All-cons, All-head, All-tail}
use Rattle.spec_text.specs.Answers.{Answer}
use Rattle.spec_text.specs.Readings.{kept, IsReadUpTo}
use Rattle.spec_text.specs.Trees.{Tree, Trees, none, more, offset_of}
use Rattle.spec_sorts.specs.Terms.{Symbol}
use Rattle.spec_sorts.specs.Values.{Value, HasSort, IsTableOf}
use Rattle.spec_commands.specs.Commands.{command_of}
use Rattle.spec_commands.specs.Stack.{Stack, Effect, done, unsupported, check, say, leave, Taken, empty_stack, begun, step}
use Rattle.spec_commands.specs.Checks.{Check, after_effect, after_command, current_at}
use Rattle.spec_sessions.specs.Evidence.{Checked, Found, IsModelOf, Justifies, Limits, model, proof}
use Rattle.spec_sessions.specs.States.{State, first_state, states_nothing}
use Rattle.spec_sessions.specs.Responses.{Mode, Response, success, not_supported, answered, echoed, state_after, Answered, AnswersBy, response_of, answer_to, AnswersTree, is_rejected}
use Rattle.spec_sessions.specs.Questions.{Question, question_of}
use Rattle.spec_sessions.specs.Replies.{Reply, says, not_known}
use Rattle.spec_sessions.specs.Transcripts.{Follows, Runs, answers_text, closing, closing_text, is_fault, IsTranscript, with_check, checks_in}
use Rattle.spec_sessions.specs.Examples.{next_found, later_found, answers_after, answers_by, answers_tree, answers_of, always, tables}
use Rattle.spec_sessions.proofs.NoCommands.{question_is_no_command}

-- the first of checks, where there is one
abbrev pub first_of : List Checked → Checked
first_of (c ∷ cs) = c
first_of [] = record { check = record { stack = empty_stack; assumptions = [] }; found = proof [] }

-- the checks after the first
abbrev pub after_first : List Checked → List Checked
after_first [] = []
after_first (c ∷ cs) = cs

-- a table without rows is one of a symbol that has its value's sort
pub bare : {s : Symbol} {v : Value} → HasSort s.result v → IsTableOf s (always v)
bare h = record { default = h; rows = λ k d l. absurd (omega (arith, l)); bare = λ e. refl }

-- the check where nothing is asserted, and any tables
abbrev pub nothing : Checked
nothing = record { check = record { stack = begun empty_stack; assumptions = [] }; found = model tables }

-- these make true what is asked there
pub nothing_asked : IsModelOf nothing.check tables
nothing_asked = record { interprets = λ k d l. absurd (omega (arith, l)); each = λ k d l. absurd (omega (arith, l)) }

module _ (limits : Limits) where
  -- what was found at a check shows what it should
  abbrev pub IsJustified : Checked → Type 0
  IsJustified c = Justifies limits c.check c.found

  -- what was found at the only check shows what it should
  pub one_check : (cs : List Checked) → length cs ≡ 1 → IsJustified (first_of cs) → All IsJustified cs
  one_check [] e h = absurd (omega (arith, e))
  one_check (c ∷ []) e h = All-cons IsJustified c [] h (All-nil IsJustified)
  one_check (c ∷ d ∷ ds) e h = absurd (omega (arith, e))

  -- these are the answer of a tree, of which this is so, and those of the trees after it
  abbrev AreAnswers : (Answered → Type 0) → Trees → List Answered → Type 0
  AreAnswers P ts [] = ⊥
  AreAnswers P ts (a ∷ given) = P a × Follows a.response (Runs limits a.state ts) given

  abbrev AreAll : Trees → Type 0
  AreAll ts = (s : State) (fs : List Found) → All IsJustified (checks_in (answers_of limits s ts fs)) → Runs limits s ts (answers_of limits s ts fs)

  module _ (s : State) (keeps : Bool) (n : Stack) (ts : Trees) where
    -- the state after a response
    abbrev next : Response → State
    next = state_after keeps s n

    abbrev others : State → List Found → List Answered
    others from fs = answers_of limits from ts fs

    by_effect : (fs : List Found) (x : Effect) → AreAll ts → All IsJustified (checks_in (answers_after x n next fs others)) → AreAnswers (AnswersBy limits s keeps (Ok (record { effect = x; stack = n }))) ts (answers_after x n next fs others)
    by_effect fs done rest h = ((refl, refl), rest (next success) fs h)
    by_effect fs unsupported rest h = ((refl, refl), rest (next not_supported) fs h)
    by_effect fs (check place assumptions) rest h =
        let now : Checked = record { check = record { stack = n; assumptions = assumptions }; found = next_found fs } in
        let later = checks_in (others (next (answered now)) (later_found fs)) in
        (((next_found fs, All-head IsJustified now later h, refl), refl), rest (next (answered now)) (later_found fs) (All-tail IsJustified now later h))
    by_effect fs (say text) rest h = ((refl, refl), rest (next (echoed text)) fs h)
    by_effect fs leave rest h = ((refl, refl), refl)

  by_command : (s : State) (keeps : Bool) (ts : Trees) (fs : List Found) (o : Answer Taken) → AreAll ts → All IsJustified (checks_in (answers_by s keeps o fs (λ next later. answers_of limits next ts later))) → AreAnswers (AnswersBy limits s keeps o) ts (answers_by s keeps o fs (λ next later. answers_of limits next ts later))
  by_command s keeps ts fs (Ok d) rest h = by_effect s keeps d.stack ts fs d.effect rest h
  by_command s keeps ts fs (Err f) rest h = ((refl, refl), rest s fs h)

  -- after a question all else is answered in the same state
  by_reply : (x : Answer Reply) (s : State) (ts : Trees) (fs : List Found) → AreAll ts → All IsJustified (with_check (response_of x) (checks_in (answers_of limits s ts fs))) → Follows (response_of x) (Runs limits s ts) (answers_of limits s ts fs)
  by_reply (Ok (says lines)) s ts fs rest h = rest s fs h
  by_reply (Ok not_known) s ts fs rest h = rest s fs h
  by_reply (Err f) s ts fs rest h = rest s fs h

  by_tree : (s : State) (t : Tree) (asked : Option (Answer Question)) (ts : Trees) (fs : List Found) → AreAll ts → All IsJustified (checks_in (answers_tree limits s t asked fs (λ next later. answers_of limits next ts later))) → AreAnswers (AnswersTree limits s t asked) ts (answers_tree limits s t asked fs (λ next later. answers_of limits next ts later))
  by_tree s t None ts fs rest h = by_command s (states_nothing (command_of t)) ts fs (step limits.terms s.stack t) rest h
  by_tree s t (Some asked) ts fs rest h = ((refl, refl), by_reply (answer_to limits s (offset_of t) asked) s ts fs rest h)

  run_of : (Q : Answered → Type 0) (ts : Trees) (given : List Answered) → AreAnswers Q ts given → (P : List Answered → Type 0) → ((a : Answered) (later : List Answered) → Q a × Follows a.response (Runs limits a.state ts) later → P (a ∷ later)) → P given
  run_of Q ts [] h P f = absurd h
  run_of Q ts (a ∷ later) h P f = f a later h

  runs_of : (ts : Trees) → AreAll ts
  unfolding Runs answers_of
  runs_of none s fs h = refl
  runs_of (more t ts) s fs h =
      let asked = question_of t in
      let given = answers_tree limits s t asked fs (λ next later. answers_of limits next ts later) in
      run_of (AnswersTree limits s t asked) ts given (by_tree s t asked ts fs (runs_of ts) h) (Runs limits s (more t ts)) (λ a later x. x)

  -- the transcript of a text that is read to its end
  pub transcript_of : (mode : Mode) (text : List ℕ) (commands : Trees) (fs : List Found) → IsReadUpTo text commands None → All IsJustified (checks_in (answers_of limits first_state commands fs))
      → IsTranscript limits mode text (answers_text mode (kept text) (answers_of limits first_state commands fs) ++ closing_text (kept text) (closing (answers_of limits first_state commands fs) None)) (list_any (λ (a : Answered). is_rejected a.response) (answers_of limits first_state commands fs) || is_fault (closing (answers_of limits first_state commands fs) None))
  transcript_of mode text commands fs read h = record { commands = commands; end = None; read = read; answers = answers_of limits first_state commands fs; runs = runs_of commands first_state fs h; written = refl; told = refl }

  -- the first check that is answered is the first one
  abbrev IsFirst : List Found → Check → List Answered → Type 0
  IsFirst fs c given = first_of (checks_in given) ≡ record { check = c; found = next_found fs }

  module _ (s : State) (keeps : Bool) (n : Stack) (ts : Trees) where
    first_by_effect : (x : Effect) (fs : List Found) (c : Check) → after_effect x n 1 (λ to k. current_at limits.terms to k ts) ≡ Some c → ((m : State) → m.stack ≡ n → current_at limits.terms n 1 ts ≡ Some c → IsFirst fs c (answers_of limits m ts fs)) → IsFirst fs c (answers_after x n (state_after keeps s n) fs (λ from later. answers_of limits from ts later))
    first_by_effect done fs c e rest = rest (state_after keeps s n success) refl e
    first_by_effect unsupported fs c e rest = rest (state_after keeps s n not_supported) refl e
    first_by_effect (check place assumptions) fs c e rest =
        let here : Check = record { stack = n; assumptions = assumptions } in
        let same : here ≡ c = cc in
        ap (λ (y : Check). record { check = y; found = next_found fs }) same
    first_by_effect (say text) fs c e rest = rest (state_after keeps s n (echoed text)) refl e
    first_by_effect leave fs c e rest = cc

  first_by_command : (s : State) (keeps : Bool) (o : Answer Taken) (ts : Trees) (fs : List Found) (c : Check) → after_command s.stack 1 o (λ next n. current_at limits.terms next n ts) ≡ Some c → ((m : State) → current_at limits.terms m.stack 1 ts ≡ Some c → IsFirst fs c (answers_of limits m ts fs)) → IsFirst fs c (answers_by s keeps o fs (λ next later. answers_of limits next ts later))
  first_by_command s keeps (Ok d) ts fs c e rest = first_by_effect s keeps d.stack ts d.effect fs c e (λ m same h. rest m (ap (λ n. current_at limits.terms n 1 ts) same ∙ h))
  first_by_command s keeps (Err f) ts fs c e rest = rest s e

  first_by_reply : (x : Answer Reply) (s : State) (given : List Answered) (fs : List Found) (c : Check) → IsFirst fs c given → IsFirst fs c (record { response = response_of x; state = s } ∷ given)
  first_by_reply (Ok (says lines)) s given fs c h = h
  first_by_reply (Ok not_known) s given fs c h = h
  first_by_reply (Err f) s given fs c h = h

  first_by_tree : (s : State) (t : Tree) (asked : Option (Answer Question)) → question_of t ≡ asked → (ts : Trees) (fs : List Found) (c : Check) → after_command s.stack 1 (step limits.terms s.stack t) (λ next n. current_at limits.terms next n ts) ≡ Some c → ((m : State) → current_at limits.terms m.stack 1 ts ≡ Some c → IsFirst fs c (answers_of limits m ts fs)) → IsFirst fs c (answers_tree limits s t asked fs (λ next later. answers_of limits next ts later))
  first_by_tree s t None is ts fs c e rest = first_by_command s (states_nothing (command_of t)) (step limits.terms s.stack t) ts fs c e rest
  first_by_tree s t (Some asked) is ts fs c e rest =
      let no = question_is_no_command limits.terms s.stack t asked is in
      first_by_reply (answer_to limits s (offset_of t) asked) s (answers_of limits s ts fs) fs c
      (rest s (subst (λ (o : Answer Taken). after_command s.stack 1 o (λ next n. current_at limits.terms next n ts) ≡ Some c) no.1 e))

  pub first_check : (s : State) (ts : Trees) (fs : List Found) (c : Check) → current_at limits.terms s.stack 1 ts ≡ Some c → IsFirst fs c (answers_of limits s ts fs)
  unfolding answers_of current_at
  first_check s none fs c e = cc
  first_check s (more t ts) fs c e = first_by_tree s t (question_of t) refl ts fs c e (λ m later. first_check m ts fs c later)
