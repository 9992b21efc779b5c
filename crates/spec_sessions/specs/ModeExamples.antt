-- Modes after commands, and what answers a question in them.
use Rattle.std.specs.Prelude.{◌≡◌, refl, pos, ℕ, false, List, [], ◌∷◌, ◌++◌, map, Option, Some, None}
use Rattle.std.specs.Prelude.{Ok, Err, codes, if◌then◌else◌}
use Rattle.std.specs.Fmt.{digits}
use Rattle.std.specs.Str.{bytes_eq}
use Rattle.spec_text.specs.declared.Fault.TheVariants.{BadShape, UnknownSymbol, WrongMode, NotEnabled, ValueWide}
use Rattle.spec_text.specs.Answers.{Answer}
use Rattle.spec_text.specs.Trees.{Tree, Trees, none, more, offset_of}
use Rattle.spec_numbers.specs.Fractions.{gcd, plus, times, compare}
use Rattle.spec_numbers.specs.Bounds.{is_small, fits, multiplied, sum_fits, added}
use Rattle.spec_sorts.specs.BoundedValues.{folded, bounded_value}
use Rattle.spec_sorts.specs.Values.{truth, number, Interpretation}
use Rattle.spec_sorts.specs.Written.{trees_in}
use Rattle.spec_commands.specs.Examples.{lines}
use Rattle.spec_commands.specs.OnLiterals.{commands_on_literals}
use Rattle.spec_models.specs.Values.{numeral}
use Rattle.spec_sessions.specs.Evidence.{Found, model, proof, spent}
use Rattle.spec_sessions.specs.States.{State, first_state, ExecutionMode, start_mode, assert_mode, sat_mode, unsat_mode}
use Rattle.spec_sessions.specs.States.{unknown_mode, mode_of}
use Rattle.spec_sessions.specs.Responses.{Answered}
use Rattle.spec_sessions.specs.Questions.{Question, value_question, only_keyword, question_of}
use Rattle.spec_sessions.specs.Replies.{Reply, says, not_known, reply_to, valued}
use Rattle.spec_sessions.specs.Examples.{limits, answers_of, always}

-- the mode after each command
abbrev pub modes_of : List Answered → List ExecutionMode
modes_of [] = []
modes_of (a ∷ later) = mode_of a.state ∷ modes_of later

-- the mode after each command of a script, where this was found at its checks
abbrev pub modes : List (List ℕ) → List Found → List ExecutionMode
modes text fs = modes_of (answers_of limits first_state (trees_in (lines text)) fs)

-- x is a third, and all else is false
abbrev pub third : Interpretation
third = record {
  table = λ n. if bytes_eq n (codes "x") then always (number (record { num = pos 1; den = 3 }))
      else always (truth false);
}

-- answers that differ
abbrev pub sat : Found
sat = model third

abbrev pub unsat : Found
unsat = proof (codes "(step t1 (cl))\n")

abbrev pub unknown : Found
unknown = spent 7 [] []

-- options, information and echoes leave the mode, and so does what is refused; `set-logic`, declarations, definitions,
-- assertions, `push` and `pop` lead to the mode in which they are made, also without a level
pub settings_keep_the_mode : modes (
    codes "(set-option :produce-models true)(set-info :status sat)(echo \"a\")(pop)(get-model)" ∷
    codes "(push 0)(check-sat)(set-option :produce-models true)(set-info :status sat)(echo \"a\")(pop)(get-model)" ∷
    codes "(assert x)(set-logic QF_UF)(declare-const x Real)(check-sat)(check-sat)(declare-sort U 0)" ∷ [])
    (sat ∷ unsat ∷ unknown ∷ [])
    ≡ start_mode ∷ start_mode ∷ start_mode ∷ start_mode ∷ start_mode
    ∷ assert_mode ∷ sat_mode ∷ sat_mode ∷ sat_mode ∷ sat_mode ∷ sat_mode ∷ sat_mode
    ∷ sat_mode ∷ sat_mode ∷ assert_mode ∷ unsat_mode ∷ unknown_mode ∷ assert_mode ∷ []
unfolding commands_on_literals answers_of
settings_keep_the_mode = refl

-- the first check ends the start; all that is stated or taken back ends the mode of an answer, and `reset` begins anew
pub statements_end_the_mode : modes (
    codes "(reset-assertions)(check-sat)(define-sort V () Real)(check-sat)(define-fun d () Bool true)(check-sat)" ∷
    codes "(assert true)(check-sat)(push)(check-sat)(pop)(check-sat)(reset-assertions)(check-sat)(reset)(exit)" ∷ [])
    (sat ∷ sat ∷ unsat ∷ unknown ∷ sat ∷ unsat ∷ unknown ∷ [])
    ≡ start_mode ∷ sat_mode ∷ assert_mode ∷ sat_mode ∷ assert_mode ∷ unsat_mode
    ∷ assert_mode ∷ unknown_mode ∷ assert_mode ∷ sat_mode ∷ assert_mode ∷ unsat_mode ∷ assert_mode ∷ unknown_mode
    ∷ start_mode ∷ start_mode ∷ []
unfolding commands_on_literals answers_of
statements_end_the_mode = refl

-- the mode after a script, where this was found at its checks
abbrev pub last_mode : ExecutionMode → List ExecutionMode → ExecutionMode
last_mode m [] = m
last_mode m (n ∷ ns) = last_mode n ns

abbrev pub mode_by : List ℕ → Found → ExecutionMode
mode_by text f = last_mode start_mode (modes (text ∷ []) (f ∷ f ∷ []))

-- the mode after a command, from each of the five modes; where it is a check, it is answered `sat`, `sat`, `sat`,
-- `unsat` and `unknown`
abbrev pub from_each : List ℕ → List ExecutionMode
from_each c =
    mode_by c sat ∷ mode_by (codes "(push)" ++ c) sat ∷ mode_by (codes "(push)(check-sat)" ++ c) sat
    ∷ mode_by (codes "(push)(check-sat)" ++ c) unsat ∷ mode_by (codes "(push)(check-sat)" ++ c) unknown ∷ []

-- five times one mode, and the five modes
abbrev pub always_in : ExecutionMode → List ExecutionMode
always_in m = m ∷ m ∷ m ∷ m ∷ m ∷ []

abbrev pub all_modes : List ExecutionMode
all_modes = start_mode ∷ assert_mode ∷ sat_mode ∷ unsat_mode ∷ unknown_mode ∷ []

-- what states something leads to the mode in which it is stated, from each mode
pub stating_in_each_mode : map from_each (
    codes "(declare-sort U 0)" ∷ codes "(define-sort V () Real)" ∷ codes "(declare-const x Real)" ∷
    codes "(declare-fun f (Bool) Bool)" ∷ codes "(define-fun d () Bool true)" ∷ codes "(assert true)" ∷
    codes "(push)" ∷ codes "(push 0)" ∷ codes "(pop 0)" ∷ [])
    ≡ always_in assert_mode ∷ always_in assert_mode ∷ always_in assert_mode ∷ always_in assert_mode
    ∷ always_in assert_mode ∷ always_in assert_mode ∷ always_in assert_mode ∷ always_in assert_mode
    ∷ always_in assert_mode ∷ []
unfolding commands_on_literals answers_of
stating_in_each_mode = refl

-- what states nothing leaves each mode, and so does what is refused: `set-logic` after the start, a level too many
pub others_in_each_mode : map from_each (
    codes "(set-option :produce-models true)" ∷ codes "(set-option :zz 1)" ∷ codes "(set-option :produce-models 1)" ∷
    codes "(set-info :status sat)" ∷ codes "(echo \"a\")" ∷ codes "(exit)" ∷ codes "(pop 2)" ∷ codes "(assert zz)" ∷
    codes "(zz)" ∷ codes "()" ∷ codes "(check-sat 1)" ∷ codes "(check-sat-assuming (zz))" ∷ [])
    ≡ all_modes ∷ all_modes ∷ all_modes ∷ all_modes ∷ all_modes ∷ all_modes ∷ all_modes ∷ all_modes ∷ all_modes
    ∷ all_modes ∷ all_modes ∷ all_modes ∷ []
unfolding commands_on_literals answers_of
others_in_each_mode = refl

-- a check has the mode of its answer; `set-logic` is taken at the start alone, `reset-assertions` leaves the start, and
-- `reset` leads back to it; closing a level is refused where none is open
pub checks_in_each_mode : map from_each (
    codes "(check-sat)" ∷ codes "(check-sat-assuming ())" ∷ codes "(set-logic QF_UF)" ∷ codes "(pop)" ∷
    codes "(reset-assertions)" ∷ codes "(reset)" ∷ [])
    ≡ (sat_mode ∷ sat_mode ∷ sat_mode ∷ unsat_mode ∷ unknown_mode ∷ [])
    ∷ (sat_mode ∷ sat_mode ∷ sat_mode ∷ unsat_mode ∷ unknown_mode ∷ [])
    ∷ (assert_mode ∷ assert_mode ∷ sat_mode ∷ unsat_mode ∷ unknown_mode ∷ [])
    ∷ (start_mode ∷ assert_mode ∷ assert_mode ∷ assert_mode ∷ assert_mode ∷ [])
    ∷ (start_mode ∷ assert_mode ∷ assert_mode ∷ assert_mode ∷ assert_mode ∷ []) ∷ always_in start_mode ∷ []
unfolding commands_on_literals answers_of
checks_in_each_mode = refl

-- the state after the commands of a script
abbrev pub last_state : State → List Answered → State
last_state s [] = s
last_state s (a ∷ later) = last_state a.state later

-- what answers a question, or that it is none, or that nothing is asked
abbrev pub replied : State → Tree → Option (Answer Question) → Option (Answer Reply)
replied s t (Some (Ok q)) = Some (reply_to 100 (offset_of t) s q)
replied s t (Some (Err f)) = Some (Err f)
replied s t None = None

-- what answers each of these questions, after a script
abbrev pub replies_in : State → Trees → List (Option (Answer Reply))
replies_in s none = []
replies_in s (more t ts) = replied s t (question_of t) ∷ replies_in s ts

abbrev pub replies : List (List ℕ) → List Found → List ℕ → List (Option (Answer Reply))
replies text fs questions =
    replies_in (last_state first_state (answers_of limits first_state (trees_in (lines text)) fs)) (trees_in questions)

-- a fault of a question
abbrev pub fault : ℕ → Answer Reply
fault at = Err (record { offset = at; fault = WrongMode })

-- at first only assertions, options and information may be asked for; shapes come before the mode
pub at_first : replies [] [] (codes "(get-model)(get-proof)(get-value (true))(get-info :reason-unknown)(get-model 1)"
    ++ codes "(get-value ())(get-option k)(get-assertions)(check-sat)")
    ≡ Some (fault 0) ∷ Some (fault 11) ∷ Some (fault 22) ∷ Some (fault 40)
    ∷ Some (Err (record { offset = 66; fault = BadShape })) ∷ Some (Err (record { offset = 79; fault = BadShape }))
    ∷ Some (Err (record { offset = 93; fault = BadShape })) ∷ Some (Err (record { offset = 107; fault = NotEnabled }))
    ∷ None ∷ []
unfolding commands_on_literals answers_of value_question only_keyword
at_first = refl

-- options and information
pub settings : replies (codes "(set-option :print-success false)(set-option :global-declarations true)(push 2)" ∷ [])
    [] (codes "(get-option :print-success)(get-option :global-declarations)(get-option :other)(get-info :name)"
    ++ codes "(get-info :assertion-stack-levels)(get-info :other)")
    ≡ Some (Ok (says (codes "false\n"))) ∷ Some (Ok (says (codes "true\n"))) ∷ Some (Ok not_known)
    ∷ Some (Ok (says (codes "(:name \"smt_cli\")\n"))) ∷ Some (Ok (says (codes "(:assertion-stack-levels 2)\n")))
    ∷ Some (Ok not_known) ∷ []
unfolding commands_on_literals answers_of only_keyword digits
settings = refl

-- assertions as they are written, the oldest first
pub assertions_written : replies (
    codes "(set-option :produce-assertions true)(declare-const p Bool)(assert (!  p :named n)) ; a note" ∷
    codes "(assert n)" ∷ []) []
    (codes "(get-assertions)") ≡ Some (Ok (says (codes "((! p :named n) n)\n"))) ∷ []
unfolding commands_on_literals answers_of
assertions_written = refl

-- models, values and proofs are kept where their options are off; terms are read before the mode is asked for
pub not_enabled : replies (codes "(declare-const x Real)(check-sat)" ∷ []) (sat ∷ [])
    (codes "(get-model)(get-value (x))(get-value (y))(get-proof)")
    ≡ Some (Err (record { offset = 0; fault = NotEnabled })) ∷ Some (Err (record { offset = 11; fault = NotEnabled }))
    ∷ Some (Err (record { offset = 38; fault = UnknownSymbol })) ∷ Some (fault 41) ∷ []
unfolding commands_on_literals answers_of value_question
not_enabled = refl

-- a script whose model is asked for, and for values
abbrev pub x_declared : List (List ℕ)
x_declared = codes "(set-option :produce-models true)(declare-const x Real)(check-sat)" ∷ []

-- a model; there is no reason in its mode
pub model_told : replies x_declared (sat ∷ []) (codes "(get-model)(get-info :reason-unknown)")
    ≡ Some (Ok (says (codes "(\n  (define-fun x () Real (/ 1 3))\n)\n"))) ∷ Some (fault 11) ∷ []
unfolding commands_on_literals answers_of only_keyword numeral
model_told = refl

-- values, each after its term as it is written; no term gets a name
pub values_told : replies x_declared (sat ∷ []) (codes "(get-value (x (+ x 1) (< x 1)))(get-value ((! x :named n)))")
    ≡ Some (Ok (says (codes "((x (/ 1 3)) ((+ x 1) (/ 4 3)) ((< x 1) true))\n")))
    ∷ Some (Err (record { offset = 43; fault = BadShape })) ∷ []
unfolding commands_on_literals answers_of value_question valued bounded_value folded added sum_fits fits is_small plus
    times gcd numeral compare
values_told = refl

-- the first term is given of which an operation leaves the bound
pub values_too_wide : replies x_declared (sat ∷ [])
    (codes "(get-value (x (* 100000000000000000000 (* 100000000000000000000 x))))")
    ≡ Some (Err (record { offset = 14; fault = ValueWide })) ∷ []
unfolding commands_on_literals answers_of value_question valued bounded_value folded multiplied fits is_small times gcd
values_too_wide = refl

-- a proof, and a reason
pub shown : replies (codes "(set-option :produce-proofs true)(check-sat)" ∷ []) (unsat ∷ [])
    (codes "(get-proof)(get-model)")
    ++ replies (codes "(check-sat)(set-info :a)" ∷ []) (unknown ∷ []) (codes "(get-info :reason-unknown)(get-proof)")
    ≡ Some (Ok (says (codes "(step t1 (cl))\n"))) ∷ Some (fault 11)
    ∷ Some (Ok (says (codes "(:reason-unknown (conflicts 7))\n"))) ∷ Some (fault 26) ∷ []
unfolding commands_on_literals answers_of only_keyword numeral
shown = refl
