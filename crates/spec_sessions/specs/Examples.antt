-- Small scripts with what is written for them, where so much was found at their checks.
use Rattle.std.specs.Prelude.{◌++◌, ◌≡◌, refl, ◌^◌, pos, ℕ, Bool, true, false, List, [], ◌∷◌, Option, Some, None}
use Rattle.std.specs.Prelude.{Ok, Err, codes}
use Rattle.std.specs.Prelude.{if◌then◌else◌}
use Rattle.std.specs.Str.{bytes_eq}
use Rattle.spec_text.specs.Bytes.{among}
use Rattle.spec_text.specs.Answers.{Answer}
use Rattle.spec_text.specs.Trees.{Tree, Trees, none, more, offset_of}
use Rattle.spec_numbers.specs.Fractions.{zero_fraction, whole, gcd, times}
use Rattle.spec_numbers.specs.Bounds.{Overflow, is_small, fits, multiplied}
use Rattle.spec_numbers.specs.declared.Op.TheVariants.{Mul}
use Rattle.spec_sorts.specs.Values.{Value, truth, number, element, Table, Interpretation}
use Rattle.spec_commands.specs.Commands.{command_of}
use Rattle.spec_commands.specs.Stack.{Stack, Effect, done, unsupported, check, say, leave, Taken, step}
use Rattle.spec_commands.specs.Checks.{Check, term_limit}
use Rattle.spec_commands.specs.Examples.{lines}
use Rattle.spec_models.specs.Values.{numeral}
use Rattle.spec_simplex.specs.Overflows.{IsOverflow}
use Rattle.spec_sessions.specs.Evidence.{Limits, Kept, Found, proof, overflowed}
use Rattle.spec_sessions.specs.States.{State, states_nothing}
use Rattle.spec_sessions.specs.Responses.{certify, Response, success, not_supported, answered, echoed, ended, rejected}
use Rattle.spec_sessions.specs.Responses.{Answered, state_after, response_of, answer_to, text_for}
use Rattle.spec_sessions.specs.Questions.{Question, question_of}

-- what is meant by default
abbrev pub limits : Limits
limits = record { conflicts = 1000000; terms = term_limit }

-- what was found at the next check; the empty text where nothing is stated of it
abbrev pub next_found : List Found → Found
next_found [] = proof []
next_found (f ∷ fs) = f

-- and at those after it
abbrev pub later_found : List Found → List Found
later_found [] = []
later_found (f ∷ fs) = fs

-- what a command that was taken is answered, and what those after it are, where this was found at the checks: the
-- stack that it leaves, and the state after each response
abbrev pub answers_after : Effect → Stack → (Response → State) → List Found → (State → List Found → List Answered)
    → List Answered
answers_after done n next fs rest = record { response = success; state = next success } ∷ rest (next success) fs
answers_after unsupported n next fs rest =
    record { response = not_supported; state = next not_supported } ∷ rest (next not_supported) fs
answers_after (check place assumptions) n next fs rest =
    let c : Check = record { stack = n; assumptions = assumptions } in
    let r : Response = answered (record { check = c; found = next_found fs }) in
    record { response = r; state = next r } ∷ rest (next r) (later_found fs)
answers_after (say text) n next fs rest =
    record { response = echoed text; state = next (echoed text) } ∷ rest (next (echoed text)) fs
answers_after leave n next fs rest = record { response = ended; state = next ended } ∷ []

-- what a command is answered in a state, where it states nothing or does, and what those after it are
abbrev pub answers_by : State → Bool → Answer Taken → List Found → (State → List Found → List Answered)
    → List Answered
answers_by s keeps (Ok d) fs rest = answers_after d.effect d.stack (state_after keeps s d.stack) fs rest
answers_by s keeps (Err f) fs rest = record { response = rejected f; state = s } ∷ rest s fs

-- what a tree is answered in a state, where it asks this or is a command, and what those after it are
abbrev pub answers_tree : Limits → State → Tree → Option (Answer Question) → List Found
    → (State → List Found → List Answered) → List Answered
answers_tree l s t (Some asked) fs rest =
    record { response = response_of (answer_to l s (offset_of t) asked); state = s } ∷ rest s fs
answers_tree l s t None fs rest =
    answers_by s (states_nothing (command_of t)) (step l.terms s.stack t) fs rest

-- what commands are answered from a state on
unfoldable pub answers_of : Limits → State → Trees → List Found → List Answered
answers_of l s none fs = []
answers_of l s (more t ts) fs = answers_tree l s t (question_of t) fs (λ next later. answers_of l next ts later)

-- a value without rows
abbrev pub always : Value → Table
always v = record { rows = []; default = v }

-- the symbol `p` is true, `f` is 0 at all arguments, as `x` is, `c` the first element of `U`, and all others are false
abbrev pub tables : Interpretation
tables = record {
  table = λ n. if bytes_eq n (codes "p") then always (truth true) else if among (codes "f" ∷ codes "x"
      ∷ []) n then always (number zero_fraction) else if bytes_eq n (codes "c") then always (element (codes "U") 0) else
      always (truth false);
}

-- checks where nothing is asserted, and one after the end of the script
abbrev pub checks_alone : List ℕ
checks_alone = codes "(set-logic QF_UF)(check-sat)(set-option :zz 1)(check-sat)(exit)(check-sat)"

-- what is written for them, with the models of no lines
abbrev pub checks_written : List ℕ
checks_written = lines (
    codes "success" ∷
    codes "sat" ∷
    codes "(" ∷
    codes ")" ∷
    codes "unsupported" ∷
    codes "sat" ∷
    codes "(" ∷
    codes ")" ∷
    codes "success" ∷ [])

-- commands that are refused, and what is taken besides them
abbrev pub refusals : List ℕ
refusals = lines (
    codes "(set-option :print-success false)" ∷
    codes "(assert (! (+ 1 2) :named n))" ∷
    codes "(assert n)" ∷
    codes "(get-model)" ∷
    codes "(set-logic QF_BV)" ∷
    codes "(set-logic ALL)" ∷
    codes "(set-logic ALL)" ∷
    codes "(check-sat)" ∷ [])

-- what is written for them
abbrev pub refusals_written : List ℕ
refusals_written = lines (
    codes "(error \"2:9: WrongSort\")" ∷
    codes "(error \"3:9: UnknownSymbol\")" ∷
    codes "(error \"4:1: WrongMode\")" ∷
    codes "(error \"5:12: UnknownLogic\")" ∷
    codes "(error \"7:1: WrongMode\")" ∷
    codes "sat" ∷ [])

-- numbers that are too wide, products and quotients that are not linear, checks over numbers, and one of a function
-- that
-- gives a number
abbrev pub numbers : List ℕ
numbers = lines (
    codes "(set-option :print-success false)" ∷
    codes "(declare-const x Real)(assert (= 170141183460469231731687303715884105728 0))" ∷
    codes "(assert (< (* x x) 1))" ∷
    codes "(assert (< (/ x 0.0) 1))" ∷
    codes "(check-sat)" ∷
    codes "(assert (< (/ x (- (/ 1 2))) 1))" ∷
    codes "(assert (< (/ x (+ 1 1)) 1))" ∷
    codes "(check-sat)" ∷
    codes "(declare-fun f (Bool) Real)(assert (< (f true) 1))" ∷
    codes "(check-sat)" ∷ [])

-- what is written for them
abbrev pub numbers_written : List ℕ
numbers_written = lines (
    codes "(error \"2:34: NumberWide\")" ∷
    codes "(error \"3:12: NotLinear\")" ∷
    codes "(error \"4:12: ZeroDivisor\")" ∷
    codes "sat" ∷
    codes "(error \"7:12: NotLinear\")" ∷
    codes "sat" ∷
    codes "sat" ∷ [])

-- a model and values that are asked for, in their mode and outside it, with their option and without it
abbrev pub asked_for : List ℕ
asked_for = lines (
    codes "(set-option :print-success false)" ∷
    codes "(declare-const x Real)(get-model)" ∷
    codes "(check-sat)(get-model)" ∷
    codes "(set-option :produce-models true)" ∷
    codes "(get-model)" ∷
    codes "(get-value (x (< x |x|)))(get-value (y))" ∷
    codes "(get-info :name)(get-info :zz)(get-option :produce-models)" ∷ [])

-- what is written for it
abbrev pub asked_for_written : List ℕ
asked_for_written = lines (
    codes "(error \"2:23: WrongMode\")" ∷
    codes "sat" ∷
    codes "(error \"3:12: NotEnabled\")" ∷
    codes "(" ∷
    codes "  (define-fun x () Real 0)" ∷
    codes ")" ∷
    codes "((x 0) ((< x x) false))" ∷
    codes "(error \"6:38: UnknownSymbol\")" ∷
    codes "(:name \"smt_cli\")" ∷
    codes "unsupported" ∷
    codes "true" ∷ [])

-- strings, and the option that is turned off between them
abbrev pub strings : List ℕ
strings = (codes "(echo \"say \"\"p\"\"\")(set-info :status sat)(set-option :print-success false)"
    ++ codes "(set-info :a)(echo \"\")")

-- what is written for them
abbrev pub strings_written : List ℕ
strings_written = lines (
    codes "\"say \"\"p\"\"\"" ∷
    codes "success" ∷
    codes "\"\"" ∷ [])

-- declared sorts, functions with parameters, and definitions
abbrev pub functions : List ℕ
functions = lines (
    codes "(declare-sort U 0)(define-sort V () U)(declare-fun f (V Bool) Real)" ∷
    codes "(declare-const |a b| Bool)(declare-const c V)" ∷
    codes "(define-fun g ((z Bool)) Bool (not z))" ∷
    codes "(declare-const p Bool)" ∷
    codes "(assert (! (g (let ((p |a b|)) p)) :named n))" ∷
    codes "(assert (and n p))" ∷
    codes "(check-sat)" ∷ [])

-- what is written for them, with a model
abbrev pub functions_written : List ℕ
functions_written = lines (
    codes "success" ∷
    codes "success" ∷
    codes "success" ∷
    codes "success" ∷
    codes "success" ∷
    codes "success" ∷
    codes "success" ∷
    codes "success" ∷
    codes "success" ∷
    codes "sat" ∷
    codes "(" ∷
    codes "  (define-fun f ((@x0 U) (@x1 Bool)) Real 0)" ∷
    codes "  (define-fun |a b| () Bool false)" ∷
    codes "  (define-fun c () U (as @e0 U))" ∷
    codes "  (define-fun p () Bool true)" ∷
    codes ")" ∷ [])

-- a command of more subterms than four
abbrev pub large : List ℕ
large = lines (
    codes "(set-option :print-success false)" ∷
    codes "(declare-const p Bool)(declare-const q Bool)" ∷
    codes "(assert (or p q (not p)))" ∷
    codes "(assert (and p (or p q (not p))))" ∷
    codes "(check-sat)" ∷ [])

-- what is written for it
abbrev pub large_written : List ℕ
large_written = lines (
    codes "(error \"4:1: Full\")" ∷
    codes "sat" ∷ [])

-- the limit of four
abbrev pub four : Limits
four = record { conflicts = 1000000; terms = 4 }

-- what is written for a contradiction, with its proof
abbrev pub contradiction_written : List ℕ
contradiction_written = lines (
    codes "success" ∷
    codes "success" ∷
    codes "success" ∷
    codes "success" ∷
    codes "success" ∷
    codes "success" ∷
    codes "unsat" ∷
    codes "(" ∷
    codes "(assume h1 p)" ∷
    codes "(assume h2 (not p))" ∷
    codes "(step t1 (cl) :rule resolution :premises (h1 h2))" ∷
    codes ")" ∷ [])

-- a check, and a parenthesis too many
abbrev pub closed_too_often : List ℕ
closed_too_often = codes "(check-sat)\n)"

-- what cannot be, and a check
abbrev pub false_asserted : List ℕ
false_asserted = codes "(assert false)(check-sat)"

-- the square of 2^64, which is out of the bound
abbrev pub square : Overflow
square = record { op = Mul; left = whole (pos (2 ^ 64)); right = whole (pos (2 ^ 64)) }

pub square_leaves_the_bound : IsOverflow square
unfolding gcd multiplied fits is_small times
square_leaves_the_bound = refl

-- what is written for a check that was given up for it
pub square_written : (c : Check) (k : Kept)
    → text_for certify [] true (answered (record { check = c; found = overflowed square k }))
    ≡ codes "unknown\n(overflow mul 18446744073709551616 18446744073709551616)\n"
unfolding numeral
square_written c k = refl
