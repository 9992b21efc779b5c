-- Scripts with what their commands answer.
use Rattle.std.specs.Prelude.{◌≡◌, refl, ℕ, List, [], ◌∷◌, Ok, Err, codes}
use Rattle.spec_text.specs.Answers.{Answer}
use Rattle.spec_text.specs.declared.Kind.TheVariants.{Simple}
use Rattle.spec_text.specs.Trees.{Trees, atom, list, none, more}
use Rattle.spec_sorts.specs.Terms.{Truth, Term, constant, constant_term, negated}
use Rattle.spec_sorts.specs.Written.{trees_in}
use Rattle.spec_commands.specs.Stack.{Assertion, Stack, Taken, Effect, done, unsupported, check, say, leave}
use Rattle.spec_commands.specs.Stack.{empty_stack, step}
use Rattle.spec_commands.specs.OnLiterals.{commands_on_literals}
use Rattle.spec_commands.specs.Examples.{lines}

-- an answer and those after it; a command that is refused has none
abbrev pub with_answer : Stack → Answer Taken → (Stack → List Effect) → List Effect
with_answer s (Ok d) rest = d.effect ∷ rest d.stack
with_answer s (Err f) rest = rest s

-- the answer of each command that is not refused, after what those before it left
unfoldable pub answers_after : ℕ → Stack → Trees → List Effect
answers_after limit s none = []
answers_after limit s (more t ts) = with_answer s (step limit s t) (λ next. answers_after limit next ts)

-- the answers to a script's commands
abbrev pub answers : List (List ℕ) → List Effect
answers ls = answers_after 100 empty_stack (trees_in (lines ls))

-- the constant p of sort Bool
abbrev pub p : Term
p = constant_term (constant (codes "p") Truth)

-- p, assumed by the text at offset 53
abbrev pub assumed_p : Assertion
assumed_p = record { text = atom 53 Simple (codes "p"); term = p }

-- its negation, assumed by the text at offset 45
abbrev pub negated_p : Assertion
negated_p = record {
  text = list 45 (more (atom 46 Simple (codes "not")) (more (atom 50 Simple (codes "p")) none)) 51;
  term = negated p;
}

-- an option that is not known is unsupported, whatever its value is
pub options : answers (
    codes "(set-option :print-success |false|)" ∷
    codes "(set-option :produce-models false)" ∷
    codes "(set-option :produce-models 0)" ∷
    codes "(set-option :produce-assignments true)" ∷
    codes "(set-option :Produce-models true)" ∷
    codes "(set-option :other let)" ∷
    codes "(set-option :other (1 (2)))" ∷ []) ≡ done ∷ done ∷ unsupported ∷ unsupported ∷ unsupported ∷ unsupported ∷ []
unfolding commands_on_literals answers_after
options = refl

-- a text is echoed as it is written, without the quotes at its ends; the others are done, but for checks and the end
pub others : answers (
    codes "(set-logic QF_UF)(set-info :status sat)" ∷
    codes "(declare-sort U 0)(define-sort V () U)(declare-const c V)(declare-fun f (U) V)(define-fun g () U (f c))" ∷
    codes "(assert true)(assert g)" ∷
    codes "(echo \"a \"\"b\"\"\")(echo \"\")" ∷
    codes "(check-sat)(exit)" ∷ []) ≡ done ∷ done ∷ done ∷ done ∷ done ∷ done ∷ done ∷ done ∷ say (codes "a \"\"b\"\"")
    ∷ say [] ∷ check 195 [] ∷ leave ∷ []
unfolding commands_on_literals answers_after
others = refl

-- levels that are opened and closed are done, and so is what is taken back
pub levels : answers (
    codes "(push)(push 2)(check-sat)(pop 3)" ∷
    codes "(pop)(reset-assertions)(push 0)(reset)" ∷ []) ≡ done ∷ done ∷ check 15 [] ∷ done ∷ done ∷ done ∷ done ∷ []
unfolding commands_on_literals answers_after
levels = refl

-- a check is asked for at its word, whatever is asserted
pub checks : answers (codes "(check-sat)(assert (= 1 1.0))( check-sat)" ∷ []) ≡ check 1 [] ∷ done ∷ check 31 [] ∷ []
unfolding commands_on_literals answers_after
checks = refl

-- and so is one with assumptions, each by its text and its term
pub checks_assuming : answers (
    codes "(declare-const p Bool)" ∷
    codes "(check-sat-assuming ( (not p) p))(check-sat)(check-sat-assuming ())" ∷ []) ≡ done
    ∷ check 24 (negated_p ∷ assumed_p ∷ []) ∷ check 57 [] ∷ check 68 [] ∷ []
unfolding commands_on_literals answers_after
checks_assuming = refl
