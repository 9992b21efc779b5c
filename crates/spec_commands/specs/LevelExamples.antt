-- Scripts with levels, and the first faults of their commands.
use Rattle.std.specs.Prelude.{◌≡◌, refl, [], ◌∷◌, codes}
use Rattle.spec_text.specs.declared.Fault.TheVariants.{BadShape, UnknownSymbol, Twice, PopTooFar, WrongMode, Full}
use Rattle.spec_commands.specs.OnLiterals.{commands_on_literals}
use Rattle.spec_commands.specs.Examples.{faults, faults_after}

-- `push` and `pop` of another shape, and each of its own: without a numeral it is one level
pub shapes_of_levels : faults (
    codes "(set-option :print-success false)" ∷
    codes "(push -1)" ∷
    codes "(push x)" ∷
    codes "(push 1 2)" ∷
    codes "(push \"1\")" ∷
    codes "(push (1))" ∷
    codes "(push 1.0)" ∷
    codes "(pop -1)" ∷
    codes "(pop 0 0)" ∷
    codes "(reset-assertions 1)" ∷
    codes "(reset 1)" ∷
    codes "(push)(push 1)(push 0)(push 2)(pop 0)(pop)(pop 3)(reset-assertions)(reset)" ∷ []) ≡ (2, 1, BadShape)
    ∷ (3, 1, BadShape) ∷ (4, 1, BadShape) ∷ (5, 1, BadShape) ∷ (6, 1, BadShape) ∷ (7, 1, BadShape)
    ∷ (8, 1, BadShape) ∷ (9, 1, BadShape) ∷ (10, 1, BadShape) ∷ (11, 1, BadShape) ∷ []
unfolding commands_on_literals faults_after
shapes_of_levels = refl

-- no more levels are closed than are open, and a refused command closes none
pub pops_too_far : faults (
    codes "(pop)" ∷
    codes "(pop 1)(pop 0)" ∷
    codes "(push 2)(pop 3)" ∷
    codes "(pop 18446744073709551616)" ∷
    codes "(pop 2)(pop)" ∷
    codes "(push)(reset-assertions)(pop)" ∷
    codes "(push)(reset)(pop)" ∷ []) ≡ (1, 1, PopTooFar) ∷ (2, 1, PopTooFar) ∷ (3, 9, PopTooFar) ∷ (4, 1, PopTooFar)
    ∷ (5, 8, PopTooFar) ∷ (6, 25, PopTooFar) ∷ (7, 14, PopTooFar) ∷ []
unfolding commands_on_literals faults_after
pops_too_far = refl

-- at most a million levels are open above the first one
pub full_levels : faults (
    codes "(push 1000001)" ∷
    codes "(push 18446744073709551616)" ∷
    codes "(push 1)(push 1000000)" ∷
    codes "(pop 2)" ∷ []) ≡ (1, 1, Full) ∷ (2, 1, Full) ∷ (3, 9, Full) ∷ (4, 1, PopTooFar) ∷ []
unfolding commands_on_literals faults_after
full_levels = refl

-- a name is known up to the end of its level, and is one of all that are open
pub names_of_levels : faults (
    codes "(declare-const p Bool)(push)(declare-const q Bool)(assert (! (and p q) :named n))" ∷
    codes "(declare-const p Bool)" ∷
    codes "(push)(declare-const q Bool)" ∷
    codes "(assert n)(pop)(assert n)(pop)" ∷
    codes "(assert q)" ∷
    codes "(assert n)" ∷
    codes "(declare-sort q 0)(declare-const q q)(assert (= q q))(assert p)(reset-assertions)" ∷
    codes "(assert p)" ∷ []) ≡ (2, 16, Twice) ∷ (3, 22, Twice) ∷ (5, 9, UnknownSymbol) ∷ (6, 9, UnknownSymbol)
    ∷ (8, 9, UnknownSymbol) ∷ []
unfolding commands_on_literals faults_after
names_of_levels = refl

-- levels end the start, a pop of none too; `reset-assertions` does not, and after `reset` it is the start again
pub logics_and_levels : faults (
    codes "(reset-assertions)(set-logic QF_UF)(reset)" ∷
    codes "(push 0)(set-logic QF_UF)(reset)" ∷
    codes "(pop 0)(set-logic QF_UF)(reset)(set-logic QF_UF)" ∷
    codes "(reset-assertions)(set-logic QF_UF)" ∷ []) ≡ (2, 9, WrongMode) ∷ (3, 8, WrongMode) ∷ (4, 19, WrongMode) ∷ []
unfolding commands_on_literals faults_after
logics_and_levels = refl
