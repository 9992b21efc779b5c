-- Scripts whose declarations are global: the first faults of their commands, and the names at their checks.
use Rattle.std.specs.Prelude.{◌≡◌, refl, true, false, [], ◌∷◌, ◌++◌, map, Some, None, codes}
use Rattle.spec_text.specs.declared.Fault.TheVariants.{BadShape, UnknownSymbol, Twice, PopTooFar, WrongMode}
use Rattle.spec_commands.specs.OnLiterals.{commands_on_literals}
use Rattle.spec_commands.specs.Examples.{faults, faults_after}
use Rattle.spec_commands.specs.CheckExamples.{count_at, names_at, options_at}

-- global names stay where levels are closed and assertions taken back, those of `:named` among them
pub global_names : faults (
    codes "" ∷
    (codes "(set-option :global-declarations true)(push 1)(declare-const p Bool)(assert (! (not p) :named n))"
    ++ codes "(assert p)(check-sat)(pop 1)(assert n)(check-sat)(reset-assertions)(assert (and n p))(check-sat)") ∷
    codes "(set-option :global-declarations false)" ∷
    codes "(declare-const p Bool)" ∷ []) ≡ (3, 1, WrongMode) ∷ (4, 16, Twice) ∷ []
unfolding commands_on_literals faults_after
global_names = refl

-- so do sorts and definitions, and `reset` takes them back
pub global_sorts : faults (
    codes "(set-option :global-declarations true)(push 2)(declare-sort U 0)(define-sort V () U)(declare-fun f (U) V)" ∷
    codes "(pop 1)(define-fun g ((x V)) U (f x))(pop 1)(declare-const c U)(assert (= (g c) c))" ∷
    codes "(declare-sort U 0)" ∷
    codes "(pop)" ∷
    codes "(reset-assertions)(assert (= (g c) c))(push)(reset)(set-logic QF_UF)" ∷
    codes "(assert (= (g c) c))" ∷
    codes "(pop)" ∷ []) ≡ (3, 15, Twice) ∷ (4, 1, PopTooFar) ∷ (6, 15, UnknownSymbol) ∷ (7, 1, PopTooFar) ∷ []
unfolding commands_on_literals faults_after
global_sorts = refl

-- where the option is absent or false, names go with their levels
pub local_names : map faults (
    (codes "(push)(declare-const p Bool)(pop)" ∷ codes "(assert p)" ∷ []) ∷
    (codes "(set-option :global-declarations false)(push)(declare-const p Bool)(pop)" ∷ codes "(assert p)" ∷ []) ∷
    (codes "(set-option :global-declarations true)(set-option :global-declarations false)(push)" ∷
    codes "(declare-const p Bool)(pop)(assert p)" ∷ []) ∷
    (codes "(set-option :global-declarations false)(declare-const p Bool)(reset-assertions)" ∷
    codes "(assert p)" ∷ []) ∷ []) ≡ ((2, 9, UnknownSymbol) ∷ []) ∷ ((2, 9, UnknownSymbol) ∷ [])
    ∷ ((2, 36, UnknownSymbol) ∷ []) ∷ ((2, 9, UnknownSymbol) ∷ []) ∷ []
unfolding commands_on_literals faults_after
local_names = refl

-- the option is set at the start alone, whatever its value; the fault of a value of another kind comes before that
pub settled_at_the_start : faults (
    codes "(set-option :global-declarations 1)(reset-assertions)(set-option :global-declarations true)(check-sat)" ∷
    codes "(set-option :global-declarations true)" ∷
    codes "(set-option :global-declarations false)" ∷
    codes "(set-option :global-declarations maybe)(set-option :produce-models true)(set-option :global-symbols true)" ∷
    codes "(reset)(set-option :global-declarations true)(push)" ∷
    codes "(set-option :global-declarations true)" ∷ []) ≡ (1, 1, BadShape) ∷ (2, 1, WrongMode) ∷ (3, 1, WrongMode)
    ∷ (4, 1, BadShape) ∷ (6, 1, WrongMode) ∷ []
unfolding commands_on_literals faults_after
settled_at_the_start = refl

-- a global name belongs to no level
pub names_without_levels : names_at 1
    (codes "(set-option :global-declarations true)(declare-const p Bool)(push 2)(define-fun f () Bool (! p :named n))"
    ++ codes "(push)(declare-sort U 0)(assert (! p :named m))(pop 2)(check-sat)")
    ≡ Some ((None, codes "p") ∷ (None, codes "n") ∷ (None, codes "f") ∷ (None, codes "U") ∷ (None, codes "m") ∷ [])
unfolding commands_on_literals
names_without_levels = refl

-- assertions go with their levels all the same
pub assertions_go : map (λ k. count_at k
    (codes "(set-option :global-declarations true)(declare-const p Bool)(assert p)(push 2)(assert p)(assert p)"
    ++ codes "(check-sat)(pop 1)(check-sat)(pop 1)(check-sat)(reset-assertions)(check-sat)(assert p)(check-sat)"))
    (1 ∷ 2 ∷ 3 ∷ 4 ∷ 5 ∷ []) ≡ Some 3 ∷ Some 1 ∷ Some 1 ∷ Some 0 ∷ Some 1 ∷ []
unfolding commands_on_literals
assertions_go = refl

-- `pop` and `reset-assertions` leave the option, and `reset` makes it false
pub option_stays : map (λ k. options_at k
    (codes "(set-option :global-declarations true)(push)(pop)(reset-assertions)(check-sat)(reset)(check-sat)"))
    (1 ∷ 2 ∷ [])
    ≡ Some (record {
      print_success = true;
      models = false;
      proofs = false;
      assertions = false;
      unsat_cores = false;
      unsat_assumptions = false;
      global_declarations = true;
    }) ∷ Some (record {
      print_success = true;
      models = false;
      proofs = false;
      assertions = false;
      unsat_cores = false;
      unsat_assumptions = false;
      global_declarations = false;
    }) ∷ []
unfolding commands_on_literals
option_stays = refl
