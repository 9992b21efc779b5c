-- Scripts whose commands have several faults: the first in the order of reading is the command's.
use Rattle.std.specs.Prelude.{◌≡◌, refl, [], ◌∷◌, codes}
use Rattle.spec_text.specs.declared.Fault.TheVariants.{BadShape, UnknownSymbol, UnknownSort, Twice, Reserved, WrongSort}
use Rattle.spec_text.specs.declared.Fault.TheVariants.{NotLinear, ZeroDivisor}
use Rattle.spec_commands.specs.OnLiterals.{commands_on_literals}
use Rattle.spec_commands.specs.Examples.{faults, faults_after}

-- a definition's name, each parameter's name before its sort, the sort of the values, the body and its sort
pub parts_of_definitions : faults (
    codes "(set-option :print-success false)" ∷
    codes "(define-fun and ((let V)) W zz)" ∷
    codes "(define-fun f ((let V) (y W)) U zz)" ∷
    codes "(define-fun f ((x V) (let W)) U zz)" ∷
    codes "(define-fun f ((x Bool) (let W)) U zz)" ∷
    codes "(define-fun f ((x Bool) (x W)) U zz)" ∷
    codes "(define-fun f ((x Bool) (y W)) U zz)" ∷
    codes "(define-fun f ((x Bool)) U zz)" ∷
    codes "(define-fun f ((x Bool)) Real zz)" ∷
    codes "(define-fun f ((x Bool)) Real x)" ∷
    codes "(define-fun f ((x Bool)) Bool x)" ∷ []) ≡ (2, 13, Twice) ∷ (3, 17, Reserved) ∷ (4, 19, UnknownSort)
    ∷ (5, 26, Reserved) ∷ (6, 26, Twice) ∷ (7, 28, UnknownSort) ∷ (8, 26, UnknownSort) ∷ (9, 31, UnknownSymbol)
    ∷ (10, 31, WrongSort) ∷ []
unfolding commands_on_literals faults_after
parts_of_definitions = refl

-- a declaration's name, the sorts of its parameters, and that of its values; a sort's name, and what it means
pub parts_of_declarations : faults (
    codes "(set-option :print-success false)" ∷
    codes "(declare-fun and (V) W)" ∷
    codes "(declare-fun let (V) W)" ∷
    codes "(declare-fun f (V let) W)" ∷
    codes "(declare-fun f (Bool let) W)" ∷
    codes "(declare-fun f (Bool) W)" ∷
    codes "(declare-const and W)" ∷
    codes "(define-sort Bool () let)" ∷
    codes "(define-sort V () let)" ∷
    codes "(define-sort V () Bool)(declare-fun f (V) V)" ∷ []) ≡ (2, 14, Twice) ∷ (3, 14, Reserved)
    ∷ (4, 17, UnknownSort) ∷ (5, 22, Reserved) ∷ (6, 23, UnknownSort) ∷ (7, 16, Twice) ∷ (8, 14, Twice)
    ∷ (9, 19, Reserved) ∷ []
unfolding commands_on_literals faults_after
parts_of_declarations = refl

-- a term's shape, a reserved head, its arguments from left to right, and its own fault
pub parts_of_terms : faults (
    codes "(set-option :print-success false)" ∷
    codes "(assert (and (not 1) zz))" ∷
    codes "(assert (zz (not 1)))" ∷
    codes "(assert (forall (zz) yy))" ∷
    codes "(assert (and true (and) zz))" ∷
    codes "(assert (not zz (not 1)))" ∷
    codes "(assert (and true 1 let))" ∷
    codes "(assert (and true 1))" ∷ []) ≡ (2, 14, WrongSort) ∷ (3, 13, WrongSort) ∷ (4, 10, Reserved)
    ∷ (5, 19, BadShape) ∷ (6, 14, UnknownSymbol) ∷ (7, 21, Reserved) ∷ (8, 9, WrongSort) ∷ []
unfolding commands_on_literals faults_after
parts_of_terms = refl

-- each binding's name before its term, and the body after all of them
pub parts_of_bindings : faults (
    codes "(set-option :print-success false)" ∷
    codes "(assert (let ((x zz) (@y 1)) yy))" ∷
    codes "(assert (let ((x true) (@y zz)) yy))" ∷
    codes "(assert (let ((x true) (y zz)) yy))" ∷
    codes "(assert (let ((x true)) yy))" ∷
    codes "(assert (let ((x 1)) x))" ∷
    codes "(assert (let ((x true)) x))" ∷ []) ≡ (2, 18, UnknownSymbol) ∷ (3, 25, Reserved) ∷ (4, 27, UnknownSymbol)
    ∷ (5, 25, UnknownSymbol) ∷ (6, 9, WrongSort) ∷ []
unfolding commands_on_literals faults_after
parts_of_bindings = refl

-- an argument's fault, then the sorts of all, then what is not linear, then a divisor that is zero
pub parts_of_products : faults (
    codes "(set-option :print-success false)" ∷
    codes "(declare-const x Real)" ∷
    codes "(assert (< (* x zz x) 1))" ∷
    codes "(assert (< (* x true x) 1))" ∷
    codes "(assert (< (* x x) zz))" ∷
    codes "(assert (< (/ x 0) zz))" ∷
    codes "(assert (< (/ x true 0) 1))" ∷
    codes "(assert (< (/ x (* x x)) zz))" ∷
    codes "(assert (< (* 2 x) (/ x 2)))" ∷ []) ≡ (3, 17, UnknownSymbol) ∷ (4, 12, WrongSort) ∷ (5, 12, NotLinear)
    ∷ (6, 12, ZeroDivisor) ∷ (7, 12, WrongSort) ∷ (8, 17, NotLinear) ∷ []
unfolding commands_on_literals faults_after
parts_of_products = refl
