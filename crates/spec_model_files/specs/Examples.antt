-- Model files for a check of `script`, with what they are read as, and the places of their faults.
use Rattle.std.specs.Prelude.{◌≡◌, refl, ℕ, List, [], ◌∷◌, ◌++◌, map, Option, Some, None}
use Rattle.std.specs.Prelude.{codes, option_map}
use Rattle.spec_text.specs.Places.{line_of, column_of}
use Rattle.spec_text.specs.Trees.{Trees, atom, list, none, more}
use Rattle.spec_sorts.specs.Written.{trees_in}
use Rattle.spec_commands.specs.Stack.{empty_stack, signature_of}
use Rattle.spec_commands.specs.Checks.{Check, current_at}
use Rattle.spec_model_files.specs.declared.ModelKind.{ModelKind}
use Rattle.spec_model_files.specs.declared.ModelKind.TheVariants.{BadShape, UnknownSymbol, Twice, WrongSort}
use Rattle.spec_model_files.specs.declared.ModelKind.TheVariants.{NumberWide, NotTrue, ValueWide}
use Rattle.spec_model_files.specs.Faults.{ModelFault, faulty_text}
use Rattle.spec_model_files.specs.Verdicts.{read_to_end, judged}
use Rattle.spec_model_files.specs.OnLiterals.{models_on_literals}

-- a check, where there is one
abbrev pub check_or_none : Option Check → Check
check_or_none (Some c) = c
check_or_none None = record { stack = empty_stack; assumptions = [] }

-- the first check of a script
abbrev pub check_of : List ℕ → Check
check_of text = check_or_none (current_at 100 empty_stack 1 (trees_in text))

-- what is in the first list
abbrev pub first_items : Trees → Trees
first_items none = none
first_items (more (atom at k n) ts) = first_items ts
first_items (more (list at us end) ts) = us

-- the definitions of a model file that is written out
abbrev pub definitions_of : List ℕ → Trees
definitions_of text = first_items (trees_in text)

-- a sort with two names, a function of two parameters, and constants
abbrev pub declarations : List ℕ
declarations = (codes "(declare-sort U 0)(define-sort V () U)(declare-fun f (V Real) V)(declare-const x Real)"
    ++ codes "(declare-const b Bool)(define-fun d () Real 1)")

-- a script that asserts what is true of them
abbrev pub plain_script : List ℕ
plain_script = declarations ++ codes "(assert true)(check-sat)"

-- a fault by its line and its column, in the script or in the model file, and its kind
abbrev pub placed : List ℕ → List ℕ → ModelFault → ℕ × ℕ × ModelKind
placed script model f = (
  line_of (faulty_text script model f.kind) f.offset,
  column_of (faulty_text script model f.kind) f.offset,
  f.kind,
)

-- the first fault of a model file at a check of a script, where it has one list of definitions and nothing else
abbrev pub verdict_at : Check → List ℕ → List ℕ → Option (ℕ × ℕ × ModelKind)
verdict_at c script model = option_map (placed script model)
    (judged c (read_to_end (signature_of c.stack) None (definitions_of model)))

-- at the first check of the script
abbrev pub verdict : List ℕ → List ℕ → Option (ℕ × ℕ × ModelKind)
verdict script model = verdict_at (check_of script) script model

-- the first faults of several model files where what is asserted is true
abbrev pub verdicts : List (List ℕ) → List (Option (ℕ × ℕ × ModelKind))
verdicts models = map (verdict plain_script) models

-- a fault in the first line
abbrev pub at_column : ℕ → ModelKind → Option (ℕ × ℕ × ModelKind)
at_column column kind = Some (1, column, kind)

-- no definition, and another item than a definition
pub items : verdicts (codes "()" ∷ codes "sat ()" ∷ codes "(model)" ∷ codes "(())" ∷ codes "((declare-fun x () Real))"
    ∷ codes "((|define-fun| x () Real 1))" ∷ codes "((define-fun x () Real))" ∷ []) ≡ None ∷ None
    ∷ at_column 2 BadShape ∷ at_column 2 BadShape ∷ at_column 2 BadShape ∷ at_column 2 BadShape ∷ at_column 2 BadShape
    ∷ []
unfolding models_on_literals
items = refl

-- what is defined is a declared symbol, each once; what a script defines or what is a theory's is none
pub symbols : verdicts (codes "((define-fun y () Real 1))" ∷ codes "((define-fun d () Real 1))"
    ∷ codes "((define-fun true () Bool true))" ∷ codes "((define-fun let () Real 1))"
    ∷ codes "((define-fun (x) () Real 1))" ∷ codes "((define-fun b () Bool true) (define-fun |b| () Bool zz))" ∷ [])
    ≡ at_column 14 UnknownSymbol ∷ at_column 14 UnknownSymbol ∷ at_column 14 UnknownSymbol ∷ at_column 14 BadShape
    ∷ at_column 14 BadShape ∷ at_column 42 Twice ∷ []
unfolding models_on_literals
symbols = refl

-- the number of parameters comes before the parameters, of each its name before its sort, and all before the sort of
-- the symbol; a name may be that of a theory
pub parameters : verdicts (codes "((define-fun f ((a V)) V (as @e0 U)))" ∷ codes "((define-fun f ((a V)) Real 1))"
    ∷ codes "((define-fun f ((a V) (a Real)) V (as @e0 U)))" ∷ codes "((define-fun f ((a W) (a Real)) V (as @e0 U)))"
    ∷ codes "((define-fun f ((a (V)) (c Real)) V (as @e0 U)))" ∷ codes "((define-fun f ((a V) c) V (as @e0 U)))"
    ∷ codes "((define-fun f ((1 V) (c Real)) V (as @e0 U)))" ∷ codes "((define-fun x a Real 1))"
    ∷ codes "((define-fun f ((a U) (c Real)) Real zz))"
    ∷ (codes "((define-fun f ((true V) (c Real)) V (ite (and (= true (as @e1 U)) (= c 1)) (as @e2 V) "
    ++ codes "(as @e0 U))))") ∷ []) ≡ at_column 16 WrongSort ∷ at_column 16 WrongSort ∷ at_column 24 Twice
    ∷ at_column 20 WrongSort ∷ at_column 20 BadShape ∷ at_column 23 BadShape ∷ at_column 18 BadShape
    ∷ at_column 16 BadShape ∷ at_column 33 WrongSort ∷ None ∷ []
unfolding models_on_literals
parameters = refl

-- the sort of a constant
pub sorts : verdicts (codes "((define-fun x () Bool true))" ∷ codes "((define-fun x () |Real| 1))"
    ∷ codes "((define-fun x () 1 1))" ∷ codes "((define-fun x () let 1))" ∷ []) ≡ at_column 19 WrongSort ∷ None
    ∷ at_column 19 BadShape ∷ at_column 19 BadShape ∷ []
unfolding models_on_literals
sorts = refl

-- a definition of the constant x by a body
abbrev pub x_is : List ℕ → List ℕ
x_is body = codes "((define-fun x () Real " ++ body ++ codes "))"

-- numbers: a divisor is a literal or the negation of one, and not zero; and what is in a number is a number
pub numbers : verdicts (map x_is (codes "(- (- (/ (- 1) (- 2))))" ∷ codes "(/ (/ 1 2) 0.5)" ∷ codes "(/ 1 0)"
    ∷ codes "(/ 1 (- 0.0))" ∷ codes "(/ 1 (/ 1 2))" ∷ codes "(/ 1 (- (- 2)))" ∷ codes "(- 1 2)" ∷ codes "(+ 1 2)"
    ∷ codes "(- true)" ∷ codes "(/ y 0)" ∷ codes "y" ∷ codes "(- (as @e0 U))" ∷ [])) ≡ None ∷ None
    ∷ at_column 24 BadShape ∷ at_column 24 BadShape ∷ at_column 29 BadShape ∷ at_column 32 BadShape
    ∷ at_column 24 BadShape ∷ at_column 24 BadShape ∷ at_column 27 BadShape ∷ at_column 27 BadShape
    ∷ at_column 24 BadShape ∷ at_column 27 BadShape ∷ []
unfolding models_on_literals
numbers = refl

-- a value of another sort
pub sorts_of_values : verdicts (x_is (codes "true") ∷ x_is (codes "(as @e0 U)")
    ∷ codes "((define-fun b () Bool (as @e0 U)))"
    ∷ codes "((define-fun b () Bool (as @e0 Bool)))" ∷ codes "((define-fun b () Bool 1))"
    ∷ codes "((define-fun f ((a V) (c Real)) V (as @e0 W)))" ∷ codes "((define-fun f ((a V) (c Real)) V 1))" ∷ [])
    ≡ at_column 24 WrongSort ∷ at_column 24 WrongSort ∷ at_column 24 WrongSort ∷ at_column 24 WrongSort
    ∷ at_column 24 WrongSort ∷ at_column 35 WrongSort ∷ at_column 35 WrongSort ∷ []
unfolding models_on_literals
sorts_of_values = refl

-- a definition of the function f by a body
abbrev pub f_is : List ℕ → List ℕ
f_is body = codes "((define-fun f ((a V) (c Real)) V " ++ body ++ codes "))"

-- elements by their words
pub elements : verdicts (map f_is (codes "(as @e01 U)" ∷ codes "(as @e18446744073709551616 U)"
    ∷ codes "(as @e18446744073709551615 |U|)" ∷ codes "(as e1 U)" ∷ codes "(as (@e1) U)" ∷ codes "(as @e1 (U))"
    ∷ codes "(as @e1 let)" ∷ codes "(as @e1)" ∷ codes "(|as| @e1 U)" ∷ [])) ≡ at_column 39 BadShape
    ∷ at_column 35 NumberWide ∷ None ∷ at_column 39 BadShape ∷ at_column 39 BadShape ∷ at_column 43 BadShape
    ∷ at_column 43 BadShape ∷ at_column 35 BadShape ∷ at_column 35 BadShape ∷ []
unfolding models_on_literals
elements = refl

-- rows: for two parameters a conjunction of an equality for each, in their order, with the parameter on the left
pub rows : verdicts (map f_is (codes "(ite (= a (as @e1 U)) (as @e0 U) (as @e0 U))"
    ∷ codes "(ite (and (= a (as @e1 U))) (as @e0 U) (as @e0 U))"
    ∷ codes "(ite (and (= c 1) (= a (as @e1 U))) (as @e0 U) (as @e0 U))"
    ∷ codes "(ite (and (= a (as @e1 U)) (= 1 c)) (as @e0 U) (as @e0 U))"
    ∷ codes "(ite (and (= a (as @e1 U)) (= c true)) (as @e0 U) (as @e0 U))"
    ∷ codes "(ite (and (= a (as @e1 U)) c) (as @e0 U) (as @e0 U))"
    ∷ codes "(ite (and (= a (as @e1 U)) (= c 1)) 1 zz)" ∷ codes "(ite true (as @e0 U) (as @e0 U))"
    ∷ codes "(or (and (= a (as @e1 U)) (= c 1)) (as @e0 U) (as @e0 U))" ∷ [])) ≡ at_column 40 BadShape
    ∷ at_column 40 BadShape ∷ at_column 48 BadShape ∷ at_column 65 BadShape ∷ at_column 67 WrongSort
    ∷ at_column 62 BadShape ∷ at_column 71 WrongSort ∷ at_column 40 BadShape ∷ at_column 35 BadShape ∷ []
unfolding models_on_literals
rows = refl

-- a constant has no rows
pub no_rows : verdicts (codes "((define-fun b () Bool (ite true true false)))" ∷ []) ≡ at_column 24 BadShape ∷ []
unfolding models_on_literals
no_rows = refl

-- what leaves the bounds is reported at the whole value, after its form and its sort: here 2^127, and a number that is
-- within them, but has one in it that is not
pub wide_values : verdicts (map x_is (codes "170141183460469231731687303715884105728"
    ∷ codes "(- 170141183460469231731687303715884105727)"
    ∷ codes "(/ (/ (/ 1 170141183460469231731687303715884105727) 2) 0.5)"
    ∷ codes "(/ 170141183460469231731687303715884105728 0)"
    ∷ codes "(/ 1 170141183460469231731687303715884105728)" ∷ [])
    ++ codes "((define-fun b () Bool 170141183460469231731687303715884105728))" ∷ []) ≡ at_column 24 NumberWide ∷ None
    ∷ at_column 24 NumberWide ∷ at_column 24 BadShape ∷ at_column 24 NumberWide ∷ at_column 24 WrongSort ∷ []
unfolding models_on_literals
wide_values = refl

-- the first fault counts: that of an earlier definition, and of one before what comes after it
pub first_counts : verdicts (codes "((define-fun x () Real 1) (define-fun x () Real 1) zz)" ∷ [])
    ≡ at_column 39 Twice ∷ []
unfolding models_on_literals
first_counts = refl

-- the second line declares x; the third and the fourth assert that it is between 0 and 1
abbrev pub interval : List ℕ
interval = codes "(set-logic QF_LRA)\n(declare-const x Real)\n(assert (< 0 x))\n(assert (< x 1))\n(check-sat)\n"

-- numbers between them, and files that are refused; a number that is not, by the assertion that it makes false; without
-- a definition x is 0
pub in_interval : map (verdict interval) (x_is (codes "(/ 1 2)") ∷ x_is (codes "0.5") ∷ x_is (codes "1")
    ∷ x_is (codes "(- 1)") ∷ codes "()" ∷ codes "((define-fun y () Real 1))" ∷ codes "((define-fun x () Bool true))"
    ∷ []) ≡ None ∷ None ∷ Some (4, 9, NotTrue) ∷ Some (3, 9, NotTrue) ∷ Some (3, 9, NotTrue)
    ∷ at_column 14 UnknownSymbol ∷ at_column 19 WrongSort ∷ []
unfolding models_on_literals
in_interval = refl

-- a script that asserts something of x in its third line, and then what is false
abbrev pub above_false : List ℕ → List ℕ
above_false term = codes "(set-logic ALL)\n(declare-const x Real)\n(assert " ++ term
    ++ codes ")\n(assert false)\n(check-sat)\n"

-- an operation that leaves the bound is reported at its expression, also where it does not matter
pub wide_expressions : verdict (above_false (codes "(< (* 100000000000000000000 (* 100000000000000000000 x)) 1)"))
    (x_is (codes "1")) ∷ verdict (above_false (codes "(< (* 100000000000000000000 x) 1)"))
    (x_is (codes "100000000000000000000")) ∷ verdict
    (above_false (codes "(ite true true (< (* 100000000000000000000 (* 100000000000000000000 x)) 1))"))
    (x_is (codes "1")) ∷ verdict (above_false (codes "(< (* 100000000000000000000 x) 1)")) (x_is (codes "0")) ∷ []
    ≡ Some (3, 9, ValueWide) ∷ Some (3, 9, ValueWide) ∷ Some (3, 9, ValueWide) ∷ Some (4, 9, NotTrue) ∷ []
unfolding models_on_literals
wide_expressions = refl

-- a script that asks of the function, and assumes something besides
abbrev pub with_function : List ℕ
with_function = declarations ++ codes "\n(declare-const u U)(declare-const v V)\n(assert (distinct (f u 1) v))"
    ++ codes "\n(assert (= (f v (/ 1 2)) v))\n(check-sat-assuming (b))\n"

-- without a definition each value of a function is the first element
pub function_by_default : verdict with_function (codes "((define-fun v () V (as @e3 U)))") ≡ Some (4, 9, NotTrue)
unfolding models_on_literals
function_by_default = refl

-- a function by its rows; what is assumed comes after what is asserted
pub function_by_rows : verdict with_function
    (codes "((define-fun v () U (as @e3 V)) (define-fun f ((@x0 U) (@x1 Real)) U (ite (and (= @x0 (as @e3 U)) "
    ++ codes "(= @x1 (/ 1 2))) (as @e3 U) (as @e0 U))))") ≡ Some (5, 22, NotTrue)
unfolding models_on_literals
function_by_rows = refl

-- the first row that fits counts; parameters have names of their own
pub first_row_counts : verdict with_function
    (codes "((define-fun b () Bool true) (define-fun v () U (as @e3 V)) (define-fun f ((y U) (ite Real)) U "
    ++ codes "(ite (and (= y (as @e3 U)) (= ite 0.50)) (as @e3 U) (ite (and (= y (as @e3 U)) (= ite 0.5)) (as @e0 U) "
    ++ codes "(as @e1 U)))))") ≡ None
unfolding models_on_literals
first_row_counts = refl
