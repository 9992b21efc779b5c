-- Scripts with the first faults of their commands, by line and column.
use Rattle.std.specs.Prelude.{◌≡◌, refl, ℕ, List, [], ◌∷◌, ◌++◌, map, Ok, Err, codes}
use Rattle.spec_text.specs.declared.Fault.{Fault}
use Rattle.spec_text.specs.declared.Fault.TheVariants.{UnknownCommand, BadShape, UnknownSymbol, UnknownSort, Twice}
use Rattle.spec_text.specs.declared.Fault.TheVariants.{Reserved, WrongCount, WrongSort, NotLinear, ZeroDivisor}
use Rattle.spec_text.specs.declared.Fault.TheVariants.{NumberWide, WrongMode, UnknownLogic, Full}
use Rattle.spec_text.specs.Places.{line_of, column_of}
use Rattle.spec_text.specs.Faults.{Located}
use Rattle.spec_text.specs.Answers.{Answer}
use Rattle.spec_text.specs.Trees.{Trees, none, more}
use Rattle.spec_sorts.specs.Written.{trees_in}
use Rattle.spec_commands.specs.Stack.{Stack, Effect, leave, Taken, empty_stack, step}
use Rattle.spec_commands.specs.OnLiterals.{commands_on_literals}

-- go on after a command, but not after `exit`
abbrev pub unless_left : Effect → Stack → (Stack → List Located) → List Located
unless_left leave s rest = []
unless_left _ s rest = rest s

-- a fault and those after it
abbrev pub with_fault : Stack → Answer Taken → (Stack → List Located) → List Located
with_fault s (Ok d) rest = unless_left d.effect d.stack rest
with_fault s (Err f) rest = f ∷ rest s

-- the first fault of each command that is refused, after what those before it left
unfoldable pub faults_after : ℕ → Stack → Trees → List Located
faults_after limit s none = []
faults_after limit s (more t ts) = with_fault s (step limit s t) (λ next. faults_after limit next ts)

-- a fault by line, column and kind
abbrev pub placed : List ℕ → Located → ℕ × ℕ × Fault
placed text f = (line_of text f.offset, column_of text f.offset, f.fault)

-- lines of a text, each with a line feed
abbrev pub lines : List (List ℕ) → List ℕ
lines [] = []
lines (l ∷ ls) = l ++ 10 ∷ lines ls

-- the faults of a script's commands under a limit on terms and names
abbrev pub faults_within : ℕ → List (List ℕ) → List (ℕ × ℕ × Fault)
faults_within limit ls = map (placed (lines ls)) (faults_after limit empty_stack (trees_in (lines ls)))

-- the faults of a script's commands
abbrev pub faults : List (List ℕ) → List (ℕ × ℕ × Fault)
faults ls = faults_within 100 ls

-- names that begin with `@` are kept, a name is bound once in a list of bindings, and a definition has parameters
pub kept_names : faults (
    codes "(set-option :print-success false)" ∷
    codes "(declare-const @a Bool)" ∷
    codes "(assert (let ((x true) (x false)) x))" ∷
    codes "(define-fun g ((x Bool)) Bool (not x))" ∷
    codes "(assert (g (g false)))" ∷
    codes "(check-sat)" ∷ []) ≡ (2, 16, Reserved) ∷ (3, 25, Twice) ∷ []
unfolding commands_on_literals faults_after
kept_names = refl

-- what begins with no command of the list: a quoted word is none, and what is no list has no command
pub no_command : faults (
    codes "(set-option :print-success false)" ∷
    codes "(frobnicate)" ∷
    codes "(|assert| true)" ∷
    codes "((assert) true)" ∷
    codes "(get-proof)" ∷
    codes "(get-model)" ∷
    codes "assert" ∷
    codes "()" ∷
    codes "(assert true)" ∷ []) ≡ (2, 2, UnknownCommand) ∷ (3, 2, UnknownCommand) ∷ (4, 2, UnknownCommand)
    ∷ (5, 2, UnknownCommand) ∷ (6, 2, UnknownCommand) ∷ (7, 1, BadShape) ∷ (8, 1, BadShape) ∷ []
unfolding commands_on_literals faults_after
no_command = refl

-- `set-logic`, `set-option` and `set-info` of another shape, and each of its own
pub shapes_of_settings : faults (
    codes "(set-option :print-success false)" ∷
    codes "(set-logic)" ∷
    codes "(set-logic \"QF_UF\")" ∷
    codes "(set-logic QF_UF ALL)" ∷
    codes "(set-option produce-models true)" ∷
    codes "(set-option :produce-models)" ∷
    codes "(set-option :produce-models maybe)" ∷
    codes "(set-option :produce-models (true))" ∷
    codes "(set-option :other maybe)" ∷
    codes "(set-info :a 1 2)" ∷
    codes "(set-info a)" ∷
    codes "(set-info)" ∷
    codes "(set-info :status sat)(set-info :a)(set-info :a let)(set-option :produce-proofs |true|)(set-logic QF_UF)"
    ∷ []) ≡ (2, 1, BadShape) ∷ (3, 1, BadShape) ∷ (4, 1, BadShape) ∷ (5, 1, BadShape) ∷ (6, 1, BadShape)
    ∷ (7, 1, BadShape) ∷ (8, 1, BadShape) ∷ (10, 1, BadShape) ∷ (11, 1, BadShape) ∷ (12, 1, BadShape) ∷ []
unfolding commands_on_literals faults_after
shapes_of_settings = refl

-- `declare-sort` and `define-sort` of another shape, which is looked at before any name, and each of its own
pub shapes_of_sorts : faults (
    codes "(set-option :print-success false)" ∷
    codes "(declare-sort U)" ∷
    codes "(declare-sort let 1)" ∷
    codes "(declare-sort U 0 0)" ∷
    codes "(declare-sort (U) 0)" ∷
    codes "(define-sort V (X) Bool)" ∷
    codes "(define-sort V Bool)" ∷
    codes "(define-sort V ())" ∷
    codes "(declare-sort U 0)(define-sort V () U)" ∷ []) ≡ (2, 1, BadShape) ∷ (3, 1, BadShape) ∷ (4, 1, BadShape)
    ∷ (5, 1, BadShape) ∷ (6, 1, BadShape) ∷ (7, 1, BadShape) ∷ (8, 1, BadShape) ∷ []
unfolding commands_on_literals faults_after
shapes_of_sorts = refl

-- declarations and definitions of functions of another shape, and each of its own
pub shapes_of_functions : faults (
    codes "(set-option :print-success false)" ∷
    codes "(declare-const 5 Bool)" ∷
    codes "(declare-const \"s\" Bool)" ∷
    codes "(declare-const c)" ∷
    codes "(declare-fun f Bool Bool)" ∷
    codes "(declare-fun f () Bool Bool)" ∷
    codes "(define-fun f (x) Bool true)" ∷
    codes "(define-fun f ((x)) Bool true)" ∷
    codes "(define-fun f ((x Bool) (5 Bool)) Bool true)" ∷
    codes "(define-fun f () Bool)" ∷
    codes "(define-fun f () Bool true true)" ∷
    codes "(declare-const c Bool)(declare-fun f (Bool Real) Bool)(define-fun g ((x Bool)) Bool x)" ∷ [])
    ≡ (2, 1, BadShape) ∷ (3, 1, BadShape) ∷ (4, 1, BadShape) ∷ (5, 1, BadShape) ∷ (6, 1, BadShape)
    ∷ (7, 1, BadShape) ∷ (8, 1, BadShape) ∷ (9, 1, BadShape) ∷ (10, 1, BadShape) ∷ (11, 1, BadShape) ∷ []
unfolding commands_on_literals faults_after
shapes_of_functions = refl

-- the other commands of another shape, and each of its own
pub shapes_of_others : faults (
    codes "(set-option :print-success false)" ∷
    codes "(assert)" ∷
    codes "(assert true false)" ∷
    codes "(check-sat 1)" ∷
    codes "(echo a)" ∷
    codes "(echo)" ∷
    codes "(echo \"a\" \"b\")" ∷
    codes "(exit 1)" ∷
    codes "(assert true)(check-sat)(echo \"a \"\"b\"\"\")(exit)" ∷
    codes "(assert zz)" ∷ []) ≡ (2, 1, BadShape) ∷ (3, 1, BadShape) ∷ (4, 1, BadShape) ∷ (5, 1, BadShape)
    ∷ (6, 1, BadShape) ∷ (7, 1, BadShape) ∷ (8, 1, BadShape) ∷ []
unfolding commands_on_literals faults_after
shapes_of_others = refl

-- a symbol that is not known is a fault at the symbol, after those of its arguments
pub unknown_symbols : faults (
    codes "(set-option :print-success false)" ∷
    codes "(assert zz)" ∷
    codes "(assert (not zz))" ∷
    codes "(assert (zz yy))" ∷
    codes "(assert (zz true))" ∷
    codes "(declare-const zz Bool)(assert (zz true))(assert zz)" ∷ []) ≡ (2, 9, UnknownSymbol) ∷ (3, 14, UnknownSymbol)
    ∷ (4, 13, UnknownSymbol) ∷ (5, 10, UnknownSymbol) ∷ (6, 32, WrongCount) ∷ []
unfolding commands_on_literals faults_after
unknown_symbols = refl

-- a sort that is not known, or has parameters; a number, a string, a keyword and a reserved word are none
pub unknown_sorts : faults (
    codes "(set-option :print-success false)" ∷
    codes "(declare-const a V)" ∷
    codes "(declare-const a (U))" ∷
    codes "(declare-const a ())" ∷
    codes "(declare-const a 5)" ∷
    codes "(declare-const a \"s\")" ∷
    codes "(declare-const a :k)" ∷
    codes "(declare-fun f (Bool let) Bool)" ∷
    codes "(define-sort V () W)" ∷
    codes "(define-fun f ((x V)) Bool true)" ∷
    codes "(define-fun f () V true)" ∷
    codes "(declare-sort U 0)(define-sort V () U)(declare-fun a (V Bool Real) |U|)" ∷ []) ≡ (2, 18, UnknownSort)
    ∷ (3, 18, UnknownSort) ∷ (4, 18, UnknownSort) ∷ (5, 18, BadShape) ∷ (6, 18, BadShape) ∷ (7, 18, BadShape)
    ∷ (8, 22, Reserved) ∷ (9, 19, UnknownSort) ∷ (10, 19, UnknownSort) ∷ (11, 18, UnknownSort) ∷ []
unfolding commands_on_literals faults_after
unknown_sorts = refl

-- a name is declared once, whether it is quoted or not; sorts and functions have their names apart
pub names_twice : faults (
    codes "(set-option :print-success false)" ∷
    codes "(declare-const p Bool)(declare-const |p| Real)" ∷
    codes "(declare-fun and (Bool) Bool)" ∷
    codes "(declare-const + Real)" ∷
    codes "(define-fun p () Bool true)" ∷
    codes "(declare-sort Bool 0)" ∷
    codes "(declare-sort Real 0)" ∷
    codes "(declare-sort U 0)(declare-sort U 0)" ∷
    codes "(define-sort U () Bool)" ∷
    codes "(define-fun h ((x Bool) (x Bool)) Bool x)" ∷
    codes "(define-fun h ((and Bool)) Bool true)" ∷
    codes "(define-fun f () Bool (! true :named f))" ∷
    (codes "(declare-sort p 0)(declare-const U Bool)(declare-sort and 0)(declare-const Bool Bool)"
    ++ codes "(define-fun h ((p Bool)) Bool p)") ∷ []) ≡ (2, 38, Twice) ∷ (3, 14, Twice) ∷ (4, 16, Twice)
    ∷ (5, 13, Twice) ∷ (6, 15, Twice) ∷ (7, 15, Twice) ∷ (8, 33, Twice) ∷ (9, 14, Twice) ∷ (10, 26, Twice)
    ∷ (11, 17, Twice) ∷ (12, 38, Twice) ∷ []
unfolding commands_on_literals faults_after
names_twice = refl

-- a reserved word is no name and no head, and a kept name is no new one; in bars a word is a symbol
pub reserved_words : faults (
    codes "(set-option :print-success false)" ∷
    codes "(declare-const let Bool)" ∷
    codes "(declare-const .a Bool)" ∷
    codes "(declare-const |@a| Bool)" ∷
    codes "(declare-sort as 0)" ∷
    codes "(define-sort ! () Bool)" ∷
    codes "(define-fun f ((@x Bool)) Bool true)" ∷
    codes "(assert let)" ∷
    codes "(assert (forall yy))" ∷
    codes "(assert (forall))" ∷
    codes "(assert (as true Bool))" ∷
    codes "(declare-const |let| Bool)(assert |let|)(declare-const a@ Bool)" ∷ [])
    ≡ (2, 16, Reserved) ∷ (3, 16, Reserved) ∷ (4, 16, Reserved) ∷ (5, 15, Reserved) ∷ (6, 14, Reserved)
    ∷ (7, 17, Reserved) ∷ (8, 9, Reserved) ∷ (9, 10, Reserved) ∷ (10, 9, BadShape) ∷ (11, 10, Reserved) ∷ []
unfolding commands_on_literals faults_after
reserved_words = refl

-- a head before too few or too many arguments is a fault at the first byte of the term; a list of one item is no term
pub wrong_counts : faults (
    codes "(set-option :print-success false)" ∷
    codes "(declare-fun f (Bool) Bool)(declare-const p Bool)" ∷
    codes "(assert and)" ∷
    codes "(assert f)" ∷
    codes "(assert (not p p))" ∷
    codes "(assert (f p p))" ∷
    codes "(assert (xor p))" ∷
    codes "(assert (ite p p))" ∷
    codes "(assert (true p))" ∷
    codes "(assert (p p))" ∷
    codes "(assert (and))" ∷
    codes "(assert (p))" ∷
    codes "(assert (= 0 (/ 1)))" ∷
    codes "(assert (and p))(assert (f p))(assert (xor p p))(assert (= 0 (- 1)))(assert (= 0 (+ 1)))" ∷ [])
    ≡ (3, 9, WrongCount) ∷ (4, 9, WrongCount) ∷ (5, 9, WrongCount) ∷ (6, 9, WrongCount) ∷ (7, 9, WrongCount)
    ∷ (8, 9, WrongCount) ∷ (9, 9, WrongCount) ∷ (10, 9, WrongCount) ∷ (11, 9, BadShape) ∷ (12, 9, BadShape)
    ∷ (13, 14, WrongCount) ∷ []
unfolding commands_on_literals faults_after
wrong_counts = refl

-- arguments of other sorts are a fault at the first byte of the term, as an assertion or a body of another sort
pub wrong_sorts : faults (
    codes "(set-option :print-success false)" ∷
    codes "(declare-sort U 0)(declare-const u U)(declare-const x Real)(declare-fun f (U) Real)" ∷
    codes "(assert (= u x))" ∷
    codes "(assert (and true x))" ∷
    codes "(assert (ite x true true))" ∷
    codes "(assert (ite true x u))" ∷
    codes "(assert (< x u))" ∷
    codes "(assert (< true false))" ∷
    codes "(assert (f u))" ∷
    codes "(assert x)" ∷
    codes "(assert (= x (f x)))" ∷
    codes "(define-fun h () Real true)" ∷
    codes "(define-fun h ((y U)) Real y)" ∷
    codes "(assert (= x (f u)))(assert (= u (ite true u u)))(define-fun h ((y U)) Real (f y))(assert (= (h u) x 1))"
    ∷ []) ≡ (3, 9, WrongSort) ∷ (4, 9, WrongSort) ∷ (5, 9, WrongSort) ∷ (6, 9, WrongSort) ∷ (7, 9, WrongSort)
    ∷ (8, 9, WrongSort) ∷ (9, 9, WrongSort) ∷ (10, 9, WrongSort) ∷ (11, 14, WrongSort) ∷ (12, 23, WrongSort)
    ∷ (13, 28, WrongSort) ∷ []
unfolding commands_on_literals faults_after
wrong_sorts = refl

-- products and quotients that are not linear, and divisors that are zero
pub not_linear : faults (
    codes "(set-option :print-success false)" ∷
    codes "(declare-const x Real)" ∷
    codes "(declare-const y Real)" ∷
    codes "(assert (< (* x y) 1))" ∷
    codes "(assert (< (/ x 0.0) 1))" ∷
    codes "(assert (< (/ x (- (/ 1 2))) 1))" ∷
    codes "(assert (< (/ x (+ 1 1)) 1))" ∷ []) ≡ (4, 12, NotLinear) ∷ (5, 12, ZeroDivisor) ∷ (7, 12, NotLinear) ∷ []
unfolding commands_on_literals faults_after
not_linear = refl

-- what is linear is judged with `let` and definitions replaced; a sum is no divisor; a divisor that may not be one
-- comes before one that is zero
pub linear_after_replacing : faults (
    codes "(set-option :print-success false)" ∷
    (codes "(declare-const x Real)(declare-const y Real)(define-fun two () Real 2)"
    ++ codes "(define-fun twice ((z Real)) Real (* 2 z))") ∷
    codes "(assert (< (/ x (+ 2)) 1))" ∷
    codes "(assert (< (/ x 0 y) 1))" ∷
    codes "(assert (< (/ x (- 0)) 1))" ∷
    codes "(assert (< (/ x (/ 0 2)) 1))" ∷
    codes "(assert (< (/ x 2 0.00) 1))" ∷
    codes "(assert (< (/ x (ite true 1 1)) 1))" ∷
    codes "(assert (< (* x (twice y)) 1))" ∷
    codes "(define-fun square ((z Real)) Real (* z z))" ∷
    codes "(define-fun over ((z Real)) Real (/ 1 z))" ∷
    codes "(assert (< (/ x (twice 2)) 1))" ∷
    codes "(assert (< (let ((k 2)) (/ x k)) (/ x two 3 (/ 1 2)) (* (+ 1 1) x (- two)) (* (twice 3) x)))" ∷ [])
    ≡ (3, 12, NotLinear) ∷ (4, 12, NotLinear) ∷ (5, 12, ZeroDivisor) ∷ (6, 12, ZeroDivisor) ∷ (7, 12, ZeroDivisor)
    ∷ (8, 12, NotLinear) ∷ (9, 12, NotLinear) ∷ (10, 36, NotLinear) ∷ (11, 34, NotLinear) ∷ (12, 12, NotLinear) ∷ []
unfolding commands_on_literals faults_after
linear_after_replacing = refl

-- a literal whose digits are above 2^127 - 1
pub wide_numbers : faults (
    codes "(set-option :print-success false)" ∷
    codes "(assert (= 170141183460469231731687303715884105727 0))" ∷
    codes "(assert (= 170141183460469231731687303715884105728 0))" ∷
    codes "(check-sat)" ∷ []) ≡ (3, 12, NumberWide) ∷ []
unfolding commands_on_literals faults_after
wide_numbers = refl

-- a literal may have 38 digits after its point, where zeros at the end are not counted
pub long_decimals : faults (
    codes "(set-option :print-success false)" ∷
    codes "(assert (= 0 0.00000000000000000000000000000000000001))" ∷
    codes "(assert (= 0 0.000000000000000000000000000000000000010000))" ∷
    codes "(assert (= 0 0.000000000000000000000000000000000000001))" ∷
    codes "(assert (= 0 1701411834604692317316873037158841.05728))" ∷
    codes "(assert (= 0 1701411834604692317316873037158841.05727000))" ∷ []) ≡ (4, 14, NumberWide) ∷ (5, 14, NumberWide)
    ∷ []
unfolding commands_on_literals faults_after
long_decimals = refl

-- the logic is set once, before what it speaks of; one that is not known is reported first; a check begins too
pub logics : faults (
    codes "(set-option :print-success false)" ∷
    codes "(set-info :a b)(set-option :produce-models true)(echo \"a\")(set-logic QF_BV)" ∷
    codes "(set-logic let)" ∷
    codes "(set-logic QF_UFLRA)" ∷
    codes "(set-logic QF_UF)" ∷
    codes "(set-logic QF_BV)" ∷ []) ≡ (2, 70, UnknownLogic) ∷ (3, 12, Reserved) ∷ (5, 1, WrongMode)
    ∷ (6, 12, UnknownLogic) ∷ []
unfolding commands_on_literals faults_after
logics = refl

-- every command but settings and echoes ends the start, unless it is refused
pub late_logics : faults (
    codes "(set-option :print-success false)" ∷
    codes "(declare-const p V)(assert zz)(set-logic |ALL|)" ∷
    codes "(set-logic ALL)" ∷ []) ≡ (2, 18, UnknownSort) ∷ (2, 28, UnknownSymbol) ∷ (3, 1, WrongMode) ∷ []
unfolding commands_on_literals faults_after
late_logics = refl

-- a check ends the start
pub logic_after_check : faults (
    codes "(set-option :print-success false)" ∷
    codes "(check-sat)(set-logic ALL)" ∷ []) ≡ (2, 12, WrongMode) ∷ []
unfolding commands_on_literals faults_after
logic_after_check = refl

-- a check has no fault of its own, neither where a function gives a number
pub check_of_functions : faults (
    codes "(set-option :print-success false)" ∷
    codes "(declare-const p Bool)(declare-fun f (Bool) Real)(declare-const x Real)(assert p)(check-sat)" ∷
    codes "(assert (< (f p) x))(check-sat)" ∷ []) ≡ []
unfolding commands_on_literals faults_after
check_of_functions = refl

-- nor where an equality of numbers is asserted
pub check_of_numbers : faults (
    codes "(set-option :print-success false)" ∷
    codes "(check-sat)" ∷
    codes "(assert (= 1 1.0))( check-sat)" ∷ []) ≡ []
unfolding commands_on_literals faults_after
check_of_numbers = refl

-- a refused assertion makes no name
pub refused_names : faults (
    codes "(set-option :print-success false)" ∷
    codes "(assert (! (+ 1 2) :named n))" ∷
    codes "(assert n)" ∷
    codes "(assert (and (! true :named m) yy))" ∷
    codes "(assert m)" ∷
    codes "(assert (! true :named n))(assert n)" ∷ []) ≡ (2, 9, WrongSort) ∷ (3, 9, UnknownSymbol)
    ∷ (4, 32, UnknownSymbol) ∷ (5, 9, UnknownSymbol) ∷ []
unfolding commands_on_literals faults_after
refused_names = refl

-- a list of bindings is not empty, each name comes before its term, no name of the list is bound in these terms, and a
-- bound name takes no arguments
pub lets : faults (
    codes "(set-option :print-success false)" ∷
    codes "(assert (let () true))" ∷
    codes "(assert (let ((and true)) true))" ∷
    codes "(assert (let ((x zz) (let true)) true))" ∷
    codes "(assert (let ((x true)) (let ((x (not x)) (y x)) y)))" ∷
    codes "(assert (let ((x true)) (x x)))" ∷
    codes "(assert (let ((x true) (y x)) y))" ∷
    codes "(assert (let ((@x true)) true))" ∷
    codes "(assert (let x true))" ∷
    codes "(assert (let ((x true))))" ∷
    codes "(assert (let ((x true)) 1 2))" ∷
    codes "(declare-const p Bool)(assert (let ((p (not p)) (q p)) (and p q)))" ∷ []) ≡ (2, 9, BadShape) ∷ (3, 16, Twice)
    ∷ (4, 18, UnknownSymbol) ∷ (6, 25, WrongCount) ∷ (7, 27, UnknownSymbol) ∷ (8, 16, Reserved) ∷ (9, 9, BadShape)
    ∷ (10, 9, BadShape) ∷ (11, 9, BadShape) ∷ []
unfolding commands_on_literals faults_after
lets = refl

-- a term has one attribute at least, a keyword with one value at most; a name is a symbol, new, and of a term in which
-- no bound name is free
pub annotations : faults (
    codes "(set-option :print-success false)" ∷
    codes "(assert (! true))" ∷
    codes "(assert (! true named))" ∷
    codes "(assert (! true :a 1 2))" ∷
    codes "(assert (! true :named))" ∷
    codes "(assert (! true :named 5))" ∷
    codes "(assert (! zz :named let))" ∷
    codes "(assert (! true :named let))" ∷
    codes "(assert (! true :named and))" ∷
    codes "(assert (let ((y true)) (! y :named n)))" ∷
    codes "(assert (let ((y true)) (! (let ((z y)) true) :named n)))" ∷
    codes "(assert (! (let ((y true)) y) :a :b (1 2) :named n :named m :a let))" ∷
    codes "(assert (and n m))" ∷
    codes "(assert (! true :named n))" ∷ []) ≡ (2, 9, BadShape) ∷ (3, 9, BadShape) ∷ (4, 9, BadShape) ∷ (5, 9, BadShape)
    ∷ (6, 9, BadShape) ∷ (7, 12, UnknownSymbol) ∷ (8, 24, Reserved) ∷ (9, 24, Twice) ∷ (10, 25, BadShape)
    ∷ (11, 25, BadShape) ∷ (14, 24, Twice) ∷ []
unfolding commands_on_literals faults_after
annotations = refl

-- a name is known after its annotation, in the same term too
pub names_in_terms : faults (
    codes "(set-option :print-success false)" ∷
    codes "(assert (and (! true :named k) k))" ∷
    codes "(assert (and j (! true :named j)))" ∷
    codes "(assert (let ((y (! true :named l))) (and y l)))" ∷
    codes "(define-fun f ((x Bool)) Bool (and x (! true :named i)))(assert (f i))" ∷
    codes "(define-fun g ((x Bool)) Bool (! x :named h))" ∷
    codes "(assert (and l h))" ∷ []) ≡ (3, 14, UnknownSymbol) ∷ (6, 31, BadShape) ∷ (7, 16, UnknownSymbol) ∷ []
unfolding commands_on_literals faults_after
names_in_terms = refl

-- a string and a keyword are no terms, and a list begins with a symbol
pub atoms : faults (
    codes "(set-option :print-success false)" ∷
    codes "(assert \"s\")" ∷
    codes "(assert :k)" ∷
    codes "(assert (5 true))" ∷
    codes "(assert ((not) true))" ∷
    codes "(assert (\"s\" true))" ∷
    codes "(assert (|not| false))" ∷ []) ≡ (2, 9, BadShape) ∷ (3, 9, BadShape) ∷ (4, 9, BadShape) ∷ (5, 9, BadShape)
    ∷ (6, 9, BadShape) ∷ []
unfolding commands_on_literals faults_after
atoms = refl

-- a command whose terms have more different subterms than the limit allows
pub full_terms : faults_within 4 (
    codes "(set-option :print-success false)" ∷
    codes "(declare-const p Bool)(declare-const q Bool)" ∷
    codes "(assert (or p q (not p)))" ∷
    codes "(assert (and p (or p q (not p))))" ∷
    codes "(check-sat)" ∷ []) ≡ (4, 1, Full) ∷ []
unfolding commands_on_literals faults_after
full_terms = refl

-- names of sorts, functions and definitions count together, those of `:named` among them
pub full_names : faults_within 4 (
    codes "(set-option :print-success false)" ∷
    codes "(declare-sort U 0)(define-sort V () U)(declare-const p Bool)(assert (! p :named n))" ∷
    codes "(declare-const q Bool)" ∷
    codes "(declare-sort W 0)" ∷
    codes "(define-fun g () Bool p)" ∷
    codes "(assert (! p :named m))" ∷
    codes "(assert n)" ∷ []) ≡ (3, 1, Full) ∷ (4, 1, Full) ∷ (5, 1, Full) ∷ (6, 1, Full) ∷ []
unfolding commands_on_literals faults_after
full_names = refl

-- all other faults of a command come before want of room
pub order_of_faults : faults_within 1 (
    codes "(set-option :print-success false)" ∷
    codes "(declare-const p Bool)" ∷
    codes "(declare-const q V)" ∷
    codes "(assert (and p zz))" ∷
    codes "(assert (! p :named n :named m))" ∷ []) ≡ (3, 18, UnknownSort) ∷ (4, 16, UnknownSymbol) ∷ (5, 1, Full) ∷ []
unfolding commands_on_literals faults_after
order_of_faults = refl
