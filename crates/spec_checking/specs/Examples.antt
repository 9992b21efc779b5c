-- Proofs as they are read, and the first faults of those that cannot be, with line and column.
use Rattle.std.specs.Prelude.{◌≡◌, refl, ℕ, List, [], ◌∷◌, ◌++◌, map, Option, Some, None, Ok, Err, codes, option_map}
use Rattle.spec_text.specs.declared.Fault.TheVariants as faults
use Rattle.spec_text.specs.Places.{line_of, column_of}
use Rattle.spec_text.specs.Trees.{Trees, none, more}
use Rattle.spec_sorts.specs.Written.{trees_in}
use Rattle.spec_commands.specs.Stack.{empty_stack}
use Rattle.spec_commands.specs.Checks.{Check, current_at, term_limit}
use Rattle.spec_proofs.specs.declared.ProofKind.{ProofKind}
use Rattle.spec_proofs.specs.declared.ProofKind.TheVariants.{BadShape, TwiceName, UnknownPremise, UnknownRule, Term}
use Rattle.spec_proofs.specs.Faults.{Fault, Read}
use Rattle.spec_checking.specs.Commands.{Known, Command, known_at}
use Rattle.spec_checking.specs.Reading.{command_of}
use Rattle.spec_checking.specs.Judging.{with_command}
use Rattle.spec_checking.specs.OnLiterals.{proofs_on_literals}

-- a constant p, which is asserted, and so is its negation; and a number x, a function f of numbers, a definition of
-- conjunctions
abbrev pub contradiction : List ℕ
contradiction = (codes "(declare-const p Bool)(declare-const x Real)(declare-fun f (Real) Bool)"
    ++ codes "(define-fun both ((y Bool) (z Bool)) Bool (and y z))(assert p)(assert (not p))(check-sat)")

-- the check, where there is one
abbrev pub check_or_none : Option Check → Check
check_or_none (Some c) = c
check_or_none None = record { stack = empty_stack; assumptions = [] }

-- the check of the script
abbrev pub the_check : Check
the_check = check_or_none (current_at term_limit empty_stack 1 (trees_in contradiction))

-- what the script makes known
abbrev pub known : Known
known = known_at the_check

-- What trees are read as: commands, up to the first that cannot be read, and the fault of that one.
abbrev pub Commands : Type 0
Commands = List Command × Option Fault

-- a command before others, or its fault
abbrev pub before : Known → Read Command → (Known → Commands) → Commands
before k (Err f) rest = ([], Some f)
before k (Ok c) rest = (c ∷ (rest (with_command k c)).0, (rest (with_command k c)).1)

-- each command under what is known before it, within a limit
unfoldable pub read_commands : Option ℕ → Known → Trees → Commands
read_commands limit k none = ([], None)
read_commands limit k (more t ts) = before k (command_of limit k t) (λ next. read_commands limit next ts)

-- the first fault of reading a proof's commands within a limit, by line, column and kind
abbrev pub unread_within : ℕ → List ℕ → Option (ℕ × ℕ × ProofKind)
unread_within limit text = option_map (λ (f : Fault). (line_of text f.offset, column_of text f.offset, f.kind))
    (read_commands (Some limit) known (trees_in text)).1

-- of several proofs
abbrev pub unread : List (List ℕ) → List (Option (ℕ × ℕ × ProofKind))
unread texts = map (unread_within term_limit) texts

-- a fault in the first line
abbrev pub at_column : ℕ → ProofKind → Option (ℕ × ℕ × ProofKind)
at_column column kind = Some (1, column, kind)

-- a second line after an assume
abbrev pub behind_assume : List ℕ → List ℕ
behind_assume text = codes "(assume h1 p)\n" ++ text

-- words and names may be between bars, and a command's name is any symbol
pub names_of_commands : unread (codes "(|assume| |h1| |p|)(|step| t1 (|cl| p) :rule |weakening| :premises (h1))"
    ∷ codes "(assume and p)(assume @x p)(step .y (cl p) :rule reordering :premises (and))" ∷ []) ≡ None ∷ None ∷ []
unfolding proofs_on_literals read_commands
names_of_commands = refl

-- what has another shape is no command
pub shapes : unread (codes "h1" ∷ codes "(anchor :step t1)" ∷ codes "(assume h1 p p)" ∷ codes "(assume let p)"
    ∷ codes "(step t1 () :rule resolution)" ∷ codes "(step t1 (cl) :premises ())" ∷ []) ≡ at_column 1 BadShape
    ∷ at_column 1 BadShape ∷ at_column 1 BadShape ∷ at_column 1 BadShape ∷ at_column 1 BadShape ∷ at_column 1 BadShape
    ∷ []
unfolding proofs_on_literals read_commands
shapes = refl

-- each keyword occurs once, with symbols or a list after it; arguments are any texts
pub keywords : unread (codes "(step t1 (cl) :rule resolution :rule resolution)"
    ∷ codes "(step t1 (cl) :rule resolution :zz ())" ∷ codes "(step t1 (cl) :rule resolution :premises ((h1)))"
    ∷ codes "(step t1 (cl) :rule resolution :args 1)"
    ∷ codes "(step t1 (cl) :args (1 (- 2.5) zz) :rule resolution :discharge (zz))" ∷ []) ≡ at_column 1 BadShape
    ∷ at_column 1 BadShape ∷ at_column 1 BadShape ∷ at_column 1 BadShape ∷ None ∷ []
unfolding proofs_on_literals read_commands
keywords = refl

-- the name comes before the terms, these before the rule, and this before the premises
pub parts_in_order : unread (behind_assume (codes "(step h1 (cl zz) :rule hole)")
    ∷ codes "(step t1 (cl p zz) :rule hole :premises (h9))" ∷ codes "(step t1 (cl p) :rule hole :premises (h9))"
    ∷ behind_assume (codes "(step t1 (cl p) :rule weakening :premises (h1 t1))") ∷ []) ≡ Some (2, 7, TwiceName)
    ∷ at_column 16 (Term faults.UnknownSymbol) ∷ at_column 23 UnknownRule ∷ Some (2, 47, UnknownPremise) ∷ []
unfolding proofs_on_literals read_commands
parts_in_order = refl

-- terms may have numbers, functions, `let` and definitions
pub terms : unread (codes "(step t1 (cl (let ((a (+ x 1)) (b (f 0.5))) (both b (< a 2))) (not (f (- x)))) :rule hole)"
    ∷ codes "(assume h1 (! (= x (* 2 x)) :weight 3))" ∷ []) ≡ at_column 86 UnknownRule ∷ None ∷ []
unfolding proofs_on_literals read_commands
terms = refl

-- a literal has the sort Bool, which is looked at before the next literal; so has what is assumed
pub sorts_of_literals : unread (codes "(step t1 (cl p x zz) :rule hole)" ∷ codes "(step t1 (cl zz x) :rule hole)"
    ∷ codes "(assume h1 (+ x 1))" ∷ []) ≡ at_column 16 (Term faults.WrongSort)
    ∷ at_column 14 (Term faults.UnknownSymbol) ∷ at_column 12 (Term faults.WrongSort) ∷ []
unfolding proofs_on_literals read_commands
sorts_of_literals = refl

-- the faults of terms are those of a script; a term of another form is a fault of the proof's own
pub faults_of_terms : unread (codes "(assume h1 (p))" ∷ codes "(assume h1 (both p))" ∷ codes "(assume h1 (both p x))"
    ∷ codes "(assume h1 (< (* x x) 1))" ∷ codes "(assume h1 (< (/ x 0) 1))" ∷ []) ≡ at_column 12 BadShape
    ∷ at_column 12 (Term faults.WrongCount) ∷ at_column 12 (Term faults.WrongSort)
    ∷ at_column 15 (Term faults.NotLinear) ∷ at_column 15 (Term faults.ZeroDivisor) ∷ []
unfolding proofs_on_literals read_commands
faults_of_terms = refl

-- a name that is bound twice in one list is a fault of the term
pub names_bound : unread (codes "(assume h1 (let ((a p) (a p)) a))"
    ∷ codes "(assume h1 (let ((@a p) (.b p)) (and @a .b p)))" ∷ codes "(assume h1 (let ((and p)) p))" ∷ [])
    ≡ at_column 25 (Term faults.Twice) ∷ None ∷ at_column 19 (Term faults.Twice) ∷ []
unfolding proofs_on_literals read_commands
names_bound = refl

-- a name that is given to a term is known from there on, in the same command and in later ones; one that is known
-- already is a fault of its own, and a reserved word one of terms
pub names_given_to_terms : unread (codes "(assume h1 (! p :named n))"
    ∷ codes "(step t1 (cl (! (and p p) :named @n) (not @n)) :rule hole)"
    ∷ codes "(assume h1 (and (! p :named n) n))\n(assume h2 (or n (! p :named m)))\n(assume h3 m)"
    ∷ codes "(assume h1 (and n (! p :named n)))" ∷ codes "(assume h1 (! p :named n))\n(assume h2 (! p :named n))"
    ∷ codes "(assume h1 (let ((a p)) (! a :named n)))" ∷ codes "(assume h1 (! p :named p))"
    ∷ codes "(assume h1 (and p (! p :a 1 :named let)))" ∷ codes "(assume h1 (! zz :named p))" ∷ [])
    ≡ None ∷ at_column 54 UnknownRule ∷ None ∷ at_column 17 (Term faults.UnknownSymbol) ∷ Some (2, 24, TwiceName)
    ∷ at_column 25 BadShape ∷ at_column 24 TwiceName ∷ at_column 36 (Term faults.Reserved)
    ∷ at_column 15 (Term faults.UnknownSymbol) ∷ []
unfolding proofs_on_literals read_commands
names_given_to_terms = refl

-- a definition may have parameters, and later definitions and terms may use it
pub definitions_read : unread ((codes "(define-fun @g ((a Real) (b Bool)) Bool (and b (< a 1)))(define-fun .h () "
    ++ codes "Bool (@g 0.5 p))(assume h1 (or .h (@g x (f x))))")
    ∷ codes "(define-fun |let| ((a Real)) Real (+ a x))(assume h1 (= (|let| 1) x))"
    ∷ codes "(assume h1 p)(define-fun h1 () Bool p)(step t1 (cl h1) :rule weakening :premises (h1))" ∷ [])
    ≡ None ∷ None ∷ None ∷ []
unfolding proofs_on_literals read_commands
definitions_read = refl

-- the shape of a definition comes first, then its name, the parameters, the sort and the term
pub definitions_in_order : unread (codes "(define-fun let (x) Bool p)" ∷ codes "(define-fun f () p)"
    ∷ codes "(define-fun let ((a U)) U p)" ∷ codes "(define-fun g ((a U)) V zz)"
    ∷ codes "(define-fun g ((a Real) (a Bool)) V zz)" ∷ codes "(define-fun g ((a Real)) V zz)"
    ∷ codes "(define-fun g ((a Real)) Bool (< zz 1))" ∷ []) ≡ at_column 1 BadShape ∷ at_column 1 BadShape
    ∷ at_column 13 (Term faults.Reserved) ∷ at_column 19 (Term faults.UnknownSort) ∷ at_column 26 (Term faults.Twice)
    ∷ at_column 26 (Term faults.UnknownSort) ∷ at_column 34 (Term faults.UnknownSymbol) ∷ []
unfolding proofs_on_literals read_commands
definitions_in_order = refl

-- a name is defined once, and is none that the script or a theory has
pub names_defined : unread (codes "(define-fun true () U zz)" ∷ codes "(define-fun + () U zz)"
    ∷ codes "(define-fun p () U zz)" ∷ codes "(define-fun both () U zz)"
    ∷ codes "(define-fun @a () Bool p)\n(define-fun |@a| () Bool p)" ∷ []) ≡ at_column 13 TwiceName
    ∷ at_column 13 TwiceName ∷ at_column 13 TwiceName ∷ at_column 13 TwiceName ∷ Some (2, 13, TwiceName) ∷ []
unfolding proofs_on_literals read_commands
names_defined = refl

-- the term of a definition has the sort that is stated, and does not know the name
pub bodies : unread (codes "(define-fun g () Real p)" ∷ codes "(define-fun g () Bool (not g))"
    ∷ codes "(define-fun g ((a Bool)) Bool (! a :named n))" ∷ codes "(define-fun g () Bool (! p :named g))"
    ∷ codes "(assume h1 g)\n(define-fun g () Bool p)" ∷ []) ≡ at_column 23 (Term faults.WrongSort)
    ∷ at_column 28 (Term faults.UnknownSymbol) ∷ at_column 31 BadShape ∷ at_column 35 TwiceName
    ∷ at_column 12 (Term faults.UnknownSymbol) ∷ []
unfolding proofs_on_literals read_commands
bodies = refl

-- there is room for so many names and so many different subterms, which is looked at after the terms and before the
-- rule
pub rooms : map (unread_within 4) (codes "(step t1 (cl (and p (not p)) (or p (not p))) :rule hole)"
    ∷ codes "(step t1 (cl (and p (not p)) (or p (not p)) (xor p p)) :rule hole)" ∷ codes "(define-fun g () Bool p)"
    ∷ []) ≡ at_column 52 UnknownRule ∷ at_column 1 (Term faults.Full) ∷ at_column 1 (Term faults.Full) ∷ []
unfolding proofs_on_literals read_commands
rooms = refl
