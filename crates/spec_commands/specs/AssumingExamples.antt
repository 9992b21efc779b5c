-- Scripts with checks that assume literals: what is current at them, and the first faults of their commands.
use Rattle.std.specs.Prelude.{◌≡◌, refl, ℕ, List, [], ◌∷◌, ◌++◌, map, Option, Some, None, option_map, codes}
use Rattle.spec_text.specs.declared.Kind.TheVariants.{Simple, Quoted}
use Rattle.spec_text.specs.declared.Fault.TheVariants.{UnknownCommand, BadShape, UnknownSymbol, NotLiteral, WrongMode}
use Rattle.spec_text.specs.declared.Fault.TheVariants.{Full}
use Rattle.spec_text.specs.Trees.{atom, list, none, more}
use Rattle.spec_sorts.specs.Written.{trees_in}
use Rattle.spec_sorts.specs.Terms.{And, Truth, Term, constant, constant_term, pair, negated}
use Rattle.spec_commands.specs.Stack.{Assertion, Stack, empty_stack}
use Rattle.spec_commands.specs.Checks.{Check}
use Rattle.spec_commands.specs.OnLiterals.{commands_on_literals}
use Rattle.spec_commands.specs.Examples.{faults, faults_within, faults_after}
use Rattle.spec_commands.specs.AnswerExamples.{p}
use Rattle.spec_commands.specs.CheckExamples.{check_of, asked_at, count_at, stack_after}

-- what the k-th check of a script assumes
abbrev pub assumed_at : ℕ → List ℕ → Option (List Assertion)
assumed_at k text = option_map (λ (c : Check). c.assumptions) (check_of k text)

-- how much each of the first five checks of a script asks about, with what it assumes
abbrev pub counts : List ℕ → List (Option ℕ)
counts text = map (λ k. count_at k text) (1 ∷ 2 ∷ 3 ∷ 4 ∷ 5 ∷ [])

-- what is left after a script
abbrev pub left_by : List ℕ → Stack
left_by text = stack_after empty_stack (trees_in text)

-- the constant q of sort Bool
abbrev pub q : Term
q = constant_term (constant (codes "q") Truth)

-- a literal is assumed by its text, with the term that it is read as
pub literals : assumed_at 1 (codes "(declare-const p Bool)(check-sat-assuming (p (not p) |p|))")
    ≡ Some (record { text = atom 43 Simple (codes "p"); term = p }
    ∷ record {
      text = list 45 (more (atom 46 Simple (codes "not")) (more (atom 50 Simple (codes "p")) none)) 51;
      term = negated p;
    } ∷ record { text = atom 53 Quoted (codes "p"); term = p } ∷ [])
unfolding commands_on_literals
literals = refl

-- of a name that is defined, also by an annotation, the term is what the name stands for; bars change nothing
pub defined_names : asked_at 1
    (codes "(declare-const p Bool)(declare-const q Bool)(define-fun g () Bool (and p q))"
    ++ codes "(assert (! (not q) :named n))(check-sat-assuming (g (not n) (|not| g)))")
    ≡ Some (negated q ∷ pair And p q ∷ negated (negated q) ∷ negated (pair And p q) ∷ [])
unfolding commands_on_literals
defined_names = refl

-- what is assumed comes after what is asserted, and a literal may be assumed twice, or be asserted too
pub after_assertions : asked_at 1
    (codes "(declare-const p Bool)(declare-const q Bool)(assert p)(push)(assert q)"
    ++ codes "(check-sat-assuming ((not q) p (not q)))(assert (not p))")
    ≡ Some (p ∷ q ∷ negated q ∷ p ∷ negated q ∷ [])
unfolding commands_on_literals
after_assertions = refl

-- a check may assume nothing
pub nothing_assumed : assumed_at 1 (codes "(assert true)(check-sat-assuming ())") ≡ Some []
unfolding commands_on_literals
nothing_assumed = refl

-- assumptions count for their check alone: those after it have none of them
pub for_one_check : counts
    (codes "(declare-const p Bool)(assert p)(check-sat-assuming ((not p)))(check-sat)(check-sat-assuming (p p))"
    ++ codes "(check-sat-assuming ())(check-sat)") ≡ Some 2 ∷ Some 1 ∷ Some 3 ∷ Some 1 ∷ Some 1 ∷ []
unfolding commands_on_literals
for_one_check = refl

-- no level keeps them, whether it is opened before the check or after it, or closed
pub not_kept_by_levels : counts
    (codes "(declare-const p Bool)(push)(check-sat-assuming (p))(push)(assert p)(check-sat)(pop)(check-sat)"
    ++ codes "(check-sat-assuming (p (not p)))(pop)(check-sat)") ≡ Some 1 ∷ Some 1 ∷ Some 0 ∷ Some 2 ∷ Some 0 ∷ []
unfolding commands_on_literals
not_kept_by_levels = refl

-- so what such a check leaves is what `check-sat` leaves
pub leaves_as_check_sat : left_by (codes "(declare-const p Bool)(push)(check-sat-assuming (p (not p)))")
    ≡ left_by (codes "(declare-const p Bool)(push)(check-sat)")
unfolding commands_on_literals stack_after
leaves_as_check_sat = refl

-- a symbol that is not known, at the symbol; names of closed levels are not known
pub unknown_symbols : faults (
    codes "(declare-const p Bool)(push)(declare-const q Bool)(check-sat-assuming (q))(pop)" ∷
    codes "(check-sat-assuming (zz))" ∷
    codes "(check-sat-assuming ((not zz)))" ∷
    codes "(check-sat-assuming (p (not p) |a b|))" ∷
    codes "(check-sat-assuming (p q))" ∷
    codes "(check-sat-assuming (Bool))" ∷ []) ≡ (2, 22, UnknownSymbol) ∷ (3, 27, UnknownSymbol)
    ∷ (4, 32, UnknownSymbol) ∷ (5, 24, UnknownSymbol) ∷ (6, 22, UnknownSymbol) ∷ []
unfolding commands_on_literals faults_after
unknown_symbols = refl

-- an item that is no symbol and no negated one, at the item
pub other_items : faults (
    codes "(declare-const p Bool)(declare-const q Bool)" ∷
    codes "(check-sat-assuming (5))" ∷
    codes "(check-sat-assuming (0.5))" ∷
    codes "(check-sat-assuming (\"p\"))" ∷
    codes "(check-sat-assuming (:p))" ∷
    codes "(check-sat-assuming (let))" ∷
    codes "(check-sat-assuming ((not let)))" ∷
    codes "(check-sat-assuming (()))" ∷
    codes "(check-sat-assuming ((not)))" ∷
    codes "(check-sat-assuming ((p)))" ∷
    codes "(check-sat-assuming (p (and p q)))" ∷
    codes "(check-sat-assuming (p (not (not p))))" ∷
    codes "(check-sat-assuming (p (not p q)))" ∷
    codes "(check-sat-assuming (p (= p q)))" ∷
    codes "(check-sat-assuming (p (! p :named n)))" ∷
    codes "(check-sat-assuming (p (not 5)))" ∷ []) ≡ (2, 22, NotLiteral) ∷ (3, 22, NotLiteral) ∷ (4, 22, NotLiteral)
    ∷ (5, 22, NotLiteral) ∷ (6, 22, NotLiteral) ∷ (7, 22, NotLiteral) ∷ (8, 22, NotLiteral) ∷ (9, 22, NotLiteral)
    ∷ (10, 22, NotLiteral) ∷ (11, 24, NotLiteral) ∷ (12, 24, NotLiteral) ∷ (13, 24, NotLiteral)
    ∷ (14, 24, NotLiteral) ∷ (15, 24, NotLiteral) ∷ (16, 24, NotLiteral) ∷ []
unfolding commands_on_literals faults_after
other_items = refl

-- a name of a theory, one with parameters or one of another sort, at the item
pub other_names : faults (
    codes "(declare-const p Bool)(declare-fun f (Bool) Bool)(define-fun g ((x Bool)) Bool x)" ∷
    codes "(declare-const x Real)(declare-sort U 0)(declare-const u U)(define-fun y () Real 1)" ∷
    codes "(check-sat-assuming (true))" ∷
    codes "(check-sat-assuming ((not false)))" ∷
    codes "(check-sat-assuming (and))" ∷
    codes "(check-sat-assuming (p f))" ∷
    codes "(check-sat-assuming ((not f)))" ∷
    codes "(check-sat-assuming (g))" ∷
    codes "(check-sat-assuming (x))" ∷
    codes "(check-sat-assuming ((not x)))" ∷
    codes "(check-sat-assuming (u))" ∷
    codes "(check-sat-assuming (p y))" ∷
    codes "(define-fun n () Bool (f p))(check-sat-assuming (n (not n) p))" ∷ []) ≡ (3, 22, NotLiteral)
    ∷ (4, 22, NotLiteral) ∷ (5, 22, NotLiteral) ∷ (6, 24, NotLiteral) ∷ (7, 22, NotLiteral) ∷ (8, 22, NotLiteral)
    ∷ (9, 22, NotLiteral) ∷ (10, 22, NotLiteral) ∷ (11, 22, NotLiteral) ∷ (12, 24, NotLiteral) ∷ []
unfolding commands_on_literals faults_after
other_names = refl

-- the command's own shape comes before any literal, and literals are looked at from left to right; what is no literal
-- is not looked into
pub order_of_literals : faults (
    codes "(declare-const p Bool)" ∷
    codes "(check-sat-assuming)" ∷
    codes "(check-sat-assuming p)" ∷
    codes "(check-sat-assuming (zz) p)" ∷
    codes "(check-sat-assuming (5) (p))" ∷
    codes "(check-sat-assuming 5 (zz))" ∷
    codes "(|check-sat-assuming| (p))" ∷
    codes "(check-sat-assuming (p 5 zz))" ∷
    codes "(check-sat-assuming (p zz 5))" ∷
    codes "(check-sat-assuming ((and zz yy) zz))" ∷
    codes "(check-sat-assuming ((not zz) (not yy)))" ∷ []) ≡ (2, 1, BadShape) ∷ (3, 1, BadShape) ∷ (4, 1, BadShape)
    ∷ (5, 1, BadShape) ∷ (6, 1, BadShape) ∷ (7, 2, UnknownCommand) ∷ (8, 24, NotLiteral) ∷ (9, 24, UnknownSymbol)
    ∷ (10, 22, NotLiteral) ∷ (11, 27, UnknownSymbol) ∷ []
unfolding commands_on_literals faults_after
order_of_literals = refl

-- all literals of a command count together, each different subterm once, and after all other faults; what is asserted
-- does not count with them
pub full_literals : faults_within 4 (
    codes "(declare-const p Bool)(declare-const q Bool)(declare-const r Bool)(define-fun g () Bool (or p q r))" ∷
    codes "(assert (not r))(check-sat-assuming (p q (not q) (not p) p q))(check-sat-assuming (g p q r))" ∷
    codes "(check-sat-assuming (p q (not q) (not p) r))" ∷
    codes "(check-sat-assuming ((not p) g))" ∷
    codes "(check-sat-assuming ((not p) g zz))" ∷
    codes "(check-sat-assuming ((not p) g true))" ∷ []) ≡ (3, 1, Full) ∷ (4, 1, Full) ∷ (5, 32, UnknownSymbol)
    ∷ (6, 32, NotLiteral) ∷ []
unfolding commands_on_literals faults_after
full_literals = refl

-- a refused one is no check, and the one after it assumes its own literals alone
pub refused_is_no_check : counts
    (codes "(declare-const p Bool)(assert p)(check-sat-assuming (p zz))(check-sat-assuming)(check-sat-assuming (p))"
    ++ codes "(check-sat-assuming (p (p)))(check-sat)(check-sat-assuming (true))") ≡ Some 2 ∷ Some 1 ∷ None ∷ None
    ∷ None ∷ []
unfolding commands_on_literals
refused_is_no_check = refl

-- and it changes nothing
pub refused_changes_nothing : left_by (codes "(check-sat-assuming (p))(set-logic ALL)(check-sat-assuming (p))")
    ≡ left_by (codes "(set-logic ALL)")
unfolding commands_on_literals stack_after
refused_changes_nothing = refl

-- one that is taken ends the start, and one that is refused does not
pub ends_the_start : faults (
    codes "(check-sat-assuming (p))(set-logic ALL)(reset)" ∷
    codes "(check-sat-assuming ())(set-logic ALL)" ∷ []) ≡ (1, 22, UnknownSymbol) ∷ (2, 24, WrongMode) ∷ []
unfolding commands_on_literals faults_after
ends_the_start = refl
