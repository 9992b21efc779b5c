-- Scripts with what is current at their checks: the terms of assertions, their names and levels.
use Rattle.std.specs.Prelude.{◌≡◌, refl, ℕ, Bool, true, false, ◌&&◌, List, [], ◌∷◌, ◌++◌, length, map, Option, Some}
use Rattle.std.specs.Prelude.{None, option_map, Ok, Err, codes}
use Rattle.spec_text.specs.Bytes.{Name}
use Rattle.spec_text.specs.Answers.{Answer}
use Rattle.spec_text.specs.Trees.{Trees, none, more}
use Rattle.spec_sorts.specs.Written.{trees_in}
use Rattle.spec_sorts.specs.Terms.{Term, same_term}
use Rattle.spec_sorts.specs.Signatures.{Declaration, of_sort, of_function, known_name}
use Rattle.spec_commands.specs.Stack.{ScopedDeclaration, Options, Stack, Taken, empty_stack, assertions_of}
use Rattle.spec_commands.specs.Stack.{terms_asserted, step}
use Rattle.spec_commands.specs.Checks.{Check, asked, current_at}
use Rattle.spec_commands.specs.OnLiterals.{commands_on_literals}

-- the k-th check of a script
abbrev pub check_of : ℕ → List ℕ → Option Check
check_of k text = current_at 100 empty_stack k (trees_in text)

-- the terms that the k-th check of a script asks about
abbrev pub asked_at : ℕ → List ℕ → Option (List Term)
asked_at k text = option_map (λ (c : Check). terms_asserted (asked c)) (check_of k text)

-- how many of them there are
abbrev pub count_at : ℕ → List ℕ → Option ℕ
count_at k text = option_map (λ (c : Check). length (asked c)) (check_of k text)

-- the name of a declaration
abbrev pub name_of : Declaration → Name
name_of (of_sort n s) = n
name_of (of_function k) = known_name k

-- a declaration's level, and its name
abbrev pub name_with_level : ScopedDeclaration → Option ℕ × Name
name_with_level e = (e.level, name_of e.declaration)

-- the names at the k-th check of a script, each with its level
abbrev pub names_at : ℕ → List ℕ → Option (List (Option ℕ × Name))
names_at k text = option_map (λ (c : Check). map name_with_level c.stack.names) (check_of k text)

-- the options at the k-th check of a script
abbrev pub options_at : ℕ → List ℕ → Option Options
options_at k text = option_map (λ (c : Check). c.stack.options) (check_of k text)

-- declarations, before an assertion of a term of sort Bool and a check
abbrev pub with_truth : List ℕ → List ℕ
with_truth t = (codes "(declare-const p Bool)(declare-const q Bool)(declare-const r Bool)"
    ++ codes "(define-fun g ((z Bool)) Bool (not z))(define-fun two ((y Bool) (z Bool)) Bool (=> y z))"
    ++ codes "(assert ") ++ t ++ codes ")(check-sat)"

-- the terms that are read of two texts are the same, and there are such
abbrev pub reads_as : List ℕ → List ℕ → Type 0
reads_as t u = (asked_at 1 (with_truth t) ≡ asked_at 1 (with_truth u)) × (count_at 1 (with_truth t) ≡ Some 1)

-- what commands leave, of which those that are refused change nothing
unfoldable pub stack_after : Stack → Trees → Stack
stack_after s none = s
stack_after s (more t ts) = stack_after (kept s (step 100 s t)) ts
  where
    kept : Stack → Answer Taken → Stack
    kept s (Ok d) = d.stack
    kept s (Err e) = s

-- the terms that are asserted of numbers
abbrev pub number_terms : List ℕ → List Term
number_terms t = terms_asserted
    (assertions_of (stack_after empty_stack
    (trees_in (codes "(declare-const x Real)(declare-const y Real)(define-fun half ((z Real)) Real (/ z 2))(assert "
    ++ t ++ codes ")"))))

-- the terms of two lists are the same
abbrev pub same_lists : List Term → List Term → Bool
same_lists [] [] = true
same_lists (t ∷ ts) (u ∷ us) = same_term t u && same_lists ts us
same_lists ts us = false

-- the terms that are asserted of two texts are the same
abbrev pub same_terms_of : List ℕ → List ℕ → Bool
same_terms_of t u = same_lists (number_terms t) (number_terms u)

-- a chain is the conjunction of its neighbours
pub chain : reads_as (codes "(= p q r)") (codes "(and (= p q) (= q r))")
unfolding commands_on_literals
chain = (refl, refl)

-- `distinct` is the conjunction of all pairs, first with second, first with third
pub distinct_of_three : reads_as (codes "(distinct p q r)") (codes "(and (not (= p q)) (not (= p r)) (not (= q r)))")
unfolding commands_on_literals
distinct_of_three = (refl, refl)

-- and of two the negated equality
pub distinct_of_two : reads_as (codes "(distinct p q)") (codes "(not (= p q))")
unfolding commands_on_literals
distinct_of_two = (refl, refl)

-- `xor` goes to the left
pub xor_of_three : reads_as (codes "(xor p q r)") (codes "(xor (xor p q) r)")
unfolding commands_on_literals
xor_of_three = (refl, refl)

-- `=>` goes to the right
pub implies_of_three : reads_as (codes "(=> p q r)") (codes "(=> p (=> q r))")
unfolding commands_on_literals
implies_of_three = (refl, refl)

-- a definition is read as its term with the arguments for its parameters
pub definition : reads_as (codes "(two (g p) (g (g q)))") (codes "(=> (not p) (not (not q)))")
unfolding commands_on_literals
definition = (refl, refl)

-- bindings bind in parallel, and are replaced
pub let_in_parallel : reads_as (codes "(let ((p q) (q p)) (let ((r p)) (and p q r)))") (codes "(and q p q)")
unfolding commands_on_literals
let_in_parallel = (refl, refl)

-- a bound name hides a defined one, and none is bound in its own list
pub let_hides_definition : reads_as (codes "(let ((two (two p q)) (r p)) (and two r))") (codes "(and (=> p q) p)")
unfolding commands_on_literals
let_hides_definition = (refl, refl)

-- annotations are dropped, and their names stand for the term
pub annotations : reads_as (codes "(! (and (! p :named n) n (! q :weight 3)) :a)") (codes "(and p p q)")
unfolding commands_on_literals
annotations = (refl, refl)

-- bars change nothing
pub quoted : reads_as (codes "(|and| |p| q)") (codes "(and p q)")
unfolding commands_on_literals
quoted = (refl, refl)

-- `>` and `>=` are `<` and `<=` turned, pair by pair in a chain
pub more_than : number_terms (codes "(and (> x y) (>= x y 0))")
    ≡ number_terms (codes "(and (< y x) (and (<= y x) (<= 0 y)))")
unfolding commands_on_literals stack_after
more_than = refl

-- a chain of `<` is the conjunction of its neighbours
pub less_chain : number_terms (codes "(< x y 1)") ≡ number_terms (codes "(and (< x y) (< y 1))")
unfolding commands_on_literals stack_after
less_chain = refl

-- `-` and `/` go to the left
pub minus_and_over : number_terms (codes "(= (- x y 1) (/ x 2 3))")
    ≡ number_terms (codes "(= (- (- x y) 1) (/ (/ x 2) 3))")
unfolding commands_on_literals stack_after
minus_and_over = refl

-- literals of one value are one term
pub literals : number_terms (codes "(= 0 (+ 0.50 1.0))") ≡ number_terms (codes "(= 0.0 (+ 0.5 1))")
unfolding commands_on_literals stack_after
literals = refl

-- a definition over numbers is read as its term
pub macro : number_terms (codes "(< (half (+ x 1)) y)") ≡ number_terms (codes "(< (/ (+ x 1) 2) y)")
unfolding commands_on_literals stack_after
macro = refl

-- one argument of `and` is kept, and so is the order of an equality; 0.5 is no quotient
pub kept_apart : same_terms_of (codes "(and (< x y))") (codes "(< x y)")
    ∷ same_terms_of (codes "(= x y)") (codes "(= y x)") ∷ same_terms_of (codes "(= x 0.5)") (codes "(= x (/ 1 2))")
    ∷ same_terms_of (codes "(< x y)") (codes "(> y x)") ∷ [] ≡ false ∷ false ∷ false ∷ true ∷ []
unfolding commands_on_literals stack_after
kept_apart = refl

-- the first check asks about what is asserted before it
pub first_of_two : count_at 1 (codes "(declare-const p Bool)(assert p)(check-sat)(assert (not p))(check-sat)(assert p)")
    ≡ Some 1
unfolding commands_on_literals
first_of_two = refl

-- the second about all that is asserted before it
pub second_of_two : count_at 2
    (codes "(declare-const p Bool)(assert p)(check-sat)(assert (not p))(check-sat)(assert p)") ≡ Some 2
unfolding commands_on_literals
second_of_two = refl

-- there is no third
pub no_third : count_at 3 (codes "(declare-const p Bool)(assert p)(check-sat)(assert (not p))(check-sat)(assert p)")
    ≡ None
unfolding commands_on_literals
no_third = refl

-- a check over numbers is one, and asks about all that is asserted before it
pub check_of_numbers_is_one : count_at 1
    (codes "(declare-const x Real)(declare-const p Bool)(assert p)(assert (< x 1))(check-sat)") ≡ Some 2
unfolding commands_on_literals
check_of_numbers_is_one = refl

-- and is counted: it is the second after the one before it
pub check_of_numbers_is_counted : count_at 2 (codes "(declare-const x Real)(check-sat)(assert (< x 1))(check-sat)")
    ≡ Some 1
unfolding commands_on_literals
check_of_numbers_is_counted = refl

-- what follows `exit` is not looked at
pub exit_ends : count_at 1 (codes "(exit)(check-sat)") ≡ None
unfolding commands_on_literals
exit_ends = refl

-- an `exit` of another shape ends nothing
pub misshapen_exit : count_at 1 (codes "(exit 1)(check-sat)") ≡ Some 0
unfolding commands_on_literals
misshapen_exit = refl

-- names are in the order of their declaration: those of annotations before the definition that has them, and none of a
-- refused command
pub names_in_order : names_at 1
    (codes "(declare-sort U 0)(declare-const p Bool)(define-sort V () U)"
    ++ codes "(assert (! (and (! p :named n) n) :named m))(assert (and (! p :named k) zz))"
    ++ codes "(define-fun f ((x V)) Bool (! p :named j))(check-sat)")
    ≡ Some ((Some 0, codes "U") ∷ (Some 0, codes "p") ∷ (Some 0, codes "V") ∷ (Some 0, codes "n")
    ∷ (Some 0, codes "m") ∷ (Some 0, codes "j") ∷ (Some 0, codes "f") ∷ [])
unfolding commands_on_literals
names_in_order = refl

-- a name belongs to the level at which it is declared, and so do those of annotations
pub names_with_levels : names_at 1
    (codes "(declare-const p Bool)(push 2)(declare-const q Bool)(define-fun f () Bool (! q :named n))(push)"
    ++ codes "(declare-sort U 0)(assert (! p :named m))(check-sat)")
    ≡ Some ((Some 0, codes "p") ∷ (Some 2, codes "q") ∷ (Some 2, codes "n") ∷ (Some 2, codes "f")
    ∷ (Some 3, codes "U") ∷ (Some 3, codes "m") ∷ [])
unfolding commands_on_literals
names_with_levels = refl

-- names of closed levels can be declared again, with another sort too
pub names_go_with_levels : names_at 1
    (codes "(declare-const p Bool)(push 1)(declare-sort U 0)(declare-const c Bool)(push 1)(declare-const d U)(pop 2)"
    ++ codes "(declare-const c Real)(push)(declare-fun d (Real) Real)(define-sort U () Real)(check-sat)")
    ≡ (Some ((Some 0, codes "p") ∷ (Some 0, codes "c") ∷ (Some 1, codes "d") ∷ (Some 1, codes "U") ∷ []))
unfolding commands_on_literals
names_go_with_levels = refl

-- and so do assertions of closed levels; those below them stay
pub assertions_go_with_levels : map (λ k. count_at k
    (codes "(declare-const p Bool)(assert p)(push 2)(assert p)(assert p)(check-sat)(push)(assert p)(check-sat)(pop 0)"
    ++ codes "(check-sat)(pop 2)(check-sat)(assert p)(pop)(check-sat)")) (1 ∷ 2 ∷ 3 ∷ 4 ∷ 5 ∷ [])
    ≡ Some 3 ∷ Some 4 ∷ Some 4 ∷ Some 1 ∷ Some 1 ∷ []
unfolding commands_on_literals
assertions_go_with_levels = refl

-- `reset-assertions` takes back what is declared and asserted, at all levels
pub assertions_reset : names_at 1
    (codes "(declare-const p Bool)(assert p)(push 2)(declare-sort U 0)(reset-assertions)(declare-sort p 0)(check-sat)")
    ≡ Some ((Some 0, codes "p") ∷ [])
unfolding commands_on_literals
assertions_reset = refl

-- so nothing is current after it
pub nothing_after_reset : count_at 1 (codes "(assert true)(push)(assert true)(reset-assertions)(check-sat)") ≡ Some 0
unfolding commands_on_literals
nothing_after_reset = refl

-- options that are known are set, and others change nothing
pub options_are_set : options_at 1
    (codes "(set-option :print-success false)(set-option :produce-models true)(set-option :other 5)"
    ++ codes "(set-option :produce-proofs 5)(set-option :produce-unsat-cores true)(check-sat)")
    ≡ Some (record {
      print_success = false;
      models = true;
      proofs = false;
      assertions = false;
      unsat_cores = true;
      unsat_assumptions = false;
      global_declarations = false;
    })
unfolding commands_on_literals
options_are_set = refl

-- they stay when levels are closed and assertions taken back
pub options_stay : options_at 1
    (codes "(push)(set-option :produce-models true)(pop)(set-option :print-success false)(reset-assertions)"
    ++ codes "(set-option :produce-unsat-assumptions true)(check-sat)")
    ≡ Some (record {
      print_success = false;
      models = true;
      proofs = false;
      assertions = false;
      unsat_cores = false;
      unsat_assumptions = true;
      global_declarations = false;
    })
unfolding commands_on_literals
options_stay = refl

-- and `reset` gives back those of the start
pub options_reset : options_at 1
    (codes "(set-option :print-success false)(set-option :produce-models true)(declare-const p Bool)(reset)"
    ++ codes "(set-option :produce-proofs true)(check-sat)")
    ≡ Some (record {
      print_success = true;
      models = false;
      proofs = true;
      assertions = false;
      unsat_cores = false;
      unsat_assumptions = false;
      global_declarations = false;
    })
unfolding commands_on_literals
options_reset = refl
