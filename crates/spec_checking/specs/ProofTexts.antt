-- Texts of proofs for the check of `contradiction`, with the commands that they are, and the places of their faults.
use Rattle.std.specs.Prelude.{◌++◌, ◌≡◌, refl, ℕ, pos, true, List, [], ◌∷◌, length, Option, Some, None, Err, codes}
use Rattle.spec_text.specs.declared.Fault.TheVariants as faults
use Rattle.spec_text.specs.Lexemes.{lexemes, first_piece}
use Rattle.spec_text.specs.Places.{line_of, column_of}
use Rattle.spec_text.specs.Trees.{Trees, atom, list, none, more}
use Rattle.spec_text.specs.declared.Kind.TheVariants.{Simple, Numeral}
use Rattle.spec_text.specs.Readings.{kept, IsReadUpTo}
use Rattle.spec_sorts.specs.Terms.{Truth, Number, And, Or, Less, Literal, Parameter, Term, of, pair, negated, constant}
use Rattle.spec_sorts.specs.Terms.{constant_term}
use Rattle.spec_sorts.specs.Written.{built, trees_in}
use Rattle.spec_sorts.specs.Signatures.{is_some}
use Rattle.spec_commands.specs.Stack.{empty_stack}
use Rattle.spec_commands.specs.Checks.{Check, current_at, term_limit, IsCurrent, HasNoCheck}
use Rattle.spec_rules.specs.Examples.{p}
use Rattle.spec_proofs.specs.declared.Rule.TheVariants as rules
use Rattle.spec_proofs.specs.declared.ProofKind.TheVariants.{UnknownPremise, Term as in_term}
use Rattle.spec_proofs.specs.Faults.{fault_at}
use Rattle.spec_proofs.specs.Texts.{complete, proof_lexemes, IsProofText}
use Rattle.spec_proofs.specs.Examples.{in_one_list}
use Rattle.spec_checking.specs.Commands.{Statement, assumed, stepped, nothing, Command}
use Rattle.spec_checking.specs.Good.{commands_in}
use Rattle.spec_checking.specs.Examples.{Commands, contradiction, check_or_none, the_check, known, read_commands}
use Rattle.spec_checking.specs.OnLiterals.{proofs_on_literals}

-- the script is read to its end
pub contradiction_is_read : IsReadUpTo contradiction (trees_in contradiction) None
unfolding lexemes first_piece built
contradiction_is_read = record {
  rest = [];
  trees = refl;
  stop = None;
  stops = refl;
  is = refl;
}

-- a check that is there
there : (o : Option Check) → is_some o ≡ true → o ≡ Some (check_or_none o)
there (Some c) e = refl
there None e = cc

one_check : is_some (current_at term_limit empty_stack 1 (trees_in contradiction)) ≡ true
unfolding proofs_on_literals
one_check = refl

-- and has one check
pub contradiction_is_current : IsCurrent term_limit contradiction 1 the_check
contradiction_is_current = record {
  commands = trees_in contradiction;
  end = None;
  read = contradiction_is_read;
  here = there (current_at term_limit empty_stack 1 (trees_in contradiction)) one_check;
}

pub contradiction_has_one_check : HasNoCheck term_limit contradiction 2
unfolding proofs_on_literals
contradiction_has_one_check = record {
  commands = trees_in contradiction;
  end = None;
  read = contradiction_is_read;
  none_here = refl;
}

-- what it asserts
pub asserted_there : known.asserted ≡ p ∷ negated p ∷ []
unfolding proofs_on_literals
asserted_there = refl

-- what is in the first list
abbrev pub first_items : Trees → Trees
first_items none = none
first_items (more (atom at k n) ts) = first_items ts
first_items (more (list at us end) ts) = us

-- the offset's place
abbrev pub IsAt : List ℕ → ℕ → ℕ → ℕ → Type 0
IsAt text offset line column = (line_of text offset ≡ line) × (column_of text offset ≡ column)

-- what a proof's trees are read as
abbrev pub read_as : Trees → Commands
read_as ts = read_commands (Some term_limit) known ts

-- a command that makes no definitions
abbrev pub plain_command : Statement → Command
plain_command s = record { made = []; statement = s }

-- (assume h1 p) and (assume h2 (not p)), by the offsets of their terms
abbrev pub first_assume : ℕ → Command
first_assume at = plain_command (assumed at (codes "h1") p)

abbrev pub second_assume : ℕ → Command
second_assume at = plain_command (assumed at (codes "h2") (negated p))

-- the empty clause from both, under the name t1, by the offset of the step
abbrev pub empty_step : ℕ → Command
empty_step at = plain_command (stepped (record {
  at = at;
  name = codes "t1";
  clause = [];
  rule = rules.Resolution;
  premises = (p ∷ []) ∷ (negated p ∷ []) ∷ [];
  arguments = none;
}))

-- two assumptions and their resolvent
abbrev pub refutation : List ℕ
refutation = codes "(assume h1 p)\n(assume h2 (not p))\n(step t1 (cl) :rule resolution :premises (h1 h2))\n"

pub refutation_is_read : IsProofText refutation (trees_in refutation) complete
unfolding lexemes first_piece built
refutation_is_read = ([], refl, refl)

pub refutation_commands : read_as (trees_in refutation)
    ≡ (first_assume 11 ∷ second_assume 25 ∷ empty_step 34 ∷ [], None)
unfolding proofs_on_literals read_commands
refutation_commands = refl

-- its second assume has two subterms, and there are four names: within a limit of three there is no room for these
pub refutation_has_no_room : commands_in (Some 3) known (trees_in refutation) ≡ Err (fault_at 0 (in_term faults.Full))
unfolding proofs_on_literals commands_in
refutation_has_no_room = refl

-- the same in one list, after the word `unsat`
abbrev pub listed_proof : List ℕ
listed_proof = codes "unsat\n((assume h1 p)\n(assume h2 (not p))\n(step t1 (cl) :rule resolution :premises (h1 h2)))\n"

pub listed_is_read : IsProofText listed_proof (first_items (trees_in listed_proof)) complete
unfolding lexemes first_piece built
listed_is_read = in_one_list (length (kept listed_proof)) 6 90 (proof_lexemes listed_proof)
    (first_items (trees_in listed_proof)) refl

pub listed_commands : read_as (first_items (trees_in listed_proof))
    ≡ (first_assume 18 ∷ second_assume 32 ∷ empty_step 41 ∷ [], None)
unfolding proofs_on_literals read_commands
listed_commands = refl

-- (< 0.5 x)
abbrev pub half_below : Term
half_below = pair Less (of (Literal (record { num = pos 1; den = 2 })) []) (constant_term (constant (codes "x") Number))

-- a definition with a parameter, a number, and `let`; arguments of a rule without any are passed over
abbrev pub with_numbers : List ℕ
with_numbers = (codes "(define-fun @less ((a Real)) Bool (< a x))\n(assume h1 p)\n(assume h2 (let ((q p)) "
    ++ codes "(not q)))\n(step t0 (cl (or p (@less 0.50)) (not (< 0.5 x))) :rule or_neg :args (1))\n"
    ++ codes "(step t1 (cl) :rule resolution :premises (h1 h2))\n")

pub with_numbers_is_read : IsProofText with_numbers (trees_in with_numbers) complete
unfolding lexemes first_piece built
with_numbers_is_read = ([], refl, refl)

-- the commands before the last one: a definition, two assumptions, and a step
abbrev pub less_defined : Command
less_defined = record {
  made = record {
    name = codes "@less";
    parameters = (codes "a", Number) ∷ [];
    result = Truth;
    body = list 34 (more (atom 35 Simple (codes "<"))
        (more (atom 37 Simple (codes "a")) (more (atom 39 Simple (codes "x")) none))) 40;
    term = pair Less (of (Parameter 0 Number) []) (constant_term (constant (codes "x") Number));
  } ∷ [];
  statement = nothing 0;
}

abbrev pub or_step : Command
or_step = plain_command (stepped (record {
  at = 91;
  name = codes "t0";
  clause = of Or (p ∷ half_below ∷ [])
      ∷ negated half_below ∷ [];
  rule = rules.OrNeg;
  premises = [];
  arguments =
      more (atom 161 Numeral (codes "1")) none;
}))

pub with_numbers_commands : read_as (trees_in with_numbers)
    ≡ (less_defined ∷ first_assume 54 ∷ second_assume 68 ∷ or_step ∷ empty_step 165 ∷ [], None)
unfolding proofs_on_literals read_commands
with_numbers_commands = refl

-- no earlier command is h9
abbrev pub unknown_premise : List ℕ
unknown_premise = codes "(assume h1 p)\n(assume h2 (not p))\n(step t1 (cl) :rule resolution :premises (h1 h9))\n"

pub unknown_premise_is_read : IsProofText unknown_premise (trees_in unknown_premise) complete
unfolding lexemes first_piece built
unknown_premise_is_read = ([], refl, refl)

pub unknown_premise_commands : read_as (trees_in unknown_premise)
    ≡ (first_assume 11 ∷ second_assume 25 ∷ [], Some (fault_at 79 UnknownPremise))
unfolding proofs_on_literals read_commands
unknown_premise_commands = refl

pub unknown_premise_place : IsAt unknown_premise 79 3 46
unknown_premise_place = (refl, refl)

-- no product of two numbers that are not constant is taken
abbrev pub not_linear : List ℕ
not_linear = codes "(assume h1 p)\n(assume h2 (< (* x x) 1))\n"

pub not_linear_is_read : IsProofText not_linear (trees_in not_linear) complete
unfolding lexemes first_piece built
not_linear_is_read = ([], refl, refl)

pub not_linear_commands : read_as (trees_in not_linear)
    ≡ (first_assume 11 ∷ [], Some (fault_at 28 (in_term faults.NotLinear)))
unfolding proofs_on_literals read_commands
not_linear_commands = refl

pub not_linear_place : IsAt not_linear 28 2 15
not_linear_place = (refl, refl)

-- a premise is missing
abbrev pub one_premise : List ℕ
one_premise = codes "(assume h1 p)\n(assume h2 (not p))\n(step t1 (cl) :rule resolution :premises (h1))\n"

pub one_premise_is_read : IsProofText one_premise (trees_in one_premise) complete
unfolding lexemes first_piece built
one_premise_is_read = ([], refl, refl)

pub one_premise_commands : read_as (trees_in one_premise)
    ≡ (
      first_assume 11 ∷ second_assume 25
          ∷ plain_command (stepped (record {
            at = 34;
            name = codes "t1";
            clause = [];
            rule = rules.Resolution;
            premises = (p ∷ []) ∷ [];
            arguments = none;
          })) ∷ [],
      None,
    )
unfolding proofs_on_literals read_commands
one_premise_commands = refl

pub one_premise_place : IsAt one_premise 34 3 1
one_premise_place = (refl, refl)

-- contraction may not drop a literal
abbrev pub dropped_literal : List ℕ
dropped_literal = codes "(assume h1 p)\n(step t1 (cl) :rule contraction :premises (h1))\n"

pub dropped_literal_is_read : IsProofText dropped_literal (trees_in dropped_literal) complete
unfolding lexemes first_piece built
dropped_literal_is_read = ([], refl, refl)

pub dropped_literal_commands : read_as (trees_in dropped_literal)
    ≡ (
      first_assume 11 ∷ plain_command
          (stepped (record {
            at = 14;
            name = codes "t1";
            clause = [];
            rule = rules.Contraction;
            premises = (p ∷ []) ∷ [];
            arguments = none;
          })) ∷ [],
      None,
    )
unfolding proofs_on_literals read_commands
dropped_literal_commands = refl

pub dropped_literal_place : IsAt dropped_literal 14 2 1
dropped_literal_place = (refl, refl)

-- no assertion is the conjunction that the definition gives
abbrev pub not_asserted : List ℕ
not_asserted = codes "(assume h1 p)\n(assume h2 (both p p))\n"

pub not_asserted_is_read : IsProofText not_asserted (trees_in not_asserted) complete
unfolding lexemes first_piece built
not_asserted_is_read = ([], refl, refl)

pub not_asserted_commands : read_as (trees_in not_asserted)
    ≡ (first_assume 11 ∷ plain_command (assumed 25 (codes "h2") (of And (p ∷ p ∷ []))) ∷ [], None)
unfolding proofs_on_literals read_commands
not_asserted_commands = refl

pub not_asserted_place : IsAt not_asserted 25 2 12
not_asserted_place = (refl, refl)

-- no clause is empty
abbrev pub assumption : List ℕ
assumption = codes "(assume h1 p)\n"

pub assumption_is_read : IsProofText assumption (trees_in assumption) complete
unfolding lexemes first_piece built
assumption_is_read = ([], refl, refl)

pub assumption_commands : read_as (trees_in assumption) ≡ (first_assume 11 ∷ [], None)
unfolding proofs_on_literals read_commands
assumption_commands = refl

pub assumption_place : IsAt assumption 14 2 1
assumption_place = (refl, refl)

-- a proof does not go on after its list
abbrev pub behind_list : List ℕ
behind_list = codes "((assume h1 p))\n(assume h2 (not p))"

pub behind_list_commands : read_as (first_items (trees_in behind_list)) ≡ (first_assume 12 ∷ [], None)
unfolding proofs_on_literals read_commands
behind_list_commands = refl

pub behind_list_place : IsAt behind_list 16 2 1
behind_list_place = (refl, refl)

-- the second command does not end
abbrev pub unclosed : List ℕ
unclosed = codes "(assume h1 p)\n(step t1 (cl"

pub unclosed_place : IsAt unclosed 26 2 13
unclosed_place = (refl, refl)
