-- Texts that are one list of definitions, or not, with the verdicts on them at the check of `plain_script`.
use Rattle.std.specs.Prelude.{◌≡◌, refl, ℕ, true, List, [], ◌∷◌, length, Option, Some, None, codes}
use Rattle.std.proofs.Common.{inl, inr}
use Rattle.spec_text.specs.declared.Fault.TheVariants as faults
use Rattle.spec_text.specs.Faults.{first_fault}
use Rattle.spec_text.specs.Lexemes.{opens, closes, lexemes, first_piece}
use Rattle.spec_text.specs.Readings.{is_long, IsReadUpTo}
use Rattle.spec_text.specs.Trees.{Trees, list, none}
use Rattle.spec_text.proofs.Parsing.{close_begins_no_tree}
use Rattle.spec_text.proofs.Stopping.{nothing_begins_no_tree}
use Rattle.spec_sorts.specs.Written.{built, trees_in}
use Rattle.spec_sorts.specs.Signatures.{is_some}
use Rattle.spec_commands.specs.Stack.{empty_stack, signature_of}
use Rattle.spec_commands.specs.Checks.{Check, current_at, term_limit, IsCurrent}
use Rattle.spec_proofs.specs.Texts.{complete, broken, left_over}
use Rattle.spec_proofs.specs.Examples.{in_one_list}
use Rattle.spec_model_files.specs.declared.ModelKind.TheVariants.{Lexical, BadShape}
use Rattle.spec_model_files.specs.Faults.{ModelFault, model_fault}
use Rattle.spec_model_files.specs.Texts.{ModelEnding, ends, no_list, model_lexemes, IsModelText, ending_fault}
use Rattle.spec_model_files.specs.Verdicts.{read_to_end, judged, no_such_check, IsModelVerdict}
use Rattle.spec_model_files.specs.Examples.{check_or_none, definitions_of, plain_script}
use Rattle.spec_model_files.specs.OnLiterals.{models_on_literals}

-- the script is read to its end
plain_script_is_read : IsReadUpTo plain_script (trees_in plain_script) None
unfolding lexemes first_piece built
plain_script_is_read = record {
  rest = [];
  trees = refl;
  stop = None;
  stops = refl;
  is = refl;
}

-- its check
abbrev pub the_check : Check
the_check = check_or_none (current_at term_limit empty_stack 1 (trees_in plain_script))

-- a check that is there
there : (o : Option Check) → is_some o ≡ true → o ≡ Some (check_or_none o)
there (Some c) e = refl
there None e = cc

-- and it is there
one_check : is_some (current_at term_limit empty_stack 1 (trees_in plain_script)) ≡ true
unfolding models_on_literals
one_check = refl

-- so it is the script's
plain_script_is_current : IsCurrent term_limit plain_script 1 the_check
plain_script_is_current = record {
  commands = trees_in plain_script;
  end = None;
  read = plain_script_is_read;
  here = there (current_at term_limit empty_stack 1 (trees_in plain_script)) one_check;
}

-- what the verdict is on definitions with an ending
abbrev verdict_on : List ℕ → Trees → ModelEnding → Option ModelFault
verdict_on model ts e = judged the_check
    (read_to_end (signature_of the_check.stack) (ending_fault (length model) (is_long model) e) ts)

-- a verdict by what the text is
by_text : (model : List ℕ) (ts : Trees) (e : ModelEnding) (found : Option ModelFault) → IsModelText model ts e
    → found ≡ verdict_on model ts e → IsModelVerdict plain_script 1 model found
by_text model ts e found read is = inl (
  the_check,
  plain_script_is_current,
  record {
    answer = read_to_end (signature_of the_check.stack) (ending_fault (length model) (is_long model) e) ts;
    reading = record { definitions = ts; ending = e; read = read; is = refl };
    is = is;
  },
)

-- nothing
pub nothing_there : IsModelVerdict plain_script 1 [] (Some (model_fault 0 BadShape))
unfolding models_on_literals
nothing_there = by_text [] none no_list _ (refl, refl) refl

-- the word alone
pub word_alone : IsModelVerdict plain_script 1 (codes "sat") (Some (model_fault 3 BadShape))
unfolding models_on_literals
word_alone = by_text (codes "sat") none no_list _ (refl, refl) refl

-- another word in place of the list
pub other_word : IsModelVerdict plain_script 1 (codes "unsat ()") (Some (model_fault 0 BadShape))
unfolding models_on_literals
other_word = by_text (codes "unsat ()") none (ends (left_over 0)) _ (refl, refl) refl

-- an atom behind the word
pub atom_there : IsModelVerdict plain_script 1 (codes "sat unknown ()") (Some (model_fault 4 BadShape))
unfolding models_on_literals
atom_there = by_text (codes "sat unknown ()") none (ends (left_over 4)) _ (refl, refl) refl

-- the word, a comment, and one list
abbrev pub listed : List ℕ
listed = codes "sat ; of x\n(\n  (define-fun x () Real (- 1))\n)\n"

-- its definition is read
listed_is_read : IsModelText listed (definitions_of listed) (ends complete)
unfolding lexemes first_piece built
listed_is_read = (
  complete,
  in_one_list (length listed) 11 44 (model_lexemes listed) (definitions_of listed) refl,
  refl,
)

-- and valid
pub listed_verdict : IsModelVerdict plain_script 1 listed None
unfolding models_on_literals
listed_verdict = by_text listed (definitions_of listed) (ends complete) None listed_is_read refl

-- a list does not end with the text
pub list_open : IsModelVerdict plain_script 1 (codes "(") (Some (model_fault 1 (Lexical faults.UnclosedList)))
unfolding models_on_literals first_fault
list_open = by_text (codes "(") none (ends (broken (record { offset = 1; fault = faults.UnclosedList }))) _ (
  broken (record { offset = 1; fault = faults.UnclosedList }),
  (
    0,
    [],
    [],
    refl,
    refl,
    inr (
      record { offset = 1; fault = faults.UnclosedList },
      record { fault = refl; no_end = λ at ys e. cc; no_tree = nothing_begins_no_tree },
      refl,
    ),
  ),
  refl,
) refl

-- a parenthesis closes nothing
pub list_closed : IsModelVerdict plain_script 1 (codes "sat )") (Some (model_fault 4 (Lexical faults.StrayClose)))
unfolding models_on_literals first_fault
list_closed = by_text (codes "sat )") none (ends (broken (record { offset = 4; fault = faults.StrayClose }))) _ (
  refl,
  record { offset = 4; fault = faults.StrayClose },
  record { fault = refl; no_end = λ at ys e. refl; no_tree = close_begins_no_tree 4 [] },
  refl,
) refl

-- one list more
pub two_lists : IsModelVerdict plain_script 1 (codes "() ()") (Some (model_fault 3 BadShape))
unfolding models_on_literals
two_lists = by_text (codes "() ()") none (ends (left_over 3)) _ (
  left_over 3,
  (
    0,
    (1, closes) ∷ (3, opens) ∷ (4, closes) ∷ [],
    (1, closes) ∷ (3, opens) ∷ (4, closes) ∷ [],
    refl,
    refl,
    inl (
      1,
      (3, opens) ∷ (4, closes) ∷ [],
      refl,
      (list 3 none 4, [], refl, refl),
    ),
  ),
  refl,
) refl

-- a script without a check
abbrev pub without_check : List ℕ
without_check = codes "(declare-const x Real)"

-- has no verdict but that
pub no_check : IsModelVerdict without_check 1 (codes "(((((") (Some no_such_check)
unfolding models_on_literals
no_check = inr (
  record {
    commands = trees_in without_check;
    end = None;
    read = record {
      rest = [];
      trees = refl;
      stop = None;
      stops = refl;
      is = refl;
    };
    none_here = refl;
  },
  refl,
)
