-- How long the text of lines is, at the least: what its definitions take, and its long numbers.
use Rattle.std.proofs.Common.{◌≡◌, ℕ, ◌+◌, ◌*◌, Bool, true, false, cond, List, [], ◌∷◌, ◌++◌, length, map, refl, length-append, arith}
use Rattle.std.specs.Prelude.{◌≤◌, codes, flat_map}
use Rattle.std.proofs.lemmas.Bool.Decides.{nat_tests}
use Rattle.spec_text.specs.Trees.{Tree, Trees, none, more}
use Rattle.spec_text.specs.Printed.{printed, printed_all}
use Rattle.spec_numbers.specs.Fractions.{Fraction}
use Rattle.spec_proofs.specs.RuleNames.{rule_name}
use Rattle.spec_models.specs.Values.{trees_of, in_list, word_tree, reserved_tree, symbol_tree, sort_tree}
use Rattle.spec_sorts.specs.HeadNames.{head_name}
use Rattle.spec_proof_texts.specs.Decimals.{literal_tree}
use Rattle.spec_proof_texts.specs.Lines.{Argument, Arguments, truth, number, symbol, defined, applied, no_items, item, DefinitionLine, StepLine, Line, defines, assumes, steps, defined_name, assume_name, step_name, keyword_tree, argument_tree, argument_trees, premise_trees, given_trees, term_tree, definition_tree, clause_tree, step_tree, line_tree, line_text, proof_text}
use Rattle.spec_proof_texts.proofs.Known.{number_term, is_long_number, number_terms_in, number_terms_within, number_terms, numbers_among, numbers_in, definitions_in}

listed_size : (ts : List Tree) → length (printed (in_list ts)) ≡ length (printed_all (trees_of ts)) + 2
listed_size ts = omega (arith, length-append (printed_all (trees_of ts)) (41 ∷ []))

more_size : (t u : Tree) (us : Trees) → length (printed_all (more t (more u us))) ≡ length (printed t) + 1 + length (printed_all (more u us))
more_size t u us = omega (arith, length-append (printed t) (32 ∷ printed_all (more u us)))

-- a long number has six bytes, and one before it
number_size : (b : Bool) (q : Fraction) → is_long_number q ≡ b → 7 * length (cond b (number_term q ∷ []) []) ≤ 1 + length (printed (literal_tree q))
number_size true q e = let long : 6 ≤ length (printed (literal_tree q)) = grind (arith, nat_tests, e) in omega (arith, long)
number_size false q e = omega arith

mutual
  argument_size : (a : Argument) → 7 * length (number_terms_in a) ≤ 1 + length (printed (argument_tree a))
  argument_size (number q) = number_size (is_long_number q) q refl
  argument_size (truth b) = omega arith
  argument_size (symbol n) = omega arith
  argument_size (defined n) = omega arith
  argument_size (applied h items) =
      let t = symbol_tree (head_name h) in
      omega (arith, length-append (printed_all (more t (argument_trees items))) (41 ∷ []), within_size t items)

  -- terms behind a tree
  within_size : (t : Tree) (items : Arguments) → length (printed t) + 7 * length (number_terms_within items) ≤ length (printed_all (more t (argument_trees items)))
  within_size t no_items = omega arith
  within_size t (item a others) =
      omega (arith, more_size t (argument_tree a) (argument_trees others), length-append (number_terms_in a) (number_terms_within others), argument_size a, within_size (argument_tree a) others)

-- and a list of them
arguments_size : (t : Tree) (items : List Argument) → length (printed t) + 7 * numbers_among items ≤ length (printed_all (more t (trees_of (map argument_tree items))))
arguments_size t [] = omega arith
arguments_size t (a ∷ items) = omega (arith, more_size t (argument_tree a) (trees_of (map argument_tree items)), length-append (number_terms_in a) (number_terms items), argument_size a, arguments_size (argument_tree a) items)

-- a definition has 23 bytes at least, and those of its numbers
definition_size : (d : DefinitionLine) → 23 + 7 * numbers_among d.arguments ≤ length (line_text (defines d))
definition_size d =
    let keyword = reserved_tree (codes "define-fun") in
    let name = word_tree (defined_name d.number) in
    let sort = sort_tree d.sort in
    let term = term_tree d in
    omega (
      arith,
      length-append (printed (definition_tree d)) (10 ∷ []),
      listed_size (keyword ∷ name ∷ in_list [] ∷ sort ∷ term ∷ []),
      more_size keyword name (trees_of (in_list [] ∷ sort ∷ term ∷ [])),
      more_size name (in_list []) (trees_of (sort ∷ term ∷ [])),
      more_size (in_list []) sort (trees_of (term ∷ [])),
      more_size sort term none,
      listed_size (symbol_tree (head_name d.head) ∷ map argument_tree d.arguments),
      arguments_size (symbol_tree (head_name d.head)) d.arguments,
    )

assume_size : (n : ℕ) (a : Argument) → 7 * numbers_among (a ∷ []) ≤ length (line_text (assumes n a))
assume_size n a =
    let keyword = word_tree (codes "assume") in
    let name = word_tree (assume_name n) in
    omega (
      arith,
      length-append (printed (line_tree (assumes n a))) (10 ∷ []),
      listed_size (keyword ∷ name ∷ argument_tree a ∷ []),
      more_size keyword name (trees_of (argument_tree a ∷ [])),
      arguments_size name (a ∷ []),
    )

step_size : (s : StepLine) → 7 * numbers_among s.literals ≤ length (line_text (steps s))
step_size s =
    let keyword = word_tree (codes "step") in
    let name = word_tree (step_name s.number) in
    let clause = clause_tree s.literals in
    let others : List Tree = word_tree (rule_name s.rule) ∷ premise_trees s.premises ++ given_trees s.arguments in
    omega (
      arith,
      length-append (printed (step_tree s)) (10 ∷ []),
      listed_size (keyword ∷ name ∷ clause ∷ keyword_tree (codes "rule") ∷ others),
      more_size keyword name (trees_of (clause ∷ keyword_tree (codes "rule") ∷ others)),
      more_size name clause (trees_of (keyword_tree (codes "rule") ∷ others)),
      more_size clause (keyword_tree (codes "rule")) (trees_of others),
      listed_size (word_tree (codes "cl") ∷ map argument_tree s.literals),
      arguments_size (word_tree (codes "cl")) s.literals,
    )

line_size : (l : Line) → 7 * numbers_in (l ∷ []) + 23 * definitions_in (l ∷ []) ≤ length (line_text l)
line_size (defines d) = omega (arith, definition_size d)
line_size (assumes n a) = omega (arith, assume_size n a)
line_size (steps s) = omega (arith, step_size s)

pub definitions_more : (l : Line) (ls : List Line) → definitions_in (l ∷ ls) ≡ definitions_in (l ∷ []) + definitions_in ls
definitions_more (defines d) ls = omega arith
definitions_more (assumes n a) ls = omega arith
definitions_more (steps s) ls = omega arith

pub numbers_more : (l : Line) (ls : List Line) → numbers_in (l ∷ ls) ≡ numbers_in (l ∷ []) + numbers_in ls
numbers_more (defines d) ls = omega arith
numbers_more (assumes n a) ls = omega arith
numbers_more (steps s) ls = omega arith

lines_size : (lines : List Line) → 7 * numbers_in lines + 23 * definitions_in lines ≤ length (flat_map line_text lines)
lines_size [] = omega arith
lines_size (l ∷ ls) = omega (arith, lines_size ls, length-append (line_text l) (flat_map line_text ls), line_size l, definitions_more l ls, numbers_more l ls)

pub text_size : (lines : List Line) → 7 * numbers_in lines + 23 * definitions_in lines ≤ length (proof_text lines)
text_size lines = omega (arith, lines_size lines, length-append (flat_map line_text lines) (codes ")\n"))
