-- The lines of a printed proof, and their text: definitions of terms, assumes and steps, each by its number, in one
-- list. Source: Alethe specification, commands; which terms get a name, and what the names are, is own.
use Rattle.std.specs.Prelude.{ℕ, suc, Bool, true, false, List, [], ◌∷◌, ◌++◌, map, flat_map, codes, max}
use Rattle.spec_text.specs.declared.Kind.TheVariants.{Keyword}
use Rattle.spec_text.specs.Bytes.{Name}
use Rattle.spec_text.specs.Trees.{Tree, Trees, atom, list, none, more}
use Rattle.spec_text.specs.Printed.{printed}
use Rattle.spec_numbers.specs.Fractions.{Fraction}
use Rattle.spec_sorts.specs.Terms.{Sort, Head}
use Rattle.spec_sorts.specs.HeadNames.{head_name}
use Rattle.spec_proofs.specs.declared.Rule.{Rule}
use Rattle.spec_proofs.specs.RuleNames.{rule_name}
use Rattle.spec_models.specs.Values.{numeral, in_list, word_tree, reserved_tree, symbol_tree, sort_tree}
use Rattle.spec_proof_texts.specs.Decimals.{literal_tree}

mutual
  -- A term as it is printed.
  pub data Argument : Type 0 where
    -- a truth value
    truth : Bool → Argument
    -- a number
    number : Fraction → Argument
    -- a declared symbol without parameters, by its name
    symbol : Name → Argument
    -- the term that is defined under a number
    defined : ℕ → Argument
    -- a head before its arguments, in place
    applied : Head → Arguments → Argument

  -- Printed terms, one after the other.
  pub data Arguments : Type 0 where
    -- no term
    no_items : Arguments
    -- a term before others
    item : Argument → Arguments → Arguments

-- the list of printed terms, in their order
abbrev pub items_of : Arguments → List Argument
items_of no_items = []
items_of (item a others) = a ∷ items_of others

-- how many heads stand in place, one inside the other
abbrev mutual
  -- in a term
  pub levels : Argument → ℕ
  levels (applied h items) = suc (most_levels items)
  levels (truth b) = 0
  levels (number q) = 0
  levels (symbol n) = 0
  levels (defined n) = 0

  -- at the most in one of some terms
  pub most_levels : Arguments → ℕ
  most_levels no_items = 0
  most_levels (item a others) = max (levels a) (most_levels others)

-- how many heads may stand in place, one inside the other
abbrev pub level_limit : ℕ
level_limit = 8

-- how many terms may be in place in one proof, so that all of them have room where it is read
abbrev pub place_limit : ℕ
place_limit = 900000

-- A premise as it is printed.
pub data Reference : Type 0 where
  -- the assume of a number, and the step of a number
  assumed stepped : ℕ → Reference

-- The definition of a term.
pub record DefinitionLine : Type 0 where
  -- its number
  pub number : ℕ
  -- the sort of the term
  pub sort : Sort
  -- the term's head
  pub head : Head
  -- the arguments, in their order
  pub arguments : List Argument

-- A step.
pub record StepLine : Type 0 where
  -- its number
  pub number : ℕ
  -- the literals of its clause, in their order
  pub literals : List Argument
  -- its rule
  pub rule : Rule
  -- its premises, in their order
  pub premises : List Reference
  -- the texts of the rule's arguments, in their order
  pub arguments : Trees

-- A line of a proof.
pub data Line : Type 0 where
  -- a definition of a term
  defines : DefinitionLine → Line
  -- an assume by its number, and the term
  assumes : ℕ → Argument → Line
  -- a step
  steps : StepLine → Line

-- what a truth value is called
abbrev pub truth_name : Bool → Name
truth_name true = codes "true"
truth_name false = codes "false"

-- the name of a definition: @p1 and so on
abbrev pub defined_name : ℕ → Name
defined_name n = codes "@p" ++ numeral n

-- the name of an assume: h1 and so on
abbrev pub assume_name : ℕ → Name
assume_name n = codes "h" ++ numeral n

-- the name of a step: t1 and so on
abbrev pub step_name : ℕ → Name
step_name n = codes "t" ++ numeral n

-- the name of a premise
abbrev pub reference_name : Reference → Name
reference_name (assumed n) = assume_name n
reference_name (stepped n) = step_name n

-- a keyword by its name
abbrev pub keyword_tree : Name → Tree
keyword_tree n = atom 0 Keyword n

abbrev mutual
  -- a printed term
  pub argument_tree : Argument → Tree
  argument_tree (truth b) = word_tree (truth_name b)
  argument_tree (number q) = literal_tree q
  argument_tree (symbol n) = symbol_tree n
  argument_tree (defined n) = word_tree (defined_name n)
  argument_tree (applied h items) = list 0 (more (symbol_tree (head_name h)) (argument_trees items)) 0

  -- printed terms, one after the other
  pub argument_trees : Arguments → Trees
  argument_trees no_items = none
  argument_trees (item a others) = more (argument_tree a) (argument_trees others)

-- a premise
abbrev pub reference_tree : Reference → Tree
reference_tree p = word_tree (reference_name p)

-- `:premises (p ..)`, where there are any
abbrev pub premise_trees : List Reference → List Tree
premise_trees [] = []
premise_trees (p ∷ ps) = keyword_tree (codes "premises") ∷ in_list (map reference_tree (p ∷ ps)) ∷ []

-- `:args (a ..)`, where there are any
abbrev pub given_trees : Trees → List Tree
given_trees none = []
given_trees (more t ts) = keyword_tree (codes "args") ∷ list 0 (more t ts) 0 ∷ []

-- a head before its arguments
abbrev pub term_tree : DefinitionLine → Tree
term_tree d = in_list (symbol_tree (head_name d.head) ∷ map argument_tree d.arguments)

-- the definition of a term
abbrev pub definition_tree : DefinitionLine → Tree
definition_tree d = in_list (reserved_tree (codes "define-fun") ∷ word_tree (defined_name d.number) ∷ in_list []
    ∷ sort_tree d.sort ∷ term_tree d ∷ [])

-- a clause by its literals
abbrev pub clause_tree : List Argument → Tree
clause_tree items = in_list (word_tree (codes "cl") ∷ map argument_tree items)

-- a step
abbrev pub step_tree : StepLine → Tree
step_tree s =
    in_list (word_tree (codes "step") ∷ word_tree (step_name s.number) ∷ clause_tree s.literals
    ∷ keyword_tree (codes "rule") ∷ word_tree (rule_name s.rule) ∷ premise_trees s.premises
    ++ given_trees s.arguments)

-- a line
abbrev pub line_tree : Line → Tree
line_tree (defines d) = definition_tree d
line_tree (assumes n a) = in_list (word_tree (codes "assume") ∷ word_tree (assume_name n) ∷ argument_tree a ∷ [])
line_tree (steps s) = step_tree s

-- a line's text, with the line feed that ends it
abbrev pub line_text : Line → List ℕ
line_text l = printed (line_tree l) ++ 10 ∷ []

-- a proof's text: its lines, between one that opens the list and one that closes it
abbrev pub proof_text : List Line → List ℕ
proof_text lines = codes "(\n" ++ flat_map line_text lines ++ codes ")\n"
