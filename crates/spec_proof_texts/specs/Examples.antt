-- Refutations as they are printed, and what their lines say.
use Rattle.std.specs.Prelude.{◌++◌, ◌≡◌, refl, ℕ, ◌+◌, Bool, pos, negsuc, true, false, List, [], ◌∷◌, map, codes}
use Rattle.spec_text.specs.declared.Kind.TheVariants.{Numeral}
use Rattle.spec_text.specs.Trees.{atom, none, more}
use Rattle.spec_text.specs.Printed.{printed_all}
use Rattle.spec_numbers.specs.Fractions.{Fraction}
use Rattle.spec_sorts.specs.Terms.{Truth, Number, Declared, Symbol, True, Not, And, Or, Equal, Ite, Plus, Literal}
use Rattle.spec_sorts.specs.Terms.{Apply, Term, of, constant, constant_term, negated, sort_of, same_term}
use Rattle.spec_sorts.specs.Subsets.{arguments_of}
use Rattle.spec_proofs.specs.declared.Rule.TheVariants as rules
use Rattle.spec_rules.specs.Examples.{p}
use Rattle.spec_derivations.specs.Derivations.{Derivation, «assumption», by_rule}
use Rattle.spec_models.specs.Values.{trees_of, numeral}
use Rattle.spec_proof_texts.specs.Decimals.{places, has_decimal, literal_text, literal_tree}
use Rattle.spec_proof_texts.specs.Lines.{Line, truth, symbol, applied, no_items, item, assumed, assumes, steps}
use Rattle.spec_proof_texts.specs.Lines.{line_text, proof_text}
use Rattle.spec_proof_texts.specs.Meaning.{Told}
use Rattle.spec_proof_texts.specs.Plans.{Plan, lines_of, counted, counted_inferences, times_among, times_in_clauses}
use Rattle.spec_proof_texts.specs.Plans.{times_in_terms, height_of, height_over, greatest_height, definition_marks}

-- the proof of `contradiction`: p and its negation are assumed
abbrev pub refutation : List Line
refutation =
    assumes 1 (symbol (codes "p")) ∷
    assumes 2 (applied Not (item (symbol (codes "p")) no_items)) ∷
    steps (record {
      number = 1;
      literals = [];
      rule = rules.Resolution;
      premises = assumed 1 ∷ assumed 2 ∷ [];
      arguments = none;
    }) ∷ []

-- its text
pub refutation_text : proof_text refutation
    ≡ (codes "(\n(assume h1 p)\n(assume h2 (not p))\n(step t1 (cl) "
    ++ codes ":rule resolution :premises (h1 h2))\n)\n")
unfolding numeral
refutation_text = refl

-- what the lines of the refutation make known
abbrev pub refutation_told : Told
refutation_told = record {
  terms = [];
  assumes = (p ∷ []) ∷ (negated p ∷ []) ∷ [];
  steps = [] ∷ [];
  placed = negated p ∷ [];
}

-- what a search may have found: the disjunction of p and q, which `q p` stands for here, is opened, and something is
-- stated that nothing depends on
abbrev pub q_p : Term
q_p = constant_term (constant (codes "q p") Truth)

-- the terms of a table, each after its arguments
abbrev pub table : List Term
table = p ∷ q_p ∷ of Or (p ∷ q_p ∷ []) ∷ negated p ∷ of True [] ∷ negated (negated p)
    ∷ of And (of Or (p ∷ q_p ∷ []) ∷ negated p ∷ of True [] ∷ []) ∷ []

-- inferences, by their numbers
abbrev pub derivation : Derivation
derivation =
    «assumption» (of And (of Or (p ∷ q_p ∷ []) ∷ negated p ∷ of True [] ∷ [])) ∷
    by_rule rules.NotNot [] none (negated (negated (negated p)) ∷ p ∷ []) ∷
    by_rule rules.And (0 ∷ []) none (of Or (p ∷ q_p ∷ []) ∷ []) ∷
    by_rule rules.True [] none (of True [] ∷ []) ∷
    by_rule rules.Or (2 ∷ []) none (p ∷ q_p ∷ []) ∷
    by_rule rules.Weakening (4 ∷ []) none (p ∷ q_p ∷ of True [] ∷ []) ∷ []

-- which inferences are printed: all that the last one depends on
abbrev pub support : List Bool
support = true ∷ false ∷ true ∷ false ∷ true ∷ true ∷ []

-- which terms are printed for them
abbrev pub needed : List Bool
needed = true ∷ true ∷ true ∷ true ∷ true ∷ false ∷ true ∷ []

-- how often each of the terms is used: the disjunction is an argument and a literal, its negation is not
pub uses_of_terms : map (λ t. times_in_clauses support derivation t + times_in_terms needed table t) table
    ≡ 4 ∷ 3 ∷ 2 ∷ 1 ∷ 2 ∷ 0 ∷ 1 ∷ []
unfolding same_term
uses_of_terms = refl

-- a term that is an argument twice is used twice
pub both_arguments : times_among (arguments_of (of Equal (p ∷ p ∷ []))) p ≡ 2
unfolding same_term
both_arguments = refl

-- a term is one deeper than its deepest argument in place, up to the limit; what is too deep is defined, and is a word
-- where it is an argument
pub heights_of_terms : map (λ n. height_over true n 0) (0 ∷ 1 ∷ 7 ∷ 8 ∷ []) ≡ 1 ∷ 2 ∷ 8 ∷ 0 ∷ []
heights_of_terms = refl

-- the negation is in place, and the conjunction over it
pub heights_of_the_table : map (greatest_height (height_of table (0 ∷ 0 ∷ 0 ∷ 1 ∷ 0 ∷ 0 ∷ 2 ∷ [])))
    (map arguments_of table) ≡ 0 ∷ 0 ∷ 0 ∷ 0 ∷ 0 ∷ 1 ∷ 1 ∷ []
unfolding same_term
heights_of_the_table = refl

-- which terms are defined: those with arguments that are printed, and not in place
pub defined_of_the_table : definition_marks table needed (0 ∷ 0 ∷ 0 ∷ 1 ∷ 0 ∷ 0 ∷ 2 ∷ [])
    ≡ false ∷ false ∷ true ∷ false ∷ false ∷ false ∷ false ∷ []
defined_of_the_table = refl

-- the plan of the last but for the one that nothing depends on
abbrev pub plan : Plan
plan = record {
  terms = counted 1 (false ∷ false ∷ true ∷ false ∷ false ∷ false ∷ false ∷ []);
  inferences = counted_inferences 1 1 support derivation;
}

-- a name that needs bars has them, and a step without premises has no such keyword
pub lines_of_a_derivation : proof_text (lines_of table derivation plan)
    ≡ (codes "(\n(define-fun @p1 () Bool (or p |q p|))\n(assume h1 (and @p1 (not p) true))\n(step t1 (cl @p1) "
    ++ codes ":rule and :premises (h1))\n(step t2 (cl p |q p|) :rule or :premises (t1))\n"
    ++ codes "(step t3 (cl p |q p| true) :rule weakening :premises (t2))\n)\n")
unfolding numeral same_term sort_of
lines_of_a_derivation = refl

-- a step without premises has no such keyword, and one with arguments has these last
pub steps_by_their_parts : line_text (steps (record {
  number = 12;
  literals = truth true ∷ [];
  rule = rules.True;
  premises = [];
  arguments = more (atom 0 Numeral (codes "1")) (more (atom 0 Numeral (codes "2")) none);
}))
    ≡ codes "(step t12 (cl true) :rule true :args (1 2))\n"
unfolding numeral
steps_by_their_parts = refl

-- a fraction by its parts
abbrev pub over : ℕ → ℕ → Fraction
over n d = record { num = pos n; den = d }

-- numbers, a function of numbers, and constants of a declared sort with a reserved word for a name
abbrev pub half : Term
half = of (Literal (over 1 2)) []

abbrev pub one_and_a_quarter : Term
one_and_a_quarter = of (Literal (over 5 4)) []

abbrev pub f : Symbol
f = record { name = codes "f"; parameters = Number ∷ Number ∷ []; result = Declared (codes "let") }

abbrev pub a : Term
a = constant_term (constant (codes "a") (Declared (codes "let")))

-- the sum of the numbers; the function before a number and the sum; a choice of that; and a comparison
abbrev pub sum : Term
sum = of Plus (half ∷ one_and_a_quarter ∷ half ∷ [])

abbrev pub f_of_sum : Term
f_of_sum = of (Apply f) (of (Literal (over 20 1)) [] ∷ sum ∷ [])

abbrev pub chosen : Term
chosen = of Ite (p ∷ a ∷ f_of_sum ∷ [])

abbrev pub equals : Term
equals = of Equal (a ∷ chosen ∷ [])

-- the terms of a table, and an inference that has them all
abbrev pub sorted_table : List Term
sorted_table = half ∷ one_and_a_quarter ∷ of (Literal (over 20 1)) [] ∷ p ∷ a ∷ sum ∷ f_of_sum ∷ chosen ∷ equals ∷ []

abbrev pub sorted_derivation : Derivation
sorted_derivation = «assumption» equals ∷ []

abbrev pub sorted_plan : Plan
sorted_plan = record {
  terms = counted 1 (false ∷ false ∷ false ∷ false ∷ false ∷ true ∷ true ∷ true ∷ true ∷ []);
  inferences = counted_inferences 1 1 (true ∷ []) sorted_derivation;
}

-- each definition has its term's sort, and a number is a numeral or the shortest decimal
pub terms_of_other_sorts : proof_text (lines_of sorted_table sorted_derivation sorted_plan)
    ≡ (codes "(\n(define-fun @p1 () Real (+ 0.5 1.25 0.5))\n(define-fun @p2 () |let| (f 20 @p1))\n"
    ++ codes "(define-fun @p3 () |let| (ite p a @p2))\n(define-fun @p4 () Bool (= a @p3))\n"
    ++ codes "(assume h1 @p4)\n)\n")
unfolding numeral same_term sort_of places has_decimal literal_text
terms_of_other_sorts = refl

-- where none has a number, all are in place, one inside the other
pub terms_in_place : proof_text (lines_of sorted_table sorted_derivation (record {
  terms = [];
  inferences = counted_inferences 1 1 (true ∷ []) sorted_derivation;
})) ≡ codes "(\n(assume h1 (= a (ite p a (f 20 (+ 0.5 1.25 0.5)))))\n)\n"
unfolding numeral same_term places has_decimal literal_text
terms_in_place = refl

-- numbers in place, of which the last two have no decimal
pub numbers_in_place : printed_all
    (trees_of (map literal_tree (over 0 1 ∷ over 12 1 ∷ over 1 40 ∷ over 1 3 ∷ record { num = negsuc 0; den = 2 }
    ∷ []))) ≡ codes "0 12 0.025 (/ 1 3) (/ (- 1) 2)"
unfolding numeral places has_decimal literal_text
numbers_in_place = refl
