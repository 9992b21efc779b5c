-- The eight disjunctions of three constants or their negations, of which no truths make all true, and the clause that a
-- search learns first. Terms, with their base clauses.
use Rattle.std.specs.Prelude.{Bool, true, false, List, [], ◌∷◌, codes}
use Rattle.spec_text.specs.Trees.{none}
use Rattle.spec_sorts.specs.Terms.{Or, Ite, Equal, Apply, Truth, Number, Symbol, Term, of, negated}
use Rattle.spec_sorts.specs.Literals.{Clause}
use Rattle.spec_proofs.specs.declared.Rule.TheVariants as rules
use Rattle.spec_rules.specs.Schemes.{signed_term}
use Rattle.spec_rules.specs.Examples.{p, q, r, a, b, x, y, less_a_b}
use Rattle.spec_derivations.specs.Problems.{Problem}
use Rattle.spec_derivations.specs.Derivations.{Derivation, assumption, by_rule}

-- terms that are asserted, with others besides them
abbrev pub speaking : List Term → List Term → Problem
speaking ts bs = record { asserted = ts; assumed = []; interface = bs }

-- without others
abbrev pub asserting : List Term → Problem
asserting ts = speaking ts []

-- the disjunction of the constants, each as it is or negated
abbrev pub one_of : Bool → Bool → Bool → Term
one_of i j k = of Or (signed_term i p ∷ signed_term j q ∷ signed_term k r ∷ [])

-- all eight
abbrev pub eight : List Term
eight = one_of true true true ∷ one_of true true false ∷ one_of true false true ∷ one_of true false false
    ∷ one_of false true true ∷ one_of false true false ∷ one_of false false true ∷ one_of false false false ∷ []

-- p and q decided: not both
abbrev pub not_both : Clause
not_both = signed_term false p ∷ signed_term false q ∷ []

-- a derivation of it: two of the eight, the clauses of their arguments, and what these resolve to
abbrev pub not_both_derived : Derivation
not_both_derived =
    assumption (one_of false false true) ∷
    assumption (one_of false false false) ∷
    by_rule rules.Or (0 ∷ []) none (signed_term false p ∷ signed_term false q ∷ signed_term true r ∷ []) ∷
    by_rule rules.Or (1 ∷ []) none (signed_term false p ∷ signed_term false q ∷ signed_term false r ∷ []) ∷
    by_rule rules.Resolution (2 ∷ 3 ∷ []) none not_both ∷ []

-- a disjunction of which one argument is a negation
abbrev pub p_or_not_q : Term
p_or_not_q = of Or (p ∷ negated q ∷ [])

-- a choice
abbrev pub p_then_q_else_r : Term
p_then_q_else_r = of Ite (p ∷ q ∷ r ∷ [])

-- three negations
abbrev pub not_not_not_p : Term
not_not_not_p = negated (negated (negated p))

-- a comparison of numbers, or an equality of terms of a declared sort
abbrev pub same : Term
same = of Equal (x ∷ y ∷ [])

abbrev pub below_or_same : Term
below_or_same = of Or (less_a_b ∷ same ∷ [])

-- an equality of numbers, one of them chosen by a disjunction
abbrev pub chosen : Term
chosen = of Ite (p_or_not_q ∷ a ∷ b ∷ [])

abbrev pub equals_chosen : Term
equals_chosen = of Equal (a ∷ chosen ∷ [])

-- a function from truth values to numbers, at a disjunction
abbrev pub from_truth : Symbol
from_truth = record { name = codes "f"; parameters = Truth ∷ []; result = Number }

abbrev pub of_disjunction : Term
of_disjunction = of Equal (of (Apply from_truth) (p_or_not_q ∷ []) ∷ a ∷ [])
