-- The rules of linear arithmetic over the reals, each by what it asks of a step. Source: Alethe specification, rules of
-- linear arithmetic.
use Rattle.std.specs.Prelude.{◌≡◌, List, [], ◌∷◌, Ok, Err, codes}
use Rattle.spec_text.specs.Bytes.{Name}
use Rattle.spec_text.specs.Trees.{Trees}
use Rattle.spec_numbers.specs.Bounds.{Overflow}
use Rattle.spec_sorts.specs.Terms.{Number, Or, Equal, AtMost, Term, of, pair, negated, sort_of}
use Rattle.spec_sorts.specs.Literals.{Clause}
use Rattle.spec_arithmetic.specs.declared.ArithmeticRule.{ArithmeticRule}
use Rattle.spec_arithmetic.specs.declared.ArithmeticRule.TheVariants as rules
use Rattle.spec_arithmetic.specs.Contradictions.{wide, la_generic}
use Rattle.spec_arithmetic.specs.Coefficients.{coefficients_of}

-- one number is at most another
abbrev pub at_most : Term → Term → Term
at_most s t = pair AtMost s t

-- numbers are equal, or one of them is not at most the other: (or (= s t) (not (<= s t)) (not (<= t s)))
abbrev pub split : Term → Term → Term
split s t = of Or (pair Equal s t ∷ negated (at_most s t) ∷ negated (at_most t s) ∷ [])

-- one of two numbers is at most the other: (or (<= s t) (<= t s))
abbrev pub order : Term → Term → Term
order s t = of Or (at_most s t ∷ at_most t s ∷ [])

-- a clause of one literal, which two terms of sort Real give
abbrev pub IsOfNumbers : (Term → Term → Term) → Clause → Type 0
IsOfNumbers gives clause = (s : Term) × (t : Term) × (sort_of s ≡ Number) × (sort_of t ≡ Number)
    × (clause ≡ gives s t ∷ [])

-- the step is right by the rule; none has premises, and one alone has arguments
abbrev pub IsArithmetic : ArithmeticRule → List Clause → Trees → Clause → Type 0
IsArithmetic rules.LaGeneric [] arguments clause = la_generic clause (coefficients_of arguments) ≡ Ok tt
IsArithmetic rules.LaDisequality [] arguments clause = IsOfNumbers split clause
IsArithmetic rules.LaTotality [] arguments clause = IsOfNumbers order clause
IsArithmetic rule premises arguments clause = ⊥

-- an operation by which the step is tested leaves 128 bits
abbrev pub IsWideArithmetic : ArithmeticRule → List Clause → Trees → Clause → Type 0
IsWideArithmetic rules.LaGeneric [] arguments clause = (w : Overflow)
    × (la_generic clause (coefficients_of arguments) ≡ Err (wide w))
IsWideArithmetic rule premises arguments clause = ⊥

-- the name of a rule
abbrev pub arithmetic_name : ArithmeticRule → Name
arithmetic_name rules.LaGeneric = codes "la_generic"
arithmetic_name rules.LaDisequality = codes "la_disequality"
arithmetic_name rules.LaTotality = codes "la_totality"
