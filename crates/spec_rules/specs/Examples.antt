-- Steps, with the one rule of the table that takes them, or that none does.
use Rattle.std.specs.Prelude.{◌≡◌, Bool, true, false, List, [], ◌∷◌, Some, codes}
use Rattle.spec_text.specs.Bytes.{Name}
use Rattle.spec_text.specs.Trees.{Trees}
use Rattle.spec_sorts.specs.Terms.{Truth, Number, Declared, And, Or, Xor, Implies, Equal, Ite, Less, Term, of, constant}
use Rattle.spec_sorts.specs.Terms.{constant_term}
use Rattle.spec_sorts.specs.Literals.{Clause}
use Rattle.spec_proofs.specs.declared.Rule.{Rule}
use Rattle.spec_rules.specs.Schemes.{Kind, states, turns, kind_of}
use Rattle.spec_proofs.specs.RuleNames.{rule_named}
use Rattle.spec_rules.specs.Rules.{IsRight}

-- the clauses of such a rule are those of a scheme
abbrev pub has_scheme : Kind → Bool
has_scheme (states s) = true
has_scheme (turns s) = true
has_scheme _ = false

-- The rule of that name takes the step, and no other rule with a scheme does.
pub record IsOnlyBy (name : Name) (premises : List Clause) (clause : Clause) : Type 0 where
  -- the rule
  pub rule : Rule
  -- it has that name
  pub named : rule_named name ≡ Some rule
  -- it takes the step, whatever its arguments are
  pub right : (arguments : Trees) → IsRight rule premises arguments clause
  -- no other does
  pub alone : (other : Rule) (arguments : Trees) → has_scheme (kind_of other) ≡ true
      → IsRight other premises arguments clause → other ≡ rule

-- no rule with a scheme takes the step
abbrev pub IsByNone : List Clause → Clause → Type 0
IsByNone premises clause = (rule : Rule) (arguments : Trees) → has_scheme (kind_of rule) ≡ true
    → IsRight rule premises arguments clause → ⊥

-- three constants of sort Bool
abbrev pub p : Term
p = constant_term (constant (codes "p") Truth)

abbrev pub q : Term
q = constant_term (constant (codes "q") Truth)

abbrev pub r : Term
r = constant_term (constant (codes "r") Truth)

-- two constants of a declared sort
abbrev pub x : Term
x = constant_term (constant (codes "x") (Declared (codes "S")))

abbrev pub y : Term
y = constant_term (constant (codes "y") (Declared (codes "S")))

-- two constants of sort Real, and (< a b)
abbrev pub a : Term
a = constant_term (constant (codes "a") Number)

abbrev pub b : Term
b = constant_term (constant (codes "b") Number)

abbrev pub less_a_b : Term
less_a_b = of Less (a ∷ b ∷ [])

-- (= p q), and (xor p q)
abbrev pub equal_p_q : Term
equal_p_q = of Equal (p ∷ q ∷ [])

abbrev pub exclusive : Term
exclusive = of Xor (p ∷ q ∷ [])

-- (ite p q r), and (=> p q)
abbrev pub choice : Term
choice = of Ite (p ∷ q ∷ r ∷ [])

abbrev pub implication : Term
implication = of Implies (p ∷ q ∷ [])

-- (and p q r), and (or p q r)
abbrev pub conjunction : Term
conjunction = of And (p ∷ q ∷ r ∷ [])

abbrev pub disjunction : Term
disjunction = of Or (p ∷ q ∷ r ∷ [])
