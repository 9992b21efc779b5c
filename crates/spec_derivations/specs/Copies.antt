-- The eight disjunctions, with a constant of which they say nothing.
use Rattle.std.specs.Prelude.{◌≡◌, ◌⊎◌, List, [], ◌∷◌, ◌++◌, map, codes, Contains}
use Rattle.spec_sorts.specs.Terms.{Or, Truth, Term, of, negated, constant, constant_term}
use Rattle.spec_sorts.specs.Literals.{Literal, literals_of}
use Rattle.spec_rules.specs.Examples.{p, q}
use Rattle.spec_derivations.specs.Base.{base_clauses}
use Rattle.spec_derivations.specs.Examples.{asserting, eight}

-- the constant
abbrev pub idle : Term
idle = constant_term (constant (codes "z") Truth)

-- it is true or not
abbrev pub idle_or_not : Term
idle_or_not = of Or (idle ∷ negated idle ∷ [])

-- the base clauses of the eight and of that
abbrev pub given : List (List Literal)
given = map literals_of (base_clauses (asserting (eight ++ idle_or_not ∷ [])))

-- `(cl (not p) (not q) z)`
abbrev pub copy : List Literal
copy = literals_of (negated p ∷ negated q ∷ idle ∷ [])

-- the constant, or that it is true or not
abbrev pub IsIdle : Term → Type 0
IsIdle t = (t ≡ idle) ⊎ (t ≡ idle_or_not)

-- all atoms of the clause are such, or none is
abbrev pub IsUnmixed : List Literal → Type 0
IsUnmixed c = ((l : Literal) → Contains c l → IsIdle l.atom) ⊎ ((l : Literal) → Contains c l → IsIdle l.atom → ⊥)
