-- What literals of linear arithmetic say of the numbers of terms, with no infinitesimal part.
use Rattle.std.specs.Prelude.{◌≡◌, true, Some}
use Rattle.spec_numbers.specs.Fractions.{Fraction}
use Rattle.spec_sorts.specs.Terms.{Term}
use Rattle.spec_sorts.specs.TermValues.{less, at_most as up_to}
use Rattle.spec_sorts.specs.Literals.{Literal}
use Rattle.spec_arithmetic.specs.Numbers.{number_at, IsLinear}
use Rattle.spec_simplex.specs.Constraints.{Relation, below, at_most, equals, at_least, above, Constraint, constraint_of}

-- the first number compares so with the second
abbrev pub Compares : Relation → Fraction → Fraction → Type 0
Compares below x y = less x y ≡ true
Compares at_most x y = up_to x y ≡ true
Compares equals x y = x ≡ y
Compares at_least x y = up_to y x ≡ true
Compares above x y = less y x ≡ true

-- what a literal says is so of the numbers of its sides, where these are linear; a term that is not is only a variable
-- of its form
abbrev pub HoldsAt : (Term → Fraction) → Literal → Type 0
HoldsAt n l = (c : Constraint) → constraint_of l ≡ Some c → IsLinear c.left → IsLinear c.right
    → Compares c.relation (number_at n c.left) (number_at n c.right)
