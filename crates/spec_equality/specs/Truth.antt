-- Literals that are true under an interpretation. Source: SMT-LIB 2.6, section 5.3; literals with parity are own.
use Rattle.std.specs.Prelude.{◌≡◌, List, [], All}
use Rattle.spec_sorts.specs.Literals.{Literal}
use Rattle.spec_sorts.specs.Values.{truth, Interpretation}
use Rattle.spec_sorts.specs.TermValues.{value_at}

-- the literal's term has the truth value that the literal says
abbrev pub IsTrueLiteral : Interpretation → Literal → Type 0
IsTrueLiteral i l = value_at i [] l.atom ≡ truth l.positive

-- each of the literals is true
abbrev pub AreTrueUnder : Interpretation → List Literal → Type 0
AreTrueUnder i held = All (IsTrueLiteral i) held
