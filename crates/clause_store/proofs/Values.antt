-- What a value says of a literal.
use Rattle.std.proofs.Common.{Bool, true, false, not, List, Contains}
use Rattle.std.specs.Prelude.{Some, MatchBool}
use Rattle.term_core.specs.declared.ids.Lit.{Lit}
use Rattle.clause_literals.specs.Literals.{lit_complement, IsConsistent}
use Rattle.sat_trail.specs.Trails.{HasValue}

pub true_by : (held : List Lit) → IsConsistent held → (l : Lit) (sign : Bool) → HasValue held l (Some sign) → MatchBool sign (Contains held l) (Contains held l → ⊥)
true_by held consistent l true h = h
true_by held consistent l false h = λ i. consistent l i h

pub false_by : (held : List Lit) → IsConsistent held → (l : Lit) (sign : Bool) → HasValue held l (Some sign) → MatchBool (not sign) (Contains held (lit_complement l)) (Contains held (lit_complement l) → ⊥)
false_by held consistent l true h = λ i. consistent l h i
false_by held consistent l false h = h
