-- Clauses and their literals. Source: Alethe specification, clauses; literals with parity are own.
use Rattle.std.specs.Prelude.{Bool, true, not, List, map}
use Rattle.spec_sorts.specs.Terms.{Not, Term, app, nil, cons}

-- A clause is a list of terms; it means that one of them is true.
abbrev pub Clause : Type 0
Clause = List Term

-- A term that is no negation, and whether it is meant positively.
pub record Literal : Type 0 where
  -- the term
  pub atom : Term
  -- whether it is meant as it is, or else negated
  pub positive : Bool

-- the same term, meant the other way
abbrev pub complement : Literal → Literal
complement l = record { atom = l.atom; positive = not l.positive }

-- a term without its leading nots, with the parity of their number
unfoldable pub literal_of : Term → Literal
literal_of (app Not (cons t nil)) = complement (literal_of t)
literal_of t = record { atom = t; positive = true }

-- the literals of a clause, in order
abbrev pub literals_of : Clause → List Literal
literals_of c = map literal_of c
