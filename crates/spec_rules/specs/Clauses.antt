-- Clauses by their truth, and those that follow by resolution. Source: Alethe specification, clauses.
use Rattle.std.specs.Prelude.{Bool, List, [], map}
use Rattle.std.specs.List.{list_any}
use Rattle.spec_sorts.specs.Terms.{Term}
use Rattle.spec_sorts.specs.Values.{Interpretation, is_true}
use Rattle.spec_sorts.specs.TermValues.{value_at}
use Rattle.spec_sorts.specs.Literals.{Clause, complement, literals_of}
use Rattle.spec_proofs.specs.Resolution.{Resolves}

-- the clause follows from the premises by resolution
abbrev pub IsResolvent : List Clause → Clause → Type 0
IsResolvent premises clause = Resolves complement (map literals_of premises) (literals_of clause)

-- the term has the value true
abbrev pub term_true : Interpretation → Term → Bool
term_true i t = is_true (value_at i [] t)

-- one of the clause's terms has the value true
abbrev pub clause_true : Interpretation → Clause → Bool
clause_true i c = list_any (term_true i) c
