-- The clauses from which a search may learn.
use Rattle.std.specs.Prelude.{◌⊎◌, List, [], ◌∷◌, ◌++◌, map, flat_map, Contains}
use Rattle.spec_sorts.specs.Literals.{Clause, Literal, literals_of}
use Rattle.spec_derivations.specs.Problems.{Problem, terms_of_problem}
use Rattle.spec_derivations.specs.Orders.{whole_terms, whole_clauses_of}
use Rattle.spec_derivations.specs.Derivations.{Derivation}
use Rattle.spec_derivations.specs.Lemmas.{HasLemma}

-- the clause of each of the check's terms alone, and those of all terms of which a search speaks
abbrev pub input_clauses : Problem → List Clause
input_clauses p = map (λ t. t ∷ []) (terms_of_problem p) ++ flat_map whole_clauses_of (whole_terms p)

-- the clause is one of these, or that of a lemma
abbrev pub IsInput : Problem → Derivation → List Literal → Type 0
IsInput p d c = Contains (map literals_of (input_clauses p)) c ⊎ HasLemma (whole_terms p) d c
