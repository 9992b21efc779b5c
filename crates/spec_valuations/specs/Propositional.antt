-- Propositional terms, and where a search over them is saturated. Source: Tseitin 1968.
use Rattle.std.specs.Prelude.{◌≡◌, true, List, [], All, Contains}
use Rattle.std.specs.List.{list_any}
use Rattle.spec_sorts.specs.Terms.{Truth, Symbol, Apply, Term, app, list_of, sort_of}
use Rattle.spec_sorts.specs.WellSorted.{IsFormulaOver}
use Rattle.spec_sorts.specs.Subsets.{AreAmong}
use Rattle.spec_sorts.specs.Literals.{Clause}
use Rattle.spec_rules.specs.Truths.{Truths, term_true_by}
use Rattle.spec_derivations.specs.Problems.{Problem, known_terms}
use Rattle.spec_derivations.specs.Orders.{whole_terms, whole_clauses}

-- a symbol that is the head has no arguments
abbrev pub AppliesNothing : Term → Type 0
AppliesNothing (app (Apply s) ts) = list_of ts ≡ []
AppliesNothing (app h ts) = Unit {0}

-- A constant of sort Bool, a truth value, or a connective; where its arguments are such terms, too, it is a formula of
-- propositional logic.
pub record IsPropositional (t : Term) : Type 0 where
  -- it has a truth
  pub sort : sort_of t ≡ Truth
  -- and applies no symbol to arguments
  pub bare : AppliesNothing t

-- What a search over propositional terms has where it is saturated.
pub record IsPropositionallySaturated (symbols : List Symbol) (p : Problem) (terms : List Term) (v : Truths) : Type
    0 where
  -- the terms of the check are formulas over the symbols, and so are the interface equalities
  pub formulas : All (IsFormulaOver symbols) (known_terms p)
  -- all terms that the search speaks of are listed
  pub listed : AreAmong (whole_terms p) terms
  -- and no others
  pub only : AreAmong terms (whole_terms p)
  -- each of them is propositional
  pub propositional : All IsPropositional terms
  -- one term of each clause is true
  pub met : (c : Clause) → Contains (whole_clauses p) c → list_any (term_true_by v) c ≡ true
