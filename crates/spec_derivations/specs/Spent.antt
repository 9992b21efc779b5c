-- When a budget of conflicts is spent: as many clauses were learned as it allows, and each of them was worth it.
use Rattle.std.specs.Prelude.{◌≡◌, ◌≢◌, ◌⊎◌, ◌++◌, ℕ, List, [], ◌∷◌, length, map, All, Contains}
use Rattle.spec_sorts.specs.Terms.{True, False, Ite, Equal, AtMost, Truth, Number, Term, of, pair, sort_of}
use Rattle.spec_sorts.specs.Literals.{Literal, complement, literals_of}
use Rattle.spec_derivations.specs.Problems.{Problem, terms_of_problem, known_subterms}
use Rattle.spec_derivations.specs.Derivations.{Derivation, conclusion_at, IsDerivation, IsDerivedFrom}
use Rattle.spec_derivations.specs.Orders.{first_clauses}
use Rattle.spec_derivations.specs.Inputs.{IsInput}
use Rattle.spec_derivations.specs.ExactChains.{IsExactResolvent, AreExactResolvents}
use Rattle.spec_derivations.specs.Learned.{IsNew, AreNew}

-- The literals are those of a clause that is derived from the check's terms.
pub record IsLearnedFrom (p : Problem) (d : Derivation) (clause : List Literal) : Type 0 where
  -- the number of a clause
  pub number : ℕ
  -- it is derived from the terms
  pub derived : IsDerivedFrom (terms_of_problem p) d number
  -- its literals are these
  pub same : literals_of (conclusion_at d number) ≡ clause

-- What a literal of a learned clause may be over.
pub data IsAtomOf (p : Problem) : Term → Type 0 where
  -- a subterm of sort Bool, of the check's terms or of the interface equalities, other than the truth values
  subterm : (t : Term) → Contains (known_subterms p) t → sort_of t ≡ Truth → t ≢ of True [] → t ≢ of False []
      → IsAtomOf p t
  -- the equality of a choice between terms of another sort with the first of them
  with_first : (c s t : Term) → Contains (known_subterms p) (of Ite (c ∷ s ∷ t ∷ [])) → sort_of s ≢ Truth
      → IsAtomOf p (pair Equal (of Ite (c ∷ s ∷ t ∷ [])) s)
  -- or with the second
  with_second : (c s t : Term) → Contains (known_subterms p) (of Ite (c ∷ s ∷ t ∷ [])) → sort_of s ≢ Truth
      → IsAtomOf p (pair Equal (of Ite (c ∷ s ∷ t ∷ [])) t)
  -- an order of the sides of an equality of numbers that is one
  forth : (s t : Term) → IsAtomOf p (pair Equal s t) → sort_of s ≡ Number → IsAtomOf p (pair AtMost s t)
  -- or the order the other way
  back : (s t : Term) → IsAtomOf p (pair Equal s t) → sort_of s ≡ Number → IsAtomOf p (pair AtMost t s)

-- each literal of the clause is over such a term
abbrev pub IsOverAtoms : Problem → List Literal → Type 0
IsOverAtoms p clause = All (λ (l : Literal). IsAtomOf p l.atom) clause

-- the clauses with which a check of these terms begins: those that earlier checks learned, and those of its terms
abbrev pub at_start : Problem → List (List Literal) → List (List Literal)
at_start p earlier = earlier ++ map literals_of (first_clauses p)

-- Clauses that a check of these terms may learn, oldest first, in a derivation that has those of earlier checks, too.
pub record AreLearned (p : Problem) (d : Derivation) (earlier learned : List (List Literal)) : Type 0 where
  -- each step of the derivation is right
  pub right : IsDerivation d
  -- each clause is derived from the check's terms, the earlier ones too
  pub derived : All (IsLearnedFrom p d) (earlier ++ learned)
  -- its literals are over the check's atoms
  pub atoms : All (IsOverAtoms p) (earlier ++ learned)
  -- it has a literal that was not given by the clauses with which the check begins and those learned before it
  pub new : AreNew (at_start p earlier) learned
  -- it is what a chain of resolutions gives, and no more, over clauses of the terms, lemmas, and those before it
  pub exact : AreExactResolvents complement (IsInput p d) (earlier ++ learned)

-- The budget is spent on a check of these terms: the list of learned clauses has its length, which the reason carries.
pub record IsConflictBudgetSpent (p : Problem) (d : Derivation) (limit carried : ℕ)
    (earlier learned : List (List Literal)) : Type 0 where
  -- the list has so many clauses as the budget allows
  pub full : length learned ≡ limit
  -- the reason says so
  pub carries : carried ≡ limit
  -- they were learned
  pub learns : AreLearned p d earlier learned

-- After clauses that were learned in a derivation, in earlier checks and in this one, one more could be.
pub record CanLearnMore (p : Problem) (d : Derivation) (earlier learned : List (List Literal)) : Type 0 where
  -- what could be learned
  pub clause : List Literal
  -- the steps of its derivation that are not yet there
  pub more : Derivation
  -- they are right
  pub right : IsDerivation (d ++ more)
  -- it is derived from the check's terms
  pub derived : IsLearnedFrom p (d ++ more) clause
  -- its literals are over the check's atoms
  pub atoms : IsOverAtoms p clause
  -- it has a literal that was not given by the clauses with which the check begins and those that it learned
  pub new : IsNew (at_start p earlier ++ learned) clause
  -- it is what a chain of resolutions gives, and no more, over clauses of the terms, lemmas, and what was learned
  pub exact : IsExactResolvent complement (λ c. IsInput p d c ⊎ Contains (earlier ++ learned) c) clause
