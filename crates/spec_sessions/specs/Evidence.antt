-- What shows that the answer of a check is right. Source: SMT-LIB 2.6, section 4.2.5; what counts as shown is own.
use Rattle.std.specs.Prelude.{◌≡◌, ◌≤◌, ℕ, true, List, [], length, All, Contains}
use Rattle.spec_numbers.specs.Bounds.{Overflow, fits}
use Rattle.spec_simplex.specs.Overflows.{IsOverflow}
use Rattle.spec_sorts.specs.Values.{Interpretation, Interprets}
use Rattle.spec_sorts.specs.Signatures.{symbols_in}
use Rattle.spec_sorts.specs.Literals.{Literal}
use Rattle.spec_sorts.specs.Terms.{Term}
use Rattle.spec_commands.specs.Stack.{signature_of}
use Rattle.spec_commands.specs.Checks.{Check, asked, IsTrueAssertion}
use Rattle.spec_derivations.specs.Problems.{Problem, subterms_in, problem_of}
use Rattle.spec_derivations.specs.Derivations.{Derivation}
use Rattle.spec_derivations.specs.Spent.{IsAtomOf, AreLearned, IsConflictBudgetSpent, CanLearnMore}
use Rattle.spec_causes.specs.Checks.{IsOverflowed}
use Rattle.spec_interfaces.specs.Interfaces.{IsElementEquality, IsInterfaceEquality, StandsApart}
use Rattle.spec_sessions.specs.Refutations.{IsProofOf}

-- What a search of a check may spend, and how much a script may name.
pub record Limits : Type 0 where
  -- how many clauses it may learn
  pub conflicts : ℕ
  -- how many names a script may have, and how many different subterms the terms of a command
  pub terms : ℕ

-- What a search of a check keeps.
pub record Kept : Type 0 where
  -- the exchanges of variables, oldest first; the last may be kept and not made
  pub exchanges : List (ℕ × ℕ)
  -- how the clauses are derived that were learned
  pub derivation : Derivation
  -- and these clauses, oldest first
  pub learned : List (List Literal)

-- What was found at a check.
pub data Found : Type 0 where
  -- an interpretation
  model : Interpretation → Found
  -- the text of a proof
  proof : List ℕ → Found
  -- that the budget of conflicts is spent: its size, how the clauses that were learned are derived, and these clauses
  spent : ℕ → Derivation → List (List Literal) → Found
  -- that an operation on fractions leaves the bound: the operation, with its operands, and what the search keeps
  overflowed : Overflow → Kept → Found

-- A check, with what was found at it.
pub record Checked : Type 0 where
  -- what it asks about
  pub check : Check
  -- what was found
  pub found : Found

-- The interpretation has a table for each current symbol, and makes true all that the check asks about.
pub record IsModelOf (c : Check) (i : Interpretation) : Type 0 where
  -- each symbol has its table
  pub interprets : Interprets i (symbols_in (signature_of c.stack))
  -- each expression is true, as it is written
  pub each : All (IsTrueAssertion i (signature_of c.stack)) (asked c)

-- The terms of a check, with interface equalities.
pub record IsProblemOf (c : Check) (p : Problem) : Type 0 where
  -- the equalities
  pub interface : List Term
  -- each is of two numbers that are shared in the check, or of two elements in it
  pub equalities : All (IsInterfaceEquality (subterms_in (problem_of c []))) interface
  pub is : p ≡ problem_of c interface

-- The budget is spent at a conflict more.
pub record IsSpentOn (p : Problem) (limit carried : ℕ) (d : Derivation) (learned : List (List Literal)) : Type 0 where
  -- as many clauses were learned as it allows
  pub spent : IsConflictBudgetSpent p d limit carried [] learned
  -- and one more would be
  pub conflict : CanLearnMore p d [] learned
  -- all of them stand apart from equalities of elements that are beside the check's terms
  pub apart : All (StandsApart p) learned
  pub conflict_apart : StandsApart p conflict.clause

-- What a search of a problem keeps is within its limits, and the clauses may be learned.
pub record IsKeptOf (limits : Limits) (p : Problem) (k : Kept) : Type 0 where
  -- no more clauses were learned than the budget allows
  pub learned : length k.learned ≤ limits.conflicts
  -- and each of them is derived, over the problem's atoms, and was new
  pub learns : AreLearned p k.derivation [] k.learned
  -- and it stands apart from equalities of elements that are beside the check's terms
  pub apart : All (StandsApart p) k.learned

-- both operands are within the bound on fractions
abbrev pub HasBoundedOperands : Overflow → Type 0
HasBoundedOperands o = (fits o.left ≡ true) × (fits o.right ≡ true)

-- what was found shows this of a check: a model makes true what it asks about; a proof that no interpretation does; the
-- budget of conflicts is spent on it; or an operation on fractions within the bound leaves it where the exchanges lead,
-- or all but the last, or before there are any. The runs are few then, and the clauses that were learned may be
-- learned. Where it was given up, the search may have spoken of interface equalities; of those of elements no learned
-- clause speaks.
abbrev pub Justifies : Limits → Check → Found → Type 0
Justifies limits c (model i) = IsModelOf c i
Justifies limits c (proof text) = IsProofOf c text
Justifies limits c (spent n d learned) = (p : Problem) × IsProblemOf c p × IsSpentOn p limits.conflicts n d learned
Justifies limits c (overflowed o k) =
    IsOverflow o × HasBoundedOperands o
    × ((p : Problem) × IsProblemOf c p × IsKeptOf limits p k × IsOverflowed p (length k.learned) k.exchanges o)

-- each literal of the clause that is over an equality of elements is over an atom of the check's own terms
abbrev pub SpeaksOf : Check → List Literal → Type 0
SpeaksOf c clause = (l : Literal) → Contains clause l → IsElementEquality (subterms_in (problem_of c [])) l.atom
    → IsAtomOf (problem_of c []) l.atom
