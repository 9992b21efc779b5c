-- Whether a step over numbers of the table is right by a rule of equality.
use Rattle.std.specs.Prelude.{◌≡◌, ◌≢◌, List, [], ◌∷◌, ◌++◌, map, Result, MatchResult}
use Rattle.spec_sorts.specs.Terms.{Truth, Ite, Term, of, negated, sort_of}
use Rattle.spec_sorts.specs.Literals.{Clause}
use Rattle.spec_equality.specs.declared.EqualityRule.{EqualityRule}
use Rattle.spec_equality.specs.EqualityRules.{EndsEqual, EndsDenied, IsEquating}
use Rattle.spec_equality.specs.Reasons.{equal, denied, HaveJoinedArguments}
use Rattle.term_core.specs.declared.ids.TermId.{TermId}
use Rattle.term_core.specs.declared.rule_fails.RuleFails.{RuleFails}
use Rattle.term_core.specs.Tables.{TableView, IsIn, AreIn, term_at, clause_at}
use Rattle.rule_eq.specs.declared.choices.IteEquality.{IteEquality}
use Rattle.rule_eq.specs.declared.endings.Ending.{Ending}

-- a result is a success exactly where the statement is so
abbrev pub IsExactly : Type 0 → Result (Unit {0}) RuleFails → Type 0
IsExactly P result = MatchResult result (λ _. P) (λ _. P → ⊥)

-- a success exactly where the step is right
abbrev pub JudgesEquality : TableView → EqualityRule → List (List TermId) → List TermId → Result (Unit {0}) RuleFails
    → Type 0
JudgesEquality table rule premises clause result =
    IsExactly (IsEquating rule (map (clause_at table) premises) (clause_at table clause)) result

-- The clause ends in an equality of two terms, with literals before it, by numbers.
pub record IsEqualEnding (table : TableView) (clause : Clause) (e : Ending) : Type 0 where
  -- the numbers are of the table's
  pub literals_there : AreIn table e.literals.now
  pub one_there : IsIn table e.one
  pub other_there : IsIn table e.other
  -- the clause is so
  pub same : clause ≡ clause_at table e.literals.now ++ equal (term_at table e.one) (term_at table e.other) ∷ []

-- The clause ends in a negated term and another, with literals before them, by numbers.
pub record IsDeniedEnding (table : TableView) (clause : Clause) (e : Ending) : Type 0 where
  -- the numbers are of the table's
  pub literals_there : AreIn table e.literals.now
  pub one_there : IsIn table e.one
  pub other_there : IsIn table e.other
  -- the clause is so
  pub same : clause ≡ clause_at table e.literals.now ++ negated (term_at table e.one) ∷ term_at table e.other ∷ []

-- the two last terms of an ending have one head and arguments that its literals join
abbrev pub IsLike : TableView → Ending → Type 0
IsLike table e = HaveJoinedArguments (map denied (clause_at table e.literals.now)) (term_at table e.one)
    (term_at table e.other)

-- a clause ends in an equality of formulas that its literals make congruent
abbrev pub EndsInFormulas : Clause → Type 0
EndsInFormulas clause = (e : EndsEqual clause) × (sort_of e.one ≡ Truth)
    × HaveJoinedArguments (map denied e.literals) e.one e.other

-- a clause ends in a negated term and one that its literals make congruent
abbrev pub EndsInDenied : Clause → Type 0
EndsInDenied clause = (e : EndsDenied clause) × HaveJoinedArguments (map denied e.literals) e.one e.other

-- the term is no equality of a choice with a term of another sort than Bool
abbrev pub IsNoChoice : Term → Type 0
IsNoChoice e = (c s t u : Term) → e ≡ equal (of Ite (c ∷ s ∷ t ∷ [])) u → sort_of u ≢ Truth → ⊥

-- The term is the equality of a choice with a term of another sort than Bool, by numbers.
pub record IsIteEquality (table : TableView) (e : Term) (x : IteEquality) : Type 0 where
  -- the numbers are of the table's
  pub condition_there : IsIn table x.condition
  pub first_there : IsIn table x.first
  pub second_there : IsIn table x.second
  pub side_there : IsIn table x.side
  -- the term is so
  pub same : e ≡ equal (of Ite (term_at table x.condition ∷ term_at table x.first ∷ term_at table x.second ∷ []))
      (term_at table x.side)
  -- it is no formula
  pub sort : sort_of (term_at table x.side) ≢ Truth
