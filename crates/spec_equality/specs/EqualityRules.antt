-- The rules of equality and functions, each by what it asks of premises and clause. Source: Alethe specification, rules
-- of equality; the two rules of `ite`, order and further reasons where they are free, are own.
use Rattle.std.specs.Prelude.{◌≡◌, ◌≢◌, ◌⊎◌, List, [], ◌∷◌, ◌++◌, map, codes, true}
use Rattle.std.specs.List.{list_any}
use Rattle.spec_text.specs.Bytes.{Name}
use Rattle.spec_sorts.specs.Terms.{Truth, Ite, Term, of, negated, sort_of}
use Rattle.spec_sorts.specs.Values.{Interpretation, is_true}
use Rattle.spec_sorts.specs.TermValues.{value_at}
use Rattle.spec_sorts.specs.Literals.{Clause}
use Rattle.spec_equality.specs.declared.EqualityRule.{EqualityRule}
use Rattle.spec_equality.specs.declared.EqualityRule.TheVariants as rules
use Rattle.spec_equality.specs.Reasons.{equal, denied, alone, Joins, Lead, HaveJoinedArguments}

-- The last literal of a clause is an equality.
pub record EndsEqual (clause : Clause) : Type 0 where
  -- the literals before it
  pub literals : List Term
  -- its sides
  pub one : Term
  pub other : Term
  -- the clause says so
  pub same : clause ≡ literals ++ equal one other ∷ []

-- The last two literals of a clause are a negated term and another term.
pub record EndsDenied (clause : Clause) : Type 0 where
  -- the literals before them
  pub literals : List Term
  -- the term that is negated, and the other
  pub one : Term
  pub other : Term
  -- the clause says so
  pub same : clause ≡ literals ++ negated one ∷ other ∷ []

-- no premise, and (cl (= t t))
abbrev pub IsReflexive : List Clause → Clause → Type 0
IsReflexive [] (e ∷ []) = (t : Term) × (e ≡ equal t t)
IsReflexive premises clause = ⊥

-- no premise, and (cl (not (= t1 t2)) .. (not (= tm tn)) (= t1 tn)) with at least one negated equality
abbrev pub IsTransitive : List Clause → Clause → Type 0
IsTransitive [] clause = (e : EndsEqual clause) × (e.literals ≢ []) × Lead (map denied e.literals) e.one e.other
IsTransitive premises clause = ⊥

-- no premise, and (cl (not (= t1 u1)) .. (not (= tn un)) (= (f t1 .. tn) (f u1 .. un))), the negated equalities in any
-- order, maybe with other literals, and without those of equal sides
abbrev pub IsCongruenceRule : List Clause → Clause → Type 0
IsCongruenceRule [] clause = (e : EndsEqual clause) × HaveJoinedArguments (map denied e.literals) e.one e.other
IsCongruenceRule premises clause = ⊥

-- the same for terms of sort Bool; or with (not (f t1 .. tn)) (f u1 .. un) in the place of their equality
abbrev pub IsCongruentPred : List Clause → Clause → Type 0
IsCongruentPred [] clause =
    ((e : EndsEqual clause) × (sort_of e.one ≡ Truth) × HaveJoinedArguments (map denied e.literals) e.one e.other)
    ⊎ ((e : EndsDenied clause) × HaveJoinedArguments (map denied e.literals) e.one e.other)
IsCongruentPred premises clause = ⊥

-- one premise (cl (= t u)), and (cl (= u t)) or (cl (= t u))
abbrev pub IsSymmetric : List Clause → Clause → Type 0
IsSymmetric (p ∷ []) c = (t : Term) × (u : Term) × (p ≡ equal t u ∷ []) × Joins (alone c) t u
IsSymmetric premises clause = ⊥

-- premises (cl (= t1 t2)) .. (cl (= tm tn)), at least one, and (cl (= t1 tn))
abbrev pub IsChained : List Clause → Clause → Type 0
IsChained premises (e ∷ []) = (t : Term) × (u : Term) × (e ≡ equal t u) × (premises ≢ [])
    × Lead (map alone premises) t u
IsChained premises clause = ⊥

-- premises (cl (= t1 u1)) .. (cl (= tn un)) and (cl (= (f t1 .. tn) (f u1 .. un))), the premises in any order, maybe
-- with others, and without those of equal sides
abbrev pub IsJoined : List Clause → Clause → Type 0
IsJoined premises (e ∷ []) = (t : Term) × (u : Term) × (e ≡ equal t u) × HaveJoinedArguments (map alone premises) t u
IsJoined premises clause = ⊥

-- no premise, and (cl (not c) (= (ite c s t) s)), s of another sort than Bool
abbrev pub IsThen : List Clause → Clause → Type 0
IsThen [] (l ∷ e ∷ []) = (c : Term) × (s : Term) × (t : Term) × (l ≡ negated c)
    × (e ≡ equal (of Ite (c ∷ s ∷ t ∷ [])) s) × (sort_of s ≢ Truth)
IsThen premises clause = ⊥

-- no premise, and (cl c (= (ite c s t) t)), t of another sort than Bool
abbrev pub IsElse : List Clause → Clause → Type 0
IsElse [] (l ∷ e ∷ []) = (s : Term) × (t : Term) × (e ≡ equal (of Ite (l ∷ s ∷ t ∷ [])) t) × (sort_of t ≢ Truth)
IsElse premises clause = ⊥

-- the step is right by the rule; `distinct` is read away, so that its two sides are read as one term
abbrev pub IsEquating : EqualityRule → List Clause → Clause → Type 0
IsEquating rules.EqReflexive premises clause = IsReflexive premises clause
IsEquating rules.Refl premises clause = IsReflexive premises clause
IsEquating rules.DistinctElim premises clause = IsReflexive premises clause
IsEquating rules.EqTransitive premises clause = IsTransitive premises clause
IsEquating rules.EqCongruent premises clause = IsCongruenceRule premises clause
IsEquating rules.EqCongruentPred premises clause = IsCongruentPred premises clause
IsEquating rules.Symm premises clause = IsSymmetric premises clause
IsEquating rules.Trans premises clause = IsChained premises clause
IsEquating rules.Cong premises clause = IsJoined premises clause
IsEquating rules.IteThen premises clause = IsThen premises clause
IsEquating rules.IteElse premises clause = IsElse premises clause

-- the name of a rule
abbrev pub equality_name : EqualityRule → Name
equality_name rules.EqReflexive = codes "eq_reflexive"
equality_name rules.EqTransitive = codes "eq_transitive"
equality_name rules.EqCongruent = codes "eq_congruent"
equality_name rules.EqCongruentPred = codes "eq_congruent_pred"
equality_name rules.Refl = codes "refl"
equality_name rules.Symm = codes "symm"
equality_name rules.Trans = codes "trans"
equality_name rules.Cong = codes "cong"
equality_name rules.DistinctElim = codes "distinct_elim"
equality_name rules.IteThen = codes "x_ite_then"
equality_name rules.IteElse = codes "x_ite_else"

-- all rules of equality
abbrev pub every_equality_rule : List EqualityRule
every_equality_rule = rules.EqReflexive ∷ rules.EqTransitive ∷ rules.EqCongruent ∷ rules.EqCongruentPred ∷ rules.Refl
    ∷ rules.Symm ∷ rules.Trans ∷ rules.Cong ∷ rules.DistinctElim ∷ rules.IteThen ∷ rules.IteElse ∷ []

-- one of the clause's terms has the value true
abbrev pub IsTrueClause : Interpretation → Clause → Type 0
IsTrueClause i c = list_any (λ t. is_true (value_at i [] t)) c ≡ true
