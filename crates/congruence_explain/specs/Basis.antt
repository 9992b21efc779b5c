-- What an explanation depends on.
use Rattle.std.specs.Prelude.{◌≡◌, ◌⊎◌, ◌<◌, ℕ, List, [], All}
use Rattle.term_core.specs.declared.ids.TermId.{TermId}
use Rattle.term_core.specs.declared.ids.Lit.{Lit}
use Rattle.term_core.specs.Tables.{TableView, term_at, IsIn}
use Rattle.spec_sorts.specs.Terms.{True, False, Term, of}
use Rattle.spec_sorts.specs.Subsets.{IsClosed}
use Rattle.spec_equality.specs.Reasons.{equal}
use Rattle.spec_derivations.specs.Lemmas.{IsMadeOf}
use Rattle.explain_forest.specs.declared.types.Edge.{Edge}
use Rattle.explain_forest.specs.declared.types.Label.TheVariants.{Arguments}
use Rattle.explain_forest.specs.Forest.{ForestState, Linked, numbered}
use Rattle.congruence_relation.specs.declared.Truths.{Truths}
use Rattle.congruence_relation.specs.Relation.{Facts, AreFactsOf, terms_listed}
use Rattle.congruence_relation.specs.Edges.{EdgesHaveReasons}
use Rattle.proof_log.specs.Theories.{IsTermIn, IsAtomIn}

-- The edges of a forest represent facts, over terms of a table.
pub record IsBasis (t : TableView) (ts : Truths) (v : ForestState) (f : Facts) : Type 0 where
  -- the terms of the truth values
  pub truths : f.truths ≡ ts
  -- what is listed are terms of the table
  pub facts : AreFactsOf t f
  -- and over its symbols
  pub terms : All (λ x. IsTermIn t x.term) f.listed
  -- with each its arguments
  pub closed : IsClosed (terms_listed t f)
  -- the terms of held literals are formulas that are no negations
  pub atoms : All (λ (l : Lit). IsAtomIn t l.term) f.held
  -- each edge has a reason
  pub reasons : EdgesHaveReasons f v.edges
  -- the arguments of what is listed are terms of the forest
  pub arguments : All (λ x. All (λ (a : TermId). a.0 < v.terms) x.shape.arguments) f.listed
  -- and so are the ends of edges
  pub ends : All (λ e. (e.a.0 < v.terms) × (e.b.0 < v.terms)) v.edges

-- Two linked terms of a forest, over a table's symbols, made of some.
pub record AreLinkedIn (terms : List Term) (t : TableView) (v : ForestState) (x y : TermId) : Type 0 where
  -- the terms
  pub one : IsTermIn t x
  pub other : IsTermIn t y
  -- they are made of these
  pub one_made : IsMadeOf terms (term_at t x)
  pub other_made : IsMadeOf terms (term_at t y)
  -- they are the forest's
  pub one_there : x.0 < v.terms
  pub other_there : y.0 < v.terms
  -- edges lead from the one to the other
  pub linked : Linked v.edges x.0 y.0

-- two terms are one, or are linked
abbrev pub AreLinkedOr : List Term → TableView → ForestState → TermId → TermId → Type 0
AreLinkedOr terms t v x y = (x.0 ≡ y.0) ⊎ AreLinkedIn terms t v x y

-- A term of a table is the equality of two others.
pub record IsEqualityIn (t : TableView) (e a b : TermId) : Type 0 where
  -- it is there
  pub there : IsIn t e
  -- and so are its sides
  pub one_there : IsIn t a
  pub other_there : IsIn t b
  -- it says that they are equal
  pub is : term_at t e ≡ equal (term_at t a) (term_at t b)

-- A formula of a table, made of some terms, is the equality of two linked ones.
pub record HasLinkedSides (terms : List Term) (t : TableView) (v : ForestState) (e : TermId) : Type 0 where
  -- the formula
  pub atom : IsAtomIn t e
  -- it is made of these
  pub made : IsMadeOf terms (term_at t e)
  -- its sides
  pub one : TermId
  pub other : TermId
  -- it says that they are equal
  pub equality : IsEqualityIn t e one other
  -- they are linked
  pub linked : AreLinkedIn terms t v one other

-- the edge of a number is by arguments
abbrev pub IsByArguments : List Edge → ℕ → Type 0
IsByArguments es k = (numbered es k).label ≡ Arguments (numbered es k).a (numbered es k).b

-- Terms of a table are `true` and `false`.
pub record AreTruths (t : TableView) (ts : Truths) : Type 0 where
  -- `true`
  pub true_term : IsTermIn t ts.true_term
  pub true_is : term_at t ts.true_term ≡ of True []
  -- `false`
  pub false_term : IsTermIn t ts.false_term
  pub false_is : term_at t ts.false_term ≡ of False []

-- A literal of an atom, made of some terms, where there are `true` and `false`.
pub record IsAtomLiteral (terms : List Term) (t : TableView) (ts : Truths) (l : Lit) : Type 0 where
  -- the atom
  pub atom : IsAtomIn t l.term
  -- it is made of these
  pub made : IsMadeOf terms (term_at t l.term)
  -- the truth values
  pub truths : AreTruths t ts
