-- What contracts see of a closure.
use Rattle.std.specs.Prelude.{◌≡◌, ◌<◌, ◌↔◌, ℕ, Bool, true, false, List, length, All, take, get_or}
use Rattle.term_core.specs.declared.ids.TermId.{TermId}
use Rattle.term_core.specs.declared.ids.Lit.{Lit}
use Rattle.explain_forest.specs.declared.types.Edge.{Edge}
use Rattle.congruence_relation.specs.Relation.{Facts}
use Rattle.congruence_relation.specs.Edges.{EdgesHaveReasons, IsClosed, IsConflict}
use Rattle.congruence_relation.specs.declared.Conflict.{Conflict}
use Rattle.congruence_closure.specs.Listed.{no_term_id, AreListedOnce, IsListed, held_at}

-- What a closure is about, and whether its edges link all that is congruent.
pub record ClosureState : Type 0 where
  -- the listed terms, the truth values and the held literals
  pub facts : Facts
  -- the edges are closed, and there is no conflict
  pub saturated : Bool

-- What contracts see of a closure.
pub record ClosureView : Type 0 where
  -- as it is
  pub now : ClosureState
  -- the edges, newest first
  pub edges : List Edge
  -- as it was at each mark, oldest mark first
  pub marks : List ClosureState

-- the literal that denies a term
abbrev pub denial : TermId → Lit
denial e = record { term = e; positive = false }

-- no edge joins what held literals keep apart
abbrev pub HasNoConflict : Facts → List Edge → Type 0
HasNoConflict f es = (c : Conflict) → IsConflict f es c → ⊥

-- Arguments come before their term, and literals are held of listed terms.
pub record AreInOrder (f : Facts) : Type 0 where
  -- no term is listed twice
  pub once : AreListedOnce f.listed
  -- arguments have smaller numbers than their term
  pub below : All (λ x. All (λ (a : TermId). a.0 < x.term.0) x.shape.arguments) f.listed
  -- the terms of held literals are listed
  pub held : All (λ (l : Lit). IsListed f.listed l.term) f.held
  -- no literal is held twice
  pub held_once : (i j : ℕ) → i < j → j < length f.held → held_at f.held i ≡ held_at f.held j → ⊥

-- Facts are a prefix of others: what was listed and held before more came.
pub record ArePrefix (old new : Facts) : Type 0 where
  -- the listed terms
  pub listed : old.listed ≡ take (length old.listed) new.listed
  -- the terms of the truth values are the same
  pub truths : old.truths ≡ new.truths
  -- the held literals
  pub held : old.held ≡ take (length old.held) new.held

-- What a closure names is below a count of terms.
pub record AreTerms (v : ClosureView) (n : ℕ) : Type 0 where
  -- `true`
  pub true_in : v.now.facts.truths.true_term.0 < n
  -- `false`
  pub false_in : v.now.facts.truths.false_term.0 < n
  -- listed terms, and so the terms of held literals and arguments
  pub terms : All (λ x. x.term.0 < n) v.now.facts.listed
  -- the ends of edges
  pub ends : All (λ (e : Edge). (e.a.0 < n) × (e.b.0 < n)) v.edges

-- two numbers are one exactly where the terms in their places are related
abbrev pub TellClasses : (TermId → TermId → Type 0) → List TermId → List ℕ → Type 0
TellClasses related terms numbers = (i j : ℕ) → i < length terms → j < length terms
    → (get_or numbers i 0 ≡ get_or numbers j 0) ↔ related (get_or terms i no_term_id) (get_or terms j no_term_id)

-- What is so of each closure.
pub record IsRight (v : ClosureView) : Type 0 where
  -- each edge has a reason
  pub reasons : EdgesHaveReasons v.now.facts v.edges
  -- where it is saturated, the edges are closed
  pub closed : v.now.saturated ≡ true → IsClosed v.now.facts v.edges
  -- and there is no conflict
  pub fine : v.now.saturated ≡ true → HasNoConflict v.now.facts v.edges
  -- terms and literals are in order
  pub order : AreInOrder v.now.facts
