-- What the steps of an explanation derive.
use Rattle.std.specs.Prelude.{◌≡◌, ℕ, ◌<◌, ◌≤◌, ◌⊎◌, true, false, not, List, [], ◌∷◌, ◌++◌, map, length}
use Rattle.std.specs.Prelude.{drop, All, Contains}
use Rattle.spec_sorts.specs.Terms.{Term}
use Rattle.spec_sorts.specs.Literals.{Literal, literals_of, complement}
use Rattle.spec_proofs.specs.Resolution.{Derives as Propagates, IsWithin}
use Rattle.term_core.specs.declared.ids.TermId.{TermId}
use Rattle.term_core.specs.declared.ids.Lit.{Lit}
use Rattle.term_core.specs.Tables.{TableView, clause_at}
use Rattle.explain_forest.specs.declared.types.Edge.{Edge}
use Rattle.explain_forest.specs.declared.types.PathStep.{PathStep}
use Rattle.explain_forest.specs.declared.types.Label.TheVariants.{Held}
use Rattle.explain_forest.specs.Forest.{ForestState, Linked, numbered, older}
use Rattle.congruence_relation.specs.declared.Truths.{Truths}
use Rattle.congruence_relation.specs.declared.Conflict.{Conflict}
use Rattle.congruence_relation.specs.declared.Conflict.TheVariants as conflicts
use Rattle.congruence_relation.specs.Relation.{Facts, truth_of, terms_listed}
use Rattle.congruence_relation.specs.Edges.{roots}
use Rattle.proof_log.specs.declared.premises.StepId.{StepId}
use Rattle.proof_log.specs.Logs.{Logged, named, logged_at}
use Rattle.proof_log.specs.Clashes.{literals_in}
use Rattle.proof_log.specs.Theories.{Derived, DerivesLemmas, derived}
use Rattle.congruence_explain.specs.declared.claims.Claim.TheVariants.{Equality}
use Rattle.congruence_explain.specs.declared.claims.SignedClaim.{SignedClaim}
use Rattle.congruence_explain.specs.Claims.{claim_as_literal, literal_claimed, equality_claim, unequal, denied}
use Rattle.congruence_explain.specs.Claims.{value_claim, edge_says, all_unequal}

-- What an explanation begins with: a table with a log of it, and facts over its terms.
pub record Start : Type 0 where
  -- the table
  pub table : TableView
  -- the log
  pub log : List Logged
  -- the facts
  pub facts : Facts

-- the table with the log
abbrev pub begun : Start → Derived
begun start = derived start.table start.log

-- the listed terms, of which the terms of all clauses are made
abbrev pub spoken : Start → List Term
spoken start = terms_listed start.table start.facts

-- what came since the start are lemmas
abbrev pub Explains : Start → Derived → Type 0
Explains start now = DerivesLemmas (spoken start) (begun start) now

-- the literals of a logged clause
abbrev pub literals_logged : TableView → Logged → List Literal
literals_logged t l = literals_of (clause_at t (named l))

-- the clauses that came since the start
abbrev pub steps_since : Start → Derived → List (List Literal)
steps_since start now = drop (length start.log) (map (literals_logged now.table) now.log)

-- A clause is logged last.
pub record HasPut (start : Start) (old new : Derived) (clause : List Literal) (id : StepId) : Type 0 where
  -- its number
  pub there : id.0 < length new.log
  -- is that of the clause
  pub clause_is : literals_in new.table new.log id ≡ clause
  -- which is the only one that came
  pub last : steps_since start new ≡ steps_since start old ++ clause ∷ []

-- What does not change during an explanation: the terms as they were, the terms of the truth values, and the edges,
-- newest first.
pub record ExplanationSetting : Type 0 where
  -- the table
  pub table : TableView
  -- `true` and `false`
  pub truths : Truths
  -- the edges
  pub edges : List Edge

-- the setting of a forest
abbrev pub setting : TableView → Truths → ForestState → ExplanationSetting
setting t ts v = record { table = t; truths = ts; edges = v.edges }

-- What is done of an explanation, and what is left: the edges that are needed and not yet explained, the clauses that
-- were logged, and the literals of the last clause.
pub record Notes : Type 0 where
  -- the numbers of the edges
  pub needed : List ℕ
  -- the clauses
  pub steps : List (List Literal)
  -- the literals, which deny what is held
  pub stated : List SignedClaim

-- what is done since the start
abbrev pub notes : Start → Derived → List ℕ → List SignedClaim → Notes
notes start now needed stated = record { needed = needed; steps = steps_since start now; stated = stated }

-- what the edge of a number says
abbrev pub edge_literal : ExplanationSetting → ℕ → Literal
edge_literal s k = literal_claimed s.table (edge_says s.truths (numbered s.edges k))

-- what holds where the literals are denied
abbrev pub all_denied : TableView → List SignedClaim → List Literal
all_denied t stated = map complement (map (claim_as_literal t) stated)

-- A literal is derived once what the needed edges say is, from all steps that are logged, where the last clause is
-- denied.
abbrev pub ShowsLiteral : ExplanationSetting → Notes → Literal → Type 0
ShowsLiteral s n goal = (steps : List (List Literal)) (assumed : List Literal) → IsWithin n.steps steps
    → IsWithin (all_denied s.table n.stated) assumed
    → ((i : ℕ) → Contains n.needed i → Propagates complement steps assumed (edge_literal s i))
    → Propagates complement steps assumed goal

-- More of the k oldest edges is needed, and more is logged and stated.
pub record NotesGrow (k : ℕ) (old new : Notes) : Type 0 where
  -- what was needed is
  pub kept : IsWithin old.needed new.needed
  -- what came is of the k oldest edges
  pub older : (j : ℕ) → Contains new.needed j → Contains old.needed j ⊎ (j < k)
  -- the steps are there
  pub steps : IsWithin old.steps new.steps
  -- and so are the literals
  pub stated : IsWithin old.stated new.stated

-- Numbers of edges that came among others.
pub record AddsEdges (old more new : List ℕ) : Type 0 where
  -- those that were there are there
  pub kept : IsWithin old new
  -- those that came too
  pub there : IsWithin more new
  -- and no others
  pub no_others : (k : ℕ) → Contains new k → Contains old k ⊎ Contains more k

-- the numbers of a path's edges
abbrev pub edges_on : List PathStep → List ℕ
edges_on path = map (λ (s : PathStep). s.edge) path

-- that two terms are equality_claim is shown, whichever of the oldest edges link them
abbrev pub TellsPair : ExplanationSetting → Notes → Notes → TermId → TermId → Type 0
TellsPair s old new x y = (k : ℕ) → k ≤ length s.edges → Linked (older s.edges k) x.0 y.0
    → NotesGrow k old new × ShowsLiteral s new (literal_claimed s.table (Equality x y))

-- what a clause denies is shown
abbrev pub ShowsDenied : ExplanationSetting → Notes → List SignedClaim → Type 0
ShowsDenied s n clause = All (λ m. ShowsLiteral s n (complement (claim_as_literal s.table m))) clause

-- what a clause denies of terms that are linked to others, one by one, is shown, whichever of the oldest edges link
-- them
abbrev pub TellsClause : ExplanationSetting → Notes → Notes → List TermId → List TermId → List SignedClaim → Type 0
TellsClause s old new xs ys clause = (k : ℕ) → k ≤ length s.edges → roots (older s.edges k) xs
    ≡ roots (older s.edges k) ys → NotesGrow k old new × ShowsDenied s new clause

-- so it is of all that differ
abbrev pub TellsPairs : ExplanationSetting → Notes → Notes → List TermId → List TermId → Type 0
TellsPairs s old new xs ys = TellsClause s old new xs ys (all_unequal xs ys)

-- what the edge of a number says is shown
abbrev pub TellsEdge : ExplanationSetting → ℕ → Notes → Notes → Type 0
TellsEdge s k old new = NotesGrow k old new × ShowsLiteral s new (edge_literal s k)

-- the clauses by which a literal's term is equality_claim to its truth value: the truth value, and that the term has it
abbrev pub decision : TableView → Truths → Lit → List (List Literal)
decision t ts l =
    (claim_as_literal t (value_claim (truth_of ts l.positive) l.positive) ∷ [])
    ∷ (claim_as_literal t (equality_claim l.term (truth_of ts l.positive)) ∷ claim_as_literal t (denied l)
    ∷ claim_as_literal t (value_claim (truth_of ts l.positive) (not l.positive)) ∷ [])
    ∷ []

-- the clauses by which `true` and `false` are not equality_claim
abbrev pub apart : TableView → Truths → List (List Literal)
apart t ts =
    (claim_as_literal t (unequal ts.true_term ts.false_term) ∷ claim_as_literal t (value_claim ts.true_term false)
    ∷ claim_as_literal t (value_claim ts.false_term true) ∷ [])
    ∷ (claim_as_literal t (value_claim ts.true_term true) ∷ [])
    ∷ (claim_as_literal t (value_claim ts.false_term false) ∷ [])
    ∷ []

-- a literal of the last clause denies a literal that is the label of an edge
abbrev pub IsDenial : ExplanationSetting → SignedClaim → Type 0
IsDenial s m = (l : Lit) × (k : ℕ) × (k < length s.edges) × ((numbered s.edges k).label ≡ Held l) × (m ≡ denied l)

-- What is so while edges are explained.
pub record Going (s : ExplanationSetting) (goal : Literal) (n : Notes) : Type 0 where
  -- those that are needed are edges
  pub there : All (λ k. k < length s.edges) n.needed
  -- what is to be explained is shown by what they say
  pub shown : ShowsLiteral s n goal
  -- the last clause denies held literals alone
  pub held : All (IsDenial s) n.stated

-- One edge more is explained, by older ones.
pub record GoesOn (s : ExplanationSetting) (k : ℕ) (old new : Notes) : Type 0 where
  -- what it says is shown
  pub told : TellsEdge s k old new
  -- the last clause denies held literals alone, if it did
  pub held : All (IsDenial s) old.stated → All (IsDenial s) new.stated

-- That two terms are equality_claim is derived, where the last clause is denied, which denies held literals alone.
pub record IsCollected (s : ExplanationSetting) (steps : List (List Literal)) (x y : TermId)
    (stated : List SignedClaim) : Type 0 where
  -- it is derived
  pub shown : Propagates complement steps (all_denied s.table stated) (literal_claimed s.table (Equality x y))
  -- from what is held
  pub held : All (IsDenial s) stated

-- The clause of a step denies held literals, and has no others but these.
pub record IsExplained (s : ExplanationSetting) (now : Derived) (others : List SignedClaim) (id : StepId) : Type 0 where
  -- the step is one of the log's
  pub there : id.0 < length now.log
  -- its literals
  pub clause : List SignedClaim
  pub literals : literals_in now.table now.log id ≡ map (claim_as_literal s.table) clause
  -- each denies a held literal, or is one of the others
  pub each : All (λ m. IsDenial s m ⊎ Contains others m) clause

-- the literals of a conflict's clause that deny nothing that is held: the equality whose negation is
abbrev pub others_of : Conflict → List SignedClaim
others_of conflicts.Truths = []
others_of (conflicts.Sides e) = value_claim e true ∷ []

-- Numbers of a log's steps from one on.
pub record AreNumbersFrom (log : List Logged) (from : ℕ) (ids : List StepId) : Type 0 where
  -- each is one of the log's
  pub there : All (λ id. id.0 < length log) ids
  -- from that number on
  pub later : All (λ id. from ≤ id.0) ids
  -- and they are all
  pub all : map (logged_at log) ids ≡ drop from log
