-- What the literals of a clause say, before their terms are put.
use Rattle.std.specs.Prelude.{◌≡◌, ◌==◌, ◌&&◌, ◌||◌, Bool, true, false, not, List, [], ◌∷◌, if◌then◌else◌}
use Rattle.spec_sorts.specs.Terms.{Term, sort_of}
use Rattle.spec_sorts.specs.Literals.{Literal}
use Rattle.spec_equality.specs.Reasons.{equal as equal_terms}
use Rattle.spec_rules.specs.Schemes.{signed_term}
use Rattle.spec_derivations.specs.Lemmas.{IsMadeOf}
use Rattle.term_core.specs.declared.ids.TermId.{TermId}
use Rattle.term_core.specs.declared.ids.Lit.{Lit}
use Rattle.term_core.specs.Tables.{TableView, term_at}
use Rattle.explain_forest.specs.declared.types.Edge.{Edge}
use Rattle.explain_forest.specs.declared.types.PathStep.{PathStep}
use Rattle.explain_forest.specs.declared.types.Label.{Label}
use Rattle.explain_forest.specs.declared.types.Label.TheVariants.{Held, Arguments}
use Rattle.congruence_relation.specs.declared.Truths.{Truths}
use Rattle.congruence_relation.specs.Relation.{truth_of}
use Rattle.proof_log.specs.Logs.{IsFormulaIn}
use Rattle.proof_log.specs.Theories.{IsTermIn, IsAtomIn}
use Rattle.congruence_explain.specs.declared.claims.Claim.{Claim}
use Rattle.congruence_explain.specs.declared.claims.Claim.TheVariants.{Equality, Atom}
use Rattle.congruence_explain.specs.declared.claims.SignedClaim.{SignedClaim}

-- what no number of terms means
abbrev pub no_term_id : TermId
no_term_id = record { 0 = 0 }

-- the formula of a claim
abbrev pub term_claimed : TableView → Claim → Term
term_claimed t (Equality a b) = equal_terms (term_at t a) (term_at t b)
term_claimed t (Atom a) = term_at t a

-- the term of a literal
abbrev pub claim_as_term : TableView → SignedClaim → Term
claim_as_term t s = signed_term s.positive (term_claimed t s.claim)

-- the literal that it is
abbrev pub claim_as_literal : TableView → SignedClaim → Literal
claim_as_literal t s = record { atom = term_claimed t s.claim; positive = s.positive }

-- the literal that a claim is as it is
abbrev pub literal_claimed : TableView → Claim → Literal
literal_claimed t c = record { atom = term_claimed t c; positive = true }

-- the formula can be put: its sides are terms over the symbols, of one sort; or it is a formula that is no negation
abbrev pub IsClaimIn : TableView → Claim → Type 0
IsClaimIn t (Equality a b) = IsTermIn t a × IsTermIn t b × (sort_of (term_at t a) ≡ sort_of (term_at t b))
IsClaimIn t (Atom a) = IsAtomIn t a

-- and is made of these terms
abbrev pub IsClaimOf : List Term → TableView → Claim → Type 0
IsClaimOf terms t c = IsClaimIn t c × IsMadeOf terms (term_claimed t c)

-- a formula of the table is this term
abbrev pub IsClaimPut : TableView → Term → TermId → Type 0
IsClaimPut t u id = IsFormulaIn t id × (term_at t id ≡ u)

-- that two terms are equality_claim
abbrev pub equality_claim : TermId → TermId → SignedClaim
equality_claim a b = record { claim = Equality a b; positive = true }

-- that two terms are not
abbrev pub unequal : TermId → TermId → SignedClaim
unequal a b = record { claim = Equality a b; positive = false }

-- the term of a truth value as it is, or its negation
abbrev pub value_claim : TermId → Bool → SignedClaim
value_claim value positive = record { claim = Atom value; positive = positive }

-- the complement of a literal
abbrev pub denied : Lit → SignedClaim
denied l = record { claim = Atom l.term; positive = not l.positive }

-- the two ends are these, in either direction
abbrev pub joins : TermId → TermId → TermId → TermId → Bool
joins a b x y = (a.0 == x.0 && b.0 == y.0) || (a.0 == y.0 && b.0 == x.0)

-- A clause has one literal, whose formula is the equality of two terms.
pub record IsOneEquality (t : TableView) (clause : List SignedClaim) (x y : TermId) : Type 0 where
  -- the literal
  pub one : SignedClaim
  -- there is no other
  pub clause_is : clause ≡ one ∷ []
  -- its formula
  pub formula : term_claimed t one.claim ≡ equal_terms (term_at t x) (term_at t y)

-- What an edge between two terms says by its label, in either direction. By arguments it says that its terms are
-- equality_claim. A held literal says
-- so of its term and its truth value, where the edge is between these; else it says itself.
abbrev pub says : Truths → Label → TermId → TermId → Claim
says ts (Arguments x y) a b = Equality x y
says ts (Held l) a b = if joins a b l.term (truth_of ts l.positive) then Equality l.term (truth_of ts l.positive) else
    Atom l.term

-- what an edge says
abbrev pub edge_says : Truths → Edge → Claim
edge_says ts e = says ts e.label e.a e.b

-- what the edge of a step says, denied
abbrev pub denied_step : Truths → PathStep → SignedClaim
denied_step ts s = record { claim = says ts s.label s.from s.to; positive = false }

-- each two terms in one place that differ are not equality_claim
abbrev pub all_unequal : List TermId → List TermId → List SignedClaim
all_unequal (x ∷ xs) (y ∷ ys) = if x.0 == y.0 then all_unequal xs ys else unequal x y ∷ all_unequal xs ys
all_unequal _ _ = []
