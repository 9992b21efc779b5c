-- Terms that are put, and steps with them.
use Rattle.std.proofs.Common.{◌≡◌, Bool, true, false, List, [], ◌∷◌, map, refl, sym, ap, ◌∙◌, subst}
use Rattle.std.specs.Prelude.{Result, Ok, Err, IfOk, All}
use Rattle.std.proofs.lemmas.List.Elements.{All-head, All-tail}
use Rattle.spec_sorts.specs.Terms.{Sort, Symbol, Equal, Term, sort_of, same_sort, head_takes, negated}
use Rattle.spec_sorts.specs.WellSorted.{IsWellSorted, IsFormulaOver}
use Rattle.spec_sorts.proofs.WellSorted.{before, same_sort_itself}
use Rattle.spec_sorts.specs.Literals.{literal_of, literals_of, complement}
use Rattle.spec_equality.specs.Reasons.{equal}
use Rattle.spec_rules.specs.Schemes.{signed_term}
use Rattle.spec_derivations.specs.Lemmas.{IsMadeOf, is_negation}
use Rattle.no_memory.specs.declared.NoMemory.{NoMemory}
use Rattle.term_core.specs.declared.ids.TermId.{TermId}
use Rattle.term_core.specs.declared.nodes.Node.{Node}
use Rattle.term_core.specs.declared.nodes.Head.TheVariants as heads
use Rattle.term_core.specs.Tables.{TableView, term_at, IsIn, node_term, shape_term, positive_literal}
use Rattle.term_core.proofs.TermsExtend.{term_at-kept}
use Rattle.term_core.proofs.TermsLiteral.{literal_of-negated}
use Rattle.proof_log.specs.Logs.{IsFormulaIn}
use Rattle.term_clauses.specs.Stating.{Widens}
use Rattle.term_clauses.proofs.Parts.{symbols_same, formula_kept, signed_in}
use Rattle.term_clauses.proofs.Choosing.{term_kept}
use Rattle.congruence_explain.specs.declared.claims.Claim.{Claim}
use Rattle.congruence_explain.specs.declared.claims.Claim.TheVariants.{Equality, Atom}
use Rattle.congruence_explain.specs.declared.claims.SignedClaim.{SignedClaim}
use Rattle.congruence_explain.specs.Claims.{term_claimed, claim_as_term, claim_as_literal, IsClaimIn, IsClaimOf}

-- the equality of two terms of one sort is a formula
pub equality_formula : (symbols : List Symbol) (t u : Term) → IsWellSorted symbols [] t → IsWellSorted symbols [] u → sort_of t ≡ sort_of u → IsFormulaOver symbols (equal t u)
unfolding sort_of
equality_formula symbols t u t_sorted u_sorted same =
    let takes : head_takes [] Equal (sort_of t ∷ sort_of u ∷ []) ≡ true = ap (λ (s : Sort). same_sort (sort_of t) s) (sym same) ∙ same_sort_itself (sort_of t) in
    record { term = before symbols [] Equal (t ∷ u ∷ []) takes tt (t_sorted, (u_sorted, tt)); sort = refl }

-- what a claim says is a formula
pub claim_formula : (t : TableView) (c : Claim) → IsClaimIn t c → IsFormulaOver t.symbols (term_claimed t c)
claim_formula t (Equality a b) h = equality_formula t.symbols (term_at t a) (term_at t b) h.0.1 h.1.1 h.2
claim_formula t (Atom a) h = h.0.1

-- what is made of some terms is in particular a claim
pub claims_in : (terms : List Term) (t : TableView) (clause : List SignedClaim) → All (λ s. IsClaimOf terms t s.claim) clause → All (λ s. IsClaimIn t s.claim) clause
claims_in terms t clause h k d lt = (h k d lt).0

-- and so are its literals
pub claimed_made : (terms : List Term) (t : TableView) (s : SignedClaim) → IsClaimOf terms t s.claim → IsMadeOf terms (claim_as_term t s)
claimed_made terms t s h = go s.positive
  where
    go : (p : Bool) → IsMadeOf terms (signed_term p (term_claimed t s.claim))
    go true = h.1
    go false = is_negation (term_claimed t s.claim) h.1

module _ (t u : TableView) (wider : Widens t u) where
  -- a claim stays one
  pub claim_same : (c : Claim) → IsClaimIn t c → term_claimed u c ≡ term_claimed t c
  claim_same (Equality a b) h = λ i. equal (term_at-kept t u wider.terms a h.0.0 i) (term_at-kept t u wider.terms b h.1.0 i)
  claim_same (Atom a) h = term_at-kept t u wider.terms a h.0.0

  pub claim_kept : (c : Claim) → IsClaimIn t c → IsClaimIn u c
  claim_kept (Equality a b) h = (
    term_kept t u wider a h.0,
    term_kept t u wider b h.1,
    ap sort_of (term_at-kept t u wider.terms a h.0.0) ∙ h.2 ∙ sym (ap sort_of (term_at-kept t u wider.terms b h.1.0)),
  )
  claim_kept (Atom a) h = (formula_kept t u wider a h.0, subst (λ (x : Term). literal_of x ≡ positive_literal x) (sym (term_at-kept t u wider.terms a h.0.0)) h.1)

  pub claimed_same : (s : SignedClaim) → IsClaimIn t s.claim → claim_as_term u s ≡ claim_as_term t s
  claimed_same s h = ap (signed_term s.positive) (claim_same s.claim h)

  pub clause_same : (clause : List SignedClaim) → All (λ s. IsClaimIn t s.claim) clause → map (claim_as_term u) clause ≡ map (claim_as_term t) clause
  clause_same [] h = refl
  clause_same (s ∷ clause) h = λ i. claimed_same s (All-head (λ s. IsClaimIn t s.claim) s clause h) i ∷ clause_same clause (All-tail (λ s. IsClaimIn t s.claim) s clause h) i

  -- a formula that is put
  formula_put : (x : Term) (id : TermId) → IsFormulaOver t.symbols x → IsIn u id → term_at u id ≡ x → IsFormulaIn u id
  formula_put x id formula there is = (
    there,
    subst (λ (fs : List Symbol). IsFormulaOver fs (term_at u id)) (sym (symbols_same t u wider)) (subst (IsFormulaOver t.symbols) (sym is) formula),
  )

  -- an equality
  pub equality_put : (a b : TermId) (node : Node) → node.head ≡ heads.Equal → node.arguments.items ≡ a ∷ b ∷ [] → IsClaimIn t (Equality a b)
      → (r : Result TermId NoMemory) → IfOk r (λ id. IsIn u id × (term_at u id ≡ node_term t node)) → IfOk r (λ id. IsFormulaIn u id × (term_at u id ≡ term_claimed t (Equality a b)))
  equality_put a b node head arguments h (Ok id) put =
      let shape : node_term t node ≡ equal (term_at t a) (term_at t b) = λ i. shape_term t (record { head = head i; arguments = arguments i }) in
      let is = put.1 ∙ shape in
      (formula_put (equal (term_at t a) (term_at t b)) id (claim_formula t (Equality a b) h) put.0 is, is)
  equality_put a b node head arguments h (Err e) put = tt

  -- a negation
  pub negation_put : (id : TermId) (node : Node) → node.head ≡ heads.Not → node.arguments.items ≡ id ∷ [] → IsFormulaIn t id
      → (r : Result TermId NoMemory) → IfOk r (λ n. IsIn u n × (term_at u n ≡ node_term t node)) → IfOk r (λ n. IsFormulaIn u n × (term_at u n ≡ signed_term false (term_at t id)))
  negation_put id node head arguments h (Ok n) put =
      let shape : node_term t node ≡ negated (term_at t id) = λ i. shape_term t (record { head = head i; arguments = arguments i }) in
      let is = put.1 ∙ shape in
      (signed_in t u wider false id n h put.0 is, is)
  negation_put id node head arguments h (Err e) put = tt

-- the literal of the term that is put
pub literal_put : (t : TableView) (s : SignedClaim) → IsClaimIn t s.claim → literal_of (claim_as_term t s) ≡ claim_as_literal t s
unfolding literal_of
literal_put t s h = go s.claim s.positive h
  where
    claim_literal : (c : Claim) → IsClaimIn t c → literal_of (term_claimed t c) ≡ positive_literal (term_claimed t c)
    claim_literal (Equality a b) h = refl
    claim_literal (Atom a) h = h.1

    go : (c : Claim) (p : Bool) → IsClaimIn t c → literal_of (signed_term p (term_claimed t c)) ≡ record { atom = term_claimed t c; positive = p }
    go c true h = claim_literal c h
    go c false h = literal_of-negated (term_claimed t c) ∙ ap complement (claim_literal c h)

pub literals_put : (t : TableView) (clause : List SignedClaim) → All (λ s. IsClaimIn t s.claim) clause → literals_of (map (claim_as_term t) clause) ≡ map (claim_as_literal t) clause
literals_put t [] h = refl
literals_put t (s ∷ clause) h = λ i. literal_put t s (All-head (λ s. IsClaimIn t s.claim) s clause h) i ∷ literals_put t clause (All-tail (λ s. IsClaimIn t s.claim) s clause h) i
