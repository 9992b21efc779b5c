-- Steps along paths: what they deny, that their clause is right, and what it shows.
use Rattle.std.proofs.Common.{◌≡◌, ◌≢◌, ℕ, ◌<◌, ◌≤◌, ◌==◌, ◌⊎◌, inl, inr, true, false, List, [], ◌∷◌, ◌++◌, map, length, get_or, if◌then◌else◌, refl, sym, ap, ◌∙◌, subst, arith, append-nil}
use Rattle.std.specs.Prelude.{All, Contains, Some, Option}
use Rattle.std.proofs.lemmas.Bool.{cases_eq}
use Rattle.std.proofs.lemmas.Bool.Decides.{nat_tests}
use Rattle.std.proofs.lemmas.List.{map-append}
use Rattle.std.proofs.lemmas.List.Elements.{All-map, All-push, All-contains, All-head, All-tail, Contains-push, Contains-get_or}
use Rattle.spec_text.specs.Trees.{none}
use Rattle.spec_text.proofs.Members.{to_image, first}
use Rattle.spec_sorts.specs.Terms.{Term}
use Rattle.spec_sorts.specs.Literals.{Literal, complement}
use Rattle.spec_equality.specs.Reasons.{equal as equal_terms, denied as term_denied, Joins, Lead}
use Rattle.spec_proofs.specs.declared.Rule.TheVariants as rules
use Rattle.spec_proofs.specs.Resolution.{Derives as Propagates}
use Rattle.spec_rules.specs.Rules.{IsRight}
use Rattle.spec_derivations.specs.Lemmas.{is_equality}
use Rattle.term_core.specs.declared.ids.TermId.{TermId}
use Rattle.term_core.specs.Tables.{TableView, term_at, IsIn}
use Rattle.term_core.proofs.TermsExtend.{term_at-kept}
use Rattle.term_core.proofs.Numbers.{same_id}
use Rattle.term_clauses.specs.Stating.{Widens}
use Rattle.explain_forest.specs.declared.types.Edge.{Edge}
use Rattle.explain_forest.specs.declared.types.PathStep.{PathStep}
use Rattle.explain_forest.specs.Forest.{ForestState, Linked, path, numbered, older, PathLeads, IsAlong}
use Rattle.explain_forest.proofs.Linking.{older-linked, length-older}
use Rattle.explain_forest.proofs.Leading.{path-leads, path-along}
use Rattle.explain_forest.proofs.Paths.{path-none}
use Rattle.congruence_relation.specs.declared.Truths.{Truths}
use Rattle.congruence_relation.specs.Relation.{Facts, terms_listed}
use Rattle.congruence_explain.specs.declared.claims.Claim.{Claim}
use Rattle.congruence_explain.specs.declared.claims.Claim.TheVariants.{Equality}
use Rattle.congruence_explain.specs.declared.claims.SignedClaim.{SignedClaim}
use Rattle.congruence_explain.specs.Rules.{path_rule}
use Rattle.congruence_explain.specs.Claims.{term_claimed, claim_as_term, claim_as_literal, literal_claimed, IsClaimIn, IsClaimOf, equality_claim, says, edge_says, IsOneEquality, denied_step}
use Rattle.congruence_explain.specs.Basis.{IsBasis, AreLinkedIn}
use Rattle.congruence_explain.specs.Steps.{ExplanationSetting, Notes, ShowsLiteral, NotesGrow, AddsEdges, edges_on, TellsPair}
use Rattle.congruence_explain.proofs.Terms.{claim_same}
use Rattle.congruence_explain.proofs.Shown.{grows_needed, shows_last}
use Rattle.congruence_explain.proofs.Facts.{number_term, says_turned, linked_sorts, edge_joins, edge_in}

-- a step along an edge says what this does
pub step_says : (ts : Truths) (es : List Edge) (s : PathStep) → IsAlong es s → says ts s.label s.from s.to ≡ edge_says ts (numbered es s.edge)
step_says ts es s (lt, inl e) = λ i. says ts (e i).label (e i).from (e i).to
step_says ts es s (lt, inr e) =
    (λ i. says ts (e i).label (e i).from (e i).to) ∙ says_turned ts (numbered es s.edge).label (numbered es s.edge).b (numbered es s.edge).a

-- the clause of a path
abbrev pub path_clause : Truths → List PathStep → TermId → TermId → List SignedClaim
path_clause ts steps x y = map (denied_step ts) steps ++ equality_claim x y ∷ []

-- a step joins its ends
abbrev pub StepJoins : TableView → Truths → PathStep → Type 0
StepJoins t ts s = Joins (Some (term_claimed t (says ts s.label s.from s.to))) (term_at t s.from) (term_at t s.to)

-- what a path denies leads from its first term to its last
path_lead : (t : TableView) (ts : Truths) (steps : List PathStep) (x y : ℕ) → PathLeads x steps y → All (StepJoins t ts) steps
    → Lead (map term_denied (map (claim_as_term t) (map (denied_step ts) steps))) (number_term t x) (number_term t y)
path_lead t ts [] x y e h = ap (number_term t) e
path_lead t ts (s ∷ steps) x y (e, rest) h = (
  term_at t s.to,
  subst (λ n. Joins (Some (term_claimed t (says ts s.label s.from s.to))) (number_term t n) (term_at t s.to)) e (All-head (StepJoins t ts) s steps h),
  path_lead t ts steps s.to.0 y rest (All-tail (StepJoins t ts) s steps h),
)

module _ (t : TableView) (ts : Truths) (v : ForestState) (f : Facts) (b : IsBasis t ts v f) where
  step_joins : (s : PathStep) → IsAlong v.edges s → StepJoins t ts s
  step_joins s (lt, inl e) =
      subst (λ (z : PathStep). Joins (Some (term_claimed t (says ts z.label z.from z.to))) (term_at t z.from) (term_at t z.to)) (sym e) (edge_joins t ts v f b s.edge lt)
  step_joins s (lt, inr e) =
      subst (λ (z : PathStep). Joins (Some (term_claimed t (says ts z.label z.from z.to))) (term_at t z.from) (term_at t z.to)) (sym e)
      (subst (λ c. Joins (Some (term_claimed t c)) (term_at t (numbered v.edges s.edge).b) (term_at t (numbered v.edges s.edge).a))
      (says_turned ts (numbered v.edges s.edge).label (numbered v.edges s.edge).a (numbered v.edges s.edge).b) (turned (edge_joins t ts v f b s.edge lt)))
    where
      turned : {r : Option Term} {x y : Term} → Joins r x y → Joins r y x
      turned (inl p) = inr p
      turned (inr p) = inl p

  -- the equality of linked terms can be put
  pub linked_in : (x y : TermId) → AreLinkedIn (terms_listed t f) t v x y → IsClaimOf (terms_listed t f) t (Equality x y)
  linked_in x y h = ((h.one, h.other, linked_sorts t ts v f b x.0 y.0 h.linked), is_equality (term_at t x) (term_at t y) h.one_made h.other_made)

  -- what a path denies can be put
  pub steps_in : (x y : TermId) → All (λ s. IsClaimOf (terms_listed t f) t s.claim) (map (denied_step ts) (path v.edges x.0 y.0))
  steps_in x y = All-map (λ (s : SignedClaim). IsClaimOf (terms_listed t f) t s.claim) (denied_step ts) (path v.edges x.0 y.0) (λ k d lt. step_in (get_or (path v.edges x.0 y.0) k d) (path-along v.edges x.0 y.0 k d lt))
    where
      step_in : (s : PathStep) → IsAlong v.edges s → IsClaimOf (terms_listed t f) t (says ts s.label s.from s.to)
      step_in s along = subst (IsClaimOf (terms_listed t f) t) (sym (step_says ts v.edges s along)) (edge_in t ts v f b s.edge along.0)

  -- and so can its clause
  pub path_in : (x y : TermId) → AreLinkedIn (terms_listed t f) t v x y → All (λ s. IsClaimOf (terms_listed t f) t s.claim) (path_clause ts (path v.edges x.0 y.0) x y)
  path_in x y h = All-push (λ (s : SignedClaim). IsClaimOf (terms_listed t f) t s.claim) (map (denied_step ts) (path v.edges x.0 y.0)) (equality_claim x y) (steps_in x y) (linked_in x y h)

  -- which is right
  pub path_right : (x y : TermId) → AreLinkedIn (terms_listed t f) t v x y → IsRight (path_rule x y) [] none (map (claim_as_term t) (path_clause ts (path v.edges x.0 y.0) x y))
  path_right x y h = go (cases_eq x.0 y.0)
    where
      steps : List PathStep
      steps = path v.edges x.0 y.0

      split : map (claim_as_term t) (path_clause ts steps x y) ≡ map (claim_as_term t) (map (denied_step ts) steps) ++ equal_terms (term_at t x) (term_at t y) ∷ []
      split = map-append (claim_as_term t) (map (denied_step ts) steps) (equality_claim x y ∷ [])

      leads : PathLeads x.0 steps y.0
      leads = path-leads v.edges x.0 y.0 h.linked

      nonempty : (ss : List PathStep) → PathLeads x.0 ss y.0 → x.0 ≢ y.0 → map (claim_as_term t) (map (denied_step ts) ss) ≢ []
      nonempty [] l d e = d l
      nonempty (s ∷ ss) l d e = cc

      go : (x.0 ≡ y.0) ⊎ (x.0 ≢ y.0) → IsRight (path_rule x y) [] none (map (claim_as_term t) (path_clause ts steps x y))
      go (inl e) =
          let test : (x.0 == y.0) ≡ true = grind (arith, nat_tests) in
          let empty : steps ≡ [] = (λ i. path v.edges x.0 (sym e i)) ∙ path-none v.edges x.0 in
          let whole : map (claim_as_term t) (path_clause ts steps x y) ≡ equal_terms (term_at t x) (term_at t x) ∷ [] =
          (λ i. map (claim_as_term t) (path_clause ts (empty i) x (same_id y x (sym e) i))) in
          subst (λ c. IsRight (if c then rules.EqReflexive else rules.EqTransitive) [] none (map (claim_as_term t) (path_clause ts steps x y))) (sym test)
          (subst (λ c. IsRight rules.EqReflexive [] none c) (sym whole) (term_at t x, refl))
      go (inr d) =
          let test : (x.0 == y.0) ≡ false = grind (arith, nat_tests) in
          subst (λ c. IsRight (if c then rules.EqReflexive else rules.EqTransitive) [] none (map (claim_as_term t) (path_clause ts steps x y))) (sym test) (
            record { literals = map (claim_as_term t) (map (denied_step ts) steps); one = term_at t x; other = term_at t y; same = split },
            nonempty steps leads d,
            path_lead t ts steps x.0 y.0 leads (λ k e lt. step_joins (get_or steps k e) (path-along v.edges x.0 y.0 k e lt)),
          )

-- the edges of a path are the forest's
pub path_low : (es : List Edge) (x y : ℕ) → All (λ (s : PathStep). s.edge < length es) (path es x y)
path_low es x y = λ k d lt. (path-along es x y k d lt).0

-- what is shown by a path whose edges are needed
module _ (s : ExplanationSetting) (needed after : List ℕ) (steps steps_after : List (List Literal)) (x y : TermId) (adds : AddsEdges needed (edges_on (path s.edges x.0 y.0)) after) where
  abbrev told_path : List PathStep
  told_path = path s.edges x.0 y.0

  abbrev told_notes : Notes
  told_notes = record { needed = after; steps = steps_after; stated = [] }

  low : (k : ℕ) → k ≤ length s.edges → Linked (older s.edges k) x.0 y.0 → All (λ (z : PathStep). z.edge < k) told_path
  low k le linked = subst (λ (ss : List PathStep). All (λ (z : PathStep). z.edge < k) ss) (sym (older-linked s.edges k x.0 y.0 linked).1)
      (subst (λ n. All (λ (z : PathStep). z.edge < n) (path (older s.edges k) x.0 y.0)) (length-older s.edges k le) (path_low (older s.edges k) x.0 y.0))

  grows : (more : List (List Literal)) → steps_after ≡ steps ++ more → (k : ℕ) → k ≤ length s.edges → Linked (older s.edges k) x.0 y.0 → NotesGrow k (record { needed = needed; steps = steps; stated = [] }) told_notes
  grows more is k le linked = grows_needed k needed after (edges_on told_path) steps steps_after more [] adds (All-map (λ i. i < k) (λ (z : PathStep). z.edge) told_path (low k le linked)) is

  step_shown : (z : PathStep) → Contains told_path z → ShowsLiteral s told_notes (complement (claim_as_literal s.table (denied_step s.truths z)))
  step_shown z z_in = λ more assumed sw aw ih.
      subst (λ c. Propagates complement more assumed (literal_claimed s.table c))
      (sym (step_says s.truths s.edges z (All-contains (IsAlong s.edges) told_path z (path-along s.edges x.0 y.0) z_in))) (ih z.edge (adds.there z.edge (to_image (λ (w : PathStep). w.edge) told_path z z_in)))

  -- with the step of its clause
  pub tells_path : steps_after ≡ steps ++ map (claim_as_literal s.table) (path_clause s.truths told_path x y) ∷ [] → TellsPair s (record { needed = needed; steps = steps; stated = [] }) told_notes x y
  tells_path is = λ k le linked. (
    grows (map (claim_as_literal s.table) (path_clause s.truths told_path x y) ∷ []) is k le linked,
    shows_last s told_notes (map (denied_step s.truths) told_path) (equality_claim x y)
        (subst (λ ds. Contains ds (map (claim_as_literal s.table) (path_clause s.truths told_path x y))) (sym is) (Contains-push steps (map (claim_as_literal s.table) (path_clause s.truths told_path x y))))
        (All-map (λ m. ShowsLiteral s told_notes (complement (claim_as_literal s.table m))) (denied_step s.truths) told_path
        (λ j d lt. step_shown (get_or told_path j d) (Contains-get_or told_path j d lt))),
  )

  -- and without one, where the path is an edge that says so
  pub tells_edge_alone : steps_after ≡ steps → (m : SignedClaim) → map (denied_step s.truths) told_path ≡ m ∷ [] → term_claimed s.table m.claim ≡ equal_terms (term_at s.table x) (term_at s.table y)
      → TellsPair s (record { needed = needed; steps = steps; stated = [] }) told_notes x y
  tells_edge_alone is m alone says_so = λ k le linked. (
    grows [] (is ∙ sym (append-nil steps)) k le linked,
    go told_path (λ z i. i) alone,
  )
    where
      go : (ss : List PathStep) → ((z : PathStep) → Contains ss z → Contains told_path z) → map (denied_step s.truths) ss ≡ m ∷ [] → ShowsLiteral s told_notes (literal_claimed s.table (Equality x y))
      go [] there e = absurd (cc)
      go (z ∷ w ∷ ss) there e = absurd (cc)
      go (z ∷ []) there e =
          let one : denied_step s.truths z ≡ m = cc in
          let same : complement (claim_as_literal s.table (denied_step s.truths z)) ≡ literal_claimed s.table (Equality x y) =
          ap (λ (n : SignedClaim). complement (claim_as_literal s.table (record { claim = n.claim; positive = false }))) one ∙ ap (λ (u : Term). let l : Literal = record { atom = u; positive = true } in l) says_so in
          subst (ShowsLiteral s told_notes) same (step_shown z (there z (first z [])))

-- it says so over the table of the start too
pub one_equality_back : (t u : TableView) → Widens t u → (clause : List SignedClaim) → All (λ s. IsClaimIn t s.claim) clause → (x y : TermId) → IsIn t x → IsIn t y → (q : IsOneEquality u clause x y)
    → term_claimed t q.one.claim ≡ equal_terms (term_at t x) (term_at t y)
one_equality_back t u wider clause claims x y x_in y_in q =
    let one = All-head (λ (s : SignedClaim). IsClaimIn t s.claim) q.one [] (subst (All (λ (s : SignedClaim). IsClaimIn t s.claim)) q.clause_is claims) in
    sym (claim_same t u wider q.one.claim one) ∙ q.formula ∙ (λ i. equal_terms (term_at-kept t u wider.terms x x_in i) (term_at-kept t u wider.terms y y_in i))

-- a clause of one literal
pub one_equality_of : (t : TableView) (clause : List SignedClaim) (d : SignedClaim) (x y : TermId) (c : Claim) → 1 ≤ length clause → length clause < 2 → (get_or clause 0 d).claim ≡ c → term_claimed t c ≡ equal_terms (term_at t x) (term_at t y) → IsOneEquality t clause x y
one_equality_of t [] d x y c some few is says_so = absurd (omega (arith, some))
one_equality_of t (m ∷ n ∷ ms) d x y c some few is says_so = absurd (omega (arith, few))
one_equality_of t (m ∷ []) d x y c some few is says_so = record { one = m; clause_is = refl; formula = ap (term_claimed t) is ∙ says_so }
