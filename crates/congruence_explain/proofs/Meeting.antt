-- Terms with one head, whose arguments are linked.
use Rattle.std.proofs.Common.{◌≡◌, ◌≢◌, ℕ, suc, ◌<◌, ◌==◌, ◌⊎◌, inl, inr, true, false, List, [], ◌∷◌, ◌++◌, map, length, get_or, if◌then◌else◌, refl, sym, ap, ◌∙◌, subst, arith}
use Rattle.std.specs.Prelude.{All, Contains, Some, Option}
use Rattle.std.proofs.lemmas.Bool.{cases_eq}
use Rattle.std.proofs.lemmas.Bool.Decides.{nat_tests}
use Rattle.std.proofs.lemmas.List.{map-append, length-map}
use Rattle.std.proofs.lemmas.List.Elements.{All-nil, All-cons, All-push, All-head, All-tail, All-contains, Contains-get_or, Contains-push}
use Rattle.spec_text.specs.Trees.{none}
use Rattle.spec_text.proofs.Members.{to_image, later, first}
use Rattle.spec_sorts.specs.Terms.{Head, Term, terms_of, list_of, of}
use Rattle.spec_sorts.specs.Literals.{Literal}
use Rattle.spec_sorts.specs.Subsets.{arguments_of}
use Rattle.spec_sorts.proofs.General.{list_of-terms_of}
use Rattle.spec_equality.specs.Reasons.{equal as equal_terms, denied as term_denied, AreJoined, HaveJoinedArguments}
use Rattle.spec_rules.specs.Rules.{IsRight}
use Rattle.term_core.specs.declared.ids.TermId.{TermId}
use Rattle.term_core.specs.Tables.{TableView, term_at, IsIn, AreIn, clause_at, head_meant, AreDifferent, Extends}
use Rattle.term_core.proofs.TermsExtend.{term_at-kept, clause_at-kept, IsIn-kept, AreIn-kept}
use Rattle.term_core.proofs.Numbers.{same_id}
use Rattle.explain_forest.specs.Forest.{ForestState, root, numbered, older}
use Rattle.explain_forest.proofs.Linking.{older-linked}
use Rattle.congruence_relation.specs.declared.Truths.{Truths}
use Rattle.congruence_relation.specs.Relation.{Application, Facts, terms_listed}
use Rattle.congruence_relation.specs.Edges.{roots, Meet, IsEdgeReason}
use Rattle.congruence_explain.specs.declared.claims.Claim.TheVariants.{Equality}
use Rattle.congruence_explain.specs.declared.claims.SignedClaim.{SignedClaim}
use Rattle.congruence_explain.specs.Rules.{arguments_rule}
use Rattle.congruence_explain.specs.Claims.{no_term_id, claim_as_term, claim_as_literal, literal_claimed, IsClaimOf, equality_claim, unequal, says, edge_says, all_unequal}
use Rattle.congruence_explain.specs.Basis.{IsBasis, AreLinkedOr, IsByArguments}
use Rattle.congruence_explain.specs.Steps.{setting, Notes, ShowsLiteral, TellsPairs, TellsEdge}
use Rattle.congruence_explain.proofs.Shown.{grows_both, grows_steps, shows_each, shows_last}
use Rattle.congruence_explain.proofs.Facts.{reason_at, listed_term, listed_is, listed_fits, argument_term, argument_made, edge_in}
use Rattle.congruence_explain.proofs.Along.{linked_in}
use Rattle.congruence_explain.proofs.Pairs.{linked_at}

-- numbers of the same terms are the same
pub same_ids : (u : TableView) → AreDifferent u.terms → (xs ys : List TermId) → AreIn u xs → AreIn u ys → clause_at u xs ≡ clause_at u ys → xs ≡ ys
same_ids u differ [] [] p q e = refl
same_ids u differ [] (y ∷ ys) p q e = absurd (cc)
same_ids u differ (x ∷ xs) [] p q e = absurd (cc)
same_ids u differ (x ∷ xs) (y ∷ ys) p q e =
    let one : term_at u x ≡ term_at u y = cc in
    let rest : clause_at u xs ≡ clause_at u ys = cc in
    (λ i. same_id x y (differ x.0 y.0 (All-head (IsIn u) x xs p) (All-head (IsIn u) y ys q) one) i ∷ same_ids u differ xs ys (All-tail (IsIn u) x xs p) (All-tail (IsIn u) y ys q) rest i)

-- each denied equality is of two that differ
unequal_all_in : (terms : List Term) (t : TableView) (xs ys : List TermId) → ((i : ℕ) → i < length xs → (get_or xs i no_term_id).0 ≢ (get_or ys i no_term_id).0 → IsClaimOf terms t (Equality (get_or xs i no_term_id) (get_or ys i no_term_id)))
    → All (λ s. IsClaimOf terms t s.claim) (all_unequal xs ys)
unequal_all_in terms t [] ys h = All-nil (λ (s : SignedClaim). IsClaimOf terms t s.claim)
unequal_all_in terms t (x ∷ xs) [] h = All-nil (λ (s : SignedClaim). IsClaimOf terms t s.claim)
unequal_all_in terms t (x ∷ xs) (y ∷ ys) h = go (cases_eq x.0 y.0) (unequal_all_in terms t xs ys (λ i lt d. h (suc i) (omega arith) d))
  where
    go : (x.0 ≡ y.0) ⊎ (x.0 ≢ y.0) → All (λ s. IsClaimOf terms t s.claim) (all_unequal xs ys) → All (λ s. IsClaimOf terms t s.claim) (all_unequal (x ∷ xs) (y ∷ ys))
    go (inl e) rest = let test : (x.0 == y.0) ≡ true = grind (arith, nat_tests) in
        subst (λ c. All (λ (s : SignedClaim). IsClaimOf terms t s.claim) (if c then all_unequal xs ys else unequal x y ∷ all_unequal xs ys)) (sym test) rest
    go (inr d) rest = let test : (x.0 == y.0) ≡ false = grind (arith, nat_tests) in
        subst (λ c. All (λ (s : SignedClaim). IsClaimOf terms t s.claim) (if c then all_unequal xs ys else unequal x y ∷ all_unequal xs ys)) (sym test)
        (All-cons (λ (s : SignedClaim). IsClaimOf terms t s.claim) (unequal x y) (all_unequal xs ys) (h 0 (omega arith) d) rest)

-- the terms of these are joined by what is denied
joined_all : (t : TableView) (rs : List (Option Term)) (xs ys : List TermId) → length xs ≡ length ys → ((m : SignedClaim) → Contains (all_unequal xs ys) m → Contains rs (term_denied (claim_as_term t m))) → AreJoined rs (clause_at t xs) (clause_at t ys)
joined_all t rs [] [] e h = tt
joined_all t rs [] (y ∷ ys) e h = absurd (omega (arith, e))
joined_all t rs (x ∷ xs) [] e h = absurd (omega (arith, e))
joined_all t rs (x ∷ xs) (y ∷ ys) e h = go (cases_eq x.0 y.0) (joined_all t rs xs ys (omega (arith, e)))
  where
    go : (x.0 ≡ y.0) ⊎ (x.0 ≢ y.0) → (((m : SignedClaim) → Contains (all_unequal xs ys) m → Contains rs (term_denied (claim_as_term t m))) → AreJoined rs (clause_at t xs) (clause_at t ys)) → AreJoined rs (clause_at t (x ∷ xs)) (clause_at t (y ∷ ys))
    go (inl p) ih =
        let test : (x.0 == y.0) ≡ true = grind (arith, nat_tests) in
        let all : all_unequal (x ∷ xs) (y ∷ ys) ≡ all_unequal xs ys = ap (λ c. if c then all_unequal xs ys else unequal x y ∷ all_unequal xs ys) test in
        (inl (ap (term_at t) (same_id x y p)), ih (λ m i. h m (subst (λ ms. Contains ms m) (sym all) i)))
    go (inr d) ih =
        let test : (x.0 == y.0) ≡ false = grind (arith, nat_tests) in
        let all : all_unequal (x ∷ xs) (y ∷ ys) ≡ unequal x y ∷ all_unequal xs ys = ap (λ c. if c then all_unequal xs ys else unequal x y ∷ all_unequal xs ys) test in (
          inr (Some (equal_terms (term_at t x) (term_at t y)), h (unequal x y) (subst (λ ms. Contains ms (unequal x y)) (sym all) (first (unequal x y) (all_unequal xs ys))), inl refl),
          ih (λ m i. h m (subst (λ ms. Contains ms m) (sym all) (later (unequal x y) (all_unequal xs ys) m i))),
        )

-- one head before joined arguments
congruent_of : (rs : List (Option Term)) (h g : Head) (ts us : List Term) → h ≡ g → ts ≢ [] → AreJoined rs ts us → HaveJoinedArguments rs (of h ts) (of g us)
congruent_of rs h g ts us same some joined = (
  same,
  λ e. some (sym (list_of-terms_of ts) ∙ e),
  subst (λ xs. AreJoined rs xs (list_of (terms_of us))) (sym (list_of-terms_of ts)) (subst (AreJoined rs ts) (sym (list_of-terms_of us)) joined),
)

module _ (t : TableView) (ts : Truths) (v : ForestState) (f : Facts) (b : IsBasis t ts v f) (k : ℕ) (lt : k < length v.edges) (label : IsByArguments v.edges k) where
  -- the terms of the edge
  pub meet_at : Meet f (older v.edges k) (numbered v.edges k).a (numbered v.edges k).b
  meet_at = (subst (IsEdgeReason f (older v.edges k) (numbered v.edges k)) label (reason_at f v.edges b.reasons k lt)).2

  pub ends_in : (a c : TermId) → a ≡ (numbered v.edges k).a → c ≡ (numbered v.edges k).b → (u : TableView) → Extends t u → IsIn u a × IsIn u c
  ends_in a c a_is c_is u more = (
    IsIn-kept t u more a (subst (IsIn t) (meet_at.one_is ∙ sym a_is) (listed_term t ts v f b meet_at.one meet_at.one_there).0),
    IsIn-kept t u more c (subst (IsIn t) (meet_at.other_is ∙ sym c_is) (listed_term t ts v f b meet_at.other meet_at.other_there).0),
  )

  -- what a table that has grown says of the arguments of a listed term
  pub arguments_same : (u : TableView) → Extends t u → AreDifferent u.terms → (x : Application) → Contains f.listed x → (id : TermId) → x.term ≡ id → (ids : List TermId) → All (λ (z : TermId). z.0 < id.0) ids
      → clause_at u ids ≡ arguments_of (term_at u id) → ids ≡ x.shape.arguments
  arguments_same u more differ x there id is ids low means = same_ids u differ ids x.shape.arguments
      (λ j d small. let p : (get_or ids j d).0 < id.0 = low j d small in let q : id.0 < length u.terms = IsIn-kept t u more id (subst (IsIn t) is (listed_term t ts v f b x there).0) in omega arith)
      (AreIn-kept t u more x.shape.arguments (listed_fits t ts v f b x there).arguments)
      (means ∙ ap arguments_of (term_at-kept t u more id (subst (IsIn t) is (listed_term t ts v f b x there).0) ∙ ap (term_at t) (sym is) ∙ sym (listed_is t ts v f b x there))
      ∙ list_of-terms_of (clause_at t x.shape.arguments) ∙ sym (clause_at-kept t u more x.shape.arguments (listed_fits t ts v f b x there).arguments))

  module _ (xs ys : List TermId) (xs_are : xs ≡ meet_at.one.shape.arguments) (ys_are : ys ≡ meet_at.other.shape.arguments) where
    -- they are linked by the older edges
    pub roots_linked : roots (older v.edges k) xs ≡ roots (older v.edges k) ys
    roots_linked = ap (roots (older v.edges k)) xs_are ∙ meet_at.arguments ∙ ap (roots (older v.edges k)) (sym ys_are)

    pub as_many : length xs ≡ length ys
    as_many = sym (length-map xs (λ (z : TermId). root (older v.edges k) z.0)) ∙ ap length roots_linked ∙ length-map ys (λ (z : TermId). root (older v.edges k) z.0)

    -- so each two are one or linked
    pub each_linked : (i : ℕ) → i < length xs → AreLinkedOr (terms_listed t f) t v (get_or xs i no_term_id) (get_or ys i no_term_id)
    each_linked i h = inr (record {
      one = argument_term t ts v f b meet_at.one meet_at.one_there (get_or xs i no_term_id) x_in;
      other = argument_term t ts v f b meet_at.other meet_at.other_there (get_or ys i no_term_id) y_in;
      one_made = argument_made t ts v f b meet_at.one meet_at.one_there (get_or xs i no_term_id) x_in;
      other_made = argument_made t ts v f b meet_at.other meet_at.other_there (get_or ys i no_term_id) y_in;
      one_there = All-contains (λ (z : TermId). z.0 < v.terms) meet_at.one.shape.arguments (get_or xs i no_term_id) (All-contains (λ (x : Application). All (λ (z : TermId). z.0 < v.terms) x.shape.arguments) f.listed meet_at.one b.arguments meet_at.one_there) x_in;
      other_there = All-contains (λ (z : TermId). z.0 < v.terms) meet_at.other.shape.arguments (get_or ys i no_term_id) (All-contains (λ (x : Application). All (λ (z : TermId). z.0 < v.terms) x.shape.arguments) f.listed meet_at.other b.arguments meet_at.other_there) y_in;
      linked = (older-linked v.edges k (get_or xs i no_term_id).0 (get_or ys i no_term_id).0 (linked_at (older v.edges k) xs ys no_term_id roots_linked i h)).0;
    })
      where
        x_in : Contains meet_at.one.shape.arguments (get_or xs i no_term_id)
        x_in = subst (λ zs. Contains zs (get_or xs i no_term_id)) xs_are (Contains-get_or xs i no_term_id h)

        y_in : Contains meet_at.other.shape.arguments (get_or ys i no_term_id)
        y_in = subst (λ zs. Contains zs (get_or ys i no_term_id)) ys_are (Contains-get_or ys i no_term_id (subst (λ n. i < n) as_many h))

    module _ (a c : TermId) (a_is : a ≡ (numbered v.edges k).a) (c_is : c ≡ (numbered v.edges k).b) where
      -- what the edge says
      says_equal : edge_says ts (numbered v.edges k) ≡ Equality a c
      says_equal = ap (λ l. says ts l (numbered v.edges k).a (numbered v.edges k).b) label ∙ (λ i. Equality (sym a_is i) (sym c_is i))

      abbrev pub arguments_clause : List SignedClaim
      arguments_clause = all_unequal xs ys ++ equality_claim a c ∷ []

      -- the clause can be put
      pub arguments_in : All (λ s. IsClaimOf (terms_listed t f) t s.claim) arguments_clause
      arguments_in = All-push (λ (s : SignedClaim). IsClaimOf (terms_listed t f) t s.claim) (all_unequal xs ys) (equality_claim a c)
          (unequal_all_in (terms_listed t f) t xs ys (λ i h d. apart i d (each_linked i h)))
          (subst (IsClaimOf (terms_listed t f) t) says_equal (edge_in t ts v f b k lt))
        where
          apart : (i : ℕ) → (get_or xs i no_term_id).0 ≢ (get_or ys i no_term_id).0 → AreLinkedOr (terms_listed t f) t v (get_or xs i no_term_id) (get_or ys i no_term_id) → IsClaimOf (terms_listed t f) t (Equality (get_or xs i no_term_id) (get_or ys i no_term_id))
          apart i d (inl e) = absurd (d e)
          apart i d (inr h) = linked_in t ts v f b (get_or xs i no_term_id) (get_or ys i no_term_id) h

      a_term : term_at t a ≡ of (head_meant t meet_at.one.shape.head) (clause_at t xs)
      a_term = ap (term_at t) (a_is ∙ sym meet_at.one_is) ∙ sym (listed_is t ts v f b meet_at.one meet_at.one_there) ∙ (λ i. of (head_meant t meet_at.one.shape.head) (clause_at t (sym xs_are i)))

      c_term : term_at t c ≡ of (head_meant t meet_at.other.shape.head) (clause_at t ys)
      c_term = ap (term_at t) (c_is ∙ sym meet_at.other_is) ∙ sym (listed_is t ts v f b meet_at.other meet_at.other_there) ∙ (λ i. of (head_meant t meet_at.other.shape.head) (clause_at t (sym ys_are i)))

      heads_same : head_meant t meet_at.one.shape.head ≡ head_meant t meet_at.other.shape.head
      heads_same = ap (head_meant t) meet_at.heads

      -- and is right
      pub arguments_right : IsRight (arguments_rule xs) [] none (map (claim_as_term t) arguments_clause)
      arguments_right = go xs ys as_many a_term c_term
        where
          go : (xs ys : List TermId) → length xs ≡ length ys → term_at t a ≡ of (head_meant t meet_at.one.shape.head) (clause_at t xs) → term_at t c ≡ of (head_meant t meet_at.other.shape.head) (clause_at t ys)
              → IsRight (arguments_rule xs) [] none (map (claim_as_term t) (all_unequal xs ys ++ equality_claim a c ∷ []))
          go [] ys many p q = (term_at t a, λ i. equal_terms (term_at t a) (same i))
            where
              same : term_at t c ≡ term_at t a
              same = q ∙ (λ i. of (sym heads_same i) (clause_at t (empty ys many i))) ∙ sym p
                where
                  empty : (ys : List TermId) → 0 ≡ length ys → ys ≡ []
                  empty [] e = refl
                  empty (y ∷ ys) e = absurd (omega (arith, e))
          go (x ∷ xs) ys many p q = (
            record { literals = map (claim_as_term t) (all_unequal (x ∷ xs) ys); one = term_at t a; other = term_at t c; same = map-append (claim_as_term t) (all_unequal (x ∷ xs) ys) (equality_claim a c ∷ []) },
            subst (λ z. HaveJoinedArguments reasons z (term_at t c)) (sym p) (subst (HaveJoinedArguments reasons (of (head_meant t meet_at.one.shape.head) (clause_at t (x ∷ xs)))) (sym q)
                (congruent_of reasons (head_meant t meet_at.one.shape.head) (head_meant t meet_at.other.shape.head) (clause_at t (x ∷ xs)) (clause_at t ys) heads_same (λ e. cc)
                (joined_all t reasons (x ∷ xs) ys many (λ m i. to_image term_denied (map (claim_as_term t) (all_unequal (x ∷ xs) ys)) (claim_as_term t m) (to_image (claim_as_term t) (all_unequal (x ∷ xs) ys) m i))))),
          )
            where
              reasons : List (Option Term)
              reasons = map term_denied (map (claim_as_term t) (all_unequal (x ∷ xs) ys))

      -- and shows what the edge says
      pub arguments_shown : (needed after : List ℕ) (steps mid steps_after : List (List Literal))
          → TellsPairs (setting t ts v) (record { needed = needed; steps = steps; stated = [] }) (record { needed = after; steps = mid; stated = [] }) xs ys
          → steps_after ≡ mid ++ map (claim_as_literal t) arguments_clause ∷ []
          → TellsEdge (setting t ts v) k (record { needed = needed; steps = steps; stated = [] }) (record { needed = after; steps = steps_after; stated = [] })
      arguments_shown needed after steps mid steps_after told is =
          let s = setting t ts v in
          let old : Notes = record { needed = needed; steps = steps; stated = [] } in
          let one : Notes = record { needed = after; steps = mid; stated = [] } in
          let new : Notes = record { needed = after; steps = steps_after; stated = [] } in
          let pairs = told k (omega arith) roots_linked in
          let more = grows_steps k after mid steps_after (map (claim_as_literal t) arguments_clause ∷ []) [] is in (
            grows_both k old one new pairs.0 more,
            subst (λ z. ShowsLiteral s new (literal_claimed t z)) (sym says_equal)
                (shows_last s new (all_unequal xs ys) (equality_claim a c) (subst (λ zs. Contains zs (map (claim_as_literal t) arguments_clause)) (sym is) (Contains-push mid (map (claim_as_literal t) arguments_clause)))
                (shows_each s k one new more (all_unequal xs ys) pairs.1)),
          )
