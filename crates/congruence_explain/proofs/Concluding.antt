-- The last clause: that it follows, and is false under what is held.
use Rattle.std.proofs.Common.{◌≡◌, ◌≢◌, ℕ, ◌+◌, ◌<◌, ◌≤◌, ◌⊎◌, inl, inr, Bool, true, false, not, List, [], ◌∷◌, ◌++◌, map, length, drop, get_or, refl, sym, ap, ◌∙◌, subst, arith, append-nil, append_assoc, add-one}
use Rattle.std.specs.Prelude.{All, Contains, Result, Ok, Err, IfOk}
use Rattle.std.proofs.Math.Seq.{drop-cons}
use Rattle.std.proofs.lemmas.Bool.{cases_eq, not-true}
use Rattle.std.proofs.lemmas.List.{map-append, drop-map, drop_all}
use Rattle.std.proofs.lemmas.List.Elements.{All-nil, All-cons, All-push, All-weaker, All-contains, All-head, All-tail, Contains-append_right, Contains-push, Contains-get_or}
use Rattle.spec_text.specs.Trees.{none}
use Rattle.spec_text.proofs.Members.{first, later, only, cases, to_image, from_image, none as none_in}
use Rattle.spec_sorts.specs.Terms.{True, False, Term, of, negated}
use Rattle.spec_sorts.specs.Literals.{Literal, literals_of, complement}
use Rattle.spec_equality.specs.Reasons.{equal as equal_terms}
use Rattle.spec_proofs.specs.declared.Rule.TheVariants.{EqTransitive}
use Rattle.spec_proofs.specs.Resolution.{Derives as Propagates, given, unit, IsWithin}
use Rattle.spec_rules.specs.Rules.{IsRight}
use Rattle.spec_derivations.proofs.Learned.{decide_literals}
use Rattle.spec_derivations.specs.Lemmas.{IsLemma}
use Rattle.no_memory.specs.declared.NoMemory.{NoMemory}
use Rattle.term_core.specs.declared.ids.TermId.{TermId}
use Rattle.term_core.specs.declared.ids.Lit.{Lit}
use Rattle.term_core.specs.Tables.{TableView, term_at, IsIn, AreIn, clause_at, literal_at, AreDifferent, Extends, Shape, shape_term}
use Rattle.term_core.proofs.TermsExtend.{Extends-self, IsIn-kept, literal_at-kept}
use Rattle.term_core.proofs.Numbers.{same_id}
use Rattle.clause_literals.specs.Literals.{lit_complement}
use Rattle.clause_literals.proofs.LiteralLists.{negation_twice}
use Rattle.clause_literals.proofs.TableLiterals.{literals_apart}
use Rattle.explain_forest.specs.declared.types.Edge.{Edge}
use Rattle.explain_forest.specs.declared.types.PathStep.{PathStep}
use Rattle.explain_forest.specs.declared.types.Label.TheVariants.{Held}
use Rattle.explain_forest.specs.Forest.{ForestState, Linked, path, numbered, older, PathLeads, IsAlong}
use Rattle.explain_forest.proofs.Levels.{numbered-top, numbered-older}
use Rattle.explain_forest.proofs.Leading.{path-leads, path-along}
use Rattle.congruence_relation.specs.declared.Truths.{Truths}
use Rattle.congruence_relation.specs.declared.Conflict.{Conflict}
use Rattle.congruence_relation.specs.declared.Conflict.TheVariants as conflicts
use Rattle.congruence_relation.specs.Relation.{Application, Facts, terms_listed}
use Rattle.congruence_relation.specs.Edges.{IsEdgeReason, IsConflict}
use Rattle.congruence_relation.proofs.Agree.{equality_term}
use Rattle.proof_log.specs.declared.premises.StepId.{StepId}
use Rattle.proof_log.specs.Logs.{Logged, logged_at, no_logged, clauses_in, inference_of, derivation_in, IsLogOf}
use Rattle.proof_log.specs.Clashes.{HasLit, IsClash}
use Rattle.proof_log.specs.Theories.{Derived, DerivesLemmas, derived}
use Rattle.congruence_explain.specs.declared.claims.Claim.TheVariants.{Equality, Atom}
use Rattle.congruence_explain.specs.declared.claims.SignedClaim.{SignedClaim}
use Rattle.congruence_explain.specs.Claims.{no_term_id, claim_as_term, claim_as_literal, literal_claimed, IsClaimOf, equality_claim, unequal, denied, value_claim}
use Rattle.congruence_explain.specs.Basis.{IsBasis, AreLinkedIn, IsEqualityIn, HasLinkedSides}
use Rattle.congruence_explain.specs.Steps.{Start, begun, spoken, Explains, literals_logged, steps_since, ExplanationSetting, setting, HasPut, all_denied, apart, IsDenial, IsCollected, IsExplained, others_of, AreNumbersFrom}
use Rattle.congruence_explain.specs.Needing.{HasFalsePremise}
use Rattle.congruence_explain.specs.Choosing.{HasPutSome}
use Rattle.congruence_explain.proofs.Shown.{derives_more, by_clause, within_more, denied_more}
use Rattle.congruence_explain.proofs.Facts.{reason_at, argument_term, argument_made, held_made, held_atom, truth_made, truths_in}

-- a table with a log that is right, where nothing came
pub derives_none : (terms : List Term) (t : TableView) (log : List Logged) → IsLogOf t log → DerivesLemmas terms (derived t log) (derived t log)
derives_none terms t log right = record {
  table = Extends-self t;
  declared = refl;
  more = [];
  log = sym (append-nil log);
  right = right;
  lemmas = All-nil (λ l. IsLemma terms (derivation_in t log) (length log) (inference_of t l));
}

-- numbers of steps, one more
pub numbers_more : (log : List Logged) (ids all : List StepId) (n from : ℕ) (id : StepId) → id.0 ≡ n → n < length log → all ≡ ids ++ id ∷ [] → map (logged_at log) ids ++ drop n log ≡ drop from log → map (logged_at log) all ++ drop (n + 1) log ≡ drop from log
numbers_more log ids all n from id is lt last so =
    ap (λ z. map (logged_at log) z ++ drop (n + 1) log) last ∙ ap (λ z. z ++ drop (n + 1) log) (map-append (logged_at log) ids (id ∷ []))
    ∙ append_assoc (map (logged_at log) ids) (logged_at log id ∷ []) (drop (n + 1) log) ∙ ap (λ z. map (logged_at log) ids ++ z) (sym next) ∙ so
  where
    next : drop n log ≡ logged_at log id ∷ drop (n + 1) log
    next = drop-cons log n no_logged lt ∙ (λ i. get_or log (sym is i) no_logged ∷ drop (sym (add-one n) i) log)

pub numbers_all : (log : List Logged) (ids : List StepId) (n from : ℕ) → length log ≤ n → map (logged_at log) ids ++ drop n log ≡ drop from log → map (logged_at log) ids ≡ drop from log
numbers_all log ids n from le so = sym (ap (λ z. map (logged_at log) ids ++ z) (drop_all n log le) ∙ append-nil (map (logged_at log) ids)) ∙ so

pub premise_literals : (t : TableView) (log : List Logged) (ids : List StepId) → map literals_of (map (clause_at t) (clauses_in log ids)) ≡ map (literals_logged t) (map (logged_at log) ids)
premise_literals t log [] = refl
premise_literals t log (id ∷ ids) = ap (λ z. literals_logged t (logged_at log id) ∷ z) (premise_literals t log ids)

-- the premises are the steps since the start
pub premises_are : (start : Start) (t : TableView) (log : List Logged) (ids : List StepId) → AreNumbersFrom log (length start.log) ids → map literals_of (map (clause_at t) (clauses_in log ids)) ≡ steps_since start (derived t log)
premises_are start t log ids numbers = premise_literals t log ids ∙ ap (map (literals_logged t)) numbers.all ∙ sym (drop-map (literals_logged t) (length start.log) log)

-- the two sides of an equality are equal and are not: a step's clause is false
pub sides_refuted : (s : ExplanationSetting) (terms : List Term) (steps : List (List Literal)) (e a c : TermId) (stated clause : List SignedClaim) → AreDifferent s.table.terms → IsEqualityIn s.table e a c → IsCollected s steps a c stated
    → All (λ (m : SignedClaim). IsClaimOf terms s.table m.claim) stated → (Contains stated (value_claim e false) → ⊥) → clause ≡ stated ++ value_claim e true ∷ [] → HasFalsePremise steps (all_denied s.table clause)
sides_refuted s terms steps e a c stated clause differ q collected claims free is = go (literal_claimed s.table (Equality a c)) refl collected.shown
  where
    last : Contains (all_denied s.table clause) (complement (claim_as_literal s.table (value_claim e true)))
    last = to_image complement (map (claim_as_literal s.table) clause) (claim_as_literal s.table (value_claim e true)) (to_image (claim_as_literal s.table) clause (value_claim e true) (subst (λ zs. Contains zs (value_claim e true)) (sym is) (Contains-push stated (value_claim e true))))

    same : complement (claim_as_literal s.table (value_claim e true)) ≡ complement (literal_claimed s.table (Equality a c))
    same = ap (λ (x : Term). let l : Literal = record { atom = x; positive = false } in l) q.is

    more : IsWithin (all_denied s.table stated) (all_denied s.table clause)
    more = denied_more s.table stated clause (within_more stated clause (value_claim e true ∷ []) is)

    -- a claim that denies a literal, whose complement says that the sides are equal
    denies_it : (x : SignedClaim) → Contains stated x → complement (claim_as_literal s.table x) ≡ literal_claimed s.table (Equality a c) → IsDenial s x → x ≡ value_claim e false
    denies_it x i says (l, k, lt, label, d) =
        let whole : complement (claim_as_literal s.table (denied l)) ≡ literal_claimed s.table (Equality a c) = ap (λ (y : SignedClaim). complement (claim_as_literal s.table y)) (sym d) ∙ says in
        let own : IsClaimOf terms s.table (denied l).claim = subst (λ (y : SignedClaim). IsClaimOf terms s.table y.claim) d (All-contains (λ (m : SignedClaim). IsClaimOf terms s.table m.claim) stated x claims i) in
        let term : term_at s.table l.term ≡ term_at s.table e = ap (λ (y : Literal). y.atom) whole ∙ sym q.is in
        let id : l.term ≡ e = same_id l.term e (differ l.term.0 e.0 own.0.0.0 q.there term) in
        let sign : not l.positive ≡ false = not-true (not l.positive) (ap (λ (y : Literal). y.positive) whole) in
        d ∙ (λ j. let y : SignedClaim = record { claim = Atom (id j); positive = sign j } in y)

    go : (g : Literal) → g ≡ literal_claimed s.table (Equality a c) → Propagates complement steps (all_denied s.table stated) g → HasFalsePremise steps (all_denied s.table clause)
    go _ e_is (given l i) =
        let w = from_image complement (map (claim_as_literal s.table) stated) l i in
        let x = from_image (claim_as_literal s.table) stated w.0 w.1 in
        absurd (free (subst (Contains stated) (denies_it x.0 x.1 (ap complement x.2 ∙ w.2 ∙ e_is) (All-contains (IsDenial s) stated x.0 collected.held x.1)) x.1))
    go _ e_is (unit d l d_in l_in others) = (
      d,
      d_in,
      λ m i. elim (decide_literals m l) [
        | inl here ↦ given (complement m) (subst (Contains (all_denied s.table clause)) (same ∙ ap complement (sym (here ∙ e_is))) last)
        | inr differs ↦ derives_more steps steps (all_denied s.table stated) (all_denied s.table clause) (λ x j. j) more (complement m) (others m i differs)
      ],
    )

-- `true` and `false` are equal and are not: so a step's clause is
pub truths_refuted : (s : ExplanationSetting) (steps after : List (List Literal)) (stated : List SignedClaim) → IsCollected s steps s.truths.true_term s.truths.false_term stated → after ≡ steps ++ apart s.table s.truths → HasFalsePremise after (all_denied s.table stated)
truths_refuted s steps after stated collected is = (
  not_off ∷ [],
  step_in (not_off ∷ []) (later clause ((yes ∷ []) ∷ (not_off ∷ []) ∷ []) (not_off ∷ []) (later (yes ∷ []) ((not_off ∷ []) ∷ []) (not_off ∷ []) (first (not_off ∷ []) []))),
  λ m i. subst (λ (z : Literal). Propagates complement after assumed (complement z)) (only not_off m i) off_derived,
)
  where
    assumed : List Literal
    assumed = all_denied s.table stated

    joined : Literal
    joined = claim_as_literal s.table (unequal s.truths.true_term s.truths.false_term)

    yes : Literal
    yes = claim_as_literal s.table (value_claim s.truths.true_term true)

    not_yes : Literal
    not_yes = claim_as_literal s.table (value_claim s.truths.true_term false)

    off : Literal
    off = claim_as_literal s.table (value_claim s.truths.false_term true)

    not_off : Literal
    not_off = claim_as_literal s.table (value_claim s.truths.false_term false)

    clause : List Literal
    clause = joined ∷ not_yes ∷ off ∷ []

    step_in : (c : List Literal) → Contains (clause ∷ (yes ∷ []) ∷ (not_off ∷ []) ∷ []) c → Contains after c
    step_in c i = subst (λ zs. Contains zs c) (sym is) (Contains-append_right steps (clause ∷ (yes ∷ []) ∷ (not_off ∷ []) ∷ []) c i)

    yes_derived : Propagates complement after assumed yes
    yes_derived = by_clause after assumed (yes ∷ []) yes (step_in (yes ∷ []) (later clause ((yes ∷ []) ∷ (not_off ∷ []) ∷ []) (yes ∷ []) (first (yes ∷ []) ((not_off ∷ []) ∷ [])))) (first yes []) (λ m i. inl (sym (only yes m i)))

    joined_derived : Propagates complement after assumed (complement joined)
    joined_derived = derives_more steps after assumed assumed (within_more steps after (apart s.table s.truths) is) (λ x i. i) (complement joined) collected.shown

    off_derived : Propagates complement after assumed off
    off_derived = by_clause after assumed clause off (step_in clause (first clause ((yes ∷ []) ∷ (not_off ∷ []) ∷ []))) (later joined (not_yes ∷ off ∷ []) off (later not_yes (off ∷ []) off (first off [])))
        (λ m i. go m (cases joined (not_yes ∷ off ∷ []) m i))
      where
        rest : (m : Literal) → (not_yes ≡ m) ⊎ Contains (off ∷ []) m → (m ≡ off) ⊎ Propagates complement after assumed (complement m)
        rest m (inl e) = inr (subst (λ z. Propagates complement after assumed (complement z)) e yes_derived)
        rest m (inr i) = inl (sym (only off m i))

        go : (m : Literal) → (joined ≡ m) ⊎ Contains (not_yes ∷ off ∷ []) m → (m ≡ off) ⊎ Propagates complement after assumed (complement m)
        go m (inl e) = inr (subst (λ z. Propagates complement after assumed (complement z)) e joined_derived)
        go m (inr i) = rest m (cases not_yes (off ∷ []) m i)

-- the terms of an equality of the table are its two arguments
pub two_sides : (t : TableView) (s : Shape) (e a c : TermId) → AreIn t s.arguments → term_at t e ≡ shape_term t s → IsEqualityIn t e a c → (length s.arguments ≡ 2) × IsEqualityIn t e (get_or s.arguments 0 no_term_id) (get_or s.arguments 1 no_term_id)
two_sides t s e a c there means q = go s.arguments there (sym means ∙ q.is)
  where
    go : (ids : List TermId) → AreIn t ids → shape_term t (record { head = s.head; arguments = ids }) ≡ equal_terms (term_at t a) (term_at t c) → (length ids ≡ 2) × IsEqualityIn t e (get_or ids 0 no_term_id) (get_or ids 1 no_term_id)
    go [] h same = absurd (cc)
    go (x ∷ []) h same = absurd (cc)
    go (x ∷ y ∷ z ∷ ids) h same = absurd (cc)
    go (x ∷ y ∷ []) h same =
        let one : term_at t a ≡ term_at t x = cc in
        let other : term_at t c ≡ term_at t y = cc in
        (refl, record { there = q.there; one_there = h 0 x (omega arith); other_there = h 1 x (omega arith); is = q.is ∙ (λ i. equal_terms (one i) (other i)) })

-- and there are no others
pub one_equality : (t : TableView) → AreDifferent t.terms → (e a c x y : TermId) → IsEqualityIn t e a c → IsEqualityIn t e x y → (a ≡ x) × (c ≡ y)
one_equality t differ e a c x y p q =
    let same : equal_terms (term_at t a) (term_at t c) ≡ equal_terms (term_at t x) (term_at t y) = sym p.is ∙ q.is in
    let one : term_at t a ≡ term_at t x = cc in
    let other : term_at t c ≡ term_at t y = cc in
    (same_id a x (differ a.0 x.0 p.one_there q.one_there one), same_id c y (differ c.0 y.0 p.other_there q.other_there other))

-- what is so of all edges is so of that of a number
numbered_all : (P : Edge → Type 0) (es : List Edge) → All P es → (k : ℕ) → k < length es → P (numbered es k)
numbered_all P [] h k lt = absurd (omega (arith, lt))
numbered_all P (e ∷ es) h k lt = go (cases_eq k (length es)) (numbered_all P es (All-tail P e es h) k)
  where
    go : (k ≡ length es) ⊎ (k ≢ length es) → (k < length es → P (numbered es k)) → P (numbered (e ∷ es) k)
    go (inl p) ih = subst P (sym (numbered-top e es k p)) (All-head P e es h)
    go (inr p) ih = subst P (sym (numbered-older e es k p)) (ih (omega arith))

-- linked terms that differ are ends of edges
pub ends_there : (n : ℕ) (es : List Edge) → All (λ e. (e.a.0 < n) × (e.b.0 < n)) es → (x y : ℕ) → Linked es x y → x ≢ y → (x < n) × (y < n)
ends_there n es ends x y linked apart_terms = go (path es x y) (path-leads es x y linked) (path-along es x y)
  where
    end : (s : PathStep) → IsAlong es s → (s.from.0 < n) × (s.to.0 < n)
    end s (lt, inl e) = let p = numbered_all (λ e. (e.a.0 < n) × (e.b.0 < n)) es ends s.edge lt in (subst (λ (z : PathStep). z.from.0 < n) (sym e) p.0, subst (λ (z : PathStep). z.to.0 < n) (sym e) p.1)
    end s (lt, inr e) = let p = numbered_all (λ e. (e.a.0 < n) × (e.b.0 < n)) es ends s.edge lt in (subst (λ (z : PathStep). z.from.0 < n) (sym e) p.1, subst (λ (z : PathStep). z.to.0 < n) (sym e) p.0)

    last : (m : ℕ) → m < n → (ss : List PathStep) → PathLeads m ss y → All (IsAlong es) ss → y < n
    last m lt [] e h = subst (λ z. z < n) e lt
    last m lt (s ∷ ss) (e, rest) h = last s.to.0 (end s (All-head (IsAlong es) s ss h)).1 ss rest (All-tail (IsAlong es) s ss h)

    go : (ss : List PathStep) → PathLeads x ss y → All (IsAlong es) ss → (x < n) × (y < n)
    go [] e h = absurd (apart_terms e)
    go (s ∷ ss) (e, rest) h = let p = end s (All-head (IsAlong es) s ss h) in (subst (λ z. z < n) e p.0, last s.to.0 p.1 ss rest (All-tail (IsAlong es) s ss h))

module _ (t : TableView) (ts : Truths) (v : ForestState) (f : Facts) (b : IsBasis t ts v f) where
  -- a literal that labels an edge is held
  label_held : (k : ℕ) (l : Lit) → k < length v.edges → (numbered v.edges k).label ≡ Held l → Contains f.held l
  label_held k l lt label = (subst (IsEdgeReason f (older v.edges k) (numbered v.edges k)) label (reason_at f v.edges b.reasons k lt)).0

  -- so its denial can be put
  pub denials_in : (stated : List SignedClaim) → All (IsDenial (setting t ts v)) stated → All (λ s. IsClaimOf (terms_listed t f) t s.claim) stated
  denials_in stated h = All-weaker (IsDenial (setting t ts v)) (λ (s : SignedClaim). IsClaimOf (terms_listed t f) t s.claim) (λ m d. one m d) stated h
    where
      one : (m : SignedClaim) → IsDenial (setting t ts v) m → IsClaimOf (terms_listed t f) t m.claim
      one m (l, k, lt, label, is) = let held = label_held k l lt label in subst (λ (s : SignedClaim). IsClaimOf (terms_listed t f) t s.claim) (sym is) (held_atom t ts v f b l held, held_made t ts v f b l held)

  -- `true` and `false`, where they are linked
  pub truths_linked : Linked v.edges f.truths.true_term.0 f.truths.false_term.0 → AreLinkedIn (terms_listed t f) t v ts.true_term ts.false_term
  truths_linked linked =
      let h = truths_in t ts v f b in
      let own = subst (λ (us : Truths). Linked v.edges us.true_term.0 us.false_term.0) b.truths linked in
      let different : ts.true_term.0 ≢ ts.false_term.0 = λ e. let same : of True [] ≡ of False [] = sym h.true_is ∙ ap (term_at t) (same_id ts.true_term ts.false_term e) ∙ h.false_is in cc in
      let low = ends_there v.terms v.edges b.ends ts.true_term.0 ts.false_term.0 own different in
      record {
        one = h.true_term;
        other = h.false_term;
        one_made = truth_made (terms_listed t f) t ts h true;
        other_made = truth_made (terms_listed t f) t ts h false;
        one_there = low.0;
        other_there = low.1;
        linked = own;
      }

  -- the sides of an equality whose negation is held
  pub sides_linked : (e : TermId) → IsConflict f v.edges (conflicts.Sides e) → HasLinkedSides (terms_listed t f) t v e
  sides_linked e (held, (a, c, q, part, linked)) = record {
    atom = held_atom t ts v f b (record { term = e; positive = false }) held;
    made = held_made t ts v f b (record { term = e; positive = false }) held;
    one = a;
    other = c;
    equality = record { there = (held_atom t ts v f b (record { term = e; positive = false }) held).0.0; one_there = (argument_term t ts v f b q.at q.there a a_in).0; other_there = (argument_term t ts v f b q.at q.there c c_in).0; is = equality_term t f b.facts e a c q };
    linked = record {
      one = argument_term t ts v f b q.at q.there a a_in;
      other = argument_term t ts v f b q.at q.there c c_in;
      one_made = argument_made t ts v f b q.at q.there a a_in;
      other_made = argument_made t ts v f b q.at q.there c c_in;
      one_there = All-contains (λ (z : TermId). z.0 < v.terms) q.at.shape.arguments a low a_in;
      other_there = All-contains (λ (z : TermId). z.0 < v.terms) q.at.shape.arguments c low c_in;
      linked = linked;
    };
  }
    where
      both : q.at.shape.arguments ≡ a ∷ c ∷ []
      both = ap (λ (s : Shape). s.arguments) q.shape

      a_in : Contains q.at.shape.arguments a
      a_in = subst (λ zs. Contains zs a) (sym both) (first a (c ∷ []))

      c_in : Contains q.at.shape.arguments c
      c_in = subst (λ zs. Contains zs c) (sym both) (later a (c ∷ []) c (first c []))

      low : All (λ (z : TermId). z.0 < v.terms) q.at.shape.arguments
      low = All-contains (λ (x : Application). All (λ (z : TermId). z.0 < v.terms) x.shape.arguments) f.listed q.at b.arguments q.there

  -- the last clause is false under what is held
  pub explained_clash : (now : Derived) → Extends t now.table → AreDifferent now.table.terms → (conflict : Conflict) → IsConflict f v.edges conflict → (id : StepId) → IsExplained (setting t ts v) now (others_of conflict) id → IsClash now.table now.log f.held id
  explained_clash now more differ conflict wrong id e = record { in_log = e.there; fails = λ m has. fails m has }
    where
      same_lit : (l m : Lit) → IsIn t l.term → IsIn now.table m.term → literal_at t l ≡ literal_at now.table m → l ≡ m
      same_lit l m l_in m_in is = literals_apart now.table differ l m (IsIn-kept t now.table more l.term l_in) m_in (literal_at-kept t now.table more l l_in ∙ is)

      other : (c : Conflict) → IsConflict f v.edges c → (m : Lit) (x : SignedClaim) → Contains (others_of c) x → IsIn now.table m.term → claim_as_literal t x ≡ literal_at now.table m → Contains f.held (lit_complement m)
      other conflicts.Truths wrong m x i m_in is = absurd (none_in x i)
      other (conflicts.Sides side) wrong m x i m_in is =
          let l : Lit = record { term = side; positive = true } in
          let there = (held_atom t ts v f b (record { term = side; positive = false }) wrong.0).0.0 in
          subst (λ z. Contains f.held (lit_complement z)) (same_lit l m there m_in (ap (claim_as_literal t) (only (value_claim side true) x i) ∙ is)) wrong.0

      fails : (m : Lit) → HasLit now.table now.log id m → Contains f.held (lit_complement m)
      fails m has =
          let (x, x_in, x_is) = from_image (claim_as_literal t) e.clause (literal_at now.table m) (subst (λ ls. Contains ls (literal_at now.table m)) e.literals has.there) in
          go x x_is (All-contains (λ y. IsDenial (setting t ts v) y ⊎ Contains (others_of conflict) y) e.clause x e.each x_in)
        where
          go : (x : SignedClaim) → claim_as_literal t x ≡ literal_at now.table m → IsDenial (setting t ts v) x ⊎ Contains (others_of conflict) x → Contains f.held (lit_complement m)
          go x is (inr i) = other conflict wrong m x i has.in_table is
          go x is (inl (l, k, lt, label, d)) =
              let l_in = label_held k l lt label in
              let there = (held_atom t ts v f b l l_in).0.0 in
              let same = same_lit (lit_complement l) m there has.in_table (ap (claim_as_literal t) (sym d) ∙ is) in
              subst (Contains f.held) (sym (negation_twice l) ∙ ap lit_complement same) l_in

-- the last clause as it is put
pub explained_put : (s : ExplanationSetting) (start : Start) (now : Derived) (clause others : List SignedClaim) → s.table ≡ start.table → All (λ m. IsDenial s m ⊎ Contains others m) clause → (r : Result StepId NoMemory) → IfOk r (HasPutSome start now clause) → IfOk r (IsExplained s now others)
explained_put s start now clause others same each (Ok id) put = record {
  there = put.there;
  clause = put.kept;
  literals = put.literals ∙ ap (λ (t : TableView). map (claim_as_literal t) put.kept) (sym same);
  each = λ k d lt. All-contains (λ m. IsDenial s m ⊎ Contains others m) clause (get_or put.kept k d) each (put.within (get_or put.kept k d) (Contains-get_or put.kept k d lt));
}
explained_put s start now clause others same each (Err e) put = tt

-- an equality that is held with its negation
pub both_right : (t : TableView) (a c : TermId) → IsRight EqTransitive [] none (map (claim_as_term t) (unequal a c ∷ equality_claim a c ∷ []))
both_right t a c = (record { literals = negated (equal_terms (term_at t a) (term_at t c)) ∷ []; one = term_at t a; other = term_at t c; same = refl }, (λ e. cc), (term_at t c, inl refl, refl))

pub both_put : (s : ExplanationSetting) (start : Start) (old now : Derived) (e a c : TermId) (stated clause : List SignedClaim) → s.table ≡ start.table → IsEqualityIn start.table e a c → All (IsDenial s) stated → Contains stated (value_claim e false) → clause ≡ unequal a c ∷ equality_claim a c ∷ []
    → (r : Result StepId NoMemory) → IfOk r (HasPut start old now (map (claim_as_literal start.table) clause)) → IfOk r (IsExplained s now (value_claim e true ∷ []))
both_put s start old now e a c stated clause same q held there is (Ok id) put = record {
  there = put.there;
  clause = value_claim e false ∷ value_claim e true ∷ [];
  literals = put.clause_is ∙ ap (map (claim_as_literal start.table)) is ∙ (λ i. literal (sym q.is i) false ∷ literal (sym q.is i) true ∷ []) ∙ ap (λ (t : TableView). map (claim_as_literal t) (value_claim e false ∷ value_claim e true ∷ [])) (sym same);
  each = All-cons (λ m. IsDenial s m ⊎ Contains (value_claim e true ∷ []) m) (value_claim e false) (value_claim e true ∷ []) (inl (All-contains (IsDenial s) stated (value_claim e false) held there))
      (All-cons (λ m. IsDenial s m ⊎ Contains (value_claim e true ∷ []) m) (value_claim e true) [] (inr (first (value_claim e true) [])) (All-nil (λ m. IsDenial s m ⊎ Contains (value_claim e true ∷ []) m)));
}
  where
    literal : Term → Bool → Literal
    literal x p = record { atom = x; positive = p }
both_put s start old now e a c stated clause same q held there is (Err x) put = tt

pub each_denied : (s : ExplanationSetting) (others stated : List SignedClaim) → All (IsDenial s) stated → All (λ m. IsDenial s m ⊎ Contains others m) stated
each_denied s others stated h = All-weaker (IsDenial s) (λ m. IsDenial s m ⊎ Contains others m) (λ m d. inl d) stated h

-- with the one that is no denial
pub each_other : (s : ExplanationSetting) (stated clause : List SignedClaim) (m : SignedClaim) → clause ≡ stated ++ m ∷ [] → All (IsDenial s) stated → All (λ x. IsDenial s x ⊎ Contains (m ∷ []) x) clause
each_other s stated clause m is h = subst (All (λ x. IsDenial s x ⊎ Contains (m ∷ []) x)) (sym is) (All-push (λ x. IsDenial s x ⊎ Contains (m ∷ []) x) stated m (each_denied s (m ∷ []) stated h) (inr (first m [])))

-- the premises of the last clause came since the start
pub premises_since : (start : Start) (log : List Logged) (from : ℕ) (ids : List StepId) → from ≡ length start.log → AreNumbersFrom log from ids → All (λ (p : StepId). length start.log ≤ p.0) ids
premises_since start log from ids is numbers = subst (λ n. All (λ (p : StepId). n ≤ p.0) ids) is numbers.later

module _ (start : Start) (t : TableView) (log : List Logged) (same : begun start ≡ derived t log) (right : IsLogOf t log) where
  -- the start is derived
  pub start_derives : Explains start (derived t log)
  start_derives = subst (λ (d : Derived). DerivesLemmas (spoken start) d (derived t log)) (sym same) (derives_none (spoken start) t log right)

  -- and its steps are those of the log
  pub start_length : (from : ℕ) → from ≡ length log → from ≡ length start.log
  start_length from e = e ∙ ap (λ (d : Derived). length d.log) (sym same)

  -- the sides of an equality that are linked, as they are found
  pub sides_found : AreDifferent t.terms → (v : ForestState) (e a c : TermId) → HasLinkedSides (spoken start) start.table v e → IsEqualityIn t e a c → IsEqualityIn start.table e a c × AreLinkedIn (spoken start) start.table v a c
  sides_found differ v e a c h q =
      let moved : HasLinkedSides (spoken start) t v e = subst (λ (d : Derived). HasLinkedSides (spoken start) d.table v e) same h in
      let one = one_equality t differ e moved.one moved.other a c moved.equality q in (
        subst (λ (d : Derived). IsEqualityIn d.table e a c) (sym same) q,
        subst (λ (d : Derived). AreLinkedIn (spoken start) d.table v a c) (sym same) (subst (λ z. AreLinkedIn (spoken start) t v z c) one.0 (subst (λ z. AreLinkedIn (spoken start) t v moved.one z) one.1 moved.linked)),
      )
