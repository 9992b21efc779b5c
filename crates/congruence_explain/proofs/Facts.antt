-- What edges say, by their reasons, and that linked terms have one sort.
use Rattle.std.proofs.Common.{◌≡◌, ◌≢◌, ℕ, ◌<◌, ◌==◌, ◌&&◌, ◌||◌, ◌⊎◌, inl, inr, Bool, true, false, List, [], ◌∷◌, map, length, if◌then◌else◌, refl, sym, ap, ◌∙◌, subst, arith, true≢false}
use Rattle.std.specs.Prelude.{Contains, Some}
use Rattle.std.proofs.Math.Bool.{and_comm, or_comm}
use Rattle.std.proofs.lemmas.Bool.{cases_eq, cases_Bool}
use Rattle.std.proofs.lemmas.Bool.Decides.{nat_tests}
use Rattle.std.proofs.lemmas.List.Elements.{All-contains}
use Rattle.spec_text.proofs.Members.{to_image}
use Rattle.spec_sorts.specs.Terms.{Sort, Truth, True, False, Term, terms_of, of, sort_of, sort_given, second_sort, same_sort}
use Rattle.spec_sorts.specs.Subsets.{arguments_of}
use Rattle.spec_sorts.specs.WellSorted.{IsWellSorted}
use Rattle.spec_sorts.proofs.WellSorted.{same_sort_is}
use Rattle.spec_equality.specs.Congruence.{takes_part}
use Rattle.spec_equality.specs.Reasons.{equal as equal_terms, Joins}
use Rattle.spec_derivations.specs.Lemmas.{IsMadeOf, «given», is_true, is_false, is_equality}
use Rattle.spec_derivations.proofs.Below.{argument_sorted}
use Rattle.term_core.specs.declared.ids.TermId.{TermId}
use Rattle.term_core.specs.declared.ids.Lit.{Lit}
use Rattle.term_core.specs.Tables.{TableView, term_at, IsIn, clause_at, head_meant, Shape, shape_term, ShapeFits}
use Rattle.term_core.proofs.TermsClosed.{argument_in}
use Rattle.term_core.proofs.Numbers.{same_id}
use Rattle.explain_forest.specs.declared.types.Edge.{Edge}
use Rattle.explain_forest.specs.declared.types.Label.{Label}
use Rattle.explain_forest.specs.declared.types.Label.TheVariants.{Held, Arguments}
use Rattle.explain_forest.specs.Forest.{ForestState, root, Linked, numbered, older}
use Rattle.explain_forest.proofs.Roots.{root-under, root-elsewhere}
use Rattle.explain_forest.proofs.Linking.{older-all, older-later}
use Rattle.explain_forest.proofs.Levels.{numbered-top, numbered-older}
use Rattle.congruence_relation.specs.declared.Truths.{Truths}
use Rattle.congruence_relation.specs.Relation.{Application, Facts, truth_of, IsEquality, StatesEqual, decides, equates, terms_listed}
use Rattle.congruence_relation.specs.Edges.{roots, IsEdgeReason, EdgesHaveReasons}
use Rattle.congruence_relation.proofs.Agree.{equality_term}
use Rattle.proof_log.specs.Theories.{IsTermIn, IsAtomIn}
use Rattle.congruence_explain.specs.declared.claims.Claim.TheVariants.{Equality, Atom}
use Rattle.congruence_explain.specs.Claims.{term_claimed, IsClaimOf, joins, says, edge_says}
use Rattle.congruence_explain.specs.Basis.{IsBasis, AreTruths}

pub joins_turned : (a b x y : TermId) → joins a b x y ≡ joins b a x y
joins_turned a b x y = (λ i. and_comm (a.0 == x.0) (b.0 == y.0) i || and_comm (a.0 == y.0) (b.0 == x.0) i) ∙ or_comm (b.0 == y.0 && a.0 == x.0) (b.0 == x.0 && a.0 == y.0)

-- an edge says the same in the other direction
pub says_turned : (ts : Truths) (l : Label) (a b : TermId) → says ts l a b ≡ says ts l b a
says_turned ts (Arguments x y) a b = refl
says_turned ts (Held l) a b = ap (λ c. if c then Equality l.term (truth_of ts l.positive) else Atom l.term) (joins_turned a b l.term (truth_of ts l.positive))

pub same_joins : (a b : TermId) → joins a b a b ≡ true
same_joins a b = grind (arith, nat_tests)

-- the ends are these in either direction, or they are not
joins_cases : (a b x y : TermId) → (((a ≡ x) × (b ≡ y)) ⊎ ((a ≡ y) × (b ≡ x))) ⊎ (joins a b x y ≡ false)
joins_cases a b x y = first (cases_Bool (a.0 == x.0 && b.0 == y.0)) (cases_Bool (a.0 == y.0 && b.0 == x.0))
  where
    both : (a b x y : TermId) → (a.0 == x.0 && b.0 == y.0) ≡ true → (a ≡ x) × (b ≡ y)
    both a b x y e =
        let p : a.0 ≡ x.0 = grind (arith, nat_tests) in
        let q : b.0 ≡ y.0 = grind (arith, nat_tests) in
        (same_id a x p, same_id b y q)

    first : ((a.0 == x.0 && b.0 == y.0) ≡ true) ⊎ ((a.0 == x.0 && b.0 == y.0) ≡ false) → ((a.0 == y.0 && b.0 == x.0) ≡ true) ⊎ ((a.0 == y.0 && b.0 == x.0) ≡ false)
        → (((a ≡ x) × (b ≡ y)) ⊎ ((a ≡ y) × (b ≡ x))) ⊎ (joins a b x y ≡ false)
    first (inl p) q = inl (inl (both a b x y p))
    first (inr p) (inl q) = inl (inr (both a b y x q))
    first (inr p) (inr q) = inr (λ i. p i || q i)

-- the term of a number
abbrev pub number_term : TableView → ℕ → Term
number_term t n = term_at t (record { 0 = n })

-- its sort
abbrev pub number_sort : TableView → ℕ → Sort
number_sort t n = sort_of (number_term t n)

-- the reason of the edge of a number depends on older edges
pub reason_at : (f : Facts) (es : List Edge) → EdgesHaveReasons f es → (k : ℕ) → k < length es → IsEdgeReason f (older es k) (numbered es k) (numbered es k).label
reason_at f [] ok k h = absurd (omega arith)
reason_at f (e ∷ es) ok k h = go (cases_eq k (length es)) (reason_at f es ok.1 k)
  where
    go : (k ≡ length es) ⊎ (k ≢ length es) → (k < length es → IsEdgeReason f (older es k) (numbered es k) (numbered es k).label) → IsEdgeReason f (older (e ∷ es) k) (numbered (e ∷ es) k) (numbered (e ∷ es) k).label
    go (inl p) ih =
        let edges : older (e ∷ es) k ≡ es = older-later e es k (omega arith) ∙ older-all es k (omega arith) in
        subst (λ (ds : List Edge). IsEdgeReason f ds (numbered (e ∷ es) k) (numbered (e ∷ es) k).label) (sym edges) (subst (λ (d : Edge). IsEdgeReason f es d d.label) (sym (numbered-top e es k p)) ok.0)
    go (inr p) ih =
        let edges : older (e ∷ es) k ≡ older es k = older-later e es k (omega arith) in
        subst (λ (ds : List Edge). IsEdgeReason f ds (numbered (e ∷ es) k) (numbered (e ∷ es) k).label) (sym edges)
        (subst (λ (d : Edge). IsEdgeReason f (older es k) d d.label) (sym (numbered-older e es k p)) (ih (omega arith)))

-- the second of linked terms have one sort
second_same : (t : TableView) (es : List Edge) → ((n : ℕ) → number_sort t (root es n) ≡ number_sort t n) → (xs ys : List TermId) → roots es xs ≡ roots es ys
    → second_sort (terms_of (clause_at t xs)) ≡ second_sort (terms_of (clause_at t ys))
unfolding sort_of
second_same t es ih [] [] e = refl
second_same t es ih [] (y ∷ ys) e = absurd (cc)
second_same t es ih (x ∷ xs) [] e = absurd (cc)
second_same t es ih (x ∷ []) (y ∷ []) e = refl
second_same t es ih (x ∷ []) (y ∷ v ∷ ys) e = absurd (cc)
second_same t es ih (x ∷ u ∷ xs) (y ∷ []) e = absurd (cc)
second_same t es ih (x ∷ u ∷ xs) (y ∷ v ∷ ys) e = let same : root es u.0 ≡ root es v.0 = cc in sym (ih u.0) ∙ ap (number_sort t) same ∙ ih v.0

sort_written : (t : TableView) (s : Shape) → sort_of (shape_term t s) ≡ sort_given (head_meant t s.head) (second_sort (terms_of (clause_at t s.arguments)))
unfolding sort_of
sort_written t s = refl

pub true_sort : sort_of (of True []) ≡ Truth
unfolding sort_of
true_sort = refl

pub false_sort : sort_of (of False []) ≡ Truth
unfolding sort_of
false_sort = refl

-- the truth values are made of any terms
pub truth_made : (terms : List Term) (t : TableView) (ts : Truths) → AreTruths t ts → (p : Bool) → IsMadeOf terms (term_at t (truth_of ts p))
truth_made terms t ts h true = subst (IsMadeOf terms) (sym h.true_is) is_true
truth_made terms t ts h false = subst (IsMadeOf terms) (sym h.false_is) is_false

module _ (t : TableView) (ts : Truths) (v : ForestState) (f : Facts) (b : IsBasis t ts v f) where
  -- what a table says of a listed term
  listed : (x : Application) → Contains f.listed x → IsIn t x.term × ShapeFits t x.shape × (shape_term t x.shape ≡ term_at t x.term) × (x.takes_part ≡ takes_part (term_at t x.term))
  listed x there = All-contains (λ x. IsIn t x.term × ShapeFits t x.shape × (shape_term t x.shape ≡ term_at t x.term) × (x.takes_part ≡ takes_part (term_at t x.term))) f.listed x b.facts.terms there

  pub listed_term : (x : Application) → Contains f.listed x → IsTermIn t x.term
  listed_term x there = All-contains (λ x. IsTermIn t x.term) f.listed x b.terms there

  pub listed_is : (x : Application) → Contains f.listed x → shape_term t x.shape ≡ term_at t x.term
  listed_is x there = (listed x there).2

  pub listed_fits : (x : Application) → Contains f.listed x → ShapeFits t x.shape
  listed_fits x there = (listed x there).1

  -- an argument of one
  pub argument_term : (x : Application) → Contains f.listed x → (a : TermId) → Contains x.shape.arguments a → IsTermIn t a
  argument_term x there a i = (
    All-contains (IsIn t) x.shape.arguments a (listed_fits x there).arguments i,
    argument_sorted t.symbols [] (shape_term t x.shape) (subst (IsWellSorted t.symbols []) (sym (listed_is x there)) (listed_term x there).1) (term_at t a) (argument_in t x.shape a i),
  )

  -- a listed term is among the listed ones
  listed_there : (x : Application) → Contains f.listed x → Contains (terms_listed t f) (term_at t x.term)
  listed_there x there = to_image (λ (y : Application). term_at t y.term) f.listed x there

  pub listed_made : (x : Application) → Contains f.listed x → IsMadeOf (terms_listed t f) (term_at t x.term)
  listed_made x there = «given» (term_at t x.term) (listed_there x there)

  -- and so are its arguments
  pub argument_made : (x : Application) → Contains f.listed x → (a : TermId) → Contains x.shape.arguments a → IsMadeOf (terms_listed t f) (term_at t a)
  argument_made x there a i = «given» (term_at t a) (b.closed (term_at t x.term) (listed_there x there) (term_at t a)
      (subst (λ (u : Term). Contains (arguments_of u) (term_at t a)) (listed_is x there) (argument_in t x.shape a i)))

  -- and the term of a held literal
  pub held_made : (l : Lit) → Contains f.held l → IsMadeOf (terms_listed t f) (term_at t l.term)
  held_made l there =
      let (x, x_in, is) = All-contains (λ (m : Lit). (x : Application) × Contains f.listed x × (x.term ≡ m.term)) f.held l b.facts.held there in
      subst (λ z. IsMadeOf (terms_listed t f) (term_at t z)) is (listed_made x x_in)

  pub held_atom : (l : Lit) → Contains f.held l → IsAtomIn t l.term
  held_atom l there = All-contains (λ (l : Lit). IsAtomIn t l.term) f.held l b.atoms there

  -- `true` and `false`
  pub truths_in : AreTruths t ts
  truths_in = subst (AreTruths t) b.truths (record {
    true_term = (b.facts.true_there, subst (IsWellSorted t.symbols []) (sym b.facts.true_is) (Rattle.spec_sorts.proofs.WellSorted.before t.symbols [] True [] refl tt tt));
    true_is = b.facts.true_is;
    false_term = (b.facts.false_there, subst (IsWellSorted t.symbols []) (sym b.facts.false_is) (Rattle.spec_sorts.proofs.WellSorted.before t.symbols [] False [] refl tt tt));
    false_is = b.facts.false_is;
  })

  pub truth_in : (p : Bool) → IsTermIn t (truth_of ts p)
  truth_in true = truths_in.true_term
  truth_in false = truths_in.false_term

  pub truth_sort : (p : Bool) → sort_of (term_at t (truth_of ts p)) ≡ Truth
  truth_sort true = ap sort_of truths_in.true_is ∙ true_sort
  truth_sort false = ap sort_of truths_in.false_is ∙ false_sort

  -- the sides of a listed equality have one sort
  equality_sorts : (e x y : TermId) → IsEquality f.listed e x y → sort_of (term_at t x) ≡ sort_of (term_at t y)
  equality_sorts e x y q =
      let takes : same_sort (sort_of (term_at t x)) (sort_of (term_at t y)) ≡ true = subst (λ (s : Shape). Rattle.term_core.specs.Tables.takes (head_meant t s.head) (map sort_of (clause_at t s.arguments)) ≡ true) q.shape (listed_fits q.at q.there).sorts in
      same_sort_is (sort_of (term_at t x)) (sort_of (term_at t y)) takes

  states_sort : (l : Lit) (x y : TermId) → Contains f.held l → StatesEqual f l x y → sort_of (term_at t x) ≡ sort_of (term_at t y)
  states_sort l _ _ there decides = (held_atom l there).0.1.sort ∙ sym (truth_sort l.positive) ∙ ap (λ (us : Truths). sort_of (term_at t (truth_of us l.positive))) (sym b.truths)
  states_sort l x y there (equates _ _ positive q) = equality_sorts l.term x y q

  reason_sorts : (es : List Edge) → ((n : ℕ) → number_sort t (root es n) ≡ number_sort t n) → (e : Edge) (l : Label) → IsEdgeReason f es e l → number_sort t e.a.0 ≡ number_sort t e.b.0
  reason_sorts es ih e (Held l) (there, inl h) = states_sort l e.a e.b there h
  reason_sorts es ih e (Held l) (there, inr h) = sym (states_sort l e.b e.a there h)
  reason_sorts es ih e (Arguments x y) (x_is, y_is, m) =
      ap (λ z. sort_of (term_at t z)) (sym m.one_is) ∙ ap sort_of (sym (listed_is m.one m.one_there)) ∙ sort_written t m.one.shape
      ∙ (λ i. sort_given (head_meant t (m.heads i)) (second_same t es ih m.one.shape.arguments m.other.shape.arguments m.arguments i))
      ∙ sym (sort_written t m.other.shape) ∙ ap sort_of (listed_is m.other m.other_there) ∙ ap (λ z. sort_of (term_at t z)) m.other_is

  root_sorts : (es : List Edge) → EdgesHaveReasons f es → (n : ℕ) → number_sort t (root es n) ≡ number_sort t n
  root_sorts [] ok n = refl
  root_sorts (e ∷ es) ok n = go (cases_eq (root es n) (root es e.a.0)) (root_sorts es ok.1)
    where
      go : (root es n ≡ root es e.a.0) ⊎ (root es n ≢ root es e.a.0) → ((n : ℕ) → number_sort t (root es n) ≡ number_sort t n) → number_sort t (root (e ∷ es) n) ≡ number_sort t n
      go (inl p) ih = ap (number_sort t) (root-under e es n p) ∙ ih e.b.0 ∙ sym (reason_sorts es ih e e.label ok.0) ∙ sym (ih e.a.0) ∙ ap (number_sort t) (sym p) ∙ ih n
      go (inr p) ih = ap (number_sort t) (root-elsewhere e es n p) ∙ ih n

  -- linked terms have one sort
  pub linked_sorts : (x y : ℕ) → Linked v.edges x y → number_sort t x ≡ number_sort t y
  linked_sorts x y h = sym (root_sorts v.edges b.reasons x) ∙ ap (number_sort t) h ∙ root_sorts v.edges b.reasons y

  -- what a reason says joins the ends
  says_joins : (es : List Edge) (e : Edge) (l : Label) → IsEdgeReason f es e l → Joins (Some (term_claimed t (says ts l e.a e.b))) (term_at t e.a) (term_at t e.b)
  says_joins es e (Arguments x y) (x_is, y_is, m) = inl (λ i. Some (equal_terms (term_at t (x_is i)) (term_at t (y_is i))))
  says_joins es e (Held l) (there, h) = go (joins_cases e.a e.b l.term value) h
    where
      value : TermId
      value = truth_of ts l.positive

      signed_claim : (c : Bool) → joins e.a e.b l.term value ≡ c → says ts (Held l) e.a e.b ≡ (if c then Equality l.term value else Atom l.term)
      signed_claim c is = ap (λ d. if d then Equality l.term value else Atom l.term) is

      truth_is : truth_of f.truths l.positive ≡ value
      truth_is = ap (λ (us : Truths). truth_of us l.positive) b.truths

      joined : (x y : TermId) → x ≡ l.term → y ≡ value → joins x y l.term value ≡ true
      joined x y p q = (λ i. joins (p i) (q i) l.term value) ∙ same_joins l.term value

      apart : (x y : TermId) → joins x y l.term value ≡ false → StatesEqual f l x y → term_at t l.term ≡ equal_terms (term_at t x) (term_at t y)
      apart _ _ off decides = absurd (true≢false (sym (joined l.term (truth_of f.truths l.positive) refl truth_is) ∙ off))
      apart x y off (equates _ _ positive q) = equality_term t f b.facts l.term x y q

      go : (((e.a ≡ l.term) × (e.b ≡ value)) ⊎ ((e.a ≡ value) × (e.b ≡ l.term))) ⊎ (joins e.a e.b l.term value ≡ false) → StatesEqual f l e.a e.b ⊎ StatesEqual f l e.b e.a
          → Joins (Some (term_claimed t (says ts (Held l) e.a e.b))) (term_at t e.a) (term_at t e.b)
      go (inl (inl p)) h = inl (ap (λ c. Some (term_claimed t c)) (signed_claim true (joined e.a e.b p.0 p.1)) ∙ (λ i. Some (equal_terms (term_at t (sym p.0 i)) (term_at t (sym p.1 i)))))
      go (inl (inr p)) h = inr (ap (λ c. Some (term_claimed t c)) (signed_claim true (joins_turned e.a e.b l.term value ∙ joined e.b e.a p.1 p.0)) ∙ (λ i. Some (equal_terms (term_at t (sym p.1 i)) (term_at t (sym p.0 i)))))
      go (inr off) (inl h) = inl (ap (λ c. Some (term_claimed t c)) (signed_claim false off) ∙ ap Some (apart e.a e.b off h))
      go (inr off) (inr h) = inr (ap (λ c. Some (term_claimed t c)) (signed_claim false off) ∙ ap Some (apart e.b e.a (joins_turned e.b e.a l.term value ∙ off) h))

  -- and can be put
  says_in : (es : List Edge) (e : Edge) (l : Label) → IsEdgeReason f es e l → number_sort t e.a.0 ≡ number_sort t e.b.0 → IsClaimOf (terms_listed t f) t (says ts l e.a e.b)
  says_in es e (Arguments x y) (x_is, y_is, m) sorts = (
    (
      subst (IsTermIn t) (m.one_is ∙ sym x_is) (listed_term m.one m.one_there),
      subst (IsTermIn t) (m.other_is ∙ sym y_is) (listed_term m.other m.other_there),
      ap (λ z. sort_of (term_at t z)) x_is ∙ sorts ∙ ap (λ z. sort_of (term_at t z)) (sym y_is),
    ),
    is_equality (term_at t x) (term_at t y) (subst (λ z. IsMadeOf (terms_listed t f) (term_at t z)) (m.one_is ∙ sym x_is) (listed_made m.one m.one_there))
        (subst (λ z. IsMadeOf (terms_listed t f) (term_at t z)) (m.other_is ∙ sym y_is) (listed_made m.other m.other_there)),
  )
  says_in es e (Held l) (there, h) sorts = go (joins e.a e.b l.term (truth_of ts l.positive))
    where
      value_made : IsMadeOf (terms_listed t f) (term_at t (truth_of ts l.positive))
      value_made = truth_made (terms_listed t f) t ts truths_in l.positive

      go : (c : Bool) → IsClaimOf (terms_listed t f) t (if c then Equality l.term (truth_of ts l.positive) else Atom l.term)
      go true =
          let a = held_atom l there in
          (((a.0.0, a.0.1.term), truth_in l.positive, a.0.1.sort ∙ sym (truth_sort l.positive)), is_equality (term_at t l.term) (term_at t (truth_of ts l.positive)) (held_made l there) value_made)
      go false = (held_atom l there, held_made l there)

  -- so does the edge of each number
  pub edge_joins : (k : ℕ) → k < length v.edges → Joins (Some (term_claimed t (edge_says ts (numbered v.edges k)))) (term_at t (numbered v.edges k).a) (term_at t (numbered v.edges k).b)
  edge_joins k h = says_joins (older v.edges k) (numbered v.edges k) (numbered v.edges k).label (reason_at f v.edges b.reasons k h)

  older_reasons : (es : List Edge) (k : ℕ) → EdgesHaveReasons f es → EdgesHaveReasons f (older es k)
  older_reasons [] k ok = tt
  older_reasons (e ∷ es) k ok = go (Rattle.std.proofs.Common.nat_lt (length es) k) (older_reasons es k ok.1)
    where
      go : (c : Bool) → EdgesHaveReasons f (older es k) → EdgesHaveReasons f (if c then e ∷ es else older es k)
      go true h = ok
      go false h = h

  pub edge_in : (k : ℕ) → k < length v.edges → IsClaimOf (terms_listed t f) t (edge_says ts (numbered v.edges k))
  edge_in k h =
      let reason = reason_at f v.edges b.reasons k h in
      says_in (older v.edges k) (numbered v.edges k) (numbered v.edges k).label reason
      (reason_sorts (older v.edges k) (root_sorts (older v.edges k) (older_reasons v.edges k b.reasons)) (numbered v.edges k) (numbered v.edges k).label reason)
