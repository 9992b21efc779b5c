-- Terms that are equal to others, one by one.
use Rattle.std.proofs.Common.{◌≡◌, ◌≢◌, ℕ, zero, suc, ◌+◌, ◌<◌, ◌≤◌, ◌==◌, inl, inr, Bool, true, false, List, [], ◌∷◌, ◌++◌, length, get_or, drop, if◌then◌else◌, refl, sym, ap, ◌∙◌, subst, arith, append_assoc, append-nil, add-one}
use Rattle.std.specs.Prelude.{Contains}
use Rattle.std.proofs.lemmas.Bool.Decides.{nat_tests}
use Rattle.std.proofs.lemmas.List.{drop_all}
use Rattle.std.proofs.lemmas.List.Elements.{All-nil, All-cons, All-append, All-contains}
use Rattle.spec_sorts.specs.Terms.{Term}
use Rattle.spec_sorts.specs.Literals.{complement}
use Rattle.term_core.specs.declared.ids.TermId.{TermId}
use Rattle.explain_forest.specs.declared.types.Edge.{Edge}
use Rattle.explain_forest.specs.Forest.{ForestState, Linked, older}
use Rattle.congruence_relation.specs.Edges.{roots}
use Rattle.term_core.specs.Tables.{TableView}
use Rattle.congruence_explain.specs.declared.claims.SignedClaim.{SignedClaim}
use Rattle.congruence_explain.specs.Claims.{claim_as_literal, unequal, all_unequal}
use Rattle.congruence_explain.specs.Basis.{AreLinkedIn, AreLinkedOr}
use Rattle.congruence_explain.specs.Steps.{ExplanationSetting, Notes, ShowsLiteral, ShowsDenied, TellsPair, TellsClause, TellsPairs}
use Rattle.congruence_explain.proofs.Shown.{grows_none, grows_both, shows_each}

-- of one term with itself nothing is denied, and of two terms that they are equal
pub unequal_same : (x y : TermId) → x.0 ≡ y.0 → all_unequal (x ∷ []) (y ∷ []) ≡ []
unequal_same x y e = let test : (x.0 == y.0) ≡ true = grind (arith, nat_tests) in ap (λ b. if b then [] else unequal x y ∷ []) test

pub unequal_other : (x y : TermId) → x.0 ≢ y.0 → all_unequal (x ∷ []) (y ∷ []) ≡ unequal x y ∷ []
unequal_other x y d = let test : (x.0 == y.0) ≡ false = grind (arith, nat_tests) in ap (λ b. if b then [] else unequal x y ∷ []) test

pub linked_apart : (terms : List Term) (t : TableView) (v : ForestState) (x y : TermId) → x.0 ≢ y.0 → AreLinkedOr terms t v x y → AreLinkedIn terms t v x y
linked_apart terms t v x y d (inl e) = absurd (d e)
linked_apart terms t v x y d (inr h) = h

pub same_pair : (s : ExplanationSetting) (n : Notes) (x y : TermId) → x.0 ≡ y.0 → TellsPairs s n n (x ∷ []) (y ∷ [])
same_pair s n x y e = λ k le linked. (grows_none k n, subst (ShowsDenied s n) (sym (unequal_same x y e)) (All-nil (λ m. ShowsLiteral s n (complement (claim_as_literal s.table m)))))

pub one_pair : (s : ExplanationSetting) (old new : Notes) (x y : TermId) → x.0 ≢ y.0 → TellsPair s old new x y → TellsPairs s old new (x ∷ []) (y ∷ [])
one_pair s old new x y d told = λ k le linked.
    let both : Linked (older s.edges k) x.0 y.0 = cc in
    let one = told k le both in
    (one.0, subst (ShowsDenied s new) (sym (unequal_other x y d)) (All-cons (λ m. ShowsLiteral s new (complement (claim_as_literal s.table m))) (unequal x y) [] one.1 (All-nil (λ m. ShowsLiteral s new (complement (claim_as_literal s.table m))))))

-- linked in each place
pub linked_at : (es : List Edge) (xs ys : List TermId) (d : TermId) → roots es xs ≡ roots es ys → (i : ℕ) → i < length xs → Linked es (get_or xs i d).0 (get_or ys i d).0
linked_at es [] ys d e i h = absurd (omega (arith, h))
linked_at es (x ∷ xs) [] d e i h = absurd (cc)
linked_at es (x ∷ xs) (y ∷ ys) d e zero h = cc
linked_at es (x ∷ xs) (y ∷ ys) d e (suc i) h = let rest : roots es xs ≡ roots es ys = cc in linked_at es xs ys d rest i (omega arith)

-- the clause of all that differ, one pair after the other
unequal_from : (xs ys : List TermId) (i : ℕ) (d : TermId) → i < length xs → i < length ys
    → all_unequal (drop i xs) (drop i ys) ≡ all_unequal (get_or xs i d ∷ []) (get_or ys i d ∷ []) ++ all_unequal (drop (suc i) xs) (drop (suc i) ys)
unequal_from [] ys i d h l = absurd (omega arith)
unequal_from (x ∷ xs) [] i d h l = absurd (omega arith)
unequal_from (x ∷ xs) (y ∷ ys) zero d h l = go (x.0 == y.0)
  where
    go : (b : Bool) → (if b then all_unequal xs ys else unequal x y ∷ all_unequal xs ys) ≡ (if b then [] else unequal x y ∷ []) ++ all_unequal xs ys
    go true = refl
    go false = refl
unequal_from (x ∷ xs) (y ∷ ys) (suc i) d h l = unequal_from xs ys i d (omega arith) (omega arith)

pub unequal_next : (xs ys : List TermId) (i : ℕ) (d : TermId) → i < length xs → i < length ys → (clause after : List SignedClaim) → after ≡ clause ++ all_unequal (get_or xs i d ∷ []) (get_or ys i d ∷ [])
    → clause ++ all_unequal (drop i xs) (drop i ys) ≡ all_unequal xs ys → after ++ all_unequal (drop (i + 1) xs) (drop (i + 1) ys) ≡ all_unequal xs ys
unequal_next xs ys i d h l clause after is so =
    let rest = all_unequal (drop (i + 1) xs) (drop (i + 1) ys) in
    let next : all_unequal (drop i xs) (drop i ys) ≡ all_unequal (get_or xs i d ∷ []) (get_or ys i d ∷ []) ++ rest =
    subst (λ m. all_unequal (drop i xs) (drop i ys) ≡ all_unequal (get_or xs i d ∷ []) (get_or ys i d ∷ []) ++ all_unequal (drop m xs) (drop m ys)) (sym (add-one i)) (unequal_from xs ys i d h l) in
    ap (λ z. z ++ rest) is ∙ append_assoc clause (all_unequal (get_or xs i d ∷ []) (get_or ys i d ∷ [])) rest ∙ ap (λ z. clause ++ z) (sym next) ∙ so

pub unequal_all : (xs ys : List TermId) (i : ℕ) → length xs ≤ i → (clause : List SignedClaim) → clause ++ all_unequal (drop i xs) (drop i ys) ≡ all_unequal xs ys → clause ≡ all_unequal xs ys
unequal_all xs ys i h clause so =
    let empty : all_unequal (drop i xs) (drop i ys) ≡ [] = ap (λ z. all_unequal z (drop i ys)) (drop_all i xs h) in
    sym (ap (λ z. clause ++ z) empty ∙ append-nil clause) ∙ so

-- the first pairs, and one more
pub pairs_none : (s : ExplanationSetting) (n : Notes) (xs ys : List TermId) (clause : List SignedClaim) → clause ≡ [] → TellsClause s n n xs ys clause
pairs_none s n xs ys clause e = λ k le linked. (grows_none k n, subst (ShowsDenied s n) (sym e) (All-nil (λ m. ShowsLiteral s n (complement (claim_as_literal s.table m)))))

pub pairs_more : (s : ExplanationSetting) (a b c : Notes) (xs ys : List TermId) (i : ℕ) (d : TermId) → i < length xs → (clause after : List SignedClaim) → after ≡ clause ++ all_unequal (get_or xs i d ∷ []) (get_or ys i d ∷ [])
    → TellsClause s a b xs ys clause → TellsPairs s b c (get_or xs i d ∷ []) (get_or ys i d ∷ []) → TellsClause s a c xs ys after
pairs_more s a b c xs ys i d h clause after is first one = λ k le linked.
    let f = first k le linked in
    let both : roots (older s.edges k) (get_or xs i d ∷ []) ≡ roots (older s.edges k) (get_or ys i d ∷ []) = ap (λ n. n ∷ []) (linked_at (older s.edges k) xs ys d linked i h) in
    let o = one k le both in (
      grows_both k a b c f.0 o.0,
      subst (ShowsDenied s c) (sym is) (All-append (λ m. ShowsLiteral s c (complement (claim_as_literal s.table m))) clause (all_unequal (get_or xs i d ∷ []) (get_or ys i d ∷ [])) (shows_each s k b c o.0 clause f.1) o.1),
    )

-- a pair that the clause denies already is shown
pub pairs_again : (s : ExplanationSetting) (a b : Notes) (xs ys : List TermId) (x y : TermId) (clause after : List SignedClaim) → Contains clause (unequal x y) → after ≡ clause ++ unequal x y ∷ []
    → TellsClause s a b xs ys clause → TellsClause s a b xs ys after
pairs_again s a b xs ys x y clause after there is told = λ k le linked.
    let f = told k le linked in
    let shown = All-contains (λ m. ShowsLiteral s b (complement (claim_as_literal s.table m))) clause (unequal x y) f.1 there in (
      f.0,
      subst (ShowsDenied s b) (sym is) (All-append (λ m. ShowsLiteral s b (complement (claim_as_literal s.table m))) clause (unequal x y ∷ []) f.1
          (All-cons (λ m. ShowsLiteral s b (complement (claim_as_literal s.table m))) (unequal x y) [] shown (All-nil (λ m. ShowsLiteral s b (complement (claim_as_literal s.table m)))))),
    )
