-- Terms of one head, by their nodes.
use Rattle.std.proofs.Common.{◌≡◌, ◌≢◌, Bool, true, false, List, [], length, Option, refl, sym, ap, ◌∙◌, subst}
use Rattle.std.specs.Prelude.{MatchBool}
use Rattle.std.specs.Cmp.Derive.{both_true}
use Rattle.std.proofs.lemmas.Bool.{false≢true, and_parts}
use Rattle.std.proofs.lemmas.List.{nil_from_length, length-map}
use Rattle.spec_sorts.specs.Terms.{Head, Term, of, list_of, terms_of}
use Rattle.spec_sorts.proofs.General.{list_of-terms_of}
use Rattle.spec_equality.specs.Reasons.{AreJoined, HaveJoinedArguments}
use Rattle.term_core.specs.declared.ids.TermId.{TermId}
use Rattle.term_core.specs.declared.nodes.Head.{Head as NodeHead}
use Rattle.term_core.specs.declared.nodes.Node.{Node}
use Rattle.term_core.specs.contracts.nodes.HeadPartialEq.TheImpl.{ghosts as head_ghosts}
use Rattle.term_core.specs.Symbols.{AreDeclared}
use Rattle.term_core.specs.Tables.{TableView, declared_in, AreDifferent, clause_at, head_meant, Shape, shape_term, ShapeFits}
use Rattle.term_core.proofs.NodesSame.{same_node, node_same}
use Rattle.term_core.proofs.TermsApart.{one_shape}

-- nodes have one head where the derived `==` says so
heads_are : (n m : Node) → head_ghosts.eq n.head m.head ≡ true → n.head ≡ m.head
heads_are n m e = ap (λ (s : Shape). s.head) (same_node n (record n { head = m.head }) (both_true e (and_parts _ _ (node_same n n refl)).1))

are_heads : (n m : Node) → n.head ≡ m.head → head_ghosts.eq n.head m.head ≡ true
are_heads n m e =
    let ids : List TermId = n.arguments.items in
    let shape : NodeHead → Shape = λ g. record { head = g; arguments = ids } in
    (and_parts _ _ (node_same n (record n { head = m.head }) (ap shape e))).0

pub heads_by : (n m : Node) (b : Bool) → b ≡ head_ghosts.eq n.head m.head → MatchBool b (n.head ≡ m.head) (n.head ≢ m.head)
heads_by n m true e = heads_are n m (sym e)
heads_by n m false e = λ is. false≢true (e ∙ are_heads n m is)

module _ (t : TableView) (rs : List (Option Term)) (one other : Term) (s u : Shape) (is_one : one ≡ shape_term t s) (is_other : other ≡ shape_term t u) where
  -- what congruence says of the two nodes
  parts : HaveJoinedArguments rs one other → (head_meant t s.head ≡ head_meant t u.head) × (clause_at t s.arguments ≢ []) × AreJoined rs (clause_at t s.arguments) (clause_at t u.arguments)
  parts h =
      let w = subst (λ (x : Term). HaveJoinedArguments rs (shape_term t s) x) is_other (subst (λ (x : Term). HaveJoinedArguments rs x other) is_one h) in
      let left = list_of-terms_of (clause_at t s.arguments) in
      let right = list_of-terms_of (clause_at t u.arguments) in
      (w.0, subst (λ (xs : List Term). xs ≢ []) left w.1, subst (λ (xs : List Term). AreJoined rs (clause_at t s.arguments) xs) right (subst (λ (xs : List Term). AreJoined rs xs (list_of (terms_of (clause_at t u.arguments)))) left w.2))

  -- terms of other heads are not congruent
  pub not_heads : AreDifferent t.terms → AreDeclared t.sorts t.symbols → ShapeFits t s → ShapeFits t u → s.head ≢ u.head → HaveJoinedArguments rs one other → ⊥
  not_heads differ declared fits_one fits_other heads h =
      let same : shape_term t (record { head = s.head; arguments = u.arguments }) ≡ shape_term t u = ap (λ (g : Head). of g (clause_at t u.arguments)) (parts h).0 in
      heads (ap (λ (x : Shape). x.head) (one_shape t.terms (length t.terms) differ (declared_in t) (record { head = s.head; arguments = u.arguments }) u declared fits_other.arguments fits_one.head fits_other same))

  -- nor are those without arguments
  pub not_some : length s.arguments ≡ 0 → HaveJoinedArguments rs one other → ⊥
  not_some none h = (parts h).1 (ap (clause_at t) (nil_from_length s.arguments none))

  -- others are where their arguments are joined
  pub congruent_by : s.head ≡ u.head → length s.arguments ≢ 0 → (b : Bool) → MatchBool b (AreJoined rs (clause_at t s.arguments) (clause_at t u.arguments)) (AreJoined rs (clause_at t s.arguments) (clause_at t u.arguments) → ⊥)
      → MatchBool b (HaveJoinedArguments rs one other) (HaveJoinedArguments rs one other → ⊥)
  congruent_by heads some true joined =
      let left = list_of-terms_of (clause_at t s.arguments) in
      let right = list_of-terms_of (clause_at t u.arguments) in
      let filled : clause_at t s.arguments ≢ [] = λ e. some (sym (length-map s.arguments _) ∙ ap (λ (xs : List Term). length xs) e) in
      let w : HaveJoinedArguments rs (shape_term t s) (shape_term t u) = (
        ap (head_meant t) heads,
        subst (λ (xs : List Term). xs ≢ []) (sym left) filled,
        subst (λ (xs : List Term). AreJoined rs xs (list_of (terms_of (clause_at t u.arguments)))) (sym left) (subst (λ (xs : List Term). AreJoined rs (clause_at t s.arguments) xs) (sym right) joined),
      ) in
      subst (λ (x : Term). HaveJoinedArguments rs one x) (sym is_other) (subst (λ (x : Term). HaveJoinedArguments rs x (shape_term t u)) (sym is_one) w)
  congruent_by heads some false apart = λ h. apart (parts h).2
