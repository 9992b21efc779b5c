-- Edges with reasons link congruent terms, and closed edges link all of them.
use Rattle.std.proofs.Common.{◌≡◌, ◌≢◌, ℕ, ◌⊎◌, inl, inr, List, [], ◌∷◌, refl, sym, ◌∙◌, subst}
use Rattle.std.proofs.lemmas.Bool.{cases_eq}
use Rattle.term_core.specs.declared.ids.TermId.{TermId}
use Rattle.explain_forest.specs.declared.types.Edge.{Edge}
use Rattle.explain_forest.specs.declared.types.Label.{Label}
use Rattle.explain_forest.specs.declared.types.Label.TheVariants.{Held, Arguments}
use Rattle.explain_forest.specs.Forest.{root, Linked}
use Rattle.explain_forest.proofs.Roots.{root-under, root-elsewhere}
use Rattle.congruence_relation.specs.Relation.{Facts, IsCongruentIn, AreCongruentIn, stated, itself, turned, joined, by_arguments, none, more}
use Rattle.congruence_relation.specs.Edges.{roots, IsEdgeReason, EdgesHaveReasons, IsClosed}

-- what a newer edge links as well is linked with its ends
abbrev pub IsJoinedBy : Edge → List Edge → ℕ → ℕ → Type 0
IsJoinedBy e es x y = Linked es x e.a.0 × Linked es e.b.0 y

-- what edges link, the older link, or the newest joins
pub linked_cases : (e : Edge) (es : List Edge) (x y : ℕ) → Linked (e ∷ es) x y → Linked es x y ⊎ IsJoinedBy e es x y ⊎ IsJoinedBy e es y x
linked_cases e es x y h = go (cases_eq (root es x) (root es e.a.0)) (cases_eq (root es y) (root es e.a.0))
  where
    go : (root es x ≡ root es e.a.0) ⊎ (root es x ≢ root es e.a.0) → (root es y ≡ root es e.a.0) ⊎ (root es y ≢ root es e.a.0) → Linked es x y ⊎ IsJoinedBy e es x y ⊎ IsJoinedBy e es y x
    go (inl p) (inl q) = inl (p ∙ sym q)
    go (inl p) (inr q) = inr (inl (p, sym (root-under e es x p) ∙ h ∙ root-elsewhere e es y q))
    go (inr p) (inl q) = inr (inr (q, sym (root-under e es y q) ∙ sym h ∙ root-elsewhere e es x p))
    go (inr p) (inr q) = inl (sym (root-elsewhere e es x p) ∙ h ∙ root-elsewhere e es y q)

module _ (f : Facts) where
  -- the terms that edges link are congruent
  abbrev pub IsSound : List Edge → Type 0
  IsSound es = (x y : TermId) → Linked es x.0 y.0 → IsCongruentIn f x y

  -- terms with one root are congruent in their places
  pub all_congruent : (es : List Edge) → IsSound es → (xs ys : List TermId) → roots es xs ≡ roots es ys → AreCongruentIn f xs ys
  all_congruent es sound [] [] h = none
  all_congruent es sound [] (y ∷ ys) h = absurd (cc)
  all_congruent es sound (x ∷ xs) [] h = absurd (cc)
  all_congruent es sound (x ∷ xs) (y ∷ ys) h = more x y xs ys (sound x y (cc)) (all_congruent es sound xs ys (cc))

  -- so are the ends of an edge with a reason
  pub reason_congruent : (e : Edge) (es : List Edge) (l : Label) → IsEdgeReason f es e l → IsSound es → IsCongruentIn f e.a e.b
  reason_congruent e es (Held l) (there, inl s) sound = stated l e.a e.b there s
  reason_congruent e es (Held l) (there, inr s) sound = turned e.b e.a (stated l e.b e.a there s)
  reason_congruent e es (Arguments a b) (_, _, m) sound =
      subst (λ t. IsCongruentIn f t e.b) m.one_is (subst (IsCongruentIn f m.one.term) m.other_is
      (by_arguments m.one m.other m.one_there m.other_there m.heads m.one_part m.other_part (all_congruent es sound m.one.shape.arguments m.other.shape.arguments m.arguments)))

  more_sound : (e : Edge) (es : List Edge) → IsSound es → IsCongruentIn f e.a e.b → (x y : TermId) → Linked es x.0 y.0 ⊎ IsJoinedBy e es x.0 y.0 ⊎ IsJoinedBy e es y.0 x.0 → IsCongruentIn f x y
  more_sound e es sound r x y (inl h) = sound x y h
  more_sound e es sound r x y (inr (inl h)) = joined x e.a y (sound x e.a h.0) (joined e.a e.b y r (sound e.b y h.1))
  more_sound e es sound r x y (inr (inr h)) = turned y x (joined y e.a x (sound y e.a h.0) (joined e.a e.b x r (sound e.b x h.1)))

  pub linked_congruent : (es : List Edge) → EdgesHaveReasons f es → (x y : TermId) → Linked es x.0 y.0 → IsCongruentIn f x y
  linked_congruent [] ok x y h = subst (IsCongruentIn f x) (λ i. record { 0 = h i }) (itself x)
  linked_congruent (e ∷ es) ok x y h =
      let sound = linked_congruent es ok.1 in
      more_sound e es sound (reason_congruent e es e.label ok.0 sound) x y (linked_cases e es x.0 y.0 h)

  -- closed edges link congruent terms, and lists of them in their places
  mutual
    pub congruent_linked : (es : List Edge) → IsClosed f es → (x y : TermId) → IsCongruentIn f x y → Linked es x.0 y.0
    congruent_linked es ok x y (stated l _ _ there s) = ok.stated l x y there s
    congruent_linked es ok x y (itself _) = refl
    congruent_linked es ok x y (turned _ _ h) = sym (congruent_linked es ok y x h)
    congruent_linked es ok x y (joined _ z _ h k) = congruent_linked es ok x z h ∙ congruent_linked es ok z y k
    congruent_linked es ok x y (by_arguments v w v_there w_there heads v_part w_part arguments) = ok.arguments v w v_there w_there heads v_part w_part (all_linked es ok v.shape.arguments w.shape.arguments arguments)

    pub all_linked : (es : List Edge) → IsClosed f es → (xs ys : List TermId) → AreCongruentIn f xs ys → roots es xs ≡ roots es ys
    all_linked es ok [] [] none = refl
    all_linked es ok (x ∷ xs) (y ∷ ys) (more _ _ _ _ h hs) = λ i. congruent_linked es ok x y h i ∷ all_linked es ok xs ys hs i
