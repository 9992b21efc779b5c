-- A path leads from its first term to its last, along edges.
use Rattle.std.proofs.Common.{◌≡◌, ◌≢◌, ℕ, ◌<◌, ◌==◌, Bool, true, false, List, [], ◌∷◌, ◌++◌, length, get_or, if◌then◌else◌, refl, sym, ◌∙◌, ap, subst, arith, inl, inr, ◌⊎◌}
use Rattle.std.specs.Prelude.{All}
use Rattle.std.proofs.lemmas.Bool.{cases_eq}
use Rattle.std.proofs.lemmas.List.Elements.{All-append, All-cons, All-nil}
use Rattle.explain_forest.specs.declared.types.Edge.{Edge}
use Rattle.explain_forest.specs.declared.types.PathStep.{PathStep}
use Rattle.explain_forest.specs.Forest.{root, Linked, forth, back, path, numbered, PathLeads, IsAlong}
use Rattle.explain_forest.specs.Telling.{}
use Rattle.explain_forest.proofs.Roots.{root-under, root-elsewhere}
use Rattle.explain_forest.proofs.Levels.{numbered-top, numbered-older, path-kept, path-forth, path-back}

leads-append : (x : ℕ) (ss ts : List PathStep) (m y : ℕ) → PathLeads x ss m → PathLeads m ts y → PathLeads x (ss ++ ts) y
leads-append x [] ts m y p q = subst (λ z. PathLeads z ts y) (sym p) q
leads-append x (s ∷ ss) ts m y p q = (p.0, leads-append s.to.0 ss ts m y p.1 q)

pub path-leads : (es : List Edge) (x y : ℕ) → Linked es x y → PathLeads x (path es x y) y
path-leads [] x y h = h
path-leads (e ∷ es) x y h = go (cases_eq (root es x) (root es y)) (cases_eq (root es x) (root es e.a.0)) (path-leads es)
  where
    go : (root es x ≡ root es y) ⊎ (root es x ≢ root es y) → (root es x ≡ root es e.a.0) ⊎ (root es x ≢ root es e.a.0) → ((v w : ℕ) → Linked es v w → PathLeads v (path es v w) w) → PathLeads x (path (e ∷ es) x y) y
    go (inl p) q ih = subst (λ l. PathLeads x l y) (sym (path-kept e es x y p)) (ih x y p)
    go (inr p) (inl q) ih =
        let by : root es e.b.0 ≡ root es y = sym (root-under e es x q) ∙ h ∙ root-elsewhere e es y (λ r. p (q ∙ sym r)) in
        subst (λ l. PathLeads x l y) (sym (path-forth e es x y p q)) (leads-append x (path es x e.a.0) (forth (length es) e ∷ path es e.b.0 y) e.a.0 y (ih x e.a.0 q) (refl, ih e.b.0 y by))
    go (inr p) (inr q) ih = last (cases_eq (root es y) (root es e.a.0))
      where
        last : (root es y ≡ root es e.a.0) ⊎ (root es y ≢ root es e.a.0) → PathLeads x (path (e ∷ es) x y) y
        last (inr r) = absurd (p (sym (root-elsewhere e es x q) ∙ h ∙ root-elsewhere e es y r))
        last (inl r) =
            let bx : root es x ≡ root es e.b.0 = sym (root-elsewhere e es x q) ∙ h ∙ root-under e es y r in
            subst (λ l. PathLeads x l y) (sym (path-back e es x y p q)) (leads-append x (path es x e.b.0) (back (length es) e ∷ path es e.a.0 y) e.b.0 y (ih x e.b.0 bx) (refl, ih e.a.0 y (sym r)))

-- a newer edge leaves the numbers of older ones
pub along-later : (e : Edge) (es : List Edge) (s : PathStep) → IsAlong es s → IsAlong (e ∷ es) s
along-later e es s h = (omega (arith, h.0), go h.1)
  where
    same : numbered (e ∷ es) s.edge ≡ numbered es s.edge
    same = numbered-older e es s.edge (λ p. not_below h.0 p)
      where
        not_below : {a b : ℕ} → a < b → a ≡ b → ⊥
        not_below l p = omega arith

    go : (s ≡ forth s.edge (numbered es s.edge)) ⊎ (s ≡ back s.edge (numbered es s.edge)) → (s ≡ forth s.edge (numbered (e ∷ es) s.edge)) ⊎ (s ≡ back s.edge (numbered (e ∷ es) s.edge))
    go (inl p) = inl (p ∙ ap (forth s.edge) (sym same))
    go (inr p) = inr (p ∙ ap (back s.edge) (sym same))

pub path-along : (es : List Edge) (x y : ℕ) → All (IsAlong es) (path es x y)
path-along [] x y = All-nil (IsAlong [])
path-along (e ∷ es) x y = go (root es x == root es y) (root es x == root es e.a.0)
    (later (path es x y) (path-along es x y)) (later (path es x e.a.0) (path-along es x e.a.0)) (later (path es e.b.0 y) (path-along es e.b.0 y))
    (later (path es x e.b.0) (path-along es x e.b.0)) (later (path es e.a.0 y) (path-along es e.a.0 y))
  where
    later : (ss : List PathStep) → All (IsAlong es) ss → All (IsAlong (e ∷ es)) ss
    later ss h = λ k d l. along-later e es (get_or ss k d) (h k d l)

    here : numbered (e ∷ es) (length es) ≡ e
    here = numbered-top e es (length es) refl

    both : (ss : List PathStep) (s : PathStep) (ts : List PathStep) → (s ≡ forth (length es) e) ⊎ (s ≡ back (length es) e) → All (IsAlong (e ∷ es)) ss → All (IsAlong (e ∷ es)) ts → All (IsAlong (e ∷ es)) (ss ++ s ∷ ts)
    both ss s ts is p q = All-append (IsAlong (e ∷ es)) ss (s ∷ ts) p (All-cons (IsAlong (e ∷ es)) s ts (own is) q)
      where
        own : (s ≡ forth (length es) e) ⊎ (s ≡ back (length es) e) → IsAlong (e ∷ es) s
        own (inl r) = subst (IsAlong (e ∷ es)) (sym r) (omega arith, inl (ap (forth (length es)) (sym here)))
        own (inr r) = subst (IsAlong (e ∷ es)) (sym r) (omega arith, inr (ap (back (length es)) (sym here)))

    go : (a b : Bool) → All (IsAlong (e ∷ es)) (path es x y) → All (IsAlong (e ∷ es)) (path es x e.a.0) → All (IsAlong (e ∷ es)) (path es e.b.0 y)
        → All (IsAlong (e ∷ es)) (path es x e.b.0) → All (IsAlong (e ∷ es)) (path es e.a.0 y)
        → All (IsAlong (e ∷ es)) (if a then path es x y else if b then path es x e.a.0 ++ forth (length es) e ∷ path es e.b.0 y else path es x e.b.0 ++ back (length es) e ∷ path es e.a.0 y)
    go true b p q r s t = p
    go false true p q r s t = both _ _ _ (inl refl) q r
    go false false p q r s t = both _ _ _ (inr refl) s t
