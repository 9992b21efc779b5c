-- Paths, told part by part.
use Rattle.std.proofs.Common.{◌≡◌, ◌≢◌, ℕ, ◌+◌, ◌<◌, Bool, true, false, List, [], ◌∷◌, ◌++◌, length, reverse, get_or, refl, sym, ◌∙◌, ap, subst, arith, inl, inr, ◌⊎◌, append_assoc, append-nil, length-append}
use Rattle.std.specs.Prelude.{All}
use Rattle.std.proofs.lemmas.Grind.{common_steps}
use Rattle.std.proofs.lemmas.Bool.{cases_eq}
use Rattle.std.proofs.lemmas.Bool.Decides.{nat_tests}
use Rattle.std.proofs.lemmas.List.{reverse-append, reverse-reverse, length-reverse}
use Rattle.std.proofs.lemmas.List.Elements.{All-push}
use Rattle.explain_forest.specs.declared.types.Edge.{Edge}
use Rattle.explain_forest.specs.declared.types.PathStep.{PathStep}
use Rattle.explain_forest.specs.declared.types.PathPart.{PathPart}
use Rattle.explain_forest.specs.Forest.{Linked, forth, back, path, numbered}
use Rattle.explain_forest.specs.Kept.{EdgesAreApart, Tops}
use Rattle.explain_forest.specs.Telling.{step_of, told, told_all, cost, costs, first, second, halves, Turns}
use Rattle.explain_forest.proofs.Levels.{path-kept, split-forth, split-back, linked-forth, linked-back}

pub path-none : (es : List Edge) (x : ℕ) → path es x x ≡ []
path-none [] x = refl
path-none (e ∷ es) x = path-kept e es x x refl ∙ path-none es x

-- an edge by its number, in the list that has the oldest first
numbered-at : (es : List Edge) (k : ℕ) (d : Edge) → k < length es → get_or (reverse es) k d ≡ numbered es k
numbered-at [] k d h = absurd (omega arith)
numbered-at (e ∷ es) k d h = ap (λ xs. get_or xs k d) (reverse-append (e ∷ []) es) ∙ go (cases_eq k (length es)) (numbered-at es k d)
  where
    go : (k ≡ length es) ⊎ (k ≢ length es) → (k < length es → get_or (reverse es) k d ≡ numbered es k) → get_or (reverse es ++ e ∷ []) k d ≡ numbered (e ∷ es) k
    go (inl p) ih = let n = length-reverse es in grind (arith, nat_tests, common_steps)
    go (inr p) ih = let n = length-reverse es in let r : get_or (reverse es) k d ≡ numbered es k = ih (omega arith) in grind (arith, nat_tests, common_steps)

pub edge-numbered : (edges : List Edge) (k : ℕ) (d : Edge) → k < length edges → get_or edges k d ≡ numbered (reverse edges) k
edge-numbered edges k d h = ap (λ xs. get_or xs k d) (sym (reverse-reverse edges)) ∙ numbered-at (reverse edges) k d (subst (λ n. k < n) (sym (length-reverse edges)) h)

pub told_all-append : (es : List Edge) (ps qs : List PathPart) → told_all es (ps ++ qs) ≡ told_all es qs ++ told_all es ps
told_all-append es [] qs = simp append-nil
told_all-append es (p ∷ ps) qs = ap (λ l. l ++ told es p) (told_all-append es ps qs) ∙ append_assoc (told_all es qs) (told_all es ps) (told es p)

pub costs-append : (es : List Edge) (ps qs : List PathPart) → costs es (ps ++ qs) ≡ costs es ps + costs es qs
costs-append es [] qs = omega arith
costs-append es (p ∷ ps) qs = omega (arith, costs-append es ps qs)

module _ (n : ℕ) (es : List Edge) (ok : EdgesAreApart n es) (edges_low : (k : ℕ) → k < length es → ((numbered es k).a.0 < n) × ((numbered es k).b.0 < n)) where
  -- what a split tells is the path
  pub split-told : (p : PathPart) (k : ℕ) (along : Bool) → Tops es p.from.0 p.to.0 k along
      → told es (first (numbered es k) along p) ++ told es (second (numbered es k) k along p) ≡ path es p.from.0 p.to.0
  split-told p k true t = sym (split-forth n k es p.from.0 p.to.0 ok t.0 t.1 t.2 t.3)
  split-told p k false t = sym (split-back n k es p.from.0 p.to.0 ok t.0 t.1 t.2 t.3)

  pub split-cost : (p : PathPart) (k : ℕ) (along : Bool) → Tops es p.from.0 p.to.0 k along → cost es (second (numbered es k) k along p) + cost es (first (numbered es k) along p) < cost es p
  split-cost p k true t = let h = ap length (split-forth n k es p.from.0 p.to.0 ok t.0 t.1 t.2 t.3) ∙ length-append (path es p.from.0 (numbered es k).a.0) (forth k (numbered es k) ∷ path es (numbered es k).b.0 p.to.0) in omega (arith, h)
  split-cost p k false t = let h = ap length (split-back n k es p.from.0 p.to.0 ok t.0 t.1 t.2 t.3) ∙ length-append (path es p.from.0 (numbered es k).b.0) (back k (numbered es k) ∷ path es (numbered es k).a.0 p.to.0) in omega (arith, h)

  pub split-first : (p : PathPart) (k : ℕ) (along : Bool) → p.from.0 < n → Tops es p.from.0 p.to.0 k along
      → ((first (numbered es k) along p).from.0 < n) × ((first (numbered es k) along p).to.0 < n) × Linked es (first (numbered es k) along p).from.0 (first (numbered es k) along p).to.0
  split-first p k true h t = (h, (edges_low k t.0).0, (linked-forth n k es p.from.0 p.to.0 ok t.0 t.2 t.3).0)
  split-first p k false h t = (h, (edges_low k t.0).1, (linked-back n k es p.from.0 p.to.0 ok t.0 t.2 t.3).0)

  pub split-second : (p : PathPart) (k : ℕ) (along : Bool) → p.to.0 < n → Tops es p.from.0 p.to.0 k along
      → ((second (numbered es k) k along p).from.0 < n) × ((second (numbered es k) k along p).to.0 < n) × Linked es (second (numbered es k) k along p).from.0 (second (numbered es k) k along p).to.0
  split-second p k true h t = ((edges_low k t.0).1, h, (linked-forth n k es p.from.0 p.to.0 ok t.0 t.2 t.3).1)
  split-second p k false h t = ((edges_low k t.0).0, h, (linked-back n k es p.from.0 p.to.0 ok t.0 t.2 t.3).1)

pub numbered-low : (n : ℕ) (es : List Edge) → EdgesAreApart n es → (k : ℕ) → k < length es → ((numbered es k).a.0 < n) × ((numbered es k).b.0 < n)
numbered-low n [] ok k h = absurd (omega arith)
numbered-low n (e ∷ es) ok k h = go (cases_eq k (length es)) (numbered-low n es ok.3 k)
  where
    go : (k ≡ length es) ⊎ (k ≢ length es) → (k < length es → ((numbered es k).a.0 < n) × ((numbered es k).b.0 < n)) → ((numbered (e ∷ es) k).a.0 < n) × ((numbered (e ∷ es) k).b.0 < n)
    go (inl p) ih = let q : numbered (e ∷ es) k ≡ e = grind (arith, nat_tests) in subst (λ f. (f.a.0 < n) × (f.b.0 < n)) (sym q) (ok.0, ok.1)
    go (inr p) ih = let q : numbered (e ∷ es) k ≡ numbered es k = grind (arith, nat_tests) in subst (λ f. (f.a.0 < n) × (f.b.0 < n)) (sym q) (ih (omega arith))

-- One part is explained: its step, and nothing more where it leads nowhere, else its two halves.
module _ (n : ℕ) (es : List Edge) (ok : EdgesAreApart n es) (out after : List PathStep) (whole : List PathStep) (ps : List PathPart) (p : PathPart) where
  pub told-end : after ≡ out ++ step_of p → p.from.0 ≡ p.to.0 → out ++ told_all es (ps ++ p ∷ []) ≡ whole → after ++ told_all es ps ≡ whole
  told-end tells same all =
      (λ i. tells i ++ told_all es ps) ∙ append_assoc out (step_of p) (told_all es ps) ∙ ap (λ l. out ++ l) (sym inner) ∙ ap (λ l. out ++ l) (sym (told_all-append es ps (p ∷ []))) ∙ all
    where
      inner : told_all es (p ∷ []) ++ told_all es ps ≡ step_of p ++ told_all es ps
      inner = ap (λ l. (step_of p ++ l) ++ told_all es ps) (ap (path es p.from.0) (sym same) ∙ path-none es p.from.0) ∙ ap (λ l. l ++ told_all es ps) (append-nil (step_of p))

  pub told-split : (k : ℕ) (along : Bool) → after ≡ out ++ step_of p → Tops es p.from.0 p.to.0 k along → out ++ told_all es (ps ++ p ∷ []) ≡ whole
      → after ++ told_all es (ps ++ halves (numbered es k) k along p) ≡ whole
  told-split k along tells t all =
      let fst = told es (first (numbered es k) along p) in
      let snd = told es (second (numbered es k) k along p) in
      let head : List PathStep = step_of p in
      (λ i. tells i ++ told_all-append es ps (halves (numbered es k) k along p) i)
      ∙ append_assoc out head ((fst ++ snd) ++ told_all es ps)
      ∙ ap (λ l. out ++ (head ++ (l ++ told_all es ps))) (split-told n es ok (numbered-low n es ok) p k along t)
      ∙ ap (λ l. out ++ l) (sym (append_assoc head (path es p.from.0 p.to.0) (told_all es ps)))
      ∙ ap (λ l. out ++ l) (sym (told_all-append es ps (p ∷ [])))
      ∙ all

-- a turn over a part that leads nowhere
pub turns-end : (n : ℕ) (es : List Edge) (ok : EdgesAreApart n es) (p : PathPart) (ps : List PathPart) (out after : List PathStep) → after ≡ out ++ step_of p → p.from.0 ≡ p.to.0 → Turns n es p (record { parts = ps; out = out }) (record { parts = ps; out = after })
turns-end n es ok p ps out after tells same = record {
  whole = λ steps h. told-end n es ok out after steps ps p tells same h;
  less = let c = costs-append es ps (p ∷ []) in omega arith;
  linked = λ h. h;
}

-- and over one that is split
pub turns-split : (n : ℕ) (es : List Edge) (ok : EdgesAreApart n es) (p : PathPart) (ps qs : List PathPart) (out after : List PathStep) (k : ℕ) (along : Bool) → (p.from.0 < n) × (p.to.0 < n) × Linked es p.from.0 p.to.0
    → after ≡ out ++ step_of p → Tops es p.from.0 p.to.0 k along → qs ≡ ps ++ halves (numbered es k) k along p → Turns n es p (record { parts = ps; out = out }) (record { parts = qs; out = after })
turns-split n es ok p ps qs out after k along low tells t is = subst (λ l. Turns n es p (record { parts = ps; out = out }) (record { parts = l; out = after })) (sym is) (record {
  whole = λ steps h. told-split n es ok out after steps ps p k along tells t h;
  less =
      let c = costs-append es ps (p ∷ []) in
      let d = costs-append es ps (halves (numbered es k) k along p) in
      let s = split-cost n es ok (numbered-low n es ok) p k along t in omega arith;
  linked = λ h. two h;
})
  where
    Good : PathPart → Type 0
    Good q = (q.from.0 < n) × (q.to.0 < n) × Linked es q.from.0 q.to.0

    two : All Good ps → All Good (ps ++ halves (numbered es k) k along p)
    two h = subst (All Good) (append_assoc ps (second (numbered es k) k along p ∷ []) (first (numbered es k) along p ∷ []))
        (All-push Good (ps ++ second (numbered es k) k along p ∷ []) (first (numbered es k) along p) (All-push Good ps (second (numbered es k) k along p) h (split-second n es ok (numbered-low n es ok) p k along low.1 t)) (split-first n es ok (numbered-low n es ok) p k along low.0 t))
