-- What propagation begins with.
use Rattle.std.proofs.Common.{◌≡◌, ℕ, ◌+◌, ◌<◌, List, [], ◌∷◌, ◌++◌, map, length, get_or, take, drop, Contains, inl, inr, sym, ap, ◌∙◌, subst}
use Rattle.std.proofs.lemmas.List.{take_more, map-append, length-map, get_or-map, take-append-drop}
use Rattle.std.proofs.lemmas.List.Elements.{Contains-push, Contains-push_cases, Contains-append_left}
use Rattle.term_core.specs.declared.ids.Lit.{Lit}
use Rattle.clause_literals.specs.Literals.{lit_complement, SameLits, AddsLast, IsConsistent}
use Rattle.clause_literals.proofs.LiteralLists.{negation_twice, not_own_negation}

-- a list with one more literal
pub consistent_more : (old : List Lit) (l : Lit) → IsConsistent old → (Contains old (lit_complement l) → ⊥) → IsConsistent (old ++ l ∷ [])
consistent_more old l ok free m i j = elim (Contains-push_cases old l m i) [
  | inl was ↦ elim (Contains-push_cases old l (lit_complement m) j) [
    | inl also ↦ ok m was also
    | inr e ↦ free (subst (λ (x : Lit). Contains old x) (sym (ap lit_complement e ∙ negation_twice m)) was)
  ]
  | inr e ↦ elim (Contains-push_cases old l (lit_complement m) j) [
    | inl also ↦ free (subst (λ (x : Lit). Contains old (lit_complement x)) (sym e) also)
    | inr d ↦ not_own_negation m (sym e ∙ d)
  ]
]

-- one more complement
pub start_more : (held new : List Lit) (l : Lit) → AddsLast held (lit_complement l) new → IsConsistent held → (Contains held l → ⊥) → IsConsistent new
start_more held new l (inl a) ok free = subst (λ (h : List Lit). IsConsistent h) (sym a.1) ok
start_more held new l (inr a) ok free = subst (λ (h : List Lit). IsConsistent h) (sym a.1) (consistent_more held (lit_complement l) ok (λ i. free (subst (λ (x : Lit). Contains held x) (negation_twice l) i)))

-- one more literal on both sides
pub same_more : (held new made : List Lit) (l : Lit) → AddsLast held l new → SameLits held made → SameLits new (made ++ l ∷ [])
same_more held new made l (inl a) same m = (
  λ i. Contains-append_left made (l ∷ []) m ((same m).0 (subst (λ (h : List Lit). Contains h m) a.1 i)),
  λ i. subst (λ (h : List Lit). Contains h m) (sym a.1) (elim (Contains-push_cases made l m i) [ inl was ↦ (same m).1 was | inr e ↦ subst (λ (x : Lit). Contains held x) e a.0 ]),
)
same_more held new made l (inr a) same m = (
  λ i. elim (Contains-push_cases held l m (subst (λ (h : List Lit). Contains h m) a.1 i)) [ inl was ↦ Contains-append_left made (l ∷ []) m ((same m).0 was) | inr e ↦ subst (λ (x : Lit). Contains (made ++ l ∷ []) x) e (Contains-push made l) ],
  λ i. subst (λ (h : List Lit). Contains h m) (sym a.1) (elim (Contains-push_cases made l m i) [ inl was ↦ Contains-append_left held (l ∷ []) m ((same m).1 was) | inr e ↦ subst (λ (x : Lit). Contains (held ++ l ∷ []) x) e (Contains-push held l) ]),
)

module _ (clause : List Lit) (i : ℕ) (l : Lit) (lt : i < length clause) (e : l ≡ get_or clause i l) where
  -- the literals up to here and one more
  pub taken_more : take (i + 1) clause ≡ take i clause ++ l ∷ []
  taken_more = take_more clause i l lt ∙ ap (λ (x : Lit). take i clause ++ x ∷ []) (sym e)

  pub start_made : (held new : List Lit) → AddsLast held (lit_complement l) new → SameLits held (map lit_complement (take i clause)) → SameLits new (map lit_complement (take (i + 1) clause))
  start_made held new a same =
      let made : map lit_complement (take (i + 1) clause) ≡ map lit_complement (take i clause) ++ lit_complement l ∷ [] = ap (map lit_complement) taken_more ∙ map-append lit_complement (take i clause) (l ∷ []) in
      subst (λ (xs : List Lit). SameLits new xs) (sym made) (same_more held new (map lit_complement (take i clause)) (lit_complement l) a same)

  -- a literal of the clause whose complement comes too
  pub complements : (held : List Lit) → SameLits held (map lit_complement (take i clause)) → Contains held l → (m : Lit) × Contains (map lit_complement clause) m × Contains (map lit_complement clause) (lit_complement m)
  complements held same here =
      let whole : clause ≡ take i clause ++ drop i clause = sym (take-append-drop i clause) in
      let all = ap (map lit_complement) whole ∙ map-append lit_complement (take i clause) (drop i clause) in
      (l, subst (λ (xs : List Lit). Contains xs l) (sym all) (Contains-append_left (map lit_complement (take i clause)) (map lit_complement (drop i clause)) l ((same l).0 here)), (i, rw length-map lt, get_or-map lit_complement clause i l (lit_complement l) lt ∙ ap lit_complement (sym e)))
