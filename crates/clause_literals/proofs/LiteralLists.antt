-- Literals: their equality, their complements, and sets of them.
use Rattle.std.proofs.Common.{◌≡◌, ◌≢◌, Bool, true, false, not, List, [], ◌∷◌, ◌++◌, Contains, ◌⊎◌, inl, inr, sym, ap, ◌∙◌, subst, refl, cond, rules, if◌then◌else◌, ℕ}
use Rattle.std.specs.Prelude.{nat_eq, MatchBool}
use Rattle.std.specs.List.{list_any}
use Rattle.std.specs.Cmp.Derive.{both_true}
use Rattle.std.proofs.lemmas.Bool.{false≢true, eqb-true, eq-eqb, and_parts}
use Rattle.std.proofs.lemmas.List.Folds.{Any-from_list_any, list_any_at}
use Rattle.indexmap.specs.IndexSet.{insert_key}
use Rattle.indexmap.proofs.CallerLemmas.{Contains-list_any}
use Rattle.term_core.specs.declared.ids.TermId.{TermId}
use Rattle.term_core.specs.declared.ids.Lit.{Lit}
use Rattle.term_core.specs.contracts.ids.LitPartialEq.TheImpl.{ghosts}
use Rattle.clause_literals.specs.Literals.{lit_complement, same_lit, has, AddsLast}

-- the derived `==` says whether two literals are one
pub equal_is : (a b : Lit) → ghosts.eq a b ≡ true → a ≡ b
equal_is a b h = search rules

pub is_equal : (a b : Lit) → a ≡ b → ghosts.eq a b ≡ true
is_equal a b h = search rules

-- what a look into the set says
pub contains_by : (held : List Lit) (l : Lit) (b : Bool) → b ≡ list_any (ghosts.eq l) held → MatchBool b (Contains held l) (Contains held l → ⊥)
contains_by held l true e = Contains-list_any ghosts.eq equal_is held l (sym e)
contains_by held l false e = λ i. false≢true (e ∙ list_any_at (ghosts.eq l) held i.0 l i.1 (is_equal l _ (sym i.2)))

-- what an insert leaves
pub adds_by : (old new : List Lit) (l : Lit) → new ≡ insert_key ghosts.eq old l → AddsLast old l new
adds_by old new l e = go (list_any (ghosts.eq l) old) refl
  where
    go : (b : Bool) → list_any (ghosts.eq l) old ≡ b → AddsLast old l new
    go true t = inl (contains_by old l true (sym t), e ∙ ap (λ c. if c then old else old ++ l ∷ []) t)
    go false t = inr (contains_by old l false (sym t), e ∙ ap (λ c. if c then old else old ++ l ∷ []) t)

-- a literal that is new
pub adds_new : (old new : List Lit) (l : Lit) → AddsLast old l new → (Contains old l → ⊥) → new ≡ old ++ l ∷ []
adds_new old new l (inl a) free = absurd (free a.0)
adds_new old new l (inr a) free = a.1

sign_is : (p q : Bool) → cond p q (not q) ≡ true → p ≡ q
sign_is true q e = sym e
sign_is false true e = e
sign_is false false e = refl

sign_refl : (p : Bool) → cond p p (not p) ≡ true
sign_refl true = refl
sign_refl false = refl

same_is : (a b : Lit) → same_lit a b ≡ true → a ≡ b
same_is a b e =
    let s = and_parts (nat_eq a.term.0 b.term.0) (cond a.positive b.positive (not b.positive)) e in
    let id : ℕ → TermId = λ n. record { 0 = n } in
    let make : ℕ → Bool → Lit = λ n p. record { term = id n; positive = p } in
    ap (λ n. make n a.positive) (eqb-true a.term.0 b.term.0 s.0) ∙ ap (make b.term.0) (sign_is a.positive b.positive s.1)

same_refl : (a : Lit) → same_lit a a ≡ true
same_refl a = both_true (eq-eqb a.term.0 a.term.0 refl) (sign_refl a.positive)

-- two literals are one or not
pub decide : (a b : Lit) → (a ≡ b) ⊎ (a ≢ b)
decide a b = go (same_lit a b) refl
  where
    go : (t : Bool) → same_lit a b ≡ t → (a ≡ b) ⊎ (a ≢ b)
    go true e = inl (same_is a b e)
    go false e = inr (λ s. false≢true (sym e ∙ subst (λ (x : Lit). same_lit a x ≡ true) s (same_refl a)))

pub Contains-from_has : (held : List Lit) (m : Lit) → has held m ≡ true → Contains held m
Contains-from_has held m e = let a = Any-from_list_any (λ h. same_lit h m) held e in subst (λ (x : Lit). Contains held x) (same_is a.1 m a.4) (a.0, a.2, a.3)

pub has-from_Contains : (held : List Lit) (m : Lit) → Contains held m → has held m ≡ true
has-from_Contains held m c = list_any_at (λ h. same_lit h m) held c.0 m c.1 (subst (λ (x : Lit). same_lit x m ≡ true) (sym c.2) (same_refl m))

-- a literal is in a list or not
pub is_in : (held : List Lit) (m : Lit) → Contains held m ⊎ (Contains held m → ⊥)
is_in held m = go (has held m) refl
  where
    go : (t : Bool) → has held m ≡ t → Contains held m ⊎ (Contains held m → ⊥)
    go true e = inl (Contains-from_has held m e)
    go false e = inr (λ c. false≢true (sym e ∙ has-from_Contains held m c))

pub negation_twice : (m : Lit) → lit_complement (lit_complement m) ≡ m
negation_twice m = ap (λ (p : Bool). let l : Lit = record { term = m.term; positive = p } in l) (go m.positive)
  where
    go : (p : Bool) → not (not p) ≡ p
    go true = refl
    go false = refl

pub not_own_negation : (m : Lit) → m ≡ lit_complement m → ⊥
not_own_negation m e = go m.positive (ap (λ (l : Lit). l.positive) e)
  where
    go : (p : Bool) → p ≡ not p → ⊥
    go true h = false≢true (sym h)
    go false h = false≢true h
