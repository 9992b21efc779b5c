-- Interpretations that one text defines give each term one value.
use Rattle.std.proofs.Common.{◌≡◌, suc, true, false, List, [], ◌∷◌, length, Contains, Option, Some, None, refl, sym, ap, ap₂, ◌∙◌, subst, inl, inr}
use Rattle.std.proofs.lemmas.Bool.{and_parts}
use Rattle.spec_text.specs.Trees.{Tree, Trees, none, more}
use Rattle.spec_text.proofs.Members.{cases, none as no_member}
use Rattle.spec_sorts.specs.Terms.{Sort, Symbol, Head, Xor, Implies, Equal, Minus, Divide, Less, AtMost, Apply, Parameter, Term, Terms, app, nil, cons, sorts_of, head_takes, is_sorted, are_sorted}
use Rattle.spec_sorts.specs.WellSorted.{AllHeads, AllHeadsIn, IsHeadOver, IsWellSorted}
use Rattle.spec_sorts.specs.Values.{Value, truth, Interpretation, table_value}
use Rattle.spec_sorts.specs.TermValues.{head_value, value_at, values_at}
use Rattle.spec_sorts.specs.Signatures.{Signature}
use Rattle.spec_sorts.specs.Meaning.{Meaning, bind}
use Rattle.spec_sorts.proofs.SameTerms.{one_sorts}
use Rattle.spec_reading.specs.Definitions.{Parts}
use Rattle.spec_models.specs.Models.{parameters_of}
use Rattle.spec_models.specs.Meaning.{model_value, Defines, DefineAll}

-- what an option has, if it has something
abbrev IsSome : Option Parts → Parts → Type 0
IsSome (Some p) q = p ≡ q
IsSome None q = ⊥

-- both interpretations have these tables
abbrev SameTable : Interpretation → Interpretation → Symbol → Type 0
SameTable i j s = (vs : List Value) → length vs ≡ length s.parameters → table_value i s.name vs ≡ table_value j s.name vs

module _ (i j : Interpretation) (g : Signature) where
  -- one definition gives one table
  same_table : (s : Symbol) (t : Tree) → Defines i g s t → Defines j g s t → SameTable i j s
  same_table s t a b vs e =
      let same : a.0 ≡ b.0 = subst (λ o. IsSome o b.0) a.1 (subst (λ o. IsSome o b.0) (sym b.1) refl) in
      let m : Meaning = λ n ws. truth false in
      sym (a.2.value m vs e) ∙ ap (λ (p : Parts). model_value m (bind (parameters_of s) vs) p.body) same ∙ b.2.value m vs e

  same_tables : (symbols : List Symbol) (ts : Trees) → DefineAll i g symbols ts → DefineAll j g symbols ts → (s : Symbol) → Contains symbols s → SameTable i j s
  same_tables [] ts a b s c = absurd (no_member s c)
  same_tables (x ∷ xs) none a b s c = absurd a
  same_tables (x ∷ xs) (more t ts) a b s c = elim (cases x xs s c) [ inl e ↦ subst (SameTable i j) e (same_table x t a.0 b.0) | inr rest ↦ same_tables xs ts a.1 b.1 s rest ]

-- a term has as many values as sorts
as_many : (i : Interpretation) (vs : List Value) (ts : Terms) → length (values_at i vs ts) ≡ length (sorts_of ts)
unfolding values_at
as_many i vs nil = refl
as_many i vs (cons t ts) = ap suc (as_many i vs ts)

module _ (i j : Interpretation) (symbols : List Symbol) (same : (s : Symbol) → Contains symbols s → SameTable i j s) where
  head_same : (ps ss : List Sort) (h : Head) (vs : List Value) → IsHeadOver symbols h → head_takes ps h ss ≡ true → length vs ≡ length ss → head_value i h vs ≡ head_value j h vs
  head_same ps ss (Apply f) vs o e l = same f o vs (l ∙ sym (ap length (one_sorts f.parameters ss e)))
  head_same ps ss Xor (v ∷ w ∷ vs) o e l = refl
  head_same ps ss Xor (v ∷ []) o e l = refl
  head_same ps ss Xor [] o e l = refl
  head_same ps ss Implies (v ∷ w ∷ vs) o e l = refl
  head_same ps ss Implies (v ∷ []) o e l = refl
  head_same ps ss Implies [] o e l = refl
  head_same ps ss Equal (v ∷ w ∷ vs) o e l = refl
  head_same ps ss Equal (v ∷ []) o e l = refl
  head_same ps ss Equal [] o e l = refl
  head_same ps ss Minus (v ∷ w ∷ vs) o e l = refl
  head_same ps ss Minus (v ∷ []) o e l = refl
  head_same ps ss Minus [] o e l = refl
  head_same ps ss Divide (v ∷ w ∷ vs) o e l = refl
  head_same ps ss Divide (v ∷ []) o e l = refl
  head_same ps ss Divide [] o e l = refl
  head_same ps ss Less (v ∷ w ∷ vs) o e l = refl
  head_same ps ss Less (v ∷ []) o e l = refl
  head_same ps ss Less [] o e l = refl
  head_same ps ss AtMost (v ∷ w ∷ vs) o e l = refl
  head_same ps ss AtMost (v ∷ []) o e l = refl
  head_same ps ss AtMost [] o e l = refl
  head_same ps ss _ vs o e l = refl

  mutual
    unfolding value_at values_at is_sorted are_sorted AllHeads AllHeadsIn

    value_same : (ps : List Sort) (vs : List Value) (t : Term) → is_sorted ps t ≡ true → AllHeads (IsHeadOver symbols) t → value_at i vs t ≡ value_at j vs t
    value_same ps vs (app (Parameter k s) ts) e o = refl
    value_same ps vs (app h ts) e o = ap (head_value i h) (values_same ps vs ts (and_parts _ _ e).1 o.1) ∙ head_same ps (sorts_of ts) h (values_at j vs ts) o.0 (and_parts _ _ e).0 (as_many j vs ts)

    values_same : (ps : List Sort) (vs : List Value) (ts : Terms) → are_sorted ps ts ≡ true → AllHeadsIn (IsHeadOver symbols) ts → values_at i vs ts ≡ values_at j vs ts
    values_same ps vs nil e o = refl
    values_same ps vs (cons t ts) e o = ap₂ (λ (x : Value) (xs : List Value). x ∷ xs) (value_same ps vs t (and_parts _ _ e).0 o.0) (values_same ps vs ts (and_parts _ _ e).1 o.1)

-- and so of each well-sorted term
pub terms_agree : (i j : Interpretation) (g : Signature) (symbols : List Symbol) (ts : Trees) → DefineAll i g symbols ts → DefineAll j g symbols ts → (ps : List Sort) (t : Term) (vs : List Value) → IsWellSorted symbols ps t → value_at i vs t ≡ value_at j vs t
terms_agree i j g symbols ts a b ps t vs w = value_same i j symbols (same_tables i j g symbols ts a b) ps vs t w.sorted w.heads
