-- Interpretations with the same tables of a formula's symbols give it the same bounded value.
use Rattle.std.proofs.Common.{◌≡◌, true, List, [], ◌∷◌, All, None, refl, ap, ◌∙◌}
use Rattle.std.specs.Prelude.{Result, Ok}
use Rattle.std.specs.List.{AllByRecursion}
use Rattle.std.proofs.lemmas.List.Elements.{All-contains}
use Rattle.spec_text.specs.Answers.{◌>>=◌}
use Rattle.spec_text.specs.Trees.{offset_of}
use Rattle.spec_numbers.specs.Bounds.{Overflow}
use Rattle.spec_sorts.specs.Terms.{Symbol, Head, Xor, Implies, Equal, Minus, Plus, Times, Divide, Less, AtMost, Apply, Parameter, Term, Terms, app, nil, cons}
use Rattle.spec_sorts.specs.WellSorted.{AllHeads, AllHeadsIn, IsHeadOver, IsFormulaOver}
use Rattle.spec_sorts.specs.Values.{Value, truth, Table, first_fit, Interpretation}
use Rattle.spec_sorts.specs.BoundedValues.{bounded_head, bounded_value, bounded_values}
use Rattle.spec_commands.specs.Stack.{Assertion}
use Rattle.spec_model_files.specs.Verdicts.{untrue_by, first_of, first_untrue}

module _ (i j : Interpretation) (symbols : List Symbol) (same : All (λ (s : Symbol). j.table s.name ≡ i.table s.name) symbols) where
  -- a head gives the same at the same values
  head_same : (h : Head) (vs : List Value) → IsHeadOver symbols h → bounded_head j h vs ≡ bounded_head i h vs
  head_same (Apply f) vs o = ap (λ (t : Table). Ok (first_fit t.rows t.default vs)) (All-contains (λ (s : Symbol). j.table s.name ≡ i.table s.name) symbols f same o)
  head_same Xor (v ∷ w ∷ vs) o = refl
  head_same Xor (v ∷ []) o = refl
  head_same Xor [] o = refl
  head_same Implies (v ∷ w ∷ vs) o = refl
  head_same Implies (v ∷ []) o = refl
  head_same Implies [] o = refl
  head_same Equal (v ∷ w ∷ vs) o = refl
  head_same Equal (v ∷ []) o = refl
  head_same Equal [] o = refl
  head_same Minus (v ∷ w ∷ vs) o = refl
  head_same Minus (v ∷ []) o = refl
  head_same Minus [] o = refl
  head_same Plus (v ∷ vs) o = refl
  head_same Plus [] o = refl
  head_same Times (v ∷ vs) o = refl
  head_same Times [] o = refl
  head_same Divide (v ∷ w ∷ vs) o = refl
  head_same Divide (v ∷ []) o = refl
  head_same Divide [] o = refl
  head_same Less (v ∷ w ∷ vs) o = refl
  head_same Less (v ∷ []) o = refl
  head_same Less [] o = refl
  head_same AtMost (v ∷ w ∷ vs) o = refl
  head_same AtMost (v ∷ []) o = refl
  head_same AtMost [] o = refl
  head_same _ vs o = refl

  -- what follows does
  then_same : (a b : Result (List Value) Overflow) (h : Head) → IsHeadOver symbols h → a ≡ b → (a >>= λ vs. bounded_head j h vs) ≡ (b >>= λ vs. bounded_head i h vs)
  then_same a b h o e = λ k. e k >>= λ vs. head_same h vs o k

  mutual
    unfolding bounded_value bounded_values AllHeads AllHeadsIn

    value_same : (ps : List Value) (t : Term) → AllHeads (IsHeadOver symbols) t → bounded_value j ps t ≡ bounded_value i ps t
    value_same ps (app (Parameter k s) ts) o = refl
    value_same ps (app h ts) o = then_same (bounded_values j ps ts) (bounded_values i ps ts) h o.0 (values_same ps ts o.1)

    values_same : (ps : List Value) (ts : Terms) → AllHeadsIn (IsHeadOver symbols) ts → bounded_values j ps ts ≡ bounded_values i ps ts
    values_same ps nil o = refl
    values_same ps (cons t ts) o = λ k. value_same ps t o.0 k >>= λ v. values_same ps ts o.1 k >>= λ vs. Ok (v ∷ vs)

  -- so formulas that are true under one of them have no fault under the other
  pub none_untrue : (list : List Assertion) → AllByRecursion (λ (a : Assertion). IsFormulaOver symbols a.term) list → AllByRecursion (λ (a : Assertion). bounded_value i [] a.term ≡ Ok (truth true)) list → first_untrue j list ≡ None
  unfolding first_untrue
  none_untrue [] f e = refl
  none_untrue (a ∷ rest) f e =
      ap (λ r. first_of (untrue_by (offset_of a.text) r) (first_untrue j rest)) (value_same [] a.term f.0.term.heads ∙ e.0)
      ∙ none_untrue rest f.1 e.1
