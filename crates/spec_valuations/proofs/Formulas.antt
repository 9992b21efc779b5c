-- A term that joins formulas has the value of its head, whatever elements and numbers other terms have.
use Rattle.std.proofs.Common.{◌≡◌, ℕ, Bool, true, false, List, [], ◌∷◌, map, refl, sym, ap, ◌∙◌}
use Rattle.std.specs.Cmp.Derive.{both_true}
use Rattle.std.proofs.lemmas.Bool.{false≢true, and_parts}
use Rattle.spec_numbers.specs.Fractions.{Fraction}
use Rattle.spec_sorts.specs.Terms.{Sort, Truth, same_sort, Head, True, False, Not, And, Or, Xor, Implies, Equal, Ite, Apply, Term, Terms, app, nil, cons, list_of, sort_of, sorts_of, all_same, head_takes}
use Rattle.spec_sorts.specs.Values.{truth, Interpretation}
use Rattle.spec_sorts.specs.TermValues.{head_value}
use Rattle.spec_sorts.proofs.General.{sorts_listed}
use Rattle.spec_sorts.proofs.WellSorted.{same_sort_is}
use Rattle.spec_rules.specs.Truths.{Truths, term_true_by}
use Rattle.spec_derivations.specs.Models.{joins_formulas}
use Rattle.spec_derivations.proofs.Formulas.{is_core, core_truth}
use Rattle.spec_derivations.proofs.Obeying.{IsMet, obeyed}
use Rattle.spec_valuations.specs.Tables.{Obeys, values_by}
use Rattle.spec_valuations.specs.Classes.{value_in, value_by}

-- such a head before arguments of sort Bool that it takes joins formulas
pub core_joins : (h : Head) (ts : Terms) → is_core h ≡ true → head_takes [] h (sorts_of ts) ≡ true → all_same Truth (sorts_of ts) ≡ true → joins_formulas (app h ts) ≡ true
core_joins h ts core takes each =
    let fits = ap (head_takes [] h) (sym (sorts_listed ts)) ∙ takes in
    let truths = ap (all_same Truth) (sym (sorts_listed ts)) ∙ each in
    both_true (both_true fits truths) (ap (same_sort Truth) (core_truth h ts core truths))

module _ (v : Truths) (point : Term → Fraction) (class : Term → ℕ) where
  -- the values of arguments of sort Bool
  truths_of : (ts : Terms) → all_same Truth (map sort_of (list_of ts)) ≡ true → values_by (value_by (term_true_by v) point class) ts ≡ map (λ u. truth (term_true_by v u)) (list_of ts)
  truths_of nil e = refl
  truths_of (cons t ts) e =
      let h = and_parts (same_sort Truth (sort_of t)) (all_same Truth (map sort_of (list_of ts))) e in
      λ i. value_in (sym (same_sort_is Truth (sort_of t) h.0) i) (term_true_by v t) (point t) (class t) ∷ truths_of ts h.1 i

  by_head : (h : Head) (ts : Terms) (i : Interpretation) → joins_formulas (app h ts) ≡ true
      → truth (term_true_by v (app h ts)) ≡ head_value i h (map (λ u. truth (term_true_by v u)) (list_of ts))
      → value_by (term_true_by v) point class (app h ts) ≡ head_value i h (values_by (value_by (term_true_by v) point class) ts)
  by_head h ts i j o =
      let own = and_parts _ (same_sort Truth (sort_of (app h ts))) j in
      let each = and_parts (head_takes [] h (map sort_of (list_of ts))) (all_same Truth (map sort_of (list_of ts))) own.0 in
      ap (λ x. value_in x (term_true_by v (app h ts)) (point (app h ts)) (class (app h ts))) (sym (same_sort_is Truth (sort_of (app h ts)) own.1)) ∙ o
      ∙ ap (head_value i h) (sym (truths_of ts each.1))

  pub formula_obeys : (t : Term) → joins_formulas t ≡ true → IsMet v t → Obeys (value_by (term_true_by v) point class) t
  formula_obeys (app (Apply s) ts) f met = tt
  formula_obeys (app h ts) f met = λ i. by_head h ts i f (obeyed v (app h ts) f met i)

-- a head that takes truth values alone
abbrev pub is_connective : Head → Bool
is_connective Equal = false
is_connective Ite = false
is_connective h = is_core h

-- what it takes are truth values
pub truths_taken : (h : Head) (ss : List Sort) → head_takes [] h ss ≡ true → is_connective h ≡ true → all_same Truth ss ≡ true
truths_taken True [] e k = refl
truths_taken False [] e k = refl
truths_taken Not (Truth ∷ []) e k = refl
truths_taken And (s ∷ ss) e k = e
truths_taken Or (s ∷ ss) e k = e
truths_taken Xor (Truth ∷ Truth ∷ []) e k = refl
truths_taken Implies (Truth ∷ Truth ∷ []) e k = refl
truths_taken True ss e k = absurd (false≢true e)
truths_taken False ss e k = absurd (false≢true e)
truths_taken Not ss e k = absurd (false≢true e)
truths_taken And ss e k = absurd (false≢true e)
truths_taken Or ss e k = absurd (false≢true e)
truths_taken Xor ss e k = absurd (false≢true e)
truths_taken Implies ss e k = absurd (false≢true e)
truths_taken h ss e k = absurd (false≢true k)
