-- Values by the numbers of listed terms.
use Rattle.std.proofs.Common.{◌≡◌, ◌≢◌, ◌==◌, ℕ, zero, suc, ◌<◌, Bool, true, false, cond, List, [], ◌∷◌, ◌++◌, length, get_or, All, refl, sym, ap, ◌∙◌, subst, arith}
use Rattle.std.specs.Prelude.{slice_set}
use Rattle.std.specs.Bool.{Decides}
use Rattle.std.specs.List.{AllPairs}
use Rattle.std.proofs.lemmas.Bool.{false≢true}
use Rattle.std.proofs.lemmas.Bool.Decides.{Decides-eqb}
use Rattle.std.proofs.lemmas.List.{length-set, get_or-set_same, get_or-set_other}
use Rattle.std.proofs.lemmas.List.Elements.{All-head, All-tail, All-get_or, All-push, All-weaker}
use Rattle.spec_numbers.specs.Fractions.{Fraction, zero_fraction}
use Rattle.spec_sorts.specs.Terms.{Term, same_term}
use Rattle.spec_sorts.proofs.SameTerms.{terms_decide}
use Rattle.spec_valuations.specs.Tables.{Valuation}
use Rattle.spec_valuations.specs.Classes.{class_in}
use Rattle.term_core.specs.declared.ids.TermId.{TermId}
use Rattle.term_core.specs.Tables.{TableView, term_at, IsIn, AreIn, clause_at, AreDifferent}
use Rattle.term_walks.specs.declared.values.Value.{Value as CodeValue}
use Rattle.term_walks.specs.Valuations.{value_meant, IsNamed}
use Rattle.search_model.specs.Models.{no_id, number_in}
use Rattle.search_model.specs.Made.{no_value, value_at_id, IsValueOf}

-- what is found for a term where the terms that it may be go with what they have
module _ {A : Type 0} (no : A) (found_in : List Term → List A → Term → A)
    (step : (u : Term) (us : List Term) (x : A) (xs : List A) (w : Term) → found_in (u ∷ us) (x ∷ xs) w ≡ cond (same_term u w) x (found_in us xs w)) where
  -- of a listed term it is what is at its place
  at_place : (t : TableView) (ids : List TermId) (xs : List A) (k : ℕ) → AreDifferent t.terms → AreIn t ids → AllPairs (λ (i j : TermId). i ≢ j) ids → length xs ≡ length ids → k < length ids
      → found_in (clause_at t ids) xs (term_at t (get_or ids k no_id)) ≡ get_or xs k no
  at_place t [] xs k different there once long lt = absurd (omega (arith, lt))
  at_place t (id ∷ ids) [] k different there once long lt = absurd (omega (arith, long))
  at_place t (id ∷ ids) (x ∷ xs) zero different there once long lt =
      step (term_at t id) (clause_at t ids) x xs (term_at t id)
      ∙ ap (λ b. cond b x (found_in (clause_at t ids) xs (term_at t id))) ((terms_decide (term_at t id) (term_at t id)).1 refl)
  at_place t (id ∷ ids) (x ∷ xs) (suc k) different there once long lt =
      step (term_at t id) (clause_at t ids) x xs (term_at t other)
      ∙ go (same_term (term_at t id) (term_at t other)) refl
      (at_place t ids xs k different (All-tail (IsIn t) id ids there) (λ i j d before j_in. once (suc i) (suc j) d (omega (arith, before)) (omega (arith, j_in))) (omega (arith, long)) in_ids)
    where
      other : TermId
      other = get_or ids k no_id

      in_ids : k < length ids
      in_ids = omega (arith, lt)

      go : (b : Bool) → same_term (term_at t id) (term_at t other) ≡ b → found_in (clause_at t ids) xs (term_at t other) ≡ get_or xs k no
          → cond b x (found_in (clause_at t ids) xs (term_at t other)) ≡ get_or xs k no
      go true e rest =
          let same : id.0 ≡ other.0 = different id.0 other.0 (All-head (IsIn t) id ids there) (All-get_or (IsIn t) ids k no_id in_ids (All-tail (IsIn t) id ids there))
          ((terms_decide (term_at t id) (term_at t other)).0 e) in
          absurd (once 0 (suc k) no_id (omega arith) lt (λ i. record { 0 = same i }))
      go false e rest = rest

-- the class of a listed term is the one at its place
pub class_at : (t : TableView) (ids : List TermId) (classes : List ℕ) (k : ℕ) → AreDifferent t.terms → AreIn t ids → AllPairs (λ (i j : TermId). i ≢ j) ids → length classes ≡ length ids → k < length ids
    → class_in (clause_at t ids) classes (term_at t (get_or ids k no_id)) ≡ get_or classes k 0
class_at = at_place 0 class_in (λ u us x xs w. refl)

-- so is its number
pub number_at : (t : TableView) (ids : List TermId) (numbers : List Fraction) (k : ℕ) → AreDifferent t.terms → AreIn t ids → AllPairs (λ (i j : TermId). i ≢ j) ids → length numbers ≡ length ids → k < length ids
    → number_in (clause_at t ids) numbers (term_at t (get_or ids k no_id)) ≡ get_or numbers k zero_fraction
number_at = at_place zero_fraction number_in (λ u us x xs w. refl)

module _ (t : TableView) (v : Valuation) (vs : List CodeValue) (id : TermId) (x : CodeValue) where
  -- the value of a term comes in
  pub value_there : id.0 < length vs → value_meant t.sorts x ≡ v (term_at t id) → IsNamed t.sorts x → IsValueOf t v (slice_set vs id.0 x) id
  value_there lt means named =
      let same : value_at_id (slice_set vs id.0 x) id ≡ x = get_or-set_same vs id.0 x no_value lt in
      record {
        there = omega (arith, length-set vs id.0 x, lt);
        means = ap (value_meant t.sorts) same ∙ means;
        named = subst (IsNamed t.sorts) (sym same) named;
      }

  -- those of others stay
  value_kept : IsValueOf t v (slice_set vs id.0 x) id → (u : TermId) → IsValueOf t v vs u → IsValueOf t v (slice_set vs id.0 x) u
  value_kept this u h = go (u.0 == id.0) (Decides-eqb u.0 id.0)
    where
      go : (b : Bool) → Decides b (u.0 ≡ id.0) → IsValueOf t v (slice_set vs id.0 x) u
      go true d = subst (IsValueOf t v (slice_set vs id.0 x)) (λ i. record { 0 = sym (d.0 refl) i }) this
      go false d =
          let other : u.0 ≢ id.0 = λ e. false≢true (d.1 e) in
          let same : value_at_id (slice_set vs id.0 x) u ≡ value_at_id vs u = get_or-set_other vs id.0 u.0 x no_value other in
          record {
            there = omega (arith, length-set vs id.0 x, h.there);
            means = ap (value_meant t.sorts) same ∙ h.means;
            named = subst (IsNamed t.sorts) (sym same) h.named;
          }

  pub values_more : (ids : List TermId) → IsValueOf t v (slice_set vs id.0 x) id → All (IsValueOf t v vs) ids → All (IsValueOf t v (slice_set vs id.0 x)) (ids ++ id ∷ [])
  values_more ids this each = All-push (IsValueOf t v (slice_set vs id.0 x)) ids id (All-weaker (IsValueOf t v vs) (IsValueOf t v (slice_set vs id.0 x)) (value_kept this) ids each) this
