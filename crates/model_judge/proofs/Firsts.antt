-- The first expression that is not true, from a place on, and of lists one after the other.
use Rattle.std.proofs.Common.{◌≡◌, ◌<◌, ◌≤◌, ◌+◌, ◌-◌, ℕ, List, [], ◌∷◌, ◌++◌, length, map, take, drop, get_or, Bool, true, false, if◌then◌else◌, Option, Some, None, refl, sym, ap, ◌∙◌, subst, arith}
use Rattle.std.proofs.lemmas.List.{drop_more, drop-drop, take-append-drop, get_or-map, length-map}
use Rattle.std.proofs.Math.ListN.{drop_of_length-le}
use Rattle.std.specs.Prelude.{Ok, option_map}
use Rattle.spec_sorts.specs.Values.{is_true, Interpretation}
use Rattle.spec_sorts.specs.BoundedValues.{bounded_value}
use Rattle.spec_text.specs.Bytes.{Name}
use Rattle.spec_text.specs.Trees.{offset_of}
use Rattle.spec_commands.specs.Stack.{Assertion, terms_asserted}
use Rattle.spec_model_files.specs.declared.ModelKind.{ModelKind}
use Rattle.spec_model_files.specs.declared.ModelKind.TheVariants.{NotTrue}
use Rattle.spec_model_files.specs.Faults.{ModelFault, model_fault}
use Rattle.spec_model_files.specs.Verdicts.{untrue_by, first_of, first_untrue}
use Rattle.term_core.specs.declared.ids.TermId.{TermId}
use Rattle.term_core.specs.Tables.{TableView, term_at, clause_at, IsIn, AreIn}
use Rattle.assertion_stack.specs.Assertions.{offsets_of}
use Rattle.term_walks.specs.declared.values.Value.{Value as CodeValue}
use Rattle.term_walks.specs.Valuations.{value_meant}
use Rattle.script_standing.specs.declared.standing.Expression.{Expression}
use Rattle.script_standing.specs.Standings.{terms_of, starts_of}
use Rattle.model_judge.specs.Untrue.{untrue_at, first_untrue_at}

none_of : (a b : Option ModelFault) → first_of a b ≡ None → (a ≡ None) × (b ≡ None)
none_of None b h = (refl, h)
none_of (Some f) b h = cc

module _ (t : TableView) (i : Interpretation) where
  -- those before are true
  pub first_behind : (xs ys : List Expression) → first_untrue_at t i xs ≡ None → first_untrue_at t i (xs ++ ys) ≡ first_untrue_at t i ys
  unfolding first_untrue_at
  first_behind [] ys h = refl
  first_behind (x ∷ xs) ys h =
      let p = none_of (untrue_at t i x) (first_untrue_at t i xs) h in
      ap (λ a. first_of a (first_untrue_at t i (xs ++ ys))) p.0 ∙ first_behind xs ys p.1

  -- the one at a place, and then others
  first_at : (es : List Expression) (k : ℕ) (e : Expression) → k < length es → e ≡ get_or es k e → first_untrue_at t i (drop k es) ≡ first_of (untrue_at t i e) (first_untrue_at t i (drop (k + 1) es))
  unfolding first_untrue_at
  first_at es k e lt is = ap (first_untrue_at t i) (drop_more es k e lt) ∙ ap (λ x. first_of (untrue_at t i x) (first_untrue_at t i (drop (k + 1) es))) (sym is)

  pub first_found : (es : List Expression) (k : ℕ) (e : Expression) (f : ModelFault) → k < length es → e ≡ get_or es k e → Some f ≡ untrue_at t i e → first_untrue_at t i (drop k es) ≡ Some f
  first_found es k e f lt is h = first_at es k e lt is ∙ ap (λ a. first_of a (first_untrue_at t i (drop (k + 1) es))) (sym h)

  pub first_passed : (es : List Expression) (k : ℕ) (e : Expression) → k < length es → e ≡ get_or es k e → None ≡ untrue_at t i e → first_untrue_at t i (drop k es) ≡ first_untrue_at t i (drop (k + 1) es)
  first_passed es k e lt is h = first_at es k e lt is ∙ ap (λ a. first_of a (first_untrue_at t i (drop (k + 1) es))) (sym h)

  -- those up to a place are true
  pub many_passed : (es : List Expression) (k n : ℕ) → k ≤ n → first_untrue_at t i (take (n - k) (drop k es)) ≡ None → first_untrue_at t i (drop k es) ≡ first_untrue_at t i (drop n es)
  many_passed es k n le h =
      let there : k + (n - k) ≡ n = omega (arith, le) in
      ap (first_untrue_at t i) (sym (take-append-drop (n - k) (drop k es))) ∙ first_behind (take (n - k) (drop k es)) (drop (n - k) (drop k es)) h
      ∙ ap (first_untrue_at t i) (drop-drop (n - k) k es ∙ ap (λ m. drop m es) there)

  pub first_nowhere : (es : List Expression) (k : ℕ) → length es ≤ k → None ≡ first_untrue_at t i (drop k es)
  unfolding first_untrue_at
  first_nowhere es k le = ap (first_untrue_at t i) (sym (drop_of_length-le es le))

-- the term of the one at a place is in the table
pub is_there : (t : TableView) (es : List Expression) (k : ℕ) (e : Expression) → k < length es → e ≡ get_or es k e → AreIn t (terms_of es) → IsIn t e.term
is_there t es k e lt is h =
    let id : Expression → TermId = λ x. x.term in
    let there : k < length (map id es) = subst (λ n. k < n) (sym (length-map es id)) lt in
    subst (IsIn t) (get_or-map id es k e e.term lt ∙ ap id (sym is)) (h k e.term there)

-- it is that of what the expressions are
pub first_same : (t : TableView) (i : Interpretation) (es : List Expression) (asked : List Assertion) → clause_at t (terms_of es) ≡ terms_asserted asked → starts_of es ≡ offsets_of asked → first_untrue_at t i es ≡ first_untrue i asked
unfolding first_untrue_at first_untrue
first_same t i [] [] terms starts = refl
first_same t i [] (a ∷ rest) terms starts = cc
first_same t i (e ∷ es) [] terms starts = cc
first_same t i (e ∷ es) (a ∷ rest) terms starts =
    let term : term_at t e.term ≡ a.term = cc in
    let start : e.at ≡ offset_of a.text = cc in
    let more_terms : clause_at t (terms_of es) ≡ terms_asserted rest = ap (drop 1) terms in
    let more_starts : starts_of es ≡ offsets_of rest = ap (drop 1) starts in
    let others : first_untrue_at t i es ≡ first_untrue i rest = first_same t i es rest more_terms more_starts in
    λ j. first_of (untrue_by (start j) (bounded_value i [] (term j))) (others j)

-- the fault by a value
pub kind_by_truth : (at : ℕ) (found : Option ModelKind) (b : Bool) (sorts : List Name) (v : CodeValue) → found ≡ (if b then None else Some NotTrue) → b ≡ is_true (value_meant sorts v) → option_map (λ k. model_fault at k) found ≡ untrue_by at (Ok (value_meant sorts v))
kind_by_truth at found b sorts v h e = ap (option_map (λ k. model_fault at k)) (h ∙ ap (λ x. if x then None else Some NotTrue) e) ∙ by_truth (is_true (value_meant sorts v))
  where
    by_truth : (x : Bool) → option_map (λ k. model_fault at k) (if x then None else Some NotTrue) ≡ (if x then None else Some (model_fault at NotTrue))
    by_truth true = refl
    by_truth false = refl
