-- What the code reads of an atom, and the form that it makes.
use Rattle.std.proofs.Common.{◌≡◌, ◌≢◌, true, false, List, [], ◌∷◌, length, Option, Some, None, Result, Ok, Err, refl, sym, ◌∙◌, ap, subst}
use Rattle.std.specs.Prelude.{IsErrAnd}
use Rattle.std.proofs.lemmas.Option.{same_Some}
use Rattle.spec_text.specs.Answers.{◌>>=◌}
use Rattle.spec_sorts.specs.Terms.{Head, Equal, Less, AtMost, Term, of, pair}
use Rattle.spec_arithmetic.specs.Contradictions.{are_numbers}
use Rattle.spec_arithmetic.specs.Forms.{Form, Fault, subtracting, combined, at_term, form, difference}
use Rattle.spec_simplex.specs.Constraints.{below, at_most, equals, Constraint, saying, where_true, constraint_by}
use Rattle.term_core.specs.declared.ids.TermId.{TermId}
use Rattle.term_core.specs.declared.nodes.Head.{Head as NodeHead}
use Rattle.term_core.specs.declared.nodes.Head.TheVariants as heads
use Rattle.term_core.specs.Tables.{TableView, term_at, head_meant}
use Rattle.linear_form.specs.declared.stop.FormFault.{FormFault}
use Rattle.linear_form.specs.declared.stop.FormFault.TheVariants as faults
use Rattle.linear_form.specs.declared.stop.FormStop.{FormStop}
use Rattle.linear_form.specs.declared.stop.FormStop.TheVariants as joins
use Rattle.linear_form.specs.Meant.{FormView}
use Rattle.linear_form.specs.Making.{Finds, FailsBy}
use Rattle.simplex_atoms.specs.declared.slack.Comparison.{Comparison}
use Rattle.simplex_atoms.specs.declared.slack.Comparison.TheVariants as kinds
use Rattle.simplex_atoms.specs.declared.stop.AtomStop.{AtomStop}
use Rattle.simplex_atoms.specs.Stops.{of_fault, of_join}
use Rattle.simplex_atoms.specs.Watching.{kind_by, constraint_meant, Forms}

-- nothing else than two arguments says anything
pub other_counts : (h : Head) (ts : List Term) → length ts ≢ 2 → None ≡ constraint_by true (of h ts)
unfolding constraint_by
other_counts h (a ∷ b ∷ []) n = absurd (n refl)
other_counts Less [] n = refl
other_counts h [] n = refl
other_counts Less (a ∷ []) n = refl
other_counts h (a ∷ []) n = refl
other_counts Less (a ∷ b ∷ c ∷ ts) n = refl
other_counts h (a ∷ b ∷ c ∷ ts) n = refl

-- nor do terms of other sorts
pub no_numbers : (h : Head) (s u : Term) → false ≡ are_numbers s u → None ≡ constraint_by true (pair h s u)
unfolding constraint_by
no_numbers Less s u n = λ i. where_true (n i) (saying below (pair Less s u) s u)
no_numbers AtMost s u n = λ i. where_true (n i) (saying at_most (pair AtMost s u) s u)
no_numbers Equal s u n = λ i. where_true (n i) (saying equals (pair Equal s u) s u)
no_numbers h s u n = refl

-- nor do other heads
pub other_heads : (t : TableView) (h : NodeHead) (s u : Term) → kind_by h ≡ None → None ≡ constraint_by true (pair (head_meant t h) s u)
unfolding constraint_by
other_heads t heads.Less s u e = cc
other_heads t heads.AtMost s u e = cc
other_heads t heads.Equal s u e = cc
other_heads t h s u e = refl

module _ (t : TableView) (left right a : TermId) (numbers : true ≡ are_numbers (term_at t left) (term_at t right)) where
  as_read : Comparison → Option Constraint
  as_read k = Some (constraint_meant t (record { kind = k; atom = a; left = left; right = right }))

  -- what the code reads of an atom of two numbers
  pub read : (h : NodeHead) (k : Comparison) → kind_by h ≡ Some k → term_at t a ≡ pair (head_meant t h) (term_at t left) (term_at t right)
      → (let o : Option Constraint = Some (constraint_meant t (record { kind = k; atom = a; left = left; right = right })) in o) ≡ constraint_by true (pair (head_meant t h) (term_at t left) (term_at t right))
  unfolding constraint_by as_read
  read heads.Less k h e = ap as_read (sym (same_Some kinds.Less k h)) ∙ (λ i. where_true (numbers i) (saying below (e i) (term_at t left) (term_at t right)))
  read heads.AtMost k h e = ap as_read (sym (same_Some kinds.AtMost k h)) ∙ (λ i. where_true (numbers i) (saying at_most (e i) (term_at t left) (term_at t right)))
  read heads.Equal k h e = ap as_read (sym (same_Some kinds.Equal k h)) ∙ (λ i. where_true (numbers i) (saying equals (e i) (term_at t left) (term_at t right)))
  read h k e is = absurd (none_kind k e)
    where
      none_kind : (k : Comparison) → (let o : Option Comparison = None in o) ≡ Some k → ⊥
      none_kind k e = cc

-- the form of a difference

pub forms_err : (t : TableView) (a : Result Form Fault) (r : Result FormView AtomStop) (s : AtomStop) → Forms t a (Err s) → IsErrAnd r (λ e. e ≡ s) → Forms t a r
forms_err t a (Ok f) s h is = absurd is
forms_err t a (Err e) s h is = subst (λ (x : AtomStop). Forms t a (Err x)) (sym is) h

module _ (a s u : Term) (t : TableView) where
  pub left_stops : (x : FormFault) → Finds t (form s) (Err x) → Forms t (difference a s u) (Err (of_fault x))
  unfolding difference ◌>>=◌
  left_stops (faults.Wide id w) h = (_, ap (λ r. r >>= λ f. form u >>= λ g. at_term a (combined subtracting f g)) h, refl)
  left_stops faults.Memory h = tt

  module _ (f : Form) (left : form s ≡ Ok f) where
    on_left : difference a s u ≡ (form u >>= λ g. at_term a (combined subtracting f g))
    unfolding difference ◌>>=◌
    on_left = ap (λ r. r >>= λ f. form u >>= λ g. at_term a (combined subtracting f g)) left

    pub right_stops : (x : FormFault) → Finds t (form u) (Err x) → Forms t (difference a s u) (Err (of_fault x))
    unfolding ◌>>=◌
    right_stops (faults.Wide id w) h = (_, on_left ∙ ap (λ r. r >>= λ g. at_term a (combined subtracting f g)) h, refl)
    right_stops faults.Memory h = tt

    module _ (g : Form) (right : form u ≡ Ok g) where
      on_both : difference a s u ≡ at_term a (combined subtracting f g)
      unfolding ◌>>=◌
      on_both = on_left ∙ ap (λ r. r >>= λ g. at_term a (combined subtracting f g)) right

      pub join_stops : (x : FormStop) → FailsBy (combined subtracting f g) x → Forms t (difference a s u) (Err (of_join x))
      join_stops (joins.Wide w) h = (_, on_both ∙ ap (at_term a) h, refl)
      join_stops joins.Memory h = tt

      pub made : (h : Form) → combined subtracting f g ≡ Ok h → difference a s u ≡ Ok h
      made h e = on_both ∙ ap (at_term a) e
