-- What the code reads of a literal is what its negation says.
use Rattle.std.proofs.Common.{◌≡◌, ◌≢◌, Bool, true, false, not, List, [], ◌∷◌, length, None, refl, sym, ap, ◌∙◌}
use Rattle.spec_sorts.specs.Terms.{Head, Not, Equal, Less, AtMost, Term, app, nil, cons, of, pair, negated}
use Rattle.spec_sorts.specs.Literals.{Literal, literal_of}
use Rattle.spec_arithmetic.specs.Contradictions as sums
use Rattle.spec_arithmetic.specs.Contradictions.{negation_of, are_numbers, where_true, saying}
use Rattle.term_core.specs.declared.ids.TermId.{TermId}
use Rattle.term_core.specs.declared.ids.Lit.{Lit}
use Rattle.term_core.specs.declared.nodes.Head.{Head as NodeHead}
use Rattle.term_core.specs.declared.nodes.Head.TheVariants as heads
use Rattle.term_core.specs.Tables.{TableView, term_at, literal_at, head_meant}
use Rattle.linear_form.specs.Literals.{negation_meant, denial_by_sign}

-- what is meant so, or else the other way
abbrev meant_as : Bool → Bool → Bool
meant_as true b = b
meant_as false b = not b

turned : (p b : Bool) → meant_as (not p) b ≡ meant_as p (not b)
turned true b = refl
turned false true = refl
turned false false = refl

-- leading nots only turn how the rest is meant
below_nots : (p : Bool) (t : Term) → negation_of p t ≡ negation_of (meant_as p (literal_of t).positive) (literal_of t).atom
unfolding negation_of literal_of
below_nots p (app Not (cons t nil)) = below_nots (not p) t ∙ ap (λ (b : Bool). negation_of b (literal_of t).atom) (turned p (literal_of t).positive)
below_nots true (app Not nil) = refl
below_nots false (app Not nil) = refl
below_nots true (app Not (cons t (cons u vs))) = refl
below_nots false (app Not (cons t (cons u vs))) = refl
below_nots true (app h ts) = refl
below_nots false (app h ts) = refl

-- what is left of a term is no negation
bare : (t u : Term) → (literal_of t).atom ≡ negated u → ⊥
unfolding literal_of
bare (app Not (cons t nil)) u e = bare t u e
bare (app Not nil) u e = cc
bare (app Not (cons t (cons v vs))) u e = cc
bare (app h ts) u e = cc

-- a term's negation says what that of its literal does
pub of_literal : (t : TableView) (l : Lit) (u : Term) → literal_at t l ≡ literal_of u → negation_of l.positive (term_at t l.term) ≡ negation_of true u
of_literal t l u e = ap (λ (m : Literal). negation_of m.positive m.atom) e ∙ sym (below_nots true u)

pub bare_atom : (t : TableView) (l : Lit) (u v : Term) → literal_at t l ≡ literal_of u → term_at t l.term ≡ negated v → ⊥
bare_atom t l u v e is = bare u v (ap (λ (m : Literal). m.atom) (sym e) ∙ is)

-- nothing else than a negation says anything of other than two arguments
pub other_counts : (h : Head) (ts : List Term) (p : Bool) → length ts ≢ 2 → ((v : Term) → of h ts ≡ negated v → ⊥) → None ≡ negation_of p (of h ts)
unfolding negation_of
other_counts Not (a ∷ []) p n other = absurd (other a refl)
other_counts h (a ∷ b ∷ []) p n other = absurd (n refl)
other_counts Not [] true n other = refl
other_counts Not [] false n other = refl
other_counts h [] true n other = refl
other_counts h [] false n other = refl
other_counts h (a ∷ []) true n other = refl
other_counts h (a ∷ []) false n other = refl
other_counts Not (a ∷ b ∷ c ∷ ts) true n other = refl
other_counts Not (a ∷ b ∷ c ∷ ts) false n other = refl
other_counts h (a ∷ b ∷ c ∷ ts) true n other = refl
other_counts h (a ∷ b ∷ c ∷ ts) false n other = refl

-- nor do terms of other sorts
pub no_numbers : (h : Head) (s u : Term) (p : Bool) → false ≡ are_numbers s u → None ≡ negation_of p (pair h s u)
unfolding negation_of
no_numbers Equal s u false n = λ i. where_true (n i) (saying sums.is_nought (pair Equal s u) s u)
no_numbers Less s u false n = λ i. where_true (n i) (saying sums.is_below (pair Less s u) s u)
no_numbers Less s u true n = λ i. where_true (n i) (saying sums.is_at_most (pair Less s u) u s)
no_numbers AtMost s u false n = λ i. where_true (n i) (saying sums.is_at_most (pair AtMost s u) s u)
no_numbers AtMost s u true n = λ i. where_true (n i) (saying sums.is_below (pair AtMost s u) u s)
no_numbers h s u true n = refl
no_numbers h s u false n = refl

module _ (t : TableView) (left right a : TermId) (numbers : true ≡ are_numbers (term_at t left) (term_at t right)) where
  -- what the code reads of an atom of two numbers
  read : (h : NodeHead) (p : Bool) → term_at t a ≡ pair (head_meant t h) (term_at t left) (term_at t right)
      → negation_meant t (denial_by_sign h p a left right) ≡ negation_of p (pair (head_meant t h) (term_at t left) (term_at t right))
  unfolding negation_of
  read heads.Equal false e = λ i. where_true (numbers i) (saying sums.is_nought (e i) (term_at t left) (term_at t right))
  read heads.Less false e = λ i. where_true (numbers i) (saying sums.is_below (e i) (term_at t left) (term_at t right))
  read heads.Less true e = λ i. where_true (numbers i) (saying sums.is_at_most (e i) (term_at t right) (term_at t left))
  read heads.AtMost false e = λ i. where_true (numbers i) (saying sums.is_at_most (e i) (term_at t left) (term_at t right))
  read heads.AtMost true e = λ i. where_true (numbers i) (saying sums.is_below (e i) (term_at t right) (term_at t left))
  read h true e = refl
  read h false e = refl

  pub numbers_say : (h : NodeHead) (p : Bool) → term_at t a ≡ pair (head_meant t h) (term_at t left) (term_at t right) → negation_meant t (denial_by_sign h p a left right) ≡ negation_of p (term_at t a)
  numbers_say h p e = read h p e ∙ ap (negation_of p) (sym e)
