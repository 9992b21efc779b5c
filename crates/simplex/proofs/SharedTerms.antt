-- Sums and values of terms in the state of simplex.
use Rattle.std.proofs.Common.{◌≡◌, ◌+◌, ◌<◌, ◌≤◌, ℕ, inl, inr, List, [], ◌∷◌, ◌++◌, length, map, take, get_or, All, Option, Some, None, Result, Ok, Err, refl, sym, ◌∙◌, ap, subst}
use Rattle.std.proofs.lemmas.List.{map-append, take_more, take_all}
use Rattle.std.proofs.lemmas.List.Elements.{All-contains, Contains-get_or}
use Rattle.spec_text.proofs.Members.{to_image}
use Rattle.spec_numbers.specs.Fractions.{Fraction, zero_fraction}
use Rattle.spec_numbers.proofs.Field.{zero-reduced}
use Rattle.spec_numbers.specs.Bounds.{Overflow}
use Rattle.spec_sorts.specs.Terms.{Term}
use Rattle.spec_arithmetic.specs.Forms.{form}
use Rattle.spec_arithmetic.proofs.FormValues.{AreProper}
use Rattle.spec_tableaux.specs.Spaces.{Pair}
use Rattle.spec_tableaux.specs.Rows.{Entry}
use Rattle.spec_tableaux.specs.Numbers.{Number, numbers, fractions}
use Rattle.spec_tableaux.proofs.Numbers.{number_is}
use Rattle.spec_tableaux.specs.Deltas as exact
use Rattle.spec_tableaux.specs.Deltas.{delta_added, delta_scaled}
use Rattle.spec_tableaux.specs.Points.{deltas, point_in, delta_in}
use Rattle.spec_causes.specs.TermTableau.{TermTableau}
use Rattle.spec_causes.specs.Shared.{AreOwnedEntries, IsSumAt, IsValueOf, AreValuesOf, OverflowsSumAt, OverflowsTerm, in_form, in_sum, by_constant}
use Rattle.spec_causes.proofs.Owned.{owned_entries, first_owned, first_left_out, no_entries}
use Rattle.ratio128.specs.declared.ratio.Ratio.{Ratio}
use Rattle.ratio128.specs.Meant.{fraction}
use Rattle.delta_num.specs.declared.delta.Delta.{Delta}
use Rattle.delta_num.specs.Meant.{delta}
use Rattle.term_core.specs.declared.ids.TermId.{TermId}
use Rattle.term_core.specs.Tables.{TableView, term_at, clause_at, IsIn, AreDifferent}
use Rattle.linear_form.specs.declared.stop.FormFault.{FormFault}
use Rattle.linear_form.specs.declared.stop.FormFault.TheVariants as faults
use Rattle.linear_form.specs.Meant.{FormView, form_meant, pair_meant}
use Rattle.linear_form.specs.Entries.{pair_view}
use Rattle.linear_form.specs.Making.{fault_meant, Finds}
use Rattle.tableau.specs.Numbers.{number_of}
use Rattle.simplex_bounds.specs.Deltas.{pair_of}
use Rattle.simplex_check.proofs.Summing.{Summed, summed_none, summed_more, summed_all, overflows_product, overflows_sum}
use Rattle.simplex_atoms.specs.Owners.{owner_at, IsNumberOf}
use Rattle.simplex_atoms.specs.TermTableauViews.{owner_meant, TellsOwners}
use Rattle.simplex_atoms.specs.Stops.{of_fault}
use Rattle.simplex_atoms.specs.Watching.{OnAtomOverflow}
use Rattle.simplex_atoms.proofs.Numbered.{owner_mapped}
use Rattle.simplex_atoms.proofs.Coming.{term_owned, term_new}
use Rattle.simplex.specs.Views.{SimplexView, IsOf}
use Rattle.simplex.specs.Values.{variables_meant, next_by, IsNextSum, OverflowsNextSum}
use Rattle.simplex.specs.Coming.{term_tableau_of}

-- coefficients of the code are in lowest terms
are_proper : (t : TableView) (xs : List (TermId × Ratio)) → AreProper (λ w. zero_fraction) (variables_meant t xs)
are_proper t [] = tt
are_proper t (x ∷ xs) = (record { coefficient = (number_of x.1).reduced; number = zero-reduced }, are_proper t xs)

-- The sum of the terms before the rest.
pub record Left (s : TermTableau) (whole rest : List (Term × Fraction)) (sum : Pair Number) : Type 0 where
  pub entries : List (Entry Number)
  pub are : AreOwnedEntries s.owners entries whole
  pub left : List (Entry Number)
  pub left_are : AreOwnedEntries s.owners left rest
  pub summed : Summed (point_in s.values) entries left sum

pub left_all : (t : TableView) (s : TermTableau) (xs : List (TermId × Ratio)) (sum : Pair Number) → sum ≡ deltas.origin → Left s (variables_meant t xs) (variables_meant t xs) sum
left_all t s xs sum e =
    let g = owned_entries s.owners (λ w. zero_fraction) (variables_meant t xs) (are_proper t xs) in
    record { entries = g.0; are = g.1; left = g.0; left_are = g.1; summed = summed_none (point_in s.values) g.0 sum e }

pub left_none : (s : TermTableau) (whole : List (Term × Fraction)) (sum : Pair Number) → Left s whole [] sum → IsSumAt s whole sum
left_none s whole sum l = record {
  entries = l.entries;
  are = l.are;
  is = summed_all (point_in s.values) l.entries l.left sum l.summed (no_entries s.owners l.left l.left_are);
}

module _ (t : TableView) (v : SimplexView) (unique : AreDifferent t.terms) (is : IsOf v t) where
  tells : TellsOwners t v.atoms.owners
  tells = (unique, is.right.owners_in)

  abbrev meant : TermId × Ratio → Term × Fraction
  meant x = (term_at t x.0, fraction x.1)

  abbrev entry : TermId × Ratio → ℕ → Entry Number
  entry x y = record { variable = y; coefficient = number_of x.1 }

  -- the entry of a first term that a variable stands for
  at_first : (whole : List (Term × Fraction)) (x : TermId × Ratio) (xs : List (TermId × Ratio)) (sum : Pair Number) (y : ℕ) → owner_at v.atoms.owners y ≡ Some x.0 → IsIn t x.0
      → (l : Left (term_tableau_of t v) whole (variables_meant t (x ∷ xs)) sum) → (rest : List (Entry Number)) × (l.left ≡ entry x y ∷ rest) × AreOwnedEntries (term_tableau_of t v).owners rest (variables_meant t xs)
  at_first whole x xs sum y represents there l =
      first_owned (term_tableau_of t v).owners (meant x) (entry x y) (record { owner = owner_mapped t v.atoms.owners y ∙ ap (owner_meant t) represents; coefficient = refl })
      (λ z k. is.right.once z y x.0 (term_owned t v.atoms.owners x.0 tells there z k) represents) l.left (variables_meant t xs) l.left_are

  pub left_more : (whole : List (Term × Fraction)) (x : TermId × Ratio) (xs : List (TermId × Ratio)) (sum next : Pair Number) → IsIn t x.0 → Left (term_tableau_of t v) whole (variables_meant t (x ∷ xs)) sum
      → IsNextSum v x.0 (number_of x.1) sum next → Left (term_tableau_of t v) whole (variables_meant t xs) next
  left_more whole x xs sum next there l n = by n.variable n.represents n.is
    where
      by : (o : Option ℕ) → IsNumberOf v.atoms.owners x.0 o → next ≡ next_by v (number_of x.1) sum o → Left (term_tableau_of t v) whole (variables_meant t xs) next
      by None free e = record {
        entries = l.entries;
        are = l.are;
        left = l.left;
        left_are = first_left_out (term_tableau_of t v).owners (meant x) (term_new t v.atoms.owners x.0 tells there free) l.left (variables_meant t xs) l.left_are;
        summed = subst (Summed (point_in v.assignment.values) l.entries l.left) (sym e) l.summed;
      }
      by (Some y) represents e =
          let first = at_first whole x xs sum y represents there l in
          record {
            entries = l.entries;
            are = l.are;
            left = first.0;
            left_are = first.2;
            summed = summed_more (point_in v.assignment.values) l.entries l.left first.0 (entry x y) sum (deltas.scale (number_of x.1) (point_in v.assignment.values y)) next l.summed first.1 refl e;
          }

  pub left_overflows : (whole : List (Term × Fraction)) (x : TermId × Ratio) (xs : List (TermId × Ratio)) (sum : Pair Number) (o : Overflow) → IsIn t x.0
      → Left (term_tableau_of t v) whole (variables_meant t (x ∷ xs)) sum → OverflowsNextSum v x.0 (number_of x.1) sum o → OverflowsSumAt (term_tableau_of t v) whole o
  left_overflows whole x xs sum o there l n =
      let first = at_first whole x xs sum n.variable n.represents there l in
      record {
        entries = l.entries;
        are = l.are;
        may_overflow = elim n.may_overflow [
          | inl h ↦ overflows_product (point_in v.assignment.values) l.entries l.left first.0 (entry x n.variable) sum (point_in v.assignment.values n.variable) o l.summed first.1 refl h
          | inr h ↦ overflows_sum (point_in v.assignment.values) l.entries l.left first.0 (entry x n.variable) sum (deltas.scale (number_of x.1) (point_in v.assignment.values n.variable)) o l.summed first.1 refl h
        ];
      }

-- a step of the sum, by the operations that it takes
module _ (v : SimplexView) (id : TermId) (y : ℕ) (k : Ratio) (sum value product : Delta) (represents : IsNumberOf v.atoms.owners id (Some y)) (of_assignment : pair_of value ≡ point_in v.assignment.values y) where
  multiple : pair_of product ≡ deltas.scale (number_of k) (pair_of value) → pair_of product ≡ deltas.scale (number_of k) (point_in v.assignment.values y)
  multiple e = e ∙ ap (deltas.scale (number_of k)) of_assignment

  pub next_is : (next : Delta) → pair_of product ≡ deltas.scale (number_of k) (pair_of value) → pair_of next ≡ deltas.plus (pair_of sum) (pair_of product) → IsNextSum v id (number_of k) (pair_of sum) (pair_of next)
  next_is next times plus = record { variable = Some y; represents = represents; is = plus ∙ ap (deltas.plus (pair_of sum)) (multiple times) }

  pub product_overflowing : (o : Overflow) → delta_scaled (fraction k) (delta value) ≡ Err o → OverflowsNextSum v id (number_of k) (pair_of sum) o
  product_overflowing o h = record { variable = y; represents = represents; may_overflow = inl (ap (λ p. delta_scaled (fraction k) (delta_in p)) (sym of_assignment) ∙ h) }

  pub next_overflows : (o : Overflow) → pair_of product ≡ deltas.scale (number_of k) (pair_of value) → delta_added (delta sum) (delta product) ≡ Err o → OverflowsNextSum v id (number_of k) (pair_of sum) o
  next_overflows o times h = record { variable = y; represents = represents; may_overflow = inr (ap (λ p. delta_added (delta sum) (delta_in p)) (sym (multiple times)) ∙ h) }

-- a form that leaves the bound
pub form_overflowing : (t : TableView) (s : TermTableau) (u : Term) (x : FormFault) → Finds t (form u) (let r : Result FormView FormFault = Err x in r) → OnAtomOverflow (OverflowsTerm s u) (of_fault x)
form_overflowing t s u (faults.Wide id w) e = in_form (fault_meant t id w) e refl
form_overflowing t s u faults.Memory e = tt

-- the variables of a form
variables_are : (t : TableView) (f : FormView) (xs : List (TermId × Ratio)) → map pair_view xs ≡ f.variables → variables_meant t xs ≡ (form_meant t f).variables
variables_are t f xs e = ap (map (pair_meant t)) e

pub sum_overflowing : (t : TableView) (s : TermTableau) (u : Term) (f : FormView) (xs : List (TermId × Ratio)) (o : Overflow) → form u ≡ Ok (form_meant t f) → map pair_view xs ≡ f.variables
    → OverflowsSumAt s (variables_meant t xs) o → OverflowsTerm s u o
sum_overflowing t s u f xs o has e h = in_sum (form_meant t f) has (subst (λ vs. OverflowsSumAt s vs o) (variables_are t f xs e) h)

pub constant_overflows : (t : TableView) (s : TermTableau) (u : Term) (f : FormView) (xs : List (TermId × Ratio)) (sum n : Delta) (c : Ratio) (o : Overflow) → form u ≡ Ok (form_meant t f)
    → map pair_view xs ≡ f.variables → IsSumAt s (variables_meant t xs) (pair_of sum) → fraction c ≡ f.constant → delta n ≡ exact.number (fraction c) → delta_added (delta sum) (delta n) ≡ Err o
    → OverflowsTerm s u o
constant_overflows t s u f xs sum n c o has e is constant flat h =
    by_constant (form_meant t f) has (pair_of sum) (subst (λ vs. IsSumAt s vs (pair_of sum)) (variables_are t f xs e) is)
    (ap (delta_added (delta sum)) (sym (flat ∙ ap exact.number constant)) ∙ h)

-- a number without an infinitesimal part, as a pair
flat_pair : (n : Delta) (c : Ratio) → delta n ≡ exact.number (fraction c) → pair_of n ≡ record { base = number_of c; tilt = numbers.zero }
unfolding numbers fractions
flat_pair n c flat = λ i. record {
  base = number_is (number_of n.base) (number_of c) (ap (λ (x : exact.Delta). x.base) flat) i;
  tilt = number_is (number_of n.tilt) numbers.zero (ap (λ (x : exact.Delta). x.tilt) flat) i;
}

pub value_is : (t : TableView) (s : TermTableau) (u : Term) (f : FormView) (xs : List (TermId × Ratio)) (sum n d : Delta) (c : Ratio) → form u ≡ Ok (form_meant t f) → map pair_view xs ≡ f.variables
    → IsSumAt s (variables_meant t xs) (pair_of sum) → fraction c ≡ f.constant → delta n ≡ exact.number (fraction c) → pair_of d ≡ deltas.plus (pair_of sum) (pair_of n) → IsValueOf s u (pair_of d)
value_is t s u f xs sum n d c has e is constant flat plus = record {
  form_of = form_meant t f;
  has = has;
  sum = pair_of sum;
  sum_is = subst (λ vs. IsSumAt s vs (pair_of sum)) (variables_are t f xs e) is;
  constant = number_of c;
  constant_is = constant;
  is = plus ∙ ap (deltas.plus (pair_of sum)) (flat_pair n c flat);
}

-- one term more has a value
values_push : (s : TermTableau) (us : List Term) (ps : List (Pair Number)) (u : Term) (p : Pair Number) → AreValuesOf s us ps → IsValueOf s u p → AreValuesOf s (us ++ u ∷ []) (ps ++ p ∷ [])
values_push s [] [] u p h k = (k, tt)
values_push s (w ∷ us) (q ∷ ps) u p h k = (h.0, values_push s us ps u p h.1 k)
values_push s [] (q ∷ ps) u p h k = absurd h
values_push s (w ∷ us) [] u p h k = absurd h

pub next_value : (t : TableView) (s : TermTableau) (ds es : List Delta) (d : Delta) (ids : List TermId) (i : ℕ) (other : TermId) → i < length ids → AreValuesOf s (clause_at t (take i ids)) (map pair_of ds)
    → es ≡ ds ++ d ∷ [] → IsValueOf s (term_at t (get_or ids i other)) (pair_of d) → AreValuesOf s (clause_at t (take (i + 1) ids)) (map pair_of es)
next_value t s ds es d ids i other lt before more is =
    subst (λ us. AreValuesOf s us (map pair_of es)) (sym (ap (clause_at t) (take_more ids i other lt) ∙ map-append (term_at t) (take i ids) (get_or ids i other ∷ [])))
    (subst (AreValuesOf s (clause_at t (take i ids) ++ term_at t (get_or ids i other) ∷ [])) (sym (ap (map pair_of) more ∙ map-append pair_of ds (d ∷ [])))
    (values_push s (clause_at t (take i ids)) (map pair_of ds) (term_at t (get_or ids i other)) (pair_of d) before is))

pub all_values : (t : TableView) (s : TermTableau) (ds : List Delta) (ids : List TermId) (i : ℕ) → length ids ≤ i → AreValuesOf s (clause_at t (take i ids)) (map pair_of ds) → AreValuesOf s (clause_at t ids) (map pair_of ds)
all_values t s ds ids i le h = subst (λ xs. AreValuesOf s (clause_at t xs) (map pair_of ds)) (take_all i ids le) h

-- a property of the terms is one of the term at a place
pub term_among : (P : Term → Type 0) (t : TableView) (ids : List TermId) (i : ℕ) (other : TermId) → i < length ids → All P (clause_at t ids) → P (term_at t (get_or ids i other))
term_among P t ids i other lt h = All-contains P (clause_at t ids) (term_at t (get_or ids i other)) h (to_image (term_at t) ids (get_or ids i other) (Contains-get_or ids i other lt))
