-- Held literals hold at numbers of terms that are those of variables.
use Rattle.std.proofs.Common.{◌≡◌, true, [], List, map, All, Contains, Some, sym, ◌∙◌, ap}
use Rattle.std.proofs.lemmas.List.Elements.{All-contains, All-map}
use Rattle.spec_numbers.specs.Fractions.{zero_fraction}
use Rattle.spec_sorts.specs.Terms.{Term}
use Rattle.spec_sorts.specs.WellSorted.{IsWellSorted}
use Rattle.spec_arithmetic.specs.Forms.{form_value}
use Rattle.spec_tableaux.specs.Fields.{is_positive}
use Rattle.spec_tableaux.specs.Spaces.{Pair}
use Rattle.spec_tableaux.specs.Numbers.{Number, numbers, fractions}
use Rattle.spec_tableaux.proofs.Numbers.{numbers_are_ordered_field}
use Rattle.spec_tableaux.proofs.Signs.{zero_product}
use Rattle.spec_simplex.specs.Constraints.{Constraint, constraint_of}
use Rattle.spec_simplex.specs.Points.{Point, base_at, tilt_at, relates}
use Rattle.spec_simplex.specs.Numbers.{HoldsAt}
use Rattle.spec_simplex.proofs.Comparisons.{sides_compared}
use Rattle.term_core.specs.declared.ids.Lit.{Lit}
use Rattle.term_core.specs.Tables.{TableView, term_at, literal_at}
use Rattle.tableau.specs.Numbers.{number_of}
use Rattle.simplex_bounds.specs.Held.{BoundsView, ranges_in}
use Rattle.simplex_check.specs.Assignments.{AssignmentView}
use Rattle.spec_tableaux.specs.Points.{point_in}
use Rattle.simplex_atoms.specs.Owners.{AreOwned}
use Rattle.simplex_atoms.specs.Atoms.{AtomsView, setting_of, ground_of}
use Rattle.simplex_atoms.proofs.Values.{tilt_comes}
use Rattle.simplex_explain.specs.Keeping.{KeepsHeld}
use Rattle.simplex_explain.proofs.StatedBounds.{all_from}
use Rattle.simplex_explain.proofs.Feasible.{slack_list, solved, literal_kept}
use Rattle.simplex_numbers.specs.Values.{flat, assignment_at_number, KeepsAt}
use Rattle.spec_tableaux.specs.Halves.{at_number}
use Rattle.simplex_numbers.proofs.Flat.{flat_point}
use Rattle.simplex_numbers.proofs.Holding.{held_at}
use Rattle.simplex_numbers.proofs.Sides.{real_sides}

-- a multiple of 0
nothing : (k t : Number) → t ≡ numbers.zero → (numbers.times k t).fraction ≡ zero_fraction
unfolding numbers fractions
nothing k t e = ap (λ (n : Number). n.fraction) (ap (numbers.times k) e ∙ numbers_are_ordered_field.product_commutative k numbers.zero ∙ zero_product numbers numbers_are_ordered_field k)

module _ (t : TableView) (a : AtomsView) (b : AssignmentView) (bounds : BoundsView) (held : List Lit) (k : KeepsHeld t a b bounds held) (e : Number) (p : is_positive numbers e ≡ true)
    (h : KeepsAt e (ranges_in bounds.held) (point_in b.values)) (n : Term → Number) (own : AreOwned t a.owners n (λ y. at_number e (point_in b.values y))) where
  abbrev c : AssignmentView
  c = assignment_at_number e b

  abbrev point : Point
  point = λ u. flat (n u)

  kept : KeepsHeld t a c bounds held
  kept = held_at t a b bounds held k e p h

  owned : AreOwned t a.owners point (point_in c.values)
  owned y id is = flat_point e b.values y ∙ ap flat (own y id is)

  -- what a held literal says of its form is so where terms have the numbers
  relates_there : (l : Lit) (there : Contains held l) (d : Constraint) (says : constraint_of (literal_at t l) ≡ Some d)
      → relates d.relation (form_value (λ u. (n u).fraction) (slack_list t a c bounds held kept l there d says).is.form) zero_fraction ≡ true
  relates_there l there d says =
      let x = slack_list t a c bounds held kept l there d says in
      let tilt : tilt_at point x.is.form ≡ zero_fraction =
      tilt_comes (setting_of t (ground_of a.owners c)) x.slack x.is.form x.is.is point (point_in c.values) owned (solved t a c bounds held kept)
      ∙ nothing (number_of x.slack.factor) (point_in c.values x.slack.variable).tilt (ap (λ (q : Pair Number). q.tilt) (flat_point e b.values x.slack.variable)) in
      sym (ap (relates d.relation (base_at point x.is.form)) tilt) ∙ literal_kept t a c bounds held kept point owned l there d says x.is.form x.has

  holds : (l : Lit) → Contains held l → IsWellSorted t.symbols [] (term_at t l.term) → HoldsAt (λ u. (n u).fraction) (literal_at t l)
  holds l there sorted d says left right =
      let x = slack_list t a c bounds held kept l there d says in
      let sides = real_sides t.symbols l.positive (term_at t l.term) d sorted says in
      (sides_compared t.symbols (λ u. (n u).fraction) d x.is.form (λ u. (n u).reduced) (record { term = sides.0.term; sort = sides.0.sort; linear = left })
      (record { term = sides.1.term; sort = sides.1.sort; linear = right }) x.has).1 (relates_there l there d says)

  pub all_hold : All (λ (l : Lit). IsWellSorted t.symbols [] (term_at t l.term)) held → All (HoldsAt (λ u. (n u).fraction)) (map (literal_at t) held)
  all_hold sorted =
      All-map (HoldsAt (λ u. (n u).fraction)) (literal_at t) held
      (all_from (λ (l : Lit). HoldsAt (λ u. (n u).fraction) (literal_at t l)) held (λ l there. holds l there (All-contains (λ (l : Lit). IsWellSorted t.symbols [] (term_at t l.term)) held l sorted there)))
