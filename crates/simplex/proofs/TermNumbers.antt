-- Numbers of terms are those of the variables that stand for them.
use Rattle.std.proofs.Common.{◌≡◌, ◌+◌, ◌<◌, ◌≤◌, ℕ, [], ◌∷◌, ◌++◌, List, length, map, take, get_or, All, Option, Some, None, Result, Ok, Err, sym, ◌∙◌, ap}
use Rattle.std.specs.Prelude.{IfErr}
use Rattle.std.proofs.lemmas.List.{map-append, take_more, take_all}
use Rattle.std.proofs.lemmas.Simd.{map-map}
use Rattle.std.proofs.lemmas.List.Elements.{All-weaker}
use Rattle.spec_numbers.specs.Fractions.{Fraction}
use Rattle.spec_sorts.specs.Terms.{Term}
use Rattle.spec_sorts.specs.WellSorted.{IsWellSorted}
use Rattle.spec_tableaux.specs.Spaces.{Pair}
use Rattle.spec_tableaux.specs.Numbers.{Number}
use Rattle.ratio128.specs.declared.ratio.Ratio.{Ratio}
use Rattle.ratio128.specs.declared.wide.Wide.{Wide}
use Rattle.ratio128.specs.Meant.{fraction, overflow}
use Rattle.delta_num.specs.declared.delta.Delta.{Delta}
use Rattle.delta_num.specs.Meant.{delta}
use Rattle.term_core.specs.declared.ids.TermId.{TermId}
use Rattle.term_core.specs.declared.ids.Lit.{Lit}
use Rattle.term_core.specs.Tables.{TableView, term_at, clause_at, IsIn, AreDifferent}
use Rattle.tableau.specs.Numbers.{number_of}
use Rattle.proof_log.specs.Theories.{IsAtomIn, IsTheoryOver}
use Rattle.spec_tableaux.specs.Deltas.{delta_evaluated}
use Rattle.spec_tableaux.specs.Points.{point_in, delta_in}
use Rattle.spec_causes.specs.Causes.{OverflowsValueAt}
use Rattle.simplex_bounds.specs.Deltas.{pair_of}
use Rattle.simplex_atoms.specs.Owners.{owner_at, IsNumberOf, AreOwned}
use Rattle.simplex_atoms.specs.TermTableauViews.{owner_meant}
use Rattle.simplex_atoms.proofs.Numbered.{owner_mapped}
use Rattle.simplex_explain.proofs.Owners.{point_of, owned, absent}
use Rattle.simplex_numbers.specs.Values.{flat}
use Rattle.spec_tableaux.specs.Halves.{at_number}
use Rattle.simplex.specs.Views.{SimplexView, IsOf}
use Rattle.simplex.specs.Numbers.{number_by, IsNumberAt}
use Rattle.simplex.specs.Coming.{term_tableau_of}

-- the number of a term where the infinitesimal is e
abbrev pub number_in : TableView → SimplexView → Number → Term → Number
number_in t v e u = (point_of t v.atoms.owners (λ y. flat (at_number e (point_in v.assignment.values y))) u).base

-- the terms of held literals are well sorted
pub held_sorted : (t : TableView) (v : SimplexView) → IsTheoryOver t v.theory → All (λ (l : Lit). IsWellSorted t.symbols [] (term_at t l.term)) v.theory.held
held_sorted t v over = All-weaker (λ (l : Lit). IsAtomIn t l.term) (λ (l : Lit). IsWellSorted t.symbols [] (term_at t l.term)) (λ l is. is.0.1.term) v.theory.held over.atoms

module _ (t : TableView) (v : SimplexView) (e : Number) (unique : AreDifferent t.terms) (is : IsOf v t) where
  -- variables have the numbers of the terms that they stand for
  pub numbers_owned : AreOwned t v.atoms.owners (number_in t v e) (λ y. at_number e (point_in v.assignment.values y))
  numbers_owned y id o = ap (λ (p : Pair Number). p.base) (owned t v.atoms.owners (λ y. flat (at_number e (point_in v.assignment.values y))) unique is.right.owners_in is.right.once y id o)

  nobody : (id : TermId) → IsIn t id → IsNumberOf v.atoms.owners id None → (y : ℕ) (i : TermId) → owner_at v.atoms.owners y ≡ Some i → term_at t i ≡ term_at t id → ⊥
  nobody id there none y i o same =
      let number : i.0 ≡ id.0 = unique i.0 id.0 (is.right.owners_in y i o) there same in
      none y (o ∙ ap (λ (n : ℕ). Some (record { 0 = n })) number)

  by_variable : (id : TermId) → IsIn t id → (o : Option ℕ) → IsNumberOf v.atoms.owners id o → number_by e v o ≡ number_in t v e (term_at t id)
  by_variable id there (Some y) h = numbers_owned y id h
  by_variable id there None h =
      sym (ap (λ (p : Pair Number). p.base) (absent t v.atoms.owners (λ y. flat (at_number e (point_in v.assignment.values y))) (term_at t id) (nobody id there h)))

  -- a number of a term is the number that it has
  pub number_is_in : (id : TermId) (q : Number) → IsIn t id → IsNumberAt e v id q → q ≡ number_in t v e (term_at t id)
  number_is_in id q there n = n.is ∙ by_variable id there n.variable n.represents

-- an overflow of the value of a variable that means a term
pub value_overflowing : (v : SimplexView) (e : Ratio) (id : TermId) (y : ℕ) (a : Delta) (r : Result Ratio Wide) → IsNumberOf v.atoms.owners id (Some y) → pair_of a ≡ point_in v.assignment.values y
    → IfErr r (λ w. delta_evaluated (delta a) (fraction e) ≡ Err (overflow w)) → IfErr r (λ w. (t : TableView) → OverflowsValueAt (number_of e) (term_tableau_of t v) (overflow w))
value_overflowing v e id y a (Ok q) represents is h = tt
value_overflowing v e id y a (Err w) represents is h = λ t. record {
  variable = y;
  term = term_at t id;
  represents = owner_mapped t v.atoms.owners y ∙ ap (owner_meant t) represents;
  leaves = ap (λ (p : Pair Number). delta_evaluated (delta_in p) (fraction e)) (sym is) ∙ h;
}

-- one term more
pub next_number : (t : TableView) (n : Term → Fraction) (xs ys : List Ratio) (x : Ratio) (ids : List TermId) (i : ℕ) (d : TermId) → i < length ids
    → map fraction xs ≡ map (λ (id : TermId). n (term_at t id)) (take i ids) → ys ≡ xs ++ x ∷ [] → fraction x ≡ n (term_at t (get_or ids i d))
    → map fraction ys ≡ map (λ (id : TermId). n (term_at t id)) (take (i + 1) ids)
next_number t n xs ys x ids i d lt before more is =
    let f : TermId → Fraction = λ id. n (term_at t id) in
    ap (map fraction) more ∙ map-append fraction xs (x ∷ []) ∙ (λ j. before j ++ is j ∷ [])
    ∙ sym (ap (map f) (take_more ids i d lt) ∙ map-append f (take i ids) (get_or ids i d ∷ []))

-- all terms
pub all_numbers : (t : TableView) (n : Term → Fraction) (xs : List Ratio) (ids : List TermId) (i : ℕ) → length ids ≤ i
    → map fraction xs ≡ map (λ (id : TermId). n (term_at t id)) (take i ids) → map fraction xs ≡ map n (clause_at t ids)
all_numbers t n xs ids i le h = h ∙ ap (map (λ (id : TermId). n (term_at t id))) (take_all i ids le) ∙ sym (map-map n (term_at t) ids)
