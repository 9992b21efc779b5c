-- Numbers of terms where a search is saturated: what a theory of numbers may be asked, and that zeros do where no term is a number.
use Rattle.std.proofs.Common.{◌≡◌, ◌≢◌, ℕ, Bool, true, false, List, [], ◌∷◌, length, get_or, map, All, Contains, refl, sym, ap, ◌∙◌, subst}
use Rattle.std.specs.Prelude.{Some, replicate}
use Rattle.std.proofs.lemmas.Bool.{and_parts}
use Rattle.std.proofs.lemmas.List.{length-map}
use Rattle.std.proofs.lemmas.List.Elements.{All-map, Contains-get_or}
use Rattle.std.proofs.lemmas.Option.{same_Some, none-some}
use Rattle.spec_text.proofs.Members.{none, first, to_image}
use Rattle.spec_numbers.specs.Fractions.{Fraction, zero_fraction}
use Rattle.spec_numbers.proofs.Field.{zero-reduced}
use Rattle.spec_sorts.specs.Terms.{Number, Head, Equal, Less, AtMost, Apply, Term, app, nil, cons, pair, same_sort, sort_of}
use Rattle.spec_sorts.specs.Subsets.{arguments_of, IsClosed}
use Rattle.spec_sorts.proofs.WellSorted.{same_sort_is}
use Rattle.spec_arithmetic.specs.Contradictions.{are_numbers}
use Rattle.spec_simplex.specs.Constraints.{Relation, below, at_most, equals, at_least, above, Constraint, saying, where_true, constraint_by}
use Rattle.spec_simplex.specs.Numbers.{HoldsAt}
use Rattle.term_core.specs.declared.ids.TermId.{TermId}
use Rattle.term_core.specs.declared.ids.Lit.{Lit}
use Rattle.term_core.specs.Tables.{TableView, Extends, clause_at, literal_at, term_at}
use Rattle.term_core.proofs.TermsExtend.{clause_at-kept}
use Rattle.proof_log.specs.Theories.{TheoryView, IsTermIn, IsAtomIn, IsTheoryOver}
use Rattle.search_loop.specs.declared.search.Search.{Search}
use Rattle.search_loop.specs.Search.{SearchFits}
use Rattle.search_loop.specs.Asking.{HasSaturated}
use Rattle.search_loop.proofs.SearchReady.{Ids, atom_in, all_of_atoms}
use Rattle.congruence_closure.specs.Closure.{TellClasses}
use Rattle.congruence.specs.Views.{AreEqualBy}
use Rattle.solve_core.specs.Answering.{HoldTogether}

-- The left side of what an atom says: an argument, and a number.
pub record IsLeft (u : Term) (c : Constraint) : Type 0 where
  pub there : Contains (arguments_of u) c.left
  pub number : sort_of c.left ≡ Number

left_of_pair : (h : Head) (r : Relation) (s t : Term) (c : Constraint) (q : Bool) → are_numbers s t ≡ q → where_true q (saying r (pair h s t) s t) ≡ Some c → IsLeft (pair h s t) c
left_of_pair h r s t c false n e = absurd (none-some c e)
left_of_pair h r s t c true n e =
    let own : IsLeft (pair h s t) (saying r (pair h s t) s t) = record { there = first s (t ∷ []); number = same_sort_is (sort_of s) Number (and_parts (same_sort (sort_of s) Number) (same_sort (sort_of t) Number) n).0 } in
    subst (IsLeft (pair h s t)) (same_Some _ _ e) own

pub left_of : (positive : Bool) (u : Term) (c : Constraint) → constraint_by positive u ≡ Some c → IsLeft u c
unfolding constraint_by
left_of true (app Less (cons s (cons t nil))) c e = left_of_pair Less below s t c (are_numbers s t) refl e
left_of false (app Less (cons s (cons t nil))) c e = left_of_pair Less at_least s t c (are_numbers s t) refl e
left_of true (app AtMost (cons s (cons t nil))) c e = left_of_pair AtMost at_most s t c (are_numbers s t) refl e
left_of false (app AtMost (cons s (cons t nil))) c e = left_of_pair AtMost above s t c (are_numbers s t) refl e
left_of true (app Equal (cons s (cons t nil))) c e = left_of_pair Equal equals s t c (are_numbers s t) refl e
left_of positive u c e = absurd (none-some c e)

-- the same number for each term
pub same_number : (q : Fraction) (ts : List Term) → replicate (length ts) q ≡ map (λ (u : Term). q) ts
same_number q [] = refl
same_number q (t ∷ ts) = ap (λ (qs : List Fraction). q ∷ qs) (same_number q ts)

module _ (t : TableView) (x : Search) (v : TheoryView) (agreed : Type 0) (h : HasSaturated t x v agreed) where
  abbrev ids : List TermId
  ids = x.terms.items

  -- what the theory holds and watches is over the table
  pub over_saturated : IsTheoryOver t v
  over_saturated = record {
    terms = subst (All (IsTermIn t)) (sym h.asked.terms) h.ready.atoms_are.there;
    closed = subst (λ (is : List TermId). IsClosed (clause_at t is)) (sym h.asked.terms) h.ready.atoms_are.closed;
    atoms = subst (λ (ls : List Lit). All (λ (l : Lit). IsAtomIn t l.term) ls) (sym h.held) (λ k d lt. atom_in t x h.ready (get_or x.trail.literals k d).term (all_of_atoms t x h.ready (get_or x.trail.literals k d) (Contains-get_or x.trail.literals k d lt)));
  }

  -- where no term is a number, literals say nothing of numbers
  module _ (plain : (u : Term) → Contains (clause_at t ids) u → sort_of u ≢ Number) where
    nothing_assigned : (l : Lit) → Contains x.trail.literals l → HoldsAt (λ (u : Term). zero_fraction) (literal_at t l)
    nothing_assigned l i c e left right =
        let own = left_of l.positive (term_at t l.term) c e in
        let spoken : Contains (clause_at t ids) (term_at t l.term) = to_image (term_at t) ids l.term (h.ready.atoms_are.chosen.among l.term (all_of_atoms t x h.ready l i)) in
        absurd (plain c.left (h.ready.atoms_are.closed (term_at t l.term) spoken c.left own.there) own.number)

    pub zeros_hold : (classes : List ℕ) → TellClasses (AreEqualBy t v) ids classes → length classes ≡ length ids → (xs : List Fraction) → xs ≡ replicate (length ids) zero_fraction → HoldTogether t ids v classes xs
    zeros_hold classes tell count xs e = record {
      values = record {
        number = λ u. zero_fraction;
        reduced = λ u. zero-reduced;
        hold = subst (λ (ls : List Lit). All (HoldsAt (λ (u : Term). zero_fraction)) (map (literal_at t) ls)) (sym h.held)
            (All-map (HoldsAt (λ (u : Term). zero_fraction)) (literal_at t) x.trail.literals (λ k d lt. nothing_assigned (get_or x.trail.literals k d) (Contains-get_or x.trail.literals k d lt)));
        are = e ∙ ap (λ (n : ℕ). replicate n zero_fraction) (sym (length-map ids (term_at t))) ∙ same_number zero_fraction (clause_at t ids);
        tell = tell;
        count = count;
      };
      shared = [];
      shares = record {
        values = λ s ts i some real. absurd (plain (app (Apply s) ts) i real);
        arguments = λ s ts u i j real. absurd (plain u (h.ready.atoms_are.closed (app (Apply s) ts) i u j) real);
      };
      heads = λ u i. absurd (none u i);
      agree = λ u w i j. absurd (none u i);
    }

-- the terms of a search are the same in a table that has more
pub same_terms : (t u : TableView) → Extends t u → (x y : Search) → SearchFits t x → y.terms ≡ x.terms → clause_at u y.terms.items ≡ clause_at t x.terms.items
same_terms t u g x y r same = ap (λ (is : Ids). clause_at u is.items) same ∙ clause_at-kept t u g x.terms.items (λ k d lt. (r.atoms_are.there k d lt).0)

-- so those that are no numbers are none there
pub plain_later : (t u : TableView) → Extends t u → (x y : Search) → SearchFits t x → y.terms ≡ x.terms → ((w : Term) → Contains (clause_at t x.terms.items) w → sort_of w ≢ Number) → (w : Term) → Contains (clause_at u y.terms.items) w → sort_of w ≢ Number
plain_later t u g x y r same plain = subst (λ (ts : List Term). (w : Term) → Contains ts w → sort_of w ≢ Number) (sym (same_terms t u g x y r same)) plain
