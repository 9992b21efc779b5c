-- What is found of shared terms where a search is saturated: numbers and classes that hold together, or pairs of whose equalities it does not speak.
use Rattle.std.proofs.Common.{◌≡◌, ◌<◌, ℕ, List, ◌++◌, length, take, get_or, All, Contains, sym, ◌∙◌, subst, arith, length-append}
use Rattle.std.specs.Prelude.{◌↔◌}
use Rattle.std.proofs.lemmas.List.{length-take-le}
use Rattle.spec_numbers.specs.Fractions.{Fraction}
use Rattle.spec_sorts.specs.Terms.{Number, Symbol, Equal, Apply, Term, Terms, app, pair, sort_of}
use Rattle.spec_sorts.specs.Literals.{Literal}
use Rattle.spec_arithmetic.specs.Numbers.{number_at, IsLinear}
use Rattle.spec_simplex.specs.Numbers.{HoldsAt}
use Rattle.spec_equality.specs.Congruence.{IsFine}
use Rattle.spec_derivations.specs.Problems.{Problem, known_terms, subterms_in}
use Rattle.spec_derivations.specs.Orders.{whole_terms}
use Rattle.spec_valuations.specs.Classes.{class_in, IsEqualityAmong}
use Rattle.spec_valuations.specs.Saturation.{TheoryValues, IsSaturatedWithNumbers}
use Rattle.term_core.specs.declared.ids.TermId.{TermId}
use Rattle.term_core.specs.Tables.{TableView, AreDifferent, clause_at}
use Rattle.clause_literals.specs.Literals.{IsConsistent}
use Rattle.proof_log.specs.Theories.{TheoryView, terms_watched, literals_held}
use Rattle.congruence_closure.specs.Closure.{TellClasses}
use Rattle.congruence.specs.Views.{AreEqualBy}
use Rattle.simplex.specs.Views.{SimplexView}
use Rattle.simplex.specs.Numbers.{HoldApart}
use Rattle.agreement.specs.declared.agreeing.Shared.{Shared}
use Rattle.agreement.specs.Agreeing.{Agree, IsDifferingPair, ArePairs}
use Rattle.search_loop.specs.declared.search.Search.{Search}
use Rattle.search_loop.specs.Asking.{HasSaturated}
use Rattle.solve_core.specs.Answering.{HoldTogether}
use Rattle.solve_core.specs.Sharing.{IsAskedOf, IsOpen, AreOpen}
use Rattle.solve_core.specs.Agreeing.{AreTheoryValues}
use Rattle.solve_core.proofs.SearchAgreed.{front_tell, front_are, all_together, pair_apart, all_shared, classes_together, pair_open}

-- what the laws say
abbrev pub HavePlaces : Type 0
HavePlaces = (ts : List Term) (ns : List ℕ) (u : Term) → Contains ts u → (k : ℕ) × (k < length ts) × (get_or ts k u ≡ u) × (class_in ts ns u ≡ get_or ns k 0)

abbrev pub AreAllLinear : Type 0
AreAllLinear = (q : Problem) → All IsLinear (known_terms q) → (u : Term) → Contains (whole_terms q) u → IsLinear u

abbrev pub ApplyNothingMore : Type 0
ApplyNothingMore = (q : Problem) → ((e : Term) → Contains q.interface e → IsEqualityAmong (subterms_in q) e) → (f : Symbol) (us : Terms) → Contains (whole_terms q) (app (Apply f) us) → Contains (subterms_in q) (app (Apply f) us)

abbrev pub SidesAgree : Type 0
SidesAgree = (symbols : List Symbol) (q : Problem) (ts : List Term) (ls : List Literal) (b : TheoryValues) → IsSaturatedWithNumbers symbols q ts ls b → (s u : Term) → Contains ts (pair Equal s u) → sort_of s ≡ Number
    → (b.class s ≡ b.class u) ↔ (number_at b.number s ≡ number_at b.number u)

module _ (t : TableView) (differ : AreDifferent t.terms) (x : Search) (v : TheoryView) (agreed : Type 0) (h : HasSaturated t x v agreed) (ids : List TermId) (p : Problem) (a : IsAskedOf t ids p x)
    (consistent : IsConsistent x.trail.literals) (fine : IsFine (terms_watched t v) (literals_held t v)) (place : HavePlaces) (linear : AreAllLinear) (classes : List ℕ) (tell : TellClasses (AreEqualBy t v) (x.terms.items ++ ids) classes) (count : length classes ≡ length (x.terms.items ++ ids))
    (w : SimplexView) (same : v ≡ w.theory) (xs : List Fraction) (n : HoldApart t w (clause_at t (x.terms.items ++ ids)) (clause_at t ids) xs)
    (assigned_values : List Shared) (are_assigned : AreTheoryValues ids classes xs (length x.terms.items) assigned_values) where
  abbrev own : List TermId
  own = x.terms.items

  hold : All (HoldsAt n.number) (literals_held t v)
  hold = subst (λ (y : TheoryView). All (HoldsAt n.number) (literals_held t y)) (sym same) n.hold

  abbrev front : List ℕ
  front = take (length own) classes

  told : TellClasses (AreEqualBy t v) own front
  told = front_tell t v own ids classes tell n.number xs n.are

  -- where they agree
  pub agreed_together : ApplyNothingMore → Agree assigned_values → (ns : List ℕ) → ns ≡ front → (qs : List Fraction) → qs ≡ take (length own) xs → HoldTogether t own v ns qs
  agreed_together nothing_more agree ns is qs are =
      let together = all_together t v own ids classes tell n.number xs n.are assigned_values are_assigned agree in
      subst (λ (ms : List ℕ). HoldTogether t own v ms qs) (sym is) (record {
        values = record {
          number = n.number;
          reduced = n.reduced;
          hold = hold;
          are = are ∙ front_are t v own ids classes tell n.number xs n.are;
          tell = told;
          count = length-take-le (length own) classes (omega (arith, count, length-append own ids));
        };
        shared = clause_at t ids;
        shares = all_shared t differ x v agreed h ids p a nothing_more;
        heads = n.heads;
        agree = classes_together t differ x v agreed h ids p a consistent fine front told place linear n.number n.reduced hold n.heads together;
      })

  -- where they do not
  pub differ_open : SidesAgree → (pairs : List (TermId × TermId)) → ArePairs assigned_values pairs → 0 < length pairs → AreOpen t ids p pairs
  differ_open sides pairs each some = (λ k d lt. one_open (get_or pairs k d) (each k d lt), some)
    where
      one_open : (y : TermId × TermId) → IsDifferingPair assigned_values y.0 y.1 → IsOpen t ids p y
      one_open y q =
          let apart = pair_apart t v own ids classes tell n.number xs n.are assigned_values are_assigned y.0 y.1 q in
          pair_open t differ x v agreed h ids p a consistent fine front told place linear n.number n.reduced hold n.heads sides y apart.0 apart.1.0 apart.1.1
