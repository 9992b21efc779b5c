-- What a search has before it grows is of the problem to which it grows.
use Rattle.std.proofs.Common.{◌≡◌, ℕ, List, [], ◌∷◌, ◌++◌, map, Contains, ◌⊎◌, inl, inr, refl, sym, ap, ◌∙◌, subst, arith}
use Rattle.std.specs.Prelude.{flat_map}
use Rattle.std.proofs.lemmas.List.{append-nil, map-append}
use Rattle.std.proofs.lemmas.List.Elements.{All-nil, All-append, All-contains, All-contains_itself, All-weaker, Contains-append_left, Contains-append_right, Contains-append_cases}
use Rattle.spec_text.proofs.Members.{none, to_image, in_flat}
use Rattle.spec_sorts.specs.Terms.{Term}
use Rattle.spec_numbers.specs.Bounds.{Overflow}
use Rattle.spec_arithmetic.specs.Numbers.{IsLinear}
use Rattle.spec_sorts.specs.Subsets.{AreAmong}
use Rattle.spec_sorts.specs.Literals.{Clause, Literal, literals_of}
use Rattle.spec_derivations.specs.Problems.{Problem, known_terms, terms_of_problem}
use Rattle.spec_derivations.specs.Examples.{speaking}
use Rattle.spec_derivations.specs.Derivations.{conclusion, AssumesAmong}
use Rattle.spec_derivations.specs.Orders.{whole_terms, whole_clauses_of, whole_clauses}
use Rattle.spec_derivations.specs.Learned.{AreNew}
use Rattle.spec_derivations.specs.Spent.{IsLearnedFrom, IsOverAtoms, at_start}
use Rattle.spec_interfaces.specs.Interfaces.{speaking_of}
use Rattle.spec_derivations.proofs.Grown.{whole}
use Rattle.term_core.specs.declared.ids.TermId.{TermId}
use Rattle.term_core.specs.declared.ids.Lit.{Lit}
use Rattle.term_core.specs.Tables.{TableView, term_at, clause_at}
use Rattle.proof_log.specs.Logs.{Logged, derivation_in, IsFormulaIn, AreFormulasIn}
use Rattle.term_clauses.specs.SpokenTerms.{problem_in}
use Rattle.clausify.specs.Overflows.{IsOrderOverflow}
use Rattle.clausify.proofs.Overflowing.{among_more}
use Rattle.search_loop.specs.declared.search.Search.{Search}
use Rattle.search_loop.specs.Answered.{AreAnswered}
use Rattle.search_loop.specs.Search.{images}
use Rattle.search_loop.specs.Rounds.{nothing, HasDerived, BeganAfter, IsSearch}
use Rattle.search_loop.specs.Growing.{IsBlank, asserting_too, GrowsTo, begins, goes_on, asserts}
use Rattle.search_loop.proofs.SearchMore.{derived_with, derived_of_more, began_of_more}
use Rattle.search_loop.proofs.SearchJoined.{whole_joined}

-- the clause is one of the search's, and stated in its log
abbrev pub IsHad : TableView → Search → Clause → Type 0
IsHad t x c = Contains (images t x.store.clauses) (literals_of c) × Contains (map conclusion (derivation_in t x.log)) c

-- What a search has is of a problem, but for what terms bring that come in.
pub record IsPart (t : TableView) (x : Search) (roots interface : List TermId) (earlier : List (List Literal)) (p : Problem) : Type 0 where
  -- the terms of the problem are in the table, by these numbers
  pub all : List TermId
  pub all_in : AreFormulasIn t all
  pub beside : List TermId
  pub beside_in : AreFormulasIn t beside
  pub meant : problem_in t all beside ≡ p
  -- they are answered
  pub answered : AreAnswered (known_terms p)
  -- the roots are among those that are asserted
  pub asserted : AreAmong (clause_at t roots) p.asserted
  -- so much is derived
  pub derived : HasDerived p (derivation_in t x.log) (images t x.store.clauses) earlier (images t x.budget.learned)
  pub began : BeganAfter p x.since (derivation_in t x.log) earlier
  -- what the search speaks of, and what comes in, is spoken of, and no more
  pub spoken : AreAmong (clause_at t x.terms.items) (whole_terms p)
  pub more : AreAmong (whole_terms (problem_in t roots interface)) (whole_terms p)
  pub each : (w : Term) → Contains (whole_terms p) w → Contains (clause_at t x.terms.items) w ⊎ Contains (whole_terms (problem_in t roots interface)) w
  -- the search has the clauses of its terms
  pub known : (w : Term) (c : Clause) → Contains (clause_at t x.terms.items) w → Contains (whole_clauses_of w) c → IsHad t x c
  -- and that of each asserted term but for the roots'
  pub alone : (w : Term) → Contains p.asserted w → IsHad t x (w ∷ []) ⊎ Contains (clause_at t roots) w

-- the clauses of a term of which the problem speaks, and those of asserted ones
pub among_whole : (p : Problem) (w : Term) (c : Clause) → Contains (whole_terms p) w → Contains (whole_clauses_of w) c → Contains (whole_clauses p) c
among_whole p w c i j = Contains-append_right (map (λ (t : Term). t ∷ []) p.asserted) (flat_map whole_clauses_of (whole_terms p)) c (in_flat whole_clauses_of (whole_terms p) w c i j)

pub among_roots : (p : Problem) (w : Term) → Contains p.asserted w → Contains (whole_clauses p) (w ∷ [])
among_roots p w i = Contains-append_left (map (λ (t : Term). t ∷ []) p.asserted) (flat_map whole_clauses_of (whole_terms p)) (w ∷ []) (to_image (λ (t : Term). t ∷ []) p.asserted w i)

-- what is answered for both lists is answered for the known terms
pub answered_both : (ts bs : List Term) → AreAnswered ts → AreAnswered bs → AreAnswered (known_terms (speaking ts bs))
answered_both ts bs own others = All-append IsLinear bs (ts ++ []) others (subst AreAnswered (sym (append-nil ts)) own)

-- nothing is derived of a problem yet
derived_nothing : (p : Problem) → HasDerived p [] [] [] []
derived_nothing p = record {
  assumes = All-nil (AssumesAmong (terms_of_problem p));
  only = λ c i. absurd (none c i);
  kept = λ c i. absurd (none c i);
  derived = All-nil (IsLearnedFrom p []);
  atoms = All-nil (IsOverAtoms p);
  new = tt;
  exact = tt;
  steps = nothing;
}

module _ (t : TableView) (x : Search) (roots interface : List TermId) (roots_in : AreFormulasIn t roots) (interface_in : AreFormulasIn t interface) (answered : AreAnswered (clause_at t roots)) (answered_interface : AreAnswered (clause_at t interface)) where
  abbrev more : Problem
  more = problem_in t roots interface

  -- a search that spoke of nothing
  part_begins : IsBlank x → IsPart t x roots interface [] more
  part_begins b = record {
    all = roots;
    all_in = roots_in;
    beside = interface;
    beside_in = interface_in;
    meant = refl;
    answered = answered_both (clause_at t roots) (clause_at t interface) answered answered_interface;
    asserted = λ w i. i;
    derived =
        subst (λ (xs : List Logged). HasDerived more (derivation_in t xs) (images t x.store.clauses) [] (images t x.budget.learned)) (sym b.log)
        (subst (λ (cs : List (List Lit)). HasDerived more [] (images t cs) [] (images t x.budget.learned)) (sym b.clauses)
        (subst (λ (ls : List (List Lit)). HasDerived more [] [] [] (images t ls)) (sym b.learned) (derived_nothing more)));
    began = subst (λ (n : ℕ). BeganAfter more n (derivation_in t x.log) []) (sym b.since) (record { there = omega arith; steps = nothing });
    spoken = λ w i. absurd (no_term w i);
    more = λ w i. i;
    each = λ w i. inr i;
    known = λ w c i j. absurd (no_term w i);
    alone = λ w i. inr i;
  }
    where
      no_term : (w : Term) → Contains (clause_at t x.terms.items) w → ⊥
      no_term w i = none w (subst (λ (ids : List TermId). Contains (clause_at t ids) w) b.terms i)

  -- one that was asked a problem, of which as much is derived of that with the roots
  module _ (q : Problem) (earlier : List (List Literal)) (z : IsSearch t q earlier x) where
    abbrev new_roots : List Term
    new_roots = clause_at t roots

    abbrev new_interface : List Term
    new_interface = clause_at t interface

    abbrev with_more : Problem
    with_more = asserting_too q new_roots new_interface

    asserted_more : AreAmong q.asserted with_more.asserted
    asserted_more w i = Contains-append_left q.asserted new_roots w i

    terms_more : AreAmong (terms_of_problem q) (terms_of_problem with_more)
    terms_more w i = elim (Contains-append_cases q.asserted q.assumed w i) [
      | inl a ↦ Contains-append_left (q.asserted ++ new_roots) q.assumed w (asserted_more w a)
      | inr b ↦ Contains-append_right (q.asserted ++ new_roots) q.assumed w b
    ]

    first_known : AreAmong (known_terms q) (known_terms with_more)
    first_known w i = elim (Contains-append_cases q.interface (terms_of_problem q) w i) [
      | inl a ↦ Contains-append_left (q.interface ++ new_interface) (terms_of_problem with_more) w (Contains-append_left q.interface new_interface w a)
      | inr b ↦ Contains-append_right (q.interface ++ new_interface) (terms_of_problem with_more) w (terms_more w b)
    ]

    root_asserted : AreAmong new_roots (terms_of_problem with_more)
    root_asserted w i = Contains-append_left (q.asserted ++ new_roots) q.assumed w (Contains-append_right q.asserted new_roots w i)

    more_known : AreAmong (known_terms more) (known_terms with_more)
    more_known w i = elim (Contains-append_cases new_interface (new_roots ++ []) w i) [
      | inl a ↦ Contains-append_left (q.interface ++ new_interface) (terms_of_problem with_more) w (Contains-append_right q.interface new_interface w a)
      | inr b ↦ Contains-append_right (q.interface ++ new_interface) (terms_of_problem with_more) w (root_asserted w (subst (λ (ts : List Term). Contains ts w) (append-nil new_roots) b))
    ]

    both_terms : (w : Term) → Contains (terms_of_problem with_more) w → Contains (known_terms q ++ known_terms more) w
    both_terms w i = elim (Contains-append_cases (q.asserted ++ new_roots) q.assumed w i) [
      | inl a ↦ elim (Contains-append_cases q.asserted new_roots w a) [
        | inl b ↦ Contains-append_left (known_terms q) (known_terms more) w (Contains-append_right q.interface (terms_of_problem q) w (Contains-append_left q.asserted q.assumed w b))
        | inr b ↦ Contains-append_right (known_terms q) (known_terms more) w (Contains-append_right new_interface (new_roots ++ []) w (Contains-append_left new_roots [] w b))
      ]
      | inr a ↦ Contains-append_left (known_terms q) (known_terms more) w (Contains-append_right q.interface (terms_of_problem q) w (Contains-append_right q.asserted q.assumed w a))
    ]

    both_known : AreAmong (known_terms with_more) (known_terms q ++ known_terms more)
    both_known w i = elim (Contains-append_cases (q.interface ++ new_interface) (terms_of_problem with_more) w i) [
      | inl a ↦ elim (Contains-append_cases q.interface new_interface w a) [
        | inl b ↦ Contains-append_left (known_terms q) (known_terms more) w (Contains-append_left q.interface (terms_of_problem q) w b)
        | inr b ↦ Contains-append_right (known_terms q) (known_terms more) w (Contains-append_left new_interface (new_roots ++ []) w b)
      ]
      | inr a ↦ both_terms w a
    ]

    meant : problem_in t (z.roots ++ roots) (z.interface ++ interface) ≡ with_more
    meant = (λ i. speaking (map-append (term_at t) z.roots roots i) (map-append (term_at t) z.interface interface i))
        ∙ ap (λ (r : Problem). asserting_too r new_roots new_interface) z.meant

    both_answered : AreAnswered (known_terms with_more)
    both_answered = All-weaker (Contains (known_terms with_more)) IsLinear (λ w i. elim (Contains-append_cases (known_terms q) (known_terms more) w (both_known w i)) [
      | inl a ↦ All-contains IsLinear (known_terms q) w z.answered a
      | inr b ↦ All-contains IsLinear (known_terms more) w (answered_both (clause_at t roots) (clause_at t interface) answered answered_interface) b
    ]) (known_terms with_more) (All-contains_itself (known_terms with_more))

    had : (c : Clause) → Contains (whole_clauses q) c → IsHad t x c
    had c i = (z.whole.base c i, z.whole.stated c i)

    part_joined : HasDerived with_more (derivation_in t x.log) (images t x.store.clauses) earlier (images t x.budget.learned) → IsPart t x roots interface earlier with_more
    part_joined derived = record {
      all = z.roots ++ roots;
      all_in = All-append (IsFormulaIn t) z.roots roots z.roots_in roots_in;
      beside = z.interface ++ interface;
      beside_in = All-append (IsFormulaIn t) z.interface interface z.interface_in interface_in;
      meant = meant;
      answered = both_answered;
      asserted = λ w i. Contains-append_right q.asserted new_roots w i;
      derived = derived;
      began = began_of_more q with_more asserted_more terms_more first_known x.since (derivation_in t x.log) earlier z.began;
      spoken = λ w i. whole q with_more first_known w (z.listed.only w i);
      more = whole more with_more more_known;
      each = λ w i. elim (whole_joined with_more q more both_known w i) [ inl a ↦ inl (z.listed.each w a) | inr b ↦ inr b ];
      known = λ w c i j. had c (among_whole q w c (z.listed.only w i) j);
      alone = λ w i. elim (Contains-append_cases q.asserted new_roots w i) [ inl a ↦ inl (had (w ∷ []) (among_roots q w a)) | inr b ↦ inr b ];
    }

    -- the check has learned nothing
    part_asserts : x.budget.learned ≡ [] → IsPart t x roots interface earlier with_more
    part_asserts unlearned = part_joined (derived_with q with_more asserted_more terms_more first_known (derivation_in t x.log) (images t x.store.clauses) earlier (images t x.budget.learned) z.derived
        (subst (λ (ls : List (List Lit)). AreNew (at_start with_more earlier) (images t ls)) (sym unlearned) tt))

    -- or there are no roots
    part_goes_on : roots ≡ [] → IsPart t x roots interface earlier (speaking_of q new_interface)
    part_goes_on no_roots =
        let none_new : q.asserted ++ new_roots ≡ q.asserted = ap (λ (ids : List TermId). q.asserted ++ clause_at t ids) no_roots ∙ append-nil q.asserted in
        subst (IsPart t x roots interface earlier) (λ i. record { asserted = none_new i; assumed = q.assumed; interface = q.interface ++ new_interface })
        (part_joined (derived_of_more q with_more none_new refl first_known (derivation_in t x.log) (images t x.store.clauses) earlier (images t x.budget.learned) z.derived))

  -- what the search has is of each problem to which it grows
  pub part_of : (p : Problem) (earlier : List (List Literal)) → GrowsTo t x roots interface earlier p → IsPart t x roots interface earlier p
  part_of p earlier (begins b none_earlier e) = subst (λ (cs : List (List Literal)). IsPart t x roots interface cs p) (sym none_earlier) (subst (IsPart t x roots interface []) (sym e) (part_begins b))
  part_of p earlier (goes_on q z no_roots e) = subst (IsPart t x roots interface earlier) (sym e) (part_goes_on q earlier z no_roots)
  part_of p earlier (asserts q z unlearned e) = subst (IsPart t x roots interface earlier) (sym e) (part_asserts q earlier z unlearned)

  -- what leaves the bound among what comes in, leaves it in each of these problems
  pub wide_of : (o : Overflow) → IsOrderOverflow more o → (p : Problem) (earlier : List (List Literal)) → GrowsTo t x roots interface earlier p → IsOrderOverflow p o
  wide_of o h p earlier grows = among_more (whole_terms more) (whole_terms p) (part_of p earlier grows).more o h
