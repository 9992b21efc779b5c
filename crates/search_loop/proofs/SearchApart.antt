-- That the facts of a search stay facts, and what it learned stays apart from them.
use Rattle.std.proofs.Common.{◌≡◌, true, List, [], ◌∷◌, ◌++◌, All, Contains, inl, inr, sym, subst}
use Rattle.std.proofs.lemmas.List.{append_assoc}
use Rattle.std.proofs.lemmas.List.Elements.{All-append, All-contains, All-push, All-weaker, Contains-append_left, Contains-append_right, Contains-append_cases}
use Rattle.spec_sorts.specs.Terms.{Apply, Term, app}
use Rattle.spec_sorts.specs.Subsets.{AreAmong}
use Rattle.spec_sorts.specs.Literals.{Literal, complement}
use Rattle.spec_proofs.specs.Resolution.{Derives, IsWithin}
use Rattle.spec_derivations.specs.Problems.{Problem, terms_of_problem, subterms_in, known_terms}
use Rattle.spec_derivations.proofs.Grown.{more_subterms, over}
use Rattle.spec_causes.specs.Shared.{IsSharedAmong, argument, value, IsSharedEquality}
use Rattle.spec_interfaces.specs.Interfaces.{IsElementEquality, IsInterfaceEquality, speaking_of, numbers_alone, StandsApart}
use Rattle.spec_interfaces.proofs.Apart.{never_both, apart_more}
use Rattle.term_core.specs.Tables.{TableView}
use Rattle.search_loop.specs.declared.search.Search.{Search}
use Rattle.search_loop.specs.Search.{images}
use Rattle.search_loop.specs.Rounds.{HoldsApart}
use Rattle.search_loop.specs.Growing.{asserting_too}
use Rattle.search_loop.proofs.SearchNew.{derives_more}

-- an interface equality over terms is one over more
shared_more : (ts us : List Term) → AreAmong ts us → (u : Term) → IsSharedAmong ts u → IsSharedAmong us u
shared_more ts us h _ (argument s args there u i real) = argument s args (h (app (Apply s) args) there) u i real
shared_more ts us h _ (value s args there some real) = value s args (h (app (Apply s) args) there) some real

interface_more : (ts us : List Term) → AreAmong ts us → (e : Term) → IsInterfaceEquality ts e → IsInterfaceEquality us e
interface_more ts us h e (inl s) = inl (record { left = s.left; left_shared = shared_more ts us h s.left s.left_shared; right = s.right; right_shared = shared_more ts us h s.right s.right_shared; different = s.different; is = s.is })
interface_more ts us h e (inr s) = inr (record { left = s.left; left_in = h s.left s.left_in; right = s.right; right_in = h s.right s.right_in; sort = s.sort; left_sort = s.left_sort; right_sort = s.right_sort; is = s.is })

-- with more roots there are more subterms, and what stands apart does so
module _ (p : Problem) (roots more : List Term) where
  terms_rooted : AreAmong (terms_of_problem p) (terms_of_problem (asserting_too p roots more))
  terms_rooted w i = elim (Contains-append_cases p.asserted p.assumed w i) [
    | inl a ↦ Contains-append_left (p.asserted ++ roots) p.assumed w (Contains-append_left p.asserted roots w a)
    | inr b ↦ Contains-append_right (p.asserted ++ roots) p.assumed w b
  ]

  subterms_rooted : AreAmong (subterms_in p) (subterms_in (asserting_too p roots more))
  subterms_rooted = more_subterms (terms_of_problem p) (terms_of_problem (asserting_too p roots more)) terms_rooted

  abbrev q : Problem
  q = speaking_of p more

  known_rooted : AreAmong (known_terms (numbers_alone q)) (known_terms (numbers_alone (asserting_too p roots more)))
  known_rooted w i = elim (Contains-append_cases (numbers_alone q).interface (terms_of_problem q) w i) [
    | inl a ↦ Contains-append_left (numbers_alone q).interface (terms_of_problem (asserting_too p roots more)) w a
    | inr b ↦ Contains-append_right (numbers_alone q).interface (terms_of_problem (asserting_too p roots more)) w (terms_rooted w b)
  ]

  apart_with_roots : (c : List Literal) → StandsApart p c → StandsApart (asserting_too p roots more) c
  apart_with_roots c h = over (numbers_alone q) (numbers_alone (asserting_too p roots more)) known_rooted c (apart_more p more c h)

-- no clause of the store went
module _ (t u : TableView) (x y : Search) (within : IsWithin (images t x.store.clauses) (images u y.store.clauses)) where
  module _ (problem : Problem) (earlier : List (List Literal)) (h : HoldsApart t problem earlier x) where
    facts_stay : (e : Term) → Contains problem.interface e → IsElementEquality (subterms_in problem) e → Derives complement (images u y.store.clauses) [] (record { atom = e; positive = true })
    facts_stay e i element = derives_more complement (images t x.store.clauses) (images u y.store.clauses) within [] (record { atom = e; positive = true }) (h.facts e i element)

    -- and the same is learned
    pub apart_on : images u y.budget.learned ≡ images t x.budget.learned → HoldsApart u problem earlier y
    apart_on learned = record {
      equalities = h.equalities;
      facts = facts_stay;
      apart = subst (λ (ls : List (List Literal)). All (StandsApart problem) (earlier ++ ls)) (sym learned) h.apart;
    }

    -- or a clause more, which stands apart
    pub apart_with : (clause : List Literal) → images u y.budget.learned ≡ images t x.budget.learned ++ clause ∷ [] → StandsApart problem clause → HoldsApart u problem earlier y
    apart_with clause learned apart = record {
      equalities = h.equalities;
      facts = facts_stay;
      apart = subst (λ (ls : List (List Literal)). All (StandsApart problem) (earlier ++ ls)) (sym learned)
          (subst (All (StandsApart problem)) (append_assoc earlier (images t x.budget.learned) (clause ∷ []))
          (All-push (StandsApart problem) (earlier ++ images t x.budget.learned) clause h.apart apart));
    }

    -- or equalities of shared numbers came into the problem
    pub apart_grown : (more : List Term) → All (IsSharedEquality (subterms_in problem)) more → images u y.budget.learned ≡ images t x.budget.learned → HoldsApart u (speaking_of problem more) earlier y
    apart_grown more shared learned = record {
      equalities = All-append (IsInterfaceEquality (subterms_in problem)) problem.interface more h.equalities (All-weaker (IsSharedEquality (subterms_in problem)) (IsInterfaceEquality (subterms_in problem)) (λ e s. inl s) more shared);
      facts = λ e i element. elim (Contains-append_cases problem.interface more e i) [
        | inl was ↦ facts_stay e was element
        | inr new ↦ absurd (never_both (subterms_in problem) (subterms_in problem) e (All-contains (IsSharedEquality (subterms_in problem)) more e shared new) element)
      ];
      apart = subst (λ (ls : List (List Literal)). All (StandsApart (speaking_of problem more)) (earlier ++ ls)) (sym learned)
          (All-weaker (StandsApart problem) (StandsApart (speaking_of problem more)) (apart_more problem more) (earlier ++ images t x.budget.learned) h.apart);
    }

    -- or more roots, too
    pub apart_rooted : (roots more : List Term) → All (IsSharedEquality (subterms_in (asserting_too problem roots []))) more → images u y.budget.learned ≡ images t x.budget.learned → HoldsApart u (asserting_too problem roots more) earlier y
    apart_rooted roots more shared learned =
        let p = asserting_too problem roots more in
        let among = subterms_rooted problem roots more in
        record {
          equalities = All-append (IsInterfaceEquality (subterms_in p)) problem.interface more
              (All-weaker (IsInterfaceEquality (subterms_in problem)) (IsInterfaceEquality (subterms_in p)) (interface_more (subterms_in problem) (subterms_in p) among) problem.interface h.equalities)
              (All-weaker (IsSharedEquality (subterms_in p)) (IsInterfaceEquality (subterms_in p)) (λ e s. inl s) more shared);
          facts = λ e i element. elim (Contains-append_cases problem.interface more e i) [
            | inl was ↦ elim (All-contains (IsInterfaceEquality (subterms_in problem)) problem.interface e h.equalities was) [
              | inl number ↦ absurd (never_both (subterms_in problem) (subterms_in p) e number element)
              | inr own ↦ facts_stay e was own
            ]
            | inr new ↦ absurd (never_both (subterms_in p) (subterms_in p) e (All-contains (IsSharedEquality (subterms_in p)) more e shared new) element)
          ];
          apart = subst (λ (ls : List (List Literal)). All (StandsApart p) (earlier ++ ls)) (sym learned)
              (All-weaker (StandsApart problem) (StandsApart p) (apart_with_roots problem roots more) (earlier ++ images t x.budget.learned) h.apart);
        }
