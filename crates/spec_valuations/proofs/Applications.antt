-- Equalities of subterms of a check bring no application of a declared symbol more to a search.
use Rattle.std.proofs.Common.{List, true, false, Contains, inl, inr, get_or, sym, subst}
use Rattle.std.proofs.lemmas.List.Elements.{Contains-append_cases, Contains-get_or}
use Rattle.spec_text.proofs.Members.{first, later, none, each_of}
use Rattle.spec_sorts.specs.Terms.{Symbol, Equal, Apply, Term, Terms, app, nil, cons, list_of, pair}
use Rattle.spec_sorts.specs.Subsets.{arguments_of, IsClosed}
use Rattle.spec_sorts.proofs.LeastSubterms.{least_of}
use Rattle.spec_derivations.specs.Problems.{Problem, terms_of_problem, subterms_in, known_terms}
use Rattle.spec_derivations.specs.Base.{branch_equalities}
use Rattle.spec_derivations.specs.Orders.{order_fact, whole_terms}
use Rattle.spec_valuations.specs.Classes.{IsEqualityAmong}
use Rattle.spec_valuations.proofs.Speaking.{choice, truth_fact, both_have, all_branches, whole_have}

unfoldable mutual
  -- each application of a declared symbol in a term is known, with all below it
  IsMadeOver : List Term → Term → Type 0
  IsMadeOver known (app (Apply s) ts) = Contains known (app (Apply s) ts)
  IsMadeOver known (app h ts) = AreMadeOver known ts

  -- and in terms
  AreMadeOver : List Term → Terms → Type 0
  AreMadeOver known nil = Unit {0}
  AreMadeOver known (cons t ts) = IsMadeOver known t × AreMadeOver known ts

module _ (known : List Term) (closed : IsClosed known) where
  mutual
    unfolding IsMadeOver AreMadeOver

    -- known terms are made so
    known_made : (t : Term) → Contains known t → IsMadeOver known t
    known_made (app (Apply s) ts) c = c
    known_made (app h ts) c = all_made ts (closed (app h ts) c)

    all_made : (ts : Terms) → ((u : Term) → Contains (list_of ts) u → Contains known u) → AreMadeOver known ts
    all_made nil each = tt
    all_made (cons t ts) each = (known_made t (each t (first t (list_of ts))), all_made ts (λ u c. each u (later t (list_of ts) u c)))

  members_made : (ts : Terms) → AreMadeOver known ts → (u : Term) → Contains (list_of ts) u → IsMadeOver known u
  unfolding AreMadeOver
  members_made nil m u c = absurd (none u c)
  members_made (cons t ts) m u c = each_of (IsMadeOver known) t (list_of ts) m.0 (members_made ts m.1) u c

  -- and so are arguments
  argument_made : (t : Term) → IsMadeOver known t → (u : Term) → Contains (arguments_of t) u → IsMadeOver known u
  unfolding IsMadeOver
  argument_made (app (Apply s) ts) m u c = known_made u (closed (app (Apply s) ts) m u c)
  argument_made (app h ts) m u c = members_made ts m u c

-- equalities, and their orders
equality_made : (known : List Term) (s t : Term) → IsMadeOver known s → IsMadeOver known t → IsMadeOver known (pair Equal s t)
unfolding IsMadeOver AreMadeOver
equality_made known s t l r = (l, (r, tt))

order_made : (known : List Term) (s t : Term) → IsMadeOver known (pair Equal s t) → IsMadeOver known (order_fact s t)
unfolding IsMadeOver AreMadeOver
order_made known s t m = (m, (((m.0, m.1), tt), (((m.1.0, (m.0, tt)), tt), tt)))

both_made : (known : List Term) (c a b : Term) → IsMadeOver known (choice c a b) → IsMadeOver known (pair Equal (choice c a b) a) × IsMadeOver known (pair Equal (choice c a b) b)
unfolding IsMadeOver AreMadeOver
both_made known c a b own = (equality_made known (choice c a b) a own own.1.0, equality_made known (choice c a b) b own own.1.1.0)

branch_made : (known : List Term) (t : Term) → IsMadeOver known t → (u : Term) → Contains (branch_equalities t) u → IsMadeOver known u
branch_made known t m = all_branches (IsMadeOver known) t (λ c a b e. both_made known c a b (subst (IsMadeOver known) e m))

module _ (p : Problem) (interface : (e : Term) → Contains p.interface e → IsEqualityAmong (subterms_in p) e) where
  known_term_made : (t : Term) → Contains (known_terms p) t → IsMadeOver (subterms_in p) t
  known_term_made t c =
      let least = least_of (terms_of_problem p) in
      let subterm_made = known_made (subterms_in p) least.closed in
      elim (Contains-append_cases p.interface (terms_of_problem p) t c) [
        | inl other ↦
            let e = interface t other in
            subst (IsMadeOver (subterms_in p)) (sym e.is) (equality_made (subterms_in p) e.left e.right (subterm_made e.left e.left_in) (subterm_made e.right e.right_in))
        | inr own ↦ subterm_made t (least.there t own)
      ]

  facts_made : (known : List Term) → IsMadeOver known (truth_fact true) × IsMadeOver known (truth_fact false)
  unfolding IsMadeOver AreMadeOver
  facts_made known = (((tt, tt), (tt, tt)), ((tt, tt), (tt, tt)))

  whole_made : (t : Term) → Contains (whole_terms p) t → IsMadeOver (subterms_in p) t
  whole_made =
      let facts = facts_made (subterms_in p) in
      whole_have (IsMadeOver (subterms_in p)) p (record {
        down = argument_made (subterms_in p) (least_of (terms_of_problem p)).closed;
        terms = λ k d lt. known_term_made (get_or (known_terms p) k d) (Contains-get_or (known_terms p) k d lt);
        facts = both_have (IsMadeOver (subterms_in p)) (truth_fact true) (truth_fact false) facts.0 facts.1;
        branches = λ t t_in m. branch_made (subterms_in p) t m;
      }) (λ s t number m. order_made (subterms_in p) s t m)

  -- so each application is one of the check's own
  pub nothing_more : (f : Symbol) (us : Terms) → Contains (whole_terms p) (app (Apply f) us) → Contains (subterms_in p) (app (Apply f) us)
  unfolding IsMadeOver
  nothing_more f us c = whole_made (app (Apply f) us) c
