-- Numbers of the terms of which a search over linear arithmetic speaks, from those of any search.
use Rattle.std.proofs.Common.{List, Contains, sym, subst}
use Rattle.std.specs.Prelude.{flat_map}
use Rattle.spec_sorts.specs.Terms.{Term}
use Rattle.spec_sorts.specs.Subterms.{subterms_of}
use Rattle.spec_sorts.specs.Subsets.{AreAmong}
use Rattle.spec_sorts.proofs.LeastSubterms.{least_of}
use Rattle.spec_derivations.specs.Base.{spoken_terms, search_terms}
use Rattle.spec_derivations.specs.Problems.{Problem}
use Rattle.spec_derivations.specs.Orders.{order_facts}
use Rattle.term_core.specs.declared.ids.TermId.{TermId}
use Rattle.term_core.specs.Tables.{TableView, clause_at}
use Rattle.term_clauses.specs.SpokenTerms.{AreSpoken, HasMore}
use Rattle.term_clauses.proofs.Within.{within_append, within_flat}
use Rattle.clausify.specs.Orders.{AreOrdered}

-- terms that are among others have subterms among theirs
pub subterms_among : (ts us : List Term) → AreAmong ts us → AreAmong (subterms_of ts) (subterms_of us)
subterms_among ts us among = (least_of ts).least (subterms_of us) (λ t t_in. (least_of us).there t (among t t_in)) (least_of us).closed

-- after the terms of any search, the order facts of its equalities of numbers
pub are_ordered : (t u : TableView) (p : Problem) (us : List Term) (some all : List TermId) → AreSpoken t p some → AreAmong (subterms_of (clause_at t some)) us → AreAmong us (subterms_of (clause_at t some))
    → HasMore t u some all (flat_map order_facts us) → AreOrdered u p all
are_ordered t u p us some all spoken each only more =
    let terms_spoken = spoken_terms p in
    let found = clause_at t some in
    let wanted = search_terms p in
    let there : AreAmong wanted us = λ w w_in. each w (subterms_among terms_spoken found spoken.each w w_in) in
    let back : AreAmong us wanted = λ w w_in. subterms_among found terms_spoken spoken.only w (only w w_in) in
    record {
      formulas = more.formulas;
      each = λ w w_in.
          subst (λ (vs : List Term). Contains vs w) (sym more.same)
          (within_append terms_spoken (flat_map order_facts wanted) found (flat_map order_facts us) spoken.each (within_flat order_facts wanted us there) w w_in);
      only = λ w w_in.
          within_append found (flat_map order_facts us) terms_spoken (flat_map order_facts wanted) spoken.only (within_flat order_facts us wanted back) w
          (subst (λ (vs : List Term). Contains vs w) more.same w_in);
    }
