-- What a search over linear arithmetic speaks of in addition: the orders of the sides of each equality of numbers.
-- Source: Alethe specification, rule `la_disequality`; which orders a search speaks of is own.
use Rattle.std.specs.Prelude.{List, [], ◌∷◌, ◌++◌, map, flat_map, if◌then◌else◌}
use Rattle.spec_sorts.specs.Terms.{Number, Or, Equal, AtMost, Term, app, nil, cons, of, pair, negated, same_sort}
use Rattle.spec_sorts.specs.Terms.{sort_of}
use Rattle.spec_sorts.specs.Subterms.{subterms_of}
use Rattle.spec_sorts.specs.Literals.{Clause}
use Rattle.spec_derivations.specs.Problems.{Problem}
use Rattle.spec_derivations.specs.Base.{spoken_terms, search_terms, defining_clauses}

-- numbers are equal, or one of them is not at most the other: (or (= s t) (not (<= s t)) (not (<= t s)))
abbrev pub order_fact : Term → Term → Term
order_fact s t = of Or (pair Equal s t ∷ negated (pair AtMost s t) ∷ negated (pair AtMost t s) ∷ [])

-- that term of an equality of numbers; no other term has one
abbrev pub order_facts : Term → List Term
order_facts (app Equal (cons s (cons t nil))) = if same_sort Number (sort_of s) then order_fact s t ∷ [] else []
order_facts t = []

-- the clauses of an equality of numbers: that term alone, which is always true, and where the sides are equal each is
-- at most the other
abbrev pub order_clauses : Term → List Clause
order_clauses (app Equal (cons s (cons t nil))) =
    if same_sort Number (sort_of s) then (order_fact s t ∷ []) ∷ (negated (pair Equal s t) ∷ pair AtMost s t ∷ [])
    ∷ (negated (pair Equal s t) ∷ pair AtMost t s ∷ []) ∷ [] else []
order_clauses t = []

-- the terms that a search over linear arithmetic speaks of: those of any search, and the orders of its equalities of
-- numbers
abbrev pub ordered_terms : Problem → List Term
ordered_terms p = spoken_terms p ++ flat_map order_facts (search_terms p)

-- with their subterms
abbrev pub whole_terms : Problem → List Term
whole_terms p = subterms_of (ordered_terms p)

-- all clauses that say what a term means, its orders among them
abbrev pub whole_clauses_of : Term → List Clause
whole_clauses_of t = defining_clauses t ++ order_clauses t

-- the clauses of such a search: that of each asserted term alone, and those of all terms that it speaks of
abbrev pub whole_clauses : Problem → List Clause
whole_clauses p = map (λ t. t ∷ []) p.asserted ++ flat_map whole_clauses_of (whole_terms p)

-- the problem without interface equalities, with which a search of a check begins
abbrev pub at_first : Problem → Problem
at_first p = record { asserted = p.asserted; assumed = p.assumed; interface = [] }

-- the clauses with which it begins
abbrev pub first_clauses : Problem → List Clause
first_clauses p = whole_clauses (at_first p)
