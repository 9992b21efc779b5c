-- The clauses that a search begins with: those of the asserted terms, and those that say what each subterm means.
-- Source: Alethe specification, the rules without premises; Tseitin 1968; the clauses of choices between terms of other
-- sorts are own.
use Rattle.std.specs.Prelude.{List, [], ◌∷◌, ◌++◌, map, flat_map, if◌then◌else◌}
use Rattle.spec_sorts.specs.Terms.{True, False, Ite, Equal, Truth, Term, app, nil, cons, of, pair, negated, same_sort}
use Rattle.spec_sorts.specs.Terms.{sort_of}
use Rattle.spec_sorts.specs.Subterms.{subterms_of}
use Rattle.spec_sorts.specs.Literals.{Clause}
use Rattle.spec_rules.specs.Schemes.{clauses_by, schemes}
use Rattle.spec_derivations.specs.Problems.{Problem, known_terms, subterms_in, known_subterms}

-- all clauses that a term gives by rules without premises; there are none where its arguments are not of sort Bool
abbrev pub clauses_of : Term → List Clause
clauses_of t = flat_map (λ s. clauses_by s t) schemes

-- the clause of each asserted term alone, and the clauses of all subterms; what is assumed has no clause of its own
abbrev pub base_clauses : Problem → List Clause
base_clauses p = map (λ t. t ∷ []) p.asserted ++ flat_map clauses_of (subterms_in p)

-- two equalities that are always true: `(not true)` is `false`, and `(not false)` is `true`
abbrev pub truth_facts : List Term
truth_facts = pair Equal (negated (of True [])) (of False []) ∷ pair Equal (negated (of False [])) (of True []) ∷ []

-- the equalities of a choice between terms of another sort than Bool with the first of them, and with the second
abbrev pub branch_equalities : Term → List Term
branch_equalities (app Ite (cons c (cons s (cons t nil)))) =
    if same_sort Truth (sort_of s) then [] else pair Equal (app Ite (cons c (cons s (cons t nil)))) s
    ∷ pair Equal (app Ite (cons c (cons s (cons t nil)))) t ∷ []
branch_equalities t = []

-- the clauses of such a choice, by the rules `x_ite_then` and `x_ite_else`: the condition chooses which of them holds
abbrev pub choice_clauses : Term → List Clause
choice_clauses (app Ite (cons c (cons s (cons t nil)))) =
    if same_sort Truth (sort_of s) then [] else (negated c ∷ pair Equal (app Ite (cons c (cons s (cons t nil)))) s ∷ [])
    ∷ (c ∷ pair Equal (app Ite (cons c (cons s (cons t nil)))) t ∷ []) ∷ []
choice_clauses t = []

-- the terms that a search speaks of: those of the check and the interface equalities, the two equalities, and those of
-- the choices in these
abbrev pub spoken_terms : Problem → List Term
spoken_terms p = known_terms p ++ (truth_facts ++ flat_map branch_equalities (known_subterms p))

-- with their subterms
abbrev pub search_terms : Problem → List Term
search_terms p = subterms_of (spoken_terms p)

-- all clauses that say what a term means
abbrev pub defining_clauses : Term → List Clause
defining_clauses t = clauses_of t ++ choice_clauses t

-- the clauses that a search begins with: that of each asserted term alone, and those of all terms that it speaks of;
-- the base clauses are among them
abbrev pub search_clauses : Problem → List Clause
search_clauses p = map (λ t. t ∷ []) p.asserted ++ flat_map defining_clauses (search_terms p)
