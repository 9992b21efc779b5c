-- Equalities of shared terms of which a search does not speak. Source: Nelson and Oppen 1979.
use Rattle.std.specs.Prelude.{◌+◌, ℕ, List, [], ◌∷◌, map, flat_map, if◌then◌else◌}
use Rattle.spec_sorts.specs.Terms.{Equal, Term, pair}
use Rattle.spec_sorts.specs.Subterms.{has_term}
use Rattle.term_core.specs.declared.ids.TermId.{TermId}
use Rattle.term_core.specs.Tables.{clause_at, TableView}
use Rattle.term_clauses.specs.Choices.{AreComparable, equality_at}
use Rattle.search_loop.specs.Asking.{SearchState}

-- two terms of one sort
abbrev pub IsComparable : TableView → TermId × TermId → Type 0
IsComparable t x = AreComparable t x.0 x.1

-- their equality
abbrev pub equality_in : TableView → TermId × TermId → Term
equality_in t x = equality_at t x.0 x.1

-- the equalities of each two of these terms
abbrev pub equalities_of : List Term → List Term
equalities_of ts = flat_map (λ s. map (λ u. pair Equal s u) ts) ts

-- how many of these terms are not among those
abbrev pub missing : List Term → List Term → ℕ
missing [] us = 0
missing (t ∷ ts) us = (if has_term us t then 0 else 1) + missing ts us

-- how many equalities of shared terms a search does not speak of
abbrev pub unspoken_in : List TermId → SearchState → ℕ
unspoken_in shared s =
    missing (equalities_of (clause_at s.table shared)) (clause_at s.table s.search.terms.items)
