-- How a search pays for runs of exchanges: one for each atom of linear arithmetic that is watched, one for each that is
-- held, for each learned clause one more than there are atoms, and as many as these where it grows or tries a literal.
use Rattle.std.specs.Prelude.{◌≡◌, ◌+◌, ◌*◌, ◌≤◌, ℕ, List, length, map}
use Rattle.spec_causes.specs.Counts.{arithmetic_in}
use Rattle.term_core.specs.declared.ids.TermId.{TermId}
use Rattle.term_core.specs.declared.ids.Lit.{Lit}
use Rattle.term_core.specs.Tables.{TableView, term_at, clause_at}
use Rattle.search_loop.specs.declared.search.Search.{Search}
use Rattle.search_loop.specs.declared.cdcl.End.{End}
use Rattle.search_loop.specs.declared.cdcl.End.TheVariants.{Saturated}
use Rattle.search_loop.specs.Asking.{SearchState}

-- how many of these terms are atoms of linear arithmetic
abbrev pub counted_among : TableView → List TermId → ℕ
counted_among t ids = length (arithmetic_in (clause_at t ids))

-- and of the atoms of literals
abbrev pub counted_held : TableView → List Lit → ℕ
counted_held t ls = length (arithmetic_in (map (λ (l : Lit). term_at t l.term) ls))

-- and of the terms that a search speaks of
abbrev pub atoms_of : TableView → Search → ℕ
atoms_of t x = counted_among t x.terms.items

-- what is paid over a atoms where l clauses are learned, the search grew or tried literals r times, and h of the atoms
-- are held
abbrev pub paid : (a l r h : ℕ) → ℕ
paid a l r h = a + l * (1 + a) + r * a + h

-- what a search has paid that grew r times and holds h of its atoms
abbrev pub paid_by : TableView → Search → (r h : ℕ) → ℕ
paid_by t x r h = paid (atoms_of t x) (length x.budget.learned) r h

-- at most so much, where it ends: each of its atoms may be held, and after a conflict one run more is made
abbrev pub paid_at : TableView → Search → (r : ℕ) → End → ℕ
paid_at t x r Saturated = paid_by t x r (atoms_of t x)
paid_at t x r end = 1 + paid_by t x r (atoms_of t x)

-- it is so by a number of at most so many
abbrev pub IsPaid : (ℕ → Type 0) → ℕ → Type 0
IsPaid came most = (n : ℕ) × (n ≤ most) × came n

-- where literals came to be held, as many more are paid as atoms came, and those held are no more than the search's
abbrev pub Looked : SearchState → (before after : List Lit) → ℕ → (ℕ → Type 0) → Type 0
Looked s before after n came =
    (m : ℕ) × (m + counted_held s.table before ≡ n + counted_held s.table after)
    × (counted_held s.table after ≤ atoms_of s.table s.search) × came m
