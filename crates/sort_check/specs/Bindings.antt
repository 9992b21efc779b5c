-- Bound names, by the numbers of their terms.
use Rattle.std.specs.Prelude.{List, [], ◌∷◌, map}
use Rattle.spec_text.specs.Bytes.{Name}
use Rattle.spec_sorts.specs.Terms.{Term}
use Rattle.spec_reading.specs.Reading.{Bound}
use Rattle.term_core.specs.declared.ids.TermId.{TermId}
use Rattle.term_core.specs.Tables.{TableView, term_at}
use Rattle.term_reader.specs.NameStacks.{newest}

-- Names with the terms that they stand for, oldest first.
pub record BindingsView : Type 0 where
  -- the names
  pub names : List Name
  -- the number of the term of each
  pub terms : List TermId

-- no name is bound
abbrev pub no_bindings : BindingsView
no_bindings = record { names = []; terms = [] }

-- what no number of terms means
abbrev pub no_id : TermId
no_id = record { 0 = 0 }

-- a name with the term of a number
abbrev pub named_term : TableView → Name × TermId → Name × Term
named_term t p = (p.0, term_at t p.1)

-- the bound names with their terms, the newest first
abbrev pub bound_at : TableView → BindingsView → Bound
bound_at t v = map (named_term t) (newest v.names v.terms)

-- names with what they stand for, oldest first
abbrev pub paired : {A : Type 0} → List Name → List A → List (Name × A)
paired (n ∷ ns) (a ∷ xs) = (n, a) ∷ paired ns xs
paired ns xs = []

-- the names that wait with their terms, the oldest first
abbrev pub waiting_at : TableView → BindingsView → Bound
waiting_at t v = map (named_term t) (paired v.names v.terms)
