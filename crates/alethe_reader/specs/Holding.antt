-- What is known of a proof while it is judged.
use Rattle.std.specs.Prelude.{◌≡◌, ◌<◌, ℕ, List, [], ◌∷◌, ◌++◌, length, map, All, slice_index_or}
use Rattle.spec_text.specs.Bytes.{Name}
use Rattle.spec_sorts.specs.Literals.{Clause}
use Rattle.spec_proofs.specs.Resolution.{IsWithin}
use Rattle.spec_checking.specs.Commands.{NamedClause, Known}
use Rattle.term_core.specs.declared.ids.TermId.{TermId}
use Rattle.term_core.specs.Tables.{TableView, clause_at, AreIn}
use Rattle.term_reader.specs.Scopes.{ScopeMeans}
use Rattle.alethe_reader.specs.declared.proof_state.ProofState.{ProofState}

-- names with their clauses, in order
abbrev pub entries_of : TableView → List Name → List (List TermId) → List NamedClause
entries_of t (n ∷ ns) (c ∷ cs) = (record { name = n; clause = clause_at t c }) ∷ entries_of t ns cs
entries_of t _ _ = []

-- What a state represents.
pub record IsKnown (h : ProofState) (k : Known) : Type 0 where
  -- names stand for what the script and the proof declare and define
  pub scope : ScopeMeans h.table h.scope k.scope
  -- the asserted terms are in the table
  pub inside : AreIn h.table h.asserted.keys
  -- they are those that the check asks about
  pub asked : IsWithin (clause_at h.table h.asserted.keys) k.asserted
  -- all of them
  pub asserted : IsWithin k.asserted (clause_at h.table h.asserted.keys)
  -- as many names as clauses
  pub paired : length h.names ≡ length h.clauses.items
  -- the terms of the clauses are in the table
  pub clauses : All (λ c. AreIn h.table c) h.clauses.items
  -- each clause has its name
  pub entries : entries_of h.table h.names h.clauses.items ≡ k.entries

-- the state represents something
abbrev pub HasKnown : ProofState → Type 0
HasKnown h = (k : Known) × IsKnown h k

-- an earlier command more, under its name
abbrev pub with_entry : Known → Name → Clause → Known
with_entry k n c = record k { entries = k.entries ++ record { name = n; clause = c } ∷ [] }

-- the clause with that number, from 0
abbrev pub clause_numbered : ProofState → ℕ → Clause
clause_numbered h k = clause_at h.table (slice_index_or h.clauses.items k [])

-- the clauses with these numbers, in order
abbrev pub clauses_numbered : ProofState → List ℕ → List Clause
clauses_numbered h ks = map (clause_numbered h) ks

-- each number is that of a clause
abbrev pub AreNumbers : ProofState → List ℕ → Type 0
AreNumbers h ks = All (λ k. k < length h.clauses.items) ks
