-- Clauses and steps by their entries.
use Rattle.std.proofs.Common.{◌≡◌, ℕ, ◌<◌, List, [], length, get_or, All, Contains, sym, ap, ◌∙◌, subst, arith}
use Rattle.std.proofs.lemmas.List.{get_or-map, length-map}
use Rattle.term_core.specs.declared.ids.Lit.{Lit}
use Rattle.proof_log.specs.declared.premises.StepId.{StepId}
use Rattle.clause_store.specs.declared.entry.StoredClause.{StoredClause}
use Rattle.clause_store.specs.declared.pair.Pair.{Pair}
use Rattle.clause_store.specs.Stores.{no_step}
use Rattle.clause_store.specs.Entries.{clauses_of, steps_of}
use Rattle.clause_store.specs.Watching.{ArePairs}

abbrev literals : StoredClause → List Lit
literals e = e.literals.items

abbrev step_of : StoredClause → StepId
step_of e = e.step

module _ (es : List StoredClause) where
  pub clause_count : length (clauses_of es) ≡ length es
  clause_count = length-map es literals

  pub step_count : length (steps_of es) ≡ length es
  step_count = length-map es step_of

  -- a pair's clause is there
  pub entry_there : (pairs : List Pair) (n : ℕ) → ArePairs (clauses_of es) pairs → n < length pairs → n < length es
  entry_there pairs n ps lt = omega (arith, lt, ps.paired, clause_count)

  pub clause_there : (pairs : List Pair) (n : ℕ) → ArePairs (clauses_of es) pairs → n < length pairs → n < length (clauses_of es)
  clause_there pairs n ps lt = omega (arith, lt, ps.paired)

  module _ (n : ℕ) (e : StoredClause) (lt : n < length es) (is : e ≡ get_or es n e) where
    -- an entry's literals are those of the clause
    pub entry_clause : (xs : List Lit) → xs ≡ e.literals.items → xs ≡ get_or (clauses_of es) n []
    entry_clause xs x = x ∙ ap literals is ∙ sym (get_or-map literals es n e [] lt)

    -- and its step the clause's
    pub entry_step : e.step ≡ get_or (steps_of es) n no_step
    entry_step = ap step_of is ∙ sym (get_or-map step_of es n e no_step lt)

-- a literal of a clause is of a variable
pub known_of : (clauses : List (List Lit)) (vars n : ℕ) (l : Lit) → All (All (λ (x : Lit). x.term.0 < vars)) clauses → n < length clauses → Contains (get_or clauses n []) l → l.term.0 < vars
known_of clauses vars n l h lt (i, within, e) = subst (λ (x : Lit). x.term.0 < vars) e (h n [] lt i l within)

pub all_known : (clauses : List (List Lit)) (vars n : ℕ) (xs : List Lit) → All (All (λ (x : Lit). x.term.0 < vars)) clauses → n < length clauses → xs ≡ get_or clauses n [] → All (λ (x : Lit). x.term.0 < vars) xs
all_known clauses vars n xs h lt e = subst (All (λ (x : Lit). x.term.0 < vars)) (sym e) (h n [] lt)
