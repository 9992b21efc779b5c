-- A conjunction within the bound has the value true where each of its terms has.
use Rattle.std.proofs.Common.{◌≡◌, ◌≤◌, ℕ, List, [], ◌∷◌, length, map, slice_index_or, All, Bool, true, if◌then◌else◌, Some, None, refl, sym, ap, ◌∙◌, subst}
use Rattle.std.proofs.lemmas.Bool.{and_parts}
use Rattle.std.specs.Prelude.{Result, Ok, Err, IfOk}
use Rattle.no_memory.specs.declared.NoMemory.{NoMemory}
use Rattle.spec_numbers.specs.Bounds.{Overflow}
use Rattle.spec_text.specs.Answers.{◌>>=◌}
use Rattle.spec_sorts.specs.Terms.{And, terms_of as as_terms}
use Rattle.spec_sorts.specs.Values.{Value, truth, is_true, all_true, Interpretation}
use Rattle.spec_sorts.specs.BoundedValues.{bounded_head, bounded_value, bounded_values}
use Rattle.spec_model_files.specs.declared.ModelKind.TheVariants.{NotTrue}
use Rattle.spec_model_files.specs.Faults.{model_fault}
use Rattle.spec_model_files.specs.Verdicts.{untrue_by, first_of}
use Rattle.term_core.specs.declared.ids.SymbolId.{SymbolId}
use Rattle.term_core.specs.Symbols.{SymbolsView, symbol_at, IsSymbol}
use Rattle.term_core.specs.Tables.{TableView, term_at, clause_at}
use Rattle.term_reader.specs.Building.{KeepsTable}
use Rattle.term_walks.specs.declared.values.Interp.{Interp}
use Rattle.term_walks.specs.Valuations.{no_table, table_meant, IsTableNamed, HasTables, HasSymbolTables}
use Rattle.script_standing.specs.declared.standing.Expression.{Expression}
use Rattle.script_standing.specs.Standings.{terms_of}
use Rattle.model_judge.specs.Untrue.{first_untrue_at, conjunction_at, IsTrueAt}

-- the first of values, and the others
first_value : (at : ℕ) (a : Result Value Overflow) (b : Result (List Value) Overflow) (vs : List Value) → (a >>= λ v. b >>= λ ws. Ok (v ∷ ws)) ≡ Ok vs → all_true vs ≡ true
    → (untrue_by at a ≡ None) × (ws : List Value) × (b ≡ Ok ws) × (all_true ws ≡ true)
unfolding ◌>>=◌
first_value at (Ok v) (Ok ws) vs h all =
    let same : vs ≡ v ∷ ws = cc in
    let parts = and_parts (is_true v) (all_true ws) (ap all_true (sym same) ∙ all) in
    (ap (λ b. if b then None else Some (model_fault at NotTrue)) parts.0, ws, refl, parts.1)
first_value at (Ok v) (Err o) vs h all = cc
first_value at (Err o) b vs h all = cc

-- each has the value true
each_true : (t : TableView) (i : Interpretation) (es : List Expression) (vs : List Value) → bounded_values i [] (as_terms (clause_at t (terms_of es))) ≡ Ok vs → all_true vs ≡ true → first_untrue_at t i es ≡ None
unfolding bounded_value bounded_values first_untrue_at
each_true t i [] vs h all = refl
each_true t i (e ∷ es) vs h all =
    let p = first_value e.at (bounded_value i [] (term_at t e.term)) (bounded_values i [] (as_terms (clause_at t (terms_of es)))) vs h all in
    ap (λ a. first_of a (first_untrue_at t i es)) p.0 ∙ each_true t i es p.1 p.2 p.3

-- the values of a conjunction
its_values : (i : Interpretation) (b : Result (List Value) Overflow) (v : Value) → (b >>= λ vs. bounded_head i And vs) ≡ Ok v → is_true v ≡ true → (vs : List Value) × (b ≡ Ok vs) × (all_true vs ≡ true)
unfolding ◌>>=◌
its_values i (Ok vs) v h all = let same : truth (all_true vs) ≡ v = cc in (vs, refl, ap is_true same ∙ all)
its_values i (Err o) v h all = cc

pub conjunction_true : (t : TableView) (i : Interpretation) (es : List Expression) → IsTrueAt i (conjunction_at t (terms_of es)) → first_untrue_at t i es ≡ None
unfolding bounded_value bounded_values
conjunction_true t i es h =
    let p = its_values i (bounded_values i [] (as_terms (clause_at t (terms_of es)))) h.0 h.1 h.2 in
    each_true t i es p.0 p.1 p.2

-- tables have what they had where terms alone came
module _ (old new : TableView) (keeps : KeepsTable old new) (interp : Interp) where
  pub tables_kept : HasTables old interp → HasTables new interp
  tables_kept h = record {
    count = subst (λ (d : SymbolsView). length d.symbols ≤ length interp.tables.items) (sym keeps.declared) h.count;
    named = subst (λ (d : SymbolsView). All (IsTableNamed d.sorts) interp.tables.items) (sym keeps.declared) h.named;
  }

  pub represents_kept : (i : Interpretation) → HasSymbolTables old interp i → HasSymbolTables new interp i
  represents_kept i h = subst (λ (d : SymbolsView). (s : SymbolId) → IsSymbol d.symbols s → i.table (symbol_at d.symbols s).name ≡ slice_index_or (map (table_meant d.sorts) interp.tables.items) s.0 no_table) (sym keeps.declared) h

-- what is shown of a truth shows what it implies
pub shown_by : (r : Result Bool NoMemory) (P Q : Type 0) → IfOk r (λ all. all ≡ true → P) → (P → Q) → IfOk r (λ all. all ≡ true → Q)
shown_by (Ok all) P Q h f = λ e. f (h e)
shown_by (Err e) P Q h f = tt
