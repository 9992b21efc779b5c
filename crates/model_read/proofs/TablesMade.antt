-- The tables of symbols, by the definitions of a model.
use Rattle.std.proofs.Common.{◌≡◌, ◌≢◌, ◌==◌, ◌<◌, ◌≤◌, ◌+◌, ◌⊎◌, inl, inr, ℕ, zero, suc, Bool, true, false, cond, Option, Some, None, List, [], ◌∷◌, ◌++◌, length, map, get_or, refl, sym, ap, ◌∙◌, subst, arith}
use Rattle.std.specs.Prelude.{◌||◌, slice_set}
use Rattle.std.specs.Bool.{Decides}
use Rattle.std.specs.Str.{bytes_eq}
use Rattle.std.proofs.Math.Seq.{get_or-append_seam}
use Rattle.std.proofs.lemmas.Bool.{false≢true, cases_lt}
use Rattle.std.proofs.lemmas.Bool.Decides.{Decides-eqb}
use Rattle.std.proofs.lemmas.Slice.Eq.{bytes_eq-Decides}
use Rattle.std.proofs.lemmas.List.{length-map, length-set, map-set, map_push, get_or_append_left, get_or-map, get_or-set_same, get_or-set_other}
use Rattle.std.proofs.lemmas.List.Elements.{All-set}
use Rattle.spec_text.specs.Bytes.{Name, among}
use Rattle.spec_sorts.specs.Terms.{Symbol}
use Rattle.spec_sorts.specs.Values.{Value, Table}
use Rattle.spec_sorts.specs.Signatures.{Signature, known_as}
use Rattle.spec_model_files.specs.Definitions.{DefinedSymbol, declared_symbol, table_among, usual_table, table_or, interpretation_of}
use Rattle.term_core.specs.declared.ids.SymbolId.{SymbolId}
use Rattle.term_core.specs.NameLists.{HaveNoTwice}
use Rattle.term_core.specs.Symbols.{no_symbol, names_of, symbol_at, IsSymbol}
use Rattle.term_core.specs.Tables.{TableView}
use Rattle.term_walks.specs.declared.values.ValueRow.{ValueRow as CodeRow}
use Rattle.term_walks.specs.declared.values.Table.{Table as CodeTable}
use Rattle.term_walks.specs.Valuations.{no_table, row_meant, table_meant, IsTableNamed}
use Rattle.model_read.specs.Definitions.{defined_names, AreTables}

-- the usual table has no rows
pub usual_is : (sorts : List Name) (o : Option Symbol) (rows : List CodeRow) (v : Value) → rows ≡ [] → v ≡ (usual_table o).default → (let t : Table = record { rows = map (row_meant sorts) rows; default = v } in t) ≡ usual_table o
usual_is sorts (Some f) rows v e h = λ i. record { rows = map (row_meant sorts) (e i); default = h i }
usual_is sorts None rows v e h = λ i. record { rows = map (row_meant sorts) (e i); default = h i }

-- one table more
pub tables_more : (f : ℕ → Table) (n : ℕ) (xs : List Table) (x : Table) → length xs ≡ n → ((k : ℕ) → k < n → get_or xs k no_table ≡ f k) → x ≡ f n → (k : ℕ) → k < n + 1 → get_or (xs ++ x ∷ []) k no_table ≡ f k
tables_more f n xs x long each is k lt = at (cases_lt k n)
  where
    at : (k < n) ⊎ (n ≤ k) → get_or (xs ++ x ∷ []) k no_table ≡ f k
    at (inl early) = get_or_append_left xs (x ∷ []) no_table k (omega (arith, early, long)) ∙ each k early
    at (inr late) =
        let same : k ≡ n = omega (arith, late, lt) in
        subst (λ (m : ℕ). get_or (xs ++ x ∷ []) m no_table ≡ f m) (sym same) (subst (λ (m : ℕ). get_or (xs ++ x ∷ []) m no_table ≡ x) long (get_or-append_seam xs x [] no_table) ∙ is)

-- one mark more that is none
pub unmarked_more : (xs : List Bool) → ((k : ℕ) → get_or xs k false ≡ false) → (k : ℕ) → get_or (xs ++ false ∷ []) k false ≡ false
unmarked_more [] h zero = refl
unmarked_more [] h (suc k) = h k
unmarked_more (x ∷ xs) h zero = h zero
unmarked_more (x ∷ xs) h (suc k) = unmarked_more xs (λ j. h (suc j)) k

-- no definition gives a table, by its names
pub none_among : (ds : List DefinedSymbol) (n : Name) → among (defined_names ds) n ≡ false → table_among ds n ≡ None
none_among [] n e = refl
none_among (d ∷ ds) n e = go (bytes_eq d.symbol.name n) e (none_among ds n)
  where
    go : (b : Bool) → (b || among (defined_names ds) n) ≡ false → (among (defined_names ds) n ≡ false → table_among ds n ≡ None) → cond b (Some d.table) (table_among ds n) ≡ None
    go true e h = absurd (false≢true (sym e))
    go false e h = h e

-- the first of two tables
abbrev among_or : Option Table → Option Table → Option Table
among_or (Some t) o = Some t
among_or None o = o

-- with a definition more, its own name has its table, and others have theirs
table_put : (ds : List DefinedSymbol) (d : DefinedSymbol) (n : Name) → table_among (ds ++ d ∷ []) n ≡ among_or (table_among ds n) (cond (bytes_eq d.symbol.name n) (Some d.table) None)
table_put [] d n = refl
table_put (c ∷ ds) d n = go (bytes_eq c.symbol.name n) (table_put ds d n)
  where
    go : (b : Bool) → table_among (ds ++ d ∷ []) n ≡ among_or (table_among ds n) (cond (bytes_eq d.symbol.name n) (Some d.table) None)
        → cond b (Some c.table) (table_among (ds ++ d ∷ []) n) ≡ among_or (cond b (Some c.table) (table_among ds n)) (cond (bytes_eq d.symbol.name n) (Some d.table) None)
    go true h = refl
    go false h = h

among_put : (ns : List Name) (m n : Name) → among (ns ++ m ∷ []) n ≡ (among ns n || bytes_eq m n)
among_put [] m n = go (bytes_eq m n)
  where
    go : (b : Bool) → (b || false) ≡ b
    go true = refl
    go false = refl
among_put (k ∷ ns) m n = go (bytes_eq k n) (among_put ns m n)
  where
    go : (b : Bool) → among (ns ++ m ∷ []) n ≡ (among ns n || bytes_eq m n) → (b || among (ns ++ m ∷ []) n) ≡ ((b || among ns n) || bytes_eq m n)
    go true h = refl
    go false h = h

or_false : (b : Bool) → (b || false) ≡ b
or_false true = refl
or_false false = refl

-- different symbols have different names
apart_names : (symbols : List Symbol) (j k : ℕ) → HaveNoTwice (names_of symbols) → j < length symbols → k < length symbols → (get_or symbols j no_symbol).name ≡ (get_or symbols k no_symbol).name → j ≡ k
apart_names symbols j k apart j_in k_in e =
    let name : Symbol → List ℕ = λ s. s.name in
    let long = length-map symbols name in
    apart j k (omega (arith, long, j_in)) (omega (arith, long, k_in)) (get_or-map name symbols j no_symbol [] j_in ∙ e ∙ sym (get_or-map name symbols k no_symbol [] k_in))

module _ (t : TableView) (g : Signature) (apart : HaveNoTwice (names_of t.symbols)) (ds : List DefinedSymbol) (tables : List CodeTable) (marks : List Bool) (h : AreTables t g ds tables marks)
    (id : SymbolId) (id_in : IsSymbol t.symbols id) (made : CodeTable) (named : IsTableNamed t.sorts made) (new : among (defined_names ds) (symbol_at t.symbols id).name ≡ false) where
  abbrev d : DefinedSymbol
  d = record { symbol = symbol_at t.symbols id; table = table_meant t.sorts made }

  -- the name of the definition
  own_table : table_among (ds ++ d ∷ []) (symbol_at t.symbols id).name ≡ Some (table_meant t.sorts made)
  own_table =
      table_put ds d (symbol_at t.symbols id).name
      ∙ ap (λ o. among_or o (cond (bytes_eq (symbol_at t.symbols id).name (symbol_at t.symbols id).name) (Some (table_meant t.sorts made)) None)) (none_among ds (symbol_at t.symbols id).name new)
      ∙ ap (λ b. cond b (Some (table_meant t.sorts made)) None) ((bytes_eq-Decides (symbol_at t.symbols id).name (symbol_at t.symbols id).name).1 refl)

  -- other names
  other : (k : ℕ) → k < length t.symbols → k ≢ id.0 → bytes_eq (symbol_at t.symbols id).name (get_or t.symbols k no_symbol).name ≡ false
  other k k_in differ = go (bytes_eq (symbol_at t.symbols id).name (get_or t.symbols k no_symbol).name) (bytes_eq-Decides (symbol_at t.symbols id).name (get_or t.symbols k no_symbol).name)
    where
      go : (b : Bool) → Decides b ((symbol_at t.symbols id).name ≡ (get_or t.symbols k no_symbol).name) → b ≡ false
      go false e = refl
      go true e = absurd (differ (apart_names t.symbols k id.0 apart k_in id_in (sym (e.0 refl))))

  other_table : (n : Name) → bytes_eq (symbol_at t.symbols id).name n ≡ false → table_among (ds ++ d ∷ []) n ≡ table_among ds n
  other_table n e = table_put ds d n ∙ ap (λ b. among_or (table_among ds n) (cond b (Some (table_meant t.sorts made)) None)) e ∙ go (table_among ds n)
    where
      go : (o : Option Table) → among_or o None ≡ o
      go (Some x) = refl
      go None = refl

  names_put : defined_names (ds ++ d ∷ []) ≡ defined_names ds ++ (symbol_at t.symbols id).name ∷ []
  names_put = map_push (λ (x : DefinedSymbol). x.symbol.name) ds d

  -- the tables with that of the definition
  pub tables_put : AreTables t g (ds ++ d ∷ []) (slice_set tables id.0 made) (slice_set marks id.0 true)
  tables_put = record {
    count = length-set tables id.0 made ∙ h.count;
    marked = length-set marks id.0 true ∙ h.marked;
    named = All-set (IsTableNamed t.sorts) tables id.0 made named h.named;
    each = λ s s_in. ap (λ (xs : List Table). get_or xs s.0 no_table) (map-set (table_meant t.sorts) tables id.0 made) ∙ at s.0 s_in (s.0 == id.0) (Decides-eqb s.0 id.0);
    each_marked = λ s s_in. mark s.0 s_in (s.0 == id.0) (Decides-eqb s.0 id.0);
  }
    where
      long : length (map (table_meant t.sorts) tables) ≡ length t.symbols
      long = length-map tables (table_meant t.sorts) ∙ h.count

      at : (k : ℕ) → k < length t.symbols → (b : Bool) → Decides b (k ≡ id.0) → get_or (slice_set (map (table_meant t.sorts) tables) id.0 (table_meant t.sorts made)) k no_table ≡ (interpretation_of g (ds ++ d ∷ [])).table (get_or t.symbols k no_symbol).name
      at k k_in true e =
          let same : k ≡ id.0 = e.0 refl in
          subst (λ (m : ℕ). get_or (slice_set (map (table_meant t.sorts) tables) id.0 (table_meant t.sorts made)) m no_table ≡ (interpretation_of g (ds ++ d ∷ [])).table (get_or t.symbols m no_symbol).name) (sym same)
          (get_or-set_same (map (table_meant t.sorts) tables) id.0 (table_meant t.sorts made) no_table (omega (arith, long, id_in))
          ∙ sym (ap (λ o. table_or o (declared_symbol (known_as g (symbol_at t.symbols id).name))) own_table))
      at k k_in false e =
          let differ : k ≢ id.0 = λ is. false≢true (e.1 is) in
          let n = (get_or t.symbols k no_symbol).name in
          get_or-set_other (map (table_meant t.sorts) tables) id.0 k (table_meant t.sorts made) no_table differ
          ∙ h.each (record { 0 = k }) k_in
          ∙ sym (ap (λ o. table_or o (declared_symbol (known_as g n))) (other_table n (other k k_in differ)))

      mark : (k : ℕ) → k < length t.symbols → (b : Bool) → Decides b (k ≡ id.0) → get_or (slice_set marks id.0 true) k false ≡ among (defined_names (ds ++ d ∷ [])) (get_or t.symbols k no_symbol).name
      mark k k_in true e =
          let same : k ≡ id.0 = e.0 refl in
          subst (λ (m : ℕ). get_or (slice_set marks id.0 true) m false ≡ among (defined_names (ds ++ d ∷ [])) (get_or t.symbols m no_symbol).name) (sym same)
          (get_or-set_same marks id.0 true false (omega (arith, h.marked, id_in))
          ∙ sym (ap (λ ns. among ns (symbol_at t.symbols id).name) names_put ∙ among_put (defined_names ds) (symbol_at t.symbols id).name (symbol_at t.symbols id).name
          ∙ (λ i. new i || (bytes_eq-Decides (symbol_at t.symbols id).name (symbol_at t.symbols id).name).1 refl i)))
      mark k k_in false e =
          let differ : k ≢ id.0 = λ is. false≢true (e.1 is) in
          let n = (get_or t.symbols k no_symbol).name in
          get_or-set_other marks id.0 k true false differ
          ∙ h.each_marked (record { 0 = k }) k_in
          ∙ sym (ap (λ ns. among ns n) names_put ∙ among_put (defined_names ds) (symbol_at t.symbols id).name n ∙ ap (λ b. among (defined_names ds) n || b) (other k k_in differ) ∙ or_false (among (defined_names ds) n))
