-- The tables of symbols, term after term.
use Rattle.std.proofs.Common.{◌≡◌, ◌≢◌, ◌==◌, ℕ, ◌+◌, ◌<◌, ◌≤◌, ◌⊎◌, inl, inr, Bool, true, false, List, [], ◌∷◌, ◌++◌, length, get_or, map, All, Contains, refl, sym, ap, ◌∙◌, subst, arith}
use Rattle.std.specs.Prelude.{None, slice_set}
use Rattle.std.specs.Bool.{Decides}
use Rattle.std.proofs.Math.Seq.{get_or-append_seam}
use Rattle.std.proofs.lemmas.Bool.{false≢true, cases_lt}
use Rattle.std.proofs.lemmas.Bool.Decides.{Decides-eqb}
use Rattle.std.proofs.lemmas.List.{length-append, map-append, get_or_append_left, get_or-map, length-map, length-set, get_or-set_same, get_or-set_other}
use Rattle.std.proofs.lemmas.List.Elements.{All-push, All-contains}
use Rattle.spec_text.proofs.Members.{first, later, from_image, each_pushed}
use Rattle.spec_sorts.specs.Terms.{Symbol, Apply, Term, Terms, app}
use Rattle.spec_sorts.specs.Values.{Table}
use Rattle.spec_valuations.specs.Tables.{Valuation, arguments_at, table_of}
use Rattle.term_core.specs.declared.ids.TermId.{TermId}
use Rattle.term_core.specs.declared.nodes.Head.{Head as NodeHead}
use Rattle.term_core.specs.declared.nodes.Head.TheVariants as heads
use Rattle.term_core.specs.NameLists.{HaveNoTwice}
use Rattle.term_core.specs.Symbols.{no_symbol, names_of}
use Rattle.term_core.specs.Tables.{TableView, term_at, IsIn, clause_at, head_meant, AreDifferent}
use Rattle.term_walks.specs.declared.values.Value.{Value as CodeValue}
use Rattle.term_walks.specs.declared.values.Table.{Table as CodeTable}
use Rattle.term_walks.specs.Valuations.{value_meant, no_table, table_meant, IsTableNamed}
use Rattle.search_model.specs.Models.{symbol_in}
use Rattle.search_model.specs.Made.{value_at_id, IsValueOf, HasValues, meant, blank, AreBlank, AreTables, IsApplied}
use Rattle.search_model.proofs.SymbolRows.{table_kept, arguments_other}

-- one table more
pub blank_more : (t : TableView) (n : ℕ) (tables : List CodeTable) (one : CodeTable) → AreBlank t n tables → table_meant t.sorts one ≡ blank (symbol_in t n) → IsTableNamed t.sorts one
    → AreBlank t (n + 1) (tables ++ one ∷ [])
blank_more t n tables one h means name = record {
  count = omega (arith, length-append tables (one ∷ []), h.count);
  named = All-push (IsTableNamed t.sorts) tables one h.named name;
  each = λ k lt. ap (λ (xs : List Table). get_or xs k no_table) (map-append (table_meant t.sorts) tables (one ∷ [])) ∙ at k (cases_lt k n) lt;
}
  where
    long : length (meant t.sorts tables) ≡ n
    long = length-map tables (table_meant t.sorts) ∙ h.count

    at : (k : ℕ) → (k < n) ⊎ (n ≤ k) → k < n + 1 → get_or (meant t.sorts tables ++ table_meant t.sorts one ∷ []) k no_table ≡ blank (symbol_in t k)
    at k (inl early) lt = get_or_append_left (meant t.sorts tables) (table_meant t.sorts one ∷ []) no_table k (omega (arith, early, long)) ∙ h.each k early
    at k (inr late) lt =
        let is : k ≡ n = omega (arith, late, lt) in
        subst (λ (m : ℕ). get_or (meant t.sorts tables ++ table_meant t.sorts one ∷ []) m no_table ≡ blank (symbol_in t m)) (sym is)
        (subst (λ (m : ℕ). get_or (meant t.sorts tables ++ table_meant t.sorts one ∷ []) m no_table ≡ table_meant t.sorts one) long (get_or-append_seam (meant t.sorts tables) (table_meant t.sorts one) [] no_table) ∙ means)

-- a head that is no symbol gives no row
pub other_arguments : (t : TableView) (h : NodeHead) (ts : Terms) (s : Symbol) → IsApplied h None → arguments_at s (app (head_meant t h) ts) ≡ None
other_arguments t (heads.Apply k) ts s differs = absurd (differs k refl)
other_arguments t _ ts s differs = refl

-- different numbers are of different symbols
symbols_apart : (symbols : List Symbol) (j k : ℕ) → HaveNoTwice (names_of symbols) → j < length symbols → k < length symbols → get_or symbols j no_symbol ≡ get_or symbols k no_symbol → j ≡ k
symbols_apart symbols j k apart j_in k_in e =
    let name : Symbol → List ℕ = λ s. s.name in
    let long = length-map symbols name in
    apart j k (omega (arith, long, j_in)) (omega (arith, long, k_in)) (get_or-map name symbols j no_symbol [] j_in ∙ ap name e ∙ sym (get_or-map name symbols k no_symbol [] k_in))

module _ (t : TableView) (v : Valuation) (done : List Term) (u : Term) (u_in : Contains t.terms u) (tables : List CodeTable) (h : AreTables t v done tables) where
  listed_more : (x : Term) → Contains (done ++ u ∷ []) x → Contains t.terms x
  listed_more = each_pushed (Contains t.terms) done u h.listed u_in

  -- a term that no symbol heads changes nothing
  pub tables_kept : ((s : Symbol) → arguments_at s u ≡ None) → AreTables t v (done ++ u ∷ []) tables
  tables_kept other = record {
    listed = listed_more;
    count = h.count;
    named = h.named;
    each = λ k lt. h.each k lt ∙ table_kept v (symbol_in t k) done u (other (symbol_in t k));
  }

  -- one that a symbol heads changes its table alone
  pub tables_put : (k : ℕ) (ts : Terms) (new : List CodeTable) (one : Table) → HaveNoTwice (names_of t.symbols) → k < length t.symbols → u ≡ app (Apply (symbol_in t k)) ts
      → meant t.sorts new ≡ slice_set (meant t.sorts tables) k one → one ≡ table_of v (symbol_in t k) (done ++ u ∷ []) → All (IsTableNamed t.sorts) new → AreTables t v (done ++ u ∷ []) new
  tables_put k ts new one apart k_in u_is new_is one_is named = record {
    listed = listed_more;
    count = sym (length-map new (table_meant t.sorts)) ∙ ap (λ (xs : List Table). length xs) new_is ∙ length-set (meant t.sorts tables) k one ∙ long;
    named = named;
    each = λ j lt. ap (λ (xs : List Table). get_or xs j no_table) new_is ∙ at j lt (j == k) (Decides-eqb j k);
  }
    where
      long : length (meant t.sorts tables) ≡ length t.symbols
      long = length-map tables (table_meant t.sorts) ∙ h.count

      at : (j : ℕ) → j < length t.symbols → (b : Bool) → Decides b (j ≡ k) → get_or (slice_set (meant t.sorts tables) k one) j no_table ≡ table_of v (symbol_in t j) (done ++ u ∷ [])
      at j lt true d =
          let is : j ≡ k = d.0 refl in
          subst (λ (m : ℕ). get_or (slice_set (meant t.sorts tables) k one) m no_table ≡ table_of v (symbol_in t m) (done ++ u ∷ [])) (sym is)
          (get_or-set_same (meant t.sorts tables) k one no_table (omega (arith, long, k_in)) ∙ one_is)
      at j lt false d =
          let other : j ≢ k = λ e. false≢true (d.1 e) in
          let heads_none : arguments_at (symbol_in t j) u ≡ None =
          ap (arguments_at (symbol_in t j)) u_is ∙ arguments_other (symbol_in t j) (symbol_in t k) ts (λ e. other (symbols_apart t.symbols j k apart lt k_in (sym e))) in
          get_or-set_other (meant t.sorts tables) k j one no_table other ∙ h.each j lt ∙ table_kept v (symbol_in t j) done u heads_none

module _ (t : TableView) (v : Valuation) (ids : List TermId) (vs : List CodeValue) (h : HasValues t v ids vs) (different : AreDifferent t.terms) where
  -- a term of the table that is listed has its value by its number
  pub valued : (id : TermId) → IsIn t id → Contains (clause_at t ids) (term_at t id) → IsValueOf t v vs id
  valued id id_in i =
      let r = from_image (term_at t) ids (term_at t id) i in
      let number : ℕ → TermId = λ n. record { 0 = n } in
      let same : r.0 ≡ id = ap number (different r.0.0 id.0 (All-contains (IsIn t) ids r.0 h.there r.1) id_in r.2) in
      subst (IsValueOf t v vs) same (All-contains (IsValueOf t v vs) ids r.0 h.each r.1)

  -- so the values of arguments are theirs
  pub arguments_valued : (xs : List TermId) → ((x : TermId) → Contains xs x → IsValueOf t v vs x) → map (value_meant t.sorts) (map (value_at_id vs) xs) ≡ map v (clause_at t xs)
  arguments_valued [] each = refl
  arguments_valued (x ∷ xs) each = λ i. (each x (first x xs)).means i ∷ arguments_valued xs (λ y j. each y (later x xs y j)) i
