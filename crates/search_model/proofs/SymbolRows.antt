-- The table of a symbol by the values of terms, with one term more.
use Rattle.std.proofs.Common.{◌≡◌, Bool, true, false, cond, List, [], ◌∷◌, ◌++◌, map, Contains, refl, sym, ap, ◌∙◌, subst, append_assoc}
use Rattle.std.specs.Prelude.{Option, Some, None}
use Rattle.std.proofs.lemmas.Bool.{false≢true}
use Rattle.std.proofs.lemmas.Option.{none-some}
use Rattle.std.proofs.lemmas.List.{append-nil}
use Rattle.spec_text.proofs.Members.{first, later}
use Rattle.spec_sorts.specs.Terms.{Sort, Symbol, Apply, Term, Terms, app, nil, cons, list_of, constant_term, same_symbol, same_sorts, sort_of}
use Rattle.spec_sorts.specs.Values.{Value, TableRow, Table, first_fit, same_values}
use Rattle.spec_sorts.proofs.SameTerms.{one_symbol, symbol_itself}
use Rattle.spec_valuations.specs.Tables.{Valuation, values_by, default_value, arguments_at, rows_at, rows_of, table_by, table_of}
use Rattle.search_model.specs.Made.{with_table_row, with_default}

-- the arguments that are given, where some are
abbrev given : Option Terms → Terms
given None = nil
given (Some xs) = xs

-- what arguments a term has that a symbol heads
pub arguments_back : (s : Symbol) (t : Term) (us : Terms) → arguments_at s t ≡ Some us → t ≡ app (Apply s) us
arguments_back s (app (Apply f) ts) us e = go (same_symbol f s) refl e
  where
    go : (b : Bool) → same_symbol f s ≡ b → cond b (Some ts) None ≡ Some us → app (Apply f) ts ≡ app (Apply s) us
    go true same h = λ i. app (Apply (one_symbol f s same i)) (given (h i))
    go false same h = absurd (none-some us h)
arguments_back s (app h ts) us e = absurd (none-some us e)

-- another symbol heads none of a symbol's terms
pub arguments_other : (s f : Symbol) (ts : Terms) → (f ≡ s → ⊥) → arguments_at s (app (Apply f) ts) ≡ None
arguments_other s f ts other = go (same_symbol f s) refl
  where
    go : (b : Bool) → same_symbol f s ≡ b → cond b (Some ts) None ≡ None
    go true same = absurd (other (one_symbol f s same))
    go false same = refl

pub arguments_own : (s : Symbol) (ts : Terms) → arguments_at s (app (Apply s) ts) ≡ Some ts
arguments_own s ts = ap (λ b. cond b (Some ts) None) (symbol_itself s)

-- without a sort there are no arguments
pub no_arguments : (s : Symbol) (ts : Terms) → s.parameters ≡ [] → same_sorts s.parameters (map sort_of (list_of ts)) ≡ true → ts ≡ nil
no_arguments s nil bare takes = refl
no_arguments s (cons t ts) bare takes = absurd (false≢true (sym (ap (λ ps. same_sorts ps (sort_of t ∷ map sort_of (list_of ts))) bare) ∙ takes))

module _ (v : Valuation) (s : Symbol) where
  -- the rows with one term more
  rows_more : (ts : List Term) (u : Term) → rows_of v s (ts ++ u ∷ []) ≡ rows_of v s ts ++ rows_at v (arguments_at s u) (v u)
  rows_more [] u = append-nil (rows_at v (arguments_at s u) (v u))
  rows_more (t ∷ ts) u = ap (λ rs. rows_at v (arguments_at s t) (v t) ++ rs) (rows_more ts u) ∙ sym (append_assoc (rows_at v (arguments_at s t) (v t)) (rows_of v s ts) (rows_at v (arguments_at s u) (v u)))

  -- the same rows make the same table
  table_same : (ps : List Sort) (ts us : List Term) → rows_of v s ts ≡ rows_of v s us → table_by v s ps ts ≡ table_by v s ps us
  table_same [] ts us e = ap (λ (rs : List TableRow). let x : Table = record { rows = []; default = first_fit rs (default_value s.result) [] } in x) e
  table_same (p ∷ ps) ts us e = ap (λ (rs : List TableRow). let x : Table = record { rows = rs; default = default_value s.result } in x) e

  module _ (done : List Term) (u : Term) where
    -- a term that the symbol does not head changes nothing
    pub table_kept : arguments_at s u ≡ None → table_of v s done ≡ table_of v s (done ++ u ∷ [])
    table_kept e = table_same s.parameters done (done ++ u ∷ []) (sym (rows_more done u ∙ ap (λ o. rows_of v s done ++ rows_at v o (v u)) e ∙ append-nil (rows_of v s done)))

    -- one with arguments that it heads gives a row
    pub table_with_row : (x : Table) (r : TableRow) (ts : Terms) (p : Sort) (ps : List Sort) → x ≡ table_of v s done → s.parameters ≡ p ∷ ps → u ≡ app (Apply s) ts
        → r ≡ record { arguments = values_by v ts; value = v u } → with_table_row x r ≡ table_of v s (done ++ u ∷ [])
    table_with_row x r ts p ps x_is takes u_is r_is =
        let rows : rows_of v s (done ++ u ∷ []) ≡ rows_of v s done ++ r ∷ [] =
        rows_more done u ∙ ap (λ o. rows_of v s done ++ rows_at v o (v u)) (ap (arguments_at s) u_is ∙ arguments_own s ts) ∙ ap (λ (y : TableRow). rows_of v s done ++ y ∷ []) (sym r_is) in
        ap (λ (y : Table). with_table_row y r) (x_is ∙ ap (λ qs. table_by v s qs done) takes)
        ∙ ap (λ (rs : List TableRow). let y : Table = record { rows = rs; default = default_value s.result } in y) (sym rows) ∙ sym (ap (λ qs. table_by v s qs (done ++ u ∷ [])) takes)

  -- the value of a constant is what its rows give
  constant_fits : (r : TableRow) → r ≡ record { arguments = []; value = v (constant_term s) } → (ts : List Term) → ((us : Terms) → Contains ts (app (Apply s) us) → us ≡ nil) → (d : Value)
      → first_fit (rows_of v s ts ++ r ∷ []) d [] ≡ v (constant_term s)
  constant_fits r r_is [] bare d = ap (λ (y : TableRow). first_fit (y ∷ []) d []) r_is
  constant_fits r r_is (t ∷ ts) bare d = go (arguments_at s t) refl (constant_fits r r_is ts (λ us i. bare us (later t ts (app (Apply s) us) i)) d)
    where
      go : (o : Option Terms) → arguments_at s t ≡ o → first_fit (rows_of v s ts ++ r ∷ []) d [] ≡ v (constant_term s) → first_fit ((rows_at v o (v t) ++ rows_of v s ts) ++ r ∷ []) d [] ≡ v (constant_term s)
      go None e rest = rest
      go (Some us) e rest =
          let is = arguments_back s t us e in
          let none_of : us ≡ nil = bare us (subst (Contains (t ∷ ts)) is (first t ts)) in
          ap (λ (xs : Terms). cond (same_values (values_by v xs) []) (v t) (first_fit (rows_of v s ts ++ r ∷ []) d [])) none_of ∙ ap v (is ∙ ap (app (Apply s)) none_of)

  -- a constant gives the default
  pub table_with_default : (done : List Term) (u : Term) (x : Table) (d : Value) → x ≡ table_of v s done → s.parameters ≡ [] → ((us : Terms) → Contains done (app (Apply s) us) → us ≡ nil)
      → u ≡ constant_term s → d ≡ v u → with_default x d ≡ table_of v s (done ++ u ∷ [])
  table_with_default done u x d x_is takes bare u_is d_is =
      let r : TableRow = record { arguments = []; value = v u } in
      let rows : rows_of v s (done ++ u ∷ []) ≡ rows_of v s done ++ r ∷ [] =
      rows_more done u ∙ ap (λ o. rows_of v s done ++ rows_at v o (v u)) (ap (arguments_at s) u_is ∙ arguments_own s nil) in
      let fits : first_fit (rows_of v s (done ++ u ∷ [])) (default_value s.result) [] ≡ d =
      ap (λ rs. first_fit rs (default_value s.result) []) rows
      ∙ constant_fits r (ap (λ (y : Term). let z : TableRow = record { arguments = []; value = v y } in z) u_is) done bare (default_value s.result) ∙ sym (ap v u_is) ∙ sym d_is in
      ap (λ (y : Table). with_default y d) (x_is ∙ ap (λ qs. table_by v s qs done) takes)
      ∙ ap (λ (e : Value). let y : Table = record { rows = []; default = e } in y) (sym fits) ∙ sym (ap (λ qs. table_by v s qs (done ++ u ∷ [])) takes)
