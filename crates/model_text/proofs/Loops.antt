-- What is left to be written, one piece after the other.
use Rattle.std.proofs.Common.{◌≡◌, ℕ, suc, ◌+◌, ◌<◌, ◌≤◌, List, [], ◌∷◌, ◌++◌, length, drop, map, flat_map, get_or, refl, sym, ap, ◌∙◌, subst, arith}
use Rattle.std.proofs.lemmas.List.{drop_more, drop_all, get_or-map, length-map}
use Rattle.spec_text.specs.Bytes.{Name}
use Rattle.spec_text.specs.Printed.{printed}
use Rattle.spec_sorts.specs.Terms.{Symbol}
use Rattle.spec_sorts.specs.Values.{Table, Interpretation}
use Rattle.spec_models.specs.Models.{equality_tree, body_front, body_back, definition_tree, definition_line, indented, model_text}
use Rattle.term_core.specs.declared.sorts.Sort.{Sort as TableSort}
use Rattle.term_core.specs.Symbols.{sort_meant, sorts_meant, no_symbol, symbol_at}
use Rattle.term_core.specs.Tables.{TableView}
use Rattle.term_walks.specs.declared.values.Value.{Value as CodeValue}
use Rattle.term_walks.specs.declared.values.ValueRow.{ValueRow as CodeRow}
use Rattle.term_walks.specs.declared.values.Table.{Table as CodeTable}
use Rattle.term_walks.specs.declared.values.Interp.{Interp}
use Rattle.term_walks.specs.Valuations.{value_meant, values_meant, row_meant, table_meant, tables_meant, no_table, HasSymbolTables, HasTables}
use Rattle.world_io.specs.Writing.{SinkView}
use Rattle.world_io.proofs.Chains.{IsSending, joined, split}
use Rattle.model_text.specs.Lines.{gap, parameter_text, parameters_listed, equalities_listed, row_front, lines_by, text_by}
use Rattle.model_text.proofs.Texts.{front_more}

-- the number after a number
next_number : (k : ℕ) → suc k ≡ k + 1
next_number k = omega arith

-- lists of what items mean, from one on
meant_more : {X Y : Type 0} (f : X → Y) (xs : List X) (k : ℕ) (d : X) → k < length xs → drop k (map f xs) ≡ f (get_or xs k d) ∷ drop (k + 1) (map f xs)
meant_more f xs k d l =
    drop_more (map f xs) k (f d) (omega (arith, l, length-map xs f))
    ∙ ap (λ x. x ∷ drop (k + 1) (map f xs)) (get_or-map f xs k d (f d) l)

module _ {whole : List ℕ} {a b : SinkView} where
  -- one parameter more
  pub next_parameter : (sorts : List Name) (ss : List TableSort) (k : ℕ) (d : TableSort) → k < length ss → IsSending whole (parameters_listed k (drop k (sorts_meant sorts ss)) ∷ []) a b
      → IsSending whole ((gap k ++ parameter_text k (sort_meant sorts (get_or ss k d))) ∷ parameters_listed (k + 1) (drop (k + 1) (sorts_meant sorts ss)) ∷ []) a b
  next_parameter sorts ss k d l =
      split _ _ _ (ap (parameters_listed k) (meant_more (sort_meant sorts) ss k d l) ∙ ap (λ n. (gap k ++ parameter_text k (sort_meant sorts (get_or ss k d))) ++ parameters_listed n (drop (k + 1) (sorts_meant sorts ss))) (next_number k))

  -- one equality more
  pub next_equality : (sorts : List Name) (vs : List CodeValue) (k : ℕ) (d v : CodeValue) → k < length vs → v ≡ get_or vs k d → IsSending whole (equalities_listed k (drop k (values_meant sorts vs)) ∷ []) a b
      → IsSending whole ((32 ∷ printed (equality_tree k (value_meant sorts v))) ∷ equalities_listed (k + 1) (drop (k + 1) (values_meant sorts vs)) ∷ []) a b
  next_equality sorts vs k d v l is =
      let piece = λ (x : CodeValue). 32 ∷ printed (equality_tree k (value_meant sorts x)) in
      split _ _ _
      (ap (equalities_listed k) (meant_more (value_meant sorts) vs k d l)
      ∙ ap (λ n. piece (get_or vs k d) ++ equalities_listed n (drop (k + 1) (values_meant sorts vs))) (next_number k)
      ∙ ap (λ x. piece x ++ equalities_listed (k + 1) (drop (k + 1) (values_meant sorts vs))) (sym is))

  -- one row more, up to where the next one begins
  pub next_front : (sorts : List Name) (rs : List CodeRow) (k : ℕ) (d r : CodeRow) → k < length rs → r ≡ get_or rs k d → IsSending whole (body_front (drop k (map (row_meant sorts) rs)) ∷ []) a b
      → IsSending whole (row_front (row_meant sorts r) ∷ body_front (drop (k + 1) (map (row_meant sorts) rs)) ∷ []) a b
  next_front sorts rs k d r l is =
      split _ _ _
      (ap body_front (meant_more (row_meant sorts) rs k d l)
      ∙ front_more (row_meant sorts (get_or rs k d)) (drop (k + 1) (map (row_meant sorts) rs))
      ∙ ap (λ x. row_front (row_meant sorts x) ++ body_front (drop (k + 1) (map (row_meant sorts) rs))) (sym is))

  -- one row less to be closed
  pub next_back : (sorts : List Name) (rs : List CodeRow) (k : ℕ) (d : CodeRow) → k < length rs → IsSending whole (body_back (drop k (map (row_meant sorts) rs)) ∷ []) a b
      → IsSending whole ((41 ∷ []) ∷ body_back (drop (k + 1) (map (row_meant sorts) rs)) ∷ []) a b
  next_back sorts rs k d l = split _ _ _ (ap body_back (meant_more (row_meant sorts) rs k d l))

  -- one line more
  pub next_line : (sorts : List Name) (ss : List Symbol) (interp : Interp) (k : ℕ) (d t : CodeTable) → k < length ss → k < length interp.tables.items → t ≡ get_or interp.tables.items k d
      → IsSending whole (lines_by (drop k ss) (drop k (tables_meant sorts interp))) a b
      → IsSending whole (indented (definition_tree (symbol_at ss (record { 0 = k })) (table_meant sorts t)) ∷ lines_by (drop (k + 1) ss) (drop (k + 1) (tables_meant sorts interp))) a b
  next_line sorts ss interp k d t l m e s =
      let lines = λ (xs : List Symbol). lines_by xs (drop k (tables_meant sorts interp)) in
      let here = ap lines (drop_more ss k no_symbol l) ∙ ap (lines_by (get_or ss k no_symbol ∷ drop (k + 1) ss)) (meant_more (table_meant sorts) interp.tables.items k d m) ∙ ap (λ (x : CodeTable). indented (definition_tree (get_or ss k no_symbol) (table_meant sorts x)) ∷ lines_by (drop (k + 1) ss) (drop (k + 1) (tables_meant sorts interp))) (sym e) in
      subst (λ rest. IsSending whole rest a b) here s

  -- no line is to come after the last symbol
  pub no_line : (ss : List Symbol) (ts : List Table) (k : ℕ) → length ss ≤ k → IsSending whole (lines_by (drop k ss) (drop k ts)) a b → IsSending whole [] a b
  no_line ss ts k l s = subst (λ rest. IsSending whole rest a b) (ap (λ (xs : List Symbol). lines_by xs (drop k ts)) (drop_all k ss l)) s

lines_meant : (i : Interpretation) (ss : List Symbol) (ts : List Table) → length ss ≤ length ts → ((k : ℕ) → k < length ss → i.table (get_or ss k no_symbol).name ≡ get_or ts k no_table) → joined (lines_by ss ts) ≡ flat_map (definition_line i) ss
lines_meant i [] ts l h = refl
lines_meant i (s ∷ ss) [] l h = absurd (omega (arith, l))
lines_meant i (s ∷ ss) (t ∷ ts) l h =
    ap (λ (x : Table). indented (definition_tree s x) ++ joined (lines_by ss ts)) (sym (h 0 (omega arith)))
    ∙ ap (λ x. definition_line i s ++ x) (lines_meant i ss ts (omega (arith, l)) (λ k m. h (suc k) (omega (arith, m))))

-- under an interpretation that the tables represent, their text is the model's
pub text_meant : (t : TableView) (interp : Interp) (i : Interpretation) → HasTables t interp → HasSymbolTables t interp i → text_by t.symbols (tables_meant t.sorts interp) ≡ model_text i t.symbols
text_meant t interp i there represents =
    ap (λ x. 40 ∷ 10 ∷ x ++ 41 ∷ 10 ∷ []) (lines_meant i t.symbols (tables_meant t.sorts interp) (omega (arith, there.count, length-map interp.tables.items (table_meant t.sorts))) (λ k l. represents (record { 0 = k }) l))
