-- Rows that fit arguments.
use Rattle.std.proofs.Common.{◌≡◌, ◌≢◌, ℕ, ◌+◌, ◌<◌, ◌≤◌, Bool, true, false, ◌&&◌, if◌then◌else◌, List, [], ◌∷◌, length, get_or, drop, map, refl, sym, ap, ◌∙◌, subst, arith}
use Rattle.std.proofs.lemmas.List.{drop_more, get_or-map}
use Rattle.std.proofs.Math.ListN.{drop_of_length-le}
use Rattle.std.specs.Prelude.{Result}
use Rattle.spec_numbers.specs.Bounds.{Overflow}
use Rattle.spec_text.specs.Bytes.{Name}
use Rattle.spec_sorts.specs.Values.{Value, Table, Interpretation, same_value, same_values, first_fit, table_value}
use Rattle.spec_sorts.specs.BoundedValues.{bounded_head}
use Rattle.term_core.specs.declared.nodes.Head.{Head as NodeHead}
use Rattle.term_core.specs.declared.ids.SymbolId.{SymbolId}
use Rattle.term_core.specs.Symbols.{symbol_at, IsSymbol}
use Rattle.term_core.specs.Tables.{TableView, head_meant}
use Rattle.term_walks.specs.declared.values.Value.{Value as CodeValue}
use Rattle.term_walks.specs.declared.values.ValueRow.{ValueRow as CodeRow}
use Rattle.term_walks.specs.declared.values.Table.{Table as CodeTable}
use Rattle.term_walks.specs.declared.values.Interp.{Interp}
use Rattle.term_walks.specs.Valuations.{value_meant, values_meant, row_meant, table_meant, no_table, IsNamed, AreNamed, IsRowNamed, AreRowsNamed, IsTableNamed, HasTables, Tells}

-- lists of different lengths are not the same
pub lengths_differ : (vs ws : List Value) → length vs ≢ length ws → same_values vs ws ≡ false
lengths_differ [] [] h = absurd (h refl)
lengths_differ [] (w ∷ ws) h = refl
lengths_differ (v ∷ vs) [] h = refl
lengths_differ (v ∷ vs) (w ∷ ws) h = ap (λ b. same_value v w && b) (lengths_differ vs ws (λ e. h (omega (arith, e)))) ∙ always (same_value v w)
  where
    always : (b : Bool) → b && false ≡ false
    always true = refl
    always false = refl

-- the first of the rows that are left fits, or another does
pub fit_more : (sorts : List Name) (rs : List CodeRow) (k : ℕ) (r : CodeRow) (b : Bool) (d : Value) (vs : List Value) → k < length rs → r ≡ get_or rs k r → b ≡ same_values (values_meant sorts r.arguments.items) vs
    → first_fit (map (row_meant sorts) (drop k rs)) d vs ≡ (if b then value_meant sorts r.value else first_fit (map (row_meant sorts) (drop (k + 1) rs)) d vs)
fit_more sorts rs k r b d vs lt is e =
    ap (λ l. first_fit (map (row_meant sorts) l) d vs) (drop_more rs k r lt)
    ∙ ap (λ x. first_fit (row_meant sorts x ∷ map (row_meant sorts) (drop (k + 1) rs)) d vs) (sym is)
    ∙ ap (λ x. if x then value_meant sorts r.value else first_fit (map (row_meant sorts) (drop (k + 1) rs)) d vs) (sym e)

pub fit_none : (sorts : List Name) (rs : List CodeRow) (k : ℕ) (d : Value) (vs : List Value) → length rs ≤ k → first_fit (map (row_meant sorts) (drop k rs)) d vs ≡ d
fit_none sorts rs k d vs le = ap (λ l. first_fit (map (row_meant sorts) l) d vs) (drop_of_length-le rs le)

pub row_named : (sorts : List Name) (rs items : List CodeRow) (k : ℕ) (r : CodeRow) → items ≡ rs → k < length items → r ≡ get_or items k r → AreRowsNamed sorts rs → IsRowNamed sorts r
row_named sorts rs items k r same lt is h = subst (IsRowNamed sorts) (sym is) (subst (AreRowsNamed sorts) (sym same) h k r lt)

-- the value at a symbol's table
pub applied : (t : TableView) (interp : Interp) (i : Interpretation) (s : SymbolId) (table : CodeTable) (v : Value) (vs : List Value) → Tells t interp i → IsSymbol t.symbols s → table ≡ get_or interp.tables.items s.0 table
    → v ≡ first_fit (table_meant t.sorts table).rows (table_meant t.sorts table).default vs → v ≡ table_value i (symbol_at t.symbols s).name vs
applied t interp i s table v vs tells there is e =
    let lt : s.0 < length interp.tables.items = omega (arith, there, tells.tables.count) in
    let same : i.table (symbol_at t.symbols s).name ≡ table_meant t.sorts table =
    tells.represents s there ∙ get_or-map (table_meant t.sorts) interp.tables.items s.0 table no_table lt ∙ ap (table_meant t.sorts) (sym is) in
    e ∙ ap (λ (x : Table). first_fit x.rows x.default vs) (sym same)

pub table_named : (t : TableView) (interp : Interp) (s : ℕ) (table : CodeTable) → HasTables t interp → s < length interp.tables.items → table ≡ get_or interp.tables.items s table → IsTableNamed t.sorts table
table_named t interp s table h lt is = subst (IsTableNamed t.sorts) (sym is) (h.named s table lt)

-- what one of the heads gives, the head of the code gives that is this one
pub at_head : (i : Interpretation) (t : TableView) (h g : NodeHead) (vs : List Value) (a : Result Value Overflow) → h ≡ g → a ≡ bounded_head i (head_meant t g) vs → a ≡ bounded_head i (head_meant t h) vs
at_head i t h g vs a e is = is ∙ ap (λ x. bounded_head i (head_meant t x) vs) (sym e)

pub named_at : (sorts : List Name) (vs : List CodeValue) (k : ℕ) (v : CodeValue) → AreNamed sorts vs → k < length vs → v ≡ get_or vs k v → IsNamed sorts v
named_at sorts vs k v h lt is = subst (IsNamed sorts) (sym is) (h k v lt)

-- the first of what is left of two lists, and the rest
pub same_more : (sorts : List Name) (vs ws : List CodeValue) (k : ℕ) (v w : CodeValue) (b : Bool) → k < length vs → k < length ws → v ≡ get_or vs k v → w ≡ get_or ws k w
    → b ≡ same_value (value_meant sorts v) (value_meant sorts w)
    → same_values (values_meant sorts (drop k vs)) (values_meant sorts (drop k ws)) ≡ b && same_values (values_meant sorts (drop (k + 1) vs)) (values_meant sorts (drop (k + 1) ws))
same_more sorts vs ws k v w b lv lw v-is w-is e =
    (λ i. same_values (values_meant sorts (drop_more vs k v lv i)) (values_meant sorts (drop_more ws k w lw i)))
    ∙ (λ i. same_value (value_meant sorts (sym v-is i)) (value_meant sorts (sym w-is i)) && same_values (values_meant sorts (drop (k + 1) vs)) (values_meant sorts (drop (k + 1) ws)))
    ∙ ap (λ x. x && same_values (values_meant sorts (drop (k + 1) vs)) (values_meant sorts (drop (k + 1) ws))) (sym e)

pub same_none : (sorts : List Name) (vs ws : List CodeValue) (k : ℕ) → length vs ≤ k → length ws ≤ k → same_values (values_meant sorts (drop k vs)) (values_meant sorts (drop k ws)) ≡ true
same_none sorts vs ws k lv lw = λ i. same_values (values_meant sorts (drop_of_length-le vs lv i)) (values_meant sorts (drop_of_length-le ws lw i))
