-- That tables by symbols' numbers are those of an interpretation, where no name occurs twice.
use Rattle.std.proofs.Common.{if◌then◌else◌, ◌≡◌, ℕ, ◌<◌, Bool, true, false, List, [], ◌∷◌, length, get_or, cond, refl, sym, ap, ◌∙◌, subst, arith, zero, suc}
use Rattle.std.specs.Str.{bytes_eq}
use Rattle.std.specs.Bool.{Decides}
use Rattle.std.specs.Prelude.{slice_index_or}
use Rattle.std.proofs.lemmas.Bool.{false≢true}
use Rattle.std.proofs.lemmas.List.{length-map, get_or-map, get_or_default}
use Rattle.std.proofs.lemmas.Slice.Eq.{bytes_eq-Decides}
use Rattle.spec_text.specs.Bytes.{Name}
use Rattle.spec_numbers.specs.Fractions.{Fraction}
use Rattle.spec_sorts.specs.Terms.{Symbol}
use Rattle.spec_sorts.specs.Values.{Interpretation}
use Rattle.term_walks.specs.declared.values.Interp.{Interp}
use Rattle.term_core.specs.NameLists.{HaveNoTwice}
use Rattle.term_core.specs.Symbols.{no_symbol, names_of}
use Rattle.term_core.specs.declared.ids.TermId.{TermId}
use Rattle.term_core.specs.declared.ids.Lit.{Lit}
use Rattle.term_core.specs.Tables.{TableView, clause_at}
use Rattle.term_walks.specs.Valuations.{HasSymbolTables, tables_meant, no_table}
use Rattle.spec_valuations.specs.Tables.{table_of, IsModelBy}
use Rattle.search_model.specs.Models.{values_of, IsModelOf}

-- the number of the first symbol of a name
abbrev number_of : List Symbol → Name → ℕ
number_of [] n = 0
number_of (s ∷ ss) n = if bytes_eq s.name n then 0 else suc (number_of ss n)

-- What a number of a name is.
record IsNumberOf (ss : List Symbol) (n : Name) (k : ℕ) : Type 0 where
  there : k < length ss
  named : (get_or ss k no_symbol).name ≡ n

found : (ss : List Symbol) (n : Name) (k : ℕ) → k < length ss → (get_or ss k no_symbol).name ≡ n → IsNumberOf ss n (number_of ss n)
found [] n k lt e = absurd (omega (arith, lt))
found (s ∷ ss) n k lt e = go (bytes_eq s.name n) (bytes_eq-Decides s.name n) (found ss n) k lt e
  where
    go : (b : Bool) → Decides b (s.name ≡ n) → ((k : ℕ) → k < length ss → (get_or ss k no_symbol).name ≡ n → IsNumberOf ss n (number_of ss n))
        → (k : ℕ) → k < length (s ∷ ss) → (get_or (s ∷ ss) k no_symbol).name ≡ n → IsNumberOf (s ∷ ss) n (cond b 0 (suc (number_of ss n)))
    go true d more k lt e = record { there = omega arith; named = d.0 refl }
    go false d more zero lt e = absurd (false≢true (d.1 e))
    go false d more (suc k) lt e = let h = more k (omega (arith, lt)) e in record { there = omega (arith, h.there); named = h.named }

-- the interpretation that has these tables
abbrev interpreted : TableView → Interp → Interpretation
interpreted t interp = record { table = λ n. slice_index_or (tables_meant t.sorts interp) (number_of t.symbols n) no_table }

pub interpretation : (t : TableView) (interp : Interp) → HaveNoTwice (names_of t.symbols) → (i : Interpretation) × HasSymbolTables t interp i
interpretation t interp apart = (
  interpreted t interp,
  λ s lt.
      let ss = t.symbols in
      let k = s.0 in
      let n = (get_or ss k no_symbol).name in
      let h = found ss n k lt refl in
      let name : (j : ℕ) → j < length ss → get_or (names_of ss) j [] ≡ (get_or ss j no_symbol).name = λ j l. get_or-map (λ (s : Symbol). s.name) ss j no_symbol [] l in
      let same : number_of ss n ≡ k = apart (number_of ss n) k (rw length-map h.there) (rw length-map lt) (name (number_of ss n) h.there ∙ h.named ∙ sym (name k lt)) in
      ap (λ (m : ℕ). slice_index_or (tables_meant t.sorts interp) m no_table) same,
)

-- an interpretation with these tables is one by the values of the listed terms
pub models_by : (t : TableView) (held : List Lit) (terms : List TermId) (classes : List ℕ) (numbers : List Fraction) (interp : Interp) → IsModelOf t held terms classes numbers interp
    → (i : Interpretation) → HasSymbolTables t interp i → IsModelBy i (values_of t held terms classes numbers) t.symbols (clause_at t terms)
models_by t held terms classes numbers interp model i represents s c =
    subst (λ (x : Symbol). i.table x.name ≡ table_of (values_of t held terms classes numbers) x (clause_at t terms)) (sym (get_or_default t.symbols c.0 s no_symbol c.1) ∙ c.2)
    (represents (record { 0 = c.0 }) c.1 ∙ model.each c.0 c.1)
