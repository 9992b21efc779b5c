-- What a name of a function stands for, and that it can be used.
use Rattle.std.proofs.Common.{◌≡◌, Bool, true, false, cond, List, [], ◌∷◌, Option, Some, None, refl, sym, ap, subst}
use Rattle.std.specs.List.{AllByRecursion}
use Rattle.std.specs.Str.{bytes_eq}
use Rattle.std.proofs.lemmas.List.Elements.{recursion_from_All}
use Rattle.spec_text.specs.Bytes.{Name}
use Rattle.spec_sorts.specs.Terms.{Symbol, is_sorted}
use Rattle.spec_sorts.specs.Signatures.{Definition, Known, declared, defined, of_sort, of_function, Signature, known_name, known_as, symbols_in}
use Rattle.spec_reading.specs.Reading.{sorts_taken}
use Rattle.spec_reading.specs.WellSorted.{IsDeclaredOver}
use Rattle.term_core.specs.declared.ids.SymbolId.{SymbolId}
use Rattle.term_core.specs.Symbols.{symbol_at, IsSymbol}
use Rattle.term_core.specs.Tables.{TableView}
use Rattle.term_reader.specs.declared.scope.Macro.{Macro}
use Rattle.term_reader.specs.declared.scope.Function.{Function}
use Rattle.term_reader.specs.declared.scope.Function.TheVariants.{Declared, Defined}
use Rattle.term_reader.specs.Scopes.{ScopeView, IsMacro, FunctionMeans, function_under, ScopeMeans}
use Rattle.sort_check.specs.Applied.{IsUsable}

-- the function of a name over symbols, if there is one
abbrev KnownOver : List Symbol → Option Known → Type 0
KnownOver symbols (Some k) = IsDeclaredOver symbols (of_function k)
KnownOver symbols None = Unit {0}

known_over : (symbols : List Symbol) (s : Signature) (n : Name) → AllByRecursion (IsDeclaredOver symbols) s → KnownOver symbols (known_as s n)
known_over symbols [] n h = tt
known_over symbols (of_sort m u ∷ ds) n h = known_over symbols ds n h.1
known_over symbols (of_function k ∷ ds) n h = go (bytes_eq (known_name k) n) h.0 (known_over symbols ds n h.1)
  where
    go : (c : Bool) → IsDeclaredOver symbols (of_function k) → KnownOver symbols (known_as ds n) → KnownOver symbols (cond c (Some k) (known_as ds n))
    go true one later = one
    go false one later = later

module _ (t : TableView) (v : ScopeView) (s : Signature) (h : ScopeMeans t v s) (n : Name) where
  is_meant : (f : Option Function) → function_under v n ≡ f → FunctionMeans t f (known_as s n)
  is_meant f e = subst (λ o. FunctionMeans t o (known_as s n)) e (h.functions n)

  -- a name that stands for nothing is not known
  pub not_known : function_under v n ≡ None → known_as s n ≡ None
  not_known e = go (known_as s n) (is_meant None e)
    where
      go : (o : Option Known) → FunctionMeans t None o → o ≡ None
      go None g = refl
      go (Some k) g = absurd g

  -- a declared symbol is known as that
  pub symbol_known : (id : SymbolId) → function_under v n ≡ Some (Declared id) → IsSymbol t.symbols id × (known_as s n ≡ Some (declared (symbol_at t.symbols id)))
  symbol_known id e = go (known_as s n) (is_meant (Some (Declared id)) e)
    where
      go : (o : Option Known) → FunctionMeans t (Some (Declared id)) o → IsSymbol t.symbols id × (o ≡ Some (declared (symbol_at t.symbols id)))
      go None g = absurd g
      go (Some (declared f)) g = (g.0, ap (λ x. Some (declared x)) (sym g.1))
      go (Some (defined d)) g = absurd g

  -- A definition as it is known.
  pub record IsKnownAs (m : Macro) : Type 0 where
    -- the definition
    pub definition : Definition
    -- it is known as that
    pub known : known_as s n ≡ Some (defined definition)
    -- by the numbers of the table
    pub macro : IsMacro t m definition
    -- it is well sorted
    pub sorted : is_sorted (sorts_taken definition) definition.term ≡ true

  pub macro_known : (m : Macro) → function_under v n ≡ Some (Defined m) → IsKnownAs m
  macro_known m e = go (known_as s n) refl (is_meant (Some (Defined m)) e) (known_over (symbols_in s) s n (recursion_from_All (IsDeclaredOver (symbols_in s)) s h.sorted))
    where
      go : (o : Option Known) → known_as s n ≡ o → FunctionMeans t (Some (Defined m)) o → KnownOver (symbols_in s) o → IsKnownAs m
      go None q g k = absurd g
      go (Some (declared f)) q g k = absurd g
      go (Some (defined d)) q g k = record { definition = d; known = q; macro = g; sorted = k.term.sorted }

  -- and it can be used
  pub macro_usable : (m : Macro) → function_under v n ≡ Some (Defined m) → IsUsable t m
  macro_usable m e = let k = macro_known m e in (k.definition, k.macro, k.sorted)
