-- A new sort or symbol leaves a table whole, with its facts.
use Rattle.std.proofs.Common.{◌≡◌, false, List, [], ◌∷◌, ◌++◌, None, sym, ap, ◌∙◌, subst, Result, Ok, Err, OnOk, OnErr}
use Rattle.std.proofs.lemmas.List.{map-append}
use Rattle.spec_text.specs.Bytes.{Name, among}
use Rattle.spec_sorts.specs.Terms.{Symbol}
use Rattle.term_core.specs.declared.facts.Facts.{Facts}
use Rattle.term_core.specs.declared.nodes.Node.{Node}
use Rattle.term_core.specs.NameLists.{HaveNoTwice}
use Rattle.term_core.specs.Symbols.{SymbolsView, symbol_named, names_of, AreDeclared}
use Rattle.term_core.specs.Tables.{shapes_of, grown, NodesFit}
use Rattle.term_core.specs.Facts.{AreFacts, TableFits}
use Rattle.term_core.proofs.NamesApart.{HaveNoTwice-push}
use Rattle.term_core.proofs.SymbolsNamed.{absent_of}
use Rattle.term_core.proofs.ShapesGrown.{Widens, more_sorts, more_symbols}
use Rattle.term_core.proofs.TermsPut.{wider_whole, wider_terms}
use Rattle.term_core.proofs.FactsKept.{facts_more}

-- with a sort more
abbrev with_sort : SymbolsView → Name → SymbolsView
with_sort d n = record { sorts = d.sorts ++ n ∷ []; symbols = d.symbols }

-- with a symbol more
abbrev with_symbol : SymbolsView → Symbol → SymbolsView
with_symbol d s = record { sorts = d.sorts; symbols = d.symbols ++ s ∷ [] }

module _ {A E : Type 0} (r : Result A E) (d new : SymbolsView) (n : Name) (nodes : List Node) where
  pub sort_kept : (facts : List Facts) → OnOk r ((new.sorts ≡ d.sorts ++ n ∷ []) × (new.symbols ≡ d.symbols)) → OnErr r (new ≡ d) → among d.sorts n ≡ false → TableFits d nodes facts → TableFits new nodes facts
  sort_kept = go r
    where
      go : (r : Result A E) → (facts : List Facts) → OnOk r ((new.sorts ≡ d.sorts ++ n ∷ []) × (new.symbols ≡ d.symbols)) → OnErr r (new ≡ d) → among d.sorts n ≡ false → TableFits d nodes facts → TableFits new nodes facts
      go (Err x) facts ok err absent kept = subst (λ e. TableFits e nodes facts) (sym err) kept
      go (Ok x) facts ok err absent kept =
          let is : new ≡ with_sort d n = λ i. record { sorts = ok.0 i; symbols = ok.1 i } in
          let wider : Widens d (with_sort d n) = more_sorts d.sorts (n ∷ []) d.symbols in
          let declared : AreDeclared (d.sorts ++ n ∷ []) d.symbols = record { sorts_apart = HaveNoTwice-push d.sorts n kept.whole.declared.sorts_apart absent; names_apart = kept.whole.declared.names_apart } in
          subst (λ e. TableFits e nodes facts) (sym is) (record {
            whole = wider_whole d (with_sort d n) nodes wider declared kept.whole;
            right = subst (λ ts. AreFacts (d.sorts ++ n ∷ []) ts facts) (sym (wider_terms d (with_sort d n) nodes wider kept.whole)) (facts_more d.sorts (n ∷ []) _ facts kept.right);
          })

  pub sort_terms : OnOk r ((new.sorts ≡ d.sorts ++ n ∷ []) × (new.symbols ≡ d.symbols)) → NodesFit d nodes
      → OnOk r ((new.sorts ≡ d.sorts ++ n ∷ []) × (new.symbols ≡ d.symbols) × (grown new [] (shapes_of nodes) ≡ grown d [] (shapes_of nodes)))
  sort_terms = go r
    where
      go : (r : Result A E) → OnOk r ((new.sorts ≡ d.sorts ++ n ∷ []) × (new.symbols ≡ d.symbols)) → NodesFit d nodes
          → OnOk r ((new.sorts ≡ d.sorts ++ n ∷ []) × (new.symbols ≡ d.symbols) × (grown new [] (shapes_of nodes) ≡ grown d [] (shapes_of nodes)))
      go (Err x) ok whole = tt
      go (Ok x) ok whole =
          let is : new ≡ with_sort d n = λ i. record { sorts = ok.0 i; symbols = ok.1 i } in
          (ok.0, ok.1, ap (λ e. grown e [] (shapes_of nodes)) is ∙ wider_terms d (with_sort d n) nodes (more_sorts d.sorts (n ∷ []) d.symbols) whole)

module _ {A E : Type 0} (r : Result A E) (d new : SymbolsView) (s : Symbol) (nodes : List Node) where
  pub symbol_kept : (facts : List Facts) → OnOk r ((new.symbols ≡ d.symbols ++ s ∷ []) × (new.sorts ≡ d.sorts)) → OnErr r (new ≡ d) → symbol_named d.symbols s.name ≡ None → TableFits d nodes facts → TableFits new nodes facts
  symbol_kept = go r
    where
      go : (r : Result A E) → (facts : List Facts) → OnOk r ((new.symbols ≡ d.symbols ++ s ∷ []) × (new.sorts ≡ d.sorts)) → OnErr r (new ≡ d) → symbol_named d.symbols s.name ≡ None → TableFits d nodes facts → TableFits new nodes facts
      go (Err x) facts ok err absent kept = subst (λ e. TableFits e nodes facts) (sym err) kept
      go (Ok x) facts ok err absent kept =
          let is : new ≡ with_symbol d s = λ i. record { sorts = ok.1 i; symbols = ok.0 i } in
          let wider : Widens d (with_symbol d s) = more_symbols d.sorts d.symbols (s ∷ []) in
          let declared : AreDeclared d.sorts (d.symbols ++ s ∷ []) = record {
            sorts_apart = kept.whole.declared.sorts_apart;
            names_apart = subst HaveNoTwice (sym (map-append (λ (u : Symbol). u.name) d.symbols (s ∷ []))) (HaveNoTwice-push (names_of d.symbols) s.name kept.whole.declared.names_apart (absent_of d.symbols s.name absent));
          } in
          subst (λ e. TableFits e nodes facts) (sym is) (record {
            whole = wider_whole d (with_symbol d s) nodes wider declared kept.whole;
            right = subst (λ ts. AreFacts d.sorts ts facts) (sym (wider_terms d (with_symbol d s) nodes wider kept.whole)) kept.right;
          })

  pub symbol_terms : OnOk r ((new.symbols ≡ d.symbols ++ s ∷ []) × (new.sorts ≡ d.sorts)) → NodesFit d nodes
      → OnOk r ((new.symbols ≡ d.symbols ++ s ∷ []) × (new.sorts ≡ d.sorts) × (grown new [] (shapes_of nodes) ≡ grown d [] (shapes_of nodes)))
  symbol_terms = go r
    where
      go : (r : Result A E) → OnOk r ((new.symbols ≡ d.symbols ++ s ∷ []) × (new.sorts ≡ d.sorts)) → NodesFit d nodes
          → OnOk r ((new.symbols ≡ d.symbols ++ s ∷ []) × (new.sorts ≡ d.sorts) × (grown new [] (shapes_of nodes) ≡ grown d [] (shapes_of nodes)))
      go (Err x) ok whole = tt
      go (Ok x) ok whole =
          let is : new ≡ with_symbol d s = λ i. record { sorts = ok.1 i; symbols = ok.0 i } in
          (ok.0, ok.1, ap (λ e. grown e [] (shapes_of nodes)) is ∙ wider_terms d (with_symbol d s) nodes (more_symbols d.sorts d.symbols (s ∷ [])) whole)
