-- What an insert of a node leaves of a table, with its facts.
use Rattle.std.proofs.Common.{◌≡◌, ℕ, ◌⊎◌, List, [], ◌∷◌, ◌++◌, length, sym, ap, subst}
use Rattle.indexmap.specs.IndexSet.{insert_key}
use Rattle.term_core.specs.declared.ids.TermId.{TermId}
use Rattle.term_core.specs.declared.facts.Facts.{Facts}
use Rattle.term_core.specs.declared.nodes.Node.{Node}
use Rattle.term_core.specs.contracts.nodes.NodePartialEq.TheImpl.{ghosts}
use Rattle.term_core.specs.Symbols.{SymbolsView}
use Rattle.term_core.specs.Tables.{TableView, declared_in, node_term, term_at, IsIn, IsPlaced, table_of, Extends}
use Rattle.term_core.specs.Facts.{IsFacts, IsLiteralAt, literal_kept, AreFacts, TableFits}
use Rattle.term_core.proofs.TermsExtend.{Extends-self}
use Rattle.term_core.proofs.NodesPut.{Puts, puts, IsStored}
use Rattle.term_core.proofs.TermsPut.{number, grows, puts_whole, puts_there, puts_kept, puts_once, puts_added, puts_known}
use Rattle.term_core.proofs.FactsKept.{facts_push}

-- a table that is the same extends what it was
pub same_extends : (t u : TableView) → u ≡ t → Extends t u × (declared_in u ≡ declared_in t)
same_extends t u is = (subst (Extends t) (sym is) (Extends-self t), ap declared_in is)

module _ (d : SymbolsView) (old : List Node) (facts : List Facts) (v : TableView) (kept : TableFits d old facts) (is : table_of d old ≡ v) (node : Node) (fits : IsPlaced v node) where
  placed : IsPlaced (table_of d old) node
  placed = subst (λ (t : TableView). IsPlaced t node) (sym is) fits

  module _ (place : ℕ) (new : List Node) (keys : new ≡ insert_key ghosts.eq old node) (stored : IsStored new node place) where
    here : Puts old node place new
    here = puts old new node place keys stored

    pub put_there : IsIn (table_of d new) (number place) × (term_at (table_of d new) (number place) ≡ node_term v node)
    put_there = subst (λ (t : TableView). IsIn (table_of d new) (number place) × (term_at (table_of d new) (number place) ≡ node_term t node)) is
        (puts_there d old node place kept.whole placed new here)

    pub put_kept : Extends v (table_of d new) × (declared_in (table_of d new) ≡ declared_in v)
    put_kept = (
      subst (λ (t : TableView). Extends t (table_of d new)) is (puts_kept d old node place kept.whole placed new here),
      ap declared_in is,
    )

    pub put_once : IsIn v (number place) → table_of d new ≡ v
    put_once = subst (λ (t : TableView). IsIn t (number place) → table_of d new ≡ t) is (puts_once d old node place kept.whole placed new here)

    pub put_known : (id : TermId) → IsIn v id → term_at v id ≡ node_term v node → table_of d new ≡ v
    put_known = subst (λ (t : TableView). (id : TermId) → IsIn t id → term_at t id ≡ node_term t node → table_of d new ≡ t) is (puts_known d old node place kept.whole placed new here)

    pub put_added : (table_of d new ≡ v) ⊎ ((table_of d new).terms ≡ v.terms ++ node_term v node ∷ [])
    put_added = subst (λ (t : TableView). (table_of d new ≡ t) ⊎ ((table_of d new).terms ≡ t.terms ++ node_term t node ∷ [])) is (puts_added d old node place kept.whole placed new here)

    -- where the node is last, so do its facts
    pub put_facts : (fs : List Facts) (f : Facts) → new ≡ old ++ node ∷ [] → fs ≡ facts ++ f ∷ [] → IsFacts v.sorts (node_term v node) f
        → IsLiteralAt (v.terms ++ node_term v node ∷ []) (length v.terms) (literal_kept f) → TableFits d new fs
    put_facts fs f last more right literal = record {
      whole = puts_whole d old node place kept.whole placed new here;
      right = subst (AreFacts d.sorts (table_of d new).terms) (sym more)
          (subst (λ ts. AreFacts d.sorts ts (facts ++ f ∷ [])) (sym (grows d old node place kept.whole placed new last))
          (facts_push d.sorts _ facts (node_term (table_of d old) node) f kept.right (subst (λ (t : TableView). IsFacts t.sorts (node_term t node) f) (sym is) right)
          (subst (λ (t : TableView). IsLiteralAt (t.terms ++ node_term t node ∷ []) (length t.terms) (literal_kept f)) (sym is) literal)));
    }
