-- What an insert leaves of a table.
use Rattle.std.proofs.Common.{◌≡◌, ℕ, ◌<◌, ◌⊎◌, inl, inr, List, [], ◌∷◌, ◌++◌, length, get_or, sym, ◌∙◌, ap, subst, arith, length-append}
use Rattle.std.proofs.lemmas.List.{append-nil, length-map, map-append}
use Rattle.std.proofs.Math.Seq.{get_or-append_seam}
use Rattle.spec_sorts.specs.Terms.{no_term}
use Rattle.term_core.specs.declared.ids.TermId.{TermId}
use Rattle.term_core.specs.declared.nodes.Node.{Node}
use Rattle.term_core.specs.Symbols.{SymbolsView, AreDeclared}
use Rattle.term_core.specs.Tables.{TableView, node_term, term_at, IsIn, IsPlaced, shape_of, shapes_of, no_shape, grown, table_of, NodesFit, Extends, AreBefore, shape_term}
use Rattle.term_core.proofs.NamesApart.{AreApart-push}
use Rattle.term_core.proofs.NodesPut.{Puts}
use Rattle.term_core.proofs.ShapesGrown.{terms-length, grown-push, AreBefore-push, at-term, at-fits, Widens, grown-wider, AreBefore-wider}
use Rattle.term_core.proofs.TermsApart.{at, one_shape, terms_apart}
use Rattle.term_core.proofs.TermsExtend.{Extends-self}

abbrev pub number : ℕ → TermId
number at = record { 0 = at }

module _ (d : SymbolsView) (old : List Node) (node : Node) (place : ℕ) (whole : NodesFit d old) (placed : IsPlaced (table_of d old) node) where
  abbrev pub before : TableView
  before = table_of d old

  long : length before.terms ≡ length old
  long = terms-length d old

  shapes_long : length (shapes_of old) ≡ length old
  shapes_long = length-map old shape_of

  -- where the node is last, so does its term
  pub grows : (new : List Node) → new ≡ old ++ node ∷ [] → grown d [] (shapes_of new) ≡ before.terms ++ node_term before node ∷ []
  grows new e = ap (λ ns. grown d [] (shapes_of ns)) e ∙ ap (grown d []) (map-append shape_of old (node ∷ [])) ∙ grown-push d [] (shapes_of old) (shape_of node)

  pub puts_whole : (new : List Node) → Puts old node place new → NodesFit d new
  puts_whole new (inl p) = subst (NodesFit d) (sym p.0) whole
  puts_whole new (inr p) =
      let is : shapes_of new ≡ shapes_of old ++ shape_of node ∷ [] = ap shapes_of p.0 ∙ map-append shape_of old (node ∷ []) in
      record {
        declared = whole.declared;
        nodes_apart = subst (λ ss. (i j : ℕ) → i < length ss → j < length ss → get_or ss i no_shape ≡ get_or ss j no_shape → i ≡ j) (sym is)
            (AreApart-push no_shape (shapes_of old) (shape_of node) whole.nodes_apart (λ k lt e. p.2 k (omega (arith, lt, shapes_long)) e));
        before = subst (λ ss. AreBefore d [] ss) (sym is) (AreBefore-push d [] (shapes_of old) (shape_of node) whole.before placed);
      }

  pub puts_there : (new : List Node) → Puts old node place new → IsIn (table_of d new) (number place) × (term_at (table_of d new) (number place) ≡ node_term before node)
  puts_there new (inl p) =
      let within : place < length before.terms = omega (arith, long, p.1) in
      let here = at d old whole place within in
      subst (λ ns. IsIn (table_of d ns) (number place) × (term_at (table_of d ns) (number place) ≡ node_term before node)) (sym p.0)
      (within, at-term d before.terms (get_or (shapes_of old) place no_shape) place here ∙ ap (shape_term before) p.2)
  puts_there new (inr p) =
      let t = node_term before node in
      subst (λ ts. (place < length ts) × (get_or ts place no_term ≡ t)) (sym (grows new p.0)) (
        omega (arith, p.1, long, length-append before.terms (t ∷ [])),
        ap (λ k. get_or (before.terms ++ t ∷ []) k no_term) (p.1 ∙ sym long) ∙ get_or-append_seam before.terms t [] no_term,
      )

  pub puts_kept : (new : List Node) → Puts old node place new → Extends before (table_of d new)
  puts_kept new (inl p) = subst (λ ns. Extends before (table_of d ns)) (sym p.0) (Extends-self before)
  puts_kept new (inr p) = record { more_sorts = []; sorts = sym (append-nil d.sorts); more_symbols = []; symbols = sym (append-nil d.symbols); more_terms = node_term before node ∷ []; terms = grows new p.0 }

  pub puts_once : (new : List Node) → Puts old node place new → IsIn before (number place) → table_of d new ≡ before
  puts_once new (inl p) is_in = ap (table_of d) p.0
  puts_once new (inr p) is_in = absurd (omega (arith, is_in, long, p.1))

  -- no term came, or the node's
  pub puts_added : (new : List Node) → Puts old node place new → (table_of d new ≡ before) ⊎ ((table_of d new).terms ≡ before.terms ++ node_term before node ∷ [])
  puts_added new (inl p) = inl (ap (table_of d) p.0)
  puts_added new (inr p) = inr (grows new p.0)

  pub puts_known : (new : List Node) → Puts old node place new → (id : TermId) → IsIn before id → term_at before id ≡ node_term before node → table_of d new ≡ before
  puts_known new (inl p) id is_in e = ap (table_of d) p.0
  puts_known new (inr p) id is_in e =
      let here = at d old whole id.0 is_in in
      let s = get_or (shapes_of old) id.0 no_shape in
      absurd (p.2 id.0 (omega (arith, is_in, long))
      (one_shape before.terms id.0 (λ i j lt in_j same. terms_apart d old whole i j (omega (arith, lt, is_in)) in_j same) d s (shape_of node) whole.declared
      (λ m u lm. omega (arith, here.fits.arguments m u lm, here.long)) (at-fits d before.terms s id.0 here).head placed
      (sym (at-term d before.terms s id.0 here) ∙ e)))

-- more sorts and symbols, by the same numbers, leave nodes whole
pub wider_whole : (d e : SymbolsView) (nodes : List Node) → Widens d e → AreDeclared e.sorts e.symbols → NodesFit d nodes → NodesFit e nodes
wider_whole d e nodes wider declared whole = record {
  declared = declared;
  nodes_apart = whole.nodes_apart;
  before = AreBefore-wider d e wider [] (shapes_of nodes) whole.before;
}

-- and their terms
pub wider_terms : (d e : SymbolsView) (nodes : List Node) → Widens d e → NodesFit d nodes → grown e [] (shapes_of nodes) ≡ grown d [] (shapes_of nodes)
wider_terms d e nodes wider whole = grown-wider d e wider [] (shapes_of nodes) whole.before
