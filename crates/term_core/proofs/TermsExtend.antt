-- A table that grows keeps its terms by their numbers, and what is written with them.
use Rattle.std.proofs.Common.{◌≡◌, suc, ◌<◌, List, [], ◌∷◌, length, map, get_or, refl, sym, ◌∙◌, ap, subst, arith, length-append, append_assoc, ◌++◌}
use Rattle.std.proofs.lemmas.List.{append-nil, get_or_append_left}
use Rattle.spec_text.specs.Bytes.{Name}
use Rattle.spec_sorts.specs.Terms.{Declared, Apply, Parameter, no_term, of, sort_of}
use Rattle.term_core.specs.declared.ids.TermId.{TermId}
use Rattle.term_core.specs.declared.ids.Lit.{Lit}
use Rattle.term_core.specs.declared.sorts.Sort.{Sort as TableSort}
use Rattle.term_core.specs.declared.sorts.Sort.TheVariants.{Declared as declared_sort}
use Rattle.term_core.specs.declared.nodes.Head.{Head as NodeHead}
use Rattle.term_core.specs.declared.nodes.Head.TheVariants as heads
use Rattle.term_core.specs.Symbols.{HasSortIn, HaveSortsIn, sort_meant, sorts_meant, no_symbol, symbol_at}
use Rattle.term_core.specs.Tables.{TableView, term_at, IsIn, AreIn, clause_at, literal_at, takes, head_meant, HasHead, Shape, ShapeFits, shape_term, Extends}

pub Extends-self : (t : TableView) → Extends t t
Extends-self t = record {
  more_sorts = [];
  sorts = sym (append-nil t.sorts);
  more_symbols = [];
  symbols = sym (append-nil t.symbols);
  more_terms = [];
  terms = sym (append-nil t.terms);
}

pub Extends-trans : (s t u : TableView) → Extends s t → Extends t u → Extends s u
Extends-trans s t u a b = record {
  more_sorts = a.more_sorts ++ b.more_sorts;
  sorts = b.sorts ∙ ap (λ l. l ++ b.more_sorts) a.sorts ∙ append_assoc s.sorts a.more_sorts b.more_sorts;
  more_symbols = a.more_symbols ++ b.more_symbols;
  symbols = b.symbols ∙ ap (λ l. l ++ b.more_symbols) a.symbols ∙ append_assoc s.symbols a.more_symbols b.more_symbols;
  more_terms = a.more_terms ++ b.more_terms;
  terms = b.terms ∙ ap (λ l. l ++ b.more_terms) a.terms ∙ append_assoc s.terms a.more_terms b.more_terms;
}

-- sorts stay when others come
module _ (sorts more : List Name) where
  pub HasSortIn-more : (s : TableSort) → HasSortIn sorts s → HasSortIn (sorts ++ more) s
  HasSortIn-more (declared_sort k) within = omega (arith, within, length-append sorts more)
  HasSortIn-more _ within = tt

  pub sort_meant-more : (s : TableSort) → HasSortIn sorts s → sort_meant (sorts ++ more) s ≡ sort_meant sorts s
  sort_meant-more (declared_sort k) within = ap Declared (get_or_append_left sorts more [] k.0 within)
  sort_meant-more _ within = refl

  pub HaveSortsIn-more : (ss : List TableSort) → HaveSortsIn sorts ss → HaveSortsIn (sorts ++ more) ss
  HaveSortsIn-more ss within k d lt = HasSortIn-more (get_or ss k d) (within k d lt)

  pub sorts_meant-more : (ss : List TableSort) → HaveSortsIn sorts ss → sorts_meant (sorts ++ more) ss ≡ sorts_meant sorts ss
  sorts_meant-more [] within = refl
  sorts_meant-more (s ∷ ss) within =
      λ i. sort_meant-more s (within 0 s (omega arith)) i ∷ sorts_meant-more ss (λ k d lt. within (suc k) d (omega (arith, lt))) i

module _ (old new : TableView) (grows : Extends old new) where
  pub IsIn-kept : (id : TermId) → IsIn old id → IsIn new id
  IsIn-kept id within = subst (λ l. id.0 < length l) (sym grows.terms) (omega (arith, within, length-append old.terms grows.more_terms))

  pub term_at-kept : (id : TermId) → IsIn old id → term_at new id ≡ term_at old id
  term_at-kept id within = ap (λ l. get_or l id.0 no_term) grows.terms ∙ get_or_append_left old.terms grows.more_terms no_term id.0 within

  pub literal_at-kept : (l : Lit) → IsIn old l.term → literal_at new l ≡ literal_at old l
  literal_at-kept l within = ap (λ t. record { atom = t; positive = l.positive }) (term_at-kept l.term within)

  pub AreIn-kept : (ids : List TermId) → AreIn old ids → AreIn new ids
  AreIn-kept ids within k d lt = IsIn-kept (get_or ids k d) (within k d lt)

  pub clause_at-kept : (ids : List TermId) → AreIn old ids → clause_at new ids ≡ clause_at old ids
  clause_at-kept [] within = refl
  clause_at-kept (id ∷ ids) within =
      λ i. term_at-kept id (within 0 id (omega arith)) i ∷ clause_at-kept ids (λ k d lt. within (suc k) d (omega (arith, lt))) i

  pub HasSortIn-kept : (s : TableSort) → HasSortIn old.sorts s → HasSortIn new.sorts s
  HasSortIn-kept s within = subst (λ l. HasSortIn l s) (sym grows.sorts) (HasSortIn-more old.sorts grows.more_sorts s within)

  pub sort_meant-kept : (s : TableSort) → HasSortIn old.sorts s → sort_meant new.sorts s ≡ sort_meant old.sorts s
  sort_meant-kept s within = ap (λ l. sort_meant l s) grows.sorts ∙ sort_meant-more old.sorts grows.more_sorts s within

  pub HasHead-kept : (h : NodeHead) → HasHead old h → HasHead new h
  HasHead-kept (heads.Apply s) within = subst (λ l. s.0 < length l) (sym grows.symbols) (omega (arith, within, length-append old.symbols grows.more_symbols))
  HasHead-kept (heads.Parameter k s) within = HasSortIn-kept s within
  HasHead-kept _ within = tt

  pub head_meant-kept : (h : NodeHead) → HasHead old h → head_meant new h ≡ head_meant old h
  head_meant-kept (heads.Apply s) within =
      ap Apply (ap (λ l. symbol_at l s) grows.symbols ∙ get_or_append_left old.symbols grows.more_symbols no_symbol s.0 within)
  head_meant-kept (heads.Parameter k s) within = ap (Parameter k) (sort_meant-kept s within)
  head_meant-kept _ within = refl

  pub shape_term-kept : (s : Shape) → ShapeFits old s → shape_term new s ≡ shape_term old s
  shape_term-kept s f = λ i. of (head_meant-kept s.head f.head i) (clause_at-kept s.arguments f.arguments i)

  pub Fits-kept : (s : Shape) → ShapeFits old s → ShapeFits new s
  Fits-kept s f = record {
    head = HasHead-kept s.head f.head;
    arguments = AreIn-kept s.arguments f.arguments;
    sorts = (λ i. takes (head_meant-kept s.head f.head i) (map sort_of (clause_at-kept s.arguments f.arguments i))) ∙ f.sorts;
  }
