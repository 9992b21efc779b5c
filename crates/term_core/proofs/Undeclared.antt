-- What a table's terms use, and the table over its first sorts and symbols, where it uses no others.
use Rattle.std.proofs.Common.{◌≡◌, ℕ, List, [], ◌∷◌, ◌++◌, take, drop, get_or, map, Contains, sym, ap, ◌∙◌, subst}
use Rattle.std.proofs.lemmas.List.{append-nil, take-append-drop, take-map}
use Rattle.std.proofs.lemmas.List.Elements.{Contains-append_left, Contains-append_right, Contains-get_or}
use Rattle.spec_text.specs.Bytes.{Name}
use Rattle.spec_text.proofs.Members.{first, later}
use Rattle.spec_sorts.specs.Terms.{Sort, Symbol, Head, Ite, Apply, Parameter, Term, Terms, no_term, app, nil, cons, list_of, terms_of, sort_of, sort_given, second_sort}
use Rattle.spec_sorts.specs.Subsets.{IsClosed}
use Rattle.term_core.specs.declared.facts.Facts.{Facts}
use Rattle.term_core.specs.declared.ids.SymbolId.{SymbolId}
use Rattle.term_core.specs.declared.nodes.Head.{Head as NodeHead}
use Rattle.term_core.specs.declared.nodes.Head.TheVariants as heads
use Rattle.term_core.specs.declared.nodes.Node.{Node}
use Rattle.term_core.specs.NameLists.{AreApart, HaveNoTwice}
use Rattle.term_core.specs.Symbols.{SymbolsView, HasSortIn, sort_meant, no_symbol, names_of, AreDeclared}
use Rattle.term_core.specs.Tables.{TableView, declared_in, view, clause_at, head_over, head_meant, IsHeadIn, HasHead, takes, Shape, shapes_of, ShapeFits, shape_term, Extends, AreBefore, grown, table_of, NodesFit}
use Rattle.term_core.specs.Facts.{AreFacts, no_facts, TableFits}
use Rattle.term_core.specs.Uses.{IsSortOver, AreSymbolsOver, IsHeadDeclared, UsesDeclared, first_declared}
use Rattle.term_core.proofs.NamesApart.{AreApart-take}
use Rattle.term_core.proofs.TermsExtend.{sort_meant-more, head_meant-kept, shape_term-kept}
use Rattle.term_core.proofs.ShapesGrown.{Widens, grown-more, grown-wider}
use Rattle.term_core.proofs.TermsApart.{one_symbol}
use Rattle.term_core.proofs.TermsClosed.{is_written, closed_terms}
use Rattle.term_core.proofs.SymbolsOver.{meant_over, number_first, sort_first}

-- what the head of a term uses is declared
abbrev HeadIsDeclared : SymbolsView → Term → Type 0
HeadIsDeclared d (app h ts) = IsHeadDeclared d h

head_declared : (d : SymbolsView) (h : NodeHead) → IsHeadIn d.sorts d.symbols h → IsHeadDeclared d (head_over d.sorts d.symbols h)
head_declared d (heads.Apply s) there = Contains-get_or d.symbols s.0 no_symbol there
head_declared d (heads.Parameter k s) there = meant_over d.sorts s there
head_declared d _ there = tt

-- what the terms of nodes use is declared
pub uses_declared : (d : SymbolsView) (nodes : List Node) → NodesFit d nodes → AreSymbolsOver d.sorts d.symbols → UsesDeclared (table_of d nodes)
uses_declared d nodes whole symbols = record {
  symbols = symbols;
  heads = λ h ts c.
      let w = is_written d nodes whole (app h ts) c in
      subst (HeadIsDeclared d) (sym w.2) (head_declared d w.0.head w.1.head);
}

-- the sorts of terms that use what is declared
module _ (d : SymbolsView) (terms : List Term) (closed : IsClosed terms) (symbols : AreSymbolsOver d.sorts d.symbols)
    (declared : (h : Head) (ts : Terms) → Contains terms (app h ts) → IsHeadDeclared d h) where
  given : (h : Head) (s : Sort) → IsHeadDeclared d h → IsSortOver d.sorts s → IsSortOver d.sorts (sort_given h s)
  given Ite s over second = second
  given (Apply f) s over second = (symbols f over).result
  given (Parameter k t) s over second = over
  given _ s over second = tt

  mutual
    unfolding sort_of second_sort

    pub sort_over : (t : Term) → Contains terms t → IsSortOver d.sorts (sort_of t)
    sort_over (app h ts) c = given h (second_sort ts) (declared h ts c) (second_over ts (λ u in_ts. closed (app h ts) c u in_ts))

    second_over : (ts : Terms) → ((u : Term) → Contains (list_of ts) u → Contains terms u) → IsSortOver d.sorts (second_sort ts)
    second_over (cons t (cons u us)) there = sort_over u (there u (later t (u ∷ list_of us) u (first u (list_of us))))
    second_over (cons t nil) there = tt
    second_over nil there = tt

symbols_apart : (symbols : List Symbol) → HaveNoTwice (names_of symbols) → AreApart no_symbol symbols
symbols_apart symbols apart i j in_i in_j e = ap (λ (s : SymbolId). s.0) (one_symbol symbols (record { 0 = i }) (record { 0 = j }) apart in_i in_j e)

-- a table that uses only what another has
module _ (old new : TableView) (grows : Extends old new) (declared : AreDeclared new.sorts new.symbols) where
  head_first : (h : NodeHead) → HasHead new h → IsHeadDeclared (declared_in old) (head_meant new h) → HasHead old h
  head_first (heads.Apply s) within over = number_first no_symbol old.symbols new.symbols grows.more_symbols s.0 grows.symbols (symbols_apart new.symbols declared.names_apart) within over
  head_first (heads.Parameter k s) within over = sort_first old.sorts new.sorts grows.more_sorts grows.sorts declared.sorts_apart s within over
  head_first _ within over = tt

-- fewer sorts and symbols, by the same numbers, leave what does not use those that go
module _ (e d : SymbolsView) (wider : Widens e d) (declared : AreDeclared d.sorts d.symbols) where
  fits_first : (done : List Term) (s : Shape) → ShapeFits (view d done) s → IsHeadDeclared e (head_meant (view d done) s.head) → ShapeFits (view e done) s
  fits_first done s f over =
      let head : HasHead (view e done) s.head = head_first (view e done) (view d done) (wider done) declared s.head f.head over in
      record {
        head = head;
        arguments = f.arguments;
        sorts = ap (λ h. takes h (map sort_of (clause_at (view e done) s.arguments))) (sym (head_meant-kept (view e done) (view d done) (wider done) s.head head)) ∙ f.sorts;
      }

  before_first : (done : List Term) (ss : List Shape) → AreBefore d done ss → ((h : Head) (ts : Terms) → Contains (grown d done ss) (app h ts) → IsHeadDeclared e h) → AreBefore e done ss
  before_first done [] b over = tt
  before_first done (s ∷ ss) b over =
      let t = shape_term (view d done) s in
      let more = grown-more d (done ++ t ∷ []) ss in
      let there : Contains (grown d done (s ∷ ss)) t = subst (λ ts. Contains ts t) (sym more.1) (Contains-append_left (done ++ t ∷ []) more.0 t (Contains-append_right done (t ∷ []) t (first t []))) in
      let this : ShapeFits (view e done) s = fits_first done s b.0 (over (head_meant (view d done) s.head) (terms_of (clause_at (view d done) s.arguments)) there) in
      (this, subst (λ u. AreBefore e (done ++ u ∷ []) ss) (shape_term-kept (view e done) (view d done) (wider done) s this) (before_first (done ++ t ∷ []) ss b.1 over))

facts_first : (sorts all more : List Name) → all ≡ sorts ++ more → HaveNoTwice all → (terms : List Term) (facts : List Facts) → AreFacts all terms facts → ((t : Term) → Contains terms t → IsSortOver sorts (sort_of t)) → AreFacts sorts terms facts
facts_first sorts all more e apart terms facts a over = record {
  long = a.long;
  right = λ k lt.
      let r = a.right k lt in
      let t = get_or terms k no_term in
      let s = (get_or facts k no_facts).sort in
      let there : HasSortIn sorts s = sort_first sorts all more e apart s r.there (subst (IsSortOver sorts) (sym r.sort) (over t (Contains-get_or terms k no_term lt))) in
      let meant : sort_meant all s ≡ sort_meant sorts s = ap (λ l. sort_meant l s) e ∙ sort_meant-more sorts more s there in
      record { there = there; sort = sym meant ∙ r.sort; constant = r.constant; divisor = r.divisor; zero = r.zero };
  literals = a.literals;
}

-- the first sorts and symbols
module _ (n m : ℕ) (d : SymbolsView) where
  abbrev pub fewer : SymbolsView
  fewer = record { sorts = take n d.sorts; symbols = take m d.symbols }

  pub fewer_wider : Widens fewer d
  fewer_wider done = record {
    more_sorts = drop n d.sorts;
    sorts = sym (take-append-drop n d.sorts);
    more_symbols = drop m d.symbols;
    symbols = sym (take-append-drop m d.symbols);
    more_terms = [];
    terms = sym (append-nil done);
  }

  fewer_declared : AreDeclared d.sorts d.symbols → AreDeclared fewer.sorts fewer.symbols
  fewer_declared a = record {
    sorts_apart = AreApart-take [] d.sorts n a.sorts_apart;
    names_apart = subst HaveNoTwice (take-map (λ (f : Symbol). f.name) m d.symbols) (AreApart-take [] (names_of d.symbols) m a.names_apart);
  }

  module _ (nodes : List Node) (whole : NodesFit d nodes) (uses : UsesDeclared (first_declared n m (table_of d nodes))) where
    fewer_before : AreBefore fewer [] (shapes_of nodes)
    fewer_before = before_first fewer d fewer_wider whole.declared [] (shapes_of nodes) whole.before uses.heads

    -- nodes mean over them what they mean
    pub fewer_terms : grown fewer [] (shapes_of nodes) ≡ grown d [] (shapes_of nodes)
    fewer_terms = sym (grown-wider fewer d fewer_wider [] (shapes_of nodes) fewer_before)

    -- and fit them with their facts
    pub fewer_fits : (facts : List Facts) → TableFits d nodes facts → TableFits fewer nodes facts
    fewer_fits facts kept = record {
      whole = record { declared = fewer_declared whole.declared; nodes_apart = whole.nodes_apart; before = fewer_before };
      right = subst (λ ts. AreFacts fewer.sorts ts facts) (sym fewer_terms)
          (facts_first fewer.sorts d.sorts (drop n d.sorts) (sym (take-append-drop n d.sorts)) whole.declared.sorts_apart (grown d [] (shapes_of nodes)) facts kept.right
          (sort_over fewer (grown d [] (shapes_of nodes)) (closed_terms d nodes whole) uses.symbols uses.heads));
    }
