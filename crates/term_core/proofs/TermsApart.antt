-- Different numbers mean different terms.
use Rattle.std.proofs.Common.{◌≡◌, ℕ, zero, suc, ◌<◌, List, [], ◌∷◌, length, get_or, refl, sym, ap, ◌∙◌, subst, arith}
use Rattle.std.proofs.lemmas.List.{length-map, get_or-map}
use Rattle.spec_text.specs.Bytes.{Name}
use Rattle.spec_numbers.specs.Fractions.{Fraction, zero_fraction}
use Rattle.ratio128.proofs.Same.{same_ratio}
use Rattle.spec_sorts.specs.Terms.{Sort, Truth, Number, Declared, Symbol, Head, True, False, Not, And, Or, Xor, Implies, Equal, Ite, Minus, Plus, Times, Divide, Less, AtMost, Literal, Apply, Parameter, Term, no_term, app, list_of}
use Rattle.spec_sorts.proofs.General.{list_of-terms_of}
use Rattle.term_core.specs.declared.ids.TermId.{TermId}
use Rattle.term_core.specs.declared.ids.SymbolId.{SymbolId}
use Rattle.term_core.specs.declared.sorts.Sort.{Sort as TableSort}
use Rattle.term_core.specs.declared.sorts.Sort.TheVariants.{Bool as bool_sort, Real as real_sort, Declared as declared_sort}
use Rattle.term_core.specs.declared.nodes.Head.{Head as NodeHead}
use Rattle.term_core.specs.declared.nodes.Head.TheVariants as heads
use Rattle.term_core.specs.declared.nodes.Node.{Node}
use Rattle.term_core.specs.NameLists.{HaveNoTwice}
use Rattle.term_core.specs.Symbols.{SymbolsView, HasSortIn, sort_meant, no_symbol, symbol_at, names_of, IsSymbol, AreDeclared}
use Rattle.term_core.specs.Tables.{view, AreIn, clause_at, head_over, IsHeadIn, Shape, no_shape, shape_of, shapes_of, ShapeFits, shape_term, AreDifferent, grown, NodesFit}
use Rattle.term_core.proofs.ShapesGrown.{IsAt, grown-at, terms-length, at-term, at-fits}

abbrev IsApply : Head → Type 0
IsApply (Apply s) = Unit {0}
IsApply h = ⊥

abbrev IsLiteral : Head → Type 0
IsLiteral (Literal q) = Unit {0}
IsLiteral h = ⊥

abbrev IsParameter : Head → Type 0
IsParameter (Parameter k s) = Unit {0}
IsParameter h = ⊥

abbrev symbol_in : Head → Symbol
symbol_in (Apply s) = s
symbol_in h = no_symbol

abbrev fraction_in : Head → Fraction
fraction_in (Literal q) = q
fraction_in h = zero_fraction

abbrev number_in : Head → ℕ
number_in (Parameter k s) = k
number_in h = 0

abbrev sort_in : Head → Sort
sort_in (Parameter k s) = s
sort_in h = Truth

-- the word of the code for a head that has nothing besides it
abbrev word_of : Head → NodeHead
word_of True = heads.True
word_of False = heads.False
word_of Not = heads.Not
word_of And = heads.And
word_of Or = heads.Or
word_of Xor = heads.Xor
word_of Implies = heads.Implies
word_of Equal = heads.Equal
word_of Ite = heads.Ite
word_of Minus = heads.Minus
word_of Plus = heads.Plus
word_of Times = heads.Times
word_of Divide = heads.Divide
word_of Less = heads.Less
word_of AtMost = heads.AtMost
word_of _ = heads.Ite

abbrev IsDeclaredSort : Sort → Type 0
IsDeclaredSort (Declared n) = Unit {0}
IsDeclaredSort s = ⊥

abbrev name_in : Sort → Name
name_in (Declared n) = n
name_in s = []

-- the word of the code for a sort that is not declared
abbrev sort_word : Sort → TableSort
sort_word Number = real_sort
sort_word _ = bool_sort

-- sorts that mean the same are one
pub one_sort : (sorts : List Name) (s t : TableSort) → HaveNoTwice sorts → HasSortIn sorts s → HasSortIn sorts t → sort_meant sorts s ≡ sort_meant sorts t → s ≡ t
one_sort sorts (declared_sort a) (declared_sort b) apart in_s in_t e = ap (λ n. declared_sort (record { 0 = n })) (apart a.0 b.0 in_s in_t (ap name_in e))
one_sort sorts (declared_sort a) _ apart in_s in_t e = absurd (subst IsDeclaredSort e tt)
one_sort sorts _ (declared_sort b) apart in_s in_t e = absurd (subst IsDeclaredSort (sym e) tt)
one_sort sorts _ _ apart in_s in_t e = ap sort_word e

pub one_symbol : (symbols : List Symbol) (a b : SymbolId) → HaveNoTwice (names_of symbols) → IsSymbol symbols a → IsSymbol symbols b → symbol_at symbols a ≡ symbol_at symbols b → a ≡ b
one_symbol symbols a b apart in_a in_b e =
    let name : Symbol → List ℕ = λ s. s.name in
    let long = length-map symbols name in
    let at_a = get_or-map name symbols a.0 no_symbol [] in_a in
    let at_b = get_or-map name symbols b.0 no_symbol [] in_b in
    ap (λ n. record { 0 = n }) (apart a.0 b.0 (omega (arith, long, in_a)) (omega (arith, long, in_b)) (at_a ∙ ap name e ∙ sym at_b))

-- heads that are read alike are one
one_head : (d : SymbolsView) (g h : NodeHead) → AreDeclared d.sorts d.symbols → IsHeadIn d.sorts d.symbols g → IsHeadIn d.sorts d.symbols h → head_over d.sorts d.symbols g ≡ head_over d.sorts d.symbols h → g ≡ h
one_head d (heads.Apply a) (heads.Apply b) apart in_g in_h e = ap heads.Apply (one_symbol d.symbols a b apart.names_apart in_g in_h (ap symbol_in e))
one_head d (heads.Apply a) _ apart in_g in_h e = absurd (subst IsApply e tt)
one_head d _ (heads.Apply b) apart in_g in_h e = absurd (subst IsApply (sym e) tt)
one_head d (heads.Literal a) (heads.Literal b) apart in_g in_h e = ap heads.Literal (same_ratio a b (ap fraction_in e))
one_head d (heads.Literal a) _ apart in_g in_h e = absurd (subst IsLiteral e tt)
one_head d _ (heads.Literal b) apart in_g in_h e = absurd (subst IsLiteral (sym e) tt)
one_head d (heads.Parameter j s) (heads.Parameter k t) apart in_g in_h e = λ i. heads.Parameter (number_in (e i)) (one_sort d.sorts s t apart.sorts_apart in_g in_h (ap sort_in e) i)
one_head d (heads.Parameter j s) _ apart in_g in_h e = absurd (subst IsParameter e tt)
one_head d _ (heads.Parameter k t) apart in_g in_h e = absurd (subst IsParameter (sym e) tt)
one_head d _ _ apart in_g in_h e = ap word_of e

abbrev head_in : Term → Head
head_in (app h ts) = h

abbrev terms_in : Term → List Term
terms_in (app h ts) = list_of ts

abbrev first_of : List Term → Term
first_of [] = no_term
first_of (t ∷ ts) = t

abbrev rest_of : List Term → List Term
rest_of [] = []
rest_of (t ∷ ts) = ts

module _ (terms : List Term) (k : ℕ) (told : (i j : ℕ) → i < k → j < length terms → get_or terms i no_term ≡ get_or terms j no_term → i ≡ j) where
  -- arguments that are read alike are the same
  one_list : (d : SymbolsView) (xs ys : List TermId) → ((j : ℕ) (x : TermId) → j < length xs → (get_or xs j x).0 < k) → AreIn (view d terms) ys
      → clause_at (view d terms) xs ≡ clause_at (view d terms) ys → xs ≡ ys
  one_list d [] [] low there e = refl
  one_list d (x ∷ xs) (y ∷ ys) low there e =
      let same : x ≡ y = ap (λ n. record { 0 = n }) (told x.0 y.0 (low 0 x (omega arith)) (there 0 y (omega arith)) (ap first_of e)) in
      let others : xs ≡ ys = one_list d xs ys (λ j u lt. low (suc j) u (omega (arith, lt))) (λ j u lt. there (suc j) u (omega (arith, lt))) (ap rest_of e) in
      λ i. same i ∷ others i
  one_list d [] (y ∷ ys) low there e = absurd (omega (arith, ap length e))
  one_list d (x ∷ xs) [] low there e = absurd (omega (arith, ap length e))

  -- so is what is written
  pub one_shape : (d : SymbolsView) (s u : Shape) → AreDeclared d.sorts d.symbols → ((j : ℕ) (x : TermId) → j < length s.arguments → (get_or s.arguments j x).0 < k)
      → IsHeadIn d.sorts d.symbols s.head → ShapeFits (view d terms) u → shape_term (view d terms) s ≡ shape_term (view d terms) u → s ≡ u
  one_shape d s u apart low here fits e =
      let heads_one = one_head d s.head u.head apart here fits.head (ap head_in e) in
      let lists_one = one_list d s.arguments u.arguments low fits.arguments (sym (list_of-terms_of _) ∙ ap terms_in e ∙ list_of-terms_of _) in
      λ i. record { head = heads_one i; arguments = lists_one i }

module _ (d : SymbolsView) (nodes : List Node) (whole : NodesFit d nodes) where
  abbrev terms : List Term
  terms = grown d [] (shapes_of nodes)

  abbrev shape : ℕ → Shape
  shape i = get_or (shapes_of nodes) i no_shape

  long : length terms ≡ length (shapes_of nodes)
  long = terms-length d nodes ∙ sym (length-map nodes shape_of)

  pub at : (i : ℕ) → i < length terms → IsAt d terms (shape i) i
  at i lt = grown-at d [] (shapes_of nodes) i i whole.before (omega (arith, lt, long)) (omega arith)

  -- what a node says is at its number
  pub node_at : (keys : List Node) (node : Node) (j : ℕ) → keys ≡ nodes → j < length terms → node ≡ get_or keys j node → IsAt d terms (shape_of node) j
  node_at keys node j is lt e =
      let within : j < length nodes = omega (arith, lt, terms-length d nodes) in
      let same : shape j ≡ shape_of node = get_or-map shape_of nodes j node no_shape within ∙ ap (λ l. shape_of (get_or l j node)) (sym is) ∙ ap shape_of (sym e) in
      subst (λ (s : Shape). IsAt d terms s j) same (at j lt)

  below : (k : ℕ) (i j : ℕ) → i < k → i < length terms → j < length terms → get_or terms i no_term ≡ get_or terms j no_term → i ≡ j
  below zero i j lt in_i in_j e = omega (arith, lt)
  below (suc k) i j lt in_i in_j e =
      let at_i = at i in_i in
      let at_j = at j in_j in
      whole.nodes_apart i j (omega (arith, in_i, long)) (omega (arith, in_j, long))
      (one_shape terms i (λ a b la lb s. below k a b (omega (arith, la, lt)) (omega (arith, la, in_i)) lb s) d (shape i) (shape j) whole.declared
      (λ m u lm. omega (arith, at_i.fits.arguments m u lm, at_i.long)) (at-fits d terms (shape i) i at_i).head (at-fits d terms (shape j) j at_j)
      (sym (at-term d terms (shape i) i at_i) ∙ e ∙ at-term d terms (shape j) j at_j))

  pub terms_apart : AreDifferent terms
  terms_apart i j in_i in_j e = below (suc i) i j (omega arith) in_i in_j e
