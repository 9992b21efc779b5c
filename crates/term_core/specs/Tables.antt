-- What a table of terms holds.
use Rattle.std.specs.Prelude.{◌≡◌, ℕ, ◌<◌, Bool, true, ◌++◌, ◌∷◌, List, [], length, map, All, slice_index_or, refl}
use Rattle.std.specs.Coded.{Coded, code_by, coded×, coded_list}
use Rattle.spec_text.specs.Bytes.{Name}
use Rattle.spec_sorts.specs.Terms.{Sort, Symbol, Head, True, False, Not, And, Or, Xor, Implies, Equal, Ite, Minus, Plus}
use Rattle.spec_sorts.specs.Terms.{Times, Divide, Less, AtMost, Literal, Apply, Parameter, Term, no_term, of, sort_of}
use Rattle.spec_sorts.specs.Terms.{has_parameter, head_takes}
use Rattle.spec_sorts.specs.TermCodes.{name_code, symbol_code, term_code}
use Rattle.spec_sorts.specs.Literals.{Clause, Literal as TermLiteral}
use Rattle.ratio128.specs.Meant.{fraction}
use Rattle.term_core.specs.declared.ids.TermId.{TermId}
use Rattle.term_core.specs.declared.ids.Lit.{Lit}
use Rattle.term_core.specs.declared.nodes.Head.{Head as NodeHead}
use Rattle.term_core.specs.declared.nodes.Head.TheVariants as heads
use Rattle.term_core.specs.declared.nodes.Node.{Node}
use Rattle.term_core.specs.NameLists.{AreApart}
use Rattle.term_core.specs.Symbols.{SymbolsView, HasSortIn, sort_meant, symbol_at, IsSymbol, AreDeclared}

-- The declared sorts and symbols, oldest first, and the terms, each as it is read.
pub record TableView : Type 0 where
  -- the name of each sort's number
  pub sorts : List Name
  -- the symbol of each number
  pub symbols : List Symbol
  -- the term of each number
  pub terms : List Term

-- tables differ where their sorts, symbols or terms do
abbrev pub table_code : Coded TableView
table_code = code_by (List Name × (List Symbol × List Term))
    (coded× (coded_list name_code) (coded× (coded_list symbol_code) (coded_list term_code)))
    (λ t. (t.sorts, (t.symbols, t.terms))) (λ p. record { sorts = p.0; symbols = p.1.0; terms = p.1.1 }) (λ _. refl)

-- the sorts and symbols of a table
abbrev pub declared_in : TableView → SymbolsView
declared_in t = record { sorts = t.sorts; symbols = t.symbols }

-- the term of a number
abbrev pub term_at : TableView → TermId → Term
term_at t id = slice_index_or t.terms id.0 no_term

-- the number is one of the table's
abbrev pub IsIn : TableView → TermId → Type 0
IsIn t id = id.0 < length t.terms

-- the numbers are of the table's
abbrev pub AreIn : TableView → List TermId → Type 0
AreIn t ids = All (λ id. IsIn t id) ids

-- the terms of numbers
abbrev pub clause_at : TableView → List TermId → Clause
clause_at t ids = map (term_at t) ids

-- the literal of a number and a sign
abbrev pub literal_at : TableView → Lit → TermLiteral
literal_at t l = record { atom = term_at t l.term; positive = l.positive }

-- the head that the code's word means over these sorts and symbols
abbrev pub head_over : List Name → List Symbol → NodeHead → Head
head_over sorts symbols heads.True = True
head_over sorts symbols heads.False = False
head_over sorts symbols heads.Not = Not
head_over sorts symbols heads.And = And
head_over sorts symbols heads.Or = Or
head_over sorts symbols heads.Xor = Xor
head_over sorts symbols heads.Implies = Implies
head_over sorts symbols heads.Equal = Equal
head_over sorts symbols heads.Ite = Ite
head_over sorts symbols heads.Minus = Minus
head_over sorts symbols heads.Plus = Plus
head_over sorts symbols heads.Times = Times
head_over sorts symbols heads.Divide = Divide
head_over sorts symbols heads.Less = Less
head_over sorts symbols heads.AtMost = AtMost
head_over sorts symbols (heads.Literal q) = Literal (fraction q)
head_over sorts symbols (heads.Apply s) = Apply (symbol_at symbols s)
head_over sorts symbols (heads.Parameter k s) = Parameter k (sort_meant sorts s)

-- the head that the code's word means in a table
abbrev pub head_meant : TableView → NodeHead → Head
head_meant t h = head_over t.sorts t.symbols h

-- the symbol of a head, or the sort of a parameter, is there
abbrev pub IsHeadIn : List Name → List Symbol → NodeHead → Type 0
IsHeadIn sorts symbols (heads.Apply s) = IsSymbol symbols s
IsHeadIn sorts symbols (heads.Parameter k s) = HasSortIn sorts s
IsHeadIn sorts symbols h = Unit {0}

-- what a head names is there in a table
abbrev pub HasHead : TableView → NodeHead → Type 0
HasHead t h = IsHeadIn t.sorts t.symbols h

-- the head takes arguments of these sorts; a parameter takes none, and its number and sort are free
abbrev pub takes : Head → List Sort → Bool
takes (Parameter k s) [] = true
takes h ss = head_takes [] h ss

-- a parameter that is a head has the sort of its number among these
abbrev pub IsParameterAmong : List Sort → Head → Type 0
IsParameterAmong ps (Parameter k s) = has_parameter ps k s ≡ true
IsParameterAmong ps h = Unit {0}

-- What a node says: its head, and the numbers of its arguments.
pub record Shape : Type 0 where
  -- the head
  pub head : NodeHead
  -- the arguments, in order
  pub arguments : List TermId

-- what a node says
abbrev pub shape_of : Node → Shape
shape_of n = record { head = n.head; arguments = n.arguments.items }

-- what no number of nodes means
abbrev pub no_shape : Shape
no_shape = record { head = heads.True; arguments = [] }

-- What it names is there, and its head takes arguments of their sorts.
pub record ShapeFits (t : TableView) (s : Shape) : Type 0 where
  -- what the head names is there
  pub head : HasHead t s.head
  -- each argument is a term of the table
  pub arguments : AreIn t s.arguments
  -- the head takes them
  pub sorts : takes (head_meant t s.head) (map sort_of (clause_at t s.arguments)) ≡ true

-- what a node names is there, and its head takes arguments of their sorts
abbrev pub IsPlaced : TableView → Node → Type 0
IsPlaced t n = ShapeFits t (shape_of n)

-- the term that is so written
abbrev pub shape_term : TableView → Shape → Term
shape_term t s = of (head_meant t s.head) (clause_at t s.arguments)

-- the term that a node means
abbrev pub node_term : TableView → Node → Term
node_term t n = shape_term t (shape_of n)

-- the arguments have numbers below n
abbrev pub NamesBelow : ℕ → Node → Type 0
NamesBelow n node = All (λ id. id.0 < n) node.arguments.items

-- different numbers mean different terms
abbrev pub AreDifferent : List Term → Type 0
AreDifferent ts = AreApart no_term ts

-- The table has all that it had, by the same numbers.
pub record Extends (old new : TableView) : Type 0 where
  -- the sorts that came
  pub more_sorts : List Name
  -- they come after those that were there
  pub sorts : new.sorts ≡ old.sorts ++ more_sorts
  -- the symbols that came
  pub more_symbols : List Symbol
  -- they come after those that were there
  pub symbols : new.symbols ≡ old.symbols ++ more_symbols
  -- the terms that came
  pub more_terms : List Term
  -- they come after those that were there
  pub terms : new.terms ≡ old.terms ++ more_terms

-- a table of these
abbrev pub view : SymbolsView → List Term → TableView
view d terms = record { sorts = d.sorts; symbols = d.symbols; terms = terms }

-- each names what comes before it, of sorts that it takes; the first comes after the terms done
abbrev pub AreBefore : SymbolsView → List Term → List Shape → Type 0
AreBefore d done [] = Unit {0}
AreBefore d done (s ∷ ss) = ShapeFits (view d done) s × AreBefore d (done ++ shape_term (view d done) s ∷ []) ss

-- the terms done, and after them each that is so written
abbrev pub grown : SymbolsView → List Term → List Shape → List Term
grown d done [] = done
grown d done (s ∷ ss) = grown d (done ++ shape_term (view d done) s ∷ []) ss

-- what nodes say, in order
abbrev pub shapes_of : List Node → List Shape
shapes_of nodes = map shape_of nodes

-- the sorts and symbols, and the terms of nodes
abbrev pub table_of : SymbolsView → List Node → TableView
table_of d nodes = view d (grown d [] (shapes_of nodes))

-- Sorts, symbols and nodes that represent a table: no name and no node twice, each node after what it names.
pub record NodesFit (d : SymbolsView) (nodes : List Node) : Type 0 where
  -- the sorts and symbols by their numbers
  pub declared : AreDeclared d.sorts d.symbols
  -- no node occurs twice
  pub nodes_apart : AreApart no_shape (shapes_of nodes)
  -- each comes after what it names
  pub before : AreBefore d [] (shapes_of nodes)

-- the term as it is
abbrev pub positive_literal : Term → TermLiteral
positive_literal t = record { atom = t; positive = true }
