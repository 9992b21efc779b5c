-- What a table keeps of each term besides its node.
use Rattle.std.specs.Prelude.{◌≡◌, ℕ, ◌<◌, ◌≤◌, true, false, List, [], length, get_or}
use Rattle.spec_text.specs.Bytes.{Name}
use Rattle.spec_sorts.specs.Terms.{Term, no_term, sort_of}
use Rattle.spec_sorts.specs.Literals.{literal_of}
use Rattle.spec_sorts.specs.Theory.{is_constant, is_divisor, is_zero_divisor}
use Rattle.term_core.specs.declared.facts.Facts.{Facts}
use Rattle.term_core.specs.declared.ids.Lit.{Lit}
use Rattle.term_core.specs.declared.nodes.Node.{Node}
use Rattle.term_core.specs.declared.sorts.Sort.TheVariants.{Bool as bool_sort}
use Rattle.term_core.specs.Symbols.{SymbolsView, HasSortIn, sort_meant}
use Rattle.term_core.specs.Tables.{grown, shapes_of, NodesFit}

-- the facts are those of a term
pub record IsFacts (sorts : List Name) (t : Term) (f : Facts) : Type 0 where
  -- the sort is there
  pub there : HasSortIn sorts f.sort
  -- it is the term's
  pub sort : sort_meant sorts f.sort ≡ sort_of t
  -- whether the term is constant
  pub constant : f.constant ≡ is_constant t
  -- whether it may be a divisor
  pub divisor : f.divisor ≡ is_divisor t
  -- whether it is zero as a divisor
  pub zero : f.zero ≡ is_zero_divisor t

-- the literal that facts say
abbrev pub literal_kept : Facts → Lit
literal_kept f = record { term = f.left; positive = f.even }

-- A literal is that of the term of a number, by a number that is no greater.
pub record IsLiteralAt (terms : List Term) (k : ℕ) (l : Lit) : Type 0 where
  -- what is left was there before the term, or is the term
  pub low : l.term.0 ≤ k
  -- it is the term's literal
  pub same : record { atom = get_or terms l.term.0 no_term; positive = l.positive }
      ≡ literal_of (get_or terms k no_term)

-- what no number of facts means
abbrev pub no_facts : Facts
no_facts = record {
  sort = bool_sort;
  constant = false;
  divisor = false;
  zero = false;
  left = record { 0 = 0 };
  even = true;
}

-- The facts of terms, each by its term's number.
pub record AreFacts (sorts : List Name) (terms : List Term) (facts : List Facts) : Type 0 where
  -- as many facts as terms
  pub long : length facts ≡ length terms
  -- each is right
  pub right : (k : ℕ) → k < length terms → IsFacts sorts (get_or terms k no_term) (get_or facts k no_facts)
  -- each has the literal of its term
  pub literals : (k : ℕ) → k < length terms → IsLiteralAt terms k (literal_kept (get_or facts k no_facts))

-- Sorts, symbols and nodes that represent a table, with the facts of its terms.
pub record TableFits (d : SymbolsView) (nodes : List Node) (facts : List Facts) : Type 0 where
  -- they represent a table
  pub whole : NodesFit d nodes
  -- the facts are those of its terms
  pub right : AreFacts d.sorts (grown d [] (shapes_of nodes)) facts
