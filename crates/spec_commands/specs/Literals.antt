-- The literals that a check may assume. Source: SMT-LIB 2.6, section 4.2.5; the order of faults is own.
use Rattle.std.specs.Prelude.{ℕ, Bool, true, false, ◌&&◌, List, [], ◌∷◌, Option, Some, None, Ok, codes}
use Rattle.std.specs.Str.{bytes_eq}
use Rattle.spec_text.specs.declared.Fault.TheVariants.{UnknownSymbol, NotLiteral}
use Rattle.spec_text.specs.Answers.{Answer, ◌>>=◌, refused, require}
use Rattle.spec_text.specs.Shapes.{Word, is_symbol}
use Rattle.spec_text.specs.Trees.{Tree, atom, list, none, more, offset_of}
use Rattle.spec_sorts.specs.Terms.{Truth, Term, same_sort}
use Rattle.spec_sorts.specs.Theory.{is_of_theory}
use Rattle.spec_sorts.specs.Signatures.{Known, declared, defined, Signature, known_as}
use Rattle.spec_reading.specs.Names.{script}
use Rattle.spec_reading.specs.Reading.{reading_of_sort}

-- a list without elements
abbrev is_empty : {A : Type 0} → List A → Bool
is_empty [] = true
is_empty (a ∷ rest) = false

-- a function without parameters that gives a truth value
abbrev pub is_proposition : Known → Bool
is_proposition (declared f) = is_empty f.parameters && same_sort Truth f.result
is_proposition (defined d) = is_empty d.parameters && same_sort Truth d.result

-- a word, where it is a symbol
abbrev pub symbol_if : Bool → Word → Option Word
symbol_if true x = Some x
symbol_if false x = None

-- the symbol that a text is, or that it has after `not`
abbrev pub literal_symbol : Tree → Option Word
literal_symbol (atom at k n) = symbol_if (is_symbol k) (record { at = at; kind = k; bytes = n })
literal_symbol (list at (more (atom place j m) (more (atom x k n) none)) end) =
    symbol_if (is_symbol j && bytes_eq m (codes "not") && is_symbol k) (record { at = x; kind = k; bytes = n })
literal_symbol t = None

-- what the symbol of an item means: a declared or defined name of sort Bool without parameters, and none of a theory
abbrev pub proposition_by : ℕ → Word → Bool → Option Known → Answer Known
proposition_by item x true k = refused item NotLiteral
proposition_by item x false None = refused x.at UnknownSymbol
proposition_by item x false (Some k) = require (is_proposition k) item NotLiteral >>= λ fits. Ok k

-- what the symbol of an item at an offset means
abbrev pub proposition_of : Signature → ℕ → Option Word → Answer Known
proposition_of s item None = refused item NotLiteral
proposition_of s item (Some x) = proposition_by item x (is_of_theory x.bytes) (known_as s x.bytes)

-- the term of a literal: a name that is declared or defined, without parameters and of sort Bool, or its negation
abbrev pub literal_in : Signature → Tree → Answer Term
literal_in s t =
    proposition_of s (offset_of t) (literal_symbol t) >>= λ k.
    reading_of_sort script s [] Truth t >>= λ r.
    Ok r.term
