-- How an s-expression is printed. Source: SMT-LIB 2.6, sections 3.1 and 3.2; where white space is, own.
use Rattle.std.specs.Prelude.{◌≡◌, ℕ, Bool, true, false, ◌&&◌, not, List, [], ◌∷◌, ◌++◌, if◌then◌else◌}
use Rattle.spec_text.specs.declared.Kind.{Kind}
use Rattle.spec_text.specs.declared.Kind.TheVariants.{Text, Simple, Quoted, Keyword}
use Rattle.spec_text.specs.Bytes.{Name, is_digit, is_symbol_byte, among, reserved_words}
use Rattle.spec_text.specs.Trees.{Tree, Trees, atom, list, none, more}

-- whether all bytes pass a test
abbrev pub all_pass : (ℕ → Bool) → List ℕ → Bool
all_pass test [] = true
all_pass test (b ∷ bs) = test b && all_pass test bs

-- whether a name may be written without bars: bytes of symbols, the first of them no digit, that are no reserved word
abbrev pub is_bare : Name → Bool
is_bare [] = false
is_bare (b ∷ bs) = not (is_digit b) && all_pass is_symbol_byte (b ∷ bs) && not (among reserved_words (b ∷ bs))

-- a symbol by its name, in bars only where it must be
abbrev pub printed_symbol : Name → List ℕ
printed_symbol name = if is_bare name then name else 124 ∷ name ++ 124 ∷ []

-- a word as it is written, with its quotes or its colon, but for the bars
abbrev pub printed_word : Kind → List ℕ → List ℕ
printed_word Text bytes = 34 ∷ bytes ++ 34 ∷ []
printed_word Keyword bytes = 58 ∷ bytes
printed_word Quoted bytes = printed_symbol bytes
printed_word _ bytes = bytes

-- one space between trees, and none inside the parentheses
abbrev mutual
  -- a tree
  pub printed : Tree → List ℕ
  printed (atom at k bytes) = printed_word k bytes
  printed (list at ts end) = 40 ∷ printed_all ts ++ 41 ∷ []

  -- trees, one after the other
  pub printed_all : Trees → List ℕ
  printed_all none = []
  printed_all (more t none) = printed t
  printed_all (more t (more u us)) = printed t ++ 32 ∷ printed_all (more u us)

-- what a word is, but for bars
abbrev pub without_bars : Kind → Kind
without_bars Quoted = Simple
without_bars k = k

-- equal but for offsets and bars
abbrev mutual
  -- trees
  pub SameTree : Tree → Tree → Type 0
  SameTree (atom at k bytes) (atom at' k' bytes') = (without_bars k ≡ without_bars k') × (bytes ≡ bytes')
  SameTree (list at ts end) (list at' us end') = SameTrees ts us
  SameTree _ _ = ⊥

  -- trees, one after the other
  pub SameTrees : Trees → Trees → Type 0
  SameTrees none none = Unit {0}
  SameTrees (more t ts) (more u us) = SameTree t u × SameTrees ts us
  SameTrees _ _ = ⊥
