-- What trees begin with: the steps in which commands are read.
use Rattle.std.specs.Prelude.{ℕ, Bool, true, false, ◌&&◌, List, [], ◌∷◌, Option, Some, None, if◌then◌else◌}
use Rattle.std.specs.Str.{bytes_eq}
use Rattle.spec_text.specs.declared.Kind.{Kind}
use Rattle.spec_text.specs.declared.Kind.TheVariants.{Simple, Quoted, Reserved, Keyword}
use Rattle.spec_text.specs.Bytes.{Name}
use Rattle.spec_text.specs.Trees.{Tree, Trees, atom, list, none, more}

infixl 20 ◌>>=◌
-- what follows, where there is something
abbrev pub ◌>>=◌ : {A B : Type 0} → Option A → (A → Option B) → Option B
(Some a) >>= f = f a
None >>= f = None

-- a test, before what it lets through
abbrev pub only_if : {A : Type 0} → Bool → A → Option A
only_if test a = if test then Some a else None

-- a test alone
abbrev pub passes : Bool → Option (Unit {0})
passes test = if test then Some tt else None

-- An atom by its offset, its kind and its own bytes.
pub record Word : Type 0 where
  -- the offset of its first byte
  pub at : ℕ
  -- what it is
  pub kind : Kind
  -- its bytes, without quotes, bars or colon
  pub bytes : List ℕ

-- an atom, and what follows it
abbrev pub first_word : Trees → Option (Word × Trees)
first_word (more (atom at k bytes) ts) = Some (record { at = at; kind = k; bytes = bytes }, ts)
first_word _ = None

-- what is in a list, and what follows it
abbrev pub first_list : Trees → Option (Trees × Trees)
first_list (more (list at us end) ts) = Some (us, ts)
first_list _ = None

-- the only one
abbrev pub only_tree : Trees → Option Tree
only_tree (more t none) = Some t
only_tree _ = None

-- no more
abbrev pub no_tree : Trees → Option (Unit {0})
no_tree none = Some tt
no_tree _ = None

-- a list by its offset and what is in it
abbrev pub inside_of : Tree → Option (ℕ × Trees)
inside_of (atom at k bytes) = None
inside_of (list at ts end) = Some (at, ts)

-- a symbol, with bars or without
abbrev pub is_symbol : Kind → Bool
is_symbol Simple = true
is_symbol Quoted = true
is_symbol _ = false

-- a symbol without bars
abbrev pub is_simple : Kind → Bool
is_simple Simple = true
is_simple _ = false

-- a keyword
abbrev pub is_keyword : Kind → Bool
is_keyword Keyword = true
is_keyword _ = false

-- a reserved word
abbrev pub is_reserved : Kind → Bool
is_reserved Reserved = true
is_reserved _ = false

-- whether an atom is this symbol
abbrev pub is_word : Name → Word → Bool
is_word n w = is_symbol w.kind && bytes_eq w.bytes n

-- this symbol, and no other word
abbrev pub wanted : Name → Word → Option (Unit {0})
wanted n w = only_if (is_word n w) tt

-- this keyword, and no other word
abbrev pub wanted_keyword : Name → Word → Option (Unit {0})
wanted_keyword n w = only_if (is_keyword w.kind && bytes_eq w.bytes n) tt

-- each tree in its turn
unfoldable pub each : {A : Type 0} → (Tree → Option A) → Trees → Option (List A)
each f none = Some []
each f (more t ts) = f t >>= λ x. each f ts >>= λ xs. Some (x ∷ xs)
