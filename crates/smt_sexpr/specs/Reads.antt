-- What reading the next s-expression comes to. Source: SMT-LIB 2.6, section 3.2.
use Rattle.std.specs.Prelude.{◌≡◌, ◌+◌, ◌<◌, ℕ, List, [], ◌∷◌, ◌++◌, length, Result, Ok, Err, Vec}
use Rattle.std.specs.Global.{Global}
use Rattle.spec_text.specs.declared.Place.{Place}
use Rattle.spec_text.specs.Places.{IsPlaceOf}
use Rattle.spec_text.specs.Lexemes.{Lexeme, opens, closes, lexemes_from}
use Rattle.spec_text.specs.Trees.{Tree, none, more, spelled, offset_of}
use Rattle.spec_text.specs.Readings.{IsBroken}
use Rattle.smt_lexer.specs.declared.Refusal.{Refusal}
use Rattle.smt_lexer.specs.declared.Refused.{Refused}
use Rattle.smt_lexer.specs.declared.Refused.TheVariants as refused
use Rattle.smt_sexpr.specs.declared.items.Item.{Item}
use Rattle.smt_sexpr.specs.Means.{trees_in, flat}
use Rattle.smt_sexpr.specs.declared.reader.NextSexpr.{NextSexpr}
use Rattle.smt_sexpr.specs.declared.reader.NextSexpr.TheVariants as next
use Rattle.smt_sexpr.specs.declared.sexpr.Sexpr.{Sexpr}
use Rattle.smt_sexpr.specs.Items.{text_of, items_of, start_of, tree_of, IsWithin}

-- the lexemes begin with the tree that an s-expression is, up to a place
pub record IsFirst (text : List ℕ) (xs : List (ℕ × Lexeme)) (s : Sexpr) (after : Place) : Type 0 where
  -- it is in this text
  pub text_is : text_of s ≡ text
  -- its tree is the first, and the other lexemes come from the place on
  pub first : xs ≡ spelled (tree_of s) ++ lexemes_from text after.offset
  -- its items mean that tree, and nothing else
  pub means : trees_in text (items_of s) ≡ more (tree_of s) none
  -- the tree begins where the s-expression does
  pub start : offset_of (tree_of s) ≡ start_of s
  -- each of its offsets has a place, from the s-expression's own on
  pub offsets : IsWithin (start_of s) (length text) (tree_of s)
  -- the place after it is one of the text
  pub place : IsPlaceOf text after

-- an s-expression is from a place on up to another
pub record ReadsSexpr (text : List ℕ) (from : Place) (s : Sexpr) (after : Place) : Type 0 where
  -- its tree is the first from there on
  pub is : IsFirst text (lexemes_from text from.offset) s after
  -- it has one byte at least
  pub longer : from.offset < after.offset

-- in n open lists the innermost ends, right before a place
pub record Closes (text : List ℕ) (from : Place) (n : ℕ) (after : Place) : Type 0 where
  -- there is one
  pub some : 0 < n
  -- the offset of its parenthesis
  pub at : ℕ
  -- it is the first lexeme from there on, and the others come from the place on
  pub first : lexemes_from text from.offset ≡ (at, closes) ∷ lexemes_from text after.offset
  -- it is one byte
  pub size : after.offset ≡ at + 1
  -- the place is one of the text
  pub place : IsPlaceOf text after
  -- it is after the one that was read from
  pub longer : from.offset < after.offset

-- in n open lists the lexemes have a fault before a whole tree and before the end of a list, at this place
abbrev pub Breaks : List ℕ → ℕ → List (ℕ × Lexeme) → Refusal → Type 0
Breaks text n xs r = IsBroken (length text) n xs (record { offset = r.place.offset; fault = r.fault })
    × IsPlaceOf text r.place

-- an s-expression, or the end of the innermost open list, or nothing but white space and comments, or a fault
abbrev pub ReadsNext : List ℕ → Place → ℕ → Result NextSexpr Refused → Type 0
ReadsNext text from n (Ok (next.One s after)) = ReadsSexpr text from s after
ReadsNext text from n (Ok (next.Close after)) = Closes text from n after
ReadsNext text from n (Ok next.End) = (n ≡ 0) × (lexemes_from text from.offset ≡ [])
ReadsNext text from n (Err (refused.Fault r)) = Breaks text n (lexemes_from text from.offset) r
ReadsNext text from n (Err refused.Memory) = Unit {0}

-- the lexemes begin with the tree whose items these are, up to a place
pub record BeginsWith (text : List ℕ) (xs : List (ℕ × Lexeme)) (is : List Item) (after : Place) : Type 0 where
  -- the tree
  pub tree : Tree
  -- its items
  pub items : is ≡ flat tree
  -- it is the first, and the other lexemes come from the place on
  pub first : xs ≡ spelled tree ++ lexemes_from text after.offset
  -- the place after it is one of the text
  pub place : IsPlaceOf text after

-- in n open lists, a list that began at an offset, and was read up to a place, comes to its end, or a fault is before
abbrev pub ReadsList : List ℕ → ℕ → ℕ → Place → Result (Vec Item Global × Place) Refused → Type 0
ReadsList text n start behind (Ok x) =
    BeginsWith text ((start, opens) ∷ lexemes_from text behind.offset) x.0.items x.1 × (behind.offset < x.1.offset)
ReadsList text n start behind (Err (refused.Fault r)) =
    Breaks text n ((start, opens) ∷ lexemes_from text behind.offset) r
ReadsList text n start behind (Err refused.Memory) = Unit {0}
