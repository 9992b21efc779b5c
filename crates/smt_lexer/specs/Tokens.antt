-- What the next token says of the lexemes from an offset on.
use Rattle.std.specs.Prelude.{◌≡◌, ◌+◌, ◌<◌, ◌≤◌, ℕ, List, [], ◌∷◌, length, drop, slice_index, Result, Ok, Err}
use Rattle.spec_text.specs.declared.Place.{Place}
use Rattle.spec_text.specs.Places.{IsPlaceOf}
use Rattle.spec_text.specs.Lexemes.{Lexeme, opens, closes, word, wrong, Piece, first_piece, lexemes_from}
use Rattle.smt_lexer.specs.declared.TokenKind.{TokenKind}
use Rattle.smt_lexer.specs.declared.TokenKind.TheVariants.{Open, Close, Word, End}
use Rattle.smt_lexer.specs.declared.Token.{Token}
use Rattle.smt_lexer.specs.declared.Refusal.{Refusal}

-- what the byte at an offset and the bytes after it begin with, and how many of them it has
abbrev pub piece_from : List ℕ → ℕ → Piece
piece_from text at = first_piece (slice_index text at) (drop (at + 1) text)

-- The first lexeme from an offset on is at a place, up to another place, and the others come from there on. Before it
-- is nothing but white space and comments, for `lexemes_from` passes over nothing else.
pub record IsFirstLexeme (text : List ℕ) (from : ℕ) (place after : Place) (x : Lexeme) : Type 0 where
  -- it is the first, and the others are those after it
  pub first : lexemes_from text from ≡ (place.offset, x) ∷ lexemes_from text after.offset
  -- it is at the offset or after it
  pub behind : from ≤ place.offset
  -- it has one byte at least
  pub longer : place.offset < after.offset
  -- it is what the bytes at the place begin with
  pub own : (piece_from text place.offset).lexeme ≡ x
  -- it ends right after its own bytes: what white space follows comes after that
  pub ends : after.offset ≡ place.offset + (piece_from text place.offset).size

-- no lexeme comes from an offset on, and the place is the end of the text
pub record EndsLexemes (text : List ℕ) (from : ℕ) (place after : Place) : Type 0 where
  pub nothing : lexemes_from text from ≡ []
  pub place_end : place.offset ≡ length text
  pub after_end : after ≡ place

-- the token that begins at a place, up to another, is the next from an offset on
abbrev pub IsToken : List ℕ → ℕ → Place → Place → TokenKind → Type 0
IsToken text from place after Open = IsFirstLexeme text from place after opens
IsToken text from place after Close = IsFirstLexeme text from place after closes
IsToken text from place after (Word k bytes) = IsFirstLexeme text from place after (word k bytes.now)
IsToken text from place after End = EndsLexemes text from place after

-- the next token from a place on with the place after it, or the fault that is there before any token
abbrev pub IsNextToken : List ℕ → Place → Result (Token × Place) Refusal → Type 0
IsNextToken text at (Ok r) = IsToken text at.offset r.0.place r.1 r.0.kind × IsPlaceOf text r.0.place
    × IsPlaceOf text r.1
IsNextToken text at (Err r) = (lexemes_from text at.offset ≡ (r.place.offset, wrong r.fault) ∷ [])
    × IsPlaceOf text r.place
