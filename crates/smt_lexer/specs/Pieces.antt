-- What is at the start of bytes, as the code has it.
use Rattle.std.specs.Prelude.{◌≡◌, ◌<◌, ◌≤◌, ℕ, List, length, take, Option, Some, None, ◌==◌, if◌then◌else◌}
use Rattle.spec_text.specs.Bytes.{is_blank, is_digit, is_symbol_byte}
use Rattle.spec_text.specs.Lexemes.{Lexeme, blank, opens, closes, word, wrong, Piece, piece, string_body}
use Rattle.smt_lexer.specs.declared.pieces.What.{What}
use Rattle.smt_lexer.specs.declared.pieces.What.TheVariants as whats
use Rattle.smt_lexer.specs.declared.pieces.FoundPiece.{FoundPiece}
use Rattle.smt_lexer.specs.declared.pieces.FirstByte.{FirstByte}
use Rattle.smt_lexer.specs.declared.pieces.FirstByte.TheVariants as heads

-- the lexeme that it stands for
abbrev pub lexeme_of : What → Lexeme
lexeme_of whats.Blank = blank
lexeme_of whats.Open = opens
lexeme_of whats.Close = closes
lexeme_of (whats.Word k bytes) = word k bytes.now
lexeme_of (whats.Wrong f) = wrong f

-- the lexeme with its number of bytes
abbrev pub piece_of : FoundPiece → Piece
piece_of f = piece (lexeme_of f.what) f.size

-- what a first byte begins
abbrev pub head_at : ℕ → FirstByte
head_at b =
    if is_blank b then heads.Blank
    else if b == 59 then heads.Semicolon
    else if b == 40 then heads.Open
    else if b == 41 then heads.Close
    else if b == 48 then heads.Zero
    else if is_digit b then heads.Digit
    else if b == 34 then heads.Quote
    else if b == 124 then heads.Bar
    else if b == 58 then heads.Colon
    else if is_symbol_byte b then heads.Symbol
    else heads.Other

-- how long a string's body is
abbrev pub IsBody : List ℕ → Option ℕ → Type 0
IsBody bytes None = string_body bytes ≡ None
IsBody bytes (Some n) = (n < length bytes) × (string_body bytes ≡ Some (take n bytes))

-- it has one byte at least and not more than so many; as many at most are before a fault
abbrev pub IsPieceWithin : What → ℕ → ℕ → Type 0
IsPieceWithin (whats.Wrong f) size n = size ≤ n
IsPieceWithin whats.Blank size n = (0 < size) × (size ≤ n)
IsPieceWithin whats.Open size n = (0 < size) × (size ≤ n)
IsPieceWithin whats.Close size n = (0 < size) × (size ≤ n)
IsPieceWithin (whats.Word k bytes) size n = (0 < size) × (size ≤ n)
