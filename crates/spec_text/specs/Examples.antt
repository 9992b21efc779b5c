-- Texts with their lexemes, trees and faults.
use Rattle.std.specs.Prelude.{◌≡◌, refl, [], ◌∷◌, codes}
use Rattle.spec_text.specs.declared.Kind.TheVariants.{Decimal, Text, Simple, Quoted, Reserved, Keyword}
use Rattle.spec_text.specs.declared.Fault.TheVariants.{BadChar, UnclosedString, UnclosedQuote, UnclosedList, StrayClose}
use Rattle.spec_text.specs.Lexemes.{word, lexemes, first_piece, string_body, after_quote}
use Rattle.spec_text.specs.Faults.{located, lexical_fault, first_fault}
use Rattle.spec_text.specs.Trees.{atom, list, none, more, IsRead}
use Rattle.spec_text.specs.Places.{line_of, column_of}

-- words and the offsets of their first bytes, bars and colons among them; a comment is passed over
pub numbers_and_symbols : lexemes 0 0 (codes "1.50 |a b| x:k ; note") ≡ (0, word Decimal (codes "1.50"))
    ∷ (5, word Quoted (codes "a b")) ∷ (11, word Simple (codes "x")) ∷ (12, word Keyword (codes "k")) ∷ []
unfolding lexemes first_piece
numbers_and_symbols = refl

-- two quotes in a string are as written, and a reserved word is no symbol
pub string_with_quotes : lexemes 0 0 (codes "\"a\"\"b\" let") ≡ (0, word Text (codes "a\"\"b"))
    ∷ (7, word Reserved (codes "let")) ∷ []
unfolding lexemes first_piece string_body after_quote
string_with_quotes = refl

-- a point after a numeral has a digit after it
pub point_without_digits : lexical_fault (codes "(1. a)") ≡ located 2 BadChar
unfolding lexemes first_piece first_fault
point_without_digits = refl

-- after a decimal comes no byte of symbols
pub two_points : lexical_fault (codes "1.5.2") ≡ located 3 BadChar
unfolding lexemes first_piece first_fault
two_points = refl

-- no numeral but 0 begins with 0
pub two_zeros : lexical_fault (codes "00") ≡ located 1 BadChar
unfolding lexemes first_piece first_fault
two_zeros = refl

-- a backslash in a quoted symbol is reported before the missing bar
pub backslash_before_no_bar : lexical_fault (codes "(|a\\b") ≡ located 3 BadChar
unfolding lexemes first_piece first_fault
backslash_before_no_bar = refl

-- a quoted symbol that does not end is reported at its bar
pub no_bar : lexical_fault (codes "(|ab") ≡ located 1 UnclosedQuote
unfolding lexemes first_piece first_fault
no_bar = refl

-- a string that does not end is reported at its quote
pub no_quote : lexical_fault (codes "(a \"b") ≡ located 3 UnclosedString
unfolding lexemes first_piece first_fault string_body after_quote
no_quote = refl

-- two quotes close nothing
pub quotes_that_close_nothing : lexical_fault (codes "(\"a\"\"") ≡ located 1 UnclosedString
unfolding lexemes first_piece first_fault string_body after_quote
quotes_that_close_nothing = refl

-- an open list is reported at the end
pub unclosed : lexical_fault (codes "(a (b)") ≡ located 6 UnclosedList
unfolding lexemes first_piece first_fault
unclosed = refl

-- a parenthesis that closes nothing is reported before a list that is open at the end
pub stray : lexical_fault (codes "(a))b(") ≡ located 3 StrayClose
unfolding lexemes first_piece first_fault
stray = refl

-- lists with the offsets of both parentheses
pub tree_of_a_text : IsRead (codes "(a ()) b")
    (more (list 0 (more (atom 1 Simple (codes "a")) (more (list 3 none 4) none)) 5)
    (more (atom 7 Simple (codes "b")) none))
unfolding lexemes first_piece
tree_of_a_text = refl

-- lines and columns begin with 1
pub second_line : (line_of (codes "a\nbc") 3 ≡ 2) × (column_of (codes "a\nbc") 3 ≡ 2)
second_line = (refl, refl)
