-- What is written of each token of an s-expression.
use Rattle.std.specs.Prelude.{◌≡◌, ◌<◌, ◌⊎◌, ℕ, Option, Some, None, Bool, true, false, List, [], ◌∷◌, ◌++◌}
use Rattle.std.specs.Prelude.{if◌then◌else◌}
use Rattle.spec_text.specs.declared.Place.{Place}
use Rattle.spec_text.specs.declared.Fault.{Fault}
use Rattle.spec_text.specs.Places.{IsPlaceOf}
use Rattle.spec_text.specs.Lexemes.{wrong, lexemes_from}
use Rattle.spec_text.specs.Trees.{Tree, atom, list}
use Rattle.spec_text.specs.Printed.{printed_word}
use Rattle.smt_lexer.specs.declared.TokenKind.{TokenKind}
use Rattle.smt_lexer.specs.declared.TokenKind.TheVariants.{Open, Close, Word, End}
use Rattle.smt_lexer.specs.Tokens.{IsToken}
use Rattle.smt_sexpr.specs.declared.items.Item.{Item}
use Rattle.smt_sexpr.specs.declared.items.Item.TheVariants as items
use Rattle.smt_sexpr.specs.Means.{IsFirstAt}

-- a space where one is wanted
abbrev pub gap : Bool → List ℕ
gap wanted = if wanted then 32 ∷ [] else []

-- a token, with the space before it where the token before wants one
abbrev pub token_bytes : Bool → TokenKind → List ℕ
token_bytes wanted Open = gap wanted ++ 40 ∷ []
token_bytes wanted Close = 41 ∷ []
token_bytes wanted (Word k bytes) = gap wanted ++ printed_word k bytes.now
token_bytes wanted End = []

-- whether a space has to be after a token
abbrev pub wants_space : TokenKind → Bool
wants_space Open = false
wants_space Close = true
wants_space (Word k bytes) = true
wants_space End = false

-- from an offset on is no token: the text ends, or a fault is there
abbrev pub HasNoToken : List ℕ → ℕ → Type 0
HasNoToken text from = (lexemes_from text from ≡ [])
    ⊎ ((at : ℕ) × (f : Fault) × (lexemes_from text from ≡ (at, wrong f) ∷ []))

-- the next token from a place on, and the place after it, where there is one
abbrev pub IsTokenAt : List ℕ → Place → Option (TokenKind × Place) → Type 0
IsTokenAt text place (Some x) = (at : Place) × IsToken text place.offset at x.1 x.0 × (place.offset < x.1.offset)
    × IsPlaceOf text x.1
IsTokenAt text place None = HasNoToken text place.offset

-- the offset of the last token of a tree
abbrev pub last_of : Tree → ℕ
last_of (atom at k bytes) = at
last_of (list at ts end) = end

-- the offset of the first token of an item's tree, and that of the last
abbrev pub ends_of : Item → ℕ × ℕ
ends_of (items.Atom k at size) = (at, at)
ends_of (items.List at end count) = (at, end)

-- a tree is in a text from an offset on, and its last token at another
abbrev pub IsTreeFrom : List ℕ → ℕ → ℕ → Tree → Type 0
IsTreeFrom text first last t = IsFirstAt text first t × (last ≡ last_of t)
