-- A text as s-expressions, one after the other, up to its end or to its first fault. Source: SMT-LIB 2.6, section 3.2;
-- limits and faults are own.
use Rattle.std.specs.Prelude.{◌≡◌, ◌≢◌, ◌⊎◌, ℕ, ◌+◌, ◌^◌, Bool, true, false, ◌&&◌, List, [], ◌∷◌, ◌++◌, length, take}
use Rattle.std.specs.Prelude.{nat_lt, Option, Some, None, if◌then◌else◌}
use Rattle.spec_text.specs.declared.Fault.{Fault}
use Rattle.spec_text.specs.declared.Fault.TheVariants.{UnclosedString, UnclosedQuote, UnclosedList, TooLong}
use Rattle.spec_text.specs.Lexemes.{Lexeme, closes, lexemes}
use Rattle.spec_text.specs.Trees.{Tree, Trees, spelled, spelled_all}
use Rattle.spec_text.specs.Faults.{Located, first_fault}

-- the lexemes begin with no tree
abbrev pub BeginsNoTree : List (ℕ × Lexeme) → Type 0
BeginsNoTree xs = (t : Tree) (ys : List (ℕ × Lexeme)) → xs ≡ spelled t ++ ys → ⊥

-- after n open lists the lexemes begin with no tree and with no end of a list: their first fault is before
pub record IsBroken (end n : ℕ) (xs : List (ℕ × Lexeme)) (f : Located) : Type 0 where
  -- it is their first fault
  pub fault : first_fault end n xs ≡ Some f
  -- a list that could end is none of the n
  pub no_end : (at : ℕ) (ys : List (ℕ × Lexeme)) → xs ≡ (at, closes) ∷ ys → n ≡ 0
  -- no tree comes before it
  pub no_tree : BeginsNoTree xs

-- the lexemes are these trees, and then the rest
abbrev pub AreTrees : List (ℕ × Lexeme) → Trees → List (ℕ × Lexeme) → Type 0
AreTrees xs ts rest = xs ≡ spelled_all ts ++ rest

-- where the reading of trees after n open lists stops: at the end of the lexemes where none is open, at the end of the
-- innermost open list, or at what is broken
abbrev pub StopsAt : ℕ → ℕ → List (ℕ × Lexeme) → Type 0
StopsAt end n rest =
    ((n ≡ 0) × (rest ≡ []))
    ⊎ (((n ≢ 0) × (at : ℕ) × (ys : List (ℕ × Lexeme)) × (rest ≡ (at, closes) ∷ ys))
    ⊎ ((f : Located) × IsBroken end n rest f))

-- no lexemes are left, or the rest is broken
abbrev pub EndsTrees : ℕ → List (ℕ × Lexeme) → Option Located → Type 0
EndsTrees end rest None = rest ≡ []
EndsTrees end rest (Some f) = IsBroken end 0 rest f

-- how many bytes of a text are read
abbrev pub text_limit : ℕ
text_limit = 2 ^ 30

-- the bytes that are read
abbrev pub kept : List ℕ → List ℕ
kept text = take text_limit text

-- the bytes by which a text is read: those, and the next one, by which it has more
abbrev pub prefix : List ℕ → List ℕ
prefix text = take (text_limit + 1) text

-- whether there are more
abbrev pub is_long : List ℕ → Bool
is_long text = nat_lt text_limit (length text)

-- the first byte that is not read
abbrev pub too_long : Located
too_long = record { offset = text_limit; fault = TooLong }

-- a fault that the end of the bytes is
abbrev pub is_of_end : Fault → Bool
is_of_end UnclosedString = true
is_of_end UnclosedQuote = true
is_of_end UnclosedList = true
is_of_end _ = false

-- where bytes are left unread, what is missing at the end of the others may be among them
abbrev pub at_limit : Bool → Located → Located
at_limit long f = if long && is_of_end f.fault then too_long else f

-- what stops the reading of a text: nothing but its end, or a fault
abbrev pub limited : Bool → Option Located → Option Located
limited long None = if long then Some too_long else None
limited long (Some f) = Some (at_limit long f)

-- a text is these trees, and then ends or is broken
pub record IsReadUpTo (text : List ℕ) (ts : Trees) (found : Option Located) : Type 0 where
  -- the lexemes after the trees
  pub rest : List (ℕ × Lexeme)
  -- the trees come first
  pub trees : AreTrees (lexemes 0 0 (kept text)) ts rest
  -- what stops the reading of the bytes that are kept
  pub stop : Option Located
  -- it comes after the trees
  pub stops : EndsTrees (length (kept text)) rest stop
  -- it is that of the whole text
  pub is : found ≡ limited (is_long text) stop
