-- White space is no lexeme of a text.
use Rattle.std.proofs.Common.{ℕ, zero, suc, ◌+◌, ◌-◌, List, [], ◌∷◌}
use Rattle.spec_text.specs.Lexemes.{Lexeme, blank, opens, closes, word, wrong, first_piece, before, lexemes}

-- no lexeme is white space
abbrev pub HasNoBlank : List (ℕ × Lexeme) → Type 0
HasNoBlank [] = Unit {0}
HasNoBlank ((at, blank) ∷ xs) = ⊥
HasNoBlank ((at, opens) ∷ xs) = HasNoBlank xs
HasNoBlank ((at, closes) ∷ xs) = HasNoBlank xs
HasNoBlank ((at, word k bytes) ∷ xs) = HasNoBlank xs
HasNoBlank ((at, wrong f) ∷ xs) = HasNoBlank xs

no_blank_before : (at : ℕ) (x : Lexeme) (size : ℕ) (rest : List (ℕ × Lexeme)) → HasNoBlank rest → HasNoBlank (before at record { lexeme = x; size = size } rest)
no_blank_before at blank size rest h = h
no_blank_before at opens size rest h = h
no_blank_before at closes size rest h = h
no_blank_before at (word k bytes) size rest h = h
no_blank_before at (wrong f) size rest h = tt

pub lexemes_have_no_blank : (n at : ℕ) (bs : List ℕ) → HasNoBlank (lexemes n at bs)
unfolding lexemes
lexemes_have_no_blank n at [] = tt
lexemes_have_no_blank (suc n) at (b ∷ bs) = lexemes_have_no_blank n (at + 1) bs
lexemes_have_no_blank zero at (b ∷ bs) = no_blank_before at (first_piece b bs).lexeme (first_piece b bs).size _ (lexemes_have_no_blank ((first_piece b bs).size - 1) (at + 1) bs)
