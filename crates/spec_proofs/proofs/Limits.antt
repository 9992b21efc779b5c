-- Texts of commands within the limit on bytes, and without it.
use Rattle.std.proofs.Common.{◌≡◌, ℕ, Bool, true, false, List, [], ◌∷◌, ◌++◌, length, inl, inr, refl, sym, ap, ◌∙◌, subst, arith, append-nil}
use Rattle.std.proofs.lemmas.Bool.Decides.{nat_tests}
use Rattle.std.proofs.lemmas.List.{take_all}
use Rattle.spec_text.specs.Lexemes.{Lexeme, opens, closes}
use Rattle.spec_text.specs.Trees.{Trees, spelled_all}
use Rattle.spec_text.specs.Readings.{text_limit, is_long, kept}
use Rattle.spec_proofs.specs.Texts.{complete, begins_listed, all_lexemes, EndsList, AreCommands, AreAllCommands, IsProofText, IsWholeText}
use Rattle.spec_proofs.specs.Examples.{in_one_list}

-- lexemes that are read as commands, and nothing else, are these commands
pub all_commands : (b : Bool) (end : ℕ) (xs : List (ℕ × Lexeme)) (ts : Trees) → AreCommands b end xs ts complete → AreAllCommands b xs ts
all_commands false end xs ts (rest, trees, ends) = trees ∙ ap (λ ys. spelled_all ts ++ ys) ends ∙ append-nil (spelled_all ts)
all_commands true end xs ts (at, inner, rest, is, trees, ends) = go ends
  where
    go : EndsList end rest complete → AreAllCommands true xs ts
    go (inl (close, after, follows_after, nothing)) = (at, close, is ∙ ap (λ ys. (at, opens) ∷ ys) (trees ∙ ap (λ ys. spelled_all ts ++ ys) (follows_after ∙ ap (λ ys. (close, closes) ∷ ys) nothing)))
    go (inr (f, breaks, same)) = cc

-- a text that is no longer than it may be, and is read as commands and nothing else, is these commands
pub whole_text : (text : List ℕ) (ts : Trees) → is_long text ≡ false → IsProofText text ts complete → IsWholeText text ts
whole_text text ts short h =
    let same : kept text ≡ text = take_all text_limit text (grind (arith, nat_tests, short)) in
    subst (λ (x : List ℕ). IsWholeText x ts) same (all_commands (begins_listed (all_lexemes (kept text))) (length (kept text)) (all_lexemes (kept text)) ts h)

-- and these are so read
all_read : (b : Bool) (end : ℕ) (xs : List (ℕ × Lexeme)) (ts : Trees) → AreAllCommands b xs ts → AreCommands b end xs ts complete
all_read false end xs ts is = ([], is ∙ sym (append-nil (spelled_all ts)), refl)
all_read true end xs ts (at, close, is) = in_one_list end at close xs ts is

-- a text that is no longer than it may be, and is commands, is read as these
pub text_read : (text : List ℕ) (ts : Trees) → is_long text ≡ false → IsWholeText text ts → IsProofText text ts complete
text_read text ts short h =
    let same : text ≡ kept text = sym (take_all text_limit text (grind (arith, nat_tests, short))) in
    all_read (begins_listed (all_lexemes (kept text))) (length (kept text)) (all_lexemes (kept text)) ts (subst (λ (x : List ℕ). IsWholeText x ts) same h)
