-- The text of lines is their trees, in one list.
use Rattle.std.proofs.Common.{◌≡◌, ℕ, suc, true, ◌+◌, List, [], ◌∷◌, ◌++◌, map, All, length, inl, refl, sym, ap, ◌∙◌, append_assoc, arith, subst}
use Rattle.std.specs.Prelude.{codes, flat_map}
use Rattle.spec_text.specs.Lexemes.{Lexeme, opens, closes, first_piece, lexemes}
use Rattle.spec_text.specs.Trees.{Trees, spelled, spelled_all}
use Rattle.spec_text.specs.Printed.{printed}
use Rattle.spec_text.proofs.Printing.{moved, moved_all, feed_read, tree_read}
use Rattle.spec_proofs.specs.Texts.{complete, behind_unsat, begins_listed, AreCommands, AreAllCommands, all_lexemes, IsWholeText}
use Rattle.spec_models.specs.Values.{trees_of}
use Rattle.spec_proof_texts.specs.Lines.{Line, defines, assumes, steps, line_tree, line_text, proof_text}
use Rattle.spec_proof_texts.specs.ReadBack.{IsWritableLine}
use Rattle.spec_proof_texts.proofs.Names.{line_words}

-- what closes the list
end_read : (at : ℕ) → lexemes 0 at (codes ")\n") ≡ (at, closes) ∷ []
unfolding lexemes first_piece
end_read at = refl

-- what opens it
start_read : (at : ℕ) (rest : List ℕ) → lexemes 0 at (codes "(\n" ++ rest) ≡ (at, opens) ∷ lexemes 0 (at + 1 + 1) rest
unfolding lexemes first_piece
start_read at rest = refl

-- what may come first
unsat_read : (rest : List ℕ) → behind_unsat (lexemes 0 0 (codes "unsat\n" ++ rest)) ≡ lexemes 0 6 rest
unfolding lexemes first_piece
unsat_read rest = refl

-- where lines end that begin at an offset
abbrev behind : ℕ → List Line → ℕ
behind at [] = at
behind at (l ∷ ls) = behind (at + length (printed (line_tree l)) + 1) ls

lines_read : (at : ℕ) (lines : List Line) → All IsWritableLine lines → lexemes 0 at (flat_map line_text lines ++ codes ")\n") ≡ spelled_all (moved_all at (trees_of (map line_tree lines))) ++ (behind at lines, closes) ∷ []
lines_read at [] h = end_read at
lines_read at (l ∷ ls) h =
    let t = line_tree l in
    let rest = flat_map line_text ls ++ codes ")\n" in
    let next : ℕ = at + length (printed t) + 1 in
    ap (lexemes 0 at) (append_assoc (printed t ++ 10 ∷ []) (flat_map line_text ls) (codes ")\n") ∙ append_assoc (printed t) (10 ∷ []) rest)
    ∙ tree_read t (line_words l (h 0 l (omega arith))) at (10 ∷ rest) (refl, refl)
    ∙ ap (λ ys. spelled (moved at t) ++ ys) (feed_read (at + length (printed t)) rest ∙ lines_read next ls (λ k d lt. h (suc k) d (omega (arith, lt))))
    ∙ sym (append_assoc (spelled (moved at t)) (spelled_all (moved_all next (trees_of (map line_tree ls)))) ((behind next ls, closes) ∷ []))

-- the commands begin with a list, or their list is empty
listed : (start at end : ℕ) (lines : List Line) → begins_listed ((start, opens) ∷ spelled_all (moved_all at (trees_of (map line_tree lines))) ++ (end, closes) ∷ []) ≡ true
listed start at end [] = refl
listed start at end (defines d ∷ ls) = refl
listed start at end (assumes n a ∷ ls) = refl
listed start at end (steps s ∷ ls) = refl

-- lines as commands, where their text begins at an offset
abbrev pub commands_at : ℕ → List Line → Trees
commands_at at lines = moved_all (at + 1 + 1) (trees_of (map line_tree lines))

-- the whole text is these commands and nothing else
abbrev pub AreCommandsOf : List ℕ → Trees → Type 0
AreCommandsOf text ts = AreCommands (begins_listed (all_lexemes text)) (length text) (all_lexemes text) ts complete

-- the lexemes of a text that begins with them
module _ (at : ℕ) (lines : List Line) (xs : List (ℕ × Lexeme)) (e : xs ≡ lexemes 0 at (proof_text lines)) (h : All IsWritableLine lines) where
  abbrev ts : Trees
  ts = commands_at at lines

  abbrev end : ℕ
  end = behind (at + 1 + 1) lines

  abbrev inner : List (ℕ × Lexeme)
  inner = spelled_all ts ++ (end, closes) ∷ []

  read : xs ≡ (at, opens) ∷ inner
  read = e ∙ start_read at (flat_map line_text lines ++ codes ")\n") ∙ ap (λ ys. (at, opens) ∷ ys) (lines_read (at + 1 + 1) lines h)

  is_listed : begins_listed xs ≡ true
  is_listed = ap begins_listed read ∙ listed at (at + 1 + 1) end lines

  whole_at : AreAllCommands (begins_listed xs) xs ts
  whole_at = subst (λ b. AreAllCommands b xs ts) (sym is_listed) (at, end, read)

  lexed_at : (size : ℕ) → AreCommands (begins_listed xs) size xs ts complete
  lexed_at size = subst (λ b. AreCommands b size xs ts complete) (sym is_listed) (at, inner, (end, closes) ∷ [], read, refl, inl (end, [], refl, refl))

same_alone : (ls : List Line) → behind_unsat (lexemes 0 0 (proof_text ls)) ≡ lexemes 0 0 (proof_text ls)
same_alone ls = ap behind_unsat (start_read 0 (flat_map line_text ls ++ codes ")\n")) ∙ sym (start_read 0 (flat_map line_text ls ++ codes ")\n"))

-- alone
pub alone_whole : (lines : List Line) → All IsWritableLine lines → IsWholeText (proof_text lines) (commands_at 0 lines)
alone_whole lines h = whole_at 0 lines (all_lexemes (proof_text lines)) (same_alone lines) h

pub alone_lexed : (lines : List Line) → All IsWritableLine lines → AreCommandsOf (proof_text lines) (commands_at 0 lines)
alone_lexed lines h = lexed_at 0 lines (all_lexemes (proof_text lines)) (same_alone lines) h (length (proof_text lines))

-- after an answer
pub answered_whole : (lines : List Line) → All IsWritableLine lines → IsWholeText (codes "unsat\n" ++ proof_text lines) (commands_at 6 lines)
answered_whole lines h = whole_at 6 lines (all_lexemes (codes "unsat\n" ++ proof_text lines)) (unsat_read (proof_text lines)) h

pub answered_lexed : (lines : List Line) → All IsWritableLine lines → AreCommandsOf (codes "unsat\n" ++ proof_text lines) (commands_at 6 lines)
answered_lexed lines h = lexed_at 6 lines (all_lexemes (codes "unsat\n" ++ proof_text lines)) (unsat_read (proof_text lines)) h (length (codes "unsat\n" ++ proof_text lines))
