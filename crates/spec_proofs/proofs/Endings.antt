-- A proof's text has one row of commands and one ending.
use Rattle.std.proofs.Common.{◌≡◌, ℕ, Bool, true, false, List, [], ◌∷◌, ◌++◌, length, Some, None, inl, inr, refl, sym, ap, ◌∙◌, arith, subst, append_assoc}
use Rattle.spec_text.specs.Lexemes.{Lexeme, opens}
use Rattle.spec_text.specs.Trees.{Tree, Trees, atom, list, none, more, spelled, offset_of}
use Rattle.spec_text.specs.Faults.{Located, first_fault}
use Rattle.spec_text.specs.Readings.{BeginsNoTree, IsBroken, AreTrees, kept}
use Rattle.spec_text.proofs.Stopping.{nothing_begins_no_tree}
use Rattle.spec_text.proofs.Parsing.{close_begins_no_tree}
use Rattle.spec_proofs.specs.Texts.{Ending, complete, broken, left_over, EndsRow, EndsBehind, EndsList, AreCommands, begins_listed, proof_lexemes, IsProofText}

-- lexemes are read up to one end
abbrev pub Law : Type 0
Law = (xs rest others : List (ℕ × Lexeme)) (ts us : Trees) → AreTrees xs ts rest → AreTrees xs us others → BeginsNoTree rest → BeginsNoTree others → (ts ≡ us) × (rest ≡ others)

-- the first lexeme
abbrev front_lexeme : List (ℕ × Lexeme) → Lexeme
front_lexeme [] = opens
front_lexeme (x ∷ xs) = x.1

-- the offset of the first lexeme
abbrev front_offset : List (ℕ × Lexeme) → ℕ
front_offset [] = 0
front_offset (x ∷ xs) = x.0

-- a tree's first lexeme has its offset
spelled_offset : (t : Tree) (xs : List (ℕ × Lexeme)) → front_offset (spelled t ++ xs) ≡ offset_of t
spelled_offset (atom at k bytes) xs = refl
spelled_offset (list at ts end) xs = refl

-- what is broken is not nothing
broken_something : (end n : ℕ) (xs : List (ℕ × Lexeme)) (f : Located) → IsBroken end 0 xs f → xs ≡ [] → ⊥
unfolding first_fault
broken_something end n xs f b e = let none : None ≡ Some f = sym (ap (first_fault end 0) e) ∙ b.fault in cc

-- one fault breaks lexemes
one_break : (end n : ℕ) (xs : List (ℕ × Lexeme)) (f g : Located) → IsBroken end n xs f → IsBroken end n xs g → f ≡ g
one_break end n xs f g a b = let both : Some f ≡ Some g = sym a.fault ∙ b.fault in cc

row_free : (end : ℕ) (rest : List (ℕ × Lexeme)) (e : Ending) → EndsRow end rest e → BeginsNoTree rest
row_free end rest complete h = subst BeginsNoTree (sym h) nothing_begins_no_tree
row_free end rest (broken f) h = h.no_tree
row_free end rest (left_over at) h = absurd h

one_row_end : (end : ℕ) (rest : List (ℕ × Lexeme)) (e f : Ending) → EndsRow end rest e → EndsRow end rest f → e ≡ f
one_row_end end rest complete complete a b = refl
one_row_end end rest complete (broken g) a b = absurd (broken_something end 0 rest g b a)
one_row_end end rest (broken g) complete a b = absurd (broken_something end 0 rest g a b)
one_row_end end rest (broken f) (broken g) a b = ap broken (one_break end 0 rest f g a b)
one_row_end end rest (left_over at) f a b = absurd a
one_row_end end rest e (left_over at) a b = absurd b

-- a tree after the list
abbrev IsLeft : List (ℕ × Lexeme) → ℕ → Type 0
IsLeft after at = (t : Tree) × (rest : List (ℕ × Lexeme)) × AreTrees after (more t none) rest × (offset_of t ≡ at)

left_offset : (after : List (ℕ × Lexeme)) (at : ℕ) → IsLeft after at → front_offset after ≡ at
left_offset after at h = ap front_offset (h.2 ∙ append_assoc (spelled h.0) [] h.1) ∙ spelled_offset h.0 h.1 ∙ h.3

left_something : (after : List (ℕ × Lexeme)) (at : ℕ) → IsLeft after at → after ≡ [] → ⊥
left_something after at h e =
    nothing_begins_no_tree h.0 ([] ++ h.1) (sym e ∙ h.2 ∙ append_assoc (spelled h.0) [] h.1)

left_unbroken : (end : ℕ) (after : List (ℕ × Lexeme)) (at : ℕ) (f : Located) → IsLeft after at → IsBroken end 0 after f → ⊥
left_unbroken end after at f h b = b.no_tree h.0 ([] ++ h.1) (h.2 ∙ append_assoc (spelled h.0) [] h.1)

one_behind : (end : ℕ) (after : List (ℕ × Lexeme)) (e f : Ending) → EndsBehind end after e → EndsBehind end after f → e ≡ f
one_behind end after complete complete a b = refl
one_behind end after complete (broken g) a b = absurd (broken_something end 0 after g b a)
one_behind end after complete (left_over at) a b = absurd (left_something after at b a)
one_behind end after (broken g) complete a b = absurd (broken_something end 0 after g a b)
one_behind end after (broken f) (broken g) a b = ap broken (one_break end 0 after f g a b)
one_behind end after (broken f) (left_over at) a b = absurd (left_unbroken end after at f b a)
one_behind end after (left_over at) complete a b = absurd (left_something after at a b)
one_behind end after (left_over at) (broken f) a b = absurd (left_unbroken end after at f a b)
one_behind end after (left_over at) (left_over at') a b = ap left_over (sym (left_offset after at a) ∙ left_offset after at' b)

list_free : (end : ℕ) (rest : List (ℕ × Lexeme)) (e : Ending) → EndsList end rest e → BeginsNoTree rest
list_free end rest e (inl h) = subst BeginsNoTree (sym h.2) (close_begins_no_tree h.0 h.1)
list_free end rest e (inr h) = h.1.no_tree

-- what is after a lexeme
abbrev behind_first : List (ℕ × Lexeme) → List (ℕ × Lexeme)
behind_first [] = []
behind_first (x ∷ xs) = xs

one_list_end : (end : ℕ) (rest : List (ℕ × Lexeme)) (e f : Ending) → EndsList end rest e → EndsList end rest f → e ≡ f
one_list_end end rest e f (inl a) (inl b) =
    let after : a.1 ≡ b.1 = ap behind_first (sym a.2 ∙ b.2) in
    one_behind end b.1 e f (subst (λ x. EndsBehind end x e) after a.3) b.3
one_list_end end rest e f (inl a) (inr b) = absurd (omega (arith, b.1.no_end a.0 a.1 a.2))
one_list_end end rest e f (inr a) (inl b) = absurd (omega (arith, a.1.no_end b.0 b.1 b.2))
one_list_end end rest e f (inr a) (inr b) = a.2 ∙ ap broken (one_break end 1 rest a.0 b.0 a.1 b.1) ∙ sym b.2

-- commands and their ending are one
one_reading : (law : Law) (listed : Bool) (end : ℕ) (xs : List (ℕ × Lexeme)) (ts us : Trees) (e f : Ending) → AreCommands listed end xs ts e → AreCommands listed end xs us f → (ts ≡ us) × (e ≡ f)
one_reading law false end xs ts us e f a b =
    let row = law xs a.0 b.0 ts us a.1 b.1 (row_free end a.0 e a.2) (row_free end b.0 f b.2) in
    (row.0, one_row_end end b.0 e f (subst (λ r. EndsRow end r e) row.1 a.2) b.2)
one_reading law true end xs ts us e f a b =
    let inner : a.1 ≡ b.1 = ap behind_first (sym a.3 ∙ b.3) in
    let row = law b.1 a.2 b.2 ts us (subst (λ x. AreTrees x ts a.2) inner a.4) b.4 (list_free end a.2 e a.5) (list_free end b.2 f b.5) in
    (row.0, one_list_end end b.2 e f (subst (λ r. EndsList end r e) row.1 a.5) b.5)

-- and so they are in a text
pub one_text : (law : Law) (text : List ℕ) (ts us : Trees) (e f : Ending) → IsProofText text ts e → IsProofText text us f → (ts ≡ us) × (e ≡ f)
one_text law text ts us e f = one_reading law (begins_listed (proof_lexemes text)) (length (kept text)) (proof_lexemes text) ts us e f
