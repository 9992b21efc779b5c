-- A model file has one row of definitions and one ending, and so one reading and one verdict.
use Rattle.std.proofs.Common.{◌≡◌, ℕ, true, List, [], ◌∷◌, ◌++◌, length, Option, Some, None, inl, inr, refl, sym, ap, ◌∙◌, arith, subst, append_assoc}
use Rattle.spec_text.specs.Lexemes.{Lexeme, blank, opens, closes, word, wrong}
use Rattle.spec_text.specs.Trees.{Tree, Trees, atom, list, spelled, offset_of}
use Rattle.spec_text.specs.Faults.{Located, first_fault}
use Rattle.spec_text.specs.Readings.{BeginsNoTree, IsBroken, AreTrees, kept, is_long}
use Rattle.spec_text.proofs.Stopping.{nothing_begins_no_tree}
use Rattle.spec_text.proofs.Parsing.{close_begins_no_tree}
use Rattle.spec_sorts.specs.Signatures.{Signature}
use Rattle.spec_commands.specs.Stack.{signature_of}
use Rattle.spec_commands.specs.Checks.{Check, term_limit, IsCurrent, HasNoCheck}
use Rattle.spec_proofs.specs.Texts.{Ending, complete, broken, left_over, EndsBehind, EndsList, AreCommands}
use Rattle.spec_model_files.specs.Faults.{ModelFault, ReadModel}
use Rattle.spec_model_files.specs.Definitions.{DefinedSymbol}
use Rattle.spec_model_files.specs.Texts.{ModelEnding, ends, AreDefinitions, model_lexemes, IsModelText, ending_fault}
use Rattle.spec_model_files.specs.Verdicts.{read_to_end, IsModelReading, judged, IsModelJudged, IsModelVerdict}

-- lexemes are read up to one end
abbrev pub Law : Type 0
Law = (xs rest others : List (ℕ × Lexeme)) (ts us : Trees) → AreTrees xs ts rest → AreTrees xs us others → BeginsNoTree rest → BeginsNoTree others → (ts ≡ us) × (rest ≡ others)

-- the offset of the first lexeme
abbrev front_offset : List (ℕ × Lexeme) → ℕ
front_offset [] = 0
front_offset (x ∷ xs) = x.0

-- what is after it
abbrev behind_first : List (ℕ × Lexeme) → List (ℕ × Lexeme)
behind_first [] = []
behind_first (x ∷ xs) = xs

front_of : (t : Tree) (xs : List (ℕ × Lexeme)) → front_offset (spelled t ++ xs) ≡ offset_of t
front_of (atom at k bytes) xs = refl
front_of (list at ts end) xs = refl

-- one fault breaks lexemes, and nothing is not broken
one_break : (end n : ℕ) (xs : List (ℕ × Lexeme)) (f g : Located) → IsBroken end n xs f → IsBroken end n xs g → f ≡ g
one_break end n xs f g a b = let both : Some f ≡ Some g = sym a.fault ∙ b.fault in cc

nothing_broken : (end : ℕ) (xs : List (ℕ × Lexeme)) (f : Located) → xs ≡ [] → IsBroken end 0 xs f → ⊥
unfolding first_fault
nothing_broken end xs f e b = let none : None ≡ Some f = sym (ap (first_fault end 0) e) ∙ b.fault in cc

-- a tree at an offset, at the front of lexemes
record HasTree (xs : List (ℕ × Lexeme)) (at : ℕ) : Type 0 where
  tree : Tree
  others : List (ℕ × Lexeme)
  is : xs ≡ spelled tree ++ others
  there : front_offset xs ≡ at

tree_there : (end : ℕ) (xs : List (ℕ × Lexeme)) (at : ℕ) → EndsBehind end xs (left_over at) → HasTree xs at
tree_there end xs at h =
    let is : xs ≡ spelled h.0 ++ h.1 = h.2 ∙ append_assoc (spelled h.0) [] h.1 in
    record {
      tree = h.0;
      others = h.1;
      is = is;
      there = ap front_offset is ∙ front_of h.0 h.1 ∙ h.3;
    }

no_tree_there : (xs : List (ℕ × Lexeme)) (at : ℕ) → BeginsNoTree xs → HasTree xs at → ⊥
no_tree_there xs at free h = free h.tree h.others h.is

nothing_there : (xs : List (ℕ × Lexeme)) (at : ℕ) → xs ≡ [] → HasTree xs at → ⊥
nothing_there xs at e h = no_tree_there xs at (subst BeginsNoTree (sym e) nothing_begins_no_tree) h

-- one ending comes behind a list
one_behind : (end : ℕ) (xs : List (ℕ × Lexeme)) (e f : Ending) → EndsBehind end xs e → EndsBehind end xs f → e ≡ f
one_behind end xs complete complete a b = refl
one_behind end xs complete (broken g) a b = absurd (nothing_broken end xs g a b)
one_behind end xs complete (left_over at) a b = absurd (nothing_there xs at a (tree_there end xs at b))
one_behind end xs (broken g) complete a b = absurd (nothing_broken end xs g b a)
one_behind end xs (broken f) (broken g) a b = ap broken (one_break end 0 xs f g a b)
one_behind end xs (broken f) (left_over at) a b = absurd (no_tree_there xs at a.no_tree (tree_there end xs at b))
one_behind end xs (left_over at) complete a b = absurd (nothing_there xs at b (tree_there end xs at a))
one_behind end xs (left_over at) (broken f) a b = absurd (no_tree_there xs at b.no_tree (tree_there end xs at a))
one_behind end xs (left_over at) (left_over at') a b = ap left_over (sym (tree_there end xs at a).there ∙ (tree_there end xs at' b).there)

-- what ends a list begins with no tree
end_free : (end : ℕ) (xs : List (ℕ × Lexeme)) (e : Ending) → EndsList end xs e → BeginsNoTree xs
end_free end xs e (inl h) = subst BeginsNoTree (sym h.2) (close_begins_no_tree h.0 h.1)
end_free end xs e (inr h) = h.1.no_tree

one_end : (end : ℕ) (xs : List (ℕ × Lexeme)) (e f : Ending) → EndsList end xs e → EndsList end xs f → e ≡ f
one_end end xs e f (inl a) (inl b) = one_behind end b.1 e f (subst (λ ys. EndsBehind end ys e) (ap behind_first (sym a.2 ∙ b.2)) a.3) b.3
one_end end xs e f (inl a) (inr b) = absurd (omega (arith, b.1.no_end a.0 a.1 a.2))
one_end end xs e f (inr a) (inl b) = absurd (omega (arith, a.1.no_end b.0 b.1 b.2))
one_end end xs e f (inr a) (inr b) = a.2 ∙ ap broken (one_break end 1 xs a.0 b.0 a.1 b.1) ∙ sym b.2

module _ (law : Law) where
  -- a list has one row of items and one ending
  one_list : (end : ℕ) (xs : List (ℕ × Lexeme)) (ts us : Trees) (e f : Ending) → AreCommands true end xs ts e → AreCommands true end xs us f → (ts ≡ us) × (e ≡ f)
  one_list end xs ts us e f a b =
      let inner : a.1 ≡ b.1 = ap behind_first (sym a.3 ∙ b.3) in
      let row = law b.1 a.2 b.2 ts us (subst (λ ys. AreTrees ys ts a.2) inner a.4) b.4 (end_free end a.2 e a.5) (end_free end b.2 f b.5) in
      (row.0, one_end end b.2 e f (subst (λ ys. EndsList end ys e) row.1 a.5) b.5)

  -- so have the lexemes of a file
  one_row : (end : ℕ) (xs : List (ℕ × Lexeme)) (ts us : Trees) (e f : ModelEnding) → AreDefinitions end xs ts e → AreDefinitions end xs us f → (ts ≡ us) × (e ≡ f)
  one_row end [] ts us e f a b = (a.0 ∙ sym b.0, a.1 ∙ sym b.1)
  one_row end ((at, opens) ∷ xs) ts us e f a b = let row = one_list end ((at, opens) ∷ xs) ts us a.0 b.0 a.1 b.1 in (row.0, a.2 ∙ ap ends row.1 ∙ sym b.2)
  one_row end ((at, word k n) ∷ xs) ts us e f a b = (a.0 ∙ sym b.0, a.1 ∙ sym b.1)
  one_row end ((at, blank) ∷ xs) ts us e f a b = (a.0 ∙ sym b.0, a.3 ∙ ap (λ x. ends (broken x)) (one_break end 0 ((at, blank) ∷ xs) a.1 b.1 a.2 b.2) ∙ sym b.3)
  one_row end ((at, closes) ∷ xs) ts us e f a b = (a.0 ∙ sym b.0, a.3 ∙ ap (λ x. ends (broken x)) (one_break end 0 ((at, closes) ∷ xs) a.1 b.1 a.2 b.2) ∙ sym b.3)
  one_row end ((at, wrong w) ∷ xs) ts us e f a b = (a.0 ∙ sym b.0, a.3 ∙ ap (λ x. ends (broken x)) (one_break end 0 ((at, wrong w) ∷ xs) a.1 b.1 a.2 b.2) ∙ sym b.3)

  pub one_text : (text : List ℕ) (ts us : Trees) (e f : ModelEnding) → IsModelText text ts e → IsModelText text us f → (ts ≡ us) × (e ≡ f)
  one_text text ts us e f = one_row (length (kept text)) (model_lexemes text) ts us e f

  -- a file is read as one thing
  pub one_reading : (g : Signature) (text : List ℕ) (a b : ReadModel (List DefinedSymbol)) → IsModelReading g text a → IsModelReading g text b → a ≡ b
  one_reading g text a b x y =
      let row = one_text text x.definitions y.definitions x.ending y.ending x.read y.read in
      x.is ∙ (λ i. read_to_end g (ending_fault (length text) (is_long text) (row.1 i)) (row.0 i)) ∙ sym y.is

  -- and judged as one
  one_judged : (c : Check) (model : List ℕ) (a b : Option ModelFault) → IsModelJudged c model a → IsModelJudged c model b → a ≡ b
  one_judged c model a b x y = x.is ∙ ap (judged c) (one_reading (signature_of c.stack) model x.answer y.answer x.reading y.reading) ∙ sym y.is

  pub one_verdict : (script model : List ℕ) (k : ℕ) (a b : Option ModelFault) → ((c d : Check) → IsCurrent term_limit script k c → IsCurrent term_limit script k d → c ≡ d) → ((c : Check) → IsCurrent term_limit script k c → HasNoCheck term_limit script k → ⊥) → IsModelVerdict script k model a → IsModelVerdict script k model b → a ≡ b
  one_verdict script model k a b same other (inl x) (inl y) = one_judged y.0 model a b (subst (λ c. IsModelJudged c model a) (same x.0 y.0 x.1 y.1) x.2) y.2
  one_verdict script model k a b same other (inl x) (inr y) = absurd (other x.0 x.1 y.0)
  one_verdict script model k a b same other (inr x) (inl y) = absurd (other y.0 y.1 x.0)
  one_verdict script model k a b same other (inr x) (inr y) = x.1 ∙ sym y.1
