-- The text of what is kept is read back, as what is kept but for offsets and bars.
use Rattle.std.proofs.Common.{◌≡◌, ℕ, ◌+◌, Bool, true, false, ◌||◌, List, [], ◌∷◌, ◌++◌, length, Some, None, inl, inr, cond, codes, refl, sym, ap, ap₂, ◌∙◌, subst, arith, append_assoc, append-nil, length-append}
use Rattle.std.specs.Prelude.{⊤, if◌then◌else◌}
use Rattle.std.specs.Str.{bytes_eq}
use Rattle.spec_text.specs.declared.Kind.{Kind}
use Rattle.spec_text.specs.declared.Kind.TheVariants as kinds
use Rattle.spec_text.specs.Bytes.{Name}
use Rattle.spec_text.specs.Lexemes.{Lexeme, blank, opens, closes, word, wrong, lexemes}
use Rattle.spec_text.specs.Trees.{Tree, Trees, atom, list, none, more, spelled, spelled_all}
use Rattle.spec_text.specs.Shapes.{is_symbol}
use Rattle.spec_text.specs.Printed.{is_bare, printed_word, printed, printed_all, SameTrees}
use Rattle.spec_text.specs.Readings.{is_long}
use Rattle.spec_text.proofs.Printing.{kind_of, moved, moved_all, tree_read, open_read, close_read, feed_read, same_moved}
use Rattle.spec_text.proofs.Reading.{heads, same_inside, same_trees}
use Rattle.spec_text.proofs.Words.{AreWords, HaveWords, words_all, words_rest}
use Rattle.spec_proofs.specs.Texts.{behind_unsat, begins_listed, all_lexemes, complete, AreAllCommands, IsWholeText, IsProofText}
use Rattle.spec_proofs.proofs.Limits.{text_read}
use Rattle.spec_trims.specs.Trims.{command_shape, shape_rests_on, some_rests_on, is_empty_step, trimmed, printed_lines, listed_text, trim_text, ArePart}
use Rattle.spec_trims.proofs.Flat.{flat, flat_all, same_flat}
use Rattle.spec_trims.proofs.FlatShapes.{some_rests_flat, empty_step_flat}
use Rattle.spec_trims.proofs.Trimming.{whole}

-- trees on lines, as they are read from an offset on
abbrev pub moved_lines : ℕ → Trees → Trees
moved_lines at none = none
moved_lines at (more t ts) = more (moved at t) (moved_lines (at + length (printed t) + 1) ts)

lines_read : (at : ℕ) (ts : Trees) (rest : List ℕ) → HaveWords ts → lexemes 0 at (printed_lines ts ++ rest) ≡ spelled_all (moved_lines at ts) ++ lexemes 0 (at + length (printed_lines ts)) rest
lines_read at none rest h = ap (λ n. lexemes 0 n rest) (omega arith)
lines_read at (more t ts) rest h =
    let next = at + length (printed t) + 1 in
    let size : next + length (printed_lines ts) ≡ at + length (printed t ++ 10 ∷ printed_lines ts) = omega (arith, length-append (printed t) (10 ∷ printed_lines ts)) in
    ap (lexemes 0 at) (append_assoc (printed t) (10 ∷ printed_lines ts) rest)
    ∙ tree_read t h.0 at (10 ∷ printed_lines ts ++ rest) (refl, refl)
    ∙ ap (λ ys. spelled (moved at t) ++ ys) (feed_read (at + length (printed t)) (printed_lines ts ++ rest) ∙ lines_read next ts rest h.1 ∙ ap (λ n. spelled_all (moved_lines next ts) ++ lexemes 0 n rest) size)
    ∙ sym (append_assoc (spelled (moved at t)) (spelled_all (moved_lines next ts)) (lexemes 0 (at + length (printed t ++ 10 ∷ printed_lines ts)) rest))

-- the offset of the list's end
abbrev end_of : Trees → ℕ
end_of ts = 2 + length (printed_lines ts)

nothing_more : (at : ℕ) → lexemes 0 at (10 ∷ []) ≡ []
unfolding lexemes
nothing_more at = feed_read at []

list_read : (ts : Trees) → HaveWords ts → lexemes 0 0 (listed_text ts) ≡ (0, opens) ∷ spelled_all (moved_lines 2 ts) ++ (end_of ts, closes) ∷ []
list_read ts h =
    open_read 0 (10 ∷ printed_lines ts ++ 41 ∷ 10 ∷ [])
    ∙ ap (λ (ys : List (ℕ × Lexeme)). (0, opens) ∷ ys)
    (feed_read 1 (printed_lines ts ++ 41 ∷ 10 ∷ []) ∙ lines_read 2 ts (41 ∷ 10 ∷ []) h
    ∙ ap (λ ys. spelled_all (moved_lines 2 ts) ++ ys) (close_read (end_of ts) (10 ∷ []) ∙ ap (λ (ys : List (ℕ × Lexeme)). (end_of ts, closes) ∷ ys) (nothing_more (end_of ts + 1))))

-- each is a list
abbrev pub AreLists : Trees → Type 0
AreLists none = ⊤
AreLists (more (list at us end) ts) = AreLists ts
AreLists (more (atom at k n) ts) = ⊥

module _ (ts : Trees) (words : HaveWords ts) (lists : AreLists ts) where
  begins : (us : Trees) (end : ℕ) → AreLists us → begins_listed ((0, opens) ∷ spelled_all (moved_lines 2 us) ++ (end, closes) ∷ []) ≡ true
  begins none end h = refl
  begins (more (list at vs e) us) end h = refl
  begins (more (atom at k n) us) end h = absurd h

  all_read : all_lexemes (listed_text ts) ≡ (0, opens) ∷ spelled_all (moved_lines 2 ts) ++ (end_of ts, closes) ∷ []
  all_read = ap behind_unsat (list_read ts words)

  pub is_listed : begins_listed (all_lexemes (listed_text ts)) ≡ true
  is_listed = ap begins_listed all_read ∙ begins ts (end_of ts) lists

  pub list_whole : IsWholeText (listed_text ts) (moved_lines 2 ts)
  list_whole = subst (λ b. AreAllCommands b (all_lexemes (listed_text ts)) (moved_lines 2 ts)) (sym is_listed) (0, end_of ts, all_read)

-- what is kept is lists, and words where all are
module _ where
  no_atom_rests : (ds : Trees) (at : ℕ) (k : Kind) (n : Name) → some_rests_on ds (atom at k n) ≡ false
  no_atom_rests none at k n = refl
  no_atom_rests (more (list a us e) ds) at k n = ap (λ b. b) (by (command_shape (list a us e))) ∙ no_atom_rests ds at k n
    where
      by : (o : _) → (shape_rests_on o None || some_rests_on ds (atom at k n)) ≡ some_rests_on ds (atom at k n)
      by (Some s) = refl
      by None = refl
  no_atom_rests (more (atom a m x) ds) at k n = no_atom_rests ds at k n

pub trimmed_lists : (ts : Trees) → AreLists (trimmed ts)
unfolding trimmed
trimmed_lists none = tt
trimmed_lists (more (atom at k n) ts) = subst (λ b. AreLists (if b then more (atom at k n) (trimmed ts) else trimmed ts)) (sym (no_atom_rests (trimmed ts) at k n)) (trimmed_lists ts)
trimmed_lists (more (list at us end) ts) = by (is_empty_step (list at us end)) (some_rests_on (trimmed ts) (list at us end)) (trimmed_lists ts)
  where
    by : (q r : Bool) → AreLists (trimmed ts) → AreLists (if q then more (list at us end) none else if r then more (list at us end) (trimmed ts) else trimmed ts)
    by true r h = tt
    by false true h = h
    by false false h = h

pub trimmed_words : (ts : Trees) → HaveWords ts → HaveWords (trimmed ts)
unfolding trimmed
trimmed_words none h = tt
trimmed_words (more t ts) h = by (is_empty_step t) (some_rests_on (trimmed ts) t) (trimmed_words ts h.1)
  where
    by : (q r : Bool) → HaveWords (trimmed ts) → HaveWords (if q then more t none else if r then more t (trimmed ts) else trimmed ts)
    by true r g = (h.0, tt)
    by false true g = (h.0, g)
    by false false g = g

-- and it stands in the proof, in its order
pub trimmed_part : (ts : Trees) → ArePart (trimmed ts) ts
unfolding trimmed
trimmed_part none = tt
trimmed_part (more t ts) = by (is_empty_step t) (some_rests_on (trimmed ts) t) (trimmed_part ts)
  where
    skip : (us : Trees) → ArePart us ts → ArePart us (more t ts)
    skip none h = tt
    skip (more u us) h = inr h

    by : (q r : Bool) → ArePart (trimmed ts) ts → ArePart (if q then more t none else if r then more t (trimmed ts) else trimmed ts) (more t ts)
    by true r g = inl (refl, tt)
    by false true g = inl (refl, g)
    by false false g = skip (trimmed ts) g

-- the words of a whole text
words_behind : (xs : List (ℕ × Lexeme)) → AreWords xs → AreWords (behind_unsat xs)
words_behind [] h = h
words_behind ((at, word k n) ∷ xs) h = by (is_symbol k) (bytes_eq n (codes "unsat"))
  where
    by : (a b : Bool) → AreWords (if a then (if b then xs else (at, word k n) ∷ xs) else (at, word k n) ∷ xs)
    by true true = h.1
    by true false = h
    by false b = h
words_behind ((at, blank) ∷ xs) h = h
words_behind ((at, opens) ∷ xs) h = h
words_behind ((at, closes) ∷ xs) h = h
words_behind ((at, wrong f) ∷ xs) h = h

pub words_of_text : (text : List ℕ) (ts : Trees) → IsWholeText text ts → HaveWords ts
words_of_text text ts h = by (begins_listed (all_lexemes text)) h
  where
    all : AreWords (all_lexemes text)
    all = words_behind (lexemes 0 0 text) (words_all 0 0 text)

    by : (b : Bool) → AreAllCommands b (all_lexemes text) ts → HaveWords ts
    by false is = (words_rest ts [] (subst AreWords (is ∙ sym (append-nil (spelled_all ts))) all)).0
    by true (at, end, is) = (words_rest ts ((end, closes) ∷ []) (subst AreWords is all)).0

-- a whole text is one row of commands
pub one_whole : (text : List ℕ) (ts us : Trees) → IsWholeText text ts → IsWholeText text us → ts ≡ us
one_whole text ts us = by (begins_listed (all_lexemes text))
  where
    by : (b : Bool) → AreAllCommands b (all_lexemes text) ts → AreAllCommands b (all_lexemes text) us → ts ≡ us
    by false f g = same_trees ts us (sym f ∙ g)
    by true (at, end, is) (at', end', is') = (same_inside ts us end end' [] [] (heads (sym is ∙ is')).2).0

-- lines but for offsets and bars
pub same_lines : (at : ℕ) (ts : Trees) → SameTrees ts (moved_lines at ts)
same_lines at none = tt
same_lines at (more t ts) = (same_moved at t, same_lines (at + length (printed t) + 1) ts)

-- printed again they are the same
word_again : (k : Kind) (w : List ℕ) → printed_word (kind_of k w) w ≡ printed_word k w
word_again kinds.Numeral w = refl
word_again kinds.Decimal w = refl
word_again kinds.Text w = refl
word_again kinds.Simple w = refl
word_again kinds.Reserved w = refl
word_again kinds.Keyword w = refl
word_again kinds.Quoted w = by (is_bare w) refl
  where
    by : (b : Bool) → is_bare w ≡ b → printed_word (cond b kinds.Simple kinds.Quoted) w ≡ printed_word kinds.Quoted w
    by true e = sym (ap (λ b. cond b w (124 ∷ w ++ 124 ∷ [])) e)
    by false e = refl

mutual
  tree_again : (at : ℕ) (t : Tree) → printed (moved at t) ≡ printed t
  tree_again at (atom from k w) = word_again k w
  tree_again at (list from ts end) = ap (λ (xs : List ℕ). 40 ∷ xs ++ 41 ∷ []) (trees_again (at + 1) ts)

  trees_again : (at : ℕ) (ts : Trees) → printed_all (moved_all at ts) ≡ printed_all ts
  trees_again at none = refl
  trees_again at (more t none) = tree_again at t
  trees_again at (more t (more u us)) = ap₂ (λ (x y : List ℕ). x ++ 32 ∷ y) (tree_again at t) (trees_again (at + length (printed t) + 1) (more u us))

-- and trimmed again
abbrev chosen : Bool → Bool → Tree → Trees → Trees
chosen q r t ts = if q then more t none else if r then more t ts else ts

trimmed_again : (at : ℕ) (ts : Trees) → (flat_all (trimmed (moved_lines at ts)) ≡ flat_all (trimmed ts)) × (printed_lines (trimmed (moved_lines at ts)) ≡ printed_lines (trimmed ts))
unfolding trimmed
trimmed_again at none = (refl, refl)
trimmed_again at (more t ts) = go (moved_lines (at + length (printed t) + 1) ts) (trimmed_again (at + length (printed t) + 1) ts)
  where
    same : flat (moved at t) ≡ flat t
    same = sym (same_flat t (moved at t) (same_moved at t))

    go : (us : Trees) → (flat_all (trimmed us) ≡ flat_all (trimmed ts)) × (printed_lines (trimmed us) ≡ printed_lines (trimmed ts))
        → (flat_all (chosen (is_empty_step (moved at t)) (some_rests_on (trimmed us) (moved at t)) (moved at t) (trimmed us)) ≡ flat_all (chosen (is_empty_step t) (some_rests_on (trimmed ts) t) t (trimmed ts)))
        × (printed_lines (chosen (is_empty_step (moved at t)) (some_rests_on (trimmed us) (moved at t)) (moved at t) (trimmed us)) ≡ printed_lines (chosen (is_empty_step t) (some_rests_on (trimmed ts) t) t (trimmed ts)))
    go us h =
        let q : is_empty_step (moved at t) ≡ is_empty_step t = sym (empty_step_flat (moved at t)) ∙ ap is_empty_step same ∙ empty_step_flat t in
        let r : some_rests_on (trimmed us) (moved at t) ≡ some_rests_on (trimmed ts) t = sym (some_rests_flat (trimmed us) (moved at t)) ∙ ap₂ some_rests_on h.0 same ∙ some_rests_flat (trimmed ts) t in
        let b = by (is_empty_step t) (some_rests_on (trimmed ts) t) in
        (ap₂ (λ (x y : Bool). flat_all (chosen x y (moved at t) (trimmed us))) q r ∙ b.0, ap₂ (λ (x y : Bool). printed_lines (chosen x y (moved at t) (trimmed us))) q r ∙ b.1)
      where
        line : printed (moved at t) ≡ printed t
        line = tree_again at t

        by : (x y : Bool) → (flat_all (chosen x y (moved at t) (trimmed us)) ≡ flat_all (chosen x y t (trimmed ts))) × (printed_lines (chosen x y (moved at t) (trimmed us)) ≡ printed_lines (chosen x y t (trimmed ts)))
        by true y = (ap (λ x. more x none) same, ap (λ (x : List ℕ). x ++ 10 ∷ []) line)
        by false true = (ap₂ more same h.0, ap₂ (λ (x y : List ℕ). x ++ 10 ∷ y) line h.1)
        by false false = h

pub text_again : (ts : Trees) → trim_text (moved_lines 2 (trimmed ts)) ≡ trim_text ts
text_again ts = ap (λ (xs : List ℕ). codes "(\n" ++ xs ++ codes ")\n") ((trimmed_again 2 (trimmed ts)).1 ∙ ap printed_lines (whole ts))

-- the text of what is kept of a whole text is this, and within the limit it is read
module _ (text : List ℕ) (ts : Trees) (h : IsWholeText text ts) where
  pub trim_read : IsWholeText (trim_text ts) (moved_lines 2 (trimmed ts))
  trim_read = list_whole (trimmed ts) (trimmed_words ts (words_of_text text ts h)) (trimmed_lists ts)

  pub trim_short : is_long (trim_text ts) ≡ false → IsProofText (trim_text ts) (moved_lines 2 (trimmed ts)) complete
  trim_short short = text_read (trim_text ts) (moved_lines 2 (trimmed ts)) short trim_read
