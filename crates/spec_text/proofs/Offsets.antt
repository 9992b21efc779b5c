-- Lexemes are in their text, and so do the trees that they are, and their first fault.
use Rattle.std.proofs.Common.{◌≡◌, ◌≤◌, ◌<◌, ℕ, zero, suc, ◌+◌, ◌-◌, ◌==◌, Bool, true, false, cond, List, [], ◌∷◌, ◌++◌, length, drop, Option, Some, None, refl, sym, ap, ◌∙◌, arith, subst, append_assoc, length-append, length-drop}
use Rattle.std.proofs.lemmas.List.{drop-drop}
use Rattle.spec_text.specs.declared.Fault.TheVariants.{BadChar}
use Rattle.spec_text.specs.declared.Kind.{Kind}
use Rattle.spec_text.specs.declared.Kind.TheVariants.{Decimal, Numeral}
use Rattle.spec_text.specs.Bytes.{is_blank, is_digit, is_symbol_byte, is_in_bars, front}
use Rattle.spec_text.specs.Lexemes.{Lexeme, blank, opens, closes, word, wrong, Piece, piece, ended, decimal, number, string, string_body, quoted, keyword, first_piece, before, lexemes, lexemes_from}
use Rattle.spec_text.specs.Trees.{Tree, Trees, atom, list, none, more, spelled, spelled_all}
use Rattle.spec_text.specs.Offsets.{AllOffsets, AllOffsetsOf}
use Rattle.spec_text.specs.Faults.{Located, first_fault}
use Rattle.spec_text.proofs.Tests.{front_then_rest}

-- before a fault are no more bytes than there are
abbrev FitsBy : Lexeme → ℕ → ℕ → Type 0
FitsBy (wrong f) n size = n ≤ size
FitsBy _ n size = Unit {0}

abbrev Fits : ℕ → Piece → Type 0
Fits size p = FitsBy p.lexeme p.size size

either : (size : ℕ) (c : Bool) (p q : Piece) → Fits size p → Fits size q → Fits size (cond c p q)
either size true p q h k = h
either size false p q h k = k

ended_fits : (size : ℕ) (rest : List ℕ) (n : ℕ) (k : Kind) (name : List ℕ) → n ≤ size → Fits size (ended rest n (word k name))
ended_fits size [] n k name h = tt
ended_fits size (b ∷ bs) n k name h = either size (is_symbol_byte b) (piece (wrong BadChar) n) (piece (word k name) n) h tt

decimal_fits : (size : ℕ) (digits fraction rest : List ℕ) → length digits + 1 + length fraction ≤ size → Fits size (decimal digits fraction rest)
decimal_fits size digits [] rest h = omega (arith, h)
decimal_fits size digits (d ∷ ds) rest h = ended_fits size rest (length digits + 1 + length (d ∷ ds)) Decimal _ h

-- a prefix is no longer than the whole
pub front_within : (test : ℕ → Bool) (bs : List ℕ) → length (front test bs) ≤ length bs
front_within test bs = omega (arith, ap length (front_then_rest test bs), length-append (front test bs) (drop (length (front test bs)) bs))

number_fits : (size : ℕ) (digits rest : List ℕ) → length digits + length rest ≤ size → Fits size (number digits rest)
number_fits size digits [] h = tt
number_fits size digits (b ∷ bs) h = either size (b == 46) _ _
    (decimal_fits size digits (front is_digit bs) (drop (length (front is_digit bs)) bs) (omega (arith, h, front_within is_digit bs)))
    (ended_fits size (b ∷ bs) (length digits) Numeral digits (omega (arith, h)))

string_fits : (size : ℕ) (o : Option (List ℕ)) → Fits size (string o)
string_fits size None = omega arith
string_fits size (Some body) = tt

quoted_fits : (size : ℕ) (name rest : List ℕ) → length name + 1 ≤ size → Fits size (quoted name rest)
quoted_fits size name [] h = omega arith
quoted_fits size name (b ∷ bs) h = either size (b == 124) _ _ tt h

keyword_fits : (size : ℕ) (name : List ℕ) → Fits size (keyword name)
keyword_fits size [] = omega arith
keyword_fits size (b ∷ bs) = tt

rest_within : (test : ℕ → Bool) (bs : List ℕ) → length (front test bs) + length (drop (length (front test bs)) bs) ≤ length bs
rest_within test bs = omega (arith, ap length (front_then_rest test bs), length-append (front test bs) (drop (length (front test bs)) bs))

first_fits : (b : ℕ) (bs : List ℕ) → Fits (1 + length bs) (first_piece b bs)
unfolding first_piece
first_fits b bs =
    let size : ℕ = 1 + length bs in
    either size (is_blank b) _ _ tt (
    either size (b == 59) _ _ tt (
    either size (b == 40) _ _ tt (
    either size (b == 41) _ _ tt (
    either size (b == 48) _ _ (number_fits size (48 ∷ []) bs (omega arith)) (
    either size (is_digit b) _ _ (number_fits size (b ∷ front is_digit bs) (drop (length (front is_digit bs)) bs) (omega (arith, rest_within is_digit bs))) (
    either size (b == 34) _ _ (string_fits size (string_body bs)) (
    either size (b == 124) _ _ (quoted_fits size (front is_in_bars bs) (drop (length (front is_in_bars bs)) bs) (omega (arith, front_within is_in_bars bs))) (
    either size (b == 58) _ _ (keyword_fits size (front is_symbol_byte bs)) (
    either size (is_symbol_byte b) _ _ tt (omega arith))))))))))

-- a lexeme is from an offset on and before another, and a fault no further than the other
abbrev IsFaultBy : ℕ → ℕ → ℕ → Lexeme → Type 0
IsFaultBy low high at (wrong f) = at ≤ high
IsFaultBy low high at _ = (low ≤ at) × (at < high)

abbrev AreFaultsWithin : ℕ → ℕ → List (ℕ × Lexeme) → Type 0
AreFaultsWithin low high [] = Unit {0}
AreFaultsWithin low high (x ∷ xs) = IsFaultBy low high x.0 x.1 × AreFaultsWithin low high xs

-- what comes after a byte
pub next_here : (text : List ℕ) (at b : ℕ) (bs : List ℕ) → drop at text ≡ b ∷ bs → drop (at + 1) text ≡ bs
next_here text at b bs e = sym (drop-drop 1 at text) ∙ ap (drop 1) e

module _ (text : List ℕ) (low : ℕ) where
  within_before : (at : ℕ) (p : Piece) (rest : List (ℕ × Lexeme)) → low ≤ at → at < length text → Fits (length text - at) p → AreFaultsWithin low (length text) rest → AreFaultsWithin low (length text) (before at p rest)
  within_before at p rest from within fits behind = go p.lexeme fits
    where
      go : (x : Lexeme) → FitsBy x p.size (length text - at) → AreFaultsWithin low (length text) (before at (piece x p.size) rest)
      go blank f = behind
      go opens f = ((from, within), behind)
      go closes f = ((from, within), behind)
      go (word k name) f = ((from, within), behind)
      go (wrong e) f = (omega (arith, within, f), tt)

  within_from : (n at : ℕ) (bs : List ℕ) → low ≤ at → drop at text ≡ bs → AreFaultsWithin low (length text) (lexemes n at bs)
  unfolding lexemes
  within_from n at [] from e = tt
  within_from (suc n) at (b ∷ bs) from e = within_from n (at + 1) bs (omega (arith, from)) (next_here text at b bs e)
  within_from zero at (b ∷ bs) from e =
      let size : 1 + length bs ≡ length text - at = omega (arith, ap length e, length-drop at text) in
      within_before at (first_piece b bs) _ from (omega (arith, size)) (subst (λ n. Fits n (first_piece b bs)) size (first_fits b bs))
      (within_from ((first_piece b bs).size - 1) (at + 1) bs (omega (arith, from)) (next_here text at b bs e))

lexemes_within : (text : List ℕ) (at : ℕ) → AreFaultsWithin at (length text) (lexemes_from text at)
lexemes_within text at = within_from text at 0 at (drop at text) (omega arith) refl

-- what comes after others
within_behind : (low high : ℕ) (earlier rest : List (ℕ × Lexeme)) → AreFaultsWithin low high (earlier ++ rest) → AreFaultsWithin low high rest
within_behind low high [] rest h = h
within_behind low high (x ∷ earlier) rest h = within_behind low high earlier rest h.1

module _ (low high : ℕ) where
  -- an offset of the text
  abbrev IsOffset : ℕ → Type 0
  IsOffset n = (low ≤ n) × (n < high)

  mutual
    tree_is_within : (t : Tree) (rest : List (ℕ × Lexeme)) → AreFaultsWithin low high (spelled t ++ rest) → AllOffsets IsOffset t × AreFaultsWithin low high rest
    tree_is_within (atom at k bytes) rest h = h
    tree_is_within (list at ts end) rest h =
        let inside = trees_are_within ts ((end, closes) ∷ rest) (subst (AreFaultsWithin low high) (append_assoc (spelled_all ts) ((end, closes) ∷ []) rest) h.1) in
        ((h.0, inside.0), inside.1.1)

    trees_are_within : (ts : Trees) (rest : List (ℕ × Lexeme)) → AreFaultsWithin low high (spelled_all ts ++ rest) → AllOffsetsOf IsOffset ts × AreFaultsWithin low high rest
    trees_are_within none rest h = (tt, h)
    trees_are_within (more t ts) rest h =
        let first = tree_is_within t (spelled_all ts ++ rest) (subst (AreFaultsWithin low high) (append_assoc (spelled t) (spelled_all ts) rest) h) in
        let others = trees_are_within ts rest first.1 in
        ((first.0, others.0), others.1)

-- a fault, where there is one, is no further than so many bytes
abbrev IsFaultAt : ℕ → Option Located → Type 0
IsFaultAt high None = Unit {0}
IsFaultAt high (Some f) = f.offset ≤ high

-- the first fault of lexemes is among them, or at the end
first_within : (low high n : ℕ) (xs : List (ℕ × Lexeme)) → AreFaultsWithin low high xs → IsFaultAt high (first_fault high n xs)
unfolding first_fault
first_within low high zero [] h = tt
first_within low high (suc n) [] h = omega arith
first_within low high n ((at, blank) ∷ xs) h = first_within low high n xs h.1
first_within low high n ((at, opens) ∷ xs) h = first_within low high (suc n) xs h.1
first_within low high zero ((at, closes) ∷ xs) h = omega (arith, h.0.1)
first_within low high (suc n) ((at, closes) ∷ xs) h = first_within low high n xs h.1
first_within low high n ((at, word k bytes) ∷ xs) h = first_within low high n xs h.1
first_within low high n ((at, wrong f) ∷ xs) h = h.0

-- trees that are in a text after other lexemes have their offsets there
pub trees_in_text : (text : List ℕ) (at : ℕ) (earlier rest : List (ℕ × Lexeme)) (ts : Trees) → lexemes_from text at ≡ earlier ++ (spelled_all ts ++ rest) → AllOffsetsOf (λ n. (at ≤ n) × (n < length text)) ts
trees_in_text text at earlier rest ts e = (trees_are_within at (length text) ts rest (within_behind at (length text) earlier (spelled_all ts ++ rest) (subst (AreFaultsWithin at (length text)) e (lexemes_within text at)))).0

pub tree_in_text : (text : List ℕ) (at : ℕ) (t : Tree) (rest : List (ℕ × Lexeme)) → lexemes_from text at ≡ spelled t ++ rest → AllOffsets (λ n. (at ≤ n) × (n < length text)) t
tree_in_text text at t rest e = (tree_is_within at (length text) t rest (subst (AreFaultsWithin at (length text)) e (lexemes_within text at))).0

-- the first fault of what is in a text after other lexemes has its offset there
pub fault_in_text : (text : List ℕ) (at n : ℕ) (earlier rest : List (ℕ × Lexeme)) (f : Located) → lexemes_from text at ≡ earlier ++ rest → first_fault (length text) n rest ≡ Some f → f.offset ≤ length text
fault_in_text text at n earlier rest f e h = subst (IsFaultAt (length text)) h (first_within at (length text) n rest (within_behind at (length text) earlier rest (subst (AreFaultsWithin at (length text)) e (lexemes_within text at))))
