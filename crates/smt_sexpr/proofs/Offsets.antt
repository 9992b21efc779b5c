-- Where lexemes are: their offsets rise, and from its own offset on each is the first.
use Rattle.std.proofs.Common.{◌≡◌, ℕ, zero, suc, ◌+◌, ◌-◌, ◌<◌, ◌≤◌, List, [], ◌∷◌, ◌++◌, length, drop, sym, ap, ◌∙◌, refl, subst, append_assoc, length-drop, arith}
use Rattle.std.specs.Prelude.{⊤}
use Rattle.spec_text.specs.Lexemes.{Lexeme, blank, opens, closes, word, wrong, Piece, piece, first_piece, before, lexemes, lexemes_from}
use Rattle.spec_text.specs.Trees.{Tree, Trees, atom, list, none, more, spelled, spelled_all}
use Rattle.spec_text.proofs.Reading.{heads}
use Rattle.spec_text.proofs.Offsets.{next_here}
use Rattle.smt_sexpr.specs.Items.{IsWithin, AreWithin}

-- a lexeme that is no fault
abbrev pub IsToken : Lexeme → Type 0
IsToken (wrong f) = ⊥
IsToken _ = ⊤

-- the offsets of tokens rise, from one on, and are before another; nothing follows a fault
abbrev pub Rise : ℕ → ℕ → List (ℕ × Lexeme) → Type 0
Rise low high [] = ⊤
Rise low high ((at, wrong f) ∷ xs) = xs ≡ []
Rise low high ((at, _) ∷ xs) = (low ≤ at) × (at < high) × Rise (at + 1) high xs

rise_lower : (low high : ℕ) (xs : List (ℕ × Lexeme)) → Rise (low + 1) high xs → Rise low high xs
rise_lower low high [] h = tt
rise_lower low high ((at, wrong f) ∷ xs) h = h
rise_lower low high ((at, blank) ∷ xs) h = (omega (arith, h.0), h.1, h.2)
rise_lower low high ((at, opens) ∷ xs) h = (omega (arith, h.0), h.1, h.2)
rise_lower low high ((at, closes) ∷ xs) h = (omega (arith, h.0), h.1, h.2)
rise_lower low high ((at, word k w) ∷ xs) h = (omega (arith, h.0), h.1, h.2)

module _ (text : List ℕ) where
  rise_before : (at : ℕ) (p : Piece) (rest : List (ℕ × Lexeme)) → at < length text → Rise (at + 1) (length text) rest → Rise at (length text) (before at p rest)
  rise_before at p rest within h = go p.lexeme
    where
      go : (x : Lexeme) → Rise at (length text) (before at (piece x p.size) rest)
      go blank = rise_lower at (length text) rest h
      go (wrong f) = refl
      go opens = (omega arith, within, h)
      go closes = (omega arith, within, h)
      go (word k w) = (omega arith, within, h)

  rise_all : (n at : ℕ) (bs : List ℕ) → drop at text ≡ bs → Rise at (length text) (lexemes n at bs)
  unfolding lexemes
  rise_all n at [] e = tt
  rise_all (suc n) at (b ∷ bs) e = rise_lower at (length text) (lexemes n (at + 1) bs) (rise_all n (at + 1) bs (next_here text at b bs e))
  rise_all zero at (b ∷ bs) e = rise_before at (first_piece b bs) (lexemes ((first_piece b bs).size - 1) (at + 1) bs) (omega (arith, ap length e, length-drop at text)) (rise_all ((first_piece b bs).size - 1) (at + 1) bs (next_here text at b bs e))

  pub lexemes_rise : (at : ℕ) → Rise at (length text) (lexemes_from text at)
  lexemes_rise at = rise_all 0 at (drop at text) refl

  -- what comes after others is the first from its own offset on
  abbrev Resumes : List (ℕ × Lexeme) → Type 0
  Resumes xs = (front : List (ℕ × Lexeme)) (at : ℕ) (x : Lexeme) (rest : List (ℕ × Lexeme)) → xs ≡ front ++ (at, x) ∷ rest → IsToken x → lexemes_from text at ≡ (at, x) ∷ rest

  resumes_behind : (at : ℕ) (x : Lexeme) (rest : List (ℕ × Lexeme)) → lexemes_from text at ≡ (at, x) ∷ rest → Resumes rest → Resumes ((at, x) ∷ rest)
  resumes_behind at x rest here behind [] at' x' rest' e token =
      let h = heads e in
      let same : at ≡ at' = h.0 in
      ap (lexemes_from text) (sym same) ∙ here ∙ e
  resumes_behind at x rest here behind (q ∷ front) at' x' rest' e token = let more : rest ≡ front ++ (at', x') ∷ rest' = cc in behind front at' x' rest' more token

  resumes_before : (at : ℕ) (p : Piece) (rest : List (ℕ × Lexeme)) → lexemes_from text at ≡ before at p rest → Resumes rest → Resumes (before at p rest)
  resumes_before at p rest here behind = go p.lexeme here
    where
      go : (x : Lexeme) → lexemes_from text at ≡ before at (piece x p.size) rest → Resumes (before at (piece x p.size) rest)
      go blank e = behind
      go opens e = resumes_behind at opens rest e behind
      go closes e = resumes_behind at closes rest e behind
      go (word k w) e = resumes_behind at (word k w) rest e behind
      go (wrong f) e = λ front at' x' rest' g token. absurd (none (at + p.size) at' front x' rest' g token)
        where
          none : (a b : ℕ) (front : List (ℕ × Lexeme)) (x : Lexeme) (rest : List (ℕ × Lexeme)) → (a, wrong f) ∷ [] ≡ front ++ (b, x) ∷ rest → IsToken x → ⊥
          none a b [] x rest g token = let same : wrong f ≡ x = (heads g).1 in rw (← same) at token
          none a b (q ∷ []) x rest g token = cc
          none a b (q ∷ r ∷ front) x rest g token = cc

  resumes_all : (n at : ℕ) (bs : List ℕ) → drop at text ≡ bs → Resumes (lexemes n at bs)
  unfolding lexemes
  resumes_all n at [] e [] at' x rest g token = cc
  resumes_all n at [] e (q ∷ front) at' x rest g token = cc
  resumes_all (suc n) at (b ∷ bs) e front at' x rest g token = resumes_all n (at + 1) bs (next_here text at b bs e) front at' x rest g token
  resumes_all zero at (b ∷ bs) e front at' x rest g token =
      resumes_before at (first_piece b bs) (lexemes ((first_piece b bs).size - 1) (at + 1) bs) (ap (lexemes 0 at) e) (resumes_all ((first_piece b bs).size - 1) (at + 1) bs (next_here text at b bs e)) front at' x rest g token

  pub resumes : (from : ℕ) → Resumes (lexemes_from text from)
  resumes from = resumes_all 0 from (drop from text) refl

-- lexemes that rise from a bound on, or from after it
abbrev RiseFrom : ℕ → ℕ → List (ℕ × Lexeme) → Type 0
RiseFrom low high xs = (from : ℕ) × (low ≤ from) × Rise from high xs

mutual
  tree_within : (low high : ℕ) (t : Tree) (rest : List (ℕ × Lexeme)) → RiseFrom low high (spelled t ++ rest) → IsWithin low high t × RiseFrom low high rest
  tree_within low high (atom at k w) rest (from, l, h) = ((omega (arith, h.0), h.1), (at + 1, omega (arith, h.0), h.2))
  tree_within low high (list at ts end) rest (from, l, h) =
      let r = trees_within low high ts ((end, closes) ∷ rest) (at + 1, omega (arith, h.0), subst (Rise (at + 1) high) (append_assoc (spelled_all ts) ((end, closes) ∷ []) rest) h.2) in
      ((omega (arith, h.0), h.1, r.0, omega (arith, r.1.1, r.1.2.0), r.1.2.1), (end + 1, omega (arith, r.1.1, r.1.2.0), r.1.2.2))

  trees_within : (low high : ℕ) (ts : Trees) (rest : List (ℕ × Lexeme)) → RiseFrom low high (spelled_all ts ++ rest) → AreWithin low high ts × RiseFrom low high rest
  trees_within low high none rest h = (tt, h)
  trees_within low high (more t ts) rest h =
      let f = tree_within low high t (spelled_all ts ++ rest) (subst (RiseFrom low high) (append_assoc (spelled t) (spelled_all ts) rest) h) in
      let r = trees_within low high ts rest f.1 in
      ((f.0, r.0), r.1)

-- the offsets of a tree that is at one
pub within_text : (text : List ℕ) (at : ℕ) (t : Tree) (rest : List (ℕ × Lexeme)) → lexemes_from text at ≡ spelled t ++ rest → IsWithin at (length text) t
within_text text at t rest e = (tree_within at (length text) t rest (at, omega arith, subst (Rise at (length text)) e (lexemes_rise text at))).0

-- the offset of a token is from the first one on, and before the end of the text
pub begins_within : (text : List ℕ) (from : ℕ) (front : List (ℕ × Lexeme)) (at : ℕ) (x : Lexeme) (rest : List (ℕ × Lexeme)) → lexemes_from text from ≡ front ++ (at, x) ∷ rest → IsToken x → (from ≤ at) × (at < length text)
begins_within text from front at x rest e token = go from front (subst (Rise from (length text)) e (lexemes_rise text from))
  where
    here : (low : ℕ) (x : Lexeme) → IsToken x → Rise low (length text) ((at, x) ∷ rest) → (low ≤ at) × (at < length text)
    here low (wrong f) token r = absurd token
    here low blank token r = (r.0, r.1)
    here low opens token r = (r.0, r.1)
    here low closes token r = (r.0, r.1)
    here low (word k w) token r = (r.0, r.1)

    go : (low : ℕ) (front : List (ℕ × Lexeme)) → Rise low (length text) (front ++ (at, x) ∷ rest) → (low ≤ at) × (at < length text)
    go low [] r = here low x token r
    go low ((b, wrong f) ∷ []) r = cc
    go low ((b, wrong f) ∷ (q ∷ front)) r = cc
    go low ((b, blank) ∷ front) r = let n = go (b + 1) front r.2 in (omega (arith, n.0, r.0), n.1)
    go low ((b, opens) ∷ front) r = let n = go (b + 1) front r.2 in (omega (arith, n.0, r.0), n.1)
    go low ((b, closes) ∷ front) r = let n = go (b + 1) front r.2 in (omega (arith, n.0, r.0), n.1)
    go low ((b, word k w) ∷ front) r = let n = go (b + 1) front r.2 in (omega (arith, n.0, r.0), n.1)
