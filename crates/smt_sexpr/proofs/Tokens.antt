-- What is written of a tree, token by token.
use Rattle.std.proofs.Common.{◌≡◌, ℕ, ◌+◌, ◌<◌, ◌≤◌, Bool, true, false, List, [], ◌∷◌, ◌++◌, length, drop, sym, ap, ◌∙◌, refl, subst, inl, inr, append_assoc, append-nil, arith}
use Rattle.std.specs.Prelude.{⊤}
use Rattle.spec_text.specs.declared.Place.{Place}
use Rattle.spec_text.specs.Lexemes.{Lexeme, blank, opens, closes, word, wrong, lexemes_from}
use Rattle.spec_text.specs.Trees.{Tree, Trees, atom, list, none, more, spelled, spelled_all}
use Rattle.spec_text.specs.Printed.{printed_word, printed, printed_all}
use Rattle.spec_text.proofs.Reading.{heads}
use Rattle.world_io.specs.Writing.{SinkView, Sent, NotSent}
use Rattle.world_io.proofs.Sending.{first_fails, second_fails}
use Rattle.smt_lexer.specs.declared.TokenKind.{TokenKind}
use Rattle.smt_lexer.specs.declared.TokenKind.TheVariants as kinds
use Rattle.smt_lexer.specs.Tokens as lexer
use Rattle.smt_sexpr.specs.Printing.{gap, token_bytes, wants_space, last_of, HasNoToken, IsTreeFrom}
use Rattle.smt_sexpr.proofs.Offsets.{IsToken, Rise, lexemes_rise}

-- what is written of lexemes, the first of them after a space where one is wanted
abbrev pub written : Bool → List (ℕ × Lexeme) → List ℕ
written wanted [] = []
written wanted ((at, opens) ∷ xs) = (gap wanted ++ 40 ∷ []) ++ written false xs
written wanted ((at, closes) ∷ xs) = 41 ∷ written true xs
written wanted ((at, word k bytes) ∷ xs) = (gap wanted ++ printed_word k bytes) ++ written true xs
written wanted ((at, _) ∷ xs) = written wanted xs

-- there is a tree
abbrev AreSome : Trees → Type 0
AreSome none = ⊥
AreSome (more t ts) = ⊤

-- what is written of trees up to the end of their list
abbrev AreWritten : Bool → Trees → Type 0
AreWritten wanted ts = AreSome ts → (end : ℕ) (xs : List (ℕ × Lexeme)) → written wanted (spelled_all ts ++ (end, closes) ∷ xs) ≡ gap wanted ++ (printed_all ts ++ 41 ∷ written true xs)

one_more : (wanted : Bool) (t : Tree) (ts : Trees) → ((xs : List (ℕ × Lexeme)) → written wanted (spelled t ++ xs) ≡ gap wanted ++ (printed t ++ written true xs)) → AreWritten true ts → AreWritten wanted (more t ts)
one_more wanted t none first rest some end xs = ap (λ ys. written wanted (ys ++ (end, closes) ∷ xs)) (append-nil (spelled t)) ∙ first ((end, closes) ∷ xs)
one_more wanted t (more u us) first rest some end xs =
    ap (written wanted) (append_assoc (spelled t) (spelled_all (more u us)) ((end, closes) ∷ xs))
    ∙ first (spelled_all (more u us) ++ (end, closes) ∷ xs)
    ∙ ap (λ ys. gap wanted ++ (printed t ++ ys)) (rest tt end xs)
    ∙ ap (λ ys. gap wanted ++ ys) (sym (append_assoc (printed t) (32 ∷ printed_all (more u us)) (41 ∷ written true xs)))

inside_list : (ts : Trees) → AreWritten false ts → (end : ℕ) (xs : List (ℕ × Lexeme)) → written false (spelled_all ts ++ (end, closes) ∷ xs) ≡ printed_all ts ++ 41 ∷ written true xs
inside_list none h end xs = refl
inside_list (more t ts) h end xs = h tt end xs

mutual
  written_tree : (wanted : Bool) (t : Tree) (xs : List (ℕ × Lexeme)) → written wanted (spelled t ++ xs) ≡ gap wanted ++ (printed t ++ written true xs)
  written_tree wanted (atom at k bytes) xs = append_assoc (gap wanted) (printed_word k bytes) (written true xs)
  written_tree wanted (list at ts end) xs =
      append_assoc (gap wanted) (40 ∷ []) (written false ((spelled_all ts ++ (end, closes) ∷ []) ++ xs))
      ∙ ap (λ ys. gap wanted ++ 40 ∷ written false ys) (append_assoc (spelled_all ts) ((end, closes) ∷ []) xs)
      ∙ ap (λ ys. gap wanted ++ 40 ∷ ys) (inside_list ts (written_trees false ts) end xs ∙ sym (append_assoc (printed_all ts) (41 ∷ []) (written true xs)))

  written_trees : (wanted : Bool) (ts : Trees) → AreWritten wanted ts
  written_trees wanted none some end xs = absurd some
  written_trees wanted (more t ts) some end xs = one_more wanted t ts (written_tree wanted t) (written_trees true ts) some end xs

-- a whole tree
written_whole : (t : Tree) → printed t ≡ written false (spelled t)
written_whole t = sym (ap (written false) (sym (append-nil (spelled t))) ∙ written_tree false t [] ∙ append-nil (printed t))

-- tokens, the last of which is at an offset
abbrev pub IsUpTo : ℕ → List (ℕ × Lexeme) → Type 0
IsUpTo last [] = ⊤
IsUpTo last ((at, x) ∷ []) = (at ≡ last) × IsToken x
IsUpTo last ((at, x) ∷ (y ∷ xs)) = IsToken x × IsUpTo last (y ∷ xs)

abbrev AreTokens : List (ℕ × Lexeme) → Type 0
AreTokens [] = ⊤
AreTokens ((at, x) ∷ xs) = IsToken x × AreTokens xs

tokens_both : (xs ys : List (ℕ × Lexeme)) → AreTokens xs → AreTokens ys → AreTokens (xs ++ ys)
tokens_both [] ys h k = k
tokens_both ((at, x) ∷ xs) ys h k = (h.0, tokens_both xs ys h.1 k)

mutual
  tree_tokens : (t : Tree) → AreTokens (spelled t)
  tree_tokens (atom at k bytes) = (tt, tt)
  tree_tokens (list at ts end) = (tt, tokens_both (spelled_all ts) ((end, closes) ∷ []) (trees_tokens ts) (tt, tt))

  trees_tokens : (ts : Trees) → AreTokens (spelled_all ts)
  trees_tokens none = tt
  trees_tokens (more t ts) = tokens_both (spelled t) (spelled_all ts) (tree_tokens t) (trees_tokens ts)

up_to_last : (last : ℕ) (x : Lexeme) (xs : List (ℕ × Lexeme)) → AreTokens xs → IsToken x → IsUpTo last (xs ++ (last, x) ∷ [])
up_to_last last x [] h token = (refl, token)
up_to_last last x ((at, y) ∷ []) h token = (h.0, (refl, token))
up_to_last last x ((at, y) ∷ (z ∷ xs)) h token = (h.0, up_to_last last x (z ∷ xs) h.1 token)

tree_up_to : (t : Tree) → IsUpTo (last_of t) (spelled t)
tree_up_to (atom at k bytes) = (refl, tt)
tree_up_to (list at ts end) = up_to_last end closes ((at, opens) ∷ spelled_all ts) (tt, trees_tokens ts) tt

-- the first of them is no later than the last
first_up_to : (last low high at : ℕ) (x : Lexeme) (xs ys : List (ℕ × Lexeme)) → IsUpTo last ((at, x) ∷ xs) → Rise low high ((at, x) ∷ xs ++ ys) → (low ≤ at) × (at ≤ last)
first_up_to last low high at (wrong f) [] ys u r = absurd u.1
first_up_to last low high at blank [] ys u r = (r.0, omega (arith, u.0))
first_up_to last low high at opens [] ys u r = (r.0, omega (arith, u.0))
first_up_to last low high at closes [] ys u r = (r.0, omega (arith, u.0))
first_up_to last low high at (word k w) [] ys u r = (r.0, omega (arith, u.0))
first_up_to last low high at (wrong f) ((b, y) ∷ xs) ys u r = absurd u.0
first_up_to last low high at blank ((b, y) ∷ xs) ys u r = let next = first_up_to last (at + 1) high b y xs ys u.1 r.2 in (r.0, omega (arith, next.0, next.1))
first_up_to last low high at opens ((b, y) ∷ xs) ys u r = let next = first_up_to last (at + 1) high b y xs ys u.1 r.2 in (r.0, omega (arith, next.0, next.1))
first_up_to last low high at closes ((b, y) ∷ xs) ys u r = let next = first_up_to last (at + 1) high b y xs ys u.1 r.2 in (r.0, omega (arith, next.0, next.1))
first_up_to last low high at (word k w) ((b, y) ∷ xs) ys u r = let next = first_up_to last (at + 1) high b y xs ys u.1 r.2 in (r.0, omega (arith, next.0, next.1))

-- a part of a tree's tokens is left from an offset on, and what was written and what is left are the tree's
pub record Left (text : List ℕ) (t : Tree) (last : ℕ) (wanted : Bool) (place : ℕ) (done : List ℕ) : Type 0 where
  pub rest : List (ℕ × Lexeme)
  pub post : List (ℕ × Lexeme)
  pub here : lexemes_from text place ≡ rest ++ post
  pub up_to : IsUpTo last rest
  pub over : rest ≡ [] → last < place
  pub bytes : printed t ≡ done ++ written wanted rest

-- at the start
pub left_all : (text : List ℕ) (t : Tree) (first last : ℕ) → IsTreeFrom text first last t → Left text t last false first []
left_all text t first last h = record {
  rest = spelled t;
  post = drop (length (spelled t)) (lexemes_from text first);
  here = h.0;
  up_to = rw h.1 (tree_up_to t);
  over = λ e. absurd (none t e);
  bytes = written_whole t;
}
  where
    none : (t : Tree) → spelled t ≡ [] → ⊥
    none (atom at k bytes) e = cc
    none (list at ts end) e = cc

-- at the end
pub left_none : (text : List ℕ) (t : Tree) (last : ℕ) (wanted : Bool) (place : ℕ) (done : List ℕ) → Left text t last wanted place done → last < place → printed t ≡ done
left_none text t last wanted place done l past = go l.rest l.here l.up_to l.bytes
  where
    go : (rest : List (ℕ × Lexeme)) → lexemes_from text place ≡ rest ++ l.post → IsUpTo last rest → printed t ≡ done ++ written wanted rest → printed t ≡ done
    go [] here up_to bytes = bytes ∙ append-nil done
    go ((at, x) ∷ rest) here up_to bytes =
        let f = first_up_to last place (length text) at x rest l.post up_to (subst (Rise place (length text)) here (lexemes_rise text place)) in
        absurd (omega (arith, f.0, f.1))

-- what a token leaves
pub record Taken (text : List ℕ) (t : Tree) (last : ℕ) (wanted : Bool) (after : ℕ) (done : List ℕ) (k : TokenKind) : Type 0 where
  pub later : List ℕ
  pub bytes : printed t ≡ done ++ (token_bytes wanted k ++ later)
  pub left : Left text t last (wants_space k) after (done ++ token_bytes wanted k)

module _ (text : List ℕ) (t : Tree) (last : ℕ) (wanted : Bool) (place : ℕ) (done : List ℕ) (l : Left text t last wanted place done) (some : place ≤ last) where
  -- there is a token left, and it is the first lexeme
  first_left : (A : Type 0) → ((at : ℕ) (x : Lexeme) (rest : List (ℕ × Lexeme)) → lexemes_from text place ≡ (at, x) ∷ rest ++ l.post → IsUpTo last ((at, x) ∷ rest) → printed t ≡ done ++ written wanted ((at, x) ∷ rest) → A) → A
  first_left A f = go l.rest l.here l.up_to l.over l.bytes
    where
      go : (rest : List (ℕ × Lexeme)) → lexemes_from text place ≡ rest ++ l.post → IsUpTo last rest → (rest ≡ [] → last < place) → printed t ≡ done ++ written wanted rest → A
      go [] here up_to over bytes = let past = over refl in absurd (omega arith)
      go ((at, x) ∷ rest) here up_to over bytes = f at x rest here up_to bytes

  pub no_end_left : HasNoToken text place → ⊥
  no_end_left nothing = first_left ⊥ (λ at x rest here up_to bytes. stops at x rest here up_to nothing)
    where
      stops : (at : ℕ) (x : Lexeme) (rest : List (ℕ × Lexeme)) → lexemes_from text place ≡ (at, x) ∷ rest ++ l.post → IsUpTo last ((at, x) ∷ rest) → HasNoToken text place → ⊥
      stops at x rest here u (inl e) = let f : [] ≡ (at, x) ∷ rest ++ l.post = sym e ∙ here in cc
      stops at x [] here u (inr (b, f, e)) = let same : wrong f ≡ x = (heads (sym e ∙ here)).1 in rw (← same) at u.1
      stops at x (y ∷ rest) here u (inr (b, f, e)) = let same : wrong f ≡ x = (heads (sym e ∙ here)).1 in rw (← same) at u.0

  step : (at after : ℕ) (y : Lexeme) (k : TokenKind) → ((zs : List (ℕ × Lexeme)) → written wanted ((at, y) ∷ zs) ≡ token_bytes wanted k ++ written (wants_space k) zs) → lexemes_from text place ≡ (at, y) ∷ lexemes_from text after → at < after → Taken text t last wanted after done k
  step at after y k writes first longer = first_left (Taken text t last wanted after done k) found
    where
      tail : (b : ℕ) (x : Lexeme) (rest : List (ℕ × Lexeme)) → IsUpTo last ((b, x) ∷ rest) → IsUpTo last rest
      tail b x [] u = tt
      tail b x (q ∷ rest) u = u.1

      over : (b : ℕ) (x : Lexeme) (rest : List (ℕ × Lexeme)) → at ≡ b → IsUpTo last ((b, x) ∷ rest) → rest ≡ [] → last < after
      over b x [] same u e = omega (arith, u.0)
      over b x (q ∷ rest) same u e = absurd cc

      found : (b : ℕ) (x : Lexeme) (rest : List (ℕ × Lexeme)) → lexemes_from text place ≡ (b, x) ∷ rest ++ l.post → IsUpTo last ((b, x) ∷ rest) → printed t ≡ done ++ written wanted ((b, x) ∷ rest) → Taken text t last wanted after done k
      found b x rest here up_to bytes =
          let h = heads (sym first ∙ here) in
          let same : written wanted ((b, x) ∷ rest) ≡ token_bytes wanted k ++ written (wants_space k) rest = ap (λ m. written wanted ((m, x) ∷ rest)) (sym h.0) ∙ ap (λ z. written wanted ((at, z) ∷ rest)) (sym h.1) ∙ writes rest in
          let all : printed t ≡ done ++ (token_bytes wanted k ++ written (wants_space k) rest) = bytes ∙ ap (λ ys. done ++ ys) same in
          record {
            later = written (wants_space k) rest;
            bytes = all;
            left = record {
              rest = rest;
              post = l.post;
              here = h.2;
              up_to = tail b x rest up_to;
              over = over b x rest h.0 up_to;
              bytes = all ∙ sym (append_assoc done (token_bytes wanted k) (written (wants_space k) rest));
            };
          }

  pub taken : (at after : Place) (k : TokenKind) → lexer.IsToken text place at after k → Taken text t last wanted after.offset done k
  taken at after kinds.Open s = step at.offset after.offset opens kinds.Open (λ zs. refl) s.first s.longer
  taken at after kinds.Close s = step at.offset after.offset closes kinds.Close (λ zs. refl) s.first s.longer
  taken at after (kinds.Word k bytes) s = step at.offset after.offset (word k bytes.now) (kinds.Word k bytes) (λ zs. refl) s.first s.longer
  taken at after kinds.End s = first_left _ (λ b x rest here up_to bytes. absurd (let e : [] ≡ (b, x) ∷ rest ++ l.post = sym s.nothing ∙ here in cc))

-- a token that failed, after those that were written, is a tree that failed
pub token_fails : (all done bytes later : List ℕ) (a b c : SinkView) → all ≡ done ++ (bytes ++ later) → Sent done a b → NotSent bytes b c → NotSent all a c
token_fails all done bytes later a b c e h k = subst (λ text. NotSent text a c) (sym e) (second_fails done (bytes ++ later) a b c h (first_fails bytes later b c k))

-- a token has one byte at least
pub token_longer : (text : List ℕ) (from : ℕ) (at after : Place) (k : TokenKind) → (k ≡ kinds.End → ⊥) → lexer.IsToken text from at after k → from < after.offset
token_longer text from at after kinds.Open some s = omega (arith, s.behind, s.longer)
token_longer text from at after kinds.Close some s = omega (arith, s.behind, s.longer)
token_longer text from at after (kinds.Word k bytes) some s = omega (arith, s.behind, s.longer)
token_longer text from at after kinds.End some s = absurd (some refl)
