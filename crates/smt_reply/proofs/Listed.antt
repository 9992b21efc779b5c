-- Texts in lists, piece by piece.
use Rattle.std.proofs.Common.{◌≡◌, ℕ, suc, ◌+◌, ◌<◌, List, [], ◌∷◌, ◌++◌, length, drop, map, get_or, refl, sym, ap, ◌∙◌, arith, append_assoc, append-nil}
use Rattle.std.proofs.lemmas.List.{drop_more, get_or-map, length-map}
use Rattle.std.specs.Prelude.{codes}
use Rattle.spec_text.specs.Bytes.{Name}
use Rattle.spec_text.specs.Trees.{Tree}
use Rattle.spec_text.specs.Printed.{printed, printed_all}
use Rattle.spec_models.specs.Values.{trees_of, in_list, value_text}
use Rattle.spec_sessions.specs.Replies.{tree_line}
use Rattle.world_io.specs.Writing.{SinkView}
use Rattle.world_io.proofs.Chains.{IsSending, start, split}
use Rattle.term_walks.specs.Valuations.{value_meant}
use Rattle.model_text.specs.Lines.{gap}
use Rattle.model_text.proofs.Texts.{spaced, printed_row}
use Rattle.smt_reply.specs.declared.values.TermValue.{TermValue}
use Rattle.smt_reply.specs.Pairs.{pair_text}
use Rattle.smt_reply.specs.Replies.{listed, listed_line}

-- a gap and a text, before the first piece
pub gap_start : (k : ℕ) (g text : List ℕ) (a : SinkView) → g ≡ gap k → IsSending (gap k ++ text) (g ∷ text ∷ []) a a
gap_start k g text a e = start _ _ a (ap (λ h. h ++ (text ++ [])) e ∙ ap (λ r. gap k ++ r) (append-nil text))

-- the list of texts, before its first piece
pub list_start : (texts : List (List ℕ)) (a : SinkView) → IsSending (listed_line texts) (codes "(" ∷ listed 0 texts ∷ codes ")\n" ∷ []) a a
list_start texts a = start _ _ a refl

-- a pair, before its first piece
pub pair_start : (sorts : List Name) (k : ℕ) (v : TermValue) (before : List ℕ) (a : SinkView) → before ≡ gap k ++ codes "("
    → IsSending (gap k ++ pair_text sorts v) (before ∷ v.text ∷ codes " " ∷ value_text (value_meant sorts v.value) ∷ codes ")" ∷ []) a a
pair_start sorts k v before a e = start _ _ a (ap (λ b. b ++ (v.text ++ (codes " " ++ (value_text (value_meant sorts v.value) ++ codes ")")))) e ∙ pieces (gap k) v.text (value_text (value_meant sorts v.value)))
  where
    pieces : (g t w : List ℕ) → (g ++ codes "(") ++ (t ++ (codes " " ++ (w ++ codes ")"))) ≡ g ++ (40 ∷ (t ++ 32 ∷ w) ++ 41 ∷ [])
    pieces g t w = simp (append_assoc) refl

next_number : (k : ℕ) → suc k ≡ k + 1
next_number k = omega arith

module _ {whole : List ℕ} {a b : SinkView} where
  -- one text more
  pub next_text : {X : Type 0} (f : X → List ℕ) (xs : List X) (k : ℕ) (d x : X) → k < length xs → x ≡ get_or xs k d → IsSending whole (listed k (drop k (map f xs)) ∷ []) a b
      → IsSending whole ((gap k ++ f x) ∷ listed (k + 1) (drop (k + 1) (map f xs)) ∷ []) a b
  next_text f xs k d x l e s =
      let more : drop k (map f xs) ≡ f (get_or xs k d) ∷ drop (k + 1) (map f xs) = drop_more (map f xs) k (f d) (omega (arith, l, length-map xs f)) ∙ ap (λ y. y ∷ drop (k + 1) (map f xs)) (get_or-map f xs k d (f d) l) in
      split _ _ _
      (ap (listed k) more
      ∙ ap (λ n. (gap k ++ f (get_or xs k d)) ++ listed n (drop (k + 1) (map f xs))) (next_number k)
      ∙ ap (λ y. (gap k ++ f y) ++ listed (k + 1) (drop (k + 1) (map f xs))) (sym e)) s

  -- and of rows of text as they are
  pub next_row : (rows : List (List ℕ)) (k : ℕ) (row : List ℕ) → k < length rows → row ≡ get_or rows k [] → IsSending whole (listed k (drop k rows) ∷ []) a b
      → IsSending whole ((gap k ++ row) ∷ listed (k + 1) (drop (k + 1) rows) ∷ []) a b
  next_row rows k row l e s = split _ _ _
      (ap (listed k) (drop_more rows k [] l)
      ∙ ap (λ n. (gap k ++ get_or rows k []) ++ listed n (drop (k + 1) rows)) (next_number k)
      ∙ ap (λ y. (gap k ++ y) ++ listed (k + 1) (drop (k + 1) rows)) (sym e)) s

-- a list as it is printed
later_texts : (k : ℕ) (ts : List Tree) → spaced ts ≡ listed (suc k) (map printed ts)
later_texts k [] = refl
later_texts k (t ∷ ts) = ap (λ r. 32 ∷ printed t ++ r) (later_texts (suc k) ts)

all_texts : (ts : List Tree) → printed_all (trees_of ts) ≡ listed 0 (map printed ts)
all_texts [] = refl
all_texts (t ∷ ts) = printed_row t ts ∙ ap (λ r. printed t ++ r) (later_texts 0 ts)

pub printed_list : (ts : List Tree) → tree_line (in_list ts) ≡ listed_line (map printed ts)
printed_list ts = ap (λ r. (40 ∷ r ++ 41 ∷ []) ++ 10 ∷ []) (all_texts ts) ∙ pieces (listed 0 (map printed ts))
  where
    pieces : (r : List ℕ) → (40 ∷ r ++ 41 ∷ []) ++ 10 ∷ [] ≡ 40 ∷ r ++ 41 ∷ 10 ∷ []
    pieces r = simp (append_assoc) refl
