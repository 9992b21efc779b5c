-- The texts of values, sorts and definitions, piece by piece.
use Rattle.std.proofs.Common.{◌≡◌, ℕ, suc, ◌<◌, List, [], ◌∷◌, ◌++◌, length, flat_map, refl, sym, ap, ◌∙◌, append_assoc, append-nil, arith}
use Rattle.std.specs.Prelude.{codes}
use Rattle.spec_text.specs.Printed.{printed, printed_all, printed_symbol}
use Rattle.spec_text.specs.Trees.{Tree}
use Rattle.spec_sorts.specs.Terms.{Sort, Symbol}
use Rattle.spec_sorts.specs.Values.{Value, TableRow, Table}
use Rattle.spec_models.specs.Values.{numeral, trees_of, in_list, word_tree, sort_tree, value_tree, value_text}
use Rattle.spec_models.specs.Models.{parameter, parameters_from, parameter_trees, equality_tree, equality_trees, condition_tree, body_tree, body_front, body_back, definition_tree, indented}
use Rattle.world_io.specs.Writing.{SinkView}
use Rattle.world_io.proofs.Chains.{IsSending, joined, start}
use Rattle.model_text.specs.Lines.{gap, parameter_text, parameters_listed, equalities_listed, row_front, lines_by, text_by}

-- trees, each after a space
abbrev pub spaced : List Tree → List ℕ
spaced ts = flat_map (λ t. 32 ∷ printed t) ts

-- trees in a row
pub printed_row : (t : Tree) (ts : List Tree) → printed_all (trees_of (t ∷ ts)) ≡ printed t ++ spaced ts
printed_row t [] = sym (append-nil (printed t))
printed_row t (u ∷ us) = ap (λ r. printed t ++ 32 ∷ r) (printed_row u us)

-- parameters after the first
later_parameters : (k : ℕ) (ss : List Sort) → spaced (parameter_trees (parameters_from (suc k) ss)) ≡ parameters_listed (suc k) ss
later_parameters k [] = refl
later_parameters k (s ∷ ss) = ap (λ r. 32 ∷ parameter_text (suc k) s ++ r) (later_parameters (suc k) ss)

all_parameters : (ss : List Sort) → printed_all (trees_of (parameter_trees (parameters_from 0 ss))) ≡ parameters_listed 0 ss
all_parameters [] = refl
all_parameters (s ∷ ss) = printed_row (in_list (word_tree (parameter 0) ∷ sort_tree s ∷ [])) (parameter_trees (parameters_from 1 ss)) ∙ ap (λ r. parameter_text 0 s ++ r) (later_parameters 0 ss)

-- the list of parameters, before its first piece
pub parameters_start : (ss : List Sort) (a : SinkView) → IsSending (printed (in_list (parameter_trees (parameters_from 0 ss)))) (codes "(" ∷ parameters_listed 0 ss ∷ codes ")" ∷ []) a a
parameters_start ss a = start _ _ a (sym (ap (λ r. 40 ∷ r ++ 41 ∷ []) (all_parameters ss)))

-- a parameter, before its first piece
pub parameter_start : (k : ℕ) (s : Sort) (before : List ℕ) (a : SinkView) → before ≡ gap k ++ codes "(@x" → IsSending (gap k ++ parameter_text k s) ((before ++ (numeral k ++ codes " ")) ∷ printed (sort_tree s) ∷ codes ")" ∷ []) a a
parameter_start k s before a e = start _ _ a (ap (λ b. (b ++ (numeral k ++ codes " ")) ++ (printed (sort_tree s) ++ codes ")")) e ∙ pieces (gap k) (numeral k) (printed (sort_tree s)))
  where
    pieces : (g n p : List ℕ) → ((g ++ codes "(@x") ++ (n ++ codes " ")) ++ (p ++ codes ")") ≡ g ++ (40 ∷ ((codes "@x" ++ n) ++ 32 ∷ p) ++ 41 ∷ [])
    pieces g n p = simp (append_assoc) refl

-- the equalities of a conjunction
all_equalities : (k : ℕ) (vs : List Value) → spaced (equality_trees k vs) ≡ equalities_listed k vs
all_equalities k [] = refl
all_equalities k (v ∷ vs) = ap (λ r. (32 ∷ printed (equality_tree k v)) ++ r) (all_equalities (suc k) vs)

-- a space before a text
pub spaced_start : (text : List ℕ) (a : SinkView) → IsSending (32 ∷ text) (codes " " ∷ text ∷ []) a a
spaced_start text a = start _ _ a (ap (λ r. 32 ∷ r) (append-nil text))

-- a conjunction of several, before its first piece
pub conjunction_start : (vs : List Value) (a : SinkView) → 1 < length vs → IsSending (printed (condition_tree vs)) (codes "(and" ∷ equalities_listed 0 vs ∷ codes ")" ∷ []) a a
conjunction_start [] a l = absurd (omega (arith, l))
conjunction_start (v ∷ []) a l = absurd (omega (arith, l))
conjunction_start (v ∷ w ∷ vs) a l = start _ _ a (sym (ap (λ r. 40 ∷ r ++ 41 ∷ []) (printed_row (word_tree (codes "and")) (equality_trees 0 (v ∷ w ∷ vs))) ∙ ap (λ r. 40 ∷ (codes "and" ++ r) ++ 41 ∷ []) (all_equalities 0 (v ∷ w ∷ vs))))

-- an equality, before its first piece
pub equality_start : (k : ℕ) (v : Value) (a : SinkView) → IsSending (printed (equality_tree k v)) ((codes "(= @x" ++ (numeral k ++ codes " ")) ∷ value_text v ∷ codes ")" ∷ []) a a
equality_start k v a = start _ _ a (pieces (numeral k) (value_text v))
  where
    pieces : (n t : List ℕ) → (codes "(= @x" ++ (n ++ codes " ")) ++ (t ++ codes ")") ≡ 40 ∷ (codes "= " ++ ((codes "@x" ++ n) ++ 32 ∷ t)) ++ 41 ∷ []
    pieces n t = simp (append_assoc) refl

-- a row, before its first piece
pub front_start : (r : TableRow) (a : SinkView) → IsSending (row_front r) (codes "(ite " ∷ printed (condition_tree r.arguments) ∷ codes " " ∷ value_text r.value ∷ codes " " ∷ []) a a
front_start r a = start _ _ a (pieces (printed (condition_tree r.arguments)) (printed (value_tree r.value)))
  where
    pieces : (c v : List ℕ) → codes "(ite " ++ (c ++ (codes " " ++ (v ++ codes " "))) ≡ codes "(ite " ++ c ++ codes " " ++ v ++ codes " "
    pieces c v = simp (append_assoc) refl

-- one row more
pub front_more : (r : TableRow) (rs : List TableRow) → body_front (r ∷ rs) ≡ row_front r ++ body_front rs
front_more r rs = pieces (printed (condition_tree r.arguments)) (printed (value_tree r.value)) (body_front rs)
  where
    pieces : (c v rest : List ℕ) → codes "(ite " ++ c ++ codes " " ++ v ++ codes " " ++ rest ≡ (codes "(ite " ++ c ++ codes " " ++ v ++ codes " ") ++ rest
    pieces c v rest = simp (append_assoc) refl

-- a definition, before its first piece
pub definition_start : (s : Symbol) (t : Table) (a : SinkView)
    → IsSending (indented (definition_tree s t)) (codes "  (define-fun " ∷ printed_symbol s.name ∷ codes " " ∷ printed (in_list (parameter_trees (parameters_from 0 s.parameters))) ∷ codes " " ∷ printed (sort_tree s.result) ∷ codes " " ∷ printed (body_tree t.rows t.default) ∷ codes ")\n" ∷ []) a a
definition_start s t a = start _ _ a (pieces (printed_symbol s.name) (printed (in_list (parameter_trees (parameters_from 0 s.parameters)))) (printed (sort_tree s.result)) (printed (body_tree t.rows t.default)))
  where
    pieces : (n p r b : List ℕ) → codes "  (define-fun " ++ (n ++ (codes " " ++ (p ++ (codes " " ++ (r ++ (codes " " ++ (b ++ codes ")\n"))))))) ≡ 32 ∷ 32 ∷ (40 ∷ (codes "define-fun " ++ (n ++ 32 ∷ (p ++ 32 ∷ (r ++ 32 ∷ b)))) ++ 41 ∷ []) ++ 10 ∷ []
    pieces n p r b = simp (append_assoc) refl

-- a body, before its first piece
pub body_start : (rs : List TableRow) (d : Value) (a : SinkView) → ((rows : List TableRow) (v : Value) → printed (body_tree rows v) ≡ body_front rows ++ value_text v ++ body_back rows) → IsSending (printed (body_tree rs d)) (body_front rs ∷ value_text d ∷ body_back rs ∷ []) a a
body_start rs d a by_rows = start _ _ a (pieces (body_front rs) (value_text d) (body_back rs) ∙ sym (by_rows rs d))
  where
    pieces : (f v b : List ℕ) → f ++ (v ++ (b ++ [])) ≡ f ++ v ++ b
    pieces f v b = simp (append_assoc, append-nil) refl

-- a model, before its first piece
pub model_start : (ss : List Symbol) (ts : List Table) (a : SinkView) → IsSending (text_by ss ts) (codes "(\n" ∷ joined (lines_by ss ts) ∷ codes ")\n" ∷ []) a a
model_start ss ts a = start _ _ a refl
