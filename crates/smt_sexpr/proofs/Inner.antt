-- The tree of an item inside an s-expression.
use Rattle.std.proofs.Common.{◌≡◌, ℕ, zero, suc, ◌+◌, ◌-◌, ◌<◌, ◌≤◌, inl, inr, List, [], ◌∷◌, ◌++◌, length, get_or, drop, sym, ap, ◌∙◌, refl, subst, append_assoc, append-nil, length-append, get_or-drop, arith}
use Rattle.std.proofs.lemmas.Bool.{cases_lt}
use Rattle.std.proofs.lemmas.List.{drop-append-le, drop_at}
use Rattle.std.proofs.Math.Seq.{drop-append-add}
use Rattle.spec_text.specs.Lexemes.{Lexeme, opens, closes, word, lexemes_from}
use Rattle.spec_text.specs.Trees.{Tree, Trees, atom, list, none, more, spelled, spelled_all, offset_of}
use Rattle.smt_sexpr.specs.declared.items.Item.{Item}
use Rattle.smt_sexpr.specs.Means.{first_of, tree_in, flat, flat_all, IsFirstAt, AreRead}
use Rattle.smt_sexpr.specs.Printing.{last_of, ends_of, IsTreeFrom}
use Rattle.smt_sexpr.proofs.Meaning.{means_first}
use Rattle.smt_sexpr.proofs.Offsets.{resumes, begins_within}

-- a tree among others: its tokens among theirs, and its items from an index on
record Part (xs : List (ℕ × Lexeme)) (is : List Item) (i : ℕ) : Type 0 where
  part : Tree
  front : List (ℕ × Lexeme)
  back : List (ℕ × Lexeme)
  behind : List Item
  tokens : xs ≡ front ++ (spelled part ++ back)
  items : drop i is ≡ flat part ++ behind

-- among more
part_before : (xs ys : List (ℕ × Lexeme)) (is js : List Item) (i : ℕ) → i ≤ length is → Part xs is i → Part (xs ++ ys) (is ++ js) i
part_before xs ys is js i within p = record {
  part = p.part;
  front = p.front;
  back = p.back ++ ys;
  behind = p.behind ++ js;
  tokens = ap (λ zs. zs ++ ys) p.tokens ∙ append_assoc p.front (spelled p.part ++ p.back) ys ∙ ap (λ zs. p.front ++ zs) (append_assoc (spelled p.part) p.back ys);
  items = drop-append-le i is js within ∙ ap (λ ks. ks ++ js) p.items ∙ append_assoc (flat p.part) p.behind js;
}

part_behind : (xs ys : List (ℕ × Lexeme)) (is js : List Item) (i : ℕ) → Part ys js i → Part (xs ++ ys) (is ++ js) (length is + i)
part_behind xs ys is js i p = record {
  part = p.part;
  front = xs ++ p.front;
  back = p.back;
  behind = p.behind;
  tokens = ap (λ zs. xs ++ zs) p.tokens ∙ sym (append_assoc xs p.front (spelled p.part ++ p.back));
  items = drop-append-add is js i ∙ p.items;
}

part_whole : (t : Tree) → Part (spelled t) (flat t) 0
part_whole t = record { part = t; front = []; back = []; behind = []; tokens = sym (append-nil (spelled t)); items = sym (append-nil (flat t)) }

mutual
  part_of : (t : Tree) (i : ℕ) → i < length (flat t) → Part (spelled t) (flat t) i
  part_of (atom at k w) zero h = part_whole (atom at k w)
  part_of (atom at k w) (suc i) h = absurd (omega arith)
  part_of (list at ts end) zero h = part_whole (list at ts end)
  part_of (list at ts end) (suc i) h =
      let p = parts_of ts i (omega arith) in
      record {
        part = p.part;
        front = (at, opens) ∷ p.front;
        back = p.back ++ (end, closes) ∷ [];
        behind = p.behind;
        tokens = ap (λ zs. (at, opens) ∷ zs ++ (end, closes) ∷ []) p.tokens ∙ ap (λ zs. (at, opens) ∷ zs) (append_assoc p.front (spelled p.part ++ p.back) ((end, closes) ∷ []) ∙ ap (λ zs. p.front ++ zs) (append_assoc (spelled p.part) p.back ((end, closes) ∷ [])));
        items = p.items;
      }

  parts_of : (ts : Trees) (i : ℕ) → i < length (flat_all ts) → Part (spelled_all ts) (flat_all ts) i
  parts_of none i h = absurd (omega arith)
  parts_of (more t ts) i h = elim (cases_lt i (length (flat t))) [
    | inl l ↦ part_before (spelled t) (spelled_all ts) (flat t) (flat_all ts) i (omega arith) (part_of t i l)
    | inr l ↦
        let at : length (flat t) + (i - length (flat t)) ≡ i = omega arith in
        subst (Part (spelled t ++ spelled_all ts) (flat t ++ flat_all ts)) at (part_behind (spelled t) (spelled_all ts) (flat t) (flat_all ts) (i - length (flat t)) (parts_of ts (i - length (flat t)) (omega (arith, h, length-append (flat t) (flat_all ts)))))
  ]

-- the tree of an item is in the text, at the offsets that the item has
pub record IsInner (text : List ℕ) (start : ℕ) (is : List Item) (i : ℕ) (d : Item) : Type 0 where
  pub tree : Tree
  pub means : tree_in text (drop i is) ≡ tree
  pub is_first : IsFirstAt text (offset_of tree) tree
  pub low : start ≤ offset_of tree
  pub high : offset_of tree < length text
  pub ends : ends_of (get_or is i d) ≡ (offset_of tree, last_of tree)

pub inner : (text : List ℕ) (start : ℕ) (is : List Item) (i : ℕ) (d : Item) → AreRead text start is → i < length is → IsInner text start is i d
inner text start is i d read within =
    let whole = tree_in text is in
    let rest = drop (length (spelled whole)) (lexemes_from text start) in
    let p = part_of whole i (omega (arith, ap length read.0)) in
    let place : lexemes_from text start ≡ p.front ++ (spelled p.part ++ (p.back ++ rest)) =
    read.1 ∙ ap (λ zs. zs ++ rest) p.tokens ∙ append_assoc p.front (spelled p.part ++ p.back) rest ∙ ap (λ zs. p.front ++ zs) (append_assoc (spelled p.part) p.back rest) in
    let here : lexemes_from text (offset_of p.part) ≡ spelled p.part ++ (p.back ++ rest) = found p.part p.front (p.back ++ rest) place in
    let after : drop (length (spelled p.part)) (lexemes_from text (offset_of p.part)) ≡ p.back ++ rest = ap (drop (length (spelled p.part))) here ∙ drop_at (spelled p.part) (p.back ++ rest) (length (spelled p.part)) refl in
    let items : drop i is ≡ flat p.part ++ p.behind = ap (drop i) read.0 ∙ p.items in
    let bounds = bounded p.part p.front (p.back ++ rest) place in
    record {
      tree = p.part;
      means = ap (tree_in text) items ∙ ap first_of (means_first text (offset_of p.part) p.part (p.back ++ rest) p.behind here);
      is_first = rw after here;
      low = bounds.0;
      high = bounds.1;
      ends = ap ends_of (same_item is items) ∙ first_ends p.part p.behind;
    }
  where
    found : (t : Tree) (front back : List (ℕ × Lexeme)) → lexemes_from text start ≡ front ++ (spelled t ++ back) → lexemes_from text (offset_of t) ≡ spelled t ++ back
    found (atom at k w) front back e = resumes text start front at (word k w) back e tt
    found (list at ts end) front back e = resumes text start front at opens ((spelled_all ts ++ (end, closes) ∷ []) ++ back) e tt

    bounded : (t : Tree) (front back : List (ℕ × Lexeme)) → lexemes_from text start ≡ front ++ (spelled t ++ back) → (start ≤ offset_of t) × (offset_of t < length text)
    bounded (atom at k w) front back e = begins_within text start front at (word k w) back e tt
    bounded (list at ts end) front back e = begins_within text start front at opens ((spelled_all ts ++ (end, closes) ∷ []) ++ back) e tt

    same_item : (is : List Item) {js : List Item} → drop i is ≡ js → get_or is i d ≡ get_or js 0 d
    same_item is e = ap (λ m. get_or is m d) (omega arith) ∙ sym (get_or-drop i is 0 d) ∙ ap (λ ks. get_or ks 0 d) e

    first_ends : (t : Tree) (behind : List Item) → ends_of (get_or (flat t ++ behind) 0 d) ≡ (offset_of t, last_of t)
    first_ends (atom at k w) behind = refl
    first_ends (list at ts end) behind = refl

-- as the code has its offsets
pub tree_from : (text text' : List ℕ) (start : ℕ) (is : List Item) (i : ℕ) (d : Item) (first : ℕ) (ends : ℕ × ℕ) (n : IsInner text start is i d) → text' ≡ text → ends ≡ ends_of (get_or is i d) → first ≡ ends.0 → IsTreeFrom text' first ends.1 n.tree
tree_from text text' start is i d first ends n same ends_are first_is =
    let both : ends ≡ (offset_of n.tree, last_of n.tree) = ends_are ∙ n.ends in
    let begin : first ≡ offset_of n.tree = first_is ∙ ap (λ (p : ℕ × ℕ). p.0) both in
    (rw (same, begin) n.is_first, ap (λ (p : ℕ × ℕ). p.1) both)
