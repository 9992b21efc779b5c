-- One token more of a list.
use Rattle.std.proofs.Common.{◌≡◌, ℕ, zero, suc, ◌+◌, ◌<◌, List, [], ◌∷◌, ◌++◌, length, drop, Option, sym, ap, ◌∙◌, refl, subst, append_assoc, length-append, append-nil, arith}
use Rattle.std.proofs.lemmas.List.{drop_at}
use Rattle.spec_text.specs.declared.Kind.{Kind}
use Rattle.spec_text.specs.declared.Place.{Place}
use Rattle.spec_text.specs.Lexemes.{Lexeme, opens, closes, word, lexemes_from}
use Rattle.spec_text.specs.Places.{IsPlaceOf}
use Rattle.spec_text.specs.Trees.{Tree, atom, list, none, more, spelled, offset_of}
use Rattle.spec_text.specs.Faults.{Located, first_fault}
use Rattle.spec_text.specs.Readings.{IsBroken}
use Rattle.spec_text.proofs.Reading.{heads}
use Rattle.smt_sexpr.specs.Means.{trees_in, first_of, tree_in, flat, AreRead}
use Rattle.smt_sexpr.specs.declared.items.Item.{Item}
use Rattle.smt_sexpr.specs.declared.items.Item.TheVariants.{List as Group}
use Rattle.smt_sexpr.specs.declared.sexpr.Sexpr.{Sexpr}
use Rattle.smt_sexpr.specs.Items.{text_of, items_of, start_of, tree_of, IsWithin}
use Rattle.smt_sexpr.specs.Open.{Context, top, inside, push, closed, spelled_in, flat_in, open_in, IsUnfinished, HoldsContext}
use Rattle.smt_sexpr.specs.Reads.{BeginsWith, IsFirst}
use Rattle.smt_sexpr.proofs.Broken.{broken_in}
use Rattle.smt_sexpr.proofs.Contexts.{spelled_push, open_push, holds_word, holds_begun}
use Rattle.smt_sexpr.proofs.Offsets.{IsToken, resumes, within_text}
use Rattle.smt_sexpr.proofs.Meaning.{means_tree}

begins_at : (at : ℕ) (x : Lexeme) (ys : List (ℕ × Lexeme)) (t : Tree) (rest : List (ℕ × Lexeme)) → (at, x) ∷ ys ≡ spelled t ++ rest → offset_of t ≡ at
begins_at at x ys (atom b k w) rest e = sym (heads e).0
begins_at at x ys (list b ts end) rest e = sym (heads e).0

-- a word
pub begins_with_word : (text : List ℕ) (xs : List (ℕ × Lexeme)) (at : ℕ) (k : Kind) (w : List ℕ) (is : List Item) (after : Place) → is ≡ flat (atom at k w) → xs ≡ (at, word k w) ∷ lexemes_from text after.offset → IsPlaceOf text after → BeginsWith text xs is after
begins_with_word text xs at k w is after items first place = record { tree = atom at k w; items = items; first = first; place = place }

-- what was read from a place on is at its own offset
pub read_there : (text : List ℕ) (from at : ℕ) (x : Lexeme) (ys : List (ℕ × Lexeme)) (is : List Item) (after : Place) → IsToken x → lexemes_from text from ≡ (at, x) ∷ ys → BeginsWith text (lexemes_from text from) is after → AreRead text at is
read_there text from at x ys is after token here b =
    let t = b.tree in
    let behind = lexemes_from text after.offset in
    let tree : tree_in text is ≡ t = ap (tree_in text) b.items ∙ ap first_of (means_tree text from t behind b.first) in
    let there : lexemes_from text at ≡ spelled t ++ behind = resumes text from [] at x ys here token ∙ sym here ∙ b.first in
    let rest : drop (length (spelled t)) (lexemes_from text at) ≡ behind = ap (drop (length (spelled t))) there ∙ drop_at (spelled t) behind (length (spelled t)) refl in
    (b.items ∙ ap flat (sym tree), rw (tree, rest) there)

-- it is what an s-expression is
pub first_is : (text : List ℕ) (from at : ℕ) (x : Lexeme) (ys : List (ℕ × Lexeme)) (s : Sexpr) (after : Place) → IsToken x → text_of s ≡ text → start_of s ≡ at → lexemes_from text from ≡ (at, x) ∷ ys → BeginsWith text (lexemes_from text from) (items_of s) after → IsFirst text (lexemes_from text from) s after
first_is text from at x ys s after token text_is start here b =
    let t = b.tree in
    let means : trees_in text (items_of s) ≡ more t none = ap (trees_in text) b.items ∙ means_tree text from t (lexemes_from text after.offset) b.first in
    let tree : tree_of s ≡ t = ap (λ xs. first_of (trees_in xs (items_of s))) text_is ∙ ap first_of means in
    record {
      text_is = text_is;
      first = b.first ∙ ap (λ u. spelled u ++ lexemes_from text after.offset) (sym tree);
      means = means ∙ ap (λ u. more u none) (sym tree);
      offsets = subst (λ m. IsWithin m (length text) (tree_of s)) (sym start) (rw tree (within_text text at t (lexemes_from text after.offset) (resumes text from [] at x ys here token ∙ sym here ∙ b.first)));
      start = ap offset_of tree ∙ begins_at at x ys t (lexemes_from text after.offset) (sym here ∙ b.first) ∙ sym start;
      place = b.place;
    }

-- a fault at a depth
abbrev fault_at_depth : List ℕ → ℕ → List (ℕ × Lexeme) → Option Located
fault_at_depth text n xs = first_fault (length text) n xs

-- what is known of lexemes after n open lists when they were read up to an offset, and more lists are open
pub record Reading (text : List ℕ) (n : ℕ) (xs : List (ℕ × Lexeme)) (items : List Item) (places : List ℕ) (at : ℕ) : Type 0 where
  pub context : Context
  pub unfinished : IsUnfinished context
  pub holds : HoldsContext context items places
  pub read : xs ≡ spelled_in context ++ lexemes_from text at
  pub faults : fault_at_depth text n xs ≡ fault_at_depth text (n + length places) (lexemes_from text at)

-- a list has begun
pub reading_begins : (text : List ℕ) (n start behind : ℕ) (items : List Item) → items ≡ [] ++ Group start 0 0 ∷ [] → Reading text n ((start, opens) ∷ lexemes_from text behind) items (0 ∷ []) behind
unfolding first_fault
reading_begins text n start behind items e = record {
  context = inside (top none) start none;
  unfinished = tt;
  holds = record { items_are = e; open_are = refl };
  read = refl;
  faults = ap (λ k. fault_at_depth text k (lexemes_from text behind)) (omega arith);
}

module _ (text : List ℕ) (n : ℕ) (xs : List (ℕ × Lexeme)) (items : List Item) (places : List ℕ) (at : ℕ) (r : Reading text n xs items places at) where
  -- what stops here stops all
  pub stops : (f : Located) → IsBroken (length text) (n + length places) (lexemes_from text at) f → IsBroken (length text) n xs f
  stops f b =
      let count : length places ≡ length (open_in r.context) = ap length r.holds.open_are in
      broken_in (length text) n r.context xs (lexemes_from text at) f r.unfinished r.read (rw (← count) r.faults) (rw (← count) b)

  module _ (place after : ℕ) where
    -- the lexeme after what was read
    moved : (x : Lexeme) → lexemes_from text at ≡ (place, x) ∷ lexemes_from text after → fault_at_depth text n xs ≡ fault_at_depth text (n + length places) ((place, x) ∷ lexemes_from text after)
    moved x e = r.faults ∙ ap (fault_at_depth text (n + length places)) e

    pub opened : lexemes_from text at ≡ (place, opens) ∷ lexemes_from text after
        → (next : List Item) (index : ℕ) → next ≡ items ++ Group place 0 0 ∷ [] → index ≡ length items → Reading text n xs next (places ++ index ∷ []) after
    unfolding first_fault
    opened e next index n_is i_is = record {
      context = inside r.context place none;
      unfinished = r.unfinished;
      holds = holds_begun r.context items next places index place n_is i_is r.holds;
      read = r.read ∙ ap (λ ts. spelled_in r.context ++ ts) e ∙ sym (append_assoc (spelled_in r.context) ((place, opens) ∷ []) (lexemes_from text after));
      faults = moved opens e ∙ ap (λ k. fault_at_depth text k (lexemes_from text after)) (omega (arith, length-append places (index ∷ [])));
    }

    word_fault : (m : ℕ) (k : Kind) (w : List ℕ) (ys : List (ℕ × Lexeme)) → fault_at_depth text m ((place, word k w) ∷ ys) ≡ fault_at_depth text m ys
    unfolding first_fault
    word_fault zero k w ys = refl
    word_fault (suc m) k w ys = refl

    unfinished_push : (c : Context) (t : Tree) → IsUnfinished c → 0 < length (open_in c) → IsUnfinished (push c t)
    unfinished_push (top rows) t h l = absurd (omega arith)
    unfinished_push (inside outer b rows) t h l = h

    pub word_within : (k : Kind) (w : List ℕ) → lexemes_from text at ≡ (place, word k w) ∷ lexemes_from text after → 0 < length places
        → (next : List Item) → next ≡ items ++ flat (atom place k w) → Reading text n xs next places after
    word_within k w e some next next_is = record {
      context = push r.context (atom place k w);
      unfinished = unfinished_push r.context (atom place k w) r.unfinished (omega (arith, ap length r.holds.open_are));
      holds = holds_word r.context items next places w k place next_is r.holds;
      read = r.read ∙ ap (λ ts. spelled_in r.context ++ ts) e ∙ (sym (append_assoc (spelled_in r.context) ((place, word k w) ∷ []) (lexemes_from text after)) ∙ sym (ap (λ x. x ++ lexemes_from text after) (spelled_push r.context (atom place k w))));
      faults = moved (word k w) e ∙ word_fault (n + length places) k w (lexemes_from text after);
    }

    -- the end of a list, as far as the lexemes go
    close_read : lexemes_from text at ≡ (place, closes) ∷ lexemes_from text after → 0 < length places → xs ≡ spelled_in (closed r.context place) ++ lexemes_from text after
    close_read e some = r.read ∙ ap (λ ts. spelled_in r.context ++ ts) e ∙ go r.context (omega (arith, ap length r.holds.open_are))
      where
        go : (c : Context) → 0 < length (open_in c) → spelled_in c ++ (place, closes) ∷ lexemes_from text after ≡ spelled_in (closed c place) ++ lexemes_from text after
        go (top rows) h = absurd (omega arith)
        go (inside outer b rows) h = rw spelled_push (simp append_assoc)

    close_fault : lexemes_from text at ≡ (place, closes) ∷ lexemes_from text after → (open_at : List ℕ) → length places ≡ length open_at + 1 → fault_at_depth text n xs ≡ fault_at_depth text (n + length open_at) (lexemes_from text after)
    unfolding first_fault
    close_fault e open_at m =
        let one : n + length places ≡ suc (n + length open_at) = omega arith in
        moved closes e ∙ rw one refl

    pub closed_within : lexemes_from text at ≡ (place, closes) ∷ lexemes_from text after → (next : List Item) (open_at : List ℕ)
        → length places ≡ length open_at + 1 → 0 < length open_at → HoldsContext (closed r.context place) next open_at → Reading text n xs next open_at after
    closed_within e next open_at m some h = record {
      context = closed r.context place;
      unfinished = go r.context r.unfinished (omega (arith, ap length r.holds.open_are)) h;
      holds = h;
      read = close_read e (omega arith);
      faults = close_fault e open_at m;
    }
      where
        go : (c : Context) → IsUnfinished c → 0 < length (open_in c) → HoldsContext (closed c place) next open_at → IsUnfinished (closed c place)
        go (top rows) u k g = absurd (omega arith)
        go (inside outer b rows) u k g = unfinished_push outer (list b rows place) u (omega (arith, ap length (g.open_are ∙ open_push outer (list b rows place))))

    -- the end of the one list that is open
    pub closed_whole : (end : Place) → end.offset ≡ after → IsPlaceOf text end → lexemes_from text at ≡ (place, closes) ∷ lexemes_from text after → (next : List Item) → length places ≡ 1 → HoldsContext (closed r.context place) next [] → BeginsWith text xs next end
    closed_whole end end_is place_is e next m h = go r.context r.unfinished (omega (arith, ap length r.holds.open_are)) h (close_read e (omega arith))
      where
        whole_push : (c : Context) (t : Tree) → IsUnfinished c → open_in c ≡ [] → push c t ≡ top (more t none)
        whole_push (top none) t u k = refl
        whole_push (top (more v vs)) t u k = absurd u
        whole_push (inside outer b rows) t u k = absurd (omega (arith, ap length k, length-append (open_in outer) (length (flat_in outer) ∷ [])))

        go : (c : Context) → IsUnfinished c → 0 < length (open_in c) → HoldsContext (closed c place) next [] → xs ≡ spelled_in (closed c place) ++ lexemes_from text after → BeginsWith text xs next end
        go (top rows) u k g read = absurd (omega arith)
        go (inside outer b rows) u k g read =
            let t = list b rows place in
            let w : push outer t ≡ top (more t none) = whole_push outer t u (sym (g.open_are ∙ open_push outer t)) in
            record {
              tree = t;
              items = g.items_are ∙ ap flat_in w ∙ append-nil (flat t);
              first = read ∙ ap (λ c. spelled_in c ++ lexemes_from text after) w ∙ ap (λ ys. ys ++ lexemes_from text after) (append-nil (spelled t)) ∙ ap (λ m. spelled t ++ lexemes_from text m) (sym end_is);
              place = place_is;
            }
