-- Tables of keys: one key more, and fewer.
use Rattle.std.proofs.Common.{◌≡◌, ℕ, ◌+◌, ◌<◌, min, List, [], ◌∷◌, ◌++◌, length, get_or, take, inl, inr, ◌⊎◌, sym, ap, ◌∙◌, arith}
use Rattle.std.proofs.lemmas.Bool.{cases_lt}
use Rattle.std.proofs.lemmas.List.{length-take, length_push, get_or-take, get_or_append_left, get_or_push}
use Rattle.term_core.specs.Tables.{Shape, no_shape}
use Rattle.std.proofs.Common.{Bool, true, false, not, length-append}
use Rattle.std.specs.List.{list_any}
use Rattle.indexmap.specs.IndexSet.{insert_key}
use Rattle.term_core.specs.declared.nodes.Node.{Node}
use Rattle.term_core.specs.contracts.nodes.NodePartialEq.TheImpl.{ghosts}
use Rattle.term_core.specs.Tables.{shape_of, shapes_of}
use Rattle.term_core.proofs.NodesPut.{Puts, IsStored, puts, put_new, put_old}
use Rattle.congruence_closure.specs.Keys.{Keys, key_at, holder_at, oldest, with_key, AreKeys, IsAbsent}

-- the oldest keys, so many of them
pub keys_oldest : (keys : Keys) (n : ℕ) → AreKeys keys → AreKeys (oldest n keys)
keys_oldest keys n h = record {
  count = length-take n keys.holders ∙ ap (min n) h.count ∙ sym (length-take n keys.shapes);
  once = λ j k a b e. h.once j k (low j a) (low k b) (sym (same j a) ∙ e ∙ same k b);
}
  where
    below : (k : ℕ) → k < length (take n keys.shapes) → k < n
    below k a = omega (arith, a, length-take n keys.shapes)

    low : (k : ℕ) → k < length (take n keys.shapes) → k < length keys.shapes
    low k a = omega (arith, a, length-take n keys.shapes)

    same : (k : ℕ) → k < length (take n keys.shapes) → key_at (oldest n keys) k ≡ key_at keys k
    same k a = get_or-take n keys.shapes k no_shape (below k a)

-- a key of a table with one more
pub key_before : (keys : Keys) (s : Shape) (holder k : ℕ) → k < length keys.shapes → key_at (with_key keys s holder) k ≡ key_at keys k
key_before keys s holder k lt = get_or_append_left keys.shapes (s ∷ []) no_shape k lt

pub key_last : (keys : Keys) (s : Shape) (holder k : ℕ) → k ≡ length keys.shapes → key_at (with_key keys s holder) k ≡ s
key_last keys s holder k e = get_or_push keys.shapes s no_shape k (sym e)

pub holder_before : (keys : Keys) (s : Shape) (holder k : ℕ) → AreKeys keys → k < length keys.shapes → holder_at (with_key keys s holder) k ≡ holder_at keys k
holder_before keys s holder k h lt = get_or_append_left keys.holders (holder ∷ []) 0 k (omega (arith, lt, h.count))

pub holder_last : (keys : Keys) (s : Shape) (holder k : ℕ) → AreKeys keys → k ≡ length keys.shapes → holder_at (with_key keys s holder) k ≡ holder
holder_last keys s holder k h e = get_or_push keys.holders holder 0 k (h.count ∙ sym e)

-- each key is there once with one more that was absent
pub keys_more : (keys : Keys) (s : Shape) (holder : ℕ) → AreKeys keys → IsAbsent keys s → AreKeys (with_key keys s holder)
keys_more keys s holder h absent = record {
  count = length_push keys.holders holder ∙ ap (λ n. n + 1) h.count ∙ sym (length_push keys.shapes s);
  once = λ j k a b e. go j k (place j a) (place k b) e;
}
  where
    place : (k : ℕ) → k < length (keys.shapes ++ s ∷ []) → (k < length keys.shapes) ⊎ (k ≡ length keys.shapes)
    place k a = elim (cases_lt k (length keys.shapes)) [
      | inl lt ↦ inl lt
      | inr past ↦ inr (omega (arith, past, a, length_push keys.shapes s))
    ]

    go : (j k : ℕ) → (j < length keys.shapes) ⊎ (j ≡ length keys.shapes) → (k < length keys.shapes) ⊎ (k ≡ length keys.shapes) → key_at (with_key keys s holder) j ≡ key_at (with_key keys s holder) k → j ≡ k
    go j k (inl a) (inl b) e = h.once j k a b (sym (key_before keys s holder j a) ∙ e ∙ key_before keys s holder k b)
    go j k (inl a) (inr b) e = absurd (absent j a (sym (key_before keys s holder j a) ∙ e ∙ key_last keys s holder k b))
    go j k (inr a) (inl b) e = absurd (absent k b (sym (key_before keys s holder k b) ∙ sym e ∙ key_last keys s holder j a))
    go j k (inr a) (inr b) e = a ∙ sym b

-- a node that was there has that number
pub node_there : (old new : List Node) (node : Node) (at : ℕ) (is_new : Bool) → new ≡ insert_key ghosts.eq old node → IsStored new node at → is_new ≡ not (list_any (ghosts.eq node) old) → is_new ≡ false
    → (new ≡ old) × (at < length old) × (get_or (shapes_of old) at no_shape ≡ shape_of node)
node_there old new node at is_new keys stored added told = go (puts old new node at keys stored)
  where
    same : new ≡ old
    same = put_old old new node is_new keys added told

    go : Puts old node at new → (new ≡ old) × (at < length old) × (get_or (shapes_of old) at no_shape ≡ shape_of node)
    go (inl p) = (same, p.1, p.2)
    go (inr p) = absurd (omega (arith, ap length same, ap length p.0, length-append old (node ∷ [])))

-- a node that was not there is the last one
pub node_new : (old new : List Node) (node : Node) (at : ℕ) (is_new : Bool) → new ≡ insert_key ghosts.eq old node → IsStored new node at → is_new ≡ not (list_any (ghosts.eq node) old) → is_new ≡ true
    → (new ≡ old ++ node ∷ []) × ((k : ℕ) → k < length old → get_or (shapes_of old) k no_shape ≡ shape_of node → ⊥)
node_new old new node at is_new keys stored added told = go (puts old new node at keys stored)
  where
    last : new ≡ old ++ node ∷ []
    last = put_new old new node is_new keys added told

    go : Puts old node at new → (new ≡ old ++ node ∷ []) × ((k : ℕ) → k < length old → get_or (shapes_of old) k no_shape ≡ shape_of node → ⊥)
    go (inl p) = absurd (omega (arith, ap length p.0, ap length last, length-append old (node ∷ [])))
    go (inr p) = (last, p.2)
