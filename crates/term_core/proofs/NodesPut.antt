-- What an insert leaves of the nodes.
use Rattle.std.proofs.Common.{◌≡◌, ℕ, ◌<◌, ◌≤◌, Bool, true, false, ◌⊎◌, inl, inr, List, [], ◌∷◌, ◌++◌, length, get_or, slice_get, Some, refl, sym, ◌∙◌, ap, subst, arith, true≢false, not, if◌then◌else◌, length-append}
use Rattle.std.specs.List.{list_any}
use Rattle.std.proofs.lemmas.List.Folds.{list_any_at}
use Rattle.std.proofs.lemmas.Option.{slice_get_within, get_or_from_slice_get}
use Rattle.std.proofs.lemmas.List.{get_or_append_left, get_or-map}
use Rattle.indexmap.specs.IndexSet.{insert_key}
use Rattle.term_core.specs.declared.nodes.Node.{Node}
use Rattle.term_core.specs.contracts.nodes.NodePartialEq.TheImpl.{ghosts}
use Rattle.term_core.specs.Tables.{shape_of, shapes_of, no_shape}
use Rattle.term_core.proofs.NodesSame.{same_node, node_same}

-- the node was there by that number, or it was not there, and is last
abbrev pub Puts : List Node → Node → ℕ → List Node → Type 0
Puts old node at new =
    ((new ≡ old) × (at < length old) × (get_or (shapes_of old) at no_shape ≡ shape_of node))
    ⊎ ((new ≡ old ++ node ∷ []) × (at ≡ length old) × ((k : ℕ) → k < length old → get_or (shapes_of old) k no_shape ≡ shape_of node → ⊥))

there : (old : List Node) (node : Node) (k : ℕ) → k < length old → get_or (shapes_of old) k no_shape ≡ shape_of node → list_any (ghosts.eq node) old ≡ true
there old node k within e = list_any_at (ghosts.eq node) old k node within (node_same node (get_or old k node) (sym e ∙ get_or-map shape_of old k node no_shape within))

pub puts : (old new : List Node) (node : Node) (at : ℕ) → new ≡ insert_key ghosts.eq old node
    → ((k : Node) × (slice_get new at ≡ Some k) × (ghosts.eq node k ≡ true)) → Puts old node at new
puts old new node at keys stored = go (list_any (ghosts.eq node) old) refl
  where
    within : at < length new
    within = slice_get_within new at stored.0 stored.1

    found : get_or (shapes_of new) at no_shape ≡ shape_of node
    found = get_or-map shape_of new at node no_shape within ∙ ap shape_of (get_or_from_slice_get new at stored.0 node stored.1) ∙ sym (same_node node stored.0 stored.2)

    go : (any : Bool) → list_any (ghosts.eq node) old ≡ any → Puts old node at new
    go true e =
        let same : new ≡ old = keys ∙ ap (λ c. if c then old else old ++ node ∷ []) e in
        inl (same, subst (λ l. at < length l) same within, subst (λ l. get_or (shapes_of l) at no_shape ≡ shape_of node) same found)
    go false e =
        let last : new ≡ old ++ node ∷ [] = keys ∙ ap (λ c. if c then old else old ++ node ∷ []) e in
        let none : (k : ℕ) → k < length old → get_or (shapes_of old) k no_shape ≡ shape_of node → ⊥ = λ k lt is. true≢false (sym (there old node k lt is) ∙ e) in
        let low : at < length (old ++ node ∷ []) = subst (λ l. at < length l) last within in
        let before : at < length old → get_or (shapes_of old) at no_shape ≡ shape_of node = λ lt.
        get_or-map shape_of old at node no_shape lt ∙ ap shape_of (sym (get_or_append_left old (node ∷ []) node at lt)) ∙ sym (get_or-map shape_of (old ++ node ∷ []) at node no_shape low)
        ∙ ap (λ l. get_or (shapes_of l) at no_shape) (sym last) ∙ found in
        let high : length old ≤ at = grind (arith, none at, before) in
        inr (last, omega (arith, high, low, length-append old (node ∷ [])), none)

-- what `insert` says of a number
abbrev pub IsStored : List Node → Node → ℕ → Type 0
IsStored new node at = (k : Node) × (slice_get new at ≡ Some k) × (ghosts.eq node k ≡ true)

-- what was not there is last
pub put_new : (old new : List Node) (node : Node) (is_new : Bool) → new ≡ insert_key ghosts.eq old node → is_new ≡ not (list_any (ghosts.eq node) old) → is_new ≡ true → new ≡ old ++ node ∷ []
put_new old new node is_new keys e told = keys ∙ go (list_any (ghosts.eq node) old) (sym e ∙ told)
  where
    go : (any : Bool) → not any ≡ true → (if any then old else old ++ node ∷ []) ≡ old ++ node ∷ []
    go false h = refl
    go true h = absurd (true≢false (sym h))

-- what was there changes nothing
pub put_old : (old new : List Node) (node : Node) (is_new : Bool) → new ≡ insert_key ghosts.eq old node → is_new ≡ not (list_any (ghosts.eq node) old) → is_new ≡ false → new ≡ old
put_old old new node is_new keys e told = keys ∙ go (list_any (ghosts.eq node) old) (sym e ∙ told)
  where
    go : (any : Bool) → not any ≡ false → (if any then old else old ++ node ∷ []) ≡ old
    go true h = refl
    go false h = absurd (true≢false h)
