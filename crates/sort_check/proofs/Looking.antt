-- What is left of a text while it is searched for bound names.
use Rattle.std.proofs.Common.{◌≡◌, ℕ, ◌+◌, ◌<◌, ◌≤◌, arith, Bool, true, false, ◌||◌, List, [], ◌∷◌, ◌++◌, length, take, Some, sym, ap, ◌∙◌, subst}
use Rattle.std.specs.Prelude.{Result, Ok, Err, IfOk, reverse}
use Rattle.std.proofs.lemmas.List.{reverse-append, take_at}
use Rattle.std.proofs.Math.Bool.{or_assoc}
use Rattle.spec_text.specs.Bytes.{Name, among}
use Rattle.spec_text.specs.Shapes.{Word}
use Rattle.spec_text.specs.Trees.{Tree, Trees, none, more}
use Rattle.spec_reading.specs.Names.{names_bound, without, mentions, any_mentions, first_mentions, let_mentions, binding_mentions}
use Rattle.smt_sexpr.specs.declared.items.Trees.{Trees as Cursor}
use Rattle.smt_sexpr.specs.Items.{trees_meant, tree_meant}
use Rattle.no_memory.specs.declared.NoMemory.{NoMemory}
use Rattle.sort_check.specs.declared.mentions.Left.{Left}
use Rattle.sort_check.specs.declared.mentions.Left.TheVariants.{Terms, Values, Body, Back}
use Rattle.sort_check.specs.Splitting.{first_binding, let_parts}
use Rattle.sort_check.specs.Walks.{size, sizes}
use Rattle.sort_check.specs.Mentions.{Rest, with_next, left_mentions, rest_mentions, left_size, FindsName}
use Rattle.sort_check.proofs.Definitions.{or_none}
use Rattle.sort_check.proofs.Lets.{let_size}
use Rattle.sort_check.proofs.FreeNames.{same_mentions, without_both, without_none, any_none, any_more, first_more, binding_more, let_more}

-- one more is pushed
pub pushed : (ls ms : List Left) (l : Left) → ms ≡ ls ++ l ∷ [] → reverse ms ≡ l ∷ reverse ls
pushed ls ms l e = ap reverse e ∙ reverse-append ls (l ∷ [])

-- an answer is that of something that is the same
pub answers_along : {A : Type 0} (a : Bool) (f : A → Bool) (r : Result Bool NoMemory) → ((x : A) → a ≡ f x) → IfOk r (λ b. b ≡ a) → IfOk r (λ b. (x : A) → b ≡ f x)
answers_along a f (Ok b) same h = λ x. h ∙ same x
answers_along a f (Err e) same h = tt

module _ (ns : List Name) where
  -- whether a name is found in what is looked at, and what is left
  pub looks_by : (all b : Bool) (most : ℕ) (r : Rest) → all ≡ (b || rest_mentions ns r) → left_size r.left < most → FindsName ns all most r (Ok b)
  looks_by all true most r e less = e
  looks_by all false most r e less = (e, less)

  -- the same of a text of which that is the part that is left
  pub looks_along : (all whole : Bool) (most least : ℕ) (r : Rest) (x : Result Bool NoMemory) → whole ≡ all → most ≤ least → FindsName ns all most r x → FindsName ns whole least r x
  looks_along all whole most least r (Ok true) e le h = e ∙ h
  looks_along all whole most least r (Ok false) e le h = (e ∙ h.0, omega (arith, h.1, le))
  looks_along all whole most least r (Err x) e le h = tt

  -- nothing is bound in the text, and nothing else is left
  whole_begins : (inner : List Name) (left : List Left) (t : Tree) → inner ≡ [] → left ≡ [] → mentions ns t ≡ (mentions (without ns inner) t || left_mentions ns inner (reverse left))
  whole_begins inner left t e f =
      sym (or_none (mentions ns t)) ∙ (λ i. mentions (sym (without_none ns) i) t || false)
      ∙ (λ i. mentions (without ns (sym e i)) t || left_mentions ns (sym e i) (reverse (sym f i)))

  module _ (inner : List Name) (left : List Left) (t : Tree) (no_inner : inner ≡ []) (no_left : left ≡ []) (r : Rest) (b : Bool)
      (h : FindsName ns (mentions (without ns inner) t || left_mentions ns inner (reverse left)) (size t + left_size (reverse left)) r (Ok b)) where
    -- a name is found in what is looked at first
    pub found_first : b ≡ true → mentions ns t ≡ true
    found_first e = whole_begins inner left t no_inner no_left ∙ go b e h
      where
        go : (d : Bool) → d ≡ true → FindsName ns (mentions (without ns inner) t || left_mentions ns inner (reverse left)) (size t + left_size (reverse left)) r (Ok d) → (mentions (without ns inner) t || left_mentions ns inner (reverse left)) ≡ true
        go true e h = h
        go false e h = cc

    -- or what is left tells
    pub found_later : b ≡ false → mentions ns t ≡ rest_mentions ns r
    found_later e = whole_begins inner left t no_inner no_left ∙ go b e h
      where
        go : (d : Bool) → d ≡ false → FindsName ns (mentions (without ns inner) t || left_mentions ns inner (reverse left)) (size t + left_size (reverse left)) r (Ok d) → (mentions (without ns inner) t || left_mentions ns inner (reverse left)) ≡ rest_mentions ns r
        go true e h = cc
        go false e h = h.0

  -- the parts of a `let` are left
  pub let_left : (r new : Rest) (us : Trees) (bindings body : Cursor) → let_parts us ≡ Some (trees_meant bindings, tree_meant body) → new ≡ with_next (Values bindings) (with_next (Body bindings body) r)
      → FindsName ns (let_mentions (without ns r.inner) us || rest_mentions ns r) (3 + (sizes us + left_size r.left)) new (Ok false)
  let_left r new us bindings body parts is =
      subst (λ x. FindsName ns (let_mentions (without ns r.inner) us || rest_mentions ns r) (3 + (sizes us + left_size r.left)) x (Ok false)) (sym is) (
        ap (λ b. b || rest_mentions ns r) (let_more (without ns r.inner) us (trees_meant bindings) (tree_meant body) parts)
            ∙ or_assoc (binding_mentions (without ns r.inner) (trees_meant bindings)) (mentions (without (without ns r.inner) (names_bound (trees_meant bindings))) (tree_meant body)) (rest_mentions ns r),
        omega (arith, let_size us (trees_meant bindings) (tree_meant body) parts),
      )

  -- the term before attributes is left
  pub annotated_left : (r new : Rest) (us : Trees) (text : Cursor) (after : Trees) → us ≡ more (tree_meant text) after → trees_meant text ≡ more (tree_meant text) none → new ≡ with_next (Terms text) r
      → FindsName ns (first_mentions (without ns r.inner) us || rest_mentions ns r) (2 + (sizes us + left_size r.left)) new (Ok false)
  annotated_left r new us text after first one is =
      let w = without ns r.inner in
      subst (λ x. FindsName ns (first_mentions w us || rest_mentions ns r) (2 + (sizes us + left_size r.left)) x (Ok false)) (sym is) (
        ap (λ b. b || rest_mentions ns r)
            (ap (first_mentions w) first ∙ first_more w (tree_meant text) after ∙ sym (or_none (mentions w (tree_meant text)))
            ∙ ap (λ b. mentions w (tree_meant text) || b) (sym (any_none w)) ∙ sym (any_more w (tree_meant text) none) ∙ ap (any_mentions w) (sym one)),
        omega (arith, ap sizes first, ap sizes one),
      )

  -- the arguments of a name that is not free are left
  pub applied_left : (r new : Rest) (arguments : Cursor) (n : Name) (all : Bool) → all ≡ ((among (without ns r.inner) n || any_mentions (without ns r.inner) (trees_meant arguments)) || rest_mentions ns r) → among (without ns r.inner) n ≡ false
      → new ≡ with_next (Terms arguments) r → FindsName ns all (3 + (sizes (trees_meant arguments) + left_size r.left)) new (Ok false)
  applied_left r new arguments n all e free is =
      subst (λ x. FindsName ns all (3 + (sizes (trees_meant arguments) + left_size r.left)) x (Ok false)) (sym is) (
        e ∙ ap (λ b. (b || any_mentions (without ns r.inner) (trees_meant arguments)) || rest_mentions ns r) free,
        omega arith,
      )

  -- a row after its first term
  pub terms_left : (r new : Rest) (ts after : Trees) (t : Tree) (later : Cursor) → ts ≡ more t after → trees_meant later ≡ after → new ≡ with_next (Terms later) r
      → (any_mentions (without ns r.inner) ts || rest_mentions ns r) ≡ (mentions (without ns new.inner) t || rest_mentions ns new)
  terms_left r new ts after t later first left is =
      let w = without ns r.inner in
      ap (λ us. any_mentions w us || rest_mentions ns r) first
      ∙ ap (λ b. b || rest_mentions ns r) (any_more w t after)
      ∙ or_assoc (mentions w t) (any_mentions w after) (rest_mentions ns r)
      ∙ ap (λ us. mentions w t || (any_mentions w us || rest_mentions ns r)) (sym left)
      ∙ ap (λ x. mentions (without ns x.inner) t || rest_mentions ns x) (sym is)

  -- bindings after the first of them
  pub values_left : (r new : Rest) (ts after : Trees) (x : Word) (t : Tree) (later : Cursor) → first_binding ts ≡ Some (x, (t, after)) → trees_meant later ≡ after → new ≡ with_next (Values later) r
      → (binding_mentions (without ns r.inner) ts || rest_mentions ns r) ≡ (mentions (without ns new.inner) t || rest_mentions ns new)
  values_left r new ts after x t later first left is =
      let w = without ns r.inner in
      ap (λ b. b || rest_mentions ns r) (binding_more w ts x t after first)
      ∙ or_assoc (mentions w t) (binding_mentions w after) (rest_mentions ns r)
      ∙ ap (λ us. mentions w t || (binding_mentions w us || rest_mentions ns r)) (sym left)
      ∙ ap (λ y. mentions (without ns y.inner) t || rest_mentions ns y) (sym is)

  -- a body under names
  pub body_left : (r new : Rest) (bound : List Name) (body : Tree) (k : ℕ) → k ≡ length r.inner → new ≡ record { inner = r.inner ++ bound; left = Back k ∷ r.left }
      → (mentions (without (without ns r.inner) bound) body || rest_mentions ns r) ≡ (mentions (without ns new.inner) body || rest_mentions ns new)
  body_left r new bound body k long is =
      let back : take k (r.inner ++ bound) ≡ r.inner = take_at r.inner bound k (sym long) in
      (λ i. same_mentions (without (without ns r.inner) bound) (without ns (r.inner ++ bound)) body (without_both ns r.inner bound) i || left_mentions ns (sym back i) r.left)
      ∙ ap (λ x. mentions (without ns x.inner) body || rest_mentions ns x) (sym is)
