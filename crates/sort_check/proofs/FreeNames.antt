-- Which names occur free in a text, where it binds some itself.
use Rattle.std.proofs.Common.{◌≡◌, ℕ, ◌<◌, arith, Bool, true, false, cond, not, ◌&&◌, ◌||◌, List, [], ◌∷◌, ◌++◌, map, Some, None, refl, sym, ap, ◌∙◌}
use Rattle.std.specs.Str.{bytes_eq}
use Rattle.std.proofs.lemmas.Slice.Eq.{bytes_eq-Decides}
use Rattle.std.proofs.lemmas.Option.{same_Some}
use Rattle.spec_text.specs.declared.Kind.{Kind}
use Rattle.spec_text.specs.Bytes.{Name, among}
use Rattle.spec_text.specs.Shapes.{Word, is_symbol}
use Rattle.spec_text.specs.Trees.{Tree, Trees, atom, list, none, more}
use Rattle.spec_sorts.specs.Forms.{Form, malformed, reserved, applies, binds, annotates, form}
use Rattle.spec_sorts.specs.Theory.{look_up}
use Rattle.spec_reading.specs.Names.{names_bound, without, mentions, any_mentions, first_mentions, let_mentions, binding_mentions}
use Rattle.spec_reading.specs.Reading.{bound_names}
use Rattle.term_core.specs.declared.ids.TermId.{TermId}
use Rattle.term_core.specs.Tables.{TableView}
use Rattle.term_reader.specs.NameStacks.{newest}
use Rattle.sort_check.specs.Bindings.{BindingsView, named_term, bound_at}
use Rattle.sort_check.specs.Splitting.{first_binding, let_parts}
use Rattle.sort_check.specs.Walks.{size}
use Rattle.sort_check.specs.Mentions.{names_of, form_mentions}

-- the same names are among both
abbrev pub HaveSame : List Name → List Name → Type 0
HaveSame ns ms = (n : Name) → among ns n ≡ among ms n

-- a name is among those that are left where it is among all, and none of those taken away
pub among_without : (ns bs : List Name) (n : Name) → among (without ns bs) n ≡ (among ns n && not (among bs n))
among_without [] bs n = refl
among_without (m ∷ ms) bs n = go (among bs m) refl (among_without ms bs n)
  where
    same : (c : Bool) → (c ≡ true → m ≡ n) → c ≡ true → among bs n ≡ among bs m
    same c is e = ap (among bs) (sym (is e))

    none_left : (b : Bool) → (b && false) ≡ false
    none_left true = refl
    none_left false = refl

    taken : (c : Bool) → (c ≡ true → among bs n ≡ true) → among (without ms bs) n ≡ (among ms n && not (among bs n)) → among (without ms bs) n ≡ ((c || among ms n) && not (among bs n))
    taken true is rest = let no = ap not (is refl) in rest ∙ ap (λ b. among ms n && b) no ∙ none_left (among ms n) ∙ sym no
    taken false is rest = rest

    kept : (c : Bool) → (c ≡ true → among bs n ≡ false) → among (without ms bs) n ≡ (among ms n && not (among bs n)) → (c || among (without ms bs) n) ≡ ((c || among ms n) && not (among bs n))
    kept true is rest = ap not (sym (is refl))
    kept false is rest = rest

    go : (d : Bool) → among bs m ≡ d → among (without ms bs) n ≡ (among ms n && not (among bs n)) → among (cond d (without ms bs) (m ∷ without ms bs)) n ≡ ((bytes_eq m n || among ms n) && not (among bs n))
    go true e rest = taken (bytes_eq m n) (λ f. same (bytes_eq m n) (bytes_eq-Decides m n).0 f ∙ e) rest
    go false e rest = kept (bytes_eq m n) (λ f. same (bytes_eq m n) (bytes_eq-Decides m n).0 f ∙ e) rest

-- names taken away from the same
pub same_without : (ns ms bs : List Name) → HaveSame ns ms → HaveSame (without ns bs) (without ms bs)
same_without ns ms bs h n = among_without ns bs n ∙ ap (λ b. b && not (among bs n)) (h n) ∙ sym (among_without ms bs n)

-- a name is among both lists together
among_append : (ks bs : List Name) (n : Name) → among (ks ++ bs) n ≡ (among ks n || among bs n)
among_append [] bs n = refl
among_append (m ∷ ms) bs n = ap (λ b. bytes_eq m n || b) (among_append ms bs n) ∙ go (bytes_eq m n)
  where
    go : (c : Bool) → (c || (among ms n || among bs n)) ≡ ((c || among ms n) || among bs n)
    go true = refl
    go false = refl

-- names taken away in two parts
pub without_both : (ns ks bs : List Name) → HaveSame (without (without ns ks) bs) (without ns (ks ++ bs))
without_both ns ks bs n =
    among_without (without ns ks) bs n ∙ ap (λ b. b && not (among bs n)) (among_without ns ks n) ∙ go (among ns n) (among ks n) (among bs n)
    ∙ ap (λ b. among ns n && not b) (sym (among_append ks bs n)) ∙ sym (among_without ns (ks ++ bs) n)
  where
    go : (a b c : Bool) → ((a && not b) && not c) ≡ (a && not (b || c))
    go true true c = refl
    go true false c = refl
    go false b c = refl

-- no names taken away
pub without_none : (ns : List Name) → without ns [] ≡ ns
without_none [] = refl
without_none (m ∷ ms) = ap (λ ns. m ∷ ns) (without_none ms)

-- a list by its form
pub list_mentions : (ns : List Name) (at end : ℕ) (head : Tree) (us : Trees) → mentions ns (list at (more head us) end) ≡ form_mentions ns us (form head us)
unfolding mentions
list_mentions ns at end head us = go (form head us)
  where
    go : (f : Form) → elim f [ applies place n ↦ among ns n || any_mentions ns us | binds ↦ let_mentions ns us | annotates ↦ first_mentions ns us | _ ↦ false ] ≡ form_mentions ns us f
    go malformed = refl
    go (reserved place) = refl
    go (applies place n) = refl
    go binds = refl
    go annotates = refl

mutual
  unfolding mentions any_mentions first_mentions let_mentions binding_mentions

  -- the same names occur free in a term
  pub same_mentions : (ns ms : List Name) (t : Tree) → HaveSame ns ms → mentions ns t ≡ mentions ms t
  same_mentions ns ms (atom at k n) h = ap (λ b. is_symbol k && b) (h n)
  same_mentions ns ms (list at none end) h = refl
  same_mentions ns ms (list at (more head us) end) h =
      list_mentions ns at end head us ∙ go (form head us) (same_any ns ms us h) (same_let ns ms us h) (same_first ns ms us h) ∙ sym (list_mentions ms at end head us)
    where
      go : (f : Form) → any_mentions ns us ≡ any_mentions ms us → let_mentions ns us ≡ let_mentions ms us → first_mentions ns us ≡ first_mentions ms us → form_mentions ns us f ≡ form_mentions ms us f
      go malformed x y z = refl
      go (reserved place) x y z = refl
      go (applies place n) x y z = λ i. h n i || x i
      go binds x y z = y
      go annotates x y z = z

  -- and in terms
  same_any : (ns ms : List Name) (ts : Trees) → HaveSame ns ms → any_mentions ns ts ≡ any_mentions ms ts
  same_any ns ms none h = refl
  same_any ns ms (more t ts) h = λ i. same_mentions ns ms t h i || same_any ns ms ts h i

  -- and in a term before attributes
  same_first : (ns ms : List Name) (ts : Trees) → HaveSame ns ms → first_mentions ns ts ≡ first_mentions ms ts
  same_first ns ms none h = refl
  same_first ns ms (more t ts) h = same_mentions ns ms t h

  -- and in bindings and their body
  same_let : (ns ms : List Name) (ts : Trees) → HaveSame ns ms → let_mentions ns ts ≡ let_mentions ms ts
  same_let ns ms (more (list at bindings end) (more body none)) h =
      λ i. same_binding ns ms bindings h i || same_mentions (without ns (names_bound bindings)) (without ms (names_bound bindings)) body (same_without ns ms (names_bound bindings) h) i
  same_let ns ms _ h = refl

  -- and in a term that is bound
  same_binding : (ns ms : List Name) (ts : Trees) → HaveSame ns ms → binding_mentions ns ts ≡ binding_mentions ms ts
  same_binding ns ms (more (list at (more (atom x k n) (more t none)) end) rest) h = λ i. same_mentions ns ms t h i || same_binding ns ms rest h i
  same_binding ns ms _ h = refl

-- a list without a head
pub empty_mentions : (ns : List Name) (at end : ℕ) → mentions ns (list at none end) ≡ false
unfolding mentions
empty_mentions ns at end = refl

-- an atom
pub atom_mentions : (ns : List Name) (at : ℕ) (k : Kind) (n : Name) → mentions ns (atom at k n) ≡ (is_symbol k && among ns n)
unfolding mentions
atom_mentions ns at k n = refl

-- terms by the first of them
pub any_none : (ns : List Name) → any_mentions ns none ≡ false
unfolding any_mentions
any_none ns = refl

pub any_more : (ns : List Name) (t : Tree) (ts : Trees) → any_mentions ns (more t ts) ≡ (mentions ns t || any_mentions ns ts)
unfolding any_mentions
any_more ns t ts = refl

-- a term before attributes
pub first_none : (ns : List Name) → first_mentions ns none ≡ false
unfolding first_mentions
first_none ns = refl

pub first_more : (ns : List Name) (t : Tree) (ts : Trees) → first_mentions ns (more t ts) ≡ mentions ns t
unfolding first_mentions
first_more ns t ts = refl

-- bindings by the first of them
pub binding_none : (ns : List Name) (ts : Trees) → first_binding ts ≡ None → binding_mentions ns ts ≡ false
unfolding binding_mentions first_binding
binding_none ns none e = refl
binding_none ns (more (atom at k n) rest) e = refl
binding_none ns (more (list at none end) rest) e = refl
binding_none ns (more (list at (more (list x us y) ts) end) rest) e = refl
binding_none ns (more (list at (more (atom x k n) none) end) rest) e = refl
binding_none ns (more (list at (more (atom x k n) (more t none)) end) rest) e = cc
binding_none ns (more (list at (more (atom x k n) (more t (more u us))) end) rest) e = refl

pub names_none : (ts : Trees) → first_binding ts ≡ None → names_bound ts ≡ []
unfolding first_binding
names_none none e = refl
names_none (more (atom at k n) rest) e = refl
names_none (more (list at none end) rest) e = refl
names_none (more (list at (more (list x us y) ts) end) rest) e = refl
names_none (more (list at (more (atom x k n) none) end) rest) e = refl
names_none (more (list at (more (atom x k n) (more t none)) end) rest) e = cc
names_none (more (list at (more (atom x k n) (more t (more u us))) end) rest) e = refl

pub binding_more : (ns : List Name) (ts : Trees) (x : Word) (t : Tree) (left : Trees) → first_binding ts ≡ Some (x, (t, left)) → binding_mentions ns ts ≡ (mentions ns t || binding_mentions ns left)
unfolding binding_mentions first_binding
binding_more ns none x t left e = cc
binding_more ns (more (atom at k n) rest) x t left e = cc
binding_more ns (more (list at none end) rest) x t left e = cc
binding_more ns (more (list at (more (list y us z) ts) end) rest) x t left e = cc
binding_more ns (more (list at (more (atom y k n) none) end) rest) x t left e = cc
binding_more ns (more (list at (more (atom y k n) (more u none)) end) rest) x t left e =
    let same = same_Some {A = Word × (Tree × Trees)} (record { at = y; kind = k; bytes = n }, (u, rest)) (x, (t, left)) e in
    λ i. mentions ns (same i).1.0 || binding_mentions ns (same i).1.1
binding_more ns (more (list at (more (atom y k n) (more u (more v vs))) end) rest) x t left e = cc

pub names_more : (ts : Trees) (x : Word) (t : Tree) (left : Trees) → first_binding ts ≡ Some (x, (t, left)) → names_bound ts ≡ x.bytes ∷ names_bound left
unfolding first_binding
names_more none x t left e = cc
names_more (more (atom at k n) rest) x t left e = cc
names_more (more (list at none end) rest) x t left e = cc
names_more (more (list at (more (list y us z) ts) end) rest) x t left e = cc
names_more (more (list at (more (atom y k n) none) end) rest) x t left e = cc
names_more (more (list at (more (atom y k n) (more u none)) end) rest) x t left e =
    let same = same_Some {A = Word × (Tree × Trees)} (record { at = y; kind = k; bytes = n }, (u, rest)) (x, (t, left)) e in
    λ i. (same i).0.bytes ∷ names_bound (same i).1.1
names_more (more (list at (more (atom y k n) (more u (more v vs))) end) rest) x t left e = cc

-- a `let` by its parts
pub let_more : (ns : List Name) (us bindings : Trees) (body : Tree) → let_parts us ≡ Some (bindings, body) → let_mentions ns us ≡ (binding_mentions ns bindings || mentions (without ns (names_bound bindings)) body)
unfolding let_mentions let_parts
let_more ns none bindings body e = cc
let_more ns (more (atom x k n) ts) bindings body e = cc
let_more ns (more (list x us y) none) bindings body e = cc
let_more ns (more (list x us y) (more t none)) bindings body e =
    let same = same_Some {A = Trees × Tree} (us, t) (bindings, body) e in
    λ i. binding_mentions ns (same i).0 || mentions (without ns (names_bound (same i).0)) (same i).1
let_more ns (more (list x us y) (more t (more u ts))) bindings body e = cc

pub let_none : (ns : List Name) (us : Trees) → let_parts us ≡ None → let_mentions ns us ≡ false
unfolding let_mentions let_parts
let_none ns none e = refl
let_none ns (more (atom x k n) ts) e = refl
let_none ns (more (list x us y) none) e = refl
let_none ns (more (list x us y) (more t none)) e = cc
let_none ns (more (list x us y) (more t (more u ts))) e = refl

-- each text counts
pub size_some : (t : Tree) → 0 < size t
size_some (atom at k n) = omega arith
size_some (list at ts end) = omega arith

-- what is found by a name is among the names
pub looked_none : {A : Type 0} (xs : List (Name × A)) (n : Name) → look_up xs n ≡ None → among (map (λ (p : Name × A). p.0) xs) n ≡ false
looked_none {A} [] n e = refl
looked_none {A} (x ∷ xs) n e = go (bytes_eq x.0 n) e (looked_none xs n)
  where
    go : (c : Bool) → cond c (Some x.1) (look_up xs n) ≡ None → (look_up xs n ≡ None → among (map (λ (p : Name × A). p.0) xs) n ≡ false) → (c || among (map (λ (p : Name × A). p.0) xs) n) ≡ false
    go true e rec = cc
    go false e rec = rec e

pub looked_some : {A : Type 0} (xs : List (Name × A)) (n : Name) (a : A) → look_up xs n ≡ Some a → among (map (λ (p : Name × A). p.0) xs) n ≡ true
looked_some {A} [] n a e = cc
looked_some {A} (x ∷ xs) n a e = go (bytes_eq x.0 n) e (looked_some xs n a)
  where
    go : (c : Bool) → cond c (Some x.1) (look_up xs n) ≡ Some a → (look_up xs n ≡ Some a → among (map (λ (p : Name × A). p.0) xs) n ≡ true) → (c || among (map (λ (p : Name × A). p.0) xs) n) ≡ true
    go true e rec = refl
    go false e rec = rec e

-- the bound names are those of the numbers
pub names_are : (t : TableView) (v : BindingsView) → bound_names (bound_at t v) ≡ names_of v
names_are t v = go (newest v.names v.terms)
  where
    go : (xs : List (Name × TermId)) → bound_names (map (named_term t) xs) ≡ map (λ (p : Name × TermId). p.0) xs
    go [] = refl
    go (x ∷ xs) = ap (λ ns. x.0 ∷ ns) (go xs)
