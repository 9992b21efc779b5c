-- What mentions no name of two lists mentions none of both.
use Rattle.std.proofs.Common.{◌≡◌, Bool, true, false, ◌||◌, List, [], ◌∷◌, ◌++◌, cond, refl, ap, ◌∙◌}
use Rattle.std.specs.Str.{bytes_eq}
use Rattle.spec_text.specs.declared.Kind.{Kind}
use Rattle.spec_text.specs.declared.Kind.TheVariants.{Numeral, Decimal, Text, Simple, Quoted, Reserved, Keyword}
use Rattle.spec_text.specs.Bytes.{Name, among}
use Rattle.spec_text.specs.Trees.{Tree, Trees, atom, list, none, more}
use Rattle.spec_sorts.specs.Forms.{Form, malformed, reserved, applies, binds, annotates, form}
use Rattle.spec_reading.specs.Names.{is_mentioned, names_bound, without, mentions, any_mentions, first_mentions, let_mentions, binding_mentions}
use Rattle.spec_reading.proofs.WellSorted.{none_mentioned, none_in}
use Rattle.spec_reading.proofs.Closed.{neither_of}
use Rattle.spec_checking.specs.Commands.{Shape, assumes, steps, defines}
use Rattle.spec_trims.specs.Trims.{has_premise, uses_step, uses_term}

pub or_both : (a b : Bool) → a ≡ false → b ≡ false → (a || b) ≡ false
or_both a b e f = (λ j. e j || f j)

pub among_both : (ms ns : List Name) (n : Name) → among ms n ≡ false → among ns n ≡ false → among (ms ++ ns) n ≡ false
among_both [] ns n h k = k
among_both (m ∷ ms) ns n h k = let p = neither_of (bytes_eq m n) (among ms n) h in or_both (bytes_eq m n) (among (ms ++ ns) n) p.one (among_both ms ns n p.two k)

-- what is neither of both is none of each
pub among_parts : (ms ns : List Name) (n : Name) → among (ms ++ ns) n ≡ false → (among ms n ≡ false) × (among ns n ≡ false)
among_parts [] ns n h = (refl, h)
among_parts (m ∷ ms) ns n h =
    let p = neither_of (bytes_eq m n) (among (ms ++ ns) n) h in
    let r = among_parts ms ns n p.two in
    (or_both (bytes_eq m n) (among ms n) p.one r.0, r.1)

without_both : (ms ns bs : List Name) → without (ms ++ ns) bs ≡ without ms bs ++ without ns bs
without_both [] ns bs = refl
without_both (m ∷ ms) ns bs = by (among bs m) (without_both ms ns bs)
  where
    by : (q : Bool) → without (ms ++ ns) bs ≡ without ms bs ++ without ns bs → cond q (without (ms ++ ns) bs) (m ∷ without (ms ++ ns) bs) ≡ cond q (without ms bs) (m ∷ without ms bs) ++ without ns bs
    by true e = e
    by false e = ap (λ (xs : List Name). m ∷ xs) e

module _ (ms ns : List Name) where
  atom_both : (k : Kind) (n : Name) → is_mentioned ms k n ≡ false → is_mentioned ns k n ≡ false → is_mentioned (ms ++ ns) k n ≡ false
  atom_both Numeral n h k = refl
  atom_both Decimal n h k = refl
  atom_both Text n h k = refl
  atom_both Simple n h k = among_both ms ns n h k
  atom_both Quoted n h k = among_both ms ns n h k
  atom_both Reserved n h k = refl
  atom_both Keyword n h k = refl

mutual
  unfolding mentions any_mentions first_mentions let_mentions binding_mentions

  -- a term
  pub mentions_both : (ms ns : List Name) (t : Tree) → mentions ms t ≡ false → mentions ns t ≡ false → mentions (ms ++ ns) t ≡ false
  mentions_both ms ns (atom at k n) h g = atom_both ms ns k n h g
  mentions_both ms ns (list at none end) h g = refl
  mentions_both ms ns (list at (more head us) end) h g = go (form head us) h g (any_both ms ns us) (let_both ms ns us) (first_both ms ns us)
    where
      go : (q : Form)
          → elim q [ applies place n ↦ among ms n || any_mentions ms us | binds ↦ let_mentions ms us | annotates ↦ first_mentions ms us | _ ↦ false ] ≡ false
          → elim q [ applies place n ↦ among ns n || any_mentions ns us | binds ↦ let_mentions ns us | annotates ↦ first_mentions ns us | _ ↦ false ] ≡ false
          → (any_mentions ms us ≡ false → any_mentions ns us ≡ false → any_mentions (ms ++ ns) us ≡ false)
          → (let_mentions ms us ≡ false → let_mentions ns us ≡ false → let_mentions (ms ++ ns) us ≡ false)
          → (first_mentions ms us ≡ false → first_mentions ns us ≡ false → first_mentions (ms ++ ns) us ≡ false)
          → elim q [ applies place n ↦ among (ms ++ ns) n || any_mentions (ms ++ ns) us | binds ↦ let_mentions (ms ++ ns) us | annotates ↦ first_mentions (ms ++ ns) us | _ ↦ false ] ≡ false
      go malformed h g x y z = refl
      go (reserved p) h g x y z = refl
      go (applies p n) h g x y z =
          let j = neither_of (among ms n) (any_mentions ms us) h in
          let k = neither_of (among ns n) (any_mentions ns us) g in
          or_both (among (ms ++ ns) n) (any_mentions (ms ++ ns) us) (among_both ms ns n j.one k.one) (x j.two k.two)
      go binds h g x y z = y h g
      go annotates h g x y z = z h g

  -- several
  pub any_both : (ms ns : List Name) (ts : Trees) → any_mentions ms ts ≡ false → any_mentions ns ts ≡ false → any_mentions (ms ++ ns) ts ≡ false
  any_both ms ns none h g = refl
  any_both ms ns (more t ts) h g =
      let j = neither_of (mentions ms t) (any_mentions ms ts) h in
      let k = neither_of (mentions ns t) (any_mentions ns ts) g in
      or_both (mentions (ms ++ ns) t) (any_mentions (ms ++ ns) ts) (mentions_both ms ns t j.one k.one) (any_both ms ns ts j.two k.two)

  -- the one before attributes
  first_both : (ms ns : List Name) (ts : Trees) → first_mentions ms ts ≡ false → first_mentions ns ts ≡ false → first_mentions (ms ++ ns) ts ≡ false
  first_both ms ns none h g = refl
  first_both ms ns (more t ts) h g = mentions_both ms ns t h g

  -- a body under bindings
  let_both : (ms ns : List Name) (ts : Trees) → let_mentions ms ts ≡ false → let_mentions ns ts ≡ false → let_mentions (ms ++ ns) ts ≡ false
  let_both ms ns (more (list at bindings end) (more body none)) h g =
      let bs = names_bound bindings in
      let j = neither_of (binding_mentions ms bindings) (mentions (without ms bs) body) h in
      let k = neither_of (binding_mentions ns bindings) (mentions (without ns bs) body) g in
      or_both (binding_mentions (ms ++ ns) bindings) (mentions (without (ms ++ ns) bs) body) (binding_both ms ns bindings j.one k.one)
      (ap (λ xs. mentions xs body) (without_both ms ns bs) ∙ mentions_both (without ms bs) (without ns bs) body j.two k.two)
  let_both ms ns _ h g = refl

  -- bindings
  binding_both : (ms ns : List Name) (ts : Trees) → binding_mentions ms ts ≡ false → binding_mentions ns ts ≡ false → binding_mentions (ms ++ ns) ts ≡ false
  binding_both ms ns (more (list at (more (atom x k n) (more t none)) end) rest) h g =
      let i = neither_of (mentions ms t) (binding_mentions ms rest) h in
      let j = neither_of (mentions ns t) (binding_mentions ns rest) g in
      or_both (mentions (ms ++ ns) t) (binding_mentions (ms ++ ns) rest) (mentions_both ms ns t i.one j.one) (binding_both ms ns rest i.two j.two)
  binding_both ms ns _ h g = refl

-- premises
pub premise_both : (ms ns : List Name) (ts : Trees) → has_premise ms ts ≡ false → has_premise ns ts ≡ false → has_premise (ms ++ ns) ts ≡ false
premise_both ms ns none h g = refl
premise_both ms ns (more (atom at k n) ts) h g =
    let i = neither_of (among ms n) (has_premise ms ts) h in
    let j = neither_of (among ns n) (has_premise ns ts) g in
    or_both (among (ms ++ ns) n) (has_premise (ms ++ ns) ts) (among_both ms ns n i.one j.one) (premise_both ms ns ts i.two j.two)
premise_both ms ns (more (list at us end) ts) h g = premise_both ms ns ts h g

-- commands
pub steps_both : (ms ns : List Name) (s : Shape) → uses_step ms s ≡ false → uses_step ns s ≡ false → uses_step (ms ++ ns) s ≡ false
steps_both ms ns (assumes h t) e f = refl
steps_both ms ns (steps p) e f = premise_both ms ns p.premises e f
steps_both ms ns (defines d) e f = refl

pub terms_both : (ms ns : List Name) (s : Shape) → uses_term ms s ≡ false → uses_term ns s ≡ false → uses_term (ms ++ ns) s ≡ false
terms_both ms ns (assumes h t) e f = mentions_both ms ns t e f
terms_both ms ns (steps p) e f = any_both ms ns p.literals e f
terms_both ms ns (defines d) e f = ap (λ xs. mentions xs d.body) (without_both ms ns (names_bound d.parameters)) ∙ mentions_both (without ms (names_bound d.parameters)) (without ns (names_bound d.parameters)) d.body e f

-- of no names none is used
no_premises : (ts : Trees) → has_premise [] ts ≡ false
no_premises none = refl
no_premises (more (atom at k n) ts) = no_premises ts
no_premises (more (list at us end) ts) = no_premises ts

pub no_steps : (s : Shape) → uses_step [] s ≡ false
no_steps (assumes h t) = refl
no_steps (steps p) = no_premises p.premises
no_steps (defines d) = refl

pub no_terms : (s : Shape) → uses_term [] s ≡ false
no_terms (assumes h t) = none_mentioned t
no_terms (steps p) = none_in p.literals
no_terms (defines d) = none_mentioned d.body
