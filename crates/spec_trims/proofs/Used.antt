-- A command rests on another where a name that this makes is among those that it uses.
use Rattle.std.proofs.Common.{◌≡◌, Bool, true, false, ◌||◌, List, [], ◌∷◌, ◌++◌, Option, Some, None, cond, refl, sym, ap, ap₂, ◌∙◌}
use Rattle.std.specs.Prelude.{if◌then◌else◌}
use Rattle.std.specs.Str.{bytes_eq}
use Rattle.std.proofs.lemmas.Bool.{false≢true}
use Rattle.std.proofs.lemmas.Slice.Eq.{bytes_eq-Decides}
use Rattle.spec_text.specs.declared.Kind.{Kind}
use Rattle.spec_text.specs.declared.Kind.TheVariants.{Numeral, Decimal, Text, Simple, Quoted, Reserved, Keyword}
use Rattle.spec_text.specs.Bytes.{Name, among}
use Rattle.spec_text.specs.Trees.{Tree, Trees, atom, list, none, more}
use Rattle.spec_text.specs.Shapes.{is_symbol}
use Rattle.spec_sorts.specs.Forms.{Form, malformed, reserved, applies, binds, annotates, form}
use Rattle.spec_reading.specs.Names.{is_mentioned, names_bound, without, mentions, any_mentions, first_mentions, let_mentions, binding_mentions}
use Rattle.spec_checking.specs.Commands.{Shape, assumes, steps, defines}
use Rattle.spec_trims.specs.Trims.{steps_made, terms_made, has_premise, uses_step, uses_term, command_shape, shape_rests_on, some_rests_on}
use Rattle.spec_trims.specs.Used.{some_among, free_names, free_in, free_in_first, free_in_let, free_in_bindings, premise_names, steps_used, terms_used, all_steps_used, all_terms_used}

-- tests in another order
or_swap : (a b c d : Bool) → ((a || b) || (c || d)) ≡ ((a || c) || (b || d))
or_swap true b c d = refl
or_swap false true true d = refl
or_swap false true false d = refl
or_swap false false true d = refl
or_swap false false false d = refl

or_assoc : (a b c : Bool) → ((a || b) || c) ≡ (a || (b || c))
or_assoc true b c = refl
or_assoc false b c = refl

or_none : (a : Bool) → (a || false) ≡ a
or_none true = refl
or_none false = refl

-- names of both lists
among_append : (ms ns : List Name) (n : Name) → among (ms ++ ns) n ≡ (among ms n || among ns n)
among_append [] ns n = refl
among_append (m ∷ ms) ns n = ap (λ b. bytes_eq m n || b) (among_append ms ns n) ∙ sym (or_assoc (bytes_eq m n) (among ms n) (among ns n))

some_append : (ns cs bs : List Name) → some_among ns (cs ++ bs) ≡ (some_among ns cs || some_among ns bs)
some_append [] cs bs = refl
some_append (n ∷ ns) cs bs = ap₂ (λ (x y : Bool). x || y) (among_append cs bs n) (some_append ns cs bs) ∙ or_swap (among cs n) (among bs n) (some_among ns cs) (some_among ns bs)

none_some : (ns : List Name) → some_among ns [] ≡ false
none_some [] = refl
none_some (n ∷ ns) = none_some ns

-- equality of names goes both ways
eq_swap : (m n : Name) → bytes_eq m n ≡ bytes_eq n m
eq_swap m n = by (bytes_eq m n) (bytes_eq n m) (bytes_eq-Decides m n) (bytes_eq-Decides n m)
  where
    by : (a b : Bool) → ((a ≡ true → m ≡ n) × (m ≡ n → a ≡ true)) → ((b ≡ true → n ≡ m) × (n ≡ m → b ≡ true)) → a ≡ b
    by true true f g = refl
    by false false f g = refl
    by true false f g = sym (g.1 (sym (f.0 refl)))
    by false true f g = f.1 (sym (g.0 refl))

one_some : (ns : List Name) (n : Name) → some_among ns (n ∷ []) ≡ among ns n
one_some [] n = refl
one_some (m ∷ ns) n = ap₂ (λ (x y : Bool). x || y) (or_none (bytes_eq n m) ∙ eq_swap n m) (one_some ns n)

-- the same name is among the same names
among_same : (ns : List Name) (m n : Name) → bytes_eq m n ≡ true → among ns m ≡ among ns n
among_same ns m n e = ap (among ns) ((bytes_eq-Decides m n).0 e)

among_without : (ms bs : List Name) (n : Name) → among bs n ≡ false → among (without ms bs) n ≡ among ms n
among_without [] bs n h = refl
among_without (m ∷ ms) bs n h = by (among bs m) refl (bytes_eq m n) refl (among_without ms bs n h)
  where
    by : (q : Bool) → among bs m ≡ q → (r : Bool) → bytes_eq m n ≡ r → among (without ms bs) n ≡ among ms n → among (cond q (without ms bs) (m ∷ without ms bs)) n ≡ (bytes_eq m n || among ms n)
    by false q r e k = ap (λ b. bytes_eq m n || b) k
    by true q true e k = absurd (false≢true (sym h ∙ sym (among_same bs m n e) ∙ q))
    by true q false e k = k ∙ ap (λ b. b || among ms n) (sym e)

gone_without : (ms bs : List Name) (n : Name) → among bs n ≡ true → among (without ms bs) n ≡ false
gone_without [] bs n h = refl
gone_without (m ∷ ms) bs n h = by (among bs m) refl (bytes_eq m n) refl (gone_without ms bs n h)
  where
    by : (q : Bool) → among bs m ≡ q → (r : Bool) → bytes_eq m n ≡ r → among (without ms bs) n ≡ false → among (cond q (without ms bs) (m ∷ without ms bs)) n ≡ false
    by true q r e k = k
    by false q true e k = absurd (false≢true (sym q ∙ among_same bs m n e ∙ h))
    by false q false e k = (λ i. e i || k i)

-- names may be taken away on either side
some_without : (ns ms bs : List Name) → some_among (without ns bs) ms ≡ some_among ns (without ms bs)
some_without [] ms bs = refl
some_without (n ∷ ns) ms bs = by (among bs n) refl (some_without ns ms bs)
  where
    by : (q : Bool) → among bs n ≡ q → some_among (without ns bs) ms ≡ some_among ns (without ms bs) → some_among (cond q (without ns bs) (n ∷ without ns bs)) ms ≡ (among (without ms bs) n || some_among ns (without ms bs))
    by true q k = k ∙ ap (λ b. b || some_among ns (without ms bs)) (sym (gone_without ms bs n q))
    by false q k = ap₂ (λ (x y : Bool). x || y) (sym (among_without ms bs n q)) k

atom_free : (ns : List Name) (k : Kind) (n : Name) → is_mentioned ns k n ≡ some_among ns (if is_symbol k then n ∷ [] else [])
atom_free ns Simple n = sym (one_some ns n)
atom_free ns Quoted n = sym (one_some ns n)
atom_free ns Numeral n = sym (none_some ns)
atom_free ns Decimal n = sym (none_some ns)
atom_free ns Text n = sym (none_some ns)
atom_free ns Reserved n = sym (none_some ns)
atom_free ns Keyword n = sym (none_some ns)

-- a name that occurs free is one of those that do
both_free : (ns cs bs : List Name) (x y : Bool) → x ≡ some_among ns cs → y ≡ some_among ns bs → (x || y) ≡ some_among ns (cs ++ bs)
both_free ns cs bs x y e f = ap₂ (λ (x y : Bool). x || y) e f ∙ sym (some_append ns cs bs)

mutual
  unfolding mentions any_mentions first_mentions let_mentions binding_mentions free_names free_in free_in_first free_in_let free_in_bindings

  pub free_mentioned : (ns : List Name) (t : Tree) → mentions ns t ≡ some_among ns (free_names t)
  free_mentioned ns (atom at k n) = atom_free ns k n
  free_mentioned ns (list at none end) = sym (none_some ns)
  free_mentioned ns (list at (more head us) end) = go (form head us) (free_any ns us) (free_let ns us) (free_first ns us)
    where
      go : (q : Form) → any_mentions ns us ≡ some_among ns (free_in us) → let_mentions ns us ≡ some_among ns (free_in_let us) → first_mentions ns us ≡ some_among ns (free_in_first us)
          → elim q [ applies place n ↦ among ns n || any_mentions ns us | binds ↦ let_mentions ns us | annotates ↦ first_mentions ns us | _ ↦ false ]
          ≡ some_among ns (elim q [ applies place n ↦ n ∷ free_in us | binds ↦ free_in_let us | annotates ↦ free_in_first us | _ ↦ [] ])
      go malformed x y z = sym (none_some ns)
      go (reserved p) x y z = sym (none_some ns)
      go (applies p n) x y z = both_free ns (n ∷ []) (free_in us) (among ns n) (any_mentions ns us) (sym (one_some ns n)) x
      go binds x y z = y
      go annotates x y z = z

  pub free_any : (ns : List Name) (ts : Trees) → any_mentions ns ts ≡ some_among ns (free_in ts)
  free_any ns none = sym (none_some ns)
  free_any ns (more t ts) = both_free ns (free_names t) (free_in ts) (mentions ns t) (any_mentions ns ts) (free_mentioned ns t) (free_any ns ts)

  free_first : (ns : List Name) (ts : Trees) → first_mentions ns ts ≡ some_among ns (free_in_first ts)
  free_first ns none = sym (none_some ns)
  free_first ns (more t ts) = free_mentioned ns t

  free_let : (ns : List Name) (ts : Trees) → let_mentions ns ts ≡ some_among ns (free_in_let ts)
  free_let ns (more (list at bindings end) (more body none)) =
      both_free ns (free_in_bindings bindings) (without (free_names body) (names_bound bindings)) (binding_mentions ns bindings) (mentions (without ns (names_bound bindings)) body) (free_bindings ns bindings)
      (free_mentioned (without ns (names_bound bindings)) body ∙ some_without ns (free_names body) (names_bound bindings))
  free_let ns _ = sym (none_some ns)

  free_bindings : (ns : List Name) (ts : Trees) → binding_mentions ns ts ≡ some_among ns (free_in_bindings ts)
  free_bindings ns (more (list at (more (atom x k n) (more t none)) end) rest) = both_free ns (free_names t) (free_in_bindings rest) (mentions ns t) (binding_mentions ns rest) (free_mentioned ns t) (free_bindings ns rest)
  free_bindings ns _ = sym (none_some ns)

-- commands
premise_used : (ns : List Name) (ts : Trees) → has_premise ns ts ≡ some_among ns (premise_names ts)
premise_used ns none = sym (none_some ns)
premise_used ns (more (atom at k n) ts) = both_free ns (n ∷ []) (premise_names ts) (among ns n) (has_premise ns ts) (sym (one_some ns n)) (premise_used ns ts)
premise_used ns (more (list at us end) ts) = premise_used ns ts

step_used : (ns : List Name) (s : Shape) → uses_step ns s ≡ some_among ns (steps_used (Some s))
step_used ns (assumes h t) = sym (none_some ns)
step_used ns (steps p) = premise_used ns p.premises
step_used ns (defines d) = sym (none_some ns)

term_used : (ns : List Name) (s : Shape) → uses_term ns s ≡ some_among ns (terms_used (Some s))
term_used ns (assumes h t) = free_mentioned ns t
term_used ns (steps p) = free_any ns p.literals
term_used ns (defines d) = free_mentioned (without ns (names_bound d.parameters)) d.body ∙ some_without ns (free_names d.body) (names_bound d.parameters)

one_used : (d : Option Shape) (c : Shape) → shape_rests_on d (Some c) ≡ (some_among (steps_made c) (steps_used d) || some_among (terms_made c) (terms_used d))
one_used (Some d) c = ap₂ (λ (x y : Bool). x || y) (step_used (steps_made c) d) (term_used (terms_made c) d)
one_used None c = sym (ap₂ (λ (x y : Bool). x || y) (none_some (steps_made c)) (none_some (terms_made c)))

pub rests_by_names : (ds : Trees) (t : Tree) (c : Shape) → command_shape t ≡ Some c → some_rests_on ds t ≡ (some_among (steps_made c) (all_steps_used ds) || some_among (terms_made c) (all_terms_used ds))
rests_by_names none t c is = sym (ap₂ (λ (x y : Bool). x || y) (none_some (steps_made c)) (none_some (terms_made c)))
rests_by_names (more d ds) t c is =
    let o = command_shape d in
    ap₂ (λ (x y : Bool). x || y) (ap (shape_rests_on o) is ∙ one_used o c) (rests_by_names ds t c is)
    ∙ or_swap (some_among (steps_made c) (steps_used o)) (some_among (terms_made c) (terms_used o)) (some_among (steps_made c) (all_steps_used ds)) (some_among (terms_made c) (all_terms_used ds))
    ∙ sym (ap₂ (λ (x y : Bool). x || y) (some_append (steps_made c) (steps_used o) (all_steps_used ds)) (some_append (terms_made c) (terms_used o) (all_terms_used ds)))
