-- A text has one value under all bindings that are the same for the names which occur free in it.
use Rattle.std.proofs.Common.{◌≡◌, Bool, true, false, ◌||◌, List, [], ◌∷◌, ◌++◌, map, Some, cond, refl, sym, ap, ap₂, ◌∙◌}
use Rattle.std.specs.Str.{bytes_eq}
use Rattle.std.proofs.lemmas.Bool.{false≢true}
use Rattle.std.proofs.lemmas.Slice.Eq.{bytes_eq-Decides}
use Rattle.spec_text.specs.declared.Kind.{Kind}
use Rattle.spec_text.specs.declared.Kind.TheVariants.{Numeral, Decimal, Text, Simple, Quoted, Reserved, Keyword}
use Rattle.spec_text.specs.Bytes.{Name, among}
use Rattle.spec_text.specs.Trees.{Tree, Trees, atom, list, none, more}
use Rattle.spec_sorts.specs.Values.{Value, Interpretation}
use Rattle.spec_sorts.specs.TermValues.{value_at}
use Rattle.spec_sorts.specs.Theory.{look_up}
use Rattle.spec_sorts.specs.Forms.{Form, malformed, reserved, applies, binds, annotates, form}
use Rattle.spec_sorts.specs.Meaning.{theory_values, Meaning, Bindings, value_by, atom_value, value_of, values_of, let_value, bound_values, first_value}
use Rattle.spec_reading.specs.Names.{is_mentioned, names_bound, without, mentions, any_mentions, first_mentions, let_mentions, binding_mentions}
use Rattle.spec_reading.specs.Reading.{Bound, bound_names}
use Rattle.spec_reading.specs.Agreement.{values_bound}
use Rattle.spec_reading.proofs.Values.{form_value}

-- Neither of two tests holds.
pub record Neither (a b : Bool) : Type 0 where
  -- the first does not
  pub one : a ≡ false
  -- the second does not
  pub two : b ≡ false

pub neither_of : (a b : Bool) → (a || b) ≡ false → Neither a b
neither_of true b h = absurd (false≢true (sym h))
neither_of false b h = record { one = refl; two = h }

-- the names of bindings
abbrev keys : Bindings → List Name
keys b = map (λ (p : Name × Value). p.0) b

-- bindings give the same for each name that is none of these
abbrev pub SameFor : List Name → Bindings → Bindings → Type 0
SameFor ns b c = (n : Name) → among ns n ≡ false → look_up b n ≡ look_up c n

-- bindings that hide both hide what differs
same_after : (xs b c : Bindings) (n : Name) → look_up b n ≡ look_up c n → look_up (xs ++ b) n ≡ look_up (xs ++ c) n
same_after [] b c n h = h
same_after (x ∷ xs) b c n h = ap (cond (bytes_eq x.0 n) (Some x.1)) (same_after xs b c n h)

found_before : (xs b c : Bindings) (n : Name) → among (keys xs) n ≡ true → look_up (xs ++ b) n ≡ look_up (xs ++ c) n
found_before [] b c n h = absurd (false≢true h)
found_before (x ∷ xs) b c n h = go (bytes_eq x.0 n) h (found_before xs b c n)
  where
    go : (d : Bool) → (d || among (keys xs) n) ≡ true → (among (keys xs) n ≡ true → look_up (xs ++ b) n ≡ look_up (xs ++ c) n) → cond d (Some x.1) (look_up (xs ++ b) n) ≡ cond d (Some x.1) (look_up (xs ++ c) n)
    go true h k = refl
    go false h k = k h

-- what is bound has the names of the bindings
names_are : (m : Meaning) (b : Bindings) (ts : Trees) → keys (bound_values m b ts) ≡ names_bound ts
unfolding bound_values
names_are m b (more (list at (more (atom x k n) (more t none)) end) rest) = ap (λ ns. n ∷ ns) (names_are m b rest)
names_are m b _ = refl

-- a name that is none of those left, and none of those taken away, is none of all
pub still_among : (ns bs : List Name) (n : Name) → among (without ns bs) n ≡ false → among bs n ≡ false → among ns n ≡ false
still_among [] bs n h k = refl
still_among (m ∷ ms) bs n h k = go (among bs m) refl h (still_among ms bs n)
  where
    or_both : (a b : Bool) → a ≡ false → b ≡ false → (a || b) ≡ false
    or_both a b e f = (λ j. e j || f j)

    differs : (c : Bool) → among bs m ≡ true → (c ≡ true → m ≡ n) → c ≡ false
    differs true e same = absurd (false≢true (sym k ∙ ap (among bs) (sym (same refl)) ∙ e))
    differs false e same = refl

    go : (c : Bool) → among bs m ≡ c → among (cond c (without ms bs) (m ∷ without ms bs)) n ≡ false → (among (without ms bs) n ≡ false → among bs n ≡ false → among ms n ≡ false) → (bytes_eq m n || among ms n) ≡ false
    go true e h rest = or_both (bytes_eq m n) (among ms n) (differs (bytes_eq m n) e (bytes_eq-Decides m n).0) (rest h k)
    go false e h rest = let p = neither_of (bytes_eq m n) (among (without ms bs) n) h in or_both (bytes_eq m n) (among ms n) p.one (rest p.two k)

-- under bindings of a `let` the rest stays the same
same_under : (m : Meaning) (ns : List Name) (b c d : Bindings) (ts : Trees) → SameFor ns b c → SameFor (without ns (names_bound ts)) (bound_values m d ts ++ b) (bound_values m d ts ++ c)
same_under m ns b c d ts h n k = go (among (names_bound ts) n) refl
  where
    go : (e : Bool) → among (names_bound ts) n ≡ e → look_up (bound_values m d ts ++ b) n ≡ look_up (bound_values m d ts ++ c) n
    go true e = found_before (bound_values m d ts) b c n (ap (λ ks. among ks n) (names_are m d ts) ∙ e)
    go false e = same_after (bound_values m d ts) b c n (h n (still_among ns (names_bound ts) n k e))

module _ (m : Meaning) where
  -- a name that is bound alike has one value
  closed_name : (ns : List Name) (b c : Bindings) (n : Name) → among ns n ≡ false → SameFor ns b c → value_by (look_up b n) (look_up theory_values n) (m n []) [] ≡ value_by (look_up c n) (look_up theory_values n) (m n []) []
  closed_name ns b c n h s = ap (λ o. value_by o (look_up theory_values n) (m n []) []) (s n h)

  -- an atom that is none of the names has one value
  closed_atom : (ns : List Name) (b c : Bindings) (k : Kind) (n : Name) → is_mentioned ns k n ≡ false → SameFor ns b c → atom_value m b k n ≡ atom_value m c k n
  closed_atom ns b c Numeral n h s = refl
  closed_atom ns b c Decimal n h s = refl
  closed_atom ns b c Simple n h s = closed_name ns b c n h s
  closed_atom ns b c Quoted n h s = closed_name ns b c n h s
  closed_atom ns b c Text n h s = refl
  closed_atom ns b c Reserved n h s = refl
  closed_atom ns b c Keyword n h s = refl

  mutual
    unfolding value_of values_of let_value bound_values first_value mentions any_mentions first_mentions let_mentions binding_mentions

    -- a term that mentions none of the names has one value
    pub closed : (ns : List Name) (b c : Bindings) (t : Tree) → mentions ns t ≡ false → SameFor ns b c → value_of m b t ≡ value_of m c t
    closed ns b c (atom at k n) h s = closed_atom ns b c k n h s
    closed ns b c (list at none end) h s = refl
    closed ns b c (list at (more head us) end) h s = go (form head us) h (closed_all ns b c us) (closed_let ns b c us) (closed_first ns b c us)
      where
        go : (f : Form)
            → elim f [ applies place n ↦ among ns n || any_mentions ns us | binds ↦ let_mentions ns us | annotates ↦ first_mentions ns us | _ ↦ false ] ≡ false
            → (any_mentions ns us ≡ false → SameFor ns b c → values_of m b us ≡ values_of m c us)
            → (let_mentions ns us ≡ false → SameFor ns b c → let_value m b us ≡ let_value m c us)
            → (first_mentions ns us ≡ false → SameFor ns b c → first_value m b us ≡ first_value m c us)
            → form_value m b us f ≡ form_value m c us f
        go malformed h x y z = refl
        go (reserved p) h x y z = refl
        go (applies p n) h x y z = let k = neither_of (among ns n) (any_mentions ns us) h in (λ j. value_by (s n k.one j) (look_up theory_values n) (m n (x k.two s j)) (x k.two s j))
        go binds h x y z = y h s
        go annotates h x y z = z h s

    -- and so have several
    closed_all : (ns : List Name) (b c : Bindings) (ts : Trees) → any_mentions ns ts ≡ false → SameFor ns b c → values_of m b ts ≡ values_of m c ts
    closed_all ns b c none h s = refl
    closed_all ns b c (more t ts) h s =
        let k = neither_of (mentions ns t) (any_mentions ns ts) h in
        ap₂ (λ (v : Value) (vs : List Value). v ∷ vs) (closed ns b c t k.one s) (closed_all ns b c ts k.two s)

    -- and the one before attributes
    closed_first : (ns : List Name) (b c : Bindings) (ts : Trees) → first_mentions ns ts ≡ false → SameFor ns b c → first_value m b ts ≡ first_value m c ts
    closed_first ns b c none h s = refl
    closed_first ns b c (more t ts) h s = closed ns b c t h s

    -- and a body under bindings
    closed_let : (ns : List Name) (b c : Bindings) (ts : Trees) → let_mentions ns ts ≡ false → SameFor ns b c → let_value m b ts ≡ let_value m c ts
    closed_let ns b c (more (list at bindings end) (more body none)) h s =
        let k = neither_of (binding_mentions ns bindings) (mentions (without ns (names_bound bindings)) body) h in
        ap (λ vs. value_of m (vs ++ b) body) (closed_bindings ns b c bindings k.one s)
        ∙ closed (without ns (names_bound bindings)) (bound_values m c bindings ++ b) (bound_values m c bindings ++ c) body k.two (same_under m ns b c c bindings s)
    closed_let ns b c _ h s = refl

    -- and the bindings themselves
    closed_bindings : (ns : List Name) (b c : Bindings) (ts : Trees) → binding_mentions ns ts ≡ false → SameFor ns b c → bound_values m b ts ≡ bound_values m c ts
    closed_bindings ns b c (more (list at (more (atom x k n) (more t none)) end) rest) h s =
        let k = neither_of (mentions ns t) (binding_mentions ns rest) h in
        ap₂ (λ (v : Value) (vs : Bindings). (n, v) ∷ vs) (closed ns b c t k.one s) (closed_bindings ns b c rest k.two s)
    closed_bindings ns b c _ h s = refl

-- bound names are bound, and no others
pub unbound : (i : Interpretation) (ps : List Value) (b : Bound) → SameFor (bound_names b) (values_bound i ps b) []
unbound i ps [] n h = refl
unbound i ps (p ∷ b) n h =
    let k = neither_of (bytes_eq p.0 n) (among (bound_names b) n) h in
    (λ j. cond (k.one j) (Some (value_at i ps p.1)) (unbound i ps b n k.two j))
