-- The term that a text is read as is well sorted, and so are the definitions that it makes.
use Rattle.std.proofs.Common.{◌≡◌, ℕ, suc, ◌+◌, arith, Bool, true, false, not, ◌||◌, List, [], ◌∷◌, ◌++◌, map, All, Contains, Option, Some, None, cond, refl, sym, ap, ◌∙◌, subst}
use Rattle.std.specs.Prelude.{Ok}
use Rattle.std.specs.List.{AllByRecursion}
use Rattle.std.specs.Str.{bytes_eq}
use Rattle.std.proofs.lemmas.Bool.{false≢true, and_parts, not-true}
use Rattle.std.proofs.lemmas.List.Elements.{All-from_recursion, recursion_from_All, All-weaker, Contains-append_left, Contains-push}
use Rattle.spec_text.specs.declared.Kind.{Kind}
use Rattle.spec_text.specs.declared.Kind.TheVariants.{Numeral, Decimal, Text, Simple, Quoted, Reserved as word_kind, Keyword}
use Rattle.spec_text.specs.declared.Fault.TheVariants.{BadShape, UnknownSymbol, Reserved}
use Rattle.spec_text.specs.Bytes.{Name, among}
use Rattle.spec_text.specs.Shapes.{Word}
use Rattle.spec_text.specs.Answers.{refused}
use Rattle.spec_text.specs.Trees.{Tree, Trees, atom, list, none, more}
use Rattle.spec_text.proofs.AnswerLaws.{answer, went, require_true}
use Rattle.spec_sorts.specs.Terms.{Sort, Symbol, Literal, Apply, Parameter, Term, sort_of, same_sort, same_sorts, has_parameter}
use Rattle.spec_sorts.specs.WellSorted.{IsWellSorted}
use Rattle.spec_sorts.specs.Theory.{look_up, Rule, theory}
use Rattle.spec_sorts.specs.Signatures.{Definition, Known, declared, defined, Declaration, of_sort, of_function, Signature, known_name, known_as, symbols_in, definition, with_definitions}
use Rattle.spec_sorts.specs.Forms.{Form, malformed, reserved, applies, binds, annotates, form}
use Rattle.spec_sorts.proofs.Signatures.{symbols_append, symbols_with}
use Rattle.spec_sorts.proofs.WellSorted.{Each, before, filled_sorted, sorted_over, same_sort_is, same_sort_itself}
use Rattle.spec_sorts.proofs.SortedHeads.{head_keeps}
use Rattle.spec_sorts.proofs.SortsOfValues.{literal_reduced}
use Rattle.spec_reading.specs.Names.{Setting, is_in_list, is_mentioned, names_bound, without, mentions, any_mentions, first_mentions, let_mentions, binding_mentions}
use Rattle.spec_reading.specs.Reading.{Bound, Reading, Readings, Bindings, plain_reading, by_rule, with_sorts, sorts_taken, by_known, applied_as, applied, literal, atom_term, Annotated, naming, made_by, annotated_as, bound_names, reading, readings, let_reading, bindings_reading, annotated_reading}
use Rattle.spec_reading.specs.Definitions.{Parts, bound_parameters, definitions_in}
use Rattle.spec_reading.specs.WellSorted.{IsDefinedOver, IsDeclaredOver, AreWellSorted}
use Rattle.spec_reading.proofs.Values.{with_both, with_sorts_ok, by_rule_ok, new_name_is, by_form}
use Rattle.spec_reading.proofs.Closed.{neither_of, still_among}
use Rattle.spec_reading.proofs.Kept.{with_none, with_two, text_keeps}

-- bindings have the names that are read
names_read : (w : Setting) (s : Signature) (b : Bound) (names : List Name) (ts : Trees) (r : Bindings) → bindings_reading w s b names ts ≡ Ok r → bound_names r.bound ≡ names_bound ts
unfolding bindings_reading
names_read w s b names (more (list at (more (atom x k n) (more t none)) end) rest) r e =
    let a = went _ _ _ e in
    let c = went _ _ _ a.then in
    let d = went _ _ _ c.then in
    let later = names_read w (with_definitions s c.first.made) b (names ++ a.first ∷ []) rest d.first d.was in
    let n_is : n ≡ a.first = new_name_is w (is_in_list names) (record { at = x; kind = k; bytes = n }) a.first a.was in
    ap (λ (x : Bindings). bound_names x.bound) (sym (answer (Ok _) r d.then)) ∙ (λ j. sym n_is j ∷ later j)
names_read w s b names _ r e = ap (λ (x : Bindings). bound_names x.bound) (sym (answer (Ok _) r e))

-- what is read with sorts has them
with_sorts_same : (ss : List Sort) (at : ℕ) (ts : List Term) (t u : Term) → with_sorts ss at ts t ≡ Ok u → same_sorts ss (map sort_of ts) ≡ true
with_sorts_same ss at ts t u e =
    let a = went _ _ _ e in
    let b = went _ _ _ a.then in
    require_true _ _ _ _ b.was

module _ (symbols : List Symbol) where
  -- each declaration is one over the symbols
  abbrev pub Over : Signature → Type 0
  Over s = AllByRecursion (IsDeclaredOver symbols) s

  -- the first part of a signature over symbols is one
  over_before : (s t : Signature) → Over (s ++ t) → Over s
  over_before [] t h = tt
  over_before (d ∷ ds) t h = (h.0, over_before ds t h.1)

  -- and both parts make one
  pub over_append : (s t : Signature) → Over s → Over t → Over (s ++ t)
  over_append [] t h k = k
  over_append (d ∷ ds) t h k = (h.0, over_append ds t h.1 k)

  over_both : (s : Signature) (a b : List Definition) → Over (with_definitions s (a ++ b)) → Over (with_definitions s a) × Over (with_definitions (with_definitions s a) b)
  over_both s a b h =
      let k = subst Over (with_both s a b) h in
      (over_before (with_definitions s a) (map definition b) k, k)

  -- the function of a name, if there is one
  abbrev KnownOver : Option Known → Type 0
  KnownOver (Some k) = IsDeclaredOver symbols (of_function k)
  KnownOver None = Unit {0}

  known_over : (s : Signature) (n : Name) → Over s → KnownOver (known_as s n)
  known_over [] n h = tt
  known_over (of_sort m u ∷ ds) n h = known_over ds n h.1
  known_over (of_function k ∷ ds) n h = go (bytes_eq (known_name k) n) (known_over ds n h.1)
    where
      go : (c : Bool) → KnownOver (known_as ds n) → KnownOver (cond c (Some k) (known_as ds n))
      go true later = h.0
      go false later = later

  module _ (ps : List Sort) where
    -- bound names stand for well-sorted terms, but for some names
    abbrev BoundOver : List Name → Bound → Type 0
    BoundOver names b = (n : Name) (u : Term) → among names n ≡ false → look_up b n ≡ Some u → IsWellSorted symbols ps u

    -- the term of each bound name is well sorted
    abbrev pub EachBound : Bound → Type 0
    EachBound b = AllByRecursion (λ (p : Name × Term). IsWellSorted symbols ps p.1) b

    -- a name is bound by the first bindings or by the others
    found_in : (xs b : Bound) (n : Name) (u : Term) → EachBound xs → look_up (xs ++ b) n ≡ Some u → (among (bound_names xs) n ≡ false → look_up b n ≡ Some u → IsWellSorted symbols ps u) → IsWellSorted symbols ps u
    found_in [] b n u h e later = later refl e
    found_in (x ∷ xs) b n u h e later = go (bytes_eq x.0 n) e later (found_in xs b n u h.1)
      where
        go : (c : Bool) → cond c (Some x.1) (look_up (xs ++ b) n) ≡ Some u
            → ((c || among (bound_names xs) n) ≡ false → look_up b n ≡ Some u → IsWellSorted symbols ps u)
            → (look_up (xs ++ b) n ≡ Some u → (among (bound_names xs) n ≡ false → look_up b n ≡ Some u → IsWellSorted symbols ps u) → IsWellSorted symbols ps u)
            → IsWellSorted symbols ps u
        go true e later others = let same : x.1 ≡ u = cc in subst (IsWellSorted symbols ps) same h.0
        go false e later others = others e later

    -- a bound name stands for a well-sorted term
    found : (b : Bound) (n : Name) (u : Term) → EachBound b → look_up b n ≡ Some u → IsWellSorted symbols ps u
    found [] n u h e = cc
    found (x ∷ xs) n u h e = go (bytes_eq x.0 n) e (found xs n u h.1)
      where
        go : (c : Bool) → cond c (Some x.1) (look_up xs n) ≡ Some u → (look_up xs n ≡ Some u → IsWellSorted symbols ps u) → IsWellSorted symbols ps u
        go true e others = let same : x.1 ≡ u = cc in subst (IsWellSorted symbols ps) same h.0
        go false e others = others e

    rule_sorted : (n : Name) (r : Rule) (at : ℕ) (ts : List Term) (u : Term) → look_up theory n ≡ Some r → by_rule r at ts ≡ Ok u → Each symbols ps ts → IsWellSorted symbols ps u
    rule_sorted n r at ts u is e each =
        let a = went _ _ _ e in
        let b = went _ _ _ a.then in
        subst (IsWellSorted symbols ps) (by_rule_ok r at ts u e) (head_keeps symbols ps n r is ts (require_true _ _ _ _ a.was) (require_true _ _ _ _ b.was) each)

    known_sorted : (k : Known) (at : ℕ) (ts : List Term) (u : Term) → by_known k at ts ≡ Ok u → IsDeclaredOver symbols (of_function k) → Each symbols ps ts → IsWellSorted symbols ps u
    known_sorted (declared f) at ts u e h each =
        subst (IsWellSorted symbols ps) (with_sorts_ok f.parameters at ts _ u e).1
        (before symbols ps (Apply f) ts (with_sorts_same f.parameters at ts _ u e) h each)
    known_sorted (defined d) at ts u e h each =
        subst (IsWellSorted symbols ps) (with_sorts_ok (sorts_taken d) at ts _ u e).1
        (filled_sorted symbols ps (sorts_taken d) ts d.term h.term (with_sorts_same (sorts_taken d) at ts _ u e) each).0

    -- a name before well-sorted terms
    applied_sorted : (names : List Name) (s : Signature) (b : Bound) (place : ℕ) (n : Name) (at : ℕ) (ts : List Term) (u : Term) → applied s b place n at ts ≡ Ok u → Over s → BoundOver names b → among names n ≡ false → Each symbols ps ts → IsWellSorted symbols ps u
    applied_sorted names s b place n at ts u e h bound free each = go (look_up b n) (look_up theory n) (known_as s n) refl (λ t. bound n t free) (known_over s n h) e
      where
        go : (o : Option Term) (r : Option Rule) (k : Option Known) → look_up theory n ≡ r → ((t : Term) → o ≡ Some t → IsWellSorted symbols ps t) → KnownOver k → applied_as o r k place at ts ≡ Ok u → IsWellSorted symbols ps u
        go (Some t) r k is ho hk e = subst (IsWellSorted symbols ps) (with_sorts_ok [] at ts t u e).1 (ho t refl)
        go None (Some r) k is ho hk e = rule_sorted n r at ts u is e each
        go None None (Some k) is ho hk e = known_sorted k at ts u e hk each
        go None None None is ho hk e = absurd (answer (refused place UnknownSymbol) u e)

    literal_sorted : (at : ℕ) (n : List ℕ) (u : Term) → literal at n ≡ Ok u → IsWellSorted symbols ps u
    literal_sorted at n u e =
        let a = went _ _ _ e in
        subst (IsWellSorted symbols ps) (answer (Ok _) u a.then) (before symbols ps (Literal _) [] refl (literal_reduced n) tt)

    atom_sorted : (names : List Name) (s : Signature) (b : Bound) (at : ℕ) (k : Kind) (n : Name) (u : Term) → atom_term s b at k n ≡ Ok u → Over s → BoundOver names b → is_mentioned names k n ≡ false → IsWellSorted symbols ps u
    atom_sorted names s b at Numeral n u e h bound free = literal_sorted at n u e
    atom_sorted names s b at Decimal n u e h bound free = literal_sorted at n u e
    atom_sorted names s b at Simple n u e h bound free = applied_sorted names s b at n at [] u e h bound free tt
    atom_sorted names s b at Quoted n u e h bound free = applied_sorted names s b at n at [] u e h bound free tt
    atom_sorted names s b at Text n u e h bound free = absurd (answer (refused at BadShape) u e)
    atom_sorted names s b at Keyword n u e h bound free = absurd (answer (refused at BadShape) u e)
    atom_sorted names s b at word_kind n u e h bound free = absurd (answer (refused at Reserved) u e)

    -- bindings hide names, and their terms are well sorted
    bound_under : (w : Setting) (s : Signature) (names : List Name) (b : Bound) (ts : Trees) (r : Bindings) → bindings_reading w s b [] ts ≡ Ok r → EachBound r.bound → BoundOver names b → BoundOver (without names (names_bound ts)) (r.bound ++ b)
    bound_under w s names b ts r e each bound n u free is =
        found_in r.bound b n u each is λ other later.
        bound n u (still_among names (names_bound ts) n free (ap (λ ns. among ns n) (sym (names_read w s b [] ts r e)) ∙ other)) later

    mutual
      unfolding reading readings let_reading bindings_reading annotated_reading mentions any_mentions first_mentions let_mentions binding_mentions

      -- the term of a text, in which no other bound names than those of well-sorted terms occur free
      pub sorted : (names : List Name) (w : Setting) (s : Signature) (b : Bound) (t : Tree) (r : Reading) → reading w s b t ≡ Ok r → Over (with_definitions s r.made) → BoundOver names b → mentions names t ≡ false → IsWellSorted symbols ps r.term
      sorted names w s b (atom at k n) r e h bound free =
          let a = went _ _ _ e in
          subst (λ (x : Reading). IsWellSorted symbols ps x.term) (answer (Ok (plain_reading a.first)) r a.then) (atom_sorted names s b at k n a.first a.was (over_before s (map definition r.made) h) bound free)
      sorted names w s b (list at none end) r e h bound free = absurd (answer (refused at BadShape) r e)
      sorted names w s b (list at (more head us) end) r e h bound free = go (form head us) (sorted_all names w s b us) (sorted_let names w s b at us) (sorted_first names w s b at us) e h free
        where
          go : (f : Form)
              → ((rs : Readings) → readings w s b us ≡ Ok rs → Over (with_definitions s rs.made) → BoundOver names b → any_mentions names us ≡ false → Each symbols ps rs.terms)
              → ((r : Reading) → let_reading w s b at us ≡ Ok r → Over (with_definitions s r.made) → BoundOver names b → let_mentions names us ≡ false → IsWellSorted symbols ps r.term)
              → ((r : Reading) → annotated_reading w s b at us ≡ Ok r → Over (with_definitions s r.made) → BoundOver names b → first_mentions names us ≡ false → IsWellSorted symbols ps r.term)
              → by_form w s b at us f ≡ Ok r → Over (with_definitions s r.made)
              → elim f [ applies place n ↦ among names n || any_mentions names us | binds ↦ let_mentions names us | annotates ↦ first_mentions names us | _ ↦ false ] ≡ false
              → IsWellSorted symbols ps r.term
          go malformed all one two e h free = absurd (answer (refused at BadShape) r e)
          go (reserved place) all one two e h free = absurd (answer (refused place Reserved) r e)
          go (applies place n) all one two e h free =
              let a = went _ _ _ e in
              let c = went _ _ _ a.then in
              let same = answer (Ok _) r c.then in
              let k = subst (λ (x : Reading). Over (with_definitions s x.made)) (sym same) h in
              let f = neither_of (among names n) (any_mentions names us) free in
              subst (λ (x : Reading). IsWellSorted symbols ps x.term) same
              (applied_sorted names (with_definitions s a.first.made) b place n at a.first.terms _ c.was k bound f.one (all a.first a.was k bound f.two))
          go binds all one two e h free = one r e h bound free
          go annotates all one two e h free = two r e h bound free

      -- the terms of texts
      pub sorted_all : (names : List Name) (w : Setting) (s : Signature) (b : Bound) (ts : Trees) (r : Readings) → readings w s b ts ≡ Ok r → Over (with_definitions s r.made) → BoundOver names b → any_mentions names ts ≡ false → Each symbols ps r.terms
      sorted_all names w s b none r e h bound free = subst (λ (x : Readings). Each symbols ps x.terms) (answer (Ok _) r e) tt
      sorted_all names w s b (more t ts) r e h bound free =
          let a = went _ _ _ e in
          let c = went _ _ _ a.then in
          let same = answer (Ok _) r c.then in
          let k = over_both s a.first.made c.first.made (subst (λ (x : Readings). Over (with_definitions s x.made)) (sym same) h) in
          let f = neither_of (mentions names t) (any_mentions names ts) free in
          subst (λ (x : Readings). Each symbols ps x.terms) same
          (sorted names w s b t a.first a.was k.0 bound f.one, sorted_all names w (with_definitions s a.first.made) b ts c.first c.was k.1 bound f.two)

      -- the term of a body under bindings
      pub sorted_let : (names : List Name) (w : Setting) (s : Signature) (b : Bound) (at : ℕ) (ts : Trees) (r : Reading) → let_reading w s b at ts ≡ Ok r → Over (with_definitions s r.made) → BoundOver names b → let_mentions names ts ≡ false → IsWellSorted symbols ps r.term
      sorted_let names w s b at (more (list place bindings end) (more body none)) r e h bound free =
          let a = went _ _ _ e in
          let c = went _ _ _ a.then in
          let same = answer (Ok _) r c.then in
          let k = over_both s a.first.made c.first.made (subst (λ (x : Reading). Over (with_definitions s x.made)) (sym same) h) in
          let f = neither_of (binding_mentions names bindings) (mentions (without names (names_bound bindings)) body) free in
          let each = sorted_bindings names w s b [] bindings a.first a.was k.0 bound f.one in
          subst (λ (x : Reading). IsWellSorted symbols ps x.term) same
          (sorted (without names (names_bound bindings)) w (with_definitions s a.first.made) (a.first.bound ++ b) body c.first c.was k.1 (bound_under w s names b bindings a.first a.was each bound) f.two)
      sorted_let names w s b at _ r e h bound free = absurd (answer (refused at BadShape) r e)

      -- the terms of bindings
      pub sorted_bindings : (names : List Name) (w : Setting) (s : Signature) (b : Bound) (earlier : List Name) (ts : Trees) (r : Bindings) → bindings_reading w s b earlier ts ≡ Ok r → Over (with_definitions s r.made) → BoundOver names b → binding_mentions names ts ≡ false → EachBound r.bound
      sorted_bindings names w s b earlier (more (list at (more (atom x k n) (more t none)) end) rest) r e h bound free =
          let a = went _ _ _ e in
          let c = went _ _ _ a.then in
          let d = went _ _ _ c.then in
          let same = answer (Ok _) r d.then in
          let both = over_both s c.first.made d.first.made (subst (λ (x : Bindings). Over (with_definitions s x.made)) (sym same) h) in
          let f = neither_of (mentions names t) (binding_mentions names rest) free in
          subst (λ (x : Bindings). EachBound x.bound) same
          (sorted names w s b t c.first c.was both.0 bound f.one, sorted_bindings names w (with_definitions s c.first.made) b (earlier ++ a.first ∷ []) rest d.first d.was both.1 bound f.two)
      sorted_bindings names w s b earlier _ r e h bound free = subst (λ (x : Bindings). EachBound x.bound) (answer (Ok _) r e) tt

      -- the term before attributes
      pub sorted_first : (names : List Name) (w : Setting) (s : Signature) (b : Bound) (at : ℕ) (ts : Trees) (r : Reading) → annotated_reading w s b at ts ≡ Ok r → Over (with_definitions s r.made) → BoundOver names b → first_mentions names ts ≡ false → IsWellSorted symbols ps r.term
      sorted_first names w s b at none r e h bound free = absurd (answer (refused at BadShape) r e)
      sorted_first names w s b at (more t attributes) r e h bound free =
          let a = went _ _ _ e in
          let c = went _ _ _ a.then in
          let same = answer (Ok _) r c.then in
          let k = over_both s a.first.made c.first (subst (λ (x : Reading). Over (with_definitions s x.made)) (sym same) h) in
          subst (λ (x : Reading). IsWellSorted symbols ps x.term) same (sorted names w s b t a.first a.was k.0 bound free)

mutual
  unfolding mentions any_mentions first_mentions let_mentions binding_mentions

  -- none of no names occurs free in a text
  pub none_mentioned : (t : Tree) → mentions [] t ≡ false
  none_mentioned (atom at Numeral n) = refl
  none_mentioned (atom at Decimal n) = refl
  none_mentioned (atom at Simple n) = refl
  none_mentioned (atom at Quoted n) = refl
  none_mentioned (atom at Text n) = refl
  none_mentioned (atom at Keyword n) = refl
  none_mentioned (atom at word_kind n) = refl
  none_mentioned (list at none end) = refl
  none_mentioned (list at (more head us) end) = go (form head us) (none_in us) (none_in_let us) (none_before us)
    where
      go : (f : Form) → any_mentions [] us ≡ false → let_mentions [] us ≡ false → first_mentions [] us ≡ false
          → elim f [ applies place n ↦ among [] n || any_mentions [] us | binds ↦ let_mentions [] us | annotates ↦ first_mentions [] us | _ ↦ false ] ≡ false
      go malformed x y z = refl
      go (reserved place) x y z = refl
      go (applies place n) x y z = x
      go binds x y z = y
      go annotates x y z = z

  -- nor in texts
  pub none_in : (ts : Trees) → any_mentions [] ts ≡ false
  none_in none = refl
  none_in (more t ts) = (λ j. none_mentioned t j || none_in ts j)

  -- nor in a term before attributes
  pub none_before : (ts : Trees) → first_mentions [] ts ≡ false
  none_before none = refl
  none_before (more t ts) = none_mentioned t

  -- nor in bindings and their body
  pub none_in_let : (ts : Trees) → let_mentions [] ts ≡ false
  none_in_let (more (list at bindings end) (more body none)) = (λ j. none_in_bindings bindings j || none_mentioned body j)
  none_in_let _ = refl

  -- nor in terms that are bound
  pub none_in_bindings : (ts : Trees) → binding_mentions [] ts ≡ false
  none_in_bindings (more (list at (more (atom x k n) (more t none)) end) rest) = (λ j. none_mentioned t j || none_in_bindings rest j)
  none_in_bindings _ = refl

module _ (symbols : List Symbol) where
  -- bound names are not free in a text that may get a name, so its term has no parameters
  made_over : (w : Setting) (s : Signature) (t : Annotated) (xs : List Word) (ds : List Definition) → made_by w s t xs ≡ Ok ds → (t.may_name ≡ true → IsWellSorted symbols [] t.term) → Over symbols s → Over symbols (with_definitions s ds)
  unfolding made_by
  made_over w s t [] ds e sorted_term h = subst (λ x. Over symbols (with_definitions s x)) (answer (Ok []) ds e) (with_none (Over symbols) s h)
  made_over w s t (x ∷ xs) ds e sorted_term h =
      let p = went _ _ _ e in
      let q = went _ _ _ p.then in
      let r = went _ _ _ q.then in
      let d = naming p.first t in
      let this : IsDefinedOver symbols d = record { term = sorted_term (require_true t.may_name t.at BadShape q.first q.was); result = refl } in
      let rest = made_over w (with_definitions s (d ∷ [])) t xs r.first r.was sorted_term (over_append symbols s (definition d ∷ []) h (this, tt)) in
      subst (λ x. Over symbols (with_definitions s x)) (answer (Ok (d ∷ r.first)) ds r.then) (with_two (Over symbols) s (d ∷ []) r.first rest)

  -- a text that may get a name has a term without parameters
  closed_sorted : (w : Setting) (s : Signature) (b : Bound) (at : ℕ) (t : Tree) (r : Reading) → reading w s b t ≡ Ok r → Over symbols (with_definitions s r.made) → (annotated_as w b at t r.term).may_name ≡ true → IsWellSorted symbols [] r.term
  closed_sorted w s b at t r e h may = sorted symbols [] (bound_names b) w s b t r e h (all_bound b) (not-true _ (and_parts w.may_name (not (mentions (bound_names b) t)) may).1)
    where
      all_bound : (b : Bound) (n : Name) (u : Term) → among (bound_names b) n ≡ false → look_up b n ≡ Some u → IsWellSorted symbols [] u
      all_bound [] n u free is = cc
      all_bound (x ∷ xs) n u free is = go (bytes_eq x.0 n) free is (all_bound xs n u)
        where
          go : (c : Bool) → (c || among (bound_names xs) n) ≡ false → cond c (Some x.1) (look_up xs n) ≡ Some u → (among (bound_names xs) n ≡ false → look_up xs n ≡ Some u → IsWellSorted symbols [] u) → IsWellSorted symbols [] u
          go true free is others = absurd (false≢true (sym free))
          go false free is others = others free is

  -- a signature over symbols stays one with the definitions that a text makes
  pub text_over : (w : Setting) (s : Signature) (b : Bound) (t : Tree) (r : Reading) → reading w s b t ≡ Ok r → Over symbols s → Over symbols (with_definitions s r.made)
  text_over w s b t r e h = text_keeps w (Over symbols) (λ s b at t r e xs ds made k. made_over w (with_definitions s r.made) (annotated_as w b at t r.term) xs ds made (closed_sorted w s b at t r e k) k) s b t r e h

  -- a text's term is well sorted where those of all bound names are
  pub text_sorted : (ps : List Sort) (w : Setting) (s : Signature) (b : Bound) (t : Tree) (r : Reading) → reading w s b t ≡ Ok r → Over symbols (with_definitions s r.made) → EachBound symbols ps b → IsWellSorted symbols ps r.term
  text_sorted ps w s b t r e h each = sorted symbols ps [] w s b t r e h (λ n u free is. found symbols ps b n u each is) (none_mentioned t)

  -- parameters are well sorted among those of which they are the last
  parameters_sorted : (qs : List Sort) (ps : List (Name × Sort)) (k : ℕ) → ((j : ℕ) (s : Sort) → has_parameter (map (λ (p : Name × Sort). p.1) ps) j s ≡ true → has_parameter qs (k + j) s ≡ true) → EachBound symbols qs (bound_parameters k ps)
  parameters_sorted qs [] k h = tt
  parameters_sorted qs (p ∷ ps) k h =
      let at_k : has_parameter qs k p.1 ≡ true = ap (λ n. has_parameter qs n p.1) (omega arith) ∙ h 0 p.1 (same_sort_itself p.1) in (
        before symbols qs (Parameter k p.1) [] at_k tt tt,
        parameters_sorted qs ps (suc k) (λ j s e. ap (λ n. has_parameter qs n s) (omega arith) ∙ h (suc j) s e),
      )

  -- a definition, with those that its body makes
  pub definition_over : (w : Setting) (s : Signature) (d : Parts) (ds : List Definition) → definitions_in w s d ≡ Ok ds → Over symbols s → Over symbols (with_definitions s ds)
  unfolding definitions_in
  definition_over w s d ds e h =
      let n = went _ _ _ e in
      let ps = went _ _ _ n.then in
      let result = went _ _ _ ps.then in
      let r = went _ _ _ result.then in
      let x = went _ _ _ r.was in
      let y = went _ _ _ x.then in
      let is_r : x.first ≡ r.first = answer (Ok x.first) r.first y.then in
      let v : Setting = record w { own = Some n.first } in
      let b = bound_parameters 0 ps.first in
      let qs = map (λ (p : Name × Sort). p.1) ps.first in
      let read = subst (λ z. reading v s b d.body ≡ Ok z) is_r x.was in
      let made = text_over v s b d.body r.first read h in
      let term = text_sorted qs v s b d.body r.first read made (parameters_sorted qs ps.first 0 (λ j u k. ap (λ n. has_parameter qs n u) (omega arith) ∙ k)) in
      let this : Definition = record { name = n.first; parameters = ps.first; result = result.first; body = d.body; term = r.first.term } in
      let fits : same_sort result.first (sort_of x.first.term) ≡ true = require_true _ _ _ _ y.was in
      let sort : sort_of r.first.term ≡ result.first = ap (λ (z : Reading). sort_of z.term) (sym is_r) ∙ sym (same_sort_is result.first (sort_of x.first.term) fits) in
      let over : IsDefinedOver symbols this = record { term = term; result = sort } in
      subst (λ z. Over symbols (with_definitions s z)) (answer (Ok _) ds r.then)
      (with_two (Over symbols) s r.first.made (this ∷ []) (over_append symbols (with_definitions s r.first.made) (definition this ∷ []) made (over, tt)))

-- definitions over the declared symbols of a signature
well_sorted_with : (s : Signature) (ds : List Definition) → Over (symbols_in s) (with_definitions s ds) → AreWellSorted (with_definitions s ds)
well_sorted_with s ds h = subst (λ symbols. All (IsDeclaredOver symbols) (with_definitions s ds)) (sym (symbols_with s ds)) (All-from_recursion (IsDeclaredOver (symbols_in s)) (with_definitions s ds) h)

-- a well-sorted signature is one over its symbols
over_own : (s : Signature) → AreWellSorted s → Over (symbols_in s) s
over_own s h = recursion_from_All (IsDeclaredOver (symbols_in s)) s h

-- a signature stays well sorted with the definitions that a text makes
pub text_keeps_sorts : (w : Setting) (s : Signature) (b : Bound) (t : Tree) (r : Reading) → AreWellSorted s → reading w s b t ≡ Ok r → AreWellSorted (with_definitions s r.made)
text_keeps_sorts w s b t r h e = well_sorted_with s r.made (text_over (symbols_in s) w s b t r e (over_own s h))

-- and with a definition
pub definition_keeps_sorts : (w : Setting) (s : Signature) (d : Parts) (ds : List Definition) → AreWellSorted s → definitions_in w s d ≡ Ok ds → AreWellSorted (with_definitions s ds)
definition_keeps_sorts w s d ds h e = well_sorted_with s ds (definition_over (symbols_in s) w s d ds e (over_own s h))

-- the term of a text is well sorted
pub text_is_sorted : (w : Setting) (s : Signature) (b : Bound) (t : Tree) (r : Reading) (ps : List Sort) → AreWellSorted s → reading w s b t ≡ Ok r → All (λ (p : Name × Term). IsWellSorted (symbols_in s) ps p.1) b → IsWellSorted (symbols_in s) ps r.term
text_is_sorted w s b t r ps h e each =
    text_sorted (symbols_in s) ps w s b t r e (text_over (symbols_in s) w s b t r e (over_own s h))
    (recursion_from_All (λ (p : Name × Term). IsWellSorted (symbols_in s) ps p.1) b each)

module _ (symbols more : List Symbol) (among : (f : Symbol) → Contains symbols f → Contains more f) where
  declared_over : (d : Declaration) → IsDeclaredOver symbols d → IsDeclaredOver more d
  declared_over (of_sort n u) h = h
  declared_over (of_function (declared f)) h = among f h
  declared_over (of_function (defined d)) h = record { term = sorted_over symbols more among (sorts_taken d) d.term h.term; result = h.result }

-- a signature stays well sorted with one that is over the symbols of both
well_sorted_append : (s t : Signature) → AreWellSorted s → Over (symbols_in (s ++ t)) t → AreWellSorted (s ++ t)
well_sorted_append s t h k = All-from_recursion (IsDeclaredOver both) (s ++ t) (over_append both s t (recursion_from_All (IsDeclaredOver both) s (All-weaker (IsDeclaredOver (symbols_in s)) (IsDeclaredOver both) (declared_over (symbols_in s) both among_both) s h)) k)
  where
    both : List Symbol
    both = symbols_in (s ++ t)

    among_both : (f : Symbol) → Contains (symbols_in s) f → Contains (symbols_in (s ++ t)) f
    among_both f c = subst (λ fs. Contains fs f) (sym (symbols_append s t)) (Contains-append_left (symbols_in s) (symbols_in t) f c)

-- with a sort more
pub sort_keeps_sorts : (s : Signature) (n : Name) (u : Sort) → AreWellSorted s → AreWellSorted (s ++ of_sort n u ∷ [])
sort_keeps_sorts s n u h = well_sorted_append s (of_sort n u ∷ []) h (tt, tt)

-- and with a symbol more
pub symbol_keeps_sorts : (s : Signature) (f : Symbol) → AreWellSorted s → AreWellSorted (s ++ of_function (declared f) ∷ [])
symbol_keeps_sorts s f h = well_sorted_append s (of_function (declared f) ∷ []) h (subst (λ fs. Contains fs f) (sym (symbols_append s (of_function (declared f) ∷ []))) (Contains-push (symbols_in s) f), tt)

-- the term of a text that was read with the first part of a signature
pub term_later : (s t : Signature) (w : Setting) (x : Tree) (r : Reading) → reading w s [] x ≡ Ok r → AreWellSorted (with_definitions s r.made ++ t) → IsWellSorted (symbols_in (with_definitions s r.made ++ t)) [] r.term
term_later s t w x r e h = text_sorted (symbols_in (with_definitions s r.made ++ t)) [] w s [] x r e (over_before (symbols_in (with_definitions s r.made ++ t)) (with_definitions s r.made) t (over_own (with_definitions s r.made ++ t) h)) tt
