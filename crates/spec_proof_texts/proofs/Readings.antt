-- The term that a text is read as can be read back whole, and so can those of the definitions that it makes.
use Rattle.std.proofs.Common.{◌≡◌, ℕ, suc, Bool, true, false, List, [], ◌∷◌, ◌++◌, Option, Some, None, cond, refl, subst}
use Rattle.std.specs.Prelude.{not, Ok}
use Rattle.std.specs.List.{AllByRecursion}
use Rattle.std.specs.Str.{bytes_eq}
use Rattle.std.proofs.lemmas.Bool.{not-true}
use Rattle.spec_text.specs.declared.Kind.{Kind}
use Rattle.spec_text.specs.declared.Kind.TheVariants.{Numeral, Decimal, Text, Simple, Quoted, Reserved as word_kind, Keyword}
use Rattle.spec_text.specs.declared.Fault.{Fault}
use Rattle.spec_text.specs.declared.Fault.TheVariants.{BadShape, UnknownSymbol, Reserved, NumberWide}
use Rattle.spec_text.specs.Bytes.{Name}
use Rattle.spec_text.specs.Shapes.{Word}
use Rattle.spec_text.specs.Answers.{refused}
use Rattle.spec_text.specs.Trees.{Tree, Trees, atom, list, none, more}
use Rattle.spec_text.proofs.AnswerLaws.{answer, went, require_true}
use Rattle.spec_sorts.specs.Numerals.{literal_value, is_wide}
use Rattle.spec_sorts.specs.Terms.{Sort, Literal, Apply, Parameter, Term}
use Rattle.spec_sorts.specs.Theory.{look_up, Rule, theory}
use Rattle.spec_sorts.specs.Signatures.{Definition, Known, declared, defined, of_sort, of_function, Signature, known_name, known_as, definition, with_definitions}
use Rattle.spec_sorts.specs.Forms.{Form, malformed, reserved, applies, binds, annotates, form, a_keyword, named_words}
use Rattle.spec_reading.specs.Names.{Setting}
use Rattle.spec_reading.specs.Reading.{Bound, Reading, Readings, Bindings, plain_reading, unless, by_rule, sorts_taken, by_known, applied_as, applied, literal, atom_term, Annotated, naming, made_by, annotated_as, reading, readings, let_reading, bindings_reading, annotated_reading}
use Rattle.spec_reading.specs.Definitions.{Parts, bound_parameters, definitions_in}
use Rattle.spec_reading.proofs.Values.{with_sorts_ok, by_rule_ok, by_form}
use Rattle.spec_reading.proofs.Kept.{with_none, with_two}
use Rattle.spec_proof_texts.specs.Decimals.{is_decimal}
use Rattle.spec_proof_texts.specs.Readable.{IsReadableWhole, IsReadableDeclaration}
use Rattle.spec_proof_texts.proofs.ReadableHeads.{Each, before, rule_keeps}
use Rattle.spec_proof_texts.proofs.Filled.{filled_readable}

-- both of two lists have what each item has
pub append_each : {A : Type 0} (P : A → Type 0) (xs ys : List A) → AllByRecursion P xs → AllByRecursion P ys → AllByRecursion P (xs ++ ys)
append_each P [] ys a b = b
append_each P (x ∷ xs) ys a b = (a.0, append_each P xs ys a.1 b)

-- each definition of a signature means a term that can be read back whole
abbrev pub Good : Signature → Type 0
Good s = AllByRecursion IsReadableDeclaration s

-- and so does each bound name
abbrev pub EachBound : Bound → Type 0
EachBound b = AllByRecursion (λ (p : Name × Term). IsReadableWhole p.1) b

-- one definition more
good_last : (s : Signature) (d : Definition) → Good s → IsReadableWhole d.term → Good (with_definitions s (d ∷ []))
good_last s d h term = append_each IsReadableDeclaration s (definition d ∷ []) h (term, tt)

-- what a name is bound to, if it is
found : (b : Bound) (n : Name) (t : Term) → EachBound b → look_up b n ≡ Some t → IsReadableWhole t
found [] n t a e = cc
found (x ∷ xs) n t a e = go (bytes_eq x.0 n) e (found xs n t a.1)
  where
    go : (c : Bool) → cond c (Some x.1) (look_up xs n) ≡ Some t → (look_up xs n ≡ Some t → IsReadableWhole t) → IsReadableWhole t
    go true e others = let same : x.1 ≡ t = cc in subst IsReadableWhole same a.0
    go false e others = others e

-- the function of a name, if there is one
abbrev KnownGood : Option Known → Type 0
KnownGood (Some k) = IsReadableDeclaration (of_function k)
KnownGood None = Unit {0}

known_good : (s : Signature) (n : Name) → Good s → KnownGood (known_as s n)
known_good [] n a = tt
known_good (of_sort m u ∷ ds) n a = known_good ds n a.1
known_good (of_function k ∷ ds) n a = go (bytes_eq (known_name k) n) (known_good ds n a.1)
  where
    go : (c : Bool) → KnownGood (known_as ds n) → KnownGood (cond c (Some k) (known_as ds n))
    go true later = a.0
    go false later = later

-- a rule before terms of which it refuses none
rule_readable : (n : Name) (r : Rule) (at : ℕ) (ts : List Term) (u : Term) → look_up theory n ≡ Some r → by_rule r at ts ≡ Ok u → Each ts → IsReadableWhole u
rule_readable n r at ts u is e a =
    let counted = went _ _ _ e in
    let sorted = went _ _ _ counted.then in
    subst IsReadableWhole (by_rule_ok r at ts u e) (rule_keeps n r is ts (no_fault (r.fault ts) sorted.then) a)
  where
    no_fault : (o : Option Fault) → unless o at (r.reads ts) ≡ Ok u → o ≡ None
    no_fault None e = refl
    no_fault (Some f) e = absurd (answer (refused at f) u e)

-- a function of the signature before terms
known_readable : (k : Known) (at : ℕ) (ts : List Term) (u : Term) → by_known k at ts ≡ Ok u → IsReadableDeclaration (of_function k) → Each ts → IsReadableWhole u
known_readable (declared f) at ts u e h a = subst IsReadableWhole (with_sorts_ok f.parameters at ts _ u e).1 (before (Apply f) ts tt tt a)
known_readable (defined d) at ts u e h a = subst IsReadableWhole (with_sorts_ok (sorts_taken d) at ts _ u e).1 (filled_readable ts a d.term h)

applied_readable : (s : Signature) (b : Bound) (place : ℕ) (n : Name) (at : ℕ) (ts : List Term) (u : Term) → applied s b place n at ts ≡ Ok u → Good s → EachBound b → Each ts → IsReadableWhole u
applied_readable s b place n at ts u e h bound a = go (look_up b n) (look_up theory n) (known_as s n) refl (λ t. found b n t bound) (known_good s n h) e
  where
    go : (o : Option Term) (r : Option Rule) (k : Option Known) → look_up theory n ≡ r → ((t : Term) → o ≡ Some t → IsReadableWhole t) → KnownGood k → applied_as o r k place at ts ≡ Ok u → IsReadableWhole u
    go (Some t) r k is ho hk e = subst IsReadableWhole (with_sorts_ok [] at ts t u e).1 (ho t refl)
    go None (Some r) k is ho hk e = rule_readable n r at ts u is e a
    go None None (Some k) is ho hk e = known_readable k at ts u e hk a
    go None None None is ho hk e = absurd (answer (refused place UnknownSymbol) u e)

-- the names that attributes make of such a term
made_good : (w : Setting) (s : Signature) (t : Annotated) (xs : List Word) (ds : List Definition) → made_by w s t xs ≡ Ok ds → IsReadableWhole t.term → Good s → Good (with_definitions s ds)
unfolding made_by
made_good w s t [] ds e term h = subst (λ x. Good (with_definitions s x)) (answer (Ok []) ds e) (with_none Good s h)
made_good w s t (x ∷ xs) ds e term h =
    let p = went _ _ _ e in
    let q = went _ _ _ p.then in
    let r = went _ _ _ q.then in
    let d = naming p.first t in
    let rest = made_good w (with_definitions s (d ∷ [])) t xs r.first r.was term (good_last s d h term) in
    subst (λ x. Good (with_definitions s x)) (answer (Ok (d ∷ r.first)) ds r.then) (with_two Good s (d ∷ []) r.first rest)

-- the numbers that are read are decimals
abbrev pub ReadDecimals : Type 0
ReadDecimals = (bytes : List ℕ) → is_wide bytes ≡ false → is_decimal (literal_value bytes) ≡ true

module _ (decimal : ReadDecimals) where
  literal_readable : (at : ℕ) (n : List ℕ) (u : Term) → literal at n ≡ Ok u → IsReadableWhole u
  literal_readable at n u e =
      let a = went _ _ _ e in
      subst IsReadableWhole (answer (Ok _) u a.then) (before (Literal (literal_value n)) [] tt (decimal n (not-true (is_wide n) (require_true (not (is_wide n)) at NumberWide a.first a.was))) tt)

  atom_readable : (s : Signature) (b : Bound) (at : ℕ) (k : Kind) (n : Name) (u : Term) → atom_term s b at k n ≡ Ok u → Good s → EachBound b → IsReadableWhole u
  atom_readable s b at Numeral n u e h bound = literal_readable at n u e
  atom_readable s b at Decimal n u e h bound = literal_readable at n u e
  atom_readable s b at Simple n u e h bound = applied_readable s b at n at [] u e h bound tt
  atom_readable s b at Quoted n u e h bound = applied_readable s b at n at [] u e h bound tt
  atom_readable s b at Text n u e h bound = absurd (answer (refused at BadShape) u e)
  atom_readable s b at Keyword n u e h bound = absurd (answer (refused at BadShape) u e)
  atom_readable s b at word_kind n u e h bound = absurd (answer (refused at Reserved) u e)

  module _ (w : Setting) where
    -- what is read with a signature, and the signature with the definitions that it makes
    abbrev pub Reads : Signature → Reading → Type 0
    Reads s r = IsReadableWhole r.term × Good (with_definitions s r.made)

    abbrev ReadsAll : Signature → Readings → Type 0
    ReadsAll s r = Each r.terms × Good (with_definitions s r.made)

    abbrev ReadsBound : Signature → Bindings → Type 0
    ReadsBound s r = EachBound r.bound × Good (with_definitions s r.made)

    mutual
      unfolding reading readings let_reading bindings_reading annotated_reading

      -- a text where bound names and definitions stand for such terms
      pub text_readable : (s : Signature) (b : Bound) (t : Tree) (r : Reading) → reading w s b t ≡ Ok r → Good s → EachBound b → Reads s r
      text_readable s b (atom at k n) r e h bound =
          let a = went _ _ _ e in
          subst (Reads s) (answer (Ok (plain_reading a.first)) r a.then) (atom_readable s b at k n a.first a.was h bound, with_none Good s h)
      text_readable s b (list at none end) r e h bound = absurd (answer (refused at BadShape) r e)
      text_readable s b (list at (more head us) end) r e h bound = go (form head us) (texts_readable s b us) (let_readable s b at us) (annotated_readable s b at us) e
        where
          go : (f : Form)
              → ((rs : Readings) → readings w s b us ≡ Ok rs → Good s → EachBound b → ReadsAll s rs)
              → ((r : Reading) → let_reading w s b at us ≡ Ok r → Good s → EachBound b → Reads s r)
              → ((r : Reading) → annotated_reading w s b at us ≡ Ok r → Good s → EachBound b → Reads s r)
              → by_form w s b at us f ≡ Ok r → Reads s r
          go malformed all one two e = absurd (answer (refused at BadShape) r e)
          go (reserved place) all one two e = absurd (answer (refused place Reserved) r e)
          go (applies place n) all one two e =
              let a = went _ _ _ e in
              let c = went _ _ _ a.then in
              let terms = all a.first a.was h bound in
              subst (Reads s) (answer (Ok _) r c.then) (applied_readable (with_definitions s a.first.made) b place n at a.first.terms _ c.was terms.1 bound terms.0, terms.1)
          go binds all one two e = one r e h bound
          go annotates all one two e = two r e h bound

      -- texts, one after the other
      texts_readable : (s : Signature) (b : Bound) (ts : Trees) (r : Readings) → readings w s b ts ≡ Ok r → Good s → EachBound b → ReadsAll s r
      texts_readable s b none r e h bound = subst (ReadsAll s) (answer (Ok _) r e) (tt, with_none Good s h)
      texts_readable s b (more t ts) r e h bound =
          let a = went _ _ _ e in
          let c = went _ _ _ a.then in
          let one = text_readable s b t a.first a.was h bound in
          let rest = texts_readable (with_definitions s a.first.made) b ts c.first c.was one.1 bound in
          subst (ReadsAll s) (answer (Ok _) r c.then) ((one.0, rest.0), with_two Good s a.first.made c.first.made rest.1)

      -- a body under bindings
      let_readable : (s : Signature) (b : Bound) (at : ℕ) (ts : Trees) (r : Reading) → let_reading w s b at ts ≡ Ok r → Good s → EachBound b → Reads s r
      let_readable s b at (more (list place bindings end) (more body none)) r e h bound =
          let a = went _ _ _ e in
          let c = went _ _ _ a.then in
          let names = bindings_readable s b [] bindings a.first a.was h bound in
          let rest = text_readable (with_definitions s a.first.made) (a.first.bound ++ b) body c.first c.was names.1 (append_each (λ (p : Name × Term). IsReadableWhole p.1) a.first.bound b names.0 bound) in
          subst (Reads s) (answer (Ok _) r c.then) (rest.0, with_two Good s a.first.made c.first.made rest.1)
      let_readable s b at _ r e h bound = absurd (answer (refused at BadShape) r e)

      -- bindings
      bindings_readable : (s : Signature) (b : Bound) (names : List Name) (ts : Trees) (r : Bindings) → bindings_reading w s b names ts ≡ Ok r → Good s → EachBound b → ReadsBound s r
      bindings_readable s b names (more (list at (more (atom x k n) (more t none)) end) rest) r e h bound =
          let a = went _ _ _ e in
          let c = went _ _ _ a.then in
          let d = went _ _ _ c.then in
          let one = text_readable s b t c.first c.was h bound in
          let others = bindings_readable (with_definitions s c.first.made) b (names ++ a.first ∷ []) rest d.first d.was one.1 bound in
          subst (ReadsBound s) (answer (Ok _) r d.then) ((one.0, others.0), with_two Good s c.first.made d.first.made others.1)
      bindings_readable s b names _ r e h bound = subst (ReadsBound s) (answer (Ok _) r e) (tt, with_none Good s h)

      -- a term with attributes
      annotated_readable : (s : Signature) (b : Bound) (at : ℕ) (ts : Trees) (r : Reading) → annotated_reading w s b at ts ≡ Ok r → Good s → EachBound b → Reads s r
      annotated_readable s b at none r e h bound = absurd (answer (refused at BadShape) r e)
      annotated_readable s b at (more t attributes) r e h bound =
          let a = went _ _ _ e in
          let c = went _ _ _ a.then in
          let one = text_readable s b t a.first a.was h bound in
          let names = made_good w (with_definitions s a.first.made) (annotated_as w b at t a.first.term) (named_words a_keyword attributes) c.first c.was one.0 one.1 in
          subst (Reads s) (answer (Ok _) r c.then) (one.0, with_two Good s a.first.made c.first names)

  -- parameters stand for themselves
  parameters_readable : (k : ℕ) (ps : List (Name × Sort)) → EachBound (bound_parameters k ps)
  parameters_readable k [] = tt
  parameters_readable k (p ∷ ps) = (before (Parameter k p.1) [] tt tt tt, parameters_readable (suc k) ps)

  -- a definition, with those that its body makes
  pub definition_readable : (w : Setting) (s : Signature) (d : Parts) (ds : List Definition) → definitions_in w s d ≡ Ok ds → Good s → Good (with_definitions s ds)
  unfolding definitions_in
  definition_readable w s d ds e h =
      let n = went _ _ _ e in
      let ps = went _ _ _ n.then in
      let result = went _ _ _ ps.then in
      let r = went _ _ _ result.then in
      let x = went _ _ _ r.was in
      let y = went _ _ _ x.then in
      let v : Setting = record w { own = Some n.first } in
      let b = bound_parameters 0 ps.first in
      let read = subst (λ z. reading v s b d.body ≡ Ok z) (answer (Ok x.first) r.first y.then) x.was in
      let body = text_readable v s b d.body r.first read h (parameters_readable 0 ps.first) in
      let this : Definition = record { name = n.first; parameters = ps.first; result = result.first; body = d.body; term = r.first.term } in
      subst (λ z. Good (with_definitions s z)) (answer (Ok _) ds r.then) (with_two Good s r.first.made (this ∷ []) (good_last (with_definitions s r.first.made) this body.1 body.0))
