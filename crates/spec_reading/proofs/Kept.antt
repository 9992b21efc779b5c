-- What each definition that `:named` makes keeps of a signature, a whole text keeps.
use Rattle.std.proofs.Common.{◌≡◌, ℕ, List, [], ◌∷◌, ◌++◌, sym, subst}
use Rattle.std.specs.Prelude.{Ok}
use Rattle.std.proofs.lemmas.List.{append-nil}
use Rattle.spec_text.specs.declared.Fault.TheVariants.{BadShape, Reserved}
use Rattle.spec_text.specs.Bytes.{Name}
use Rattle.spec_text.specs.Shapes.{Word}
use Rattle.spec_text.specs.Answers.{refused}
use Rattle.spec_text.specs.Trees.{Tree, Trees, atom, list, none, more}
use Rattle.spec_text.proofs.AnswerLaws.{answer, went}
use Rattle.spec_sorts.specs.Signatures.{Definition, Signature, with_definitions}
use Rattle.spec_sorts.specs.Forms.{Form, malformed, reserved, applies, binds, annotates, form, a_keyword, named_words}
use Rattle.spec_reading.specs.Names.{Setting}
use Rattle.spec_reading.specs.Reading.{Bound, Reading, Readings, Bindings, plain_reading, made_by, annotated_as, reading, readings, let_reading, bindings_reading, annotated_reading}
use Rattle.spec_reading.proofs.Values.{with_both, by_form}

module _ (P : Signature → Type 0) where
  -- no definitions more
  pub with_none : (s : Signature) → P s → P (with_definitions s [])
  with_none s h = subst P (sym (append-nil s)) h

  -- definitions in two parts
  pub with_two : (s : Signature) (a b : List Definition) → P (with_definitions (with_definitions s a) b) → P (with_definitions s (a ++ b))
  with_two s a b h = subst P (sym (with_both s a b)) h

-- the names that attributes make of a text that was read keep a property of signatures
abbrev pub MadeKeep : Setting → (Signature → Type 0) → Type 0
MadeKeep w P =
    (s : Signature) (b : Bound) (at : ℕ) (t : Tree) (r : Reading) → reading w s b t ≡ Ok r
    → (xs : List Word) (ds : List Definition) → made_by w (with_definitions s r.made) (annotated_as w b at t r.term) xs ≡ Ok ds
    → P (with_definitions s r.made) → P (with_definitions (with_definitions s r.made) ds)

module _ (w : Setting) (P : Signature → Type 0) (made_keep : MadeKeep w P) where
  mutual
    unfolding reading readings let_reading bindings_reading annotated_reading

    -- a signature with the definitions that a text makes has the property that it had
    pub text_keeps : (s : Signature) (b : Bound) (t : Tree) (r : Reading) → reading w s b t ≡ Ok r → P s → P (with_definitions s r.made)
    text_keeps s b (atom at k n) r e a = let p = went _ _ _ e in subst (λ (x : Reading). P (with_definitions s x.made)) (answer (Ok (plain_reading p.first)) r p.then) (with_none P s a)
    text_keeps s b (list at none end) r e a = absurd (answer (refused at BadShape) r e)
    text_keeps s b (list at (more head us) end) r e a = go (form head us) (texts_keep s b us) (let_keeps s b at us) (annotated_keeps s b at us) e
      where
        go : (f : Form)
            → ((rs : Readings) → readings w s b us ≡ Ok rs → P s → P (with_definitions s rs.made))
            → ((r : Reading) → let_reading w s b at us ≡ Ok r → P s → P (with_definitions s r.made))
            → ((r : Reading) → annotated_reading w s b at us ≡ Ok r → P s → P (with_definitions s r.made))
            → by_form w s b at us f ≡ Ok r → P (with_definitions s r.made)
        go malformed x y z e = absurd (answer (refused at BadShape) r e)
        go (reserved p) x y z e = absurd (answer (refused p Reserved) r e)
        go (applies p n) x y z e =
            let p = went _ _ _ e in
            let q = went _ _ _ p.then in
            subst (λ (x : Reading). P (with_definitions s x.made)) (answer (Ok _) r q.then) (x p.first p.was a)
        go binds x y z e = y r e a
        go annotates x y z e = z r e a

    -- and those that several make
    pub texts_keep : (s : Signature) (b : Bound) (ts : Trees) (r : Readings) → readings w s b ts ≡ Ok r → P s → P (with_definitions s r.made)
    texts_keep s b none r e a = subst (λ (x : Readings). P (with_definitions s x.made)) (answer (Ok _) r e) (with_none P s a)
    texts_keep s b (more t ts) r e a =
        let p = went _ _ _ e in
        let q = went _ _ _ p.then in
        subst (λ (x : Readings). P (with_definitions s x.made)) (answer (Ok _) r q.then)
        (with_two P s p.first.made q.first.made (texts_keep (with_definitions s p.first.made) b ts q.first q.was (text_keeps s b t p.first p.was a)))

    -- and those of a body under bindings
    let_keeps : (s : Signature) (b : Bound) (at : ℕ) (ts : Trees) (r : Reading) → let_reading w s b at ts ≡ Ok r → P s → P (with_definitions s r.made)
    let_keeps s b at (more (list place bindings end) (more body none)) r e a =
        let p = went _ _ _ e in
        let q = went _ _ _ p.then in
        subst (λ (x : Reading). P (with_definitions s x.made)) (answer (Ok _) r q.then)
        (with_two P s p.first.made q.first.made (text_keeps (with_definitions s p.first.made) (p.first.bound ++ b) body q.first q.was (bindings_keep s b [] bindings p.first p.was a)))
    let_keeps s b at _ r e a = absurd (answer (refused at BadShape) r e)

    -- and those of bindings
    bindings_keep : (s : Signature) (b : Bound) (names : List Name) (ts : Trees) (r : Bindings) → bindings_reading w s b names ts ≡ Ok r → P s → P (with_definitions s r.made)
    bindings_keep s b names (more (list at (more (atom x k n) (more t none)) end) rest) r e a =
        let p = went _ _ _ e in
        let q = went _ _ _ p.then in
        let d = went _ _ _ q.then in
        subst (λ (x : Bindings). P (with_definitions s x.made)) (answer (Ok _) r d.then)
        (with_two P s q.first.made d.first.made (bindings_keep (with_definitions s q.first.made) b (names ++ p.first ∷ []) rest d.first d.was (text_keeps s b t q.first q.was a)))
    bindings_keep s b names _ r e a = subst (λ (x : Bindings). P (with_definitions s x.made)) (answer (Ok _) r e) (with_none P s a)

    -- and those of a term with attributes
    annotated_keeps : (s : Signature) (b : Bound) (at : ℕ) (ts : Trees) (r : Reading) → annotated_reading w s b at ts ≡ Ok r → P s → P (with_definitions s r.made)
    annotated_keeps s b at none r e a = absurd (answer (refused at BadShape) r e)
    annotated_keeps s b at (more t attributes) r e a =
        let p = went _ _ _ e in
        let q = went _ _ _ p.then in
        subst (λ (x : Reading). P (with_definitions s x.made)) (answer (Ok _) r q.then)
        (with_two P s p.first.made q.first (made_keep s b at t p.first p.was (named_words a_keyword attributes) q.first q.was (text_keeps s b t p.first p.was a)))
