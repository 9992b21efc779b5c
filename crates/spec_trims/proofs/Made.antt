-- The names that a text makes by its shape are those of the definitions that it is read with.
use Rattle.std.proofs.Common.{◌≡◌, ℕ, ◌||◌, List, [], ◌∷◌, ◌++◌, sym, ap, ap₂, ◌∙◌}
use Rattle.std.specs.Prelude.{Ok}
use Rattle.std.proofs.lemmas.List.{map-append}
use Rattle.spec_text.specs.declared.Fault.TheVariants.{BadShape, Reserved}
use Rattle.spec_text.specs.Bytes.{Name}
use Rattle.spec_text.specs.Shapes.{Word}
use Rattle.spec_text.specs.Answers.{refused}
use Rattle.spec_text.specs.Trees.{Tree, Trees, atom, list, none, more}
use Rattle.spec_text.proofs.AnswerLaws.{answer, went}
use Rattle.spec_sorts.specs.Signatures.{Definition, Signature, with_definitions}
use Rattle.spec_sorts.specs.Forms.{Form, malformed, reserved, applies, binds, annotates, form, a_keyword, named_words}
use Rattle.spec_reading.specs.Names.{Setting, is_function, is_own}
use Rattle.spec_reading.specs.Reading.{Bound, Reading, Readings, Bindings, naming, Annotated, made_by, annotated_as, reading, readings, let_reading, bindings_reading, annotated_reading}
use Rattle.spec_reading.proofs.Values.{new_name_is, by_form}
use Rattle.spec_trims.specs.Trims.{names_of, names_made, names_made_in, let_made, bindings_made, annotated_made, definition_names}

-- the names of two lists of definitions
pub both_names : (cs ds : List Definition) (ms ns : List Name) → definition_names cs ≡ ms → definition_names ds ≡ ns → definition_names (cs ++ ds) ≡ ms ++ ns
both_names cs ds ms ns e f = map-append (λ (d : Definition). d.name) cs ds ∙ ap₂ (λ (x y : List Name). x ++ y) e f

-- those of `:named`
words_made : (w : Setting) (s : Signature) (t : Annotated) (xs : List Word) (ds : List Definition) → made_by w s t xs ≡ Ok ds → definition_names ds ≡ names_of xs
unfolding made_by
words_made w s t [] ds e = ap definition_names (sym (answer (Ok []) ds e))
words_made w s t (x ∷ xs) ds e =
    let p = went _ _ _ e in
    let q = went _ _ _ p.then in
    let d = went _ _ _ q.then in
    ap definition_names (sym (answer (Ok _) ds d.then))
    ∙ ap₂ (λ (m : Name) (ms : List Name). m ∷ ms) (sym (new_name_is w (λ n. is_function s n || is_own w.own n) x p.first p.was)) (words_made w (with_definitions s (naming p.first t ∷ [])) t xs d.first d.was)

module _ (w : Setting) where
  mutual
    unfolding reading readings let_reading bindings_reading annotated_reading names_made names_made_in let_made bindings_made annotated_made

    -- a text
    pub made : (s : Signature) (b : Bound) (t : Tree) (r : Reading) → reading w s b t ≡ Ok r → definition_names r.made ≡ names_made t
    made s b (atom at k n) r e = let a = went _ _ _ e in ap (λ (x : Reading). definition_names x.made) (sym (answer (Ok _) r a.then))
    made s b (list at none end) r e = absurd (answer (refused at BadShape) r e)
    made s b (list at (more head us) end) r e = go (form head us) (made_all s b us) (made_let s b at us) (made_annotated s b at us) e
      where
        go : (q : Form)
            → ((rs : Readings) → readings w s b us ≡ Ok rs → definition_names rs.made ≡ names_made_in us)
            → ((r : Reading) → let_reading w s b at us ≡ Ok r → definition_names r.made ≡ let_made us)
            → ((r : Reading) → annotated_reading w s b at us ≡ Ok r → definition_names r.made ≡ annotated_made us)
            → by_form w s b at us q ≡ Ok r
            → definition_names r.made ≡ elim q [ applies place n ↦ names_made_in us | binds ↦ let_made us | annotates ↦ annotated_made us | _ ↦ [] ]
        go malformed x y z e = absurd (answer (refused at BadShape) r e)
        go (reserved p) x y z e = absurd (answer (refused p Reserved) r e)
        go (applies p n) x y z e =
            let c = went _ _ _ e in
            let d = went _ _ _ c.then in
            ap (λ (x : Reading). definition_names x.made) (sym (answer (Ok _) r d.then)) ∙ x c.first c.was
        go binds x y z e = y r e
        go annotates x y z e = z r e

    -- several
    pub made_all : (s : Signature) (b : Bound) (ts : Trees) (r : Readings) → readings w s b ts ≡ Ok r → definition_names r.made ≡ names_made_in ts
    made_all s b none r e = ap (λ (x : Readings). definition_names x.made) (sym (answer (Ok _) r e))
    made_all s b (more t ts) r e =
        let p = went _ _ _ e in
        let q = went _ _ _ p.then in
        ap (λ (x : Readings). definition_names x.made) (sym (answer (Ok _) r q.then))
        ∙ both_names p.first.made q.first.made (names_made t) (names_made_in ts) (made s b t p.first p.was) (made_all (with_definitions s p.first.made) b ts q.first q.was)

    -- a body under bindings
    made_let : (s : Signature) (b : Bound) (at : ℕ) (ts : Trees) (r : Reading) → let_reading w s b at ts ≡ Ok r → definition_names r.made ≡ let_made ts
    made_let s b at (more (list place bindings end) (more body none)) r e =
        let p = went _ _ _ e in
        let q = went _ _ _ p.then in
        ap (λ (x : Reading). definition_names x.made) (sym (answer (Ok _) r q.then))
        ∙ both_names p.first.made q.first.made (bindings_made bindings) (names_made body) (made_bindings s b [] bindings p.first p.was) (made (with_definitions s p.first.made) (p.first.bound ++ b) body q.first q.was)
    made_let s b at _ r e = absurd (answer (refused at BadShape) r e)

    -- bindings
    made_bindings : (s : Signature) (b : Bound) (names : List Name) (ts : Trees) (r : Bindings) → bindings_reading w s b names ts ≡ Ok r → definition_names r.made ≡ bindings_made ts
    made_bindings s b names (more (list at (more (atom x k n) (more t none)) end) rest) r e =
        let p = went _ _ _ e in
        let q = went _ _ _ p.then in
        let d = went _ _ _ q.then in
        ap (λ (y : Bindings). definition_names y.made) (sym (answer (Ok _) r d.then))
        ∙ both_names q.first.made d.first.made (names_made t) (bindings_made rest) (made s b t q.first q.was) (made_bindings (with_definitions s q.first.made) b (names ++ p.first ∷ []) rest d.first d.was)
    made_bindings s b names _ r e = ap (λ (y : Bindings). definition_names y.made) (sym (answer (Ok _) r e))

    -- a term with attributes
    made_annotated : (s : Signature) (b : Bound) (at : ℕ) (ts : Trees) (r : Reading) → annotated_reading w s b at ts ≡ Ok r → definition_names r.made ≡ annotated_made ts
    made_annotated s b at none r e = absurd (answer (refused at BadShape) r e)
    made_annotated s b at (more t attributes) r e =
        let p = went _ _ _ e in
        let q = went _ _ _ p.then in
        ap (λ (x : Reading). definition_names x.made) (sym (answer (Ok _) r q.then))
        ∙ both_names p.first.made q.first (names_made t) (names_of (named_words a_keyword attributes)) (made s b t p.first p.was)
        (words_made w (with_definitions s p.first.made) (annotated_as w b at t p.first.term) (named_words a_keyword attributes) q.first q.was)
