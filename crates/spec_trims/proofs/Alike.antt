-- A text is read alike where names that it does not mention are gone.
use Rattle.std.proofs.Common.{◌≡◌, ℕ, Bool, true, false, not, ◌||◌, List, [], ◌∷◌, ◌++◌, map, Option, Some, None, cond, refl, sym, ap, ap₂, ◌∙◌}
use Rattle.std.specs.Prelude.{Ok}
use Rattle.std.specs.Str.{bytes_eq}
use Rattle.std.proofs.lemmas.Bool.{false≢true}
use Rattle.spec_text.specs.declared.Kind.{Kind}
use Rattle.spec_text.specs.declared.Kind.TheVariants.{Numeral, Decimal, Text, Simple, Quoted, Reserved, Keyword}
use Rattle.spec_text.specs.Bytes.{Name, among}
use Rattle.spec_text.specs.Shapes.{Word}
use Rattle.spec_text.specs.Answers.{◌>>=◌, require}
use Rattle.spec_text.specs.Trees.{Tree, Trees, atom, list, none, more}
use Rattle.spec_text.proofs.AnswerLaws.{answer, went, joined, require_true}
use Rattle.spec_sorts.specs.Terms.{Term}
use Rattle.spec_sorts.specs.Theory.{look_up, theory, is_of_theory}
use Rattle.spec_sorts.specs.Signatures.{Definition, Known, of_sort, of_function, known_name, Signature, known_as, is_some, definition, with_definitions}
use Rattle.spec_sorts.specs.Forms.{Form, malformed, reserved, applies, binds, annotates, form, a_keyword, named_words}
use Rattle.spec_reading.specs.Names.{Setting, new_name, is_function, is_own, is_in_list, is_mentioned, names_bound, without, mentions, any_mentions, first_mentions, let_mentions, binding_mentions}
use Rattle.spec_reading.specs.Reading.{Bound, Reading, Readings, Bindings, plain_reading, applied_as, applied, atom_term, Annotated, naming, made_by, bound_names, annotated_as, reading, readings, let_reading, bindings_reading, annotated_reading}
use Rattle.spec_reading.proofs.Values.{new_name_is, by_form}
use Rattle.spec_reading.proofs.Closed.{neither_of, still_among}

-- what one signature says of names, another says: but for those that are gone, or bound
abbrev pub Agree : List Name → Signature → Signature → Bound → Type 0
Agree gone s u b = (n : Name) → among gone n ≡ false → look_up b n ≡ None → known_as u n ≡ known_as s n

-- it has no more names
abbrev pub Fewer : Signature → Signature → Type 0
Fewer s u = (n : Name) → known_as s n ≡ None → known_as u n ≡ None

abbrev pub or_else : Option Known → Option Known → Option Known
or_else (Some k) y = Some k
or_else None y = y

pub known_both : (s t : Signature) (n : Name) → known_as (s ++ t) n ≡ or_else (known_as s n) (known_as t n)
known_both [] t n = refl
known_both (of_sort m o ∷ s) t n = known_both s t n
known_both (of_function k ∷ s) t n = by (bytes_eq (known_name k) n) (known_both s t n)
  where
    by : (q : Bool) → known_as (s ++ t) n ≡ or_else (known_as s n) (known_as t n) → cond q (Some k) (known_as (s ++ t) n) ≡ or_else (cond q (Some k) (known_as s n)) (known_as t n)
    by true h = refl
    by false h = h

pub agree_more : (gone : List Name) (s u : Signature) (b : Bound) (ds : List Definition) → Agree gone s u b → Agree gone (with_definitions s ds) (with_definitions u ds) b
agree_more gone s u b ds a n h l = known_both u (map definition ds) n ∙ ap (λ x. or_else x (known_as (map definition ds) n)) (a n h l) ∙ sym (known_both s (map definition ds) n)

pub none_both : (x y : Option Known) → or_else x y ≡ None → (x ≡ None) × (y ≡ None)
none_both (Some k) y h = absurd (cc)
none_both None y h = (refl, h)

pub fewer_more : (s u : Signature) (ds : List Definition) → Fewer s u → Fewer (with_definitions s ds) (with_definitions u ds)
fewer_more s u ds f n h =
    let k = none_both (known_as s n) (known_as (map definition ds) n) (sym (known_both s (map definition ds) n) ∙ h) in
    known_both u (map definition ds) n ∙ ap (λ x. or_else x (known_as (map definition ds) n)) (f n k.0) ∙ k.1

applied_same : (gone : List Name) (s u : Signature) (b : Bound) (place : ℕ) (n : Name) (at : ℕ) (ts : List Term) → among gone n ≡ false → Agree gone s u b → applied u b place n at ts ≡ applied s b place n at ts
applied_same gone s u b place n at ts h a = by (look_up b n) refl
  where
    by : (o : Option Term) → look_up b n ≡ o → applied_as o (look_up theory n) (known_as u n) place at ts ≡ applied_as o (look_up theory n) (known_as s n) place at ts
    by (Some t) e = refl
    by None e = ap (λ k. applied_as None (look_up theory n) k place at ts) (a n h e)

atom_same : (gone : List Name) (s u : Signature) (b : Bound) (at : ℕ) (k : Kind) (n : Name) → is_mentioned gone k n ≡ false → Agree gone s u b → atom_term u b at k n ≡ atom_term s b at k n
atom_same gone s u b at Numeral n h a = refl
atom_same gone s u b at Decimal n h a = refl
atom_same gone s u b at Simple n h a = applied_same gone s u b at n at [] h a
atom_same gone s u b at Quoted n h a = applied_same gone s u b at n at [] h a
atom_same gone s u b at Text n h a = refl
atom_same gone s u b at Reserved n h a = refl
atom_same gone s u b at Keyword n h a = refl

-- what is not taken is not taken where fewer names are
free_too : (w : Setting) (s u : Signature) (n : Name) → Fewer s u → not (is_function s n || is_own w.own n) ≡ true → not (is_function u n || is_own w.own n) ≡ true
free_too w s u n f h = by (is_of_theory n) (known_as s n) refl h
  where
    by : (q : Bool) (o : Option Known) → known_as s n ≡ o → not ((q || is_some o) || is_own w.own n) ≡ true → not ((q || is_some (known_as u n)) || is_own w.own n) ≡ true
    by true o e h = h
    by false (Some k) e h = absurd (cc)
    by false None e h = ap (λ o. not ((false || is_some o) || is_own w.own n)) (f n e) ∙ h

pub require_passes : (b : Bool) (at : ℕ) (f : _) → b ≡ true → require b at f ≡ Ok tt
unfolding require
require_passes true at f h = refl
require_passes false at f h = absurd (false≢true h)

name_too : (w : Setting) (s u : Signature) (x : Word) (n : Name) → Fewer s u → new_name w (λ m. is_function s m || is_own w.own m) x ≡ Ok n → new_name w (λ m. is_function u m || is_own w.own m) x ≡ Ok n
name_too w s u x n f e =
    let p = went _ _ _ e in
    let q = went _ _ _ p.then in
    joined _ _ p.first n p.was (joined _ _ tt n (require_passes _ _ _ (free_too w s u x.bytes f (require_true _ _ _ q.first q.was))) q.then)

made_too : (w : Setting) (s u : Signature) (t : Annotated) (xs : List Word) (ds : List Definition) → Fewer s u → made_by w s t xs ≡ Ok ds → made_by w u t xs ≡ Ok ds
unfolding made_by
made_too w s u t [] ds f e = e
made_too w s u t (x ∷ xs) ds f e =
    let p = went _ _ _ e in
    let q = went _ _ _ p.then in
    let d = went _ _ _ q.then in
    joined _ _ p.first ds (name_too w s u x p.first f p.was)
    (joined _ _ q.first ds q.was
    (joined _ _ d.first ds (made_too w (with_definitions s (naming p.first t ∷ [])) (with_definitions u (naming p.first t ∷ [])) t xs d.first (fewer_more s u (naming p.first t ∷ []) f) d.was) d.then))

-- bindings have the names that they are written with
names_are : (w : Setting) (s : Signature) (b : Bound) (names : List Name) (ts : Trees) (r : Bindings) → bindings_reading w s b names ts ≡ Ok r → bound_names r.bound ≡ names_bound ts
unfolding bindings_reading
names_are w s b names (more (list at (more (atom x k n) (more t none)) end) rest) r e =
    let p = went _ _ _ e in
    let q = went _ _ _ p.then in
    let d = went _ _ _ q.then in
    ap (λ (y : Bindings). bound_names y.bound) (sym (answer (Ok _) r d.then))
    ∙ ap₂ (λ (m : Name) (ms : List Name). m ∷ ms) (sym (new_name_is w (is_in_list names) _ p.first p.was)) (names_are w (with_definitions s q.first.made) b (names ++ p.first ∷ []) rest d.first d.was)
names_are w s b names _ r e = ap (λ (y : Bindings). bound_names y.bound) (sym (answer (Ok _) r e))

-- what is not found is none of the names, and not found after them
unfound : (xs b : Bound) (n : Name) → look_up (xs ++ b) n ≡ None → (among (bound_names xs) n ≡ false) × (look_up b n ≡ None)
unfound [] b n h = (refl, h)
unfound (x ∷ xs) b n h = by (bytes_eq x.0 n) (unfound xs b n) h
  where
    by : (q : Bool) → (look_up (xs ++ b) n ≡ None → (among (bound_names xs) n ≡ false) × (look_up b n ≡ None)) → cond q (Some x.1) (look_up (xs ++ b) n) ≡ None → ((q || among (bound_names xs) n) ≡ false) × (look_up b n ≡ None)
    by true g h = absurd (cc)
    by false g h = g h

agree_under : (gone : List Name) (s u : Signature) (b : Bound) (xs : Bound) (names : List Name) → bound_names xs ≡ names → Agree gone s u b → Agree (without gone names) s u (xs ++ b)
agree_under gone s u b xs names e a n h l =
    let k = unfound xs b n l in
    a n (still_among gone names n h (ap (λ ms. among ms n) (sym e) ∙ k.0)) k.1

module _ (w : Setting) where
  mutual
    unfolding reading readings let_reading bindings_reading annotated_reading mentions any_mentions first_mentions let_mentions binding_mentions

    -- a text
    pub alike : (gone : List Name) (s u : Signature) (b : Bound) (t : Tree) (r : Reading) → mentions gone t ≡ false → Agree gone s u b → Fewer s u → reading w s b t ≡ Ok r → reading w u b t ≡ Ok r
    alike gone s u b (atom at k n) r h a f e = ap (λ x. x >>= λ t. Ok (plain_reading t)) (atom_same gone s u b at k n h a) ∙ e
    alike gone s u b (list at none end) r h a f e = e
    alike gone s u b (list at (more head us) end) r h a f e = go (form head us) h (all_alike gone s u b us) (let_alike gone s u b at us) (annotated_alike gone s u b at us) e
      where
        go : (q : Form)
            → elim q [ applies place n ↦ among gone n || any_mentions gone us | binds ↦ let_mentions gone us | annotates ↦ first_mentions gone us | _ ↦ false ] ≡ false
            → ((rs : Readings) → any_mentions gone us ≡ false → Agree gone s u b → Fewer s u → readings w s b us ≡ Ok rs → readings w u b us ≡ Ok rs)
            → ((r : Reading) → let_mentions gone us ≡ false → Agree gone s u b → Fewer s u → let_reading w s b at us ≡ Ok r → let_reading w u b at us ≡ Ok r)
            → ((r : Reading) → first_mentions gone us ≡ false → Agree gone s u b → Fewer s u → annotated_reading w s b at us ≡ Ok r → annotated_reading w u b at us ≡ Ok r)
            → by_form w s b at us q ≡ Ok r → by_form w u b at us q ≡ Ok r
        go malformed h x y z e = e
        go (reserved p) h x y z e = e
        go (applies p n) h x y z e =
            let k = neither_of (among gone n) (any_mentions gone us) h in
            let c = went _ _ _ e in
            let d = went _ _ _ c.then in
            joined _ _ c.first r (x c.first k.two a f c.was)
            (joined _ _ d.first r (applied_same gone (with_definitions s c.first.made) (with_definitions u c.first.made) b p n at c.first.terms k.one (agree_more gone s u b c.first.made a) ∙ d.was) d.then)
        go binds h x y z e = y r h a f e
        go annotates h x y z e = z r h a f e

    -- several
    all_alike : (gone : List Name) (s u : Signature) (b : Bound) (ts : Trees) (r : Readings) → any_mentions gone ts ≡ false → Agree gone s u b → Fewer s u → readings w s b ts ≡ Ok r → readings w u b ts ≡ Ok r
    all_alike gone s u b none r h a f e = e
    all_alike gone s u b (more t ts) r h a f e =
        let k = neither_of (mentions gone t) (any_mentions gone ts) h in
        let p = went _ _ _ e in
        let q = went _ _ _ p.then in
        joined _ _ p.first r (alike gone s u b t p.first k.one a f p.was)
        (joined _ _ q.first r (all_alike gone (with_definitions s p.first.made) (with_definitions u p.first.made) b ts q.first k.two (agree_more gone s u b p.first.made a) (fewer_more s u p.first.made f) q.was) q.then)

    -- a body under bindings
    let_alike : (gone : List Name) (s u : Signature) (b : Bound) (at : ℕ) (ts : Trees) (r : Reading) → let_mentions gone ts ≡ false → Agree gone s u b → Fewer s u → let_reading w s b at ts ≡ Ok r → let_reading w u b at ts ≡ Ok r
    let_alike gone s u b at (more (list place bindings end) (more body none)) r h a f e =
        let k = neither_of (binding_mentions gone bindings) (mentions (without gone (names_bound bindings)) body) h in
        let p = went _ _ _ e in
        let q = went _ _ _ p.then in
        joined _ _ p.first r (bindings_alike gone s u b [] bindings p.first k.one a f p.was)
        (joined _ _ q.first r
        (alike (without gone (names_bound bindings)) (with_definitions s p.first.made) (with_definitions u p.first.made) (p.first.bound ++ b) body q.first k.two
        (agree_under gone (with_definitions s p.first.made) (with_definitions u p.first.made) b p.first.bound (names_bound bindings) (names_are w s b [] bindings p.first p.was) (agree_more gone s u b p.first.made a))
        (fewer_more s u p.first.made f) q.was) q.then)
    let_alike gone s u b at _ r h a f e = e

    -- bindings
    bindings_alike : (gone : List Name) (s u : Signature) (b : Bound) (names : List Name) (ts : Trees) (r : Bindings) → binding_mentions gone ts ≡ false → Agree gone s u b → Fewer s u → bindings_reading w s b names ts ≡ Ok r → bindings_reading w u b names ts ≡ Ok r
    bindings_alike gone s u b names (more (list at (more (atom x k n) (more t none)) end) rest) r h a f e =
        let j = neither_of (mentions gone t) (binding_mentions gone rest) h in
        let p = went _ _ _ e in
        let q = went _ _ _ p.then in
        let d = went _ _ _ q.then in
        joined _ _ p.first r p.was
        (joined _ _ q.first r (alike gone s u b t q.first j.one a f q.was)
        (joined _ _ d.first r (bindings_alike gone (with_definitions s q.first.made) (with_definitions u q.first.made) b (names ++ p.first ∷ []) rest d.first j.two (agree_more gone s u b q.first.made a) (fewer_more s u q.first.made f) d.was) d.then))
    bindings_alike gone s u b names _ r h a f e = e

    -- a term with attributes
    annotated_alike : (gone : List Name) (s u : Signature) (b : Bound) (at : ℕ) (ts : Trees) (r : Reading) → first_mentions gone ts ≡ false → Agree gone s u b → Fewer s u → annotated_reading w s b at ts ≡ Ok r → annotated_reading w u b at ts ≡ Ok r
    annotated_alike gone s u b at none r h a f e = e
    annotated_alike gone s u b at (more t attributes) r h a f e =
        let p = went _ _ _ e in
        let q = went _ _ _ p.then in
        joined _ _ p.first r (alike gone s u b t p.first h a f p.was)
        (joined _ _ q.first r (made_too w (with_definitions s p.first.made) (with_definitions u p.first.made) (annotated_as w b at t p.first.term) (named_words a_keyword attributes) q.first (fewer_more s u p.first.made f) q.was) q.then)
