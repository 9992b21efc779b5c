-- What is known of a term, by what is known of its arguments.
use Rattle.std.proofs.Common.{◌≡◌, ℕ, List, [], ◌∷◌, ◌++◌, map, length, All, Result, Ok, Err, refl, sym, ◌∙◌, ap, subst, arith, length-append}
use Rattle.std.proofs.Math.Seq.{get_or-append_seam}
use Rattle.std.proofs.Math.ListN.{get_or-append}
use Rattle.std.proofs.lemmas.List.{map-append}
use Rattle.std.proofs.lemmas.List.Elements.{All-append, All-cons}
use Rattle.spec_text.specs.Answers.{◌>>=◌}
use Rattle.spec_numbers.specs.Bounds.{Overflow}
use Rattle.spec_sorts.specs.Terms.{Term, of, terms_of}
use Rattle.spec_arithmetic.specs.Forms.{Form, Fault, at_term, form_by, form, forms}
use Rattle.ratio128.specs.declared.wide.Wide.{Wide}
use Rattle.ratio128.specs.Meant.{overflow}
use Rattle.term_core.specs.declared.ids.TermId.{TermId}
use Rattle.term_core.specs.declared.nodes.Head.{Head}
use Rattle.term_core.specs.declared.nodes.Head.TheVariants as heads
use Rattle.term_core.specs.declared.nodes.Node.{Node}
use Rattle.term_core.specs.Tables.{TableView, term_at, clause_at, head_meant, node_term}
use Rattle.term_walks.specs.Orders.{numbers_of}
use Rattle.linear_form.specs.declared.known.KnownForm.{KnownForm}
use Rattle.linear_form.specs.declared.known.KnownForm.TheVariants as known
use Rattle.linear_form.specs.Meant.{FormView, form_meant, AreVariablesOf}
use Rattle.linear_form.specs.Making.{fault_meant, forms_meant, HaveVariables, with_front as forms_front}
use Rattle.linear_form.specs.Walks.{needed_by, IsKnown, KnownVariables, known_meant, AreKnownForms, gathered}

-- the forms of terms, or the first fault
abbrev pub forms_of : List Term → Result (List Form) Fault
forms_of us = forms (terms_of us)

-- the arguments of which a node's form is made
abbrev pub needed_of : Node → List TermId
needed_of n = needed_by n.head n.arguments.items

-- the form of a term by its head and its arguments' forms
by_parts : (t : TableView) (h : Head) (ids : List TermId) → (let u = of (head_meant t h) (clause_at t ids) in
    form u ≡ (forms_of (clause_at t (needed_by h ids)) >>= λ fs. at_term u (form_by u (head_meant t h) fs)))
unfolding form forms ◌>>=◌
by_parts t heads.Plus ids = refl
by_parts t heads.Times ids = refl
by_parts t heads.Minus ids = refl
by_parts t heads.Divide ids = refl
by_parts t heads.True ids = refl
by_parts t heads.False ids = refl
by_parts t heads.Not ids = refl
by_parts t heads.And ids = refl
by_parts t heads.Or ids = refl
by_parts t heads.Xor ids = refl
by_parts t heads.Implies ids = refl
by_parts t heads.Equal ids = refl
by_parts t heads.Ite ids = refl
by_parts t heads.Less ids = refl
by_parts t heads.AtMost ids = refl
by_parts t (heads.Literal q) ids = refl
by_parts t (heads.Apply s) ids = refl
by_parts t (heads.Parameter k s) ids = refl

form_parts : (t : TableView) (u : Term) (n : Node) → u ≡ node_term t n → form u ≡ (forms_of (map (term_at t) (needed_of n)) >>= λ fs. at_term u (form_by u (head_meant t n.head) fs))
form_parts t u n e = subst (λ u. form u ≡ (forms_of (map (term_at t) (needed_of n)) >>= λ fs. at_term u (form_by u (head_meant t n.head) fs))) (sym e) (by_parts t n.head n.arguments.items)

-- of a whole node
pub node_made : (t : TableView) (u : Term) (n : Node) (fs : List Form) (a : Result Form Overflow) → u ≡ node_term t n → forms_of (map (term_at t) (needed_of n)) ≡ Ok fs → form_by u (head_meant t n.head) fs ≡ a → form u ≡ at_term u a
unfolding ◌>>=◌
node_made t u n fs a e f g = form_parts t u n e ∙ ap (λ x. x >>= λ fs. at_term u (form_by u (head_meant t n.head) fs)) f ∙ ap (at_term u) g

pub node_fails : (t : TableView) (u : Term) (n : Node) (w : Fault) → u ≡ node_term t n → forms_of (map (term_at t) (needed_of n)) ≡ Err w → form u ≡ Err w
unfolding ◌>>=◌
node_fails t u n w e f = form_parts t u n e ∙ ap (λ x. x >>= λ fs. at_term u (form_by u (head_meant t n.head) fs)) f

pub known_as_form : (t : TableView) (id : TermId) (n : Node) (ids : List TermId) (fs : List FormView) (f : FormView) → term_at t id ≡ node_term t n → ids ≡ needed_of n
    → Ok (forms_meant t fs) ≡ forms_of (map (term_at t) ids) → form_by (term_at t id) (head_meant t n.head) (forms_meant t fs) ≡ Ok (form_meant t f) → AreVariablesOf t f → IsKnown t id.0 (known.Form f)
known_as_form t id n ids fs f e g k m names = record {
  same = sym (node_made t (term_at t id) n (forms_meant t fs) _ e (ap (λ l. forms_of (map (term_at t) l)) (sym g) ∙ sym k) m);
  there = names;
}

pub known_as_own : (t : TableView) (id : TermId) (n : Node) (ids : List TermId) (fs : List FormView) (w : Wide) → term_at t id ≡ node_term t n → ids ≡ needed_of n
    → Ok (forms_meant t fs) ≡ forms_of (map (term_at t) ids) → form_by (term_at t id) (head_meant t n.head) (forms_meant t fs) ≡ Err (overflow w) → IsKnown t id.0 (known.Wide id w)
known_as_own t id n ids fs w e g k m = record {
  same = sym (node_made t (term_at t id) n (forms_meant t fs) _ e (ap (λ l. forms_of (map (term_at t) l)) (sym g) ∙ sym k) m);
  there = tt;
}

pub known_as_argument : (t : TableView) (id : TermId) (n : Node) (ids : List TermId) (a : TermId) (w : Wide) → term_at t id ≡ node_term t n → ids ≡ needed_of n
    → (let r : Result (List Form) Fault = Err (fault_meant t a w) in r) ≡ forms_of (map (term_at t) ids) → IsKnown t id.0 (known.Wide a w)
known_as_argument t id n ids a w e g k = record {
  same = sym (node_fails t (term_at t id) n (fault_meant t a w) e (ap (λ l. forms_of (map (term_at t) l)) (sym g) ∙ sym k));
  there = tt;
}

front_nil : (r : Result (List Form) Fault) → forms_front [] r ≡ r
front_nil (Ok fs) = refl
front_nil (Err w) = refl

front_step : (f : Form) (r s : Result (List Form) Fault) → ((r >>= λ fs. forms_front fs s) >>= λ fs. Ok (f ∷ fs)) ≡ ((r >>= λ fs. Ok (f ∷ fs)) >>= λ fs. forms_front fs s)
unfolding ◌>>=◌
front_step f (Err w) s = refl
front_step f (Ok gs) (Ok hs) = refl
front_step f (Ok gs) (Err w) = refl

-- what comes before, and then the rest
gathered_parts : (xs ys : List (Result Form Fault)) → gathered (xs ++ ys) ≡ (gathered xs >>= λ fs. forms_front fs (gathered ys))
unfolding ◌>>=◌
gathered_parts [] ys = sym (front_nil (gathered ys))
gathered_parts (Err w ∷ xs) ys = refl
gathered_parts (Ok f ∷ xs) ys = ap (λ r. r >>= λ fs. Ok (f ∷ fs)) (gathered_parts xs ys) ∙ front_step f (gathered xs) (gathered ys)

gathered_after : (xs ys : List (Result Form Fault)) (fs : List Form) → gathered xs ≡ Ok fs → gathered (xs ++ ys) ≡ forms_front fs (gathered ys)
unfolding ◌>>=◌
gathered_after xs ys fs e = gathered_parts xs ys ∙ ap (λ r. r >>= λ fs. forms_front fs (gathered ys)) e

pub gathered_more : (t : TableView) (ys : List KnownForm) (fs gs : List FormView) (x : KnownForm) (f : FormView) → gathered (map (known_meant t) ys) ≡ Ok (forms_meant t fs) → x ≡ known.Form f → gs ≡ fs ++ f ∷ []
    → gathered (map (known_meant t) (ys ++ x ∷ [])) ≡ Ok (forms_meant t gs)
unfolding ◌>>=◌
gathered_more t ys fs gs x f h e n =
    ap gathered (map-append (known_meant t) ys (x ∷ [])) ∙ gathered_after (map (known_meant t) ys) (known_meant t x ∷ []) (forms_meant t fs) h
    ∙ ap (λ y. forms_front (forms_meant t fs) (gathered (known_meant t y ∷ []))) e ∙ ap Ok (sym (map-append (form_meant t) fs (f ∷ []))) ∙ ap (λ l. Ok (forms_meant t l)) (sym n)

pub gathered_stop : (t : TableView) (all ys rest : List KnownForm) (fs : List FormView) (x : KnownForm) (a : TermId) (w : Wide) → gathered (map (known_meant t) ys) ≡ Ok (forms_meant t fs) → x ≡ known.Wide a w → all ≡ ys ++ x ∷ rest
    → (let r : Result (List Form) Fault = Err (fault_meant t a w) in r) ≡ gathered (map (known_meant t) all)
unfolding ◌>>=◌
gathered_stop t all ys rest fs x a w h e split =
    sym (ap (λ l. gathered (map (known_meant t) l)) split ∙ ap gathered (map-append (known_meant t) ys (x ∷ rest)) ∙ gathered_after (map (known_meant t) ys) (known_meant t x ∷ map (known_meant t) rest) (forms_meant t fs) h
    ∙ ap (λ y. forms_front (forms_meant t fs) (gathered (known_meant t y ∷ map (known_meant t) rest))) e)

pub named_more : (t : TableView) (ys : List KnownForm) (fs gs : List FormView) (x : KnownForm) (f : FormView) → (All (KnownVariables t) ys → HaveVariables t fs) → x ≡ known.Form f → gs ≡ fs ++ f ∷ [] → All (KnownVariables t) (ys ++ x ∷ []) → HaveVariables t gs
named_more t ys fs gs x f h e n all =
    let last : KnownVariables t x = subst (KnownVariables t) (get_or-append_seam ys x [] x) (all (length ys) x (omega (arith, length-append ys (x ∷ [])))) in
    let front : All (KnownVariables t) ys = λ j d lt. subst (KnownVariables t) (get_or-append ys (x ∷ []) d j lt) (all j d (omega (arith, lt, length-append ys (x ∷ [])))) in
    subst (HaveVariables t) (sym n) (All-append (AreVariablesOf t) fs (f ∷ []) (h front) (All-cons (AreVariablesOf t) f [] (subst (KnownVariables t) e last) (λ k d lt. absurd (omega (arith, lt)))))

-- what is known of the arguments, gathered, is their forms
pub gathered_known : (t : TableView) (ids : List TermId) (xs : List KnownForm) → AreKnownForms t (numbers_of ids) xs → gathered (map (known_meant t) xs) ≡ forms_of (map (term_at t) ids)
unfolding forms
gathered_known t [] [] h = refl
gathered_known t [] (x ∷ xs) h = absurd h
gathered_known t (a ∷ ids) [] h = absurd h
gathered_known t (a ∷ ids) (x ∷ xs) h = λ i. h.0.same i >>= λ f. gathered_known t ids xs h.1 i >>= λ fs. Ok (f ∷ fs)

pub all_named : (t : TableView) (ks : List ℕ) (xs : List KnownForm) → AreKnownForms t ks xs → All (KnownVariables t) xs
all_named t [] [] h = λ j d lt. absurd (omega (arith, lt))
all_named t [] (x ∷ xs) h = absurd h
all_named t (k ∷ ks) [] h = absurd h
all_named t (k ∷ ks) (x ∷ xs) h = All-cons (KnownVariables t) x xs h.0.there (all_named t ks xs h.1)
