-- What is listed and held, over a table.
use Rattle.std.proofs.Common.{◌≡◌, ◌<◌, [], ◌∷◌, length, map, get_or, sym, subst, ◌∙◌}
use Rattle.std.specs.Prelude.{All, Contains}
use Rattle.std.proofs.lemmas.List.{length-map, get_or-map}
use Rattle.std.proofs.lemmas.Simd.{map-map}
use Rattle.std.proofs.lemmas.List.Elements.{All-append, All-cons, All-nil, All-take, Contains-append_left, Contains-get_or}
use Rattle.spec_sorts.specs.Terms.{True, False, of}
use Rattle.spec_equality.specs.Congruence.{takes_part}
use Rattle.term_core.specs.declared.ids.TermId.{TermId}
use Rattle.term_core.specs.declared.ids.Lit.{Lit}
use Rattle.term_core.specs.Tables.{TableView, shape_term, term_at, IsIn, ShapeFits}
use Rattle.proof_log.specs.Theories.{terms_watched, IsTermIn, IsTheoryOver}
use Rattle.congruence_relation.specs.Relation.{Application, Facts, AreFactsOf, terms_listed}
use Rattle.congruence_closure.specs.State.{with_listed, with_held}
use Rattle.congruence_relation.specs.declared.Truths.{Truths}
use Rattle.congruence_closure.specs.Closure.{ClosureView, ArePrefix, AreInOrder}
use Rattle.congruence_closure.specs.Listed.{no_application, nth}
use Rattle.congruence_closure.proofs.Terms.{at_place}
use Rattle.congruence.specs.Views.{theory_of}

-- the watched terms are the listed ones
pub watched_are_listed : (t : TableView) (v : ClosureView) → terms_watched t (theory_of v) ≡ terms_listed t v.now.facts
watched_are_listed t v = map-map (term_at t) (λ (x : Application). x.term) v.now.facts.listed

-- each listed term is one over the symbols
pub terms_over : (t : TableView) (v : ClosureView) → IsTheoryOver t (theory_of v) → All (λ (x : Application). IsTermIn t x.term) v.now.facts.listed
terms_over t v over k d low =
    subst (IsTermIn t) (get_or-map (λ (x : Application). x.term) v.now.facts.listed k d d.term low) (over.terms k d.term (rw (length-map v.now.facts.listed (λ (x : Application). x.term)) low))

-- what is listed of a table, is one with a term of it more
pub more_listed : (t : TableView) (f : Facts) (x : Application) → AreFactsOf t f → IsIn t x.term → ShapeFits t x.shape → shape_term t x.shape ≡ term_at t x.term → x.takes_part ≡ takes_part (term_at t x.term) → AreFactsOf t (with_listed f x)
more_listed t f x h there fits is part = record {
  terms = All-append (λ y. IsIn t y.term × ShapeFits t y.shape × (shape_term t y.shape ≡ term_at t y.term) × (y.takes_part ≡ takes_part (term_at t y.term))) f.listed (x ∷ []) h.terms (All-cons (λ y. IsIn t y.term × ShapeFits t y.shape × (shape_term t y.shape ≡ term_at t y.term) × (y.takes_part ≡ takes_part (term_at t y.term))) x [] (there, fits, is, part) (All-nil (λ y. IsIn t y.term × ShapeFits t y.shape × (shape_term t y.shape ≡ term_at t y.term) × (y.takes_part ≡ takes_part (term_at t y.term)))));
  true_there = h.true_there;
  true_is = h.true_is;
  false_there = h.false_there;
  false_is = h.false_is;
  held = λ k d low. let c = h.held k d low in (c.0, Contains-append_left f.listed (x ∷ []) c.0 c.1, c.2);
}

-- and with a literal more of a listed term
pub more_held : (t : TableView) (f : Facts) (l : Lit) (x : Application) → AreFactsOf t f → Contains f.listed x → x.term ≡ l.term → AreFactsOf t (with_held f l)
more_held t f l x h there is = record {
  terms = h.terms;
  true_there = h.true_there;
  true_is = h.true_is;
  false_there = h.false_there;
  false_is = h.false_is;
  held = All-append (λ (m : Lit). (y : Application) × Contains f.listed y × (y.term ≡ m.term)) f.held (l ∷ []) h.held (All-cons (λ (m : Lit). (y : Application) × Contains f.listed y × (y.term ≡ m.term)) l [] (x, there, is) (All-nil (λ (m : Lit). (y : Application) × Contains f.listed y × (y.term ≡ m.term))));
}

-- a watched term is a listed one
pub listed_of : (f : Facts) (t : TermId) → Contains (map (λ (x : Application). x.term) f.listed) t → (x : Application) × Contains f.listed x × (x.term ≡ t)
listed_of f t (k, there, is) =
    let low : k < length f.listed = rw (sym (length-map f.listed (λ (x : Application). x.term))) there in
    (get_or f.listed k no_application, Contains-get_or f.listed k no_application low, sym (get_or-map (λ (x : Application). x.term) f.listed k no_application t low) ∙ is)

-- what is listed of a table, is one in a prefix of it
pub front_of : (t : TableView) (f g : Facts) → AreFactsOf t f → ArePrefix g f → AreInOrder g → AreFactsOf t g
front_of t f g h front order = record {
  terms = subst (All (λ x. IsIn t x.term × ShapeFits t x.shape × (shape_term t x.shape ≡ term_at t x.term) × (x.takes_part ≡ takes_part (term_at t x.term)))) (sym front.listed) (All-take (λ x. IsIn t x.term × ShapeFits t x.shape × (shape_term t x.shape ≡ term_at t x.term) × (x.takes_part ≡ takes_part (term_at t x.term))) (length g.listed) f.listed h.terms);
  true_there = subst (λ (ts : Truths). IsIn t ts.true_term) (sym front.truths) h.true_there;
  true_is = subst (λ (ts : Truths). term_at t ts.true_term ≡ of True []) (sym front.truths) h.true_is;
  false_there = subst (λ (ts : Truths). IsIn t ts.false_term) (sym front.truths) h.false_there;
  false_is = subst (λ (ts : Truths). term_at t ts.false_term ≡ of False []) (sym front.truths) h.false_is;
  held = λ k d low. let p = order.held k d low in (nth g.listed p.0, at_place g.listed p.0 p.1.0, p.1.1);
}
