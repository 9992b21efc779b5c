-- Facts of a table, over a table that extends it.
use Rattle.std.proofs.Common.{◌≡◌, List, [], ◌∷◌, map, Contains, refl, sym, ◌∙◌, ap, subst}
use Rattle.std.specs.Prelude.{All}
use Rattle.std.proofs.lemmas.List.Elements.{All-contains, All-head, All-tail, All-weaker}
use Rattle.spec_equality.specs.Congruence.{takes_part}
use Rattle.term_core.specs.declared.ids.Lit.{Lit}
use Rattle.term_core.specs.Tables.{TableView, term_at, IsIn, ShapeFits, shape_term, literal_at, Extends}
use Rattle.term_core.proofs.TermsExtend.{IsIn-kept, term_at-kept, literal_at-kept, shape_term-kept, Fits-kept}
use Rattle.congruence_relation.specs.Relation.{Application, Facts, AreFactsOf, terms_listed}

-- what a table says of a listed term
abbrev IsListedIn : TableView → Application → Type 0
IsListedIn t x = IsIn t x.term × ShapeFits t x.shape × (shape_term t x.shape ≡ term_at t x.term) × (x.takes_part ≡ takes_part (term_at t x.term))

module _ (t u : TableView) (grows : Extends t u) where
  listed_kept : (x : Application) → IsListedIn t x → IsListedIn u x
  listed_kept x (there, fits, is, part) = (
    IsIn-kept t u grows x.term there,
    Fits-kept t u grows x.shape fits,
    shape_term-kept t u grows x.shape fits ∙ is ∙ sym (term_at-kept t u grows x.term there),
    part ∙ ap takes_part (sym (term_at-kept t u grows x.term there)),
  )

  terms_kept : (xs : List Application) → All (IsListedIn t) xs → map (λ (x : Application). term_at u x.term) xs ≡ map (λ (x : Application). term_at t x.term) xs
  terms_kept [] there = refl
  terms_kept (x ∷ xs) there = λ i. term_at-kept t u grows x.term (All-head (IsListedIn t) x xs there).0 i ∷ terms_kept xs (All-tail (IsListedIn t) x xs there) i

  literals_kept : (ls : List Lit) → All (λ (l : Lit). IsIn t l.term) ls → map (literal_at u) ls ≡ map (literal_at t) ls
  literals_kept [] there = refl
  literals_kept (l ∷ ls) there =
      λ i. literal_at-kept t u grows l (All-head (λ (l : Lit). IsIn t l.term) l ls there) i ∷ literals_kept ls (All-tail (λ (l : Lit). IsIn t l.term) l ls there) i

  module _ (f : Facts) (whole : AreFactsOf t f) where
    pub of_more : AreFactsOf u f
    of_more = record {
      terms = All-weaker (IsListedIn t) (IsListedIn u) listed_kept f.listed whole.terms;
      true_there = IsIn-kept t u grows f.truths.true_term whole.true_there;
      true_is = term_at-kept t u grows f.truths.true_term whole.true_there ∙ whole.true_is;
      false_there = IsIn-kept t u grows f.truths.false_term whole.false_there;
      false_is = term_at-kept t u grows f.truths.false_term whole.false_there ∙ whole.false_is;
      held = whole.held;
    }

    pub listed_same : terms_listed u f ≡ terms_listed t f
    listed_same = terms_kept f.listed whole.terms

    -- the term of a held literal is one of the table's
    pub atom_in : (l : Lit) → (x : Application) × Contains f.listed x × (x.term ≡ l.term) → IsIn t l.term
    atom_in l (x, there, is) = subst (IsIn t) is (All-contains (IsListedIn t) f.listed x whole.terms there).0

    pub held_same : map (literal_at u) f.held ≡ map (literal_at t) f.held
    held_same = literals_kept f.held (All-weaker (λ (l : Lit). (x : Application) × Contains f.listed x × (x.term ≡ l.term)) (λ (l : Lit). IsIn t l.term) atom_in f.held whole.held)
