-- Facts of terms as terms come and go.
use Rattle.std.proofs.Common.{◌≡◌, ℕ, ◌<◌, inl, inr, List, [], ◌∷◌, ◌++◌, length, take, get_or, sym, ap, ◌∙◌, subst, arith, length-append}
use Rattle.std.proofs.lemmas.Bool.{cases_lt}
use Rattle.std.proofs.lemmas.Grind.{common_steps}
use Rattle.std.proofs.lemmas.List.{get_or_append_left, get_or_default}
use Rattle.std.proofs.Math.Seq.{get_or-append_seam}
use Rattle.spec_text.specs.Bytes.{Name}
use Rattle.spec_sorts.specs.Terms.{Term, no_term}
use Rattle.term_core.specs.declared.facts.Facts.{Facts}
use Rattle.term_core.specs.Facts.{IsFacts, IsLiteralAt, literal_kept, no_facts, AreFacts, TableFits}
use Rattle.term_core.specs.declared.ids.TermId.{TermId}
use Rattle.term_core.specs.declared.nodes.Node.{Node}
use Rattle.term_core.specs.Symbols.{SymbolsView}
use Rattle.term_core.specs.Tables.{TableView, term_at, IsIn, shapes_of, grown, table_of}
use Rattle.term_core.proofs.TermsExtend.{HasSortIn-more, sort_meant-more}
use Rattle.term_core.proofs.TermsLiteral.{literal_push, literal_take}

module _ (sorts : List Name) where
  pub facts_push : (terms : List Term) (facts : List Facts) (t : Term) (f : Facts) → AreFacts sorts terms facts → IsFacts sorts t f → IsLiteralAt (terms ++ t ∷ []) (length terms) (literal_kept f)
      → AreFacts sorts (terms ++ t ∷ []) (facts ++ f ∷ [])
  facts_push terms facts t f a this literal = record {
    long = omega (arith, a.long, length-append terms (t ∷ []), length-append facts (f ∷ []));
    right = λ k lt. elim (cases_lt k (length terms)) [
      | inl low ↦ subst (λ u. IsFacts sorts u (get_or (facts ++ f ∷ []) k no_facts)) (sym (get_or_append_left terms (t ∷ []) no_term k low))
          (subst (IsFacts sorts (get_or terms k no_term)) (sym (get_or_append_left facts (f ∷ []) no_facts k (omega (arith, a.long, low)))) (a.right k low))
      | inr high ↦ last k (omega (arith, high, lt, length-append terms (t ∷ [])))
    ];
    literals = λ k lt. elim (cases_lt k (length terms)) [
      | inl low ↦ subst (λ (u : Facts). IsLiteralAt (terms ++ t ∷ []) k (literal_kept u)) (sym (get_or_append_left facts (f ∷ []) no_facts k (omega (arith, a.long, low))))
          (literal_push terms t k (literal_kept (get_or facts k no_facts)) low (a.literals k low))
      | inr high ↦ last_literal k (omega (arith, high, lt, length-append terms (t ∷ [])))
    ];
  }
    where
      here : (k : ℕ) → k ≡ length terms → get_or (facts ++ f ∷ []) k no_facts ≡ f
      here k e = ap (λ j. get_or (facts ++ f ∷ []) j no_facts) (e ∙ sym a.long) ∙ get_or-append_seam facts f [] no_facts

      last_literal : (k : ℕ) → k ≡ length terms → IsLiteralAt (terms ++ t ∷ []) k (literal_kept (get_or (facts ++ f ∷ []) k no_facts))
      last_literal k e = subst (λ (u : Facts). IsLiteralAt (terms ++ t ∷ []) k (literal_kept u)) (sym (here k e)) (subst (λ j. IsLiteralAt (terms ++ t ∷ []) j (literal_kept f)) (sym e) literal)

      last : (k : ℕ) → k ≡ length terms → IsFacts sorts (get_or (terms ++ t ∷ []) k no_term) (get_or (facts ++ f ∷ []) k no_facts)
      last k e =
          let u : get_or (terms ++ t ∷ []) k no_term ≡ t = ap (λ j. get_or (terms ++ t ∷ []) j no_term) e ∙ get_or-append_seam terms t [] no_term in
          subst (λ x. IsFacts sorts x (get_or (facts ++ f ∷ []) k no_facts)) (sym u) (subst (IsFacts sorts t) (sym (here k e)) this)

  pub facts_take : (terms : List Term) (facts : List Facts) (n : ℕ) → AreFacts sorts terms facts → AreFacts sorts (take n terms) (take n facts)
  facts_take terms facts n a = record {
    long = grind (arith, common_steps, a.long);
    right = λ k lt.
        let low : k < length terms = grind (arith, common_steps, lt) in
        let u : get_or (take n terms) k no_term ≡ get_or terms k no_term = grind (arith, common_steps, lt) in
        let g : get_or (take n facts) k no_facts ≡ get_or facts k no_facts = grind (arith, common_steps, lt, a.long) in
        subst (λ x. IsFacts sorts x (get_or (take n facts) k no_facts)) (sym u) (subst (IsFacts sorts (get_or terms k no_term)) (sym g) (a.right k low));
    literals = λ k lt.
        let low : k < length terms = grind (arith, common_steps, lt) in
        let g : get_or (take n facts) k no_facts ≡ get_or facts k no_facts = grind (arith, common_steps, lt, a.long) in
        subst (λ (f : Facts). IsLiteralAt (take n terms) k (literal_kept f)) (sym g) (literal_take terms n k (literal_kept (get_or facts k no_facts)) lt (a.literals k low));
  }

  pub facts_more : (more : List Name) (terms : List Term) (facts : List Facts) → AreFacts sorts terms facts → AreFacts (sorts ++ more) terms facts
  facts_more more terms facts a = record {
    long = a.long;
    right = λ k lt.
        let r = a.right k lt in
        let s = (get_or facts k no_facts).sort in
        record { there = HasSortIn-more sorts more s r.there; sort = sort_meant-more sorts more s r.there ∙ r.sort; constant = r.constant; divisor = r.divisor; zero = r.zero };
    literals = a.literals;
  }

  -- the facts at a number are those of the term of the number
  pub facts_at : (terms : List Term) (facts : List Facts) (k : ℕ) (f : Facts) → AreFacts sorts terms facts → k < length terms → f ≡ get_or facts k f → IsFacts sorts (get_or terms k no_term) f
  facts_at terms facts k f a lt e =
      subst (IsFacts sorts (get_or terms k no_term)) (sym (e ∙ get_or_default facts k f no_facts (omega (arith, a.long, lt)))) (a.right k lt)

  -- and its literal
  pub literal_at : (terms : List Term) (facts : List Facts) (k : ℕ) (f : Facts) → AreFacts sorts terms facts → k < length terms → f ≡ get_or facts k f → IsLiteralAt terms k (literal_kept f)
  literal_at terms facts k f a lt e =
      subst (λ (u : Facts). IsLiteralAt terms k (literal_kept u)) (sym (e ∙ get_or_default facts k f no_facts (omega (arith, a.long, lt)))) (a.literals k lt)

module _ (d : SymbolsView) (nodes : List Node) (facts : List Facts) (v : TableView) (kept : TableFits d nodes facts) (is : table_of d nodes ≡ v) where
  -- the same of a table
  pub kept_at : (id : TermId) (f : Facts) → IsIn v id → f ≡ get_or facts id.0 f → IsFacts v.sorts (term_at v id) f
  kept_at id f within e =
      subst (λ (t : TableView). IsFacts t.sorts (term_at t id) f) is
      (facts_at d.sorts (grown d [] (shapes_of nodes)) facts id.0 f kept.right (subst (λ (t : TableView). IsIn t id) (sym is) within) e)

  pub kept_within : (id : TermId) → IsIn v id → id.0 < length facts
  kept_within id within = omega (arith, kept.right.long, subst (λ (t : TableView). IsIn t id) (sym is) within)

  pub kept_literal : (id : TermId) (f : Facts) → IsIn v id → f ≡ get_or facts id.0 f → IsLiteralAt v.terms id.0 (literal_kept f)
  kept_literal id f within e =
      subst (λ (t : TableView). IsLiteralAt t.terms id.0 (literal_kept f)) is
      (literal_at d.sorts (grown d [] (shapes_of nodes)) facts id.0 f kept.right (subst (λ (t : TableView). IsIn t id) (sym is) within) e)
