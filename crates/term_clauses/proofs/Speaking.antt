-- Numbers of formulas, to which equalities come one after the other.
use Rattle.std.proofs.Common.{◌≡◌, Bool, true, false, List, [], ◌∷◌, ◌++◌, get_or, Contains, refl, sym, ap, ◌∙◌, subst, append_assoc}
use Rattle.std.specs.Prelude.{flat_map}
use Rattle.std.proofs.lemmas.List.{append-nil}
use Rattle.std.proofs.lemmas.List.Elements.{All-push}
use Rattle.spec_sorts.specs.Terms.{Symbol, True, False, Term, sort_of}
use Rattle.spec_sorts.specs.WellSorted.{IsFormulaOver}
use Rattle.spec_sorts.proofs.WellSorted.{before}
use Rattle.spec_sorts.specs.Subterms.{subterms_of}
use Rattle.spec_sorts.specs.Subsets.{AreAmong}
use Rattle.spec_derivations.specs.Base.{truth_facts, branch_equalities, spoken_terms}
use Rattle.spec_derivations.specs.Examples.{speaking}
use Rattle.term_core.specs.declared.ids.TermId.{TermId}
use Rattle.term_core.specs.Tables.{TableView, term_at, AreIn, clause_at, Extends}
use Rattle.term_core.proofs.TermsExtend.{clause_at-kept}
use Rattle.proof_log.specs.Logs.{IsFormulaIn, AreFormulasIn}
use Rattle.term_clauses.specs.SpokenTerms.{problem_in, AreSpoken, HasMore}
use Rattle.term_clauses.specs.Stating.{Widens, NamesTerm}
use Rattle.term_clauses.specs.Choices.{AreComparable, truth_term}
use Rattle.term_clauses.proofs.Arguments.{literal_more}
use Rattle.term_clauses.proofs.Parts.{formula_kept}
use Rattle.term_clauses.proofs.Within.{within_append, within_swapped, within_flat}

-- formulas are the table's
pub formulas_there : (t : TableView) (ids : List TermId) → AreFormulasIn t ids → AreIn t ids
formulas_there t ids each k d lt = (each k d lt).0

-- formulas are some in a wider table
pub formulas_kept : (t u : TableView) → Widens t u → (ids : List TermId) → AreFormulasIn t ids → AreFormulasIn u ids
formulas_kept t u wider ids each k d lt = formula_kept t u wider (get_or ids k d) (each k d lt)

-- nothing came
pub more_none : (t : TableView) (ids : List TermId) → AreFormulasIn t ids → HasMore t t ids ids []
more_none t ids each = record { formulas = each; same = sym (append-nil (clause_at t ids)) }

-- a formula came
pub more_pushed : (t u : TableView) → Widens t u → (ids all : List TermId) (n : TermId) (w : Term) → AreFormulasIn t ids → all ≡ ids ++ n ∷ [] → IsFormulaIn u n → term_at u n ≡ w → HasMore t u ids all (w ∷ [])
more_pushed t u wider ids all n w each pushed formula is = record {
  formulas = subst (AreFormulasIn u) (sym pushed) (All-push (IsFormulaIn u) ids n (formulas_kept t u wider ids each) formula);
  same = literal_more t u wider ids all n pushed (formulas_there t ids each) formula.0 (clause_at t ids) w refl is;
}

-- some came, then others
pub more_trans : (t u v : TableView) (a b c : List TermId) (ws xs : List Term) → HasMore t u a b ws → HasMore u v b c xs → HasMore t v a c (ws ++ xs)
more_trans t u v a b c ws xs f g = record {
  formulas = g.formulas;
  same = g.same ∙ ap (λ (us : List Term). us ++ xs) f.same ∙ append_assoc (clause_at t a) ws xs;
}

-- they came to a table that had got wider
pub more_made : (t u v : TableView) → Widens t u → (ids all : List TermId) (ws : List Term) → AreFormulasIn t ids → HasMore u v ids all ws → HasMore t v ids all ws
more_made t u v wider ids all ws each g = record {
  formulas = g.formulas;
  same = g.same ∙ ap (λ (us : List Term). us ++ ws) (clause_at-kept t u wider.terms ids (formulas_there t ids each));
}

-- the same of terms that are the same
pub more_same : (t u : TableView) (ids all : List TermId) (ws xs : List Term) → ws ≡ xs → HasMore t u ids all ws → HasMore t u ids all xs
more_same t u ids all ws xs e g = subst (HasMore t u ids all) e g

-- a truth value is a formula
truth_formula : (symbols : List Symbol) (b : Bool) → IsFormulaOver symbols (truth_term b)
unfolding sort_of
truth_formula symbols true = record { term = before symbols [] True [] refl tt tt; sort = refl }
truth_formula symbols false = record { term = before symbols [] False [] refl tt tt; sort = refl }

pub truth_in : (t : TableView) (b : Bool) (id : TermId) → NamesTerm t (truth_term b) id → IsFormulaIn t id
truth_in t b id h = (h.0, subst (IsFormulaOver t.symbols) (sym h.1) (truth_formula t.symbols b))

-- formulas have one sort
pub formulas_comparable : (t : TableView) (a b : TermId) → IsFormulaIn t a → IsFormulaIn t b → AreComparable t a b
formulas_comparable t a b f g = record { one = (f.0, f.1.term); other = (g.0, g.1.term); sort = f.1.sort ∙ sym g.1.sort }

-- the interface equalities those that are asserted, then these, then the equalities of choices among their subterms, then the truth facts, are those of which a search speaks
module _ (ts bs us : List Term) (each : AreAmong (subterms_of (bs ++ ts)) us) (only : AreAmong us (subterms_of (bs ++ ts))) where
  abbrev told : List Term
  told = bs ++ ts

  -- in that of the definition
  plain : spoken_terms (speaking ts bs) ≡ told ++ (truth_facts ++ flat_map branch_equalities (subterms_of told))
  plain = ap (λ (vs : List Term). (bs ++ vs) ++ (truth_facts ++ flat_map branch_equalities (subterms_of (bs ++ vs)))) (append-nil ts)

  spoken_each : AreAmong (spoken_terms (speaking ts bs)) (told ++ (flat_map branch_equalities us ++ truth_facts))
  spoken_each w w_in =
      let all = flat_map branch_equalities (subterms_of told) in
      let some = flat_map branch_equalities us in
      within_append told (truth_facts ++ all) told (some ++ truth_facts) (λ x x_in. x_in)
      (λ x x_in. within_swapped truth_facts some x (within_append truth_facts all truth_facts some (λ y y_in. y_in) (within_flat branch_equalities (subterms_of told) us each) x x_in))
      w (subst (λ (vs : List Term). Contains vs w) plain w_in)

  spoken_only : AreAmong (told ++ (flat_map branch_equalities us ++ truth_facts)) (spoken_terms (speaking ts bs))
  spoken_only w w_in =
      let all = flat_map branch_equalities (subterms_of told) in
      let some = flat_map branch_equalities us in
      subst (λ (vs : List Term). Contains vs w) (sym plain)
      (within_append told (some ++ truth_facts) told (truth_facts ++ all) (λ x x_in. x_in)
      (λ x x_in. within_append truth_facts some truth_facts all (λ y y_in. y_in) (within_flat branch_equalities us (subterms_of told) only) x (within_swapped some truth_facts x x_in))
      w w_in)

-- numbers of them
module _ (t : TableView) (ts bs us : List Term) (ids : List TermId) where
  pub are_spoken : AreAmong (subterms_of (bs ++ ts)) us → AreAmong us (subterms_of (bs ++ ts)) → AreFormulasIn t ids → clause_at t ids ≡ (bs ++ ts) ++ (flat_map branch_equalities us ++ truth_facts) → AreSpoken t (speaking ts bs) ids
  are_spoken each only formulas same = record {
    formulas = formulas;
    each = λ w w_in. subst (λ (vs : List Term). Contains vs w) (sym same) (spoken_each ts bs us each only w w_in);
    only = λ w w_in. spoken_only ts bs us each only w (subst (λ (vs : List Term). Contains vs w) same w_in);
  }

-- the terms that a search is asked are the same in a table with more
pub problem_kept : (t u : TableView) → Extends t u → (roots interface : List TermId) → AreFormulasIn t roots → AreFormulasIn t interface → problem_in u roots interface ≡ problem_in t roots interface
problem_kept t u g roots interface roots_in interface_in =
    let own : clause_at u roots ≡ clause_at t roots = clause_at-kept t u g roots (λ k d lt. (roots_in k d lt).0) in
    let others : clause_at u interface ≡ clause_at t interface = clause_at-kept t u g interface (λ k d lt. (interface_in k d lt).0) in
    λ i. speaking (own i) (others i)
