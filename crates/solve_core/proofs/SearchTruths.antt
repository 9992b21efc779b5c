-- The truths of the literals that hold meet the clauses.
use Rattle.std.proofs.Common.{◌≡◌, Bool, true, false, not, List, Contains, refl, sym, ap, ◌∙◌, subst, if◌then◌else◌}
use Rattle.std.specs.List.{list_any}
use Rattle.std.proofs.lemmas.Bool.{and_parts}
use Rattle.std.proofs.lemmas.List.Elements.{All-contains}
use Rattle.std.proofs.lemmas.List.Folds.{Any-from_list_any, list_any_at}
use Rattle.spec_text.proofs.Members.{to_image, from_image}
use Rattle.spec_sorts.specs.Terms.{same_term}
use Rattle.spec_sorts.specs.Literals.{Clause, literal_of}
use Rattle.spec_sorts.proofs.SameTerms.{terms_decide}
use Rattle.spec_rules.specs.Truths.{Truths, literal_true, term_true_by}
use Rattle.term_core.specs.declared.ids.Lit.{Lit}
use Rattle.term_core.specs.Tables.{TableView, term_at, IsIn, literal_at, AreDifferent}
use Rattle.term_core.proofs.Numbers.{same_numbers}
use Rattle.clause_literals.specs.Literals.{lit_complement, IsConsistent, AreLiteralsIn, LiteralsMean}
use Rattle.clause_literals.specs.Statuses.{IsSatisfied}
use Rattle.search_model.specs.Models.{affirms, truths_of}
use Rattle.search_model.proofs.LiteralTruths.{affirmed}

module _ (t : TableView) (held : List Lit) (different : AreDifferent t.terms) (there : AreLiteralsIn t held) (consistent : IsConsistent held) where
  -- the truths of what holds
  abbrev v : Truths
  v = truths_of t held

  -- what holds negated is not
  pub denied : (l : Lit) → Contains held l → l.positive ≡ false → v (term_at t l.term) ≡ false
  denied l c e = go (v (term_at t l.term)) refl
    where
      go : (b : Bool) → v (term_at t l.term) ≡ b → b ≡ false
      go false f = refl
      go true f =
          let a = Any-from_list_any (λ m. affirms t m (term_at t l.term)) held f in
          let m : Lit = a.1 in
          let parts = and_parts m.positive (same_term (term_at t m.term) (term_at t l.term)) a.4 in
          let same : m.term ≡ l.term = same_numbers t different m.term l.term (All-contains (λ (x : Lit). IsIn t x.term) held m there (a.0, a.2, a.3)) (All-contains (λ (x : Lit). IsIn t x.term) held l there c)
          ((terms_decide (term_at t m.term) (term_at t l.term)).0 parts.1) in
          let sign : m.positive ≡ not l.positive = parts.0 ∙ ap not (sym e) in
          let is : m ≡ lit_complement l = λ i. record { term = same i; positive = sign i } in
          absurd (consistent l c (subst (λ (x : Lit). Contains held x) is (a.0, a.2, a.3)))

  -- so the literal is true
  holds : (l : Lit) → Contains held l → literal_true v (literal_at t l) ≡ true
  holds l c = go l.positive refl
    where
      go : (b : Bool) → l.positive ≡ b → (if b then v (term_at t l.term) else not (v (term_at t l.term))) ≡ true
      go true e = affirmed t held different there consistent l c e
      go false e = ap not (denied l c e)

  -- a clause is met of which a literal holds
  pub clause_met : (c : Clause) (d : List Lit) → LiteralsMean t d c → IsSatisfied held d → list_any (term_true_by v) c ≡ true
  clause_met c d means touched =
      let l = touched.literal in
      let image = subst (λ ls. Contains ls (literal_at t l)) means.same (to_image (literal_at t) d l touched.there) in
      let u = from_image literal_of c (literal_at t l) image in
      list_any_at (term_true_by v) c u.1.0 u.0 u.1.1 (subst (λ x. term_true_by v x ≡ true) (sym u.1.2) (ap (literal_true v) u.2 ∙ holds l touched.holds))

  -- a literal's term has its sign as truth
  pub truth_is : (l : Lit) → Contains held l → v (term_at t l.term) ≡ l.positive
  truth_is l c = go l.positive refl
    where
      go : (b : Bool) → l.positive ≡ b → v (term_at t l.term) ≡ l.positive
      go true e = affirmed t held different there consistent l c e ∙ sym e
      go false e = denied l c e ∙ sym e
