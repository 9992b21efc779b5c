-- The step that was logged: what it says, that it is a lemma, and that its clause is false where the literals hold.
use Rattle.std.proofs.Common.{◌≡◌, ◌<◌, inl, Bool, true, false, List, [], ◌∷◌, length, map, get_or, refl, sym, ap, ◌∙◌, subst, arith, length-append}
use Rattle.std.specs.Prelude.{All, Contains}
use Rattle.std.proofs.Math.Seq.{get_or-append_seam}
use Rattle.std.proofs.lemmas.List.Elements.{All-nil, All-cons, All-map, All-head, All-tail, All-contains}
use Rattle.spec_text.proofs.Members.{from_image}
use Rattle.spec_sorts.specs.Terms.{Term}
use Rattle.spec_sorts.specs.Literals.{Literal, literal_of, literals_of, complement}
use Rattle.spec_proofs.specs.declared.Rule.TheVariants.{LaGeneric}
use Rattle.spec_derivations.specs.Derivations.{by_rule}
use Rattle.spec_derivations.specs.Lemmas.{IsMadeOf, given, is_negation, IsLemma}
use Rattle.spec_simplex.specs.Weights.{denial}
use Rattle.rule_bool.specs.Arguments.{texts_of}
use Rattle.term_core.specs.declared.ids.Lit.{Lit}
use Rattle.term_core.specs.Tables.{TableView, term_at, clause_at, literal_at, positive_literal, AreDifferent}
use Rattle.term_core.proofs.TermsExtend.{IsIn-kept, literal_at-kept}
use Rattle.term_core.proofs.TermsLiteral.{literal_of-negated}
use Rattle.clause_literals.specs.Literals.{lit_complement}
use Rattle.clause_literals.proofs.LiteralLists.{negation_twice}
use Rattle.clause_literals.proofs.TableLiterals.{literals_apart}
use Rattle.proof_log.specs.declared.premises.StepId.{StepId}
use Rattle.proof_log.specs.Logs.{Logged, named, logged_at, no_logged, inference_of, derivation_in}
use Rattle.proof_log.specs.Clashes.{HasLit, IsClash, literals_in}
use Rattle.proof_log.specs.Theories.{DerivesLemmas, IsAtomIn, derived}
use Rattle.term_clauses.specs.Stating.{Widens}
use Rattle.simplex_explain.specs.declared.weighted.Weighted.{Weighted}
use Rattle.simplex_explain.specs.Reasons.{AreAtomReasons, AreHeld, weights_of, weights_meant, literals_meant, denials_meant}
use Rattle.simplex_explain.specs.Steps.{refuting, refutation, LogsRefutation}

-- the denial of an atom's literal is made of terms among which the atom is
denial_made : (terms : List Term) (l : Literal) → Contains terms l.atom → IsMadeOf terms (denial l)
denial_made terms l there = go l.positive
  where
    go : (p : Bool) → IsMadeOf terms (denial (record { atom = l.atom; positive = p }))
    go true = is_negation l.atom (given l.atom there)
    go false = given l.atom there

-- and as a literal it is the complement
denial_literal : (l : Literal) → literal_of l.atom ≡ positive_literal l.atom → literal_of (denial l) ≡ complement l
denial_literal l atom = go l.positive
  where
    go : (p : Bool) → literal_of (denial (record { atom = l.atom; positive = p })) ≡ complement (record { atom = l.atom; positive = p })
    go true = literal_of-negated l.atom ∙ ap complement atom
    go false = atom

module _ (terms : List Term) (t : TableView) where
  pub denials_made : (rs : List Weighted) → AreAtomReasons terms t rs → All (IsMadeOf terms) (denials_meant t rs)
  denials_made rs h = All-map (IsMadeOf terms) denial (literals_meant t rs)
      (All-map (λ (l : Literal). IsMadeOf terms (denial l)) (λ (r : Weighted). literal_at t r.literal) rs
      (λ k d lt. denial_made terms (literal_at t (get_or rs k d).literal) (h k d lt).1))

  pub denials_literals : (rs : List Weighted) → AreAtomReasons terms t rs → literals_of (denials_meant t rs) ≡ map (λ (r : Weighted). complement (literal_at t r.literal)) rs
  denials_literals [] h = refl
  denials_literals (r ∷ rs) h =
      let P : Weighted → Type 0 = λ r. IsAtomIn t r.literal.term × Contains terms (term_at t r.literal.term) in
      λ i. denial_literal (literal_at t r.literal) (All-head P r rs h).0.1 i ∷ denials_literals rs (All-tail P r rs h) i

module _ (t u : TableView) (old new : List Logged) (rs : List Weighted) (id : StepId) (s : LogsRefutation t u old new rs id) where
  here : id.0 < length new
  here = omega (arith, s.added.number, ap length s.added.last, length-append old (refuting (weights_of rs) s.clause ∷ []))

  at_end : logged_at new id ≡ refuting (weights_of rs) s.clause
  at_end = (λ i. get_or (s.added.last i) (s.added.number i) no_logged) ∙ get_or-append_seam old (refuting (weights_of rs) s.clause) [] no_logged

  -- what the step says
  pub stated_step : inference_of u (logged_at new id) ≡ refutation t rs
  stated_step = ap (inference_of u) at_end ∙ ap (λ (c : List Term). by_rule LaGeneric [] (texts_of (weights_meant rs)) c) s.says

  module _ (terms : List Term) (wider : Widens t u) (reasons : AreAtomReasons terms t rs) where
    -- it is a lemma
    pub stated_derives : DerivesLemmas terms (derived t old) (derived u new)
    stated_derives = record {
      table = wider.terms;
      declared = wider.declared;
      more = refuting (weights_of rs) s.clause ∷ [];
      log = s.added.last;
      right = s.added.right;
      lemmas = All-cons (λ l. IsLemma terms (derivation_in u new) (length old) (inference_of u l)) (refuting (weights_of rs) s.clause) []
          (λ k d lt. absurd (omega (arith, lt)), subst (λ (c : List Term). All (IsMadeOf terms) c) (sym s.says) (denials_made terms t rs reasons), inl refl)
          (All-nil (λ l. IsLemma terms (derivation_in u new) (length old) (inference_of u l)));
    }

    literals_are : literals_in u new id ≡ map (λ (r : Weighted). complement (literal_at t r.literal)) rs
    literals_are = ap (λ (l : Logged). literals_of (clause_at u (named l))) at_end ∙ ap literals_of s.says ∙ denials_literals terms t rs reasons

    -- its clause is false where the literals hold
    pub stated_clash : AreDifferent u.terms → (held : List Lit) → AreHeld held rs → IsClash u new held id
    stated_clash differ held holds = record { in_log = here; fails = λ m has. fails m has }
      where
        fails : (m : Lit) → HasLit u new id m → Contains held (lit_complement m)
        fails m has =
            let (r, r_in, r_is) = from_image (λ (r : Weighted). complement (literal_at t r.literal)) rs (literal_at u m) (subst (λ (ls : List Literal). Contains ls (literal_at u m)) literals_are has.there) in
            let l = r.literal in
            let there = (All-contains (λ (r : Weighted). IsAtomIn t r.literal.term × Contains terms (term_at t r.literal.term)) rs r reasons r_in).0.0.0 in
            let same : lit_complement l ≡ m = literals_apart u differ (lit_complement l) m (IsIn-kept t u wider.terms l.term there) has.in_table (literal_at-kept t u wider.terms (lit_complement l) there ∙ r_is) in
            subst (Contains held) (sym (negation_twice l) ∙ ap lit_complement same) (All-contains (λ (r : Weighted). Contains held r.literal) rs r holds r_in)
