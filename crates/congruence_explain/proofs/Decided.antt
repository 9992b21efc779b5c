-- That a literal's term is equality_claim to its truth value, and that `true` and `false` are not.
use Rattle.std.proofs.Common.{◌≡◌, ℕ, ◌&&◌, ◌⊎◌, inl, inr, Bool, true, false, List, [], ◌∷◌, ◌++◌, map, if◌then◌else◌, refl, sym, ap, ◌∙◌, subst, append_assoc}
use Rattle.std.specs.Prelude.{All, Contains, not}
use Rattle.std.proofs.lemmas.List.Elements.{All-nil, All-cons, Contains-append_right, Contains-push}
use Rattle.spec_text.specs.Trees.{none}
use Rattle.spec_text.proofs.Members.{first, later, cases, only, to_image}
use Rattle.spec_sorts.specs.Terms.{Truth, True, False, Equal, Term, of, negated, sort_of, same_head, head_takes, all_same}
use Rattle.spec_sorts.specs.Literals.{Literal, literal_of, complement}
use Rattle.spec_equality.specs.Reasons.{equal as equal_terms}
use Rattle.spec_proofs.specs.declared.Rule.TheVariants as rules
use Rattle.spec_proofs.specs.Resolution.{Derives as Propagates, given, IsWithin}
use Rattle.spec_derivations.specs.Lemmas.{IsMadeOf, is_equality}
use Rattle.spec_rules.specs.Rules.{IsRight}
use Rattle.spec_rules.specs.Schemes.{Scheme, signed_term, rests_of, clauses_by, is_formula_of, equiv_pos2, equiv_neg1, equiv_neg2}
use Rattle.term_core.specs.declared.ids.TermId.{TermId}
use Rattle.term_core.specs.declared.ids.Lit.{Lit}
use Rattle.term_core.specs.Tables.{TableView, term_at, positive_literal}
use Rattle.congruence_relation.specs.declared.Truths.{Truths}
use Rattle.congruence_relation.specs.Relation.{truth_of}
use Rattle.proof_log.specs.Theories.{IsAtomIn}
use Rattle.congruence_explain.specs.declared.claims.Claim.TheVariants.{Equality, Atom}
use Rattle.congruence_explain.specs.declared.claims.SignedClaim.{SignedClaim}
use Rattle.congruence_explain.specs.Rules.{value_rule, decided_rule}
use Rattle.congruence_explain.specs.Claims.{claim_as_term, claim_as_literal, literal_claimed, IsClaimOf, equality_claim, unequal, denied, value_claim}
use Rattle.congruence_explain.specs.Basis.{AreTruths}
use Rattle.congruence_explain.specs.Steps.{ExplanationSetting, ShowsLiteral, all_denied, decision}
use Rattle.congruence_explain.proofs.Shown.{by_clause}
use Rattle.congruence_explain.proofs.Facts.{truth_made, true_sort, false_sort}

true_atom : literal_of (of True []) ≡ positive_literal (of True [])
unfolding literal_of
true_atom = refl

false_atom : literal_of (of False []) ≡ positive_literal (of False [])
unfolding literal_of
false_atom = refl

module _ (t : TableView) (ts : Truths) (h : AreTruths t ts) where
  -- the truth values are formulas that are no negations
  pub value_atom : (p : Bool) → IsAtomIn t (truth_of ts p)
  value_atom true = ((h.true_term.0, record { term = h.true_term.1; sort = ap sort_of h.true_is ∙ true_sort }), subst (λ (x : Term). literal_of x ≡ positive_literal x) (sym h.true_is) true_atom)
  value_atom false = ((h.false_term.0, record { term = h.false_term.1; sort = ap sort_of h.false_is ∙ false_sort }), subst (λ (x : Term). literal_of x ≡ positive_literal x) (sym h.false_is) false_atom)

  pub value_in : (terms : List Term) (p q : Bool) → All (λ s. IsClaimOf terms t s.claim) (value_claim (truth_of ts p) q ∷ [])
  value_in terms p q = All-cons (λ (s : SignedClaim). IsClaimOf terms t s.claim) (value_claim (truth_of ts p) q) [] (value_atom p, truth_made terms t ts h p) (All-nil (λ (s : SignedClaim). IsClaimOf terms t s.claim))

  -- a truth value is stated
  pub value_right : (p : Bool) → IsRight (value_rule p) [] none (map (claim_as_term t) (value_claim (truth_of ts p) p ∷ []))
  value_right true = subst (λ (x : Term). IsRight rules.True [] none (x ∷ [])) (sym h.true_is) (of True [], first (of True [] ∷ []) [])
  value_right false = subst (λ (x : Term). IsRight rules.False [] none (negated x ∷ [])) (sym h.false_is) (of False [], first (negated (of False []) ∷ []) [])

  -- the equality of formulas gives clauses
  equal_formula : (x y : Term) → sort_of x ≡ Truth → sort_of y ≡ Truth → is_formula_of Equal (equal_terms x y) ≡ true
  equal_formula x y p q = λ i. same_head Equal Equal && head_takes [] Equal (p i ∷ q i ∷ []) && all_same Truth (p i ∷ q i ∷ [])

  given_by : (s : Scheme) (x y : Term) (ls : List Term) → s.head ≡ Equal → sort_of x ≡ Truth → sort_of y ≡ Truth → rests_of s.rest (x ∷ y ∷ []) ≡ ls ∷ [] → Contains (clauses_by s (equal_terms x y)) (signed_term s.positive (equal_terms x y) ∷ ls)
  given_by s x y ls head p q rests =
      let e = equal_terms x y in
      let test : is_formula_of s.head e ≡ true = ap (λ g. is_formula_of g e) head ∙ equal_formula x y p q in
      let all : clauses_by s e ≡ (signed_term s.positive e ∷ ls) ∷ [] = (λ i. if test i then map (λ zs. signed_term s.positive e ∷ zs) (rests_of s.rest (x ∷ y ∷ [])) else []) ∙ ap (map (λ zs. signed_term s.positive e ∷ zs)) rests in
      subst (λ cs. Contains cs (signed_term s.positive e ∷ ls)) (sym all) (first (signed_term s.positive e ∷ ls) [])

  abbrev pub decided_clause : Lit → List SignedClaim
  decided_clause l = equality_claim l.term (truth_of ts l.positive) ∷ denied l ∷ value_claim (truth_of ts l.positive) (not l.positive) ∷ []

  pub decided_in : (terms : List Term) (l : Lit) → IsAtomIn t l.term → IsMadeOf terms (term_at t l.term) → All (λ s. IsClaimOf terms t s.claim) (decided_clause l)
  decided_in terms l a made =
      let P : SignedClaim → Type 0 = λ s. IsClaimOf terms t s.claim in
      let value = value_atom l.positive in
      let value_made = truth_made terms t ts h l.positive in
      All-cons P (equality_claim l.term (truth_of ts l.positive)) (denied l ∷ value_claim (truth_of ts l.positive) (not l.positive) ∷ [])
      (((a.0.0, a.0.1.term), (value.0.0, value.0.1.term), a.0.1.sort ∙ sym value.0.1.sort), is_equality (term_at t l.term) (term_at t (truth_of ts l.positive)) made value_made)
      (All-cons P (denied l) (value_claim (truth_of ts l.positive) (not l.positive) ∷ []) (a, made) (All-cons P (value_claim (truth_of ts l.positive) (not l.positive)) [] (value, value_made) (All-nil P)))

  -- a formula is equality_claim to its truth value
  pub decided_right : (l : Lit) → IsAtomIn t l.term → IsRight (decided_rule l.positive) [] none (map (claim_as_term t) (decided_clause l))
  decided_right l a = go l.positive
    where
      x : Term
      x = term_at t l.term

      go : (p : Bool) → IsRight (decided_rule p) [] none (equal_terms x (term_at t (truth_of ts p)) ∷ signed_term (not p) x ∷ signed_term (not p) (term_at t (truth_of ts p)) ∷ [])
      go true = (equal_terms x (term_at t ts.true_term), given_by equiv_neg1 x (term_at t ts.true_term) (negated x ∷ negated (term_at t ts.true_term) ∷ []) refl a.0.1.sort (value_atom true).0.1.sort refl)
      go false = (equal_terms x (term_at t ts.false_term), given_by equiv_neg2 x (term_at t ts.false_term) (x ∷ term_at t ts.false_term ∷ []) refl a.0.1.sort (value_atom false).0.1.sort refl)

  abbrev pub apart_clause : List SignedClaim
  apart_clause = unequal ts.true_term ts.false_term ∷ value_claim ts.true_term false ∷ value_claim ts.false_term true ∷ []

  pub apart_in : (terms : List Term) → All (λ s. IsClaimOf terms t s.claim) apart_clause
  apart_in terms =
      let P : SignedClaim → Type 0 = λ s. IsClaimOf terms t s.claim in
      let yes = value_atom true in
      let off = value_atom false in
      let yes_made = truth_made terms t ts h true in
      let off_made = truth_made terms t ts h false in
      All-cons P (unequal ts.true_term ts.false_term) (value_claim ts.true_term false ∷ value_claim ts.false_term true ∷ [])
      ((h.true_term, h.false_term, yes.0.1.sort ∙ sym off.0.1.sort), is_equality (term_at t ts.true_term) (term_at t ts.false_term) yes_made off_made)
      (All-cons P (value_claim ts.true_term false) (value_claim ts.false_term true ∷ []) (yes, yes_made) (All-cons P (value_claim ts.false_term true) [] (off, off_made) (All-nil P)))

  -- where `true` is equality_claim to `false`, this is true
  pub apart_right : IsRight rules.EquivPos2 [] none (map (claim_as_term t) apart_clause)
  apart_right = (
    equal_terms (term_at t ts.true_term) (term_at t ts.false_term),
    given_by equiv_pos2 (term_at t ts.true_term) (term_at t ts.false_term) (negated (term_at t ts.true_term) ∷ term_at t ts.false_term ∷ []) refl (value_atom true).0.1.sort (value_atom false).0.1.sort refl,
  )

not_twice : (p : Bool) → not (not p) ≡ p
not_twice true = refl
not_twice false = refl

module _ (s : ExplanationSetting) (needed : List ℕ) (steps steps_after : List (List Literal)) (stated stated_after : List SignedClaim) (l : Lit) (later_stated : stated_after ≡ stated ++ denied l ∷ []) where
  -- the literal is assumed
  pub held_assumed : (assumed : List Literal) → IsWithin (all_denied s.table stated_after) assumed → Contains assumed (complement (claim_as_literal s.table (denied l)))
  held_assumed assumed aw = aw (complement (claim_as_literal s.table (denied l)))
      (to_image complement (map (claim_as_literal s.table) stated_after) (claim_as_literal s.table (denied l)) (to_image (claim_as_literal s.table) stated_after (denied l) (subst (λ zs. Contains zs (denied l)) (sym later_stated) (Contains-push stated (denied l)))))

  -- so itself is shown
  pub shows_itself : l.positive ≡ true → ShowsLiteral s (record { needed = needed; steps = steps_after; stated = stated_after }) (literal_claimed s.table (Atom l.term))
  shows_itself positive = λ more assumed sw aw ih.
      let same : complement (claim_as_literal s.table (denied l)) ≡ literal_claimed s.table (Atom l.term) = (λ i. record { atom = term_at s.table l.term; positive = (not_twice l.positive ∙ positive) i }) in
      subst (Propagates complement more assumed) same (given (complement (claim_as_literal s.table (denied l))) (held_assumed assumed aw))

  -- or that its term is equality_claim to its truth value
  pub shows_decided : steps_after ≡ steps ++ decision s.table s.truths l → ShowsLiteral s (record { needed = needed; steps = steps_after; stated = stated_after }) (literal_claimed s.table (Equality l.term (truth_of s.truths l.positive)))
  shows_decided is = λ more assumed sw aw ih. by_clause more assumed clause goal (sw clause (step_in clause (later states (clause ∷ []) clause (first clause [])))) (first goal (one ∷ two ∷ []))
      (λ m i. go more assumed sw aw m (cases goal (one ∷ two ∷ []) m i))
    where
      value : TermId
      value = truth_of s.truths l.positive

      goal : Literal
      goal = claim_as_literal s.table (equality_claim l.term value)

      one : Literal
      one = claim_as_literal s.table (denied l)

      two : Literal
      two = claim_as_literal s.table (value_claim value (not l.positive))

      states : List Literal
      states = claim_as_literal s.table (value_claim value l.positive) ∷ []

      clause : List Literal
      clause = goal ∷ one ∷ two ∷ []

      step_in : (c : List Literal) → Contains (states ∷ clause ∷ []) c → Contains steps_after c
      step_in c i = subst (λ zs. Contains zs c) (sym is) (Contains-append_right steps (states ∷ clause ∷ []) c i)

      -- the truth value is derived
      value_derived : (more : List (List Literal)) (assumed : List Literal) → IsWithin steps_after more → Propagates complement more assumed (claim_as_literal s.table (value_claim value l.positive))
      value_derived more assumed sw = by_clause more assumed states (claim_as_literal s.table (value_claim value l.positive)) (sw states (step_in states (first states (clause ∷ [])))) (first (claim_as_literal s.table (value_claim value l.positive)) [])
          (λ m i. inl (sym (only (claim_as_literal s.table (value_claim value l.positive)) m i)))

      go : (more : List (List Literal)) (assumed : List Literal) → IsWithin steps_after more → IsWithin (all_denied s.table stated_after) assumed → (m : Literal) → (goal ≡ m) ⊎ Contains (one ∷ two ∷ []) m → (m ≡ goal) ⊎ Propagates complement more assumed (complement m)
      go more assumed sw aw m (inl e) = inl (sym e)
      go more assumed sw aw m (inr i) = inr (rest (cases one (two ∷ []) m i))
        where
          rest : (one ≡ m) ⊎ Contains (two ∷ []) m → Propagates complement more assumed (complement m)
          rest (inl e) = subst (λ z. Propagates complement more assumed (complement z)) e (given (complement one) (held_assumed assumed aw))
          rest (inr j) =
              let same : claim_as_literal s.table (value_claim value l.positive) ≡ complement two = (λ i. record { atom = term_at s.table value; positive = sym (not_twice l.positive) i }) in
              subst (λ z. Propagates complement more assumed (complement z)) (only two m j) (subst (Propagates complement more assumed) same (value_derived more assumed sw))

-- two clauses more, and three
pub two_more : {X : Type 0} (a b c : List X) (x y : X) → b ≡ a ++ x ∷ [] → c ≡ b ++ y ∷ [] → c ≡ a ++ x ∷ y ∷ []
two_more a b c x y p q = q ∙ ap (λ z. z ++ y ∷ []) p ∙ append_assoc a (x ∷ []) (y ∷ [])

pub three_more : {X : Type 0} (a b c d : List X) (x y z : X) → b ≡ a ++ x ∷ [] → c ≡ b ++ y ∷ [] → d ≡ c ++ z ∷ [] → d ≡ a ++ x ∷ y ∷ z ∷ []
three_more a b c d x y z p q r = r ∙ ap (λ w. w ++ z ∷ []) (two_more a b c x y p q) ∙ append_assoc a (x ∷ y ∷ []) (z ∷ [])
